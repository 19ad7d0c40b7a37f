-- Both sides' connections.
use Rattle.std.proofs.Common.{◌≡◌, ℕ, List, Result, sym, subst}
use Rattle.std.specs.declared.io.Error.{Error}
use Rattle.usb_base.specs.declared.side.Side.{Side}
use Rattle.usb_base.specs.declared.side.Side.TheVariants.{Client, Host}
use Rattle.gate_sockets.specs.State.{State, States, state_of}
use Rattle.gate_sockets.specs.Writing.{Waited}
use Rattle.gate_sockets.proofs.Calling.{waited-join}

-- what is read on at both sides is read on at each
pub read-both : {S D : Type 0} (r w : S → List ℕ → Result ℕ Error → S → Type 0) (a b : States S D) → Waited r w 0 a.client b.client → Waited r w 0 a.host b.host → (side : Side) → Waited r w 0 (state_of a side) (state_of b side)
read-both r w a b client host Client = client
read-both r w a b client host Host = host

-- where the side stood between, it is read on further
pub read-further : {S : Type 0} {r w : S → List ℕ → Result ℕ Error → S → Type 0} {a b c d : State S} → Waited r w 0 a b → c ≡ b → Waited r w 0 c d → Waited r w 0 a d
read-further {r = r} {w = w} {d = d} x same z = waited-join {n = 0} {m = 0} x (subst (λ s. Waited r w 0 s d) same z)

-- and where it stands behind
pub read-same : {S : Type 0} {r w : S → List ℕ → Result ℕ Error → S → Type 0} {a b c : State S} → Waited r w 0 a b → c ≡ b → Waited r w 0 a c
read-same {r = r} {w = w} {a = a} x same = subst (λ s. Waited r w 0 a s) (sym same) x
