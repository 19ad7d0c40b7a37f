-- What a call of the doors does: what it asked of the system, and what that answered.
use Rattle.std.specs.Prelude.{◌≡◌, ℕ, Bool, List, Result, is_ok, IsOkAnd}
use Rattle.std.specs.declared.io.Error.{Error}
use Rattle.gate_outside.specs.Calls.{Call, Dial, Listen, Accept, Poll, Write, Close}
use Rattle.gate_outside.specs.Link.{other}
use Rattle.gate_sockets.specs.Door.{Dials, Makes, IsAccepted}
use Rattle.gate_sockets.specs.Polling.{PollSteps}
use Rattle.gate_sockets.specs.State.{States, state_of, closed}
use Rattle.gate_sockets.specs.Writing.{WriteSteps, ReadOn}

-- what dialling, making a door, a door and setting up give, and what a connection's reads and writes do
pub record System (S D : Type 0) : Type 1 where
  pub dials : List ℕ → Result S Error → Type 0
  pub listens : List ℕ → Result D Error → Type 0
  pub accepts : D → Result S Error → D → Type 0
  pub sets_up : S → Bool → S → Type 0
  pub reads : S → List ℕ → Result ℕ Error → S → Type 0
  pub writes : S → List ℕ → Result ℕ Error → S → Type 0

abbrev pub CallGives : {S D : Type 0} → System S D → States S D → Call → States S D → Type 0
CallGives sys old (Dial addr answer) new = Dials sys.dials sys.sets_up addr (is_ok answer) old new
CallGives sys old (Listen addr answer) new = Makes sys.listens addr (is_ok answer) old new
CallGives sys old (Accept answer) new = IsOkAnd answer (λ came. IsAccepted sys.accepts sys.sets_up came old new)
CallGives sys old (Poll side polled buf) new =
    PollSteps sys.reads polled buf (state_of old side) (state_of new side) × (state_of new (other side) ≡ state_of old (other side)) × (new.door ≡ old.door)
CallGives sys old (Write side piece answer) new =
    WriteSteps sys.reads sys.writes answer piece (state_of old side) (state_of new side) × ReadOn sys.reads sys.writes (state_of old (other side)) (state_of new (other side)) × (new.door ≡ old.door)
CallGives sys old (Close side) new = (state_of new side ≡ closed (state_of old side)) × (state_of new (other side) ≡ state_of old (other side)) × (new.door ≡ old.door)
