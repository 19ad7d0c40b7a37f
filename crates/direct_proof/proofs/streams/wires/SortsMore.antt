-- More of what a packet on the wire to the host is: capabilities, the fence, and what is started.
use Rattle.std.proofs.Common.{◌≡◌, ℕ, ◌+◌, ◌==◌, Bool, true, false, List, [], ◌∷◌, Option, Some, None, refl, ap, arith}
use Rattle.std.specs.List.{AllByRecursion as Each}
use Rattle.redir_wire.specs.declared.packet.RedirControl.TheVariants as plain
use Rattle.redir_wire.specs.declared.state.RedirState.{RedirState}
use Rattle.redir_data.specs.declared.packet.RedirPacket.{RedirPacket}
use Rattle.redir_data.specs.declared.packet.RedirPacket.TheVariants.{Plain, Carrying}
use Rattle.redir_data.specs.Streams.{advanced}
use Rattle.redir_data.specs.declared.stream_kind.StreamKind.{StreamKind}
use Rattle.gate_history.specs.state.Ids.{times}
use Rattle.gate_history.proofs.lemmas.state.StreamIds.{times-append}
use Rattle.direct_proof.specs.Tagged.{Tagged, Stated}
use Rattle.direct_proof.specs.Stale.{asks, ends}
use Rattle.direct_proof.specs.Running.{stream_endpoint, started_kind}
use Rattle.direct_proof.specs.StreamIds.{stream_id, status_id, stream_ids_on, statuses_on}
use Rattle.direct_proof.proofs.streams.fills.FillLists.{weight}

-- a start or stop says nothing of capabilities
pub switch-stays : (g : RedirState) (q : ℕ × RedirPacket) (x : ℕ) → stream_endpoint q.1 ≡ Some x → advanced g q.1 ≡ g
switch-stays g (id, Plain (plain.Hello y)) x h = absurd (cc)
switch-stays g (id, Plain _) x h = refl
switch-stays g (id, Carrying d) x h = refl

-- ---- where a fence's stop isn't on the wire

no-weight : (b : Bool) → weight b + 0 ≡ 0 → b ≡ false
no-weight true h = absurd (omega (arith, h))
no-weight false h = refl

pub asks-over : (f : ℕ) (q : ℕ × RedirPacket) → times f (stream_id q) ≡ 0 → asks (Some f) q ≡ asks None q
asks-over f (id, Plain (plain.StopIso e)) h = no-weight (f == id) h
asks-over f (id, Plain (plain.StopInterrupt e)) h = no-weight (f == id) h
asks-over f (id, Plain _) h = refl
asks-over f (id, Carrying d) h = refl

pub ends-over : (f : ℕ) (b : Tagged) → times f (status_id b) ≡ 0 → ends (Some f) b ≡ ends None b
ends-over f (Stated k id ep status) h = no-weight (f == id) h
ends-over f _ h = refl

pub all-asks-over : (f : ℕ) (ps : List (ℕ × RedirPacket)) → times f (stream_ids_on ps) ≡ 0 → Each (λ p. asks (Some f) p ≡ asks None p) ps
all-asks-over f [] h = tt
all-asks-over f (p ∷ ps) h = let a = times-append f (stream_id p) (stream_ids_on ps) in (asks-over f p (omega (arith, a, h)), all-asks-over f ps (omega (arith, a, h)))

pub all-ends-over : (f : ℕ) (bs : List Tagged) → times f (statuses_on bs) ≡ 0 → Each (λ b. ends (Some f) b ≡ ends None b) bs
all-ends-over f [] h = tt
all-ends-over f (b ∷ bs) h = let a = times-append f (status_id b) (statuses_on bs) in (ends-over f b (omega (arith, a, h)), all-ends-over f bs (omega (arith, a, h)))

abbrev endpoint_in : Option (StreamKind × ℕ) → Option ℕ
endpoint_in None = None
endpoint_in (Some s) = Some s.1

-- what is started is a stream of the packet's endpoint
pub started-stream : (p : RedirPacket) (s : StreamKind × ℕ) → started_kind p ≡ Some s → stream_endpoint p ≡ Some s.1
started-stream (Plain (plain.StartIso e n k)) z h = ap (λ (o : Option (StreamKind × ℕ)). endpoint_in o) h
started-stream (Plain (plain.StartInterrupt e)) z h = ap (λ (o : Option (StreamKind × ℕ)). endpoint_in o) h
started-stream _ z h = absurd (cc)
