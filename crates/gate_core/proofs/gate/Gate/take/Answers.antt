use Rattle.std.proofs.Common.{is_some, ap, subst, sym}
use Rattle.gate_history.specs.step.Events.{event_of}
use Rattle.gate_core.specs.inner.step.Steps.{kept_of, told, left_by, TakesOrStops}
use Rattle.gate_core.specs.step.Incoming.{TakesOrFails}
use Rattle.gate_core.specs.step.Stands.{HasPast}
use Rattle.gate_core.proofs.lemmas.step.Received.{lists, event-tells, event-ready, ok-tells, err-tells}
use Rattle.gate_core.proofs.gate.Gate.take.Goals.{After-exchange, Joined-event, in-ClientPiece, in-ClientEnd, in-HostPiece, in-HostEnd}
use Rattle.gate_core.proofs.gate.Gate.take.Goals as goal

-- it works: the memory that streams keep is not seen
works : (c : After-exchange) → HasPast (kept_of c.keep_memory.new.self)
works c = subst (λ inner. HasPast (kept_of inner)) (sym c.keep_memory.ensures.stands) (c.self.invariant (ap is_some c.in_default.is))

pub take-taken-requires : goal.take-taken-requires
take-taken-requires c = works (goal.at.take-taken-requires c).After-exchange

pub take-taken-requires-in-HostPiece : goal.take-taken-requires-in-HostPiece
take-taken-requires-in-HostPiece c = works (goal.at.take-taken-requires-in-HostPiece c).After-exchange

pub change_client-taken-requires : goal.change_client-taken-requires
change_client-taken-requires c = works (goal.at.change_client-taken-requires c).After-exchange

pub end_host-taken-requires : goal.end_host-taken-requires
end_host-taken-requires c = works (goal.at.end_host-taken-requires c).After-exchange

-- the event was taken, or memory ran out, whichever it is
took : (c : Joined-event) → TakesOrStops c.match-event.taken c.self.inside.inner c.match-event.self-inside.inner (event_of c.args.event) (lists c.args.to_client.now c.args.to_host.now) c.match-event.out
took c =
    let lent : TakesOrStops c.match-event.taken c.keep_memory.new.self c.match-event.self-inside.inner (event_of c.args.event) c.exchange.new.self c.match-event.out = elim c.match-event.branch [
      | in-ClientPiece w ↦ rw (w.taken-is, w.out-is, w.self-inside-is, w.in-ClientPiece.is) w.take-taken.ensures
      | in-ClientEnd w ↦ rw (w.taken-is, w.out-is, w.self-inside-is, w.in-ClientEnd.is) w.change_client-taken.ensures
      | in-HostPiece w ↦ rw (w.taken-is, w.out-is, w.self-inside-is, w.in-HostPiece.is) w.take-taken-in-HostPiece.ensures
      | in-HostEnd w ↦ rw (w.taken-is, w.out-is, w.self-inside-is, w.in-HostEnd.is) w.end_host-taken.ensures
    ] in
    let k = c.keep_memory.ensures in
    rw (k.stands, c.exchange.ensures.outputs, k.client, k.host, c.new-out.ensures) at lent

-- what is told of it
tells : (c : Joined-event) → TakesOrFails (told c.match-event.taken c.match-event.out.notes) (kept_of c.self.inside.inner) (kept_of (left_by c.match-event.taken c.match-event.self-inside.inner))
    (event_of c.args.event) c.args.to_client.now c.match-event.out.to_client c.args.to_host.now c.match-event.out.to_host
tells c = event-tells c.match-event.taken c.self.inside.inner c.match-event.self-inside.inner (event_of c.args.event) c.args.to_client.now c.args.to_host.now c.match-event.out (took c)

pub invariant_of-self : goal.invariant_of-self
invariant_of-self c =
    rw c.tell.ensures.kept (event-ready c.match-event.taken c.self.inside.inner c.match-event.self-inside.inner (event_of c.args.event) _ c.match-event.out (c.self.invariant (ap is_some c.in_default.is)) (took (goal.at.invariant_of-self c).Joined-event))

pub returns-clause-takes : goal.returns-clause-takes
returns-clause-takes c =
    let x = c.exchange-2.ensures in
    rw (c.tell.ensures.told, c.tell.ensures.kept, x.client, x.host, x.outputs, sym c.self.view_is) (ok-tells _ _ _ _ _ _ _ _ (tells (goal.at.returns-clause-takes c).Joined-event))

pub returns-clause-stops : goal.returns-clause-stops
returns-clause-stops c =
    let x = c.exchange-2.ensures in
    rw (c.tell.ensures.told, c.tell.ensures.kept, x.client, x.host, x.outputs, sym c.self.view_is) (err-tells _ _ _ _ _ _ _ _ (tells (goal.at.returns-clause-stops c).Joined-event))
