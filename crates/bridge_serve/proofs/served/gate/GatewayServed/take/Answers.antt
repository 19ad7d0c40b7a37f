use Rattle.std.proofs.Common.{rules, subst}
use Rattle.gate_history.specs.step.Events.{event_of as told_of}
use Rattle.bridge_serve.specs.declared.served.after_loss.AfterLoss.{AfterLoss}
use Rattle.bridge_run.specs.events.Events.{event_of}
use Rattle.bridge_run.specs.served.Sends.{SendsAll, SendsPart}
use Rattle.bridge_serve.specs.served.Gate.{gate_events, gate_sends}
use Rattle.bridge_serve.specs.served.GateStops.{gate_runs_out}
use Rattle.bridge_serve.proofs.lemmas.served.Acts.{on-ok}
use Rattle.bridge_serve.proofs.lemmas.served.Gate.{taken-by}
use Rattle.bridge_serve.proofs.lemmas.served.Halts.{on-err}
use Rattle.bridge_serve.proofs.served.gate.GatewayServed.take.Goals as goal
use Rattle.bridge_serve.proofs.served.gate.GatewayServed.take.Goals.{in-SidePiece-Client-default, in-SidePiece-Host-default, in-SideEnd-Client, in-SideEnd-Host}

pub returns-clause-stands : goal.returns-clause-stands
returns-clause-stands c =
    on-ok c.tell.result _ _
    (λ takes first past at. (
      at.0,
      (takes first.1 past (event_of c.args.event) (told_of c.match-event.told) c.args.sent.now.to_client c.args.sent.now.to_host (elim c.match-event.branch [ in-SidePiece-Client-default w ↦ search (rules, w.told-is, w.in-SidePiece-Client-default.is, w.in-SidePiece-Client-default.field-0-is) | in-SidePiece-Host-default w ↦ search (rules, w.told-is, w.in-SidePiece-Host-default.is, w.in-SidePiece-Host-default.field-0-is) | in-SideEnd-Client w ↦ search (rules, w.told-is, w.in-SideEnd-Client.is, w.in-SideEnd-Client.field-0-is) | in-SideEnd-Host w ↦ search (rules, w.told-is, w.in-SideEnd-Host.is, w.in-SideEnd-Host.field-0-is) ])
          (taken-by c.args.self.now.gate c.take-taken.new.self (told_of c.match-event.told) c.args.sent.now.to_client c.take-taken.new.to_client c.args.sent.now.to_host c.take-taken.new.to_host c.take-taken.result c.take-taken.ensures.takes c.take-taken.ensures.stops first.1 (gate_events past) at.1)).stands_for,
    ))
    c.tell.ensures.takes

pub returns-clause-sends : goal.returns-clause-sends
returns-clause-sends c =
    on-ok c.tell.result _ _
    (λ takes first past at. subst (λ (setting : AfterLoss). SendsAll (gate_sends setting first.1) past (event_of c.args.event) c.args.sent.now c.tell.new.sent) at.0
    (takes first.1 past (event_of c.args.event) (told_of c.match-event.told) c.args.sent.now.to_client c.args.sent.now.to_host (elim c.match-event.branch [ in-SidePiece-Client-default w ↦ search (rules, w.told-is, w.in-SidePiece-Client-default.is, w.in-SidePiece-Client-default.field-0-is) | in-SidePiece-Host-default w ↦ search (rules, w.told-is, w.in-SidePiece-Host-default.is, w.in-SidePiece-Host-default.field-0-is) | in-SideEnd-Client w ↦ search (rules, w.told-is, w.in-SideEnd-Client.is, w.in-SideEnd-Client.field-0-is) | in-SideEnd-Host w ↦ search (rules, w.told-is, w.in-SideEnd-Host.is, w.in-SideEnd-Host.field-0-is) ])
    (taken-by c.args.self.now.gate c.take-taken.new.self (told_of c.match-event.told) c.args.sent.now.to_client c.take-taken.new.to_client c.args.sent.now.to_host c.take-taken.new.to_host c.take-taken.result c.take-taken.ensures.takes c.take-taken.ensures.stops first.1 (gate_events past) at.1)).sends)
    c.tell.ensures.takes

pub returns-clause-stops : goal.returns-clause-stops
returns-clause-stops c =
    on-err c.tell.result _ _
    (λ stops first past at. subst (λ (setting : AfterLoss). SendsPart (gate_runs_out first.1) (gate_sends setting first.1) past (event_of c.args.event) c.args.sent.now c.tell.new.sent) at.0
    (stops first.1 past (event_of c.args.event) (told_of c.match-event.told) c.args.sent.now.to_client c.args.sent.now.to_host (elim c.match-event.branch [ in-SidePiece-Client-default w ↦ search (rules, w.told-is, w.in-SidePiece-Client-default.is, w.in-SidePiece-Client-default.field-0-is) | in-SidePiece-Host-default w ↦ search (rules, w.told-is, w.in-SidePiece-Host-default.is, w.in-SidePiece-Host-default.field-0-is) | in-SideEnd-Client w ↦ search (rules, w.told-is, w.in-SideEnd-Client.is, w.in-SideEnd-Client.field-0-is) | in-SideEnd-Host w ↦ search (rules, w.told-is, w.in-SideEnd-Host.is, w.in-SideEnd-Host.field-0-is) ])
    (taken-by c.args.self.now.gate c.take-taken.new.self (told_of c.match-event.told) c.args.sent.now.to_client c.take-taken.new.to_client c.args.sent.now.to_host c.take-taken.new.to_host c.take-taken.result c.take-taken.ensures.takes c.take-taken.ensures.stops first.1 (gate_events past) at.1)))
    c.tell.ensures.stops
