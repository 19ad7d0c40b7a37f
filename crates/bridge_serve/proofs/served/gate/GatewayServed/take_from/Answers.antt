use Rattle.std.proofs.Common.{◌∙◌, take, ap}
use Rattle.gate_core.specs.step.Stands.{piece_of}
use Rattle.gate_core.specs.state.Kept.{GateKept}
use Rattle.bridge_run.specs.events.Events.{SidePiece}
use Rattle.bridge_serve.specs.served.Gate.{gate_events}
use Rattle.bridge_serve.proofs.lemmas.served.Acts.{on-ok}
use Rattle.bridge_serve.proofs.lemmas.served.Halts.{on-err}
use Rattle.bridge_serve.proofs.lemmas.served.Gate.{piece-told, come-by, is-taken}
use Rattle.bridge_serve.proofs.served.gate.GatewayServed.take_from.Goals as goal

pub returns-clause-came : goal.returns-clause-came
returns-clause-came g c =
    let w = c.in_ok-taken.ensures.came in
    let side = c.args.side in
    let was = c.args.self.now in
    let sent = c.args.sent.now in
    let t = c.take_from.new in
    let piece = take w.count w.came.room in
    let e = SidePiece side piece in (
      w.count,
      w.came,
      record {
        some = λ more first past at.
            let took = come-by was.gate t.self (piece_of side piece) sent.to_client t.to_client sent.to_host t.to_host c.in_ok-taken.taken (w.some more) first.1 (gate_events past) at.1 in
            is-taken c.tell.result was.after_loss first t.self past e sent c.tell.new.sent at.0
            (on-ok c.tell.result _ _ (λ takes. takes first.1 past e (piece_of side piece) sent.to_client sent.to_host (piece-told side piece) took) c.tell.ensures.takes)
            (on-err c.tell.result _ _ (λ stops. stops first.1 past e (piece_of side piece) sent.to_client sent.to_host (piece-told side piece) took) c.tell.ensures.stops);
        none = λ zero.
            let n = w.nothing zero in
            let s = c.tell.ensures.nothing n.0 in (
              ap (λ (kept : GateKept). record { gate = kept; after_loss = was.after_loss }) n.1,
              s.1 ∙ (λ i. record sent { to_client = n.2 i; to_host = n.3 i }),
              s.0,
            );
      },
    )
