use Rattle.std.proofs.Common.{Bool, ◌||◌, ap}
use Rattle.gate_history.specs.step.Events.{event_of}
use Rattle.usbgate_tapes.proofs.lemmas.replay.Events.{sees}
use Rattle.usbgate_tapes.proofs.replay.Replay.put.Goals as goal

pub returns : goal.returns
returns c = λ first events h.
    let old = c.args.self.now in
    sees first old _ events (event_of c.args.event) c.take.new.to_client c.take.new.to_host c.args.text.now c.print.new.text c.in_ok-notes.notes h
    (c.in_ok-notes.ensures.takes first events h.gate) c.in_ok-print.ensures c.clear.ensures c.clear-2.ensures (ap (λ (b : Bool). old.refused || b) c.tells_refusal.ensures)
