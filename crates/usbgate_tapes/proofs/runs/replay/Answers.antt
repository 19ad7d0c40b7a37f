use Rattle.std.proofs.Common.{ℕ, List, ◌++◌, ap, ◌∙◌}
use Rattle.tape_run.specs.Replay.{replay}
use Rattle.tape_run.specs.tape.EventCommand.{over_events}
use Rattle.tape_run.specs.Printout.{tape_printout}
use Rattle.tape_run.proofs.lemmas.runs.Unread.{leaves-none}
use Rattle.usbgate_tapes.proofs.runs.replay.Goals as goal

pub over_tape-requires : goal.over_tape-requires
over_tape-requires g c =
    let command = replay c.args.first_id in
    (command, c.start-in-Ok.ensures command c.in-Ok.ensures.start, c.in-Ok.ensures.text ∙ ap (λ (l : List ℕ). l ++ command.opening) c.new-text.ensures)

pub returns-in-Ok-clause-leaves : goal.returns-in-Ok-clause-leaves
returns-in-Ok-clause-leaves g c =
    let command = replay c.args.first_id in
    (c.over_tape.ensures.runs command (c.start-in-Ok.ensures command c.in-Ok.ensures.start) (c.in-Ok.ensures.text ∙ ap (λ (l : List ℕ). l ++ command.opening) c.new-text.ensures)).leaves

pub returns-in-Err-clause-leaves : goal.returns-in-Err-clause-leaves
returns-in-Err-clause-leaves g c = leaves-none g.S.Source.read_gives g.K.Sink.write_gives g.S.Source.remaining g.K.Sink.contents (tape_printout (over_events (replay c.args.first_id))) c.args.tape.now c.args.out.now
