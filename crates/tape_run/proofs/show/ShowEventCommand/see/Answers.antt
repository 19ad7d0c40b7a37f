use Rattle.std.proofs.Common.{◌++◌, ap, sym, ◌∙◌}
use Rattle.gate_history.specs.step.Events.{event_of}
use Rattle.tape_run.specs.tape.EventCommand.{EventCommand}
use Rattle.tape_run.proofs.show.ShowEventCommand.see.Goals as goal

pub returns-in-End : goal.returns-in-End
returns-in-End g c = λ command events is.
    let e = event_of c.args.event in
    let text = c.args.text.now in
    let seen = (c.begin.ensures events e text (c.in-End.ensures events)).sees is.has_shown in (
      seen.0 ∙ ap (λ (k : EventCommand). text ++ k.text events e) (sym is.command-is),
      record { command-is = is.command-is; has_shown = seen.1 },
    )
