use Rattle.std.proofs.Common.{ℕ, List, ◌++◌, ap, ◌∙◌}
use Rattle.tape_run.specs.model.Model.{model}
use Rattle.tape_run.specs.Printout.{tape_printout}
use Rattle.usbgate_tapes.proofs.lemmas.model.Simulated.{are-simulated}
use Rattle.tape_run.proofs.lemmas.runs.Unread.{leaves-none}
use Rattle.usbgate_tapes.proofs.runs.model_with.Goals as goal

pub over_tape-requires : goal.over_tape-requires
over_tape-requires g c =
    let opening = (model g.G.Gadget.meaning c.args.gadget).opening in
    (c.args.gadget, c.in-Ok.ensures.start, c.in-Ok.ensures.text ∙ ap (λ (l : List ℕ). l ++ opening) c.new-text.ensures)

pub returns-in-Ok-clause-leaves : goal.returns-in-Ok-clause-leaves
returns-in-Ok-clause-leaves g c =
    let opening = (model g.G.Gadget.meaning c.args.gadget).opening in
    (c.over_tape.ensures.runs c.args.gadget c.in-Ok.ensures.start (c.in-Ok.ensures.text ∙ ap (λ (l : List ℕ). l ++ opening) c.new-text.ensures)).leaves

pub returns-in-Ok-clause-simulates : goal.returns-in-Ok-clause-simulates
returns-in-Ok-clause-simulates g c =
    let opening = (model g.G.Gadget.meaning c.args.gadget).opening in
    are-simulated g.G.Gadget.meaning c.args.gadget g.S.Source.read_gives g.S.Source.remaining c.over_tape.result c.args.tape.now c.over_tape.new.tape c.systems_are_direct.ensures.simulates
    (c.over_tape.ensures.runs c.args.gadget c.in-Ok.ensures.start (c.in-Ok.ensures.text ∙ ap (λ (l : List ℕ). l ++ opening) c.new-text.ensures)).kept

pub returns-in-Err-clause-leaves : goal.returns-in-Err-clause-leaves
returns-in-Err-clause-leaves g c = leaves-none g.S.Source.read_gives g.K.Sink.write_gives g.S.Source.remaining g.K.Sink.contents (tape_printout (model g.G.Gadget.meaning c.args.gadget)) c.args.tape.now c.args.out.now
