-- The steps that lines say, the latest first.
use Rattle.std.specs.Prelude.{List, [], ◌∷◌}
use Rattle.std.specs.List.{cons_option}
use Rattle.packet_show.specs.declared.tape.ModelLine.{ModelLine}
use Rattle.direct_run.specs.Steps.{PastStep}
use Rattle.tape_run.specs.model.Model.{step_said}

abbrev pub steps_after : List ModelLine → List PastStep → List PastStep
steps_after [] steps = steps
steps_after (said ∷ lines) steps = steps_after lines (cons_option (step_said said) steps)
