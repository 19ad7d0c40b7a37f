use Rattle.std.proofs.Common.{◌≡◌, [], List, length}
use Rattle.direct_system.specs.Stands.{SystemStands}
use Rattle.direct_run.specs.Steps.{PastStep}
use Rattle.made_tape.specs.Rounds.{made_lines}
use Rattle.usbgate_tapes.specs.inner.model.Loaded.{steps_after}
use Rattle.usbgate_tapes.proofs.model.load.done.Given as goal

abbrev pub invariant-lines : goal.invariant-lines
invariant-lines g l = (past : List PastStep) × SystemStands g.G.Gadget.meaning l.fn.gadget l.system past × (steps_after l.tape past ≡ steps_after (made_lines l.count) [])

abbrev pub decreases-lines : goal.decreases-lines
decreases-lines g l = length l.tape
