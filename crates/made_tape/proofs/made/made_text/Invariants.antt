use Rattle.std.proofs.Common.{◌≡◌, ◌++◌, length}
use Rattle.made_tape.specs.Lines.{tape_text}
use Rattle.made_tape.specs.Rounds.{made_lines}
use Rattle.made_tape.proofs.made.made_text.Given as goal

abbrev pub invariant-lines : goal.invariant-lines
invariant-lines l = l.text ++ tape_text l.tape ≡ tape_text (made_lines l.count)

abbrev pub decreases-lines : goal.decreases-lines
decreases-lines l = length l.tape
