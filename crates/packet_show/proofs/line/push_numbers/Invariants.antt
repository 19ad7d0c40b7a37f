use Rattle.std.proofs.Common.{◌≡◌, ◌++◌, take, map}
use Rattle.packet_show.specs.Line.{spaced_words}
use Rattle.packet_show.proofs.line.push_numbers.Given as goal

abbrev pub invariant-loop-number : goal.invariant-loop-number
invariant-loop-number g l = l.out ≡ l.fn.out ++ spaced_words (map g.I.Integer.text (take l.number-index l.numbers))
