use Rattle.std.proofs.Common.{◌≡◌, ◌++◌, take, map}
use Rattle.packet_show.specs.Line.{spaced_words}
use Rattle.packet_show.specs.Urb.{desc_word}
use Rattle.packet_show.proofs.urb.push_descs.Given as goal

abbrev pub invariant-loop-desc : goal.invariant-loop-desc
invariant-loop-desc l = l.out ≡ l.fn.out ++ spaced_words (map desc_word (take l.desc-index l.descs))
