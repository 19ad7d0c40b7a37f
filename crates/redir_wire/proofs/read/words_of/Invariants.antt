use Rattle.std.proofs.Common.{◌≡◌}
use Rattle.std.specs.Int.{w32}
use Rattle.redir_wire.specs.Words.{numbers_of}
use Rattle.redir_wire.proofs.read.words_of.Given as goal

abbrev pub invariant-loop-i : goal.invariant-loop-i
invariant-loop-i l = l.words ≡ numbers_of w32 l.i l.bytes
