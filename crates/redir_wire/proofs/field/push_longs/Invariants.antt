use Rattle.std.proofs.Common.{◌≡◌, ◌++◌, take}
use Rattle.std.specs.Int.{w32}
use Rattle.redir_wire.specs.Words.{numbers as numbers_bytes}
use Rattle.redir_wire.proofs.field.push_longs.Given as goal

abbrev pub invariant-loop-number : goal.invariant-loop-number
invariant-loop-number l = l.out ≡ l.initial.out ++ numbers_bytes w32 (take l.number-index l.numbers)
