use Rattle.std.proofs.Common.{◌≡◌, ℕ, ◌-◌, List, length, take, drop, ap, ◌∙◌, arith, length-drop}
use Rattle.std.proofs.lemmas.List.{take_all}
use Rattle.std.specs.Int.{w32}
use Rattle.redir_wire.specs.Words.{numbers_of}
use Rattle.redir_wire.proofs.read.hello_at.Goals as goal

-- what stands from a place on is all that is left there
from : (n : ℕ) (b : List ℕ) → take (length b - n) (drop n b) ≡ drop n b
from n b = take_all (length b - n) (drop n b) (omega (arith, length-drop n b))

pub returns-clause-ok : goal.returns-clause-ok
returns-clause-ok c =
    let version = c.array_at.ensures in
    let words = c.in_ok-words.ensures.ok ∙ ap (numbers_of w32 c.args.count) (from 64 c.args.bytes.now) in
    λ i. record { version = version i; words = words i }
