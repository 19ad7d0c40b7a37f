use Rattle.std.proofs.Common.{rules, tests, ◌∙◌, arith}
use Rattle.std.specs.Char.{is_ascii_hexdigit}
use Rattle.std.proofs.lemmas.Iterator.{YieldsList-from_slice}
use Rattle.std.proofs.lemmas.Iterator.Search.{all_from_yields_List}
use Rattle.std.proofs.lemmas.List.{nil_from_length}
use Rattle.packet_show.proofs.Digits.{digits-even, digits-odd, digits-empty}
use Rattle.packet_show.proofs.tape.are_digits.Goals as goal
use Rattle.packet_show.proofs.tape.are_digits.Goals.{then-is_empty-via-then-is_empty, then-is_empty-via-else-is_empty+then-digits-ne0}

pub returns-then-is_empty : goal.returns-then-is_empty
returns-then-is_empty c =
    elim c.then-is_empty.branch [
      | then-is_empty-via-then-is_empty w ↦ digits-empty c.args.digits.now (nil_from_length c.args.digits.now (search rules))
      | then-is_empty-via-else-is_empty+then-digits-ne0 w ↦ digits-odd c.args.digits.now (omega (arith, w.if-digits-ne0))
    ]

pub returns : goal.returns
returns c =
    all_from_yields_List is_ascii_hexdigit _ _ c.all.result c.all.ensures.ran (YieldsList-from_slice c.args.digits.now cc) (λ x b q k. search (rules, tests))
    ∙ digits-even c.args.digits.now (λ none. search rules) c.if-digits-ne0.false
