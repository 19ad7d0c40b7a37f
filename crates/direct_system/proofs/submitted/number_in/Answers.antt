use Rattle.std.proofs.Common.{rules, tests, ◌==◌, ◌∙◌, ap, sym}
use Rattle.std.specs.Prelude.{ℕ, Option}
use Rattle.std.specs.Option.{option_map, option_map_or}
use Rattle.std.proofs.lemmas.Iterator.Search.{find_from_yields_List}
use Rattle.std.proofs.lemmas.Iterator.Adapters.{YieldsList-from_rev_slice}
use Rattle.direct_run.specs.declared.submitted.Submitted.{Submitted}
use Rattle.direct_system.proofs.submitted.number_in.Goals as goal

abbrev number-of : Option Submitted → ℕ
number-of o = option_map_or (λ x. x.seqnum) o 0

pub returns-in-Some : goal.returns-in-Some
returns-in-Some c =
    ap number-of (ap (option_map (λ x. x.now)) (sym c.in-Some.is) ∙ find_from_yields_List (λ (x : Submitted). x.id == c.args.id) _ _ c.find.result c.find.ensures.ran (YieldsList-from_rev_slice c.args.submits.now cc) (λ x b q k. search (rules, tests)))

pub returns-in-None : goal.returns-in-None
returns-in-None c =
    ap number-of (ap (option_map (λ x. x.now)) (sym c.in-None.is) ∙ find_from_yields_List (λ (x : Submitted). x.id == c.args.id) _ _ c.find.result c.find.ensures.ran (YieldsList-from_rev_slice c.args.submits.now cc) (λ x b q k. search (rules, tests)))
