use Rattle.std.proofs.Common.{List, set, sym, ap, subst, ◌∙◌, arith}
use Rattle.std.proofs.lemmas.List.{length-set}
use Rattle.std.proofs.lemmas.Option.{slice_get_within}
use Rattle.unlink_race.specs.declared.live.Live.{Live}
use Rattle.unlink_race.specs.Requests.{Requests}
use Rattle.unlink_race.specs.Searches.{has_number}
use Rattle.unlink_race.specs.Unlinking.{unlinked_by}
use Rattle.unlink_race.proofs.Firsts.{changed_first}
use Rattle.gate_core.specs.inner.state.Holds.{IsRow, IsKept}
use Rattle.gate_core.proofs.lemmas.state.Held.{each-at, with-requests}
use Rattle.gate_core.proofs.lemmas.client.UnlinkRows.{each-set, row-marked}
use Rattle.gate_core.proofs.state.kept.Kept.mark.Goals as goal

pub mark_at-requires : goal.mark_at-requires
mark_at-requires c = slice_get_within c.args.self.now.lives.live c.args.at c.requires.there.0 c.requires.there.1

pub returns-clause-kept : goal.returns-clause-kept
returns-clause-kept c =
    let old = c.args.self.now in
    let ls = old.lives.live in
    let one = c.requires.there in
    let k = c.requires.kept in
    let marked = unlinked_by c.args.by one.0 in
    subst (λ (r : Requests). IsKept (record old { lives = r })) (sym (c.mark_at.ensures one.0 one.1))
    (with-requests old (record old.lives { live = set ls c.args.at marked }) old.answered old.unlinked k
    (each-set (IsRow old.sides.agreed) ls c.args.at marked k.rows (row-marked old.sides.agreed c.args.by one.0 one.2 (each-at (IsRow old.sides.agreed) ls c.args.at one.0 k.rows one.1)))
    k.apart (omega (arith, k.few, length-set ls c.args.at marked)) k.left k.answered_fits k.unlinked_fits)

pub returns-clause-marked : goal.returns-clause-marked
returns-clause-marked c target at =
    let old = c.args.self.now in
    let one = c.requires.there in
    let is = c.mark_at.ensures one.0 one.1 ∙ ap (λ (ls : List Live). record old.lives { live = ls }) (changed_first (has_number target) (unlinked_by c.args.by) old.lives.live c.args.at one.0 at one.1) in
    record { is = λ i. record old { lives = is i } }
