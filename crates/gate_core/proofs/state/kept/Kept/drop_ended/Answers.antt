use Rattle.std.proofs.Common.{◌≡◌, ◌+◌, not, length, refl, sym, ap, subst, arith}
use Rattle.std.specs.Prelude.{filter}
use Rattle.std.proofs.lemmas.List.Filters.{length-filter_both}
use Rattle.unlink_race.specs.declared.live.Live.{Live}
use Rattle.unlink_race.specs.Requests.{Requests}
use Rattle.unlink_race.specs.Searches.{ended_by}
use Rattle.usb_base.specs.Number.{capped}
use Rattle.gate_core.specs.inner.state.Holds.{IsRow, IsKept}
use Rattle.gate_history.proofs.lemmas.Lists.{Each-filter, length-filter}
use Rattle.gate_core.proofs.lemmas.state.Held.{with-requests}
use Rattle.gate_core.proofs.state.kept.Kept.drop_ended.Goals as goal

pub overflow_sub-ended : goal.overflow_sub-ended
overflow_sub-ended c =
    let fewer = length-filter (λ (l : Live). not (ended_by c.args.end.now l)) c.args.self.now.lives.live in
    let left = ap (λ (r : Requests). length r.live) c.drop_ended.ensures in
    omega (arith, fewer, left, c.len.ensures.len, c.len-before.ensures.len)

pub returns-clause-kept : goal.returns-clause-kept
returns-clause-kept c =
    let old = c.args.self.now in
    let stays = λ (l : Live). not (ended_by c.args.end.now l) in
    let fewer = length-filter stays old.lives.live in
    let k = c.requires.kept in
    subst (λ (r : Requests). IsKept (record old { lives = r; answered = c.saturating_add-self.result })) (sym c.drop_ended.ensures)
    (with-requests old (record old.lives { live = filter stays old.lives.live }) c.saturating_add-self.result old.unlinked k (Each-filter (IsRow old.sides.agreed) stays old.lives.live k.rows) k.apart
    (omega (arith, k.few, fewer)) k.left (omega (arith, c.saturating_add-self.ensures)) k.unlinked_fits)

pub returns-clause-dropped : goal.returns-clause-dropped
returns-clause-dropped c =
    let old = c.args.self.now in
    let end = c.args.end.now in
    let both = length-filter_both (ended_by end) (λ (l : Live). not (ended_by end l)) (λ l. refl) old.lives.live in
    let left = ap (λ (r : Requests). length r.live) c.drop_ended.ensures in
    let answered : c.saturating_add-self.result ≡ capped (old.answered + length (filter (ended_by end) old.lives.live)) =
    omega (arith, both, left, c.len.ensures.len, c.len-before.ensures.len, c.saturating_add-self.ensures) in
    record { is = λ i. record old { lives = c.drop_ended.ensures i; answered = answered i } }
