use Rattle.std.proofs.Common.{[], sym, subst, ◌∙◌, arith}
use Rattle.std.specs.Prelude.{filter}
use Rattle.std.proofs.lemmas.Bool.{true≢false}
use Rattle.unlink_race.specs.Requests.{Requests}
use Rattle.unlink_race.specs.Searches.{goes_by_id}
use Rattle.gate_core.specs.inner.state.Holds.{IsKept}
use Rattle.gate_history.proofs.lemmas.Lists.{length-filter}
use Rattle.gate_core.proofs.lemmas.state.Held.{with-requests}
use Rattle.gate_core.proofs.state.kept.Kept.abandon.Goals as goal

pub returns-then-abandoned-eq0-clause-kept : goal.returns-then-abandoned-eq0-clause-kept
returns-then-abandoned-eq0-clause-kept c k gone =
    let old = c.args.self.now in
    subst (λ (r : Requests). IsKept (record old { lives = r })) (sym c.abandon.ensures)
    (with-requests old (record { live = []; abandoned = filter goes_by_id old.lives.live }) old.answered old.unlinked k tt (λ h. absurd (true≢false (sym h ∙ gone)))
    (omega arith) (omega (arith, k.few, length-filter goes_by_id old.lives.live)) k.answered_fits k.unlinked_fits)
