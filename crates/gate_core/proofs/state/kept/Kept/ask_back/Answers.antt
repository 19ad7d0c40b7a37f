use Rattle.std.proofs.Common.{◌≡◌, List, ◌++◌, ℕ, Some, slice_get, sym, ap, subst, ◌∙◌}
use Rattle.std.specs.List.{position}
use Rattle.std.proofs.lemmas.List.{append-nil}
use Rattle.std.proofs.lemmas.Result.{on_ok_weaker}
use Rattle.redir_wire.specs.Header.{IdFits}
use Rattle.unlink_race.specs.declared.live.Live.{Live}
use Rattle.unlink_race.specs.declared.unlink.AskedBack.{AskedBack}
use Rattle.unlink_race.specs.Requests.{in_flight}
use Rattle.unlink_race.specs.Searches.{has_number}
use Rattle.unlink_race.specs.Firsts.{change_first}
use Rattle.unlink_race.specs.Unlinking.{asked_back, unlinked_by}
use Rattle.gate_history.specs.state.Flight.{wide_ids}
use Rattle.gate_history.specs.state.State.{State}
use Rattle.gate_history.specs.state.Sound.{IsSound}
use Rattle.gate_history.proofs.lemmas.Lists.{Each}
use Rattle.gate_core.specs.inner.state.Holds.{IsRow, Holds}
use Rattle.gate_core.specs.declared.state.kept.Kept.{Kept}
use Rattle.gate_core.proofs.lemmas.state.Held.{each-at, among-both, among-live}
use Rattle.gate_core.proofs.lemmas.step.Quiet.{capped-same}
use Rattle.gate_core.proofs.lemmas.client.UnlinkRows.{Told, told-nowhere, told-there, cancelled-id, is_marking, marked-by_id}
use Rattle.gate_core.proofs.lemmas.client.Unlink.{one-numbered, does-unlink}
use Rattle.gate_core.proofs.state.kept.Kept.ask_back.Goals as goal

-- the first unlink of the target, where so many were answered
abbrev marked : (target by : ℕ) → Kept → ℕ → Kept
marked target by old unlinked = record old { lives = record { live = change_first (has_number target) (unlinked_by by) old.lives.live; abandoned = old.lives.abandoned }; unlinked = unlinked }

-- what becomes of the target, which is read at its place among all requests in flight
becomes : (old : Kept) (st : State) (target by i : ℕ) (l : Live) (told : AskedBack) → Holds old st → IsSound st → Each (IsRow old.sides.agreed) old.lives.live →
    position (has_number target) old.lives.live ≡ Some i → slice_get (in_flight old.lives) i ≡ Some l → asked_back l ≡ told → Told old.sides.agreed target by old.lives.live (Some told)
becomes old st target by i l told h sound rows at both so =
    told-there old.sides.agreed target by old.lives.live i l told (one-numbered old st target h sound) rows at (among-live (has_number target) old.lives i l at both) so

pub held_at-requires : goal.held_at-requires
held_at-requires c = among-both (has_number c.args.target) c.args.self.now.lives c.in-Some.at (sym c.place_of_number.ensures ∙ c.in-Some.is)

pub write_cancel-requires : goal.write_cancel-requires
write_cancel-requires c =
    let t = c.args.self.now in
    let l = c.held_at.result.now in
    let here = among-live (has_number c.args.target) t.lives c.in-Some.at l (sym c.place_of_number.ensures ∙ c.in-Some.is) c.held_at.ensures in
    let one = each-at (IsRow t.sides.agreed) t.lives.live c.in-Some.at l c.requires.kept.rows here in
    subst (λ (n : ℕ). IdFits (wide_ids t.sides.agreed) n) (cancelled-id l.unlinker l.kind l.id c.in-Cancel.id (sym c.asked_back.ensures ∙ c.in-Cancel.is)) one.fine.id_fits

pub mark-requires-clause-there : goal.mark-requires-clause-there
mark-requires-clause-there c =
    let l = c.held_at.result.now in
    let here = among-live (has_number c.args.target) c.args.self.now.lives c.in-Some.at l (sym c.place_of_number.ensures ∙ c.in-Some.is) c.held_at.ensures in
    (l, here, marked-by_id l.unlinker l.kind l.id (ap is_marking (sym c.asked_back.ensures ∙ c.in-Cancel.is)))

pub mark-requires-in-Waits-clause-there : goal.mark-requires-in-Waits-clause-there
mark-requires-in-Waits-clause-there c =
    let l = c.held_at.result.now in
    let here = among-live (has_number c.args.target) c.args.self.now.lives c.in-Some.at l (sym c.place_of_number.ensures ∙ c.in-Some.is) c.held_at.ensures in
    (l, here, marked-by_id l.unlinker l.kind l.id (ap is_marking (sym c.asked_back.ensures ∙ c.in-Waits.is)))

pub take_back-requires-clause-there : goal.take_back-requires-clause-there
take_back-requires-clause-there c = (c.args.target, sym c.place_of_number.ensures ∙ c.in-Some.is)

pub returns-in_default-clause-ok : goal.returns-in_default-clause-ok
returns-in_default-clause-ok c st h sound =
    let old = c.args.self.now in
    let told = told-nowhere old.sides.agreed c.args.target c.args.by old.lives.live (one-numbered old st c.args.target h sound) c.requires.kept.rows (sym c.place_of_number.ensures ∙ c.in_default.is) in
    on_ok_weaker c.write_ret_unlink.result (λ sent.
    does-unlink st c.args.by c.args.target _ old old _ _ h sound c.requires.kept.answered_fits c.requires.kept.dropped_fits told
    (λ i. record old { unlinked = capped-same old.unlinked c.requires.kept.unlinked_fits i })
    (sent ∙ ap (λ (bs : List ℕ). c.args.out.now.to_client ++ bs) (sym (append-nil _)))
    (sym (append-nil c.args.out.now.to_host)) c.in_ok-push.ensures.ok) c.write_ret_unlink.ensures.ok

pub returns-in-Already-clause-ok : goal.returns-in-Already-clause-ok
returns-in-Already-clause-ok c st h sound =
    let old = c.args.self.now in
    let told = becomes old st c.args.target c.args.by c.in-Some.at c.held_at.result.now _ h sound c.requires.kept.rows (sym c.place_of_number.ensures ∙ c.in-Some.is) c.held_at.ensures (sym c.asked_back.ensures ∙ c.in-Already.is) in
    on_ok_weaker c.write_ret_unlink-in-Already.result (λ sent.
    does-unlink st c.args.by c.args.target _ old old _ _ h sound c.requires.kept.answered_fits c.requires.kept.dropped_fits told
    (λ i. record old { unlinked = capped-same old.unlinked c.requires.kept.unlinked_fits i })
    (sent ∙ ap (λ (bs : List ℕ). c.args.out.now.to_client ++ bs) (sym (append-nil _)))
    (sym (append-nil c.args.out.now.to_host)) c.in_ok-push.ensures.ok) c.write_ret_unlink-in-Already.ensures.ok

pub returns-in_ok-write_cancel-in-Cancel-clause-ok : goal.returns-in_ok-write_cancel-in-Cancel-clause-ok
returns-in_ok-write_cancel-in-Cancel-clause-ok c st h sound =
    let old = c.args.self.now in
    let told = becomes old st c.args.target c.args.by c.in-Some.at c.held_at.result.now _ h sound c.requires.kept.rows (sym c.place_of_number.ensures ∙ c.in-Some.is) c.held_at.ensures (sym c.asked_back.ensures ∙ c.in-Cancel.is) in
    does-unlink st c.args.by c.args.target _ old _ _ _ h sound c.requires.kept.answered_fits c.requires.kept.dropped_fits told
    ((c.mark.ensures.marked c.args.target (sym c.place_of_number.ensures ∙ c.in-Some.is)).is ∙ ap (marked c.args.target c.args.by old) (capped-same old.unlinked c.requires.kept.unlinked_fits))
    (sym (append-nil c.args.out.now.to_client)) c.in_ok-write_cancel-in-Cancel.ensures.ok c.in_ok-push.ensures.ok

pub returns-in-Waits-clause-ok : goal.returns-in-Waits-clause-ok
returns-in-Waits-clause-ok c st h sound =
    let old = c.args.self.now in
    let told = becomes old st c.args.target c.args.by c.in-Some.at c.held_at.result.now _ h sound c.requires.kept.rows (sym c.place_of_number.ensures ∙ c.in-Some.is) c.held_at.ensures (sym c.asked_back.ensures ∙ c.in-Waits.is) in
    does-unlink st c.args.by c.args.target _ old _ _ _ h sound c.requires.kept.answered_fits c.requires.kept.dropped_fits told
    ((c.mark-in-Waits.ensures.marked c.args.target (sym c.place_of_number.ensures ∙ c.in-Some.is)).is ∙ ap (marked c.args.target c.args.by old) (capped-same old.unlinked c.requires.kept.unlinked_fits))
    (sym (append-nil c.args.out.now.to_client)) (sym (append-nil c.args.out.now.to_host)) c.in_ok-push.ensures.ok

pub returns-in_ok-write_ret_unlink-in-Taken-clause-ok : goal.returns-in_ok-write_ret_unlink-in-Taken-clause-ok
returns-in_ok-write_ret_unlink-in-Taken-clause-ok c st h sound =
    let old = c.args.self.now in
    let told = becomes old st c.args.target c.args.by c.in-Some.at c.held_at.result.now _ h sound c.requires.kept.rows (sym c.place_of_number.ensures ∙ c.in-Some.is) c.held_at.ensures (sym c.asked_back.ensures ∙ c.in-Taken.is) in
    does-unlink st c.args.by c.args.target _ old _ _ _ h sound c.requires.kept.answered_fits c.requires.kept.dropped_fits told
    (c.take_back.ensures.taken c.args.target (sym c.place_of_number.ensures ∙ c.in-Some.is)).is c.in_ok-write_ret_unlink-in-Taken.ensures.ok (sym (append-nil c.args.out.now.to_host)) c.in_ok-push.ensures.ok
