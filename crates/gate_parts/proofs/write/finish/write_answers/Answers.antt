use Rattle.std.proofs.Common.{◌++◌, ◌∙◌, ℕ, List, refl, sym, ap}
use Rattle.std.specs.Prelude.{pos}
use Rattle.usbip_urb.specs.Spelling.{spelling}
use Rattle.unlink_race.specs.declared.ending.Ending.TheVariants.{Completed, Unlinked, CompletedThenLate}
use Rattle.usb_base.specs.declared.errno.TheConstants.{ECONNRESET}
use Rattle.gate_history.specs.declared.request.Request.{Request}
use Rattle.gate_history.specs.write.Answers.{with_outcome, ret_unlink}
use Rattle.gate_parts.specs.state.Rows.{row_request}
use Rattle.gate_parts.proofs.lemmas.write.Answers.{bytes-one, bytes-two}
use Rattle.gate_parts.proofs.write.finish.write_answers.Goals as goal

pub returns-in_ok-write_outcome-in-Completed-clause-ok : goal.returns-in_ok-write_outcome-in-Completed-clause-ok
returns-in_ok-write_outcome-in-Completed-clause-ok c s row =
    let l = c.args.live.now in
    let o = c.args.outcome in
    c.in_ok-write_outcome-in-Completed.ensures.ok
    ∙ ap (λ (b : List ℕ). c.args.out.now ++ b)
    (ap (λ (r : Request). spelling (with_outcome r o)) c.asked_by-asked.ensures
    ∙ bytes-one s l o (with_outcome (row_request l) o) Completed row (sym c.in-Completed.is ∙ c.ending_of-ending.ensures) refl)

pub returns-in_ok-write_ret_unlink-in-Unlinked-clause-ok : goal.returns-in_ok-write_ret_unlink-in-Unlinked-clause-ok
returns-in_ok-write_ret_unlink-in-Unlinked-clause-ok c s row =
    let by = c.in-Unlinked.by in
    c.in_ok-write_ret_unlink-in-Unlinked.ensures.ok
    ∙ ap (λ (b : List ℕ). c.args.out.now ++ b)
    (bytes-one s c.args.live.now c.args.outcome (ret_unlink by ECONNRESET) (Unlinked by) row (sym c.in-Unlinked.is ∙ c.ending_of-ending.ensures) refl)

pub returns-in_ok-write_late-in-CompletedThenLate-clause-ok : goal.returns-in_ok-write_late-in-CompletedThenLate-clause-ok
returns-in_ok-write_late-in-CompletedThenLate-clause-ok c s row =
    let l = c.args.live.now in
    let o = c.args.outcome in
    let by = c.in-CompletedThenLate.by in
    c.in_ok-write_late-in-CompletedThenLate.ensures.ok
    ∙ ap (λ (b : List ℕ). c.args.out.now ++ b)
    (ap (λ (r : Request). spelling (with_outcome r o) ++ spelling (ret_unlink by (pos 0))) c.asked_by-asked.ensures
    ∙ bytes-two s l o (with_outcome (row_request l) o) (ret_unlink by (pos 0)) (CompletedThenLate by) row (sym c.in-CompletedThenLate.is ∙ c.ending_of-ending.ensures) refl)
