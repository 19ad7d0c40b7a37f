use Rattle.std.proofs.Common.{◌≡◌, ◌++◌, ◌∙◌, map, refl, sym, ap, subst}
use Rattle.std.specs.List.{flat_map}
use Rattle.std.proofs.lemmas.Result.{on_ok_weaker, IfOk-weaker}
use Rattle.unlink_race.specs.declared.ending.Ending.{Ending}
use Rattle.usbip_urb.specs.Spelling.{spelling}
use Rattle.usb_base.specs.declared.transfer.Outcome.{Outcome}
use Rattle.usbip_urb.specs.declared.client.ClientPacket.TheVariants.{Urb}
use Rattle.unlink_race.specs.declared.live.Live.{Live}
use Rattle.gate_history.specs.client.Ends.{answers_by}
use Rattle.gate_history.specs.write.Asked.{IsMoved}
use Rattle.gate_parts.specs.host.Responses.{response_view, row_gets, IsCounted}
use Rattle.unlink_race.specs.Endings.{ending_of}
use Rattle.gate_history.specs.declared.request.Request.{Request}
use Rattle.gate_history.specs.declared.verdict.Verdict.{Verdict}
use Rattle.gate_history.specs.step.Marks.{Submission}
use Rattle.gate_history.specs.host.Responses.{Response, gets as gets_value, told_outcome}
use Rattle.gate_parts.specs.state.Rows.{row_of, row_request}
use Rattle.gate_parts.proofs.lemmas.host.Responses.{row-is, row-gets, getting, getting-is, seen-moved, answers-counted}
use Rattle.gate_parts.proofs.write.finish.write_completed.Goals as goal

pub write_answers-requires-clause-moved : goal.write_answers-requires-clause-moved
write_answers-requires-clause-moved c =
    let l = c.args.live.now in
    let v = getting (row_gets l.kind) in
    subst (λ (o : Outcome). IsMoved l.is_in o) (sym (c.in_ok-outcome.ensures.ok (row_request l) v refl (getting-is (row_gets l.kind))))
    (seen-moved l v (response_view c.args.response) (getting-is (row_gets l.kind)) c.requires.read c.requires.answer)

-- the outcome is what the answer makes of the submit's transfer
module _ (l : Live) (response : Response) (o : Outcome)
    (is : (r : Request) (v : Verdict) → r.transfer.wanted ≡ l.wanted → gets_value v ≡ row_gets l.kind → o ≡ told_outcome r v response) (s : Submission) (e : row_of s l.unlinker ≡ l) where
  seen-is : o ≡ told_outcome s.request s.verdict response
  seen-is = is s.request s.verdict (ap (λ (k : Live). k.wanted) e) (sym (row-gets s.verdict s.request.transfer.ep) ∙ ap (λ (k : Live). row_gets k.kind) e)

pub returns-clause-ok : goal.returns-clause-ok
returns-clause-ok c s e =
    let l = c.args.live.now in
    let old = c.args.out.now in
    let is = seen-is l (response_view c.args.response) c.in_ok-outcome.outcome c.in_ok-outcome.ensures.ok s e in
    on_ok_weaker c.write_answers.result
    (λ sent. λ i. record old { to_client = (sent ∙ ap (λ (o : Outcome). old.to_client ++ flat_map spelling (answers_by s o l.unlinker)) is) i; notes = c.in_ok-push.ensures.ok i })
    (c.write_answers.ensures.ok s (row-is s l.unlinker l e))

pub returns-clause-counted : goal.returns-clause-counted
returns-clause-counted c s e =
    let l = c.args.live.now in
    let is = seen-is l (response_view c.args.response) c.in_ok-outcome.outcome c.in_ok-outcome.ensures.ok s e in
    IfOk-weaker c.write_answers.result (λ (e : Ending). e ≡ ending_of l.unlinker l.kind c.in_ok-outcome.outcome.status) (IsCounted (map Urb (answers_by s (told_outcome s.request s.verdict (response_view c.args.response)) l.unlinker)))
    (λ ending ends. subst (IsCounted (map Urb (answers_by s (told_outcome s.request s.verdict (response_view c.args.response)) l.unlinker))) (sym ends)
    (subst (λ (o : Outcome). IsCounted (map Urb (answers_by s o l.unlinker)) (ending_of l.unlinker l.kind c.in_ok-outcome.outcome.status)) is (answers-counted s l c.in_ok-outcome.outcome (row-is s l.unlinker l e))))
    c.write_answers.ensures.ending
