use Rattle.std.proofs.Common.{◌∙◌, ◌&&◌, cond, not, Bool, List, refl, sym, ap, subst}
use Rattle.std.specs.Prelude.{Option}
use Rattle.std.specs.List.{find, list_any}
use Rattle.std.specs.Map.{remove_entry, values_of}
use Rattle.redir_host.specs.declared.state.queue.Cancelled.{Cancelled}
use Rattle.redir_host.specs.declared.state.request.Request.{Request}
use Rattle.redir_host.specs.guest.Cancels.{Cancels, CancelsOne}
use Rattle.redir_host.specs.inner.Waiting.{is_from, is_key_of, marked_from, numbered}
use Rattle.redir_host.specs.state.Queues.{is_cancelled_by}
use Rattle.redir_host.proofs.lemmas.state.Cancelled.{took_cancelled}
use Rattle.redir_host.proofs.lemmas.state.Indexed.{sorted}
use Rattle.redir_host.proofs.lemmas.state.Keyed.{none_value, some_entry}
use Rattle.redir_host.proofs.lemmas.state.Numbered.{at, found_lookup}
use Rattle.redir_host.proofs.state.queue.Queue.cancel.Goals as goal
use Rattle.redir_host.proofs.state.queue.Queue.cancel.Goals.{then-request, else-request}

pub returns-in_err-number : goal.returns-in_err-number
returns-in_err-number c =
    let w = c.self.inside.waiting in
    let p = is_cancelled_by c.args.id in
    let none = none_value p w.requests w.order.entries (sym c.first_cancelled.ensures ∙ c.in_err-number.was) in
    subst (λ (o : Option Cancelled). Cancels o c.args.id c.args.self.now c.args.self.now) (sym c.from_residual.ensures) (record { request = ap (find p) (sym c.self.view_is) ∙ none; rest = refl })

pub remove-request-requires-clause-there : goal.remove-request-requires-clause-there
remove-request-requires-clause-there c =
    let w = c.self.inside.waiting in
    found_lookup (is_key_of (is_cancelled_by c.args.id) w.requests) w.order.entries (c.in_ok-number.number, c.in_ok-number.key) c.self.invariant.ordered (sym c.first_cancelled.ensures ∙ c.in_ok-number.was)

pub returns : goal.returns
returns c =
    let w = c.self.inside.waiting in
    let es = numbered w in
    let id = c.args.id in
    let n = c.in_ok-number.number in
    let q = c.remove-request.result in
    let here = some_entry (λ e. is_cancelled_by id e.1) w.requests w.order.entries (n, c.in_ok-number.key) q (sym c.first_cancelled.ensures ∙ c.in_ok-number.was) c.remove-request.ensures.request in
    let rest = remove_entry (at n) es in
    let gone = c.remove-request.ensures.rest in
    let Says : List Request → List Request → Type 0 = λ xs ys. CancelsOne (record { request = q; leaves_mark = c.if-request.leaves_mark }) id xs ys in
    subst (λ (xs : List Request). Says xs c.if-request.self) c.self.view_is (
    elim c.if-request.branch [
      | then-request v ↦ subst (Says (values_of es)) (sym v.self-is) (took_cancelled id es (n, q) (numbered v.mark_from.new.self) c.if-request.leaves_mark (sorted w c.self.invariant) here
          (v.mark_from.ensures.marked ∙ ap (marked_from n) gone ∙ sym (ap (λ (b : Bool). cond b (marked_from n rest) rest) v.if-request.true))
          (v.leaves_mark-is ∙ ap not (v.mark_from.ensures.found ∙ ap (list_any (is_from 0 n)) gone) ∙ sym (ap (λ (b : Bool). b && not (list_any (is_from 0 n) rest)) v.if-request.true)))
      | else-request v ↦ subst (Says (values_of es)) (sym v.self-is) (took_cancelled id es (n, q) (numbered c.remove-request.new.self) c.if-request.leaves_mark (sorted w c.self.invariant) here
          (gone ∙ sym (ap (λ (b : Bool). cond b (marked_from n rest) rest) v.if-request.false))
          (v.leaves_mark-is ∙ v.if-request.false ∙ sym (ap (λ (b : Bool). b && not (list_any (is_from 0 n) rest)) v.if-request.false)))
    ])
