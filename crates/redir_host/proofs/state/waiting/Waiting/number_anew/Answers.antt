use Rattle.std.proofs.Common.{◌≡◌, ◌∙◌, ◌++◌, ℕ, ap, length, subst, sym, arith}
use Rattle.std.specs.Map.{values_of}
use Rattle.redir_host.specs.inner.Requests.{requests_of}
use Rattle.redir_host.specs.inner.Waiting.{Differ, IsIndexed, numbered}
use Rattle.redir_host.proofs.lemmas.state.Indexed.{first_moves, others_held, values_appended}
use Rattle.redir_host.proofs.lemmas.state.Keyed.{Held}
use Rattle.redir_host.proofs.state.waiting.Waiting.number_anew.Goals as goal

pub loop-key-init : goal.loop-key-init
loop-key-init c =
    let w = c.args.self.now in
    let old = sym c.replace-old.ensures.value in
    let new = c.replace-old.ensures.after in
    let gives = c.into_iter-key-iterator.ensures.into_iter_gives in
    let all : w.order.entries ≡ c.into_iter-key-iterator.result = ap (λ v. v.order.entries) old ∙ sym gives.0 in
    let next = ap (λ v. v.next) new ∙ c.new.ensures.next in (
      tt,
      tt,
      subst IsIndexed (sym new) c.new.ensures.indexed,
      omega (arith, next, gives.1, ap length gives.0),
      subst (λ s. Held s c.into_iter-key-iterator.result) (ap (λ v. v.requests) old) (subst (Held w.requests) all c.requires.held),
      subst Differ all c.requires.differ,
      ap (λ v. values_of (numbered v) ++ values_of (requests_of c.replace-old.result.requests c.into_iter-key-iterator.result)) new
          ∙ ap (λ qs. values_of qs ++ values_of (requests_of c.replace-old.result.requests c.into_iter-key-iterator.result)) c.new.ensures.requests
          ∙ ap (λ es. values_of (requests_of c.replace-old.result.requests es)) (sym all) ∙ ap (λ v. values_of (requests_of v.requests w.order.entries)) (sym old),
    )

pub remove-requires : goal.remove-requires
remove-requires c = (subst (Held c.loop-key.requests) c.in-Some.ensures.steps c.loop-key.invariant.4).0

pub loop-key-preserved : goal.loop-key-preserved
loop-key-preserved c =
    let e : ℕ × ℕ = (c.in-Some.field-0-0, c.in-Some.key) in
    let s = c.loop-key.requests in
    let t = c.remove.new.self in
    let steps = c.in-Some.ensures.steps in
    let kept = c.loop-key.invariant in
    let differ = subst Differ steps kept.5 in
    let long = ap length steps in (
      tt,
      tt,
      c.in_ok-put.ensures.indexed,
      omega (arith, long, kept.3, c.in_ok-put.ensures.next),
      others_held s t e c.next.new.self (subst (Held s) steps kept.4) differ c.remove.ensures.updates,
      differ.1,
      ap (λ qs. values_of qs ++ values_of (requests_of t c.next.new.self)) c.in_ok-put.ensures.ok
          ∙ ap (λ qs. qs ++ values_of (requests_of t c.next.new.self)) (values_appended (numbered c.loop-key.self) _)
          ∙ first_moves s t e c.next.new.self c.remove.result (values_of (numbered c.loop-key.self)) differ c.remove.ensures.value c.remove.ensures.updates
          ∙ ap (λ es. values_of (numbered c.loop-key.self) ++ values_of (requests_of s es)) (sym steps) ∙ kept.6,
    )
