-- The first request of endpoint 0 from a number on, marked.
use Rattle.std.proofs.Common.{◌≡◌, ◌||◌, ℕ, Bool, true, false, cond, is_some, List, [], ◌∷◌, Some, None, refl, ap, subst, ◌∙◌, arith}
use Rattle.std.specs.List.{find, list_any}
use Rattle.std.specs.Map.{set_value}
use Rattle.redir_host.specs.declared.state.request.Request.{Request}
use Rattle.redir_host.specs.inner.Waiting.{is_from, marked_from}
use Rattle.redir_host.specs.state.Queues.{marked}
use Rattle.redir_host.proofs.lemmas.state.Numbered.{Sorted, apart, at, at_itself, found_above, head_above, tail_sorted}

pub any_found : (t : ℕ × Request → Bool) (es : List (ℕ × Request)) → is_some (find t es) ≡ list_any t es
any_found t [] = refl
any_found t (x ∷ es) = elim (t x) as (λ (b : Bool). is_some (cond b (Some x) (find t es)) ≡ (b || list_any t es)) [ true ↦ refl | false ↦ any_found t es ]

pub mark_set : (number : ℕ) (es : List (ℕ × Request)) (n : ℕ) (q : Request) → Sorted es → find (is_from 0 number) es ≡ Some (n, q) → set_value (at n) es (marked q) ≡ marked_from number es
mark_set number [] n q s is = absurd cc
mark_set number (x ∷ es) n q s is =
    elim (is_from 0 number x) as (λ (b : Bool). cond b (Some x) (find (is_from 0 number) es) ≡ Some (n, q) → set_value (at n) (x ∷ es) (marked q) ≡ cond b ((x.0, marked x.1) ∷ es) (x ∷ marked_from number es)) [
      | true ↦ λ h. let same : x ≡ (n, q) = cc in subst (λ (y : ℕ × Request). set_value (at y.0) (x ∷ es) (marked y.1) ≡ (x.0, marked x.1) ∷ es) same (ap (λ (b : Bool). cond b ((x.0, marked x.1) ∷ es) (x ∷ set_value (at x.0) es (marked x.1))) (at_itself x.0))
      | false ↦ λ h.
          let above = found_above x.0 (is_from 0 number) es (n, q) (head_above x es s) h in
          ap (λ (b : Bool). cond b ((x.0, marked q) ∷ es) (x ∷ set_value (at n) es (marked q))) (apart n x.0 (λ same. omega (arith, above, same)))
          ∙ ap (λ ys. x ∷ ys) (mark_set number es n q (tail_sorted x es s) h)
    ] is

pub mark_unset : (number : ℕ) (es : List (ℕ × Request)) → find (is_from 0 number) es ≡ None → es ≡ marked_from number es
mark_unset number [] is = refl
mark_unset number (x ∷ es) is =
    elim (is_from 0 number x) as (λ (b : Bool). cond b (Some x) (find (is_from 0 number) es) ≡ None → x ∷ es ≡ cond b ((x.0, marked x.1) ∷ es) (x ∷ marked_from number es)) [
      | true ↦ λ h. absurd cc
      | false ↦ λ h. ap (λ ys. x ∷ ys) (mark_unset number es h)
    ] is
