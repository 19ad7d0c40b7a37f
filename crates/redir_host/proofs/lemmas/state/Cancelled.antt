-- What a cancel leaves of requests under numbers that rise.
use Rattle.std.proofs.Common.{◌≡◌, ◌<◌, ◌==◌, ◌&&◌, ◌||◌, ℕ, Bool, true, false, cond, not, List, [], ◌∷◌, Some, refl, sym, ap, subst, ◌∙◌, arith, inl, inr}
use Rattle.std.specs.Prelude.{nat_le}
use Rattle.std.specs.List.{find, list_any}
use Rattle.std.specs.Map.{values_of, remove_entry}
use Rattle.std.specs.Option.{option_map}
use Rattle.std.proofs.lemmas.Bool.{cases_Bool, eqb-true, le-leb, leb-true}
use Rattle.usb_base.specs.Endpoint.{is_control}
use Rattle.redir_host.specs.declared.state.request.Request.{Request}
use Rattle.redir_host.specs.guest.Cancels.{CancelsOne}
use Rattle.redir_host.specs.inner.Waiting.{is_from, marked_from}
use Rattle.redir_host.specs.state.Queues.{after_cancel, is_cancelled_by, is_first_queue, leaves_mark, marked, queue_of, with_first_marked}
use Rattle.redir_host.proofs.lemmas.state.Numbered.{Above, Sorted, at, find_value, found_above, head_above, removed_behind, removed_here, tail_sorted}

control_is : (ep : ℕ) → (queue_of ep == 0) ≡ is_control ep
control_is ep = by (is_control ep) refl
  where
    by : (b : Bool) → is_control ep ≡ b → (queue_of ep == 0) ≡ is_control ep
    by true e = ap (λ (b : Bool). cond b 0 ep == 0) e ∙ sym e
    by false e = ap (λ (b : Bool). cond b 0 ep == 0) e
        ∙ elim (cases_Bool (ep == 0)) [ inl none ↦ absurd (let no : true ≡ false = sym (ap is_control (eqb-true ep 0 none)) ∙ e in cc) | inr some ↦ some ∙ sym e ]

-- behind a number all of endpoint 0 are of its queue from there on
from_there : (n : ℕ) (x : ℕ × Request) → n < x.0 → is_from 0 n x ≡ is_first_queue x.1
from_there n x above = λ i. le-leb n x.0 (omega (arith, above)) i && control_is x.1.transfer.ep i

before_it : (n : ℕ) (x : ℕ × Request) → x.0 < n → is_from 0 n x ≡ false
before_it n x below = ap (λ (b : Bool). b && (queue_of x.1.transfer.ep == 0)) less
  where
    less : nat_le n x.0 ≡ false
    less = elim (cases_Bool (nat_le n x.0)) [ inl from ↦ absurd (let le = leb-true n x.0 from in omega (arith, below, le)) | inr before ↦ before ]

marked_behind : (n : ℕ) (es : List (ℕ × Request)) → Above n es → values_of (marked_from n es) ≡ with_first_marked (values_of es)
marked_behind n [] above = refl
marked_behind n (x ∷ es) above =
    ap (λ (b : Bool). values_of (cond b ((x.0, marked x.1) ∷ es) (x ∷ marked_from n es))) (from_there n x above.0)
    ∙ (elim (is_first_queue x.1) as (λ (b : Bool). values_of (cond b ((x.0, marked x.1) ∷ es) (x ∷ marked_from n es)) ≡ cond b (marked x.1 ∷ values_of es) (x.1 ∷ with_first_marked (values_of es))) [
      | true ↦ refl
      | false ↦ ap (λ qs. x.1 ∷ qs) (marked_behind n es above.1)
    ])

any_behind : (n : ℕ) (es : List (ℕ × Request)) → Above n es → list_any (is_from 0 n) es ≡ list_any is_first_queue (values_of es)
any_behind n [] above = refl
any_behind n (x ∷ es) above = λ i. from_there n x above.0 i || any_behind n es above.1 i

-- what is left, with the mark passed on
abbrev pub left_of : ℕ × Request → List (ℕ × Request) → List (ℕ × Request)
left_of e es = cond e.1.reset (marked_from e.0 (remove_entry (at e.0) es)) (remove_entry (at e.0) es)

abbrev pub leaves_of : ℕ × Request → List (ℕ × Request) → Bool
leaves_of e es = e.1.reset && not (list_any (is_from 0 e.0) (remove_entry (at e.0) es))

rest_here : (x : ℕ × Request) (es : List (ℕ × Request)) → Above x.0 es → cond x.1.reset (with_first_marked (values_of es)) (values_of es) ≡ values_of (left_of x (x ∷ es))
rest_here x es above =
    (elim (x.1.reset) as (λ (b : Bool). cond b (with_first_marked (values_of es)) (values_of es) ≡ values_of (cond b (marked_from x.0 es) es)) [ true ↦ sym (marked_behind x.0 es above) | false ↦ refl ])
    ∙ ap (λ ys. values_of (cond x.1.reset (marked_from x.0 ys) ys)) (sym (removed_here x es))

rest_behind : (x e : ℕ × Request) (es : List (ℕ × Request)) → x.0 < e.0 → x.1 ∷ values_of (left_of e es) ≡ values_of (left_of e (x ∷ es))
rest_behind x e es less =
    (elim (e.1.reset) as (λ (b : Bool). x.1 ∷ values_of (cond b (marked_from e.0 (remove_entry (at e.0) es)) (remove_entry (at e.0) es)) ≡ values_of (cond b (marked_from e.0 (x ∷ remove_entry (at e.0) es)) (x ∷ remove_entry (at e.0) es))) [
      | true ↦ sym (ap (λ (b : Bool). values_of (cond b ((x.0, marked x.1) ∷ remove_entry (at e.0) es) (x ∷ marked_from e.0 (remove_entry (at e.0) es)))) (before_it e.0 x less))
      | false ↦ refl
    ])
    ∙ ap (λ ys. values_of (cond e.1.reset (marked_from e.0 ys) ys)) (sym (removed_behind x es e.0 less))

rest_is : (id : ℕ) (es : List (ℕ × Request)) (e : ℕ × Request) → Sorted es → find (λ (y : ℕ × Request). is_cancelled_by id y.1) es ≡ Some e → after_cancel id (values_of es) ≡ values_of (left_of e es)
rest_is id [] e s is = absurd cc
rest_is id (x ∷ es) e s is =
    elim (is_cancelled_by id x.1) as (λ (b : Bool). cond b (Some x) (find (λ (y : ℕ × Request). is_cancelled_by id y.1) es) ≡ Some e → cond b (cond x.1.reset (with_first_marked (values_of es)) (values_of es)) (x.1 ∷ after_cancel id (values_of es)) ≡ values_of (left_of e (x ∷ es))) [
      | true ↦ λ h. let same : x ≡ e = cc in subst (λ (y : ℕ × Request). cond x.1.reset (with_first_marked (values_of es)) (values_of es) ≡ values_of (left_of y (x ∷ es))) same (rest_here x es (head_above x es s))
      | false ↦ λ h. ap (λ qs. x.1 ∷ qs) (rest_is id es e (tail_sorted x es s) h) ∙ rest_behind x e es (found_above x.0 (λ (y : ℕ × Request). is_cancelled_by id y.1) es e (head_above x es s) h)
    ] is

leaves_here : (x : ℕ × Request) (es : List (ℕ × Request)) → Above x.0 es → (x.1.reset && not (list_any is_first_queue (values_of es))) ≡ leaves_of x (x ∷ es)
leaves_here x es above = ap (λ (b : Bool). x.1.reset && not b) (sym (any_behind x.0 es above)) ∙ ap (λ ys. x.1.reset && not (list_any (is_from 0 x.0) ys)) (sym (removed_here x es))

leaves_behind : (x e : ℕ × Request) (es : List (ℕ × Request)) → x.0 < e.0 → leaves_of e es ≡ leaves_of e (x ∷ es)
leaves_behind x e es less =
    ap (λ (b : Bool). e.1.reset && not (b || list_any (is_from 0 e.0) (remove_entry (at e.0) es))) (sym (before_it e.0 x less)) ∙ ap (λ ys. e.1.reset && not (list_any (is_from 0 e.0) ys)) (sym (removed_behind x es e.0 less))

leaves_is : (id : ℕ) (es : List (ℕ × Request)) (e : ℕ × Request) → Sorted es → find (λ (y : ℕ × Request). is_cancelled_by id y.1) es ≡ Some e → leaves_mark id (values_of es) ≡ leaves_of e es
leaves_is id [] e s is = absurd cc
leaves_is id (x ∷ es) e s is =
    elim (is_cancelled_by id x.1) as (λ (b : Bool). cond b (Some x) (find (λ (y : ℕ × Request). is_cancelled_by id y.1) es) ≡ Some e → cond b (x.1.reset && not (list_any is_first_queue (values_of es))) (leaves_mark id (values_of es)) ≡ leaves_of e (x ∷ es)) [
      | true ↦ λ h. let same : x ≡ e = cc in subst (λ (y : ℕ × Request). (x.1.reset && not (list_any is_first_queue (values_of es))) ≡ leaves_of y (x ∷ es)) same (leaves_here x es (head_above x es s))
      | false ↦ λ h. leaves_is id es e (tail_sorted x es s) h ∙ leaves_behind x e es (found_above x.0 (λ (y : ℕ × Request). is_cancelled_by id y.1) es e (head_above x es s) h)
    ] is

-- what was taken out is what the cancel is for, and its mark went on
pub took_cancelled : (id : ℕ) (es : List (ℕ × Request)) (e : ℕ × Request) (ys : List (ℕ × Request)) (left : Bool) → Sorted es → find (λ (y : ℕ × Request). is_cancelled_by id y.1) es ≡ Some e → ys ≡ left_of e es → left ≡ leaves_of e es →
    CancelsOne (record { request = e.1; leaves_mark = left }) id (values_of es) (values_of ys)
took_cancelled id es e ys left s is rest leaves = record {
  request = find_value (is_cancelled_by id) es ∙ ap (option_map (λ (x : ℕ × Request). x.1)) is;
  leaves = leaves ∙ sym (leaves_is id es e s is);
  rest = ap values_of rest ∙ sym (rest_is id es e s is);
}
