-- What stays of requests and their keys, where some are dropped.
use Rattle.std.proofs.Common.{◌≡◌, ◌+◌, ◌∙◌, ℕ, zero, suc, Bool, MutBor, true, false, cond, filter, get_or, is_some, length, List, [], ◌∷◌, Some, None, refl, sym, ap, subst}
use Rattle.std.specs.Prelude.{Option}
use Rattle.std.specs.BTreeMap.{BTreeMap, IsOrdered}
use Rattle.std.specs.Ordering.{nat_cmp}
use Rattle.std.proofs.lemmas.Map.Entries.{option_filter}
use Rattle.slab.specs.Slab.{Slab, get, RetainsFrom}
use Rattle.usb_base.specs.declared.endpoint.TheConstants.{ENDPOINTS}
use Rattle.redir_host.specs.declared.state.request.Request.{Request}
use Rattle.redir_host.specs.declared.state.waiting.Waiting.{Waiting}
use Rattle.redir_host.specs.inner.Requests.{requests_of, under}
use Rattle.redir_host.specs.inner.Waiting.{Differ, IsIndexed, if_there, is_key_of, is_listed, numbered, place_of}
use Rattle.redir_host.specs.state.Queues.{is_at}
use Rattle.redir_host.proofs.lemmas.state.Each.{each_filtered}
use Rattle.redir_host.proofs.lemmas.state.Keyed.{Held}
use Rattle.redir_host.proofs.lemmas.state.Listed.{listed_filtered}
use Rattle.redir_host.proofs.lemmas.state.Numbered.{Below, below_filtered}

-- what is under a key, where the calls only test it
pub retained : {F : Type 0} (R : F → ℕ → MutBor Request → Bool → MutBor Request → F → Type 0) (I : F → Type 0) (stays : Request → Bool) →
    ((g : F) (k : ℕ) (a : MutBor Request) (keep : Bool) (b : MutBor Request) (next : F) → I g → R g k a keep b next → (keep ≡ stays a.now) × (b.now ≡ a.now) × I next) →
    (f : F) (key : ℕ) (old kept : List (Option Request)) → I f → RetainsFrom R f key old kept → (k : ℕ) → get_or kept k None ≡ option_filter stays (get_or old k None)
retained R I stays says f key [] kept i is k = ap (λ l. get_or l k None) is
retained R I stays says f key (None ∷ old) kept i is zero = ap (λ l. get_or l 0 None) is.1
retained R I stays says f key (None ∷ old) kept i is (suc k) = ap (λ l. get_or l (suc k) None) is.1 ∙ retained R I stays says f (key + 1) old is.0 i is.2 k
retained R I stays says f key (Some q ∷ old) kept i is k = by (retained R I stays says is.2 (key + 1) old is.4 told.2 is.6) k
  where
    told : (is.0 ≡ stays is.3.shown.now) × (is.3.left.now ≡ is.3.shown.now) × I is.2
    told = says f key is.3.shown is.0 is.3.left is.2 i is.3.called

    by : ((k : ℕ) → get_or is.4 k None ≡ option_filter stays (get_or old k None)) → (k : ℕ) → get_or kept k None ≡ option_filter stays (get_or (Some q ∷ old) k None)
    by rest zero =
        ap (λ l. get_or l 0 None) is.5 ∙ ap (λ (b : Bool). cond b (Some is.1) None) (told.0 ∙ ap stays is.3.shows) ∙ ap (λ r. cond (stays q) (Some r) None) (sym is.3.leaves ∙ told.1 ∙ is.3.shows)
    by rest (suc k) = ap (λ l. get_or l (suc k) None) is.5 ∙ rest k

-- ---- the keys that are left

abbrev pub is_there : Slab Request → ℕ × ℕ → Bool
is_there s e = is_some (get s e.1)

-- under each key of s t has what passes
abbrev pub Passed : (Request → Bool) → Slab Request → Slab Request → Type 0
Passed stays s t = (k : ℕ) → get t k ≡ option_filter stays (get s k)

filtered_under : (stays : Request → Bool) (n : ℕ) (o : Option Request) (qs : List (ℕ × Request)) → under n (option_filter stays o) (filter (λ (x : ℕ × Request). stays x.1) qs) ≡ filter (λ (x : ℕ × Request). stays x.1) (under n o qs)
filtered_under stays n None qs = refl
filtered_under stays n (Some q) qs =
    elim (stays q) as (λ (b : Bool). under n (cond b (Some q) None) (filter (λ (x : ℕ × Request). stays x.1) qs) ≡ cond b ((n, q) ∷ filter (λ (x : ℕ × Request). stays x.1) qs) (filter (λ (x : ℕ × Request). stays x.1) qs)) [ true ↦ refl | false ↦ refl ]

there_under : (t : Slab Request) (e : ℕ × ℕ) (es : List (ℕ × ℕ)) (o : Option Request) → get t e.1 ≡ o → requests_of t (cond (is_there t e) (e ∷ es) es) ≡ under e.0 (get t e.1) (requests_of t es)
there_under t e es None is = ap (λ o. requests_of t (cond (is_some o) (e ∷ es) es)) is ∙ sym (ap (λ o. under e.0 o (requests_of t es)) is)
there_under t e es (Some q) is = ap (λ o. requests_of t (cond (is_some o) (e ∷ es) es)) is

pub filtered_requests : (stays : Request → Bool) (s t : Slab Request) (es : List (ℕ × ℕ)) → Passed stays s t → requests_of t (filter (is_there t) es) ≡ filter (λ (x : ℕ × Request). stays x.1) (requests_of s es)
filtered_requests stays s t [] passed = refl
filtered_requests stays s t (e ∷ es) passed =
    there_under t e (filter (is_there t) es) (get t e.1) refl ∙ (λ i. under e.0 (passed e.1 i) (filtered_requests stays s t es passed i)) ∙ filtered_under stays e.0 (get s e.1) (requests_of s es)

one_filtered : {X : Type 0} (c : X → Bool) (e : X) (es : List X) (b : Bool) → filter c (cond b (e ∷ es) es) ≡ cond b (cond (c e) (e ∷ filter c es) (filter c es)) (filter c es)
one_filtered c e es true = refl
one_filtered c e es false = refl

both_tests : (stays p : Request → Bool) (o : Option Request) (xs ys : List (ℕ × ℕ)) → cond (if_there p o) (cond (is_some (option_filter stays o)) xs ys) ys ≡ cond (is_some (option_filter stays o)) (cond (if_there p (option_filter stays o)) xs ys) ys
both_tests stays p None xs ys = refl
both_tests stays p (Some q) xs ys =
    elim (stays q) as (λ (b : Bool). cond (p q) (cond (is_some (cond b (Some q) None)) xs ys) ys ≡ cond (is_some (cond b (Some q) None)) (cond (if_there p (cond b (Some q) None)) xs ys) ys) [
      | true ↦ refl
      | false ↦ (elim (p q) as (λ (c : Bool). cond c ys ys ≡ ys) [ true ↦ refl | false ↦ refl ])
    ]

pub filtered_keys : (stays p : Request → Bool) (s t : Slab Request) (es : List (ℕ × ℕ)) → Passed stays s t → filter (is_there t) (filter (is_key_of p s) es) ≡ filter (is_key_of p t) (filter (is_there t) es)
filtered_keys stays p s t [] passed = refl
filtered_keys stays p s t (e ∷ es) passed =
    let left = filter (is_key_of p t) (filter (is_there t) es) in
    one_filtered (is_there t) e (filter (is_key_of p s) es) (is_key_of p s e)
    ∙ (λ i. cond (is_key_of p s e) (cond (is_there t e) (e ∷ filtered_keys stays p s t es passed i) (filtered_keys stays p s t es passed i)) (filtered_keys stays p s t es passed i))
    ∙ ap (λ o. cond (is_key_of p s e) (cond (is_some o) (e ∷ left) left) left) (passed e.1)
    ∙ both_tests stays p (get s e.1) (e ∷ left) left
    ∙ ap (λ o. cond (is_some o) (cond (if_there p o) (e ∷ left) left) left) (sym (passed e.1))
    ∙ sym (one_filtered (is_key_of p t) e (filter (is_there t) es) (is_there t e))

filtered_held : (t : Slab Request) (es : List (ℕ × ℕ)) → Held t (filter (is_there t) es)
filtered_held t [] = tt
filtered_held t (e ∷ es) = by (is_there t e) refl (filtered_held t es)
  where
    by : (b : Bool) → is_there t e ≡ b → Held t (filter (is_there t) es) → Held t (cond b (e ∷ filter (is_there t) es) (filter (is_there t) es))
    by true is rest = (is, rest)
    by false is rest = rest

differ_filtered : (p : ℕ × ℕ → Bool) (es : List (ℕ × ℕ)) → Differ es → Differ (filter p es)
differ_filtered p [] differ = tt
differ_filtered p (e ∷ es) differ =
    elim (p e) as (λ (b : Bool). Differ (cond b (e ∷ filter p es) (filter p es))) [ true ↦ (each_filtered (λ (x : ℕ × ℕ). x.1 ≡ e.1 → ⊥) p es differ.0, differ_filtered p es differ.1) | false ↦ differ_filtered p es differ.1 ]

was_there : (stays : Request → Bool) (o : Option Request) → is_some (option_filter stays o) ≡ true → is_some o ≡ true
was_there stays None is = absurd cc
was_there stays (Some q) is = refl

pub numbered_filtered : (w : Waiting) (stays : Request → Bool) (t : Slab Request) (es : List (ℕ × ℕ)) → Passed stays w.requests t → es ≡ filter (is_there t) w.order.entries → requests_of t es ≡ filter (λ (x : ℕ × Request). stays x.1) (numbered w)
numbered_filtered w stays t es passed left = ap (requests_of t) left ∙ filtered_requests stays w.requests t w.order.entries passed

pub indexed_filtered : (w : Waiting) (stays : Request → Bool) (t : Slab Request) (order : BTreeMap ℕ ℕ) (queues : List (List (ℕ × ℕ))) → IsIndexed w → Passed stays w.requests t → IsOrdered nat_cmp order → order.entries ≡ filter (is_there t) w.order.entries →
    length queues ≡ ENDPOINTS → ((i : ℕ) → get_or queues i [] ≡ filter (is_there t) (get_or w.queues i [])) → IsIndexed (record w { requests = t; order = order; queues = queues })
indexed_filtered w stays t order queues i passed ordered left places are =
    let es = w.order.entries in
    let back = sym left in
    record {
      ordered = ordered;
      below = subst (Below w.next) back (below_filtered (is_there t) w.next es i.below);
      room = i.room;
      differ = subst Differ back (differ_filtered (is_there t) es i.differ);
      held = subst (Held t) back (filtered_held t es);
      only = λ k is. subst (λ fs. is_listed k fs ≡ true) back (listed_filtered (is_there t) k es (λ e same. ap (λ m. is_some (get t m)) same ∙ is) (i.only k (was_there stays (get w.requests k) (sym (ap is_some (passed k)) ∙ is))));
      places = places;
      queues = λ ep is. are (place_of ep) ∙ ap (filter (is_there t)) (i.queues ep is) ∙ filtered_keys stays (is_at ep) w.requests t es passed ∙ ap (filter (is_key_of (is_at ep) t)) back;
    }
