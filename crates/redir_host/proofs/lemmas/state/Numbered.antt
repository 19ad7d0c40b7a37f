-- Requests under numbers that rise, as the list of them.
use Rattle.std.proofs.Common.{◌≡◌, ◌<◌, ◌+◌, ℕ, Bool, true, false, cond, filter, List, [], ◌∷◌, ◌++◌, Some, refl, ap, subst, ◌∙◌, arith}
use Rattle.std.specs.BTreeMap.{insert_entry}
use Rattle.std.specs.BTreeMap.{is_at as is_key}
use Rattle.std.specs.List.{find, AllByRecursion}
use Rattle.std.specs.List.Sorted.{IsStrictlySortedBy}
use Rattle.std.specs.Map.{keys_of, values_of, lookup, remove_entry}
use Rattle.std.specs.Option.{option_map}
use Rattle.std.specs.Ordering.{nat_cmp, is_eq, match_ordering, MatchOrdering}
use Rattle.std.specs.declared.cmp.Ordering.TheVariants.{Less, Greater}
use Rattle.std.proofs.lemmas.Cmp.{ranked, by_ranked, tied_itself, nat_cmp_total}
use Rattle.std.proofs.lemmas.Map.Keys.{sorted_head, sorted_tail}
use Rattle.redir_host.specs.declared.state.request.Request.{Request}
use Rattle.usb_base.specs.Firsts.{without_first}

-- ---- numbers, compared

abbrev pub at : ℕ → ℕ → Bool
at n = is_key (nat_cmp n)

pub at_itself : (n : ℕ) → at n n ≡ true
at_itself n = ap is_eq (tied_itself nat_cmp_total n)

pub apart : (a b : ℕ) → (a ≡ b → ⊥) → at a b ≡ false
apart a b differ = by_ranked (a < b) (a ≡ b) (b < a) (nat_cmp a b) (ranked a b (nat_cmp a b) refl) (λ e less. ap is_eq e) (λ e same. absurd (differ same)) (λ e more. ap is_eq e)

less_from : (a b : ℕ) → nat_cmp a b ≡ Less → a < b
less_from a b e = subst (λ o. MatchOrdering o (a < b) (a ≡ b) (b < a)) e (ranked a b (nat_cmp a b) refl)

greater : (a b : ℕ) → b < a → nat_cmp a b ≡ Greater
greater a b more = by_ranked (a < b) (a ≡ b) (b < a) (nat_cmp a b) (ranked a b (nat_cmp a b) refl) (λ e less. absurd (omega arith)) (λ e same. absurd (omega arith)) (λ e is. e)

-- ---- what stands in order

abbrev pub Sorted : {X : Type 0} → List (ℕ × X) → Type 0
Sorted es = IsStrictlySortedBy nat_cmp (keys_of es)

abbrev pub Above : {X : Type 0} → ℕ → List (ℕ × X) → Type 0
Above n es = AllByRecursion (λ e. n < e.0) es

abbrev pub Below : {X : Type 0} → ℕ → List (ℕ × X) → Type 0
Below n es = AllByRecursion (λ e. e.0 < n) es

above_from : {X : Type 0} → (n : ℕ) (es : List (ℕ × X)) → AllByRecursion (λ y. nat_cmp n y ≡ Less) (keys_of es) → Above n es
above_from n [] all = tt
above_from n (e ∷ es) all = (less_from n e.0 all.0, above_from n es all.1)

pub head_above : {X : Type 0} → (e : ℕ × X) (es : List (ℕ × X)) → Sorted (e ∷ es) → Above e.0 es
head_above e es s = above_from e.0 es (sorted_head nat_cmp e.0 (keys_of es) s)

pub tail_sorted : {X : Type 0} → (e : ℕ × X) (es : List (ℕ × X)) → Sorted (e ∷ es) → Sorted es
tail_sorted e es s = sorted_tail nat_cmp e.0 (keys_of es) s

pub found_above : {X : Type 0} → (n : ℕ) (t : ℕ × X → Bool) (es : List (ℕ × X)) (e : ℕ × X) → Above n es → find t es ≡ Some e → n < e.0
found_above {X = X} n t [] e above is = absurd cc
found_above {X = X} n t (x ∷ es) e above is =
    elim (t x) as (λ (b : Bool). cond b (Some x) (find t es) ≡ Some e → n < e.0) [
      | true ↦ λ h. let same : x ≡ e = cc in subst (λ (y : ℕ × X). n < y.0) same above.0
      | false ↦ λ h. found_above n t es e above.1 h
    ] is

-- ---- the first that passes a test

pub looked_here : {X : Type 0} → (x : ℕ × X) (es : List (ℕ × X)) → lookup (at x.0) (x ∷ es) ≡ Some x.1
looked_here x es = ap (λ (b : Bool). cond b (Some x.1) (lookup (at x.0) es)) (at_itself x.0)

looked_behind : {X : Type 0} → (x : ℕ × X) (es : List (ℕ × X)) (m : ℕ) → x.0 < m → lookup (at m) (x ∷ es) ≡ lookup (at m) es
looked_behind x es m less = ap (λ (b : Bool). cond b (Some x.1) (lookup (at m) es)) (apart m x.0 (λ same. omega (arith, less, same)))

pub found_lookup : {X : Type 0} → (t : ℕ × X → Bool) (es : List (ℕ × X)) (e : ℕ × X) → Sorted es → find t es ≡ Some e → lookup (at e.0) es ≡ Some e.1
found_lookup {X = X} t [] e s is = absurd cc
found_lookup {X = X} t (x ∷ es) e s is =
    elim (t x) as (λ (b : Bool). cond b (Some x) (find t es) ≡ Some e → lookup (at e.0) (x ∷ es) ≡ Some e.1) [
      | true ↦ λ h. let same : x ≡ e = cc in subst (λ (y : ℕ × X). lookup (at y.0) (x ∷ es) ≡ Some y.1) same (looked_here x es)
      | false ↦ λ h. looked_behind x es e.0 (found_above x.0 t es e (head_above x es s) h) ∙ found_lookup t es e (tail_sorted x es s) h
    ] is

-- ---- as the list of the requests

pub find_value : (p : Request → Bool) (es : List (ℕ × Request)) → find p (values_of es) ≡ option_map (λ (e : ℕ × Request). e.1) (find (λ (e : ℕ × Request). p e.1) es)
find_value p [] = refl
find_value p (x ∷ es) =
    elim (p x.1) as (λ (b : Bool). cond b (Some x.1) (find p (values_of es)) ≡ option_map (λ (e : ℕ × Request). e.1) (cond b (Some x) (find (λ (e : ℕ × Request). p e.1) es))) [
      | true ↦ refl
      | false ↦ find_value p es
    ]

pub removed_here : {X : Type 0} → (x : ℕ × X) (es : List (ℕ × X)) → remove_entry (at x.0) (x ∷ es) ≡ es
removed_here x es = ap (λ (b : Bool). cond b es (x ∷ remove_entry (at x.0) es)) (at_itself x.0)

pub removed_behind : {X : Type 0} → (x : ℕ × X) (es : List (ℕ × X)) (m : ℕ) → x.0 < m → remove_entry (at m) (x ∷ es) ≡ x ∷ remove_entry (at m) es
removed_behind x es m less = ap (λ (b : Bool). cond b es (x ∷ remove_entry (at m) es)) (apart m x.0 (λ same. omega (arith, less, same)))

pub removed : (p : Request → Bool) (es : List (ℕ × Request)) (e : ℕ × Request) → Sorted es → find (λ (x : ℕ × Request). p x.1) es ≡ Some e → values_of (remove_entry (at e.0) es) ≡ without_first p (values_of es)
removed p [] e s is = absurd cc
removed p (x ∷ es) e s is =
    elim (p x.1) as (λ (b : Bool). cond b (Some x) (find (λ (y : ℕ × Request). p y.1) es) ≡ Some e → values_of (remove_entry (at e.0) (x ∷ es)) ≡ cond b (values_of es) (x.1 ∷ without_first p (values_of es))) [
      | true ↦ λ h. let same : x ≡ e = cc in subst (λ (y : ℕ × Request). values_of (remove_entry (at y.0) (x ∷ es)) ≡ values_of es) same (ap values_of (removed_here x es))
      | false ↦ λ h. ap values_of (removed_behind x es e.0 (found_above x.0 (λ (y : ℕ × Request). p y.1) es e (head_above x es s) h)) ∙ ap (λ qs. x.1 ∷ qs) (removed p es e (tail_sorted x es s) h)
    ] is

-- one more, above all
pub inserted : {X : Type 0} → (es : List (ℕ × X)) (n : ℕ) (q : X) → Below n es → insert_entry nat_cmp es n q ≡ es ++ (n, q) ∷ []
inserted [] n q below = refl
inserted (x ∷ es) n q below =
    ap (λ o. match_ordering o ((n, q) ∷ x ∷ es) ((x.0, q) ∷ es) (x ∷ insert_entry nat_cmp es n q)) (greater n x.0 below.0) ∙ ap (λ ys. x ∷ ys) (inserted es n q below.1)

pub all_below : {X : Type 0} → (es : List (ℕ × X)) (n : ℕ) (q : X) → Below n es → Below (n + 1) (es ++ (n, q) ∷ [])
all_below [] n q below = (omega arith, tt)
all_below (x ∷ es) n q below = (omega (arith, below.0), all_below es n q below.1)

pub filter_values : (s : Request → Bool) (es : List (ℕ × Request)) → values_of (filter (λ (e : ℕ × Request). s e.1) es) ≡ filter s (values_of es)
filter_values s [] = refl
filter_values s (x ∷ es) =
    elim (s x.1) as (λ (b : Bool). values_of (cond b (x ∷ filter (λ (e : ℕ × Request). s e.1) es) (filter (λ (e : ℕ × Request). s e.1) es)) ≡ cond b (x.1 ∷ filter s (values_of es)) (filter s (values_of es))) [
      | true ↦ ap (λ qs. x.1 ∷ qs) (filter_values s es)
      | false ↦ filter_values s es
    ]

pub below_removed : {X : Type 0} → (t : ℕ → Bool) (n : ℕ) (es : List (ℕ × X)) → Below n es → Below n (remove_entry t es)
below_removed t n [] below = tt
below_removed t n (x ∷ es) below = elim (t x.0) as (λ (b : Bool). Below n (cond b es (x ∷ remove_entry t es))) [ true ↦ below.1 | false ↦ (below.0, below_removed t n es below.1) ]

pub below_filtered : {X : Type 0} → (t : ℕ × X → Bool) (n : ℕ) (es : List (ℕ × X)) → Below n es → Below n (filter t es)
below_filtered t n [] below = tt
below_filtered t n (x ∷ es) below = elim (t x) as (λ (b : Bool). Below n (cond b (x ∷ filter t es) (filter t es))) [ true ↦ (below.0, below_filtered t n es below.1) | false ↦ below_filtered t n es below.1 ]
