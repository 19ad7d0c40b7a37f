-- The requests of a slab in the order of their keys, as the slab and the keys change.
use Rattle.std.proofs.Common.{◌≡◌, ℕ, Bool, true, false, cond, is_some, filter, List, [], ◌∷◌, ◌++◌, Some, None, refl, sym, ap, subst, ◌∙◌}
use Rattle.std.specs.Prelude.{Option}
use Rattle.std.specs.List.{find, AllByRecursion as Each}
use Rattle.std.specs.Map.{keys_of, values_of, lookup, remove_entry, set_value}
use Rattle.std.specs.Option.{option_map}
use Rattle.slab.specs.Slab.{Slab, get, ContainsKey, Updates}
use Rattle.redir_host.specs.declared.state.request.Request.{Request}
use Rattle.redir_host.specs.inner.Requests.{under, requests_of}
use Rattle.redir_host.specs.inner.Waiting.{Differ, if_there, is_key_of}
use Rattle.redir_host.proofs.lemmas.state.Each.{each_appended}
use Rattle.redir_host.proofs.lemmas.state.Numbered.{at}

abbrev pub Held : Slab Request → List (ℕ × ℕ) → Type 0
Held s es = Each (λ (e : ℕ × ℕ). ContainsKey s e.1) es

-- no key of the list is this one
abbrev pub Without : ℕ → List (ℕ × ℕ) → Type 0
Without key es = Each (λ (e : ℕ × ℕ). e.1 ≡ key → ⊥) es

-- each key of the list has in t what it has in s
abbrev pub Same : Slab Request → Slab Request → List (ℕ × ℕ) → Type 0
Same s t es = Each (λ (e : ℕ × ℕ). get t e.1 ≡ get s e.1) es

-- ---- a slab that has the same under these keys

pub same_without : (s t : Slab Request) (key : ℕ) (slot : Option Request) (es : List (ℕ × ℕ)) → Updates s t key slot → Without key es → Same s t es
same_without s t key slot [] updates others = tt
same_without s t key slot (e ∷ es) updates others = (updates.others e.1 others.0, same_without s t key slot es updates others.1)

pub same_requests : (s t : Slab Request) (es : List (ℕ × ℕ)) → Same s t es → requests_of t es ≡ requests_of s es
same_requests s t [] same = refl
same_requests s t (e ∷ es) same = λ i. under e.0 (same.0 i) (same_requests s t es same.1 i)

pub same_held : (s t : Slab Request) (es : List (ℕ × ℕ)) → Same s t es → Held s es → Held t es
same_held s t [] same held = tt
same_held s t (e ∷ es) same held = (ap is_some same.0 ∙ held.0, same_held s t es same.1 held.1)

pub same_keys : (p : Request → Bool) (s t : Slab Request) (es : List (ℕ × ℕ)) → Same s t es → filter (is_key_of p t) es ≡ filter (is_key_of p s) es
same_keys p s t [] same = refl
same_keys p s t (e ∷ es) same = λ i. cond (if_there p (same.0 i)) (e ∷ same_keys p s t es same.1 i) (same_keys p s t es same.1 i)

-- ---- all of them

keys_under : (n : ℕ) (o : Option Request) (qs : List (ℕ × Request)) → is_some o ≡ true → keys_of (under n o qs) ≡ n ∷ keys_of qs
keys_under n None qs is = absurd cc
keys_under n (Some q) qs is = refl

pub numbers_same : (s : Slab Request) (es : List (ℕ × ℕ)) → Held s es → keys_of (requests_of s es) ≡ keys_of es
numbers_same s [] held = refl
numbers_same s (e ∷ es) held = keys_under e.0 (get s e.1) (requests_of s es) held.0 ∙ ap (λ ks. e.0 ∷ ks) (numbers_same s es held.1)

at_found : Slab Request → Option (ℕ × ℕ) → Option Request
at_found s None = None
at_found s (Some e) = get s e.1

value_under : (p : Request → Bool) (n : ℕ) (o : Option Request) (qs : List (ℕ × Request)) → find p (values_of (under n o qs)) ≡ cond (if_there p o) o (find p (values_of qs))
value_under p n None qs = refl
value_under p n (Some q) qs = refl

found_value : (p : Request → Bool) (s : Slab Request) (es : List (ℕ × ℕ)) → find p (values_of (requests_of s es)) ≡ at_found s (find (is_key_of p s) es)
unfolding at_found
found_value p s [] = refl
found_value p s (e ∷ es) =
    value_under p e.0 (get s e.1) (requests_of s es)
    ∙ (elim (is_key_of p s e) as (λ (b : Bool). cond b (get s e.1) (find p (values_of (requests_of s es))) ≡ at_found s (cond b (Some e) (find (is_key_of p s) es))) [
      | true ↦ refl
      | false ↦ found_value p s es
    ])

pub some_value : (p : Request → Bool) (s : Slab Request) (es : List (ℕ × ℕ)) (e : ℕ × ℕ) → find (is_key_of p s) es ≡ Some e → find p (values_of (requests_of s es)) ≡ get s e.1
unfolding at_found
some_value p s es e is = found_value p s es ∙ ap (at_found s) is

pub none_value : (p : Request → Bool) (s : Slab Request) (es : List (ℕ × ℕ)) → find (is_key_of p s) es ≡ None → find p (values_of (requests_of s es)) ≡ None
unfolding at_found
none_value p s es is = found_value p s es ∙ ap (at_found s) is

pub found_kept : (p : Request → Bool) (s : Slab Request) (es : List (ℕ × ℕ)) → is_some (find p (values_of (requests_of s es))) ≡ true → is_some (find (is_key_of p s) es) ≡ true
found_kept p s es is = by (find (is_key_of p s) es) refl
  where
    by : (o : Option (ℕ × ℕ)) → find (is_key_of p s) es ≡ o → is_some (find (is_key_of p s) es) ≡ true
    by (Some e) found = ap is_some found
    by None none = let no : false ≡ true = sym (ap is_some (none_value p s es none)) ∙ is in absurd cc

-- a test of the number, too
abbrev pub is_entry_of : (ℕ × Request → Bool) → Slab Request → ℕ × ℕ → Bool
is_entry_of t s e = if_there (λ q. t (e.0, q)) (get s e.1)

entry_under : (t : ℕ × Request → Bool) (n : ℕ) (o : Option Request) (qs : List (ℕ × Request)) → find t (under n o qs) ≡ cond (if_there (λ q. t (n, q)) o) (option_map (λ q. (n, q)) o) (find t qs)
entry_under t n None qs = refl
entry_under t n (Some q) qs = refl

pub some_entry : (t : ℕ × Request → Bool) (s : Slab Request) (es : List (ℕ × ℕ)) (e : ℕ × ℕ) (q : Request) → find (is_entry_of t s) es ≡ Some e → get s e.1 ≡ Some q → find t (requests_of s es) ≡ Some (e.0, q)
some_entry t s [] e q is has = absurd cc
some_entry t s (x ∷ es) e q is has =
    entry_under t x.0 (get s x.1) (requests_of s es)
    ∙ (elim (is_entry_of t s x) as (λ (b : Bool). cond b (Some x) (find (is_entry_of t s) es) ≡ Some e → cond b (option_map (λ r. (x.0, r)) (get s x.1)) (find t (requests_of s es)) ≡ Some (e.0, q)) [
      | true ↦ λ h. let same : x ≡ e = cc in (λ i. option_map (λ r. ((same i).0, r)) (get s (same i).1)) ∙ ap (option_map (λ r. (e.0, r))) has
      | false ↦ λ h. some_entry t s es e q h has
    ] is)

pub none_entry : (t : ℕ × Request → Bool) (s : Slab Request) (es : List (ℕ × ℕ)) → find (is_entry_of t s) es ≡ None → find t (requests_of s es) ≡ None
none_entry t s [] is = refl
none_entry t s (x ∷ es) is =
    entry_under t x.0 (get s x.1) (requests_of s es)
    ∙ (elim (is_entry_of t s x) as (λ (b : Bool). cond b (Some x) (find (is_entry_of t s) es) ≡ None → cond b (option_map (λ r. (x.0, r)) (get s x.1)) (find t (requests_of s es)) ≡ None) [
      | true ↦ λ h. absurd cc
      | false ↦ λ h. none_entry t s es h
    ] is)

-- what passes a test is there
pub there : (p : Request → Bool) (o : Option Request) → if_there p o ≡ true → (q : Request) × ((o ≡ Some q) × (p q ≡ true))
there p None is = absurd cc
there p (Some q) is = (q, (refl, is))

pub looked_each : (P : ℕ → Type 0) (n k : ℕ) (es : List (ℕ × ℕ)) → Each (λ (e : ℕ × ℕ). P e.1) es → lookup (at n) es ≡ Some k → P k
looked_each P n k [] each is = absurd cc
looked_each P n k (e ∷ es) each is =
    elim (at n e.0) as (λ (b : Bool). cond b (Some e.1) (lookup (at n) es) ≡ Some k → P k) [
      | true ↦ λ h. let same : e.1 ≡ k = cc in subst P same each.0
      | false ↦ λ h. looked_each P n k es each.1 h
    ] is

-- ---- one more

pub without_new : (s : Slab Request) (key : ℕ) (es : List (ℕ × ℕ)) → get s key ≡ None → Held s es → Without key es
without_new s key [] none held = tt
without_new s key (e ∷ es) none held = (λ same. let no : false ≡ true = sym (ap is_some (ap (get s) same ∙ none)) ∙ held.0 in absurd cc, without_new s key es none held.1)

appended_under : (n : ℕ) (o : Option Request) (qs rs : List (ℕ × Request)) → under n o (qs ++ rs) ≡ under n o qs ++ rs
appended_under n None qs rs = refl
appended_under n (Some q) qs rs = refl

pub requests_put : (s : Slab Request) (es : List (ℕ × ℕ)) (n key : ℕ) (q : Request) → get s key ≡ Some q → requests_of s (es ++ (n, key) ∷ []) ≡ requests_of s es ++ (n, q) ∷ []
requests_put s [] n key q is = ap (λ o. under n o []) is
requests_put s (e ∷ es) n key q is = ap (under e.0 (get s e.1)) (requests_put s es n key q is) ∙ appended_under e.0 (get s e.1) (requests_of s es) ((n, q) ∷ [])

pub differ_put : (es : List (ℕ × ℕ)) (n key : ℕ) → Differ es → Without key es → Differ (es ++ (n, key) ∷ [])
differ_put [] n key differ others = (tt, tt)
differ_put (e ∷ es) n key differ others =
    (each_appended (λ (x : ℕ × ℕ). x.1 ≡ e.1 → ⊥) es (n, key) differ.0 (λ same. others.0 (sym same)), differ_put es n key differ.1 others.1)

-- ---- one less

pub without_taken : (n key : ℕ) (es : List (ℕ × ℕ)) → Differ es → lookup (at n) es ≡ Some key → Without key (remove_entry (at n) es)
without_taken n key [] differ is = tt
without_taken n key (e ∷ es) differ is =
    elim (at n e.0) as (λ (b : Bool). cond b (Some e.1) (lookup (at n) es) ≡ Some key → Without key (cond b es (e ∷ remove_entry (at n) es))) [
      | true ↦ λ h. let same : e.1 ≡ key = cc in subst (λ k. Without k es) same differ.0
      | false ↦ λ h. (λ same. looked_each (λ k. k ≡ e.1 → ⊥) n key es differ.0 h (sym same), without_taken n key es differ.1 h)
    ] is

removed_under : (t : ℕ → Bool) (n : ℕ) (o : Option Request) (qs : List (ℕ × Request)) → is_some o ≡ true → cond (t n) qs (under n o (remove_entry t qs)) ≡ remove_entry t (under n o qs)
removed_under t n None qs is = absurd cc
removed_under t n (Some q) qs is = refl

pub requests_removed : (s : Slab Request) (t : ℕ → Bool) (es : List (ℕ × ℕ)) → Held s es → requests_of s (remove_entry t es) ≡ remove_entry t (requests_of s es)
requests_removed s t [] held = refl
requests_removed s t (e ∷ es) held =
    (elim (t e.0) as (λ (b : Bool). requests_of s (cond b es (e ∷ remove_entry t es)) ≡ cond b (requests_of s es) (under e.0 (get s e.1) (remove_entry t (requests_of s es)))) [
      | true ↦ refl
      | false ↦ ap (under e.0 (get s e.1)) (requests_removed s t es held.1)
    ])
    ∙ removed_under t e.0 (get s e.1) (requests_of s es) held.0

pub each_removed : (P : ℕ × ℕ → Type 0) (t : ℕ → Bool) (es : List (ℕ × ℕ)) → Each P es → Each P (remove_entry t es)
each_removed P t [] each = tt
each_removed P t (e ∷ es) each = elim (t e.0) as (λ (b : Bool). Each P (cond b es (e ∷ remove_entry t es))) [ true ↦ each.1 | false ↦ (each.0, each_removed P t es each.1) ]

pub differ_removed : (t : ℕ → Bool) (es : List (ℕ × ℕ)) → Differ es → Differ (remove_entry t es)
differ_removed t [] differ = tt
differ_removed t (e ∷ es) differ =
    elim (t e.0) as (λ (b : Bool). Differ (cond b es (e ∷ remove_entry t es))) [ true ↦ differ.1 | false ↦ (each_removed (λ (x : ℕ × ℕ). x.1 ≡ e.1 → ⊥) t es differ.0, differ_removed t es differ.1) ]

-- ---- one that is written

set_under : (t : ℕ → Bool) (n : ℕ) (o : Option Request) (qs : List (ℕ × Request)) (r : Request) → is_some o ≡ true → set_value t (under n o qs) r ≡ cond (t n) ((n, r) ∷ qs) (under n o (set_value t qs r))
set_under t n None qs r is = absurd cc
set_under t n (Some q) qs r is = refl

pub requests_set : (s t : Slab Request) (n key : ℕ) (r : Request) (es : List (ℕ × ℕ)) → Held s es → Differ es → lookup (at n) es ≡ Some key → Updates s t key (Some r) → requests_of t es ≡ set_value (at n) (requests_of s es) r
requests_set s t n key r [] held differ is updates = absurd cc
requests_set s t n key r (e ∷ es) held differ is updates =
    (elim (at n e.0) as (λ (b : Bool). cond b (Some e.1) (lookup (at n) es) ≡ Some key → under e.0 (get t e.1) (requests_of t es) ≡ cond b ((e.0, r) ∷ requests_of s es) (under e.0 (get s e.1) (set_value (at n) (requests_of s es) r))) [
      | true ↦ λ h.
          let same : e.1 ≡ key = cc in
          let others = subst (λ k. Without k es) same differ.0 in
          let own : get t e.1 ≡ Some r = ap (get t) same ∙ updates.changed in
          λ i. under e.0 (own i) (same_requests s t es (same_without s t key (Some r) es updates others) i)
      | false ↦ λ h.
          let other = updates.others e.1 (λ same. looked_each (λ k. k ≡ e.1 → ⊥) n key es differ.0 h (sym same)) in
          λ i. under e.0 (other i) (requests_set s t n key r es held.1 differ.1 h updates i)
    ] is)
    ∙ sym (set_under (at n) e.0 (get s e.1) (requests_of s es) r held.0)
