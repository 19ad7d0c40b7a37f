-- That a key stands in a list of keys, as the list changes.
use Rattle.std.proofs.Common.{◌≡◌, ◌==◌, ◌||◌, ◌∙◌, ℕ, Bool, true, false, cond, filter, List, [], ◌∷◌, ◌++◌, Some, refl, sym, ap, inl, inr}
use Rattle.std.specs.Map.{lookup, remove_entry}
use Rattle.std.proofs.lemmas.Bool.{cases_eq, eq-eqb, ne_eqb}
use Rattle.redir_host.specs.inner.Waiting.{is_listed}
use Rattle.redir_host.proofs.lemmas.state.Numbered.{at}

-- it is the first, or behind it
listed_by : (k : ℕ) (e : ℕ × ℕ) (es : List (ℕ × ℕ)) (b : Bool) → (e.1 == k) ≡ b → (b ≡ false → is_listed k es ≡ true) → is_listed k (e ∷ es) ≡ true
listed_by k e es true is behind = ap (λ (b : Bool). b || is_listed k es) is
listed_by k e es false is behind = ap (λ (b : Bool). b || is_listed k es) is ∙ behind refl

listed_behind : (k : ℕ) (e : ℕ × ℕ) (es : List (ℕ × ℕ)) → (e.1 == k) ≡ false → is_listed k (e ∷ es) ≡ true → is_listed k es ≡ true
listed_behind k e es other is = sym (ap (λ (b : Bool). b || is_listed k es) other) ∙ is

pub listed_front : (k : ℕ) (es fs : List (ℕ × ℕ)) → is_listed k es ≡ true → is_listed k (es ++ fs) ≡ true
listed_front k [] fs is = absurd cc
listed_front k (e ∷ es) fs is = listed_by k e (es ++ fs) (e.1 == k) refl (λ other. listed_front k es fs (listed_behind k e es other is))

pub listed_last : (n k : ℕ) (es : List (ℕ × ℕ)) → is_listed k (es ++ (n, k) ∷ []) ≡ true
listed_last n k [] = ap (λ (b : Bool). b || false) (eq-eqb k k refl)
listed_last n k (e ∷ es) = listed_by k e (es ++ (n, k) ∷ []) (e.1 == k) refl (λ other. listed_last n k es)

pub listed_taken : (n key k : ℕ) (es : List (ℕ × ℕ)) → lookup (at n) es ≡ Some key → (key ≡ k → ⊥) → is_listed k es ≡ true → is_listed k (remove_entry (at n) es) ≡ true
listed_taken n key k [] there differ is = absurd cc
listed_taken n key k (e ∷ es) there differ is =
    elim (at n e.0) as (λ (b : Bool). cond b (Some e.1) (lookup (at n) es) ≡ Some key → is_listed k (cond b es (e ∷ remove_entry (at n) es)) ≡ true) [
      | true ↦ λ h. let same : e.1 ≡ key = cc in listed_behind k e es (ne_eqb e.1 k (λ own. differ (sym same ∙ own))) is
      | false ↦ λ h. listed_by k e (remove_entry (at n) es) (e.1 == k) refl (λ other. listed_taken n key k es h differ (listed_behind k e es other is))
    ] there

pub listed_filtered : (p : ℕ × ℕ → Bool) (k : ℕ) (es : List (ℕ × ℕ)) → ((e : ℕ × ℕ) → e.1 ≡ k → p e ≡ true) → is_listed k es ≡ true → is_listed k (filter p es) ≡ true
listed_filtered p k [] passes is = absurd cc
listed_filtered p k (e ∷ es) passes is = elim (cases_eq e.1 k) [
  | inl same ↦ ap (λ (b : Bool). is_listed k (cond b (e ∷ filter p es) (filter p es))) (passes e same) ∙ ap (λ (b : Bool). b || is_listed k (filter p es)) (eq-eqb e.1 k same)
  | inr differ ↦
      let other = ne_eqb e.1 k differ in
      let rest = listed_filtered p k es passes (listed_behind k e es other is) in
      (elim (p e) as (λ (b : Bool). is_listed k (cond b (e ∷ filter p es) (filter p es)) ≡ is_listed k (filter p es)) [ true ↦ ap (λ (b : Bool). b || is_listed k (filter p es)) other | false ↦ refl ]) ∙ rest
]
