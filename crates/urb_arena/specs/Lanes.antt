-- Lanes of keys and values: what is found by a key, and what a change leaves.
use Rattle.std.specs.Prelude.{◌≡◌, ◌==◌, ℕ, ◌+◌, get_or, List, [], ◌∷◌, ◌++◌, length, Option, Some, None, if◌then◌else◌}
use Rattle.std.specs.Option.{option_or}

module _ {X : Type 0} where
  -- the value of the pair of k
  abbrev pub find : ℕ → List (ℕ × X) → Option X
  find k [] = None
  find k (p ∷ ps) = if p.0 == k then Some p.1 else find k ps

  -- the pairs but that of k
  abbrev pub without : ℕ → List (ℕ × X) → List (ℕ × X)
  without k [] = []
  without k (p ∷ ps) = if p.0 == k then without k ps else (p ∷ without k ps)

  -- the pairs, with w as the value of k
  abbrev pub replaced : ℕ → X → List (ℕ × X) → List (ℕ × X)
  replaced k w [] = []
  replaced k w (p ∷ ps) = if p.0 == k then ((p.0, w) ∷ replaced k w ps) else (p ∷ replaced k w ps)

  abbrev pub first_key : List (ℕ × X) → Option ℕ
  first_key [] = None
  first_key (p ∷ ps) = Some p.0

  -- the key behind k
  abbrev pub key_after : ℕ → List (ℕ × X) → Option ℕ
  key_after k [] = None
  key_after k (p ∷ ps) = if p.0 == k then first_key ps else key_after k ps

  abbrev pub count : List (List (ℕ × X)) → ℕ
  count [] = 0
  count (ps ∷ pss) = length ps + count pss

module _ {X Y : Type 0} where
  -- what g finds first in the lists
  abbrev pub search_in : (List (ℕ × X) → Option Y) → List (List (ℕ × X)) → Option Y
  search_in g [] = None
  search_in g (ps ∷ pss) = option_or (g ps) (search_in g pss)

abbrev pub find_in : {X : Type 0} → ℕ → List (List (ℕ × X)) → Option X
find_in k pss = search_in (find k) pss

abbrev pub key_after_in : {X : Type 0} → ℕ → List (List (ℕ × X)) → Option ℕ
key_after_in k pss = search_in (key_after k) pss

-- each key leads to its pair, wherever that stands
abbrev pub ByKey : {X : Type 0} → List (List (ℕ × X)) → Type 0
ByKey {X} pss = (r : ℕ) (xs : List (ℕ × X)) (p : ℕ × X) (ys : List (ℕ × X)) → get_or pss r [] ≡ xs ++ p ∷ ys → (find_in p.0 pss ≡ Some p.1) × (key_after_in p.0 pss ≡ first_key ys)
