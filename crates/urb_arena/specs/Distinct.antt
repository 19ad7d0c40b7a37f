-- Lists in which no two have one key.
use Rattle.std.specs.Prelude.{◌≢◌, ℕ, List, [], ◌∷◌, ⊤}

-- none of them has this key
abbrev pub Absent : {A : Type 0} → (A → ℕ) → ℕ → List A → Type 0
Absent key k [] = ⊤
Absent key k (x ∷ xs) = (key x ≢ k) × Absent key k xs

-- no two of them have one key
abbrev pub Distinct : {A : Type 0} → (A → ℕ) → List A → Type 0
Distinct key [] = ⊤
Distinct key (x ∷ xs) = Absent key (key x) xs × Distinct key xs

-- of numbers that are their own keys
abbrev pub itself : ℕ → ℕ
itself k = k
