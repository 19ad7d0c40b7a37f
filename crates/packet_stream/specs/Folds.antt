-- What comes of a list that has the latest first, from the earliest on.
use Rattle.std.specs.Prelude.{List, [], ◌∷◌}

abbrev pub rfold : {A B : Type 0} → (B → A → B) → B → List A → B
rfold f start [] = start
rfold f start (x ∷ xs) = f (rfold f start xs) x
