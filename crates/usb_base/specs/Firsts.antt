-- A list without its first element that passes a test, and with that element changed. What that element is, is
-- std's `find`.
use Rattle.std.specs.Prelude.{Bool, if◌then◌else◌, List, [], ◌∷◌}

-- all others stand in order
abbrev pub without_first : {X : Type 0} → (X → Bool) → List X → List X
without_first test [] = []
without_first test (x ∷ xs) = if test x then xs else x ∷ without_first test xs

abbrev pub change_first : {X : Type 0} → (X → Bool) → (X → X) → List X → List X
change_first test change [] = []
change_first test change (x ∷ xs) = if test x then change x ∷ xs else x ∷ change_first test change xs
