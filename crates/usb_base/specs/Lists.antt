-- Whether a list has no element, and what a list gains that grows with another.
use Rattle.std.specs.Prelude.{Bool, true, false, List, [], ◌∷◌, length, drop}

abbrev pub is_empty : {X : Type 0} → List X → Bool
is_empty [] = true
is_empty (x ∷ xs) = false

-- what there is with an event, and without it isn't; lists of events have the latest first
abbrev pub gained : {E X : Type 0} → (List E → List X) → List E → E → List X
gained all events e = drop (length (all events)) (all (e ∷ events))
