-- What items give one after another, each in the state that those before it have made.
use Rattle.std.specs.Prelude.{List, [], ◌∷◌, ◌++◌}

-- by all before it, the latest first
abbrev pub past_outputs : {A B : Type 0} → (List A → A → List B) → List A → List B
past_outputs gives [] = []
past_outputs gives (x ∷ xs) = past_outputs gives xs ++ gives xs x

-- by the state that each makes of the one before it, the first that came first
abbrev pub outputs : {S A B : Type 0} → (S → A → S) → (S → A → List B) → S → List A → List B
outputs step gives s [] = []
outputs step gives s (x ∷ xs) = gives s x ++ outputs step gives (step s x) xs
