-- What is left of a lane from the request of a key on.
use Rattle.std.specs.Prelude.{◌≡◌, ◌==◌, ℕ, Bool, List, [], ◌∷◌, Option, Some, None, map, if◌then◌else◌}
use Rattle.urb_arena.specs.Lanes.{first_key}
use Rattle.unlink_race.specs.declared.live.Live.{Live}
use Rattle.unlink_race.specs.Inner.Earliest.{passing}

module _ {X : Type 0} where
  -- the pairs from that of k on
  abbrev pub rest : ℕ → List (ℕ × X) → List (ℕ × X)
  rest k [] = []
  rest k (p ∷ ps) = if p.0 == k then (p ∷ ps) else rest k ps

  abbrev pub or_those : List (ℕ × X) → List (ℕ × X) → List (ℕ × X)
  or_those [] qs = qs
  or_those (p ∷ ps) qs = p ∷ ps

  -- in whichever lane it stands
  abbrev pub rest_in : ℕ → List (List (ℕ × X)) → List (ℕ × X)
  rest_in k [] = []
  rest_in k (ps ∷ pss) = or_those (rest k ps) (rest_in k pss)

  abbrev pub rest_at : Option ℕ → List (List (ℕ × X)) → List (ℕ × X)
  rest_at None pss = []
  rest_at (Some k) pss = rest_in k pss

  -- the key, where there is one, is that of a pair
  abbrev pub Stands : Option ℕ → List (List (ℕ × X)) → Type 0
  Stands key pss = first_key (rest_at key pss) ≡ key

-- the key of the first whose request passes
abbrev pub key_of_first : (Live → Bool) → List (ℕ × (ℕ × Live)) → Option ℕ
key_of_first test [] = None
key_of_first test (p ∷ ps) = if test p.1.1 then Some p.0 else key_of_first test ps

-- the requests from that of the key on that pass
abbrev pub lives_from : (Live → Bool) → Option ℕ → List (List (ℕ × (ℕ × Live))) → List Live
lives_from test key pss = map (λ entry. entry.1) (passing test (map (λ p. p.1) (rest_at key pss)))
