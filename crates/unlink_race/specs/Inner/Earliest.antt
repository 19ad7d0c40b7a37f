-- The requests that pass a test, and the earliest of them by its rank.
use Rattle.std.specs.Prelude.{ℕ, Bool, List, [], ◌∷◌, Option, Some, None, filter, if◌then◌else◌}
use Rattle.unlink_race.specs.declared.live.Live.{Live}

-- those that pass, in their order
abbrev pub passing : (Live → Bool) → List (ℕ × Live) → List (ℕ × Live)
passing test entries = filter (λ (entry : ℕ × Live). test entry.1) entries

-- the rank of the first that passes
abbrev pub earliest : (Live → Bool) → List (ℕ × Live) → Option ℕ
earliest test [] = None
earliest test (entry ∷ entries) = if test entry.1 then Some entry.0 else earliest test entries
