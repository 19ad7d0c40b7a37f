-- The ids in flight, of requests as the code has them.
use Rattle.std.specs.Prelude.{ℕ, List, ◌++◌, map, filter, fold, max, Bool, false, ◌==◌, Option, Some, None}
use Rattle.std.specs.Option.{unwrap_or}
use Rattle.unlink_race.specs.declared.live.Live.{Live}
use Rattle.unlink_race.specs.Requests.{Requests}
use Rattle.unlink_race.specs.Searches.{goes_by_id}

abbrev pub row_ids : List Live → List ℕ
row_ids rows = map (λ row. row.id) (filter goes_by_id rows)

abbrev pub ids_in : Requests → List ℕ
ids_in r = row_ids r.live ++ row_ids r.abandoned

-- of an optional id, whether it is this one
abbrev pub is_id : ℕ → Option ℕ → Bool
is_id id None = false
is_id id (Some x) = x == id

-- the greatest of optional ids, 0 where there is none
abbrev pub greatest_in : List (Option ℕ) → ℕ
greatest_in ids = fold (λ before id. max before (unwrap_or id 0)) 0 ids

-- that of starts and stops
abbrev pub greatest_of : List (Option ℕ) → List (Option ℕ) → ℕ
greatest_of started stopped = max (greatest_in started) (greatest_in stopped)
