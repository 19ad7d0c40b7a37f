-- How the requests are found by a number.
use Rattle.std.specs.Prelude.{◌≡◌, ◌==◌, ◌&&◌, ◌<◌, ◌≤◌, ℕ, Bool, true, ⊤, List, [], ◌∷◌, length, map, filter, get_or, Option, Some, option_map, if◌then◌else◌}
use Rattle.std.specs.List.{count_by, zip}
use Rattle.std.specs.List.Sorted.{IsNonDecreasingBy}
use Rattle.urb_arena.specs.Lanes.{find_in}
use Rattle.unlink_race.specs.declared.live.Live.{Live}
use Rattle.unlink_race.specs.declared.by_number.By.{By}
use Rattle.unlink_race.specs.declared.by_number.By.TheVariants.{Seqnum, Id}
use Rattle.unlink_race.specs.declared.index.Index.{Index}
use Rattle.unlink_race.specs.Searches.{goes_by_id, changes}

abbrev pub number_by : By → Live → ℕ
number_by Seqnum live = live.seqnum
number_by Id live = live.id

-- which requests are to be found
abbrev pub any_by : By → Live → Bool
any_by Seqnum live = true
any_by Id live = goes_by_id live

abbrev pub found_by : By → ℕ → Live → Bool
found_by by n live = any_by by live && (number_by by live == n)

-- the number of the request of a key
abbrev pub number_at : By → List (List (ℕ × (ℕ × Live))) → ℕ → Option ℕ
number_at by lanes k = option_map (λ (e : ℕ × Live). number_by by e.1) (find_in k lanes)

-- the keys of the requests that a number finds, each behind that number, in order of acceptance
abbrev pub column : (Live → Bool) → (Live → ℕ) → List (ℕ × Live) → List (ℕ × ℕ)
column any number [] = []
column any number (r ∷ rs) = if any r.1 then (number r.1, r.0) ∷ column any number rs else column any number rs

abbrev pub is_pair : ℕ → ℕ → ℕ × ℕ → Bool
is_pair number key p = (p.0 == number) && (p.1 == key)

-- those of one number, in their order
abbrev pub with_number : ℕ → List (ℕ × ℕ) → List (ℕ × ℕ)
with_number n pairs = filter (λ (p : ℕ × ℕ). p.0 == n) pairs

-- those before a place have lesser numbers
abbrev pub Before : List (ℕ × ℕ) → ℕ → ℕ → Type 0
Before ps i n = (k : ℕ) (d : ℕ × ℕ) → k < i → (get_or ps k d).0 < n

-- and those from it on don't
abbrev pub Behind : List (ℕ × ℕ) → ℕ → ℕ → Type 0
Behind ps i n = (k : ℕ) (d : ℕ × ℕ) → i ≤ k → k < length ps → n ≤ (get_or ps k d).0

-- the numbers are those of the keys' requests
abbrev pub Reads : By → List (List (ℕ × (ℕ × Live))) → List (ℕ × ℕ) → Type 0
Reads by lanes ps = (k : ℕ) (d : ℕ × ℕ) → k < length ps → number_at by lanes (get_or ps k d).1 ≡ Some (get_or ps k d).0

-- the requests stand under their keys
abbrev pub Stand : List (List (ℕ × (ℕ × Live))) → List (ℕ × Live) → Type 0
Stand lanes [] = ⊤
Stand lanes (r ∷ rs) = (option_map (λ (e : ℕ × Live). e.1) (find_in r.0 lanes) ≡ Some r.1) × Stand lanes rs

-- of each number the same are there, in the same order, and nothing else is there: so none of a request that has ended
pub record IsOrdering (pairs others : List (ℕ × ℕ)) : Type 0 where
  pub each : (n : ℕ) → with_number n pairs ≡ with_number n others
  pub size : length pairs ≡ length others

-- the keys of the requests that are to be found, their numbers rise, and those of one number are in order of acceptance
pub record IsOrderOf (by : By) (requests : List (ℕ × Live)) (keys : List ℕ) : Type 0 where
  pub pairs : List (ℕ × ℕ)
  pub keys_are : keys ≡ map (λ p. p.1) pairs
  pub rises : IsNonDecreasingBy (λ p. p.0) pairs
  pub ordering : IsOrdering pairs (column (any_by by) (number_by by) requests)

-- by the submits' seqnums, and by the ids of wire and route requests
pub record IsIndexed (keys : List ℕ) (lives : List Live) (index : Index) : Type 0 where
  pub long : length keys ≡ length lives
  pub seqnums : IsOrderOf Seqnum (zip keys lives) index.seqnums
  pub held : IsOrderOf Id (zip keys lives) index.held
  pub changes : index.changes ≡ count_by changes lives
