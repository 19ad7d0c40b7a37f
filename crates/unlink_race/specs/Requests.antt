-- What `Lives` is seen as: the requests of the present client, and those that a former client left with the
-- host, each in order of acceptance. A client's requests are taken in only once nothing is left of the former's.
use Rattle.std.specs.Prelude.{◌≡◌, ◌⊎◌, ◌++◌, ◌-◌, ℕ, List, [], length, filter, nat_lt, if◌then◌else◌}
use Rattle.std.specs.List.{remove}
use Rattle.unlink_race.specs.declared.live.Live.{Live}
use Rattle.unlink_race.specs.Searches.{goes_by_id}

pub record Requests : Type 0 where
  pub live : List Live
  pub abandoned : List Live

abbrev pub no_requests : Requests
no_requests = record { live = []; abandoned = [] }

abbrev pub OneIsEmpty : Requests → Type 0
OneIsEmpty r = (r.live ≡ []) ⊎ (r.abandoned ≡ [])

-- those in flight, whichever client sent them: a request's place is counted over both lists
abbrev pub in_flight : Requests → List Live
in_flight r = r.live ++ r.abandoned

-- without the one at a place
abbrev pub without_at : ℕ → Requests → Requests
without_at place r =
    if nat_lt place (length r.live) then record r { live = remove r.live place }
    else record r { abandoned = remove r.abandoned (place - length r.live) }

-- the client goes: the host still has the requests that went by id, and those that waited for a stream are no more
abbrev pub left_behind : Requests → Requests
left_behind r = record { live = []; abandoned = filter goes_by_id r.live }
