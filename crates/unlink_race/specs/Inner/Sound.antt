-- How the arena and the keys hold the requests.
use Rattle.std.specs.Prelude.{◌≡◌, ◌≤◌, ◌+◌, ℕ, Bool, List, [], ◌∷◌, Option, length, map, if◌then◌else◌}
use Rattle.std.specs.List.{zip}
use Rattle.usbip_urb.specs.declared.code.TheConstants.{MAX_LIVE}
use Rattle.urb_arena.specs.ArenaView.{ArenaView}
use Rattle.urb_arena.specs.Lanes.{find_in, count}
use Rattle.usb_base.specs.declared.endpoint.TheConstants.{ENDPOINTS}
use Rattle.unlink_race.specs.declared.live.Live.{Live}
use Rattle.unlink_race.specs.Requests.{Requests}
use Rattle.unlink_race.specs.Inner.Listed.{IsKeyed, listed}
use Rattle.unlink_race.specs.Inner.Placed.{keys_of, ArePlaced}

-- the request of a key, with its rank, in whichever lane it stands
abbrev pub entry_of : ArenaView (ℕ × Live) → ℕ → Option (ℕ × Live)
entry_of arena k = find_in k arena.lanes

-- the requests with their ranks, in order of acceptance
abbrev pub in_order : ArenaView (ℕ × Live) → List ℕ → List (ℕ × Live)
in_order arena keys = listed (λ k. k) (entry_of arena) keys

abbrev pub lives_of : ArenaView (ℕ × Live) → List ℕ → List Live
lives_of arena keys = map (λ entry. entry.1) (in_order arena keys)

abbrev pub ranks_of : ArenaView (ℕ × Live) → List ℕ → List ℕ
ranks_of arena keys = map (λ entry. entry.0) (in_order arena keys)

-- the ranks rise: none is below low, and each is below high
abbrev pub Rises : ℕ → List ℕ → ℕ → Type 0
Rises low [] high = low ≤ high
Rises low (n ∷ ns) high = (low ≤ n) × Rises (n + 1) ns high

-- the requests are the same in another arena, and may have other ranks there
pub record HasDealt (old new : ArenaView (ℕ × Live)) (keys : List ℕ) : Type 0 where
  pub kept : IsKeyed (λ k. k) (entry_of new) keys
  pub lives : lives_of new keys ≡ lives_of old keys
  pub count : count new.lanes ≡ count old.lanes
  pub capacity : new.capacity ≡ old.capacity
  pub lanes : length new.lanes ≡ length old.lanes
  pub keys_stay : keys_of new ≡ keys_of old

-- each key has its request, and no request is without a key
pub record IsSound (arena : ArenaView (ℕ × Live)) (keys : List ℕ) : Type 0 where
  pub kept : IsKeyed (λ k. k) (entry_of arena) keys
  pub all : count arena.lanes ≡ length keys
  pub bound : length keys ≤ MAX_LIVE
  pub capacity : arena.capacity ≡ MAX_LIVE
  pub lanes : length arena.lanes ≡ ENDPOINTS
  pub placed : ArePlaced 0 (keys_of arena) (zip keys (lives_of arena keys))

-- the one list is the live or the abandoned requests
abbrev pub requests_of : Bool → List Live → Requests
requests_of client_gone list =
    record { live = if client_gone then [] else list; abandoned = if client_gone then list else [] }
