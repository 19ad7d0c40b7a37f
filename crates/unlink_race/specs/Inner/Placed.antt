-- Which requests stand in which lane of the arena, and in which order.
use Rattle.std.specs.Prelude.{◌≡◌, ◌==◌, ◌<◌, ◌+◌, ℕ, List, [], ◌∷◌, ⊤, map, filter}
use Rattle.urb_arena.specs.ArenaView.{ArenaView}
use Rattle.unlink_race.specs.declared.live.Live.{Live}
use Rattle.unlink_race.specs.Inner.Lane.{lane_of}

-- the keys of each lane, from the front on
abbrev pub keys_of : ArenaView (ℕ × Live) → List (List ℕ)
keys_of arena = map (λ ps. map (λ p. p.0) ps) arena.lanes

-- of keys with their requests, those whose requests belong in this lane
abbrev pub keys_in : ℕ → List (ℕ × Live) → List ℕ
keys_in lane rows = map (λ r. r.0) (filter (λ r. lane_of r.1.kind == lane) rows)

-- no request belongs in this lane or in one behind it
abbrev pub AreBelow : ℕ → List (ℕ × Live) → Type 0
AreBelow lane [] = ⊤
AreBelow lane (r ∷ rs) = (lane_of r.1.kind < lane) × AreBelow lane rs

-- these are the keys of the lanes from this one on: in each lane stand the requests that belong there, in order of
-- acceptance, and behind the last none belongs
abbrev pub ArePlaced : ℕ → List (List ℕ) → List (ℕ × Live) → Type 0
ArePlaced lane [] rows = AreBelow lane rows
ArePlaced lane (ks ∷ kss) rows = (ks ≡ keys_in lane rows) × ArePlaced (lane + 1) kss rows
