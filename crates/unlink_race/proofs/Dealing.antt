-- Requests are ranked anew, one after another.
use Rattle.std.proofs.Common.{◌≡◌, ℕ, ◌+◌, ◌<◌, ◌≤◌, List, length, map, get_or, set, Some, refl, ap, sym, subst, ◌∙◌, arith, inl, inr}
use Rattle.std.specs.List.{slice_get}
use Rattle.std.specs.Option.{option_map}
use Rattle.std.proofs.lemmas.Bool.{cases_lt}
use Rattle.std.proofs.lemmas.List.{length-map, get_or-set_same, get_or-set_other}
use Rattle.std.proofs.lemmas.Option.{slice_get-get_or}
use Rattle.urb_arena.specs.ArenaView.{ArenaView, arena_view}
use Rattle.urb_arena.specs.Lanes.{replaced, count}
use Rattle.unlink_race.specs.declared.live.Live.{Live}
use Rattle.unlink_race.specs.Inner.Listed.{IsKeyed}
use Rattle.unlink_race.specs.Inner.Placed.{keys_of}
use Rattle.unlink_race.specs.Inner.Sound.{entry_of, in_order, ranks_of, HasDealt, IsSound, Rises}
use Rattle.unlink_race.proofs.Columns.{map-set, map_unchanged}
use Rattle.unlink_race.proofs.Ids.{no_live}
use Rattle.unlink_race.proofs.Lanes.{found_replaced, others_replaced, count_replaced}
use Rattle.unlink_race.proofs.Placing.{keys_replaced}
use Rattle.unlink_race.proofs.Rising.{rises_dealt}
use Rattle.unlink_race.proofs.Rows.{SameBut, length-listed, took_at, changed_at}

abbrev key_of : ℕ → ℕ
key_of k = k

abbrev rank_of : ℕ × Live → ℕ
rank_of entry = entry.0

abbrev live_of : ℕ × Live → Live
live_of entry = entry.1

-- the first n have their places as ranks
abbrev pub Dealt : ArenaView (ℕ × Live) → List ℕ → ℕ → Type 0
Dealt arena rows n = (j : ℕ) → j < n → get_or (ranks_of arena rows) j 0 ≡ j

pub long_ranks : (arena : ArenaView (ℕ × Live)) (rows : List ℕ) → IsKeyed key_of (entry_of arena) rows → length (ranks_of arena rows) ≡ length rows
long_ranks arena rows kept = length-map (in_order arena rows) rank_of ∙ length-listed key_of (entry_of arena) rows kept

pub all_dealt : (arena : ArenaView (ℕ × Live)) (rows : List ℕ) (n : ℕ) → IsKeyed key_of (entry_of arena) rows → length rows ≤ n → Dealt arena rows n → Rises 0 (ranks_of arena rows) (length rows)
all_dealt arena rows n kept all dealt =
    let long = long_ranks arena rows kept in
    rises_dealt 0 (ranks_of arena rows) (length rows) (omega (arith, long)) (λ j within. let at = dealt j (omega (arith, within, long, all)) in omega (arith, at))

module _ {old arena : ArenaView (ℕ × Live)} {rows : List ℕ} (d : HasDealt old arena rows) (i : ℕ) (r : ℕ) (within : i < length rows) (read : r ≡ get_or rows i r) where
  long_here : length (in_order arena rows) ≡ length rows
  long_here = length-listed key_of (entry_of arena) rows d.kept

  abbrev entry : ℕ × Live
  entry = get_or (in_order arena rows) i (0, no_live)

  at : slice_get (in_order arena rows) i ≡ Some entry
  at = slice_get-get_or (in_order arena rows) i (0, no_live) (omega (arith, within, long_here))

  pub has_entry : entry_of arena r ≡ Some entry
  has_entry = (took_at key_of (entry_of arena) (entry_of arena) rows i r within read (λ _ _. refl) d.kept).entry ∙ at

  module _ (arena' : ArenaView (ℕ × Live)) (made : arena' ≡ arena_view (map (replaced r (i, entry.1)) arena.lanes) arena.capacity) where
    there : entry_of arena' r ≡ Some (i, entry.1)
    there = ap (λ (a : ArenaView (ℕ × Live)). entry_of a r) made ∙ found_replaced r (i, entry.1) arena.lanes ∙ ap (option_map (λ _. (i, entry.1))) has_entry

    others : SameBut key_of r (entry_of arena) (entry_of arena')
    others j other = ap (λ (a : ArenaView (ℕ × Live)). entry_of a j) made ∙ others_replaced j r (i, entry.1) other arena.lanes

    whole : in_order arena' rows ≡ set (in_order arena rows) i (i, entry.1)
    whole = (changed_at key_of (entry_of arena) (entry_of arena') rows i r (i, entry.1) within read there others d.kept).whole

    pub still_dealt : HasDealt old arena' rows
    still_dealt =
        record {
          kept = (changed_at key_of (entry_of arena) (entry_of arena') rows i r (i, entry.1) within read there others d.kept).kept;
          lives = ap (map live_of) whole ∙ map_unchanged live_of (in_order arena rows) i entry (i, entry.1) at refl ∙ d.lives;
          count = ap (λ (a : ArenaView (ℕ × Live)). count a.lanes) made ∙ count_replaced r (i, entry.1) arena.lanes ∙ d.count;
          capacity = ap (λ (a : ArenaView (ℕ × Live)). a.capacity) made ∙ d.capacity;
          lanes = ap (λ (a : ArenaView (ℕ × Live)). length a.lanes) made ∙ length-map arena.lanes (replaced r (i, entry.1)) ∙ d.lanes;
          keys_stay = ap keys_of made ∙ keys_replaced r (i, entry.1) arena.lanes ∙ d.keys_stay;
        }

    pub more_dealt : Dealt arena rows i → Dealt arena' rows (i + 1)
    more_dealt dealt j below =
        let ranks : ranks_of arena' rows ≡ set (ranks_of arena rows) i i = ap (map rank_of) whole ∙ map-set rank_of (in_order arena rows) i (i, entry.1) in
        let long = long_ranks arena rows d.kept in
        ap (λ ns. get_or ns j 0) ranks ∙ elim (cases_lt j i) [
          | inl under ↦ get_or-set_other (ranks_of arena rows) i j i 0 (λ e. omega (arith, e, under)) ∙ dealt j under
          | inr over ↦ (
              let same : j ≡ i = omega (arith, over, below) in
              ap (λ k. get_or (set (ranks_of arena rows) i i) k 0) same ∙ get_or-set_same (ranks_of arena rows) i i 0 (omega (arith, within, long)) ∙ sym same)
        ]

-- what is sound stays so, by each name of the rows
pub dealt_by : {old arena : ArenaView (ℕ × Live)} {rows rows' : List ℕ} → rows' ≡ rows → HasDealt old arena rows' → HasDealt old arena rows
dealt_by {old = old} {arena = arena} same d = let P : List ℕ → Type 0 = λ rs. HasDealt old arena rs in subst P same d

pub rises_by : (arena : ArenaView (ℕ × Live)) {rows rows' : List ℕ} (high : ℕ) → rows' ≡ rows → Rises 0 (ranks_of arena rows') high → Rises 0 (ranks_of arena rows) high
rises_by arena high same rises = let P : List ℕ → Type 0 = λ rs. Rises 0 (ranks_of arena rs) high in subst P same rises

pub sound_dealt : {old arena : ArenaView (ℕ × Live)} {rows : List ℕ} → HasDealt old arena rows → IsSound old rows → IsSound arena rows
sound_dealt d s =
    record {
      kept = d.kept;
      all = d.count ∙ s.all;
      bound = s.bound;
      capacity = d.capacity ∙ s.capacity;
      lanes = d.lanes ∙ s.lanes;
      placed = rw (d.keys_stay, d.lives) s.placed;
    }
