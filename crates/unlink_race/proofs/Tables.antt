-- A sound table, and what a change makes of its list.
use Rattle.std.proofs.Common.{◌≡◌, ℕ, ◌+◌, ◌<◌, List, [], ◌∷◌, ◌++◌, length, map, get_or, set, Some, None, option_map, refl, ap, sym, subst, ◌∙◌, zero-add, arith}
use lib.ListN.{length-set}
use Rattle.std.specs.List.{remove, slice_get, zip}
use Rattle.std.proofs.lemmas.List.{length-append, length-map, map-append}
use Rattle.std.proofs.lemmas.List.Edits.{length-remove}
use Rattle.std.proofs.lemmas.Option.{slice_get-get_or, slice_get-map, slice_get_within, get_or_from_slice_get}
use Rattle.usbip_urb.specs.declared.code.TheConstants.{MAX_LIVE}
use Rattle.urb_arena.specs.ArenaView.{ArenaView, arena_view}
use Rattle.urb_arena.specs.Lanes.{without, replaced, count}
use Rattle.usb_base.specs.declared.endpoint.TheConstants.{ENDPOINTS}
use Rattle.urb_arena.specs.Distinct.{itself}
use Rattle.unlink_race.specs.declared.live.Live.{Live}
use Rattle.unlink_race.specs.declared.index.Index.{Index}
use Rattle.unlink_race.specs.Inner.Indexed.{Stand, IsIndexed}
use Rattle.unlink_race.specs.Inner.Lane.{lane_of}
use Rattle.unlink_race.specs.Inner.Placed.{keys_of, ArePlaced}
use Rattle.unlink_race.specs.Inner.Sound.{entry_of, in_order, lives_of, ranks_of, Rises, IsSound}
use Rattle.unlink_race.proofs.Columns.{map-remove, map-set, map_unchanged}
use Rattle.unlink_race.proofs.Ids.{no_live}
use Rattle.unlink_race.proofs.Lanes.{found_pushed, others_pushed, count_pushed, others_removed, found_replaced, others_replaced, count_replaced}
use Rattle.unlink_race.proofs.Placing.{placed_pushed, placed_removed, keys_replaced}
use Rattle.unlink_race.proofs.Reading.{stand_all}
use Rattle.unlink_race.proofs.Rows.{SameBut, length-listed, took_at, put_last, changed_at}
use Rattle.unlink_race.proofs.Zipped.{zip_pushed, zip_removed, zip_at, kept_zipped, placed_written}

-- the index is that of the list by each name
pub indexed : {keys : List ℕ} {xs ys : List Live} {index : Index} → xs ≡ ys → IsIndexed keys xs index → IsIndexed keys ys index
indexed {keys = keys} {index = index} same is = let P : List Live → Type 0 = λ zs. IsIndexed keys zs index in subst P same is

-- and by each name of the keys
pub indexed_by : {keys keys' : List ℕ} {xs ys : List Live} {index : Index} → keys' ≡ keys → xs ≡ ys → IsIndexed keys xs index → IsIndexed keys' ys index
indexed_by {ys = ys} {index = index} keys same is = let P : List ℕ → Type 0 = λ ks. IsIndexed ks ys index in subst P (sym keys) (indexed same is)

-- they are placed by each name of the lanes' keys and of the requests
by_keys : {kss kss' : List (List ℕ)} {rows rows' : List (ℕ × Live)} → kss' ≡ kss → rows' ≡ rows → ArePlaced 0 kss rows → ArePlaced 0 kss' rows'
by_keys {kss' = kss'} {rows = rows} same rows_same placed =
    let P : List (List ℕ) → Type 0 = λ ks. ArePlaced 0 ks rows in
    let Q : List (ℕ × Live) → Type 0 = λ rs. ArePlaced 0 kss' rs in
    subst Q (sym rows_same) (subst P (sym same) placed)

-- and the ranks rise by each name
pub rising : {ns ms : List ℕ} (high : ℕ) → ms ≡ ns → Rises 0 ns high → Rises 0 ms high
rising high same rises = rw same rises

no_entry : ℕ × Live
no_entry = (0, no_live)

module _ {arena : ArenaView (ℕ × Live)} {keys : List ℕ} (s : IsSound arena keys) {xs : List Live} (v : lives_of arena keys ≡ xs) where
  long_entries : length (in_order arena keys) ≡ length keys
  long_entries = length-listed itself (entry_of arena) keys s.kept

  pub long : length xs ≡ length keys
  long = ap length (sym v) ∙ length-map (in_order arena keys) (λ entry. entry.1) ∙ long_entries

  placed : ArePlaced 0 (keys_of arena) (zip keys xs)
  placed = by_keys refl (ap (zip keys) (sym v)) s.placed

  pub standing : Stand arena.lanes (zip keys xs)
  standing = let P : List Live → Type 0 = λ ys. Stand arena.lanes (zip keys ys) in subst P v (stand_all arena.lanes keys s.kept)

  -- the key at a place leads to the request there
  pub read_at : (i k : ℕ) (entry : ℕ × Live) → i < length xs → k ≡ get_or keys i k → entry_of arena k ≡ Some entry → slice_get xs i ≡ Some entry.1
  read_at i k entry within read is =
      let took = took_at itself (entry_of arena) (entry_of arena) keys i k (omega (arith, within, long)) read (λ _ _. refl) s.kept in
      ap (λ ys. slice_get ys i) (sym v) ∙ slice_get-map (λ (e : ℕ × Live). e.1) (in_order arena keys) i ∙ ap (option_map (λ (e : ℕ × Live). e.1)) (sym took.entry ∙ is)

  pub found_at : (i k : ℕ) → i < length xs → k ≡ get_or keys i k → (entry : ℕ × Live) × (entry_of arena k ≡ Some entry)
  found_at i k within read =
      let took = took_at itself (entry_of arena) (entry_of arena) keys i k (omega (arith, within, long)) read (λ _ _. refl) s.kept in
      (get_or (in_order arena keys) i no_entry, took.entry ∙ slice_get-get_or (in_order arena keys) i no_entry (omega (arith, within, long, long_entries)))

  pub key_at : (i k : ℕ) → i < length xs → k ≡ get_or keys i k → slice_get keys i ≡ Some k
  key_at i k within read = slice_get-get_or keys i k (omega (arith, within, long)) ∙ ap Some (sym read)

  pub removed : (arena' : ArenaView (ℕ × Live)) (keys' : List ℕ) (i k : ℕ) → i < length xs → k ≡ get_or keys i k → arena' ≡ arena_view (map (without k) arena.lanes) arena.capacity → count arena'.lanes + 1 ≡ count arena.lanes → keys' ≡ remove keys i → IsSound arena' keys' × (lives_of arena' keys' ≡ remove xs i) × (ranks_of arena' keys' ≡ remove (ranks_of arena keys) i)
  removed arena' keys' i k within read made less left =
      let at : i < length keys = omega (arith, within, long) in
      let others : SameBut itself k (entry_of arena) (entry_of arena') = λ j other. ap (λ (a : ArenaView (ℕ × Live)). entry_of a j) made ∙ others_removed j k other arena.lanes in
      let took = took_at itself (entry_of arena) (entry_of arena') keys i k at read others s.kept in
      let shorter = length-remove keys i at in
      let rest : lives_of arena' (remove keys i) ≡ remove xs i = ap (map (λ (e : ℕ × Live). e.1)) took.rest ∙ sym (map-remove (λ (e : ℕ × Live). e.1) (in_order arena keys) i) ∙ ap (λ ys. remove ys i) v in
      let x = get_or xs i no_live in
      let row = zip_at keys xs i k x (key_at i k within read) (slice_get-get_or xs i no_live within) in
      rw left (
        record {
          kept = took.kept;
          all = omega (arith, shorter, less, s.all);
          bound = omega (arith, shorter, s.bound);
          capacity = ap (λ (a : ArenaView (ℕ × Live)). a.capacity) made ∙ s.capacity;
          lanes = ap (λ (a : ArenaView (ℕ × Live)). length a.lanes) made ∙ length-map arena.lanes (without k) ∙ s.lanes;
          placed = by_keys (ap keys_of made) (ap (zip (remove keys i)) rest ∙ zip_removed keys xs i) (placed_removed (entry_of arena) 0 arena.lanes (zip keys xs) i (k, x) (slice_get_within (zip keys xs) i (k, x) row) (sym (get_or_from_slice_get (zip keys xs) i (k, x) (k, x) row)) (kept_zipped (entry_of arena) keys xs s.kept) placed);
        },
        rest,
        ap (map (λ (e : ℕ × Live). e.0)) took.rest ∙ sym (map-remove (λ (e : ℕ × Live). e.0) (in_order arena keys) i),
      )

  -- a request is put behind the others, under a key that had none
  module _ (arena' : ArenaView (ℕ × Live)) (lane rank k : ℕ) (x : Live) (in_lane : lane < ENDPOINTS) (vacant : entry_of arena k ≡ None) (made : arena' ≡ arena_view (set arena.lanes lane (get_or arena.lanes lane [] ++ (k, (rank, x)) ∷ [])) arena.capacity) where
    inside : lane < length arena.lanes
    inside = omega (arith, in_lane, s.lanes)

    pub pushed_there : entry_of arena' k ≡ Some (rank, x)
    pushed_there = ap (λ (a : ArenaView (ℕ × Live)). entry_of a k) made ∙ found_pushed k (rank, x) arena.lanes lane inside vacant

    pub pushed : (keys' : List ℕ) → length xs < MAX_LIVE → lane ≡ lane_of x.kind → keys' ≡ keys ++ k ∷ [] → IsSound arena' keys' × (lives_of arena' keys' ≡ xs ++ x ∷ []) × (ranks_of arena' keys' ≡ ranks_of arena keys ++ rank ∷ [])
    pushed keys' free its_lane whole =
        let others : SameBut itself k (entry_of arena) (entry_of arena') = λ j other. ap (λ (a : ArenaView (ℕ × Live)). entry_of a j) made ∙ others_pushed j k (rank, x) other arena.lanes lane in
        let put = put_last itself (entry_of arena) (entry_of arena') keys k (rank, x) vacant pushed_there others s.kept in
        let longer = length-append keys (k ∷ []) in
        let more : count arena'.lanes ≡ count arena.lanes + 1 = ap (λ (a : ArenaView (ℕ × Live)). count a.lanes) made ∙ count_pushed (k, (rank, x)) arena.lanes lane inside in
        let all_in : lives_of arena' (keys ++ k ∷ []) ≡ xs ++ x ∷ [] = ap (map (λ (e : ℕ × Live). e.1)) put.whole ∙ map-append (λ (e : ℕ × Live). e.1) (in_order arena keys) ((rank, x) ∷ []) ∙ ap (λ ys. ys ++ x ∷ []) v in
        rw whole (
          record {
            kept = put.kept;
            all = omega (arith, longer, more, s.all);
            bound = omega (arith, longer, long, free);
            capacity = ap (λ (a : ArenaView (ℕ × Live)). a.capacity) made ∙ s.capacity;
            lanes = ap (λ (a : ArenaView (ℕ × Live)). length a.lanes) made ∙ length-set arena.lanes lane _ ∙ s.lanes;
            placed = by_keys (ap keys_of made) (ap (zip (keys ++ k ∷ [])) all_in ∙ zip_pushed keys xs k x (sym long)) (placed_pushed 0 arena.lanes lane (zip keys xs) (k, x) (rank, x) inside (sym its_lane ∙ sym (zero-add lane)) placed);
          },
          all_in,
          ap (map (λ (e : ℕ × Live). e.0)) put.whole ∙ map-append (λ (e : ℕ × Live). e.0) (in_order arena keys) ((rank, x) ∷ []),
        )

  pub changed : (arena' : ArenaView (ℕ × Live)) (i k : ℕ) (entry : ℕ × Live) (y : Live) → i < length xs → k ≡ get_or keys i k → entry_of arena k ≡ Some entry → arena' ≡ arena_view (map (replaced k (entry.0, y)) arena.lanes) arena.capacity → y.kind ≡ entry.1.kind → IsSound arena' keys × (lives_of arena' keys ≡ set xs i y) × (ranks_of arena' keys ≡ ranks_of arena keys)
  changed arena' i k entry y within read is made kind =
      let there : entry_of arena' k ≡ Some (entry.0, y) = ap (λ (a : ArenaView (ℕ × Live)). entry_of a k) made ∙ found_replaced k (entry.0, y) arena.lanes ∙ ap (option_map (λ _. (entry.0, y))) is in
      let others : SameBut itself k (entry_of arena) (entry_of arena') = λ j other. ap (λ (a : ArenaView (ℕ × Live)). entry_of a j) made ∙ others_replaced j k (entry.0, y) other arena.lanes in
      let turned = changed_at itself (entry_of arena) (entry_of arena') keys i k (entry.0, y) (omega (arith, within, long)) read there others s.kept in
      let was : slice_get xs i ≡ Some entry.1 = read_at i k entry within read is in
      let set_in : lives_of arena' keys ≡ set xs i y = ap (map (λ (e : ℕ × Live). e.1)) turned.whole ∙ map-set (λ (e : ℕ × Live). e.1) (in_order arena keys) i (entry.0, y) ∙ ap (λ ys. set ys i y) v in
      let here : slice_get (in_order arena keys) i ≡ Some entry = sym (took_at itself (entry_of arena) (entry_of arena) keys i k (omega (arith, within, long)) read (λ _ _. refl) s.kept).entry ∙ is in
      let same : count arena'.lanes ≡ count arena.lanes = ap (λ (a : ArenaView (ℕ × Live)). count a.lanes) made ∙ count_replaced k (entry.0, y) arena.lanes in (
        record {
          kept = turned.kept;
          all = same ∙ s.all;
          bound = s.bound;
          capacity = ap (λ (a : ArenaView (ℕ × Live)). a.capacity) made ∙ s.capacity;
          lanes = ap (λ (a : ArenaView (ℕ × Live)). length a.lanes) made ∙ length-map arena.lanes (replaced k (entry.0, y)) ∙ s.lanes;
          placed = by_keys (ap keys_of made ∙ keys_replaced k (entry.0, y) arena.lanes) (ap (zip keys) set_in) (placed_written entry.1 y kind 0 (keys_of arena) keys xs i was placed);
        },
        set_in,
        ap (map (λ (e : ℕ × Live). e.0)) turned.whole ∙ map_unchanged (λ (e : ℕ × Live). e.0) (in_order arena keys) i entry (entry.0, y) here refl,
      )
