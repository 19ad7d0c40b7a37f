-- The searches of a sound table in its lanes.
use Rattle.std.proofs.Common.{◌≡◌, ◌==◌, ◌&&◌, ℕ, ◌+◌, ◌<◌, ◌≤◌, Bool, true, false, ltb, List, [], length, map, filter, get_or, Option, Some, None, refl, ap, sym, subst, ◌∙◌, zero-add, arith, inl, inr}
use Rattle.std.specs.List.{position, position_or_len, zip}
use Rattle.std.proofs.lemmas.Bool.{lt-ltb, le-ltb, eq-eqb, ne_eqb, cases_eq}
use Rattle.std.proofs.lemmas.List.{length-map}
use Rattle.std.proofs.Math.Bool.{and-false}
use Rattle.usb_base.specs.Endpoint.{endpoint_index}
use Rattle.urb_arena.specs.ArenaView.{ArenaView}
use Rattle.urb_arena.specs.Lanes.{ByKey}
use Rattle.usb_base.specs.declared.endpoint.TheConstants.{ENDPOINTS}
use Rattle.usbip_urb.specs.declared.code.TheConstants.{MAX_LIVE}
use Rattle.urb_arena.specs.Distinct.{itself}
use Rattle.unlink_race.specs.declared.live.Live.{Live}
use Rattle.unlink_race.specs.declared.live.LiveKind.{LiveKind}
use Rattle.unlink_race.specs.declared.live.LiveKind.TheVariants.{Wire, Routed, Stream}
use Rattle.unlink_race.specs.declared.live.StreamEnd.TheVariants.{Told}
use Rattle.unlink_race.specs.Searches.{waits_at, waits_for, ended_by}
use Rattle.unlink_race.specs.Inner.Earliest.{passing, earliest}
use Rattle.unlink_race.specs.Inner.Lane.{lane_of}
use Rattle.unlink_race.specs.Inner.Listed.{IsKeyed, listed}
use Rattle.unlink_race.specs.Inner.Sound.{entry_of, in_order, lives_of, ranks_of, Rises, IsSound}
use Rattle.unlink_race.proofs.Earliest.{rank_placed, none_placed, first_rank, earliest_passing, lives_passing, Alike, all_backed, keys_home, and_in, lane_passing}
use Rattle.unlink_race.proofs.Found.{key_found, IsFound, found, found_none}
use Rattle.unlink_race.proofs.Halving.{rank_at_place}
use Rattle.unlink_race.proofs.Leading.{by_key}
use Rattle.unlink_race.proofs.Rows.{length-listed}
use Rattle.unlink_race.proofs.Walks.{values}
use Rattle.unlink_race.proofs.Zipped.{key_of, kept_zipped, listed_zipped, kinds_zipped}

-- what waits for an endpoint's packets stands in the endpoint's lane
waits_there : (ep : ℕ) (kind : LiveKind) → ((lane_of kind == endpoint_index ep) && waits_at ep kind) ≡ waits_at ep kind
waits_there ep (Wire at kind) = and-false (endpoint_index at == endpoint_index ep)
waits_there ep (Routed route) = and-false (0 == endpoint_index ep)
waits_there ep (Stream at interface) =
    elim (cases_eq at ep) [
      | inl same ↦ rw (eq-eqb at ep same, eq-eqb (endpoint_index at) (endpoint_index ep) (ap endpoint_index same)) refl
      | inr other ↦ rw (ne_eqb at ep other) (and-false (endpoint_index at == endpoint_index ep))
    ]

-- the place of a request, from its rank
pub record IsPlaced (test : Live → Bool) (arena : ArenaView (ℕ × Live)) (keys : List ℕ) (xs : List Live) (rank : ℕ) : Type 0 where
  pub place : ℕ
  pub within : place < length keys
  pub is : get_or (ranks_of arena keys) place 0 ≡ rank
  pub first : position test xs ≡ Some place

module _ {arena : ArenaView (ℕ × Live)} {keys : List ℕ} (s : IsSound arena keys) where
  long_entries : length (in_order arena keys) ≡ length keys
  long_entries = length-listed itself (entry_of arena) keys s.kept

  abbrev rows : List (ℕ × Live)
  rows = zip keys (lives_of arena keys)

  kept : IsKeyed key_of (entry_of arena) rows
  kept = kept_zipped (entry_of arena) keys (lives_of arena keys) s.kept

  -- the requests of the keys, by the pairs of both
  whole : listed key_of (entry_of arena) rows ≡ in_order arena keys
  whole = listed_zipped (entry_of arena) keys (lives_of arena keys) (sym long_entries ∙ sym (length-map (in_order arena keys) (λ (e : ℕ × Live). e.1))) s.kept

  pub keyed : ByKey arena.lanes
  keyed = by_key (entry_of arena) rows arena.lanes kept s.placed

  alike : Alike rows (listed key_of (entry_of arena) rows)
  alike = kinds_zipped keys (in_order arena keys) (sym long_entries) ∙ ap (map (λ (e : ℕ × Live). e.1.kind)) (sym whole)

  -- those that wait for an endpoint's packets are those of its lane that do
  waiting_are : (ep byte lane : ℕ) → byte ≡ ep → lane ≡ endpoint_index ep → lane < ENDPOINTS → passing (ended_by (Told byte)) (values (get_or arena.lanes lane [])) ≡ passing (waits_for ep) (in_order arena keys)
  waiting_are ep byte lane same at low =
      ap (λ b. passing (ended_by (Told b)) (values (get_or arena.lanes lane []))) same
      ∙ lane_passing (waits_for ep) (entry_of arena) (0 + lane) rows (get_or arena.lanes lane []) kept alike (all_backed arena.lanes keyed lane [] (get_or arena.lanes lane []) refl) (keys_home 0 arena.lanes lane rows (let e = s.lanes in omega (arith, low, e)) s.placed)
      ∙ ap (passing (and_in (waits_for ep) (0 + lane))) whole
      ∙ ap (λ n. passing (and_in (waits_for ep) n) (in_order arena keys)) (zero-add lane ∙ at)
      ∙ (λ i. passing (λ (x : Live). waits_there ep x.kind i) (in_order arena keys))

  pub waiting_is : (ep byte lane : ℕ) → byte ≡ ep → lane ≡ endpoint_index ep → lane < ENDPOINTS → earliest (ended_by (Told byte)) (values (get_or arena.lanes lane [])) ≡ earliest (waits_for ep) (in_order arena keys)
  waiting_is ep byte lane same at low =
      earliest_passing (ended_by (Told byte)) (values (get_or arena.lanes lane [])) ∙ ap first_rank (waiting_are ep byte lane same at low) ∙ sym (earliest_passing (waits_for ep) (in_order arena keys))

  -- as requests
  pub lives_waiting : {xs : List Live} → lives_of arena keys ≡ xs → (ep byte lane : ℕ) → byte ≡ ep → lane ≡ endpoint_index ep → lane < ENDPOINTS → map (λ (e : ℕ × Live). e.1) (passing (ended_by (Told byte)) (values (get_or arena.lanes lane []))) ≡ filter (waits_for ep) xs
  lives_waiting v ep byte lane same at low =
      ap (map (λ (e : ℕ × Live). e.1)) (waiting_are ep byte lane same at low)
      ∙ lives_passing (waits_for ep) (in_order arena keys)
      ∙ ap (filter (waits_for ep)) v

  pub few_lives : {xs : List Live} → lives_of arena keys ≡ xs → length xs ≤ MAX_LIVE
  few_lives v = let long = ap length (sym v) ∙ length-map (in_order arena keys) (λ (e : ℕ × Live). e.1) in omega (arith, long, long_entries, s.bound)

  module _ {xs : List Live} (v : lives_of arena keys ≡ xs) (test : Live → Bool) where
    long_lives : length xs ≡ length (in_order arena keys)
    long_lives = ap length (sym v) ∙ length-map (in_order arena keys) (λ (e : ℕ × Live). e.1)

    at_place : (rank : ℕ) → earliest test (in_order arena keys) ≡ Some rank → IsPlaced test arena keys xs rank
    at_place rank is =
        let at = rank_placed test (in_order arena keys) rank is in
        let inside : at.place < length keys = (let w = at.within in let e = long_entries in omega (arith, w, e)) in
        let first : position_or_len test xs ≡ at.place = ap (position_or_len test) (sym v) ∙ at.first in
        let there : ltb at.place (length xs) ≡ true = lt-ltb _ _ (let w = at.within in let e = long_lives in omega (arith, w, e)) in
        record { place = at.place; within = inside; is = at.is; first = rw (first, there) refl }

    -- what a search of these keys by the rank gives
    pub search_gives : (keys' : List ℕ) (result : Option ℕ) (rank high : ℕ) → keys' ≡ keys → earliest test (in_order arena keys) ≡ Some rank → Rises 0 (ranks_of arena keys) high → ((high : ℕ) → IsKeyed itself (entry_of arena) keys' → Rises 0 (ranks_of arena keys') high → result ≡ position (λ n. n == rank) (ranks_of arena keys')) → result ≡ position test xs
    search_gives keys' result rank high same is rises told =
        let at = at_place rank is in
        let P : List ℕ → Type 0 = λ ks. (high : ℕ) → IsKeyed itself (entry_of arena) ks → Rises 0 (ranks_of arena ks) high → result ≡ position (λ n. n == rank) (ranks_of arena ks) in
        subst P same told high s.kept rises ∙ sym (rank_at_place arena keys s.kept high rises rank at.place at.within at.is) ∙ sym at.first

    pub unplaced : earliest test (in_order arena keys) ≡ None → position test xs ≡ None
    unplaced is =
        let past = none_placed test (in_order arena keys) is in
        let same : position_or_len test xs ≡ position_or_len test (map (λ (e : ℕ × Live). e.1) (in_order arena keys)) = ap (position_or_len test) (sym v) in
        let none : ltb (position_or_len test xs) (length xs) ≡ false = le-ltb _ _ (let e = long_lives in omega (arith, past, e, same)) in
        rw none refl

    -- what an index leads to
    module _ (index : Option ℕ) (told : index ≡ key_found test keys (lives_of arena keys)) where
      pub led : (k : ℕ) → index ≡ Some k → IsFound test (entry_of arena) (in_order arena keys) k
      led k is = found test (entry_of arena) keys s.kept k (sym told ∙ is)

      pub led_nowhere : index ≡ None → earliest test (in_order arena keys) ≡ None
      led_nowhere is = found_none test (entry_of arena) keys s.kept (sym told ∙ is)
