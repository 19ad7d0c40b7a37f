-- The ids of rows in flight.
use Rattle.std.proofs.Common.{◌≡◌, ℕ, ◌+◌, ◌≤◌, ◌<◌, leb, max, ◌||◌, ◌&&◌, Bool, true, false, cond, not, eqb, List, [], ◌∷◌, ◌++◌, Option, Some, None, length, map, filter, refl, sym, ap, ◌∙◌, arith}
use Rattle.std.specs.List.{list_any}
use Rattle.std.proofs.lemmas.Bool.{lt-leb}
use Rattle.std.proofs.lemmas.Bool.Decides.{nat_tests}
use Rattle.std.proofs.lemmas.List.{length-append, length-map}
use Rattle.std.proofs.lemmas.List.Filters.{length-filter_both}
use Rattle.std.proofs.lemmas.List.Folds.{list_any-append}
use Rattle.redir_wire.specs.Header.{IdFits}
use Rattle.unlink_race.specs.declared.live.Live.{Live}
use Rattle.unlink_race.specs.Requests.{Requests}
use Rattle.unlink_race.specs.Searches.{has_id, goes_by_id}
use Rattle.gate_history.specs.state.Ids.{holds, greatest, Fits}
use Rattle.gate_history.specs.state.StreamIds.{StreamIds, ids_of_streams}
use Rattle.gate_parts.specs.state.Ids.{row_ids, ids_in, is_id, greatest_in, greatest_of}
use Rattle.gate_history.proofs.lemmas.state.StreamIds.{some, swap}
use Rattle.std.specs.Option.{option_to_list, unwrap_or}
use Rattle.std.specs.Prelude.{fold}

holds-row : (id row : ℕ) (by_id : Bool) (rest : Bool) (ids : List ℕ) → rest ≡ holds ids id →
    ((by_id && eqb row id) || rest) ≡ holds (cond by_id (row ∷ ids) ids) id
holds-row id row true rest ids e = λ i. swap row id i || e i
holds-row id row false rest ids e = e

one-more : (by_id : Bool) (row : Live) (rows : List Live) → map (λ (r : Live). r.id) (cond by_id (row ∷ rows) rows) ≡ cond by_id (row.id ∷ map (λ (r : Live). r.id) rows) (map (λ (r : Live). r.id) rows)
one-more true row rows = refl
one-more false row rows = refl

holds-rows : (id : ℕ) (rows : List Live) → list_any (has_id id) rows ≡ holds (row_ids rows) id
holds-rows id [] = refl
holds-rows id (r ∷ rs) =
    holds-row id r.id (goes_by_id r) _ _ (holds-rows id rs) ∙ sym (ap (λ (ids : List ℕ). holds ids id) (one-more (goes_by_id r) r (filter goes_by_id rs)))

pub holds-in : (id : ℕ) (r : Requests) → (list_any (has_id id) r.live || list_any (has_id id) r.abandoned) ≡ holds (ids_in r) id
holds-in id r = (λ i. holds-rows id r.live i || holds-rows id r.abandoned i) ∙ sym (list_any-append (eqb id) (row_ids r.live) (row_ids r.abandoned))

length-rows : (rows : List Live) → length (row_ids rows) ≤ length rows
length-rows rows =
    let a = length-map (filter goes_by_id rows) (λ (r : Live). r.id) in
    let b = length-filter_both goes_by_id (λ (r : Live). not (goes_by_id r)) (λ r. refl) rows in
    omega arith

pub few-in : (r : Requests) → length (ids_in r) ≤ length r.live + length r.abandoned
few-in r =
    let a = length-append (row_ids r.live) (row_ids r.abandoned) in
    let b = length-rows r.live in
    let c = length-rows r.abandoned in
    omega arith

-- those of starts and stops, too

holds-one : (id : ℕ) (o : Option ℕ) (rest : Bool) (ids : List ℕ) → rest ≡ holds ids id → (is_id id o || rest) ≡ holds (option_to_list o ++ ids) id
holds-one id None rest ids e = e
holds-one id (Some x) rest ids e = λ i. swap x id i || e i

holds-some : (id : ℕ) (l : List (Option ℕ)) → list_any (is_id id) l ≡ holds (some l) id
holds-some id [] = refl
holds-some id (o ∷ l) = holds-one id o (list_any (is_id id) l) (some l) (holds-some id l)

pub holds-stream_ids : (id : ℕ) (c : StreamIds) → (list_any (is_id id) c.started || list_any (is_id id) c.stopped) ≡ holds (ids_of_streams c) id
holds-stream_ids id c = (λ i. holds-some id c.started i || holds-some id c.stopped i) ∙ sym (list_any-append (eqb id) (some c.started) (some c.stopped))

pub holds-all : (id : ℕ) (r : Requests) (c : StreamIds) → ((list_any (has_id id) r.live || list_any (has_id id) r.abandoned) || holds (ids_of_streams c) id) ≡ holds (ids_in r ++ ids_of_streams c) id
holds-all id r c = ap (λ (b : Bool). b || holds (ids_of_streams c) id) (holds-in id r) ∙ sym (list_any-append (eqb id) (ids_in r) (ids_of_streams c))

pub few-all : (r : Requests) (c : StreamIds) → length (ids_in r ++ ids_of_streams c) ≤ length r.live + length r.abandoned + length (ids_of_streams c)
few-all r c = omega (arith, length-append (ids_in r) (ids_of_streams c), few-in r)

pub large : (wide : Bool) → 4294967295 ≤ greatest wide
large true = omega arith
large false = omega arith

pub fits-wide : (wide : Bool) (id : ℕ) → Fits (greatest wide) id → IdFits wide id
fits-wide true id f = let h = f.high in omega arith
fits-wide false id f = let h = f.high in omega arith

-- an id above the greatest of them is none of them
is-above : (id a : ℕ) (o : Option ℕ) → max a (unwrap_or o 0) < id → (a < id) × (is_id id o ≡ false)
is-above id a None above = (omega (arith, above), refl)
is-above id a (Some x) above = (omega (arith, above), grind (arith, nat_tests))

none-above : (id a : ℕ) (l : List (Option ℕ)) → fold (λ before held. max before (unwrap_or held 0)) a l < id → (a < id) × (list_any (is_id id) l ≡ false)
none-above id a [] above = (above, refl)
none-above id a (o ∷ l) above =
    let later = none-above id (max a (unwrap_or o 0)) l above in
    let here = is-above id a o later.0 in
    (here.0, (λ i. here.1 i || later.1 i))

pub none-held : (id greatest : ℕ) (c : StreamIds) → greatest ≡ greatest_of c.started c.stopped → greatest < id → leb id greatest ≡ holds (ids_of_streams c) id
none-held id greatest c is above =
    let started : greatest_in c.started < id = omega (arith, is, above) in
    let stopped : greatest_in c.stopped < id = omega (arith, is, above) in
    lt-leb id greatest above ∙ (λ i. sym (none-above id 0 c.started started).1 i || sym (none-above id 0 c.stopped stopped).1 i) ∙ holds-stream_ids id c
