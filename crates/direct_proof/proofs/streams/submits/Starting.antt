-- A start: what its packet is, and the ids of starts and stops with it.
use Rattle.std.proofs.Common.{◌≡◌, ℕ, zero, suc, ◌+◌, ◌≤◌, ◌<◌, ◌%◌, ◌==◌, ◌&&◌, ◌||◌, ◌⊎◌, inl, inr, nat_lt, not, Bool, true, false, cond, List, [], ◌∷◌, Option, Some, None, is_some, refl, sym, ap, ◌∙◌, subst, arith, true≢false}
use Rattle.std.specs.Prelude.{get_or, slice_set}
use Rattle.std.specs.List.{list_any, flat_map, AllByRecursion as Each}
use Rattle.std.specs.Option.{option_to_list}
use Rattle.std.proofs.lemmas.List.{get_or-set_same, get_or-set_other}
use Rattle.std.proofs.lemmas.Bool.{both_ways, or_left, or_right, or_cases}
use Rattle.std.proofs.lemmas.List.Folds.{list_any-append}
use Rattle.usb_base.specs.Endpoint.{endpoint_index, is_in_endpoint, row_of, is_iso}
use Rattle.usb_base.specs.declared.endpoint.EpKind.{EpKind}
use Rattle.usb_base.specs.declared.endpoint.EpKind.TheVariants as kind
use Rattle.usb_base.specs.declared.endpoint.EpRow.{EpRow}
use Rattle.usb_base.specs.declared.endpoint.EpTable.{EpTable}
use Rattle.redir_wire.specs.declared.packet.RedirControl.TheVariants as plain
use Rattle.redir_data.specs.declared.packet.RedirPacket.{RedirPacket}
use Rattle.redir_data.specs.declared.packet.RedirPacket.TheVariants.{Plain}
use Rattle.redir_data.specs.declared.stream_kind.StreamKind.{StreamKind}
use Rattle.redir_data.specs.declared.stream_kind.StreamKind.TheVariants.{Iso, Interrupt}
use Rattle.redir_data.specs.StreamKinds.{is_kind_of}
use Rattle.redir_host.specs.guest.Packets.{can_start}
use Rattle.gate_history.specs.state.StreamIds.{StreamIds, ids_of_streams, started}
use Rattle.gate_history.specs.state.Ids.{times, holds}
use Rattle.gate_history.specs.write.Packets.{start_packet}
use Rattle.gate_history.proofs.lemmas.state.StreamIds.{AreLong, times-append}
use Rattle.direct_proof.specs.Tagged.{Tagged, Stated}
use Rattle.direct_proof.specs.Kinds.{IsIn}
use Rattle.direct_proof.specs.StreamIds.{IdIsKept, StreamIdIsKept, StatusIsKept, stream_id, stream_ids_on, status_id, statuses_on}
use Rattle.direct_proof.specs.Running.{passes, stream_endpoint, started_kind}
use Rattle.direct_proof.proofs.streams.fills.FillLists.{weight}
use Rattle.direct_proof.proofs.shared.UpsFound.{in-place, places-differ}

-- ---- its packet

pub record IsStart (ep : ℕ) (row : EpRow) (p : RedirPacket) : Type 0 where
  pub kind : StreamKind
  pub stream : stream_endpoint p ≡ Some ep
  pub started-is : started_kind p ≡ Some (kind, ep)
  pub right : is_kind_of kind row.kind ≡ true

abbrev start_of : ℕ → EpKind → RedirPacket
start_of ep k = Plain (cond (is_iso k) (plain.StartIso ep 8 4) (plain.StartInterrupt ep))

start-by : (ep : ℕ) (row : EpRow) (k : EpKind) (s : StreamKind) → row.kind ≡ k → stream_endpoint (start_of ep k) ≡ Some ep → started_kind (start_of ep k) ≡ Some (s, ep) → is_kind_of s k ≡ true → IsStart ep row (start_packet ep row)
start-by ep row k s h stream started right = record {
  kind = s;
  stream = ap (λ (x : EpKind). stream_endpoint (start_of ep x)) h ∙ stream;
  started-is = ap (λ (x : EpKind). started_kind (start_of ep x)) h ∙ started;
  right = ap (is_kind_of s) h ∙ right;
}

pub is-start : (ep : ℕ) (row : EpRow) → (row.kind ≡ kind.Iso) ⊎ (row.kind ≡ kind.Interrupt) → IsStart ep row (start_packet ep row)
is-start ep row (inl h) = start-by ep row kind.Iso Iso h refl refl refl
is-start ep row (inr h) = start-by ep row kind.Interrupt Interrupt h refl refl refl

pub can-start : (table : EpTable) (k : StreamKind) (ep : ℕ) (row : EpRow) → IsIn ep → row ≡ row_of table ep → is_kind_of k row.kind ≡ true → can_start table k ep ≡ true
can-start table k ep row h same right = λ i. small ep h i && (in-byte ep h i && (ap (λ (r : EpRow). is_kind_of k r.kind) (sym same) ∙ right) i)
  where
    small : (n : ℕ) → IsIn n → nat_lt (n % 128) 16 ≡ true
    small n k = grind (arith, k.low, k.high)

    in-byte : (n : ℕ) → IsIn n → is_in_endpoint n ≡ true
    in-byte n k = ap not (high n k.low)
      where
        high : (x : ℕ) → 128 ≤ x → nat_lt x 128 ≡ false
        high x g = grind (arith, g)

-- ---- ids that are kept

held-id : (id i : ℕ) (xs : List (Option ℕ)) → passes (λ x. x == id) (get_or xs i None) ≡ true → list_any (λ x. id == x) (flat_map option_to_list xs) ≡ true
held-id id i [] h = absurd (true≢false (sym h))
held-id id zero (None ∷ xs) h = absurd (true≢false (sym h))
held-id id zero (Some x ∷ xs) h = or_left (id == x) (list_any (λ y. id == y) (flat_map option_to_list xs)) (flip x id h)
  where
    flip : (a b : ℕ) → (a == b) ≡ true → (b == a) ≡ true
    flip a b e = grind (arith, e)
held-id id (suc i) (None ∷ xs) h = held-id id i xs h
held-id id (suc i) (Some x ∷ xs) h = or_right (id == x) (list_any (λ y. id == y) (flat_map option_to_list xs)) (held-id id i xs h)

pub kept-held : (c : StreamIds) (id ep : ℕ) → IdIsKept c id ep → holds (ids_of_streams c) id ≡ true
kept-held c id ep h = list_any-append (λ x. id == x) (flat_map option_to_list c.started) (flat_map option_to_list c.stopped) ∙ go (or_cases (passes (λ x. x == id) (get_or c.started (endpoint_index ep) None)) (passes (λ x. x == id) (get_or c.stopped (endpoint_index ep) None)) h)
  where
    go : (passes (λ x. x == id) (get_or c.started (endpoint_index ep) None) ≡ true) ⊎ (passes (λ x. x == id) (get_or c.stopped (endpoint_index ep) None) ≡ true) → (list_any (λ x. id == x) (flat_map option_to_list c.started) || list_any (λ x. id == x) (flat_map option_to_list c.stopped)) ≡ true
    go (inl k) = or_left (list_any (λ x. id == x) (flat_map option_to_list c.started)) (list_any (λ x. id == x) (flat_map option_to_list c.stopped)) (held-id id (endpoint_index ep) c.started k)
    go (inr k) = or_right (list_any (λ x. id == x) (flat_map option_to_list c.started)) (list_any (λ x. id == x) (flat_map option_to_list c.stopped)) (held-id id (endpoint_index ep) c.stopped k)

-- an id that is held nowhere is on no wire
none-here : (c : StreamIds) (id other ep : ℕ) → holds (ids_of_streams c) id ≡ false → IdIsKept c other ep → (id == other) ≡ false
none-here c id other ep free kept = go (id == other) refl
  where
    go : (b : Bool) → (id == other) ≡ b → b ≡ false
    go true e = let same : id ≡ other = grind (arith, e) in absurd (both_ways (holds (ids_of_streams c) other) (ap (holds (ids_of_streams c)) (sym same) ∙ free) (kept-held c other ep kept))
    go false e = refl

pub no-stream_id : (c : StreamIds) (id : ℕ) → holds (ids_of_streams c) id ≡ false → (ps : List (ℕ × RedirPacket)) → Each (λ (p : ℕ × RedirPacket). StreamIdIsKept c p.0 (stream_endpoint p.1)) ps → times id (stream_ids_on ps) ≡ 0
no-stream_id c id free [] h = refl
no-stream_id c id free (p ∷ ps) h = let rest = no-stream_id c id free ps h.1 in let a = times-append id (stream_id p) (stream_ids_on ps) in let b = go (stream_endpoint p.1) h.0 in omega (arith, rest, a, b)
  where
    go : (o : Option ℕ) → StreamIdIsKept c p.0 o → times id (cond (is_some o) (p.0 ∷ []) []) ≡ 0
    go None k = refl
    go (Some e) k = ap (λ (b : Bool). weight b + 0) (none-here c id p.0 e free k)

pub no-statuses : (c : StreamIds) (id : ℕ) → holds (ids_of_streams c) id ≡ false → (bs : List Tagged) → Each (StatusIsKept c) bs → times id (statuses_on bs) ≡ 0
no-statuses c id free [] h = refl
no-statuses c id free (b ∷ bs) h = let rest = no-statuses c id free bs h.1 in let a = times-append id (status_id b) (statuses_on bs) in let z = go b h.0 in omega (arith, rest, a, z)
  where
    go : (b : Tagged) → StatusIsKept c b → times id (status_id b) ≡ 0
    go (Stated x n e status) k = ap (λ (b : Bool). weight b + 0) (none-here c id n e free k)
    go _ k = refl

-- ---- with one start more

pub kept-new : (c : StreamIds) (id ep : ℕ) → AreLong c → IsIn ep → IdIsKept (started ep id c) id ep
kept-new c id ep long h = or_left (passes (λ x. x == id) (get_or (slice_set c.started (endpoint_index ep) (Some id)) (endpoint_index ep) None)) _ (ap (passes (λ x. x == id)) (get_or-set_same c.started (endpoint_index ep) (Some id) None (subst (λ (n : ℕ). endpoint_index ep < n) (sym long.started) (in-place ep h))) ∙ itself id)
  where
    itself : (n : ℕ) → (n == n) ≡ true
    itself n = grind arith

pub kept-other : (c : StreamIds) (id ep other e : ℕ) → IsIn ep → IsIn e → (e == ep) ≡ false → IdIsKept c other e → IdIsKept (started ep id c) other e
kept-other c id ep other e h k apart kept = (λ i. passes (λ x. x == other) (get_or-set_other c.started (endpoint_index ep) (endpoint_index e) (Some id) None (places-differ e ep k h apart) i) || passes (λ x. x == other) (get_or-set_other c.stopped (endpoint_index ep) (endpoint_index e) None None (places-differ e ep k h apart) i)) ∙ kept
