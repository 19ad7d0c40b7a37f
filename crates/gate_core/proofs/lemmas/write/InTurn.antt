-- Packets that are sent one after another, with ids in turn.
use Rattle.std.proofs.Common.{◌≡◌, ℕ, ◌+◌, ◌<◌, Bool, List, [], ◌∷◌, ◌++◌, length, take, get_or, Option, refl, sym, ap, ◌∙◌, append_assoc}
use Rattle.std.specs.Prelude.{Result, Ok, Err, OnErr}
use Rattle.std.specs.List.{flat_map, last_or}
use Rattle.std.proofs.lemmas.List.{append-nil, take_more}
use Rattle.std.proofs.lemmas.Grind.{flat_map-append}
use Rattle.redir_data.specs.declared.packet.RedirPacket.{RedirPacket}
use Rattle.gate_core.specs.declared.state.kept.Kept.{Kept}
use Rattle.gate_parts.specs.declared.write.outputs.Outputs.{Outputs}
use Rattle.gate_history.specs.declared.note.Note.{Note}
use Rattle.gate_history.specs.state.Ups.{Up}
use Rattle.gate_parts.specs.declared.state.stream_ids.SentIds.{SentIds}
use Rattle.gate_history.specs.state.Ids.{greatest, last_of}
use Rattle.gate_history.specs.state.Flight.{wide_ids}
use Rattle.gate_history.specs.state.StreamIds.{stream_ids_after}
use Rattle.gate_history.specs.write.Packets.{stop_of, stops}
use Rattle.redir_data.specs.Sent.{sent_packet_bytes}
use Rattle.usb_base.specs.Writes.{Begins}
use Rattle.gate_parts.specs.write.Outputs.{HasSome}
use Rattle.gate_core.specs.inner.state.Holds.{StopsShort}
use Rattle.gate_core.specs.inner.state.SentIds.{flying_in, ids_after, with_ids, after_stops, bytes_of}
use Rattle.gate_history.proofs.lemmas.Lists.{Each}
use Rattle.gate_history.proofs.lemmas.state.StreamIds.{IsSilent, draws-append, zip-append, last-append, last_or-append, stream_ids_after-append, stream_ids_after-silent}

module _ (t : Kept) where
  pub last-more : (last : ℕ) (ps qs : List RedirPacket) →
      last_of last (ids_after t last (length (ps ++ qs))) ≡ last_of (last_of last (ids_after t last (length ps))) (ids_after t (last_of last (ids_after t last (length ps))) (length qs))
  last-more last ps qs =
      ap (last_of last) (draws-append (greatest (wide_ids t.sides.agreed)) (flying_in t) last ps qs)
      ∙ last-append last (ids_after t last (length ps)) (ids_after t (last_of last (ids_after t last (length ps))) (length qs))

  pub with-more : (last : ℕ) (ps qs : List RedirPacket) → with_ids t last (ps ++ qs) ≡ with_ids t last ps ++ with_ids t (last_of last (ids_after t last (length ps))) qs
  with-more last ps qs = zip-append (greatest (wide_ids t.sides.agreed)) (flying_in t) last ps qs

  pub bytes-more : (last : ℕ) (ps qs : List RedirPacket) → bytes_of t last (ps ++ qs) ≡ bytes_of t last ps ++ bytes_of t (last_of last (ids_after t last (length ps))) qs
  bytes-more last ps qs =
      ap (flat_map (sent_packet_bytes t.sides.agreed)) (with-more last ps qs)
      ∙ flat_map-append (sent_packet_bytes t.sides.agreed) (with_ids t last ps) (with_ids t (last_of last (ids_after t last (length ps))) qs)

  pub stops-more : (c : SentIds) (ps qs : List RedirPacket) → after_stops t c (ps ++ qs) ≡ after_stops t (after_stops t c ps) qs
  stops-more c ps qs =
      let later : ℕ = last_of c.last (ids_after t c.last (length ps)) in
      λ i. record {
        stream_ids = (ap (λ l. stream_ids_after l c.stream_ids) (with-more c.last ps qs) ∙ stream_ids_after-append (with_ids t c.last ps) (with_ids t later qs) c.stream_ids) i;
        last = last-more c.last ps qs i;
        fence = (ap (last_or c.fence) (draws-append (greatest (wide_ids t.sides.agreed)) (flying_in t) c.last ps qs) ∙ last_or-append c.fence (ids_after t c.last (length ps)) (ids_after t later (length qs))) i;
      }

  -- those that neither start nor stop a stream are noted nowhere
  pub stream_ids-silent : (ps qs : List RedirPacket) → Each IsSilent qs → stream_ids_after (with_ids t t.last (ps ++ qs)) t.stream_ids ≡ stream_ids_after (with_ids t t.last ps) t.stream_ids
  stream_ids-silent ps qs silent =
      let later : ℕ = last_of t.last (ids_after t t.last (length ps)) in
      ap (λ l. stream_ids_after l t.stream_ids) (with-more t.last ps qs) ∙ stream_ids_after-append (with_ids t t.last ps) (with_ids t later qs) t.stream_ids
      ∙ stream_ids_after-silent (ids_after t later (length qs)) qs (stream_ids_after (with_ids t t.last ps) t.stream_ids) silent

-- the stops of one place more
pub next-stops : (test : Up → Bool) (ups : List (Option Up)) (k : ℕ) (o : Option Up) → k < length ups → o ≡ get_or ups k o → stops test (take (k + 1) ups) ≡ stops test (take k ups) ++ stop_of test (get_or ups k o)
next-stops test ups k o here is =
    ap (stops test) (take_more ups k o here)
    ∙ flat_map-append (stop_of test) (take k ups) (get_or ups k o ∷ [])
    ∙ ap (λ (l : List RedirPacket). stops test (take k ups) ++ l) (append-nil (stop_of test (get_or ups k o)))

-- ---- bytes that were put behind others

pub begins-after : {A : Type 0} (old mid new more : List A) → mid ≡ old ++ more → Begins mid new → Begins old new
begins-after {A = A} old mid new more is e = record { more = more ++ e.more; is = e.is ∙ ap (λ (l : List A). l ++ e.more) is ∙ append_assoc old more e.more }

-- what holds holds of a failure
pub on-err : {A E : Type 0} (r : Result A E) (P : Type 0) → P → OnErr r P
on-err (Ok v) P h = tt
on-err (Err e) P h = h

-- ---- want of memory as the first bytes of an item are written

pub leaves-some : (old new : Kept) (out out_new : Outputs) → new ≡ old → HasSome out out_new → StopsShort old new out out_new
leaves-some old new out out_new same some = record {
  same = same;
  client = record { more = some.bytes; is = ap (λ (o : Outputs). o.to_client) some.is };
  host = record { more = []; is = ap (λ (o : Outputs). o.to_host) some.is ∙ sym (append-nil out.to_host) };
  notes = record { more = some.notes; is = ap (λ (o : Outputs). o.notes) some.is };
}

pub leaves-client : (old new : Kept) (out : Outputs) (client_new : List ℕ) → new ≡ old → Begins out.to_client client_new → StopsShort old new out (record out { to_client = client_new })
leaves-client old new out client_new same written = record {
  same = same;
  client = written;
  host = record { more = []; is = sym (append-nil out.to_host) };
  notes = record { more = []; is = sym (append-nil out.notes) };
}

pub leaves-host : (old new : Kept) (out : Outputs) (host_new : List ℕ) → new ≡ old → Begins out.to_host host_new → StopsShort old new out (record out { to_host = host_new })
leaves-host old new out host_new same written = record {
  same = same;
  client = record { more = []; is = sym (append-nil out.to_client) };
  host = written;
  notes = record { more = []; is = sym (append-nil out.notes) };
}

-- or behind bytes to the host, as a note is told
pub leaves-untold : (old : Kept) (out : Outputs) (host_new : List ℕ) (notes_new : List Note) → Begins out.to_host host_new → notes_new ≡ out.notes →
    StopsShort old old out (record out { to_host = host_new; notes = notes_new })
leaves-untold old out host_new notes_new written untold = record {
  same = refl;
  client = record { more = []; is = sym (append-nil out.to_client) };
  host = written;
  notes = record { more = []; is = untold ∙ sym (append-nil out.notes) };
}
