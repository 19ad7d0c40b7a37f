-- The gateway reads a packet of a stream, and what is shared is kept.
use Rattle.std.proofs.Common.{◌≡◌, ℕ, suc, ◌⊎◌, inl, inr, Bool, true, false, cond, List, [], ◌∷◌, ◌++◌, map, Option, Some, None, refl, sym, ap, ◌∙◌, subst}
use Rattle.usb_base.specs.declared.transfer.StreamPacket.{StreamPacket}
use Rattle.redir_data.specs.declared.stream_kind.StreamKind.{StreamKind}
use Rattle.redir_data.specs.StreamKinds.{is_kind_of}
use Rattle.stream_buffers.specs.Held.{is_full}
use Rattle.usbip_urb.specs.declared.client.ClientPacket.TheVariants.{Urb}
use Rattle.model_device.specs.Meaning.{Meaning}
use Rattle.gate_history.specs.host.Fillings.{Fill}
use Rattle.gate_history.specs.state.Sound.{IsSound}
use Rattle.gate_history.specs.step.Meaning.{mark_as, arrives}
use Rattle.gate_history.specs.state.Ups.{Up, stream_of, hold}
use Rattle.direct_device.specs.Direct.{Direct}
use Rattle.direct_device.specs.Acting.{Answer, Arrive, received, arrived_by}
use Rattle.direct_device.specs.Legal.{CanArrive}
use Rattle.direct_run.specs.Moves.{World, GateReads, move, quiet, gate_reads, gate_made}
use Rattle.direct_proof.specs.Deeds.{as_deeds}
use Rattle.direct_proof.specs.Tagged.{Tagged, Packed, on_wire, packets_in}
use Rattle.direct_proof.specs.Shared.{Shared, way_of, view}
use Rattle.direct_proof.specs.Requests.{live_of}
use Rattle.direct_proof.specs.Related.{Related}
use Rattle.direct_proof.specs.StreamIds.{Fenced}
use Rattle.direct_proof.specs.Kinds.{IsIn, OfKind}
use Rattle.direct_proof.specs.Stale.{asks, ends}
use Rattle.direct_proof.proofs.shared.Keeps.{Keeps, keeps-quiet}
use Rattle.direct_proof.proofs.streams.Keeping.{Does, does-then, keeps-made}
use Rattle.direct_proof.proofs.streams.wires.Growing.{fenced-same}
use Rattle.direct_proof.proofs.streams.wires.UpRows.{hold-rows, fits-hold, rows-refl}
use Rattle.direct_proof.proofs.streams.fills.Filling.{Holds, holds-again, hold-twice}
use Rattle.direct_proof.proofs.streams.reads.Reading.{read_world, read-here, read-related, packet-of}
use Rattle.direct_proof.proofs.streams.reads.Quiet.{idle-made}
use Rattle.direct_proof.proofs.streams.reads.Stating.{each-refl}
use Rattle.direct_proof.proofs.streams.reads.Arriving.{arrival-means, arrives-as, filling_of, stay_by, told_by_fills, sent_by_fills, arrived_world, arrives-made, debts-stay}
use Rattle.direct_proof.proofs.streams.fills.FillsDone.{DoesFill, does-fill, does-none, holds-at, differ-of}
use Rattle.direct_proof.proofs.meeting.First.{all-down}
use Rattle.direct_proof.proofs.streams.reads.Ways.{way-lost, way-first, way-taken, way-rows}

-- ---- what is kept

module _ {S : Type 0} (m : Meaning S) (w : World S) (j : Shared) (place : ℕ) (k : StreamKind) (ep : ℕ) (p : StreamPacket) (bs : List Tagged) (sound : IsSound w.gate) (rel : Related m w (record j { back = Packed k ep p ∷ bs })) where
  is-in : IsIn ep
  is-in = record { low = rel.tagged.0.0; high = rel.tagged.0.1 }

  abbrev before : Shared
  before = record j { back = Packed k ep p ∷ bs }

  abbrev later : Shared
  later = record j { back = bs }

  abbrev left : World S
  left = record w { to_gate = map on_wire bs }

  came : move as_deeds m w (GateReads place) ≡ gate_made as_deeds left (mark_as w.gate (arrives w.gate ep k p (stream_of w.gate.streams ep)) None)
  came =
      ap (gate_reads as_deeds w place) rel.answers
      ∙ (λ i. cond (rel.sides.reads i) (quiet left) (gate_made as_deeds left (arrival-means w.gate place k ep p is-in.low rel.tagged.0.2 i)))

  fenced-tail : Fenced w.gate.fence j.fenced w.to_host bs
  fenced-tail = fenced-same w.gate.fence j.fenced w.to_host (Packed k ep p ∷ bs) bs refl (rel.fenced (read-here m w j (Packed k ep p) bs rel))

  lost-packet : stream_of w.gate.streams ep ≡ None → Keeps m w before (move as_deeds m w (GateReads place))
  lost-packet down = keeps-quiet m w before later (move as_deeds m w (GateReads place)) (read_world w bs (suc w.gate.items) w.gate.live w.gate.streams w.gate.fence)
      (came ∙ ap (λ (o : Option Up). gate_made as_deeds left (mark_as w.gate (arrives w.gate ep k p o) None)) down ∙ idle-made left)
      (read-related m w j (Packed k ep p) bs rel (suc w.gate.items) w.gate.live w.gate.streams w.gate.fence (record {
        packet = packet-of k ep p;
        rows = rows-refl w.gate.streams;
        fits = rel.ups;
        down = rel.down;
        owes = refl;
        no_fence = λ h. h;
        fenced-is = fenced-tail;
        asks_same = each-refl (asks w.gate.fence) w.to_host;
        ends_same = each-refl (ends w.gate.fence) bs;
      }))
      (λ i. record (view w later) { way = λ e. way-lost w.gate.streams ep k p bs down e i })

  module _ (up : Up) (here : stream_of w.gate.streams ep ≡ Some up) where
    kind : is_kind_of k up.row.kind ≡ true
    kind = subst (λ (o : Option Up). OfKind o k) here rel.tagged.0.3

    abbrev d : Direct S
    d = view w before

    abbrev taken : Direct S
    taken = record d { streams = hold ep (received up p) w.gate.streams; way = λ e. way_of (stream_of w.gate.streams e) e bs }

    on-way : d.way ep ≡ p ∷ packets_in up.row.kind ep bs
    on-way = ap (λ (o : Option Up). way_of o ep (Packed k ep p ∷ bs)) here ∙ way-first ep k p bs up kind

    arrive-does : Does m d (Arrive ep ∷ []) taken []
    arrive-does = record {
      same = (λ i. arrived_by d ep (here i) (on-way i)) ∙ (λ i. record d { streams = hold ep (received up p) w.gate.streams; way = λ e. way-taken w.gate.streams ep k p bs up here e i });
      legal = (subst (λ (o : Option Up). CanArrive o (d.way ep)) (sym here) (subst (CanArrive (Some up)) (sym on-way) tt), tt);
      outs-are = refl;
    }

    holds : Holds w.gate.streams ep up.row.max_packet up.held
    holds = holds-at w.gate.streams ep up is-in rel.ups.count_is here

    who : (b : Bool) → w.gate.sides.imported ≡ b → (w.gate.sides.imported ≡ true) ⊎ (w.gate.live ≡ [])
    who true h = inl h
    who false h = inr (sound.gone h)

    fill-does : (full : Bool) → is_full up.held ≡ full → DoesFill m taken ep w.gate.live (filling_of w.gate ep p up full)
    fill-does true h = does-none m taken ep up.row.max_packet w.gate.live up.held refl (subst (λ (ps : List StreamPacket). Holds (hold ep ps w.gate.streams) ep up.row.max_packet up.held) (sym (ap (λ (b : Bool). cond b up.held (up.held ++ p ∷ [])) h)) (holds-again w.gate.streams ep up.row.max_packet up.held up.held holds))
    fill-does false h = does-fill m taken ep up.row.max_packet w.gate.live (up.held ++ p ∷ []) (who w.gate.sides.imported refl) refl (differ-of w.gate sound)
        (subst (λ (ps : List StreamPacket). Holds (hold ep ps w.gate.streams) ep up.row.max_packet (up.held ++ p ∷ [])) (sym (ap (λ (b : Bool). cond b up.held (up.held ++ p ∷ [])) h)) (holds-again w.gate.streams ep up.row.max_packet up.held (up.held ++ p ∷ []) holds))

    not-some : None ≡ Some up → ⊥
    not-some e = cc

    abbrev f : Fill
    f = filling_of w.gate ep p up (is_full up.held)

    abbrev new : World S
    new = arrived_world left ep f

    packet-does : Does m d (Arrive ep ∷ map Answer (told_by_fills ep f.fillings w.gate.live)) (view new later) (map Urb (sent_by_fills ep f.fillings w.gate.live))
    packet-does = subst (λ (e : Direct S). Does m d (Arrive ep ∷ map Answer (told_by_fills ep f.fillings w.gate.live)) e (map Urb (sent_by_fills ep f.fillings w.gate.live)))
        (λ i. record d {
          live = map live_of (stay_by ep f.fillings w.gate.live);
          streams = hold-twice w.gate.streams ep up.row.max_packet up.held (received up p) f.left holds i;
          way = λ e. way-rows (stream_of w.gate.streams e) (stream_of (hold ep f.left w.gate.streams) e) e bs (sym (hold-rows ep f.left w.gate.streams is-in rel.ups.count_is e)) i;
        })
        (does-then m d taken (record taken { live = map live_of (stay_by ep f.fillings w.gate.live); streams = hold ep f.left taken.streams }) (Arrive ep ∷ []) (map Answer (told_by_fills ep f.fillings w.gate.live)) [] (map Urb (sent_by_fills ep f.fillings w.gate.live))
        arrive-does (fill-does (is_full up.held) refl))

    held-packet : Keeps m w before (move as_deeds m w (GateReads place))
    held-packet = keeps-made m w before later (move as_deeds m w (GateReads place)) new (map Urb (sent_by_fills ep f.fillings w.gate.live)) (Arrive ep ∷ map Answer (told_by_fills ep f.fillings w.gate.live))
        (came ∙ ap (λ (o : Option Up). gate_made as_deeds left (mark_as w.gate (arrives w.gate ep k p o) None)) here ∙ ap (λ e. gate_made as_deeds left (mark_as w.gate e None)) (arrives-as w.gate k ep p up kind) ∙ arrives-made left ep f)
        (read-related m w j (Packed k ep p) bs rel (suc w.gate.items) (stay_by ep f.fillings w.gate.live) (hold ep f.left w.gate.streams) w.gate.fence (record {
          packet = packet-of k ep p;
          rows = hold-rows ep f.left w.gate.streams is-in rel.ups.count_is;
          fits = fits-hold ep f.left w.gate.streams is-in rel.ups;
          down = λ h. absurd (not-some (sym (all-down ep) ∙ sym (ap (λ (ups : List (Option Up)). stream_of ups ep) (rel.down h)) ∙ here));
          owes = debts-stay ep f.fillings w.gate.live;
          no_fence = λ h. h;
          fenced-is = fenced-tail;
          asks_same = each-refl (asks w.gate.fence) w.to_host;
          ends_same = each-refl (ends w.gate.fence) bs;
        }))
        packet-does

  pub keep-packed : Keeps m w before (move as_deeds m w (GateReads place))
  keep-packed = by (stream_of w.gate.streams ep) refl
    where
      by : (o : Option Up) → stream_of w.gate.streams ep ≡ o → Keeps m w before (move as_deeds m w (GateReads place))
      by None h = lost-packet h
      by (Some up) h = held-packet up h
