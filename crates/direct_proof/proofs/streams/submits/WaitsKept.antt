-- A submit that waits for a stream keeps what is shared: it starts a stream that is down, or is filled from what is
-- held.
use Rattle.std.proofs.Common.{◌≡◌, ℕ, inl, true, false, cond, List, [], ◌∷◌, ◌++◌, length, map, Option, Some, None, refl, sym, ap, ◌∙◌, subst, append-nil}
use Rattle.std.specs.Prelude.{slice_set, zip, is_some}
use Rattle.std.specs.List.{list_any}
use Rattle.std.proofs.lemmas.List.{length-map, map-append}
use Rattle.usb_base.specs.Endpoint.{endpoint_index, row_of}
use Rattle.usb_base.specs.declared.endpoint.EpRow.{EpRow}
use Rattle.usb_base.specs.declared.endpoint.EpTable.{EpTable}
use Rattle.usbip_urb.specs.declared.packet.Submit.{Submit as UrbSubmit}
use Rattle.usbip_urb.specs.declared.packet.UrbPacket.TheVariants as urb
use Rattle.usbip_urb.specs.declared.client.ClientPacket.TheVariants.{Urb}
use Rattle.redir_data.specs.declared.packet.RedirPacket.{RedirPacket}
use Rattle.model_device.specs.Meaning.{Meaning}
use Rattle.gate_history.specs.declared.request.Request.{Request}
use Rattle.gate_history.specs.client.Requests.{request_of}
use Rattle.gate_history.specs.declared.item.Item.TheVariants.{Asked}
use Rattle.gate_history.specs.declared.verdict.Verdict.TheVariants.{Stream}
use Rattle.gate_history.specs.client.Verdict.{verdict, changes}
use Rattle.gate_history.specs.host.Fillings.{Fill}
use Rattle.gate_history.specs.state.Flight.{wide_bulk}
use Rattle.gate_history.specs.state.StreamIds.{StreamIds, stream_ids_after, started}
use Rattle.gate_history.specs.step.Marks.{Submission}
use Rattle.gate_history.specs.client.Submits.{Pending}
use Rattle.gate_history.specs.write.Output.{fresh}
use Rattle.gate_history.specs.state.State.{next_ids, has_number, is_number as has_seq}
use Rattle.gate_history.specs.write.Packets.{starts, start_packet}
use Rattle.gate_history.specs.step.Meaning.{mark_as, by_stream, verdict_of, situation}
use Rattle.gate_history.specs.state.Ups.{Up, stream_at, stream_of, hold, raise, held_of}
use Rattle.gate_history.proofs.lemmas.Lists.{list_any-map}
use Rattle.gate_history.proofs.lemmas.state.StreamIds.{start-stream_ids}
use Rattle.direct_proof.proofs.shared.New.{next_id}
use Rattle.direct_device.specs.Direct.{Live, Direct, is_number, way_if}
use Rattle.direct_device.specs.Acting.{Submit, Answer, made_of}
use Rattle.direct_run.specs.Moves.{World, ByClient, move, gate_made, quiet}
use Rattle.direct_proof.specs.Deeds.{as_deeds}
use Rattle.direct_proof.specs.Shared.{Shared, way_of, view}
use Rattle.direct_proof.specs.Requests.{live_of}
use Rattle.direct_proof.specs.Related.{Related}
use Rattle.direct_proof.specs.Kinds.{IsIn}
use Rattle.direct_proof.proofs.shared.Keeps.{Keeps}
use Rattle.direct_proof.proofs.streams.Keeping.{Does, does-then, keeps-made}
use Rattle.direct_proof.proofs.shared.UpsFound.{in-place, by-address}
use Rattle.direct_proof.proofs.streams.wires.UpRows.{hold-rows}
use Rattle.direct_proof.proofs.streams.fills.Filling.{Holds}
use Rattle.direct_proof.proofs.streams.fills.FillsDone.{DoesFill, does-fill, differ-of, holds-at}
use Rattle.direct_proof.proofs.streams.reads.Arriving.{stay_by, told_by_fills, sent_by_fills}
use Rattle.direct_proof.proofs.streams.reads.Ways.{way-rows}
use Rattle.direct_proof.proofs.submits.Tables.{row-told}
use Rattle.direct_proof.proofs.streams.submits.Streamed.{IsStreamed, streamed}
use Rattle.direct_proof.proofs.streams.submits.Still.{IsStill, is-still}
use Rattle.direct_proof.proofs.streams.submits.Waits.{waiter, with_waiter, fill_for, sent_for, waits_world, waits-means, waits-made, waited, device-waits}
use Rattle.direct_proof.proofs.streams.submits.Waited.{AfterWait, after-held, waits-related}
use Rattle.direct_proof.proofs.streams.submits.Raised.{after-raised, way-raised}
use Rattle.direct_proof.proofs.streams.submits.RaisedKinds.{up-here}
use Rattle.direct_proof.proofs.streams.submits.RaisedLists.{after-kept}
use Rattle.direct_proof.proofs.streams.submits.Accepted.{IsGate, id-free, differ-more}

module _ {S : Type 0} (m : Meaning S) (w : World S) (j : Shared) (place : ℕ) (s : UrbSubmit) (first : EpRow) (rel : Related m w j) (gate : IsGate w.gate) (imported : w.gate.sides.imported ≡ true) (present : w.gate.sides.client_over ≡ false)
    (new : has_number w.gate s.head.seqnum ≡ false) (v : verdict_of w.gate (request_of s) ≡ Stream first) (at : IsIn (request_of s).transfer.ep) where
  abbrev r : Request
  r = request_of s

  abbrev ep : ℕ
  ep = (request_of s).transfer.ep

  abbrev d : Direct S
  d = view w j

  facts : IsStreamed (situation w.gate r) r first
  facts = streamed (situation w.gate r) r first v

  still : IsStill m w j
  still = is-still m w j rel imported facts.here facts.calm

  same-row : row_of w.gate.facts.table ep ≡ row_of (m.table w.host.gadget) ep
  same-row = ap (λ (t : EpTable). row_of t ep) (still.table ∙ still.session.table) ∙ row-told (m.table w.host.gadget) ep (in-place ep at)

  new-live : list_any (λ (l : Live). is_number r.seqnum l.load) d.live ≡ false
  new-live = list_any-map (λ (l : Live). is_number r.seqnum l.load) live_of w.gate.live ∙ sym (list_any-map (has_seq r.seqnum) (λ (p : Pending). p.submit) w.gate.live) ∙ new

  wide : true ≡ wide_bulk w.gate.sides.agreed
  wide = sym (ap wide_bulk (rel.meets.gate (rel.meets.behind (rel.meets.no_session imported facts.here)).0))

  made : (row : EpRow) → by_stream (stream_at w.gate.streams ep) (Stream first) ≡ Stream row → made_of m d r ≡ Stream row
  made row kept =
      ap (by_stream (stream_at d.streams ep)) (
      (λ i. verdict (record {
        lost = sym (rel.sides.seen imported) i;
        live = length-map w.gate.live live_of i;
        changing = (list_any-map (λ (l : Live). changes l.load.verdict) live_of w.gate.live ∙ sym (list_any-map (λ (x : Submission). changes x.verdict) (λ (p : Pending). p.submit) w.gate.live)) i;
        row = sym same-row i;
        wide = wide i;
      }) r)
      ∙ v)
      ∙ kept

  -- what the two cases have in common
  module _ (row : EpRow) (kept : by_stream (stream_at w.gate.streams ep) (Stream first) ≡ Stream row) (ups : List (Option Up)) (raise-is : raise (record { ep = ep; row = row; held = [] }) w.gate.streams ≡ ups)
      (after : AfterWait m w j (w.to_host ++ sent_for w.gate r row) (stream_ids_after (sent_for w.gate r row) w.gate.stream_ids) ups) (full : Holds ups ep row.max_packet (held_of (stream_at w.gate.streams ep)))
      (ways : (e : ℕ) → way_if (stream_of ups e) (way_of (stream_of w.gate.streams e) e j.back) ≡ way_of (stream_of ups e) e j.back) where
    abbrev f : Fill
    f = fill_for w.gate r row

    abbrev world : World S
    world = waits_world w r row

    abbrev ps : List Pending
    ps = with_waiter w.gate r row

    moved : move as_deeds m w (ByClient (Asked place (Urb (urb.Submit s)))) ≡ record { world = waits_world w r row; outs = map Urb (sent_by_fills ep f.fillings ps); told = Submit r ∷ map Answer (told_by_fills ep f.fillings ps) }
    moved =
        (λ i. cond (present i) (quiet w) (gate_made as_deeds w (mark_as w.gate (waits-means w.gate place s first row imported new v kept i) None)))
        ∙ waits-made w r row

    related : Related m (waits_world w r row) j
    related = waits-related m w j r row rel imported facts.here
        (subst (λ (us : List (Option Up)). AfterWait m w j (w.to_host ++ sent_for w.gate r row) (stream_ids_after (sent_for w.gate r row) w.gate.stream_ids) (hold ep f.left us)) (sym raise-is)
        (after-held m w j (w.to_host ++ sent_for w.gate r row) (stream_ids_after (sent_for w.gate r row) w.gate.stream_ids) ups ep f.left at after))

    filled : DoesFill m (waited d r row) ep ps f
    filled = does-fill m (waited d r row) ep row.max_packet ps (held_of (stream_at w.gate.streams ep)) (inl imported) (sym (map-append live_of w.gate.live (fresh (waiter w.gate r row) ∷ []))) (differ-more w.gate r row (differ-of w.gate gate.sound) new)
        (subst (λ (us : List (Option Up)). Holds us ep row.max_packet (held_of (stream_at w.gate.streams ep))) (sym raise-is) full)

    does : Does m d (Submit r ∷ map Answer (told_by_fills ep f.fillings ps)) (view (waits_world w r row) j) (map Urb (sent_by_fills ep f.fillings ps))
    does = subst (λ (x : Direct S). Does m d (Submit r ∷ map Answer (told_by_fills ep f.fillings ps)) x (map Urb (sent_by_fills ep f.fillings ps)))
        (λ i. record (view (waits_world w r row) j) { way = λ e. way e i })
        (does-then m d (waited d r row) (record (waited d r row) { live = map live_of (stay_by ep f.fillings ps); streams = hold ep f.left (waited d r row).streams }) (Submit r ∷ []) (map Answer (told_by_fills ep f.fillings ps)) [] (map Urb (sent_by_fills ep f.fillings ps))
        (device-waits m d r row (made row kept) imported new-live) filled)
      where
        way : (e : ℕ) → way_if (stream_of (raise (record { ep = ep; row = row; held = [] }) w.gate.streams) e) (way_of (stream_of w.gate.streams e) e j.back) ≡ way_of (stream_of (hold ep f.left (raise (record { ep = ep; row = row; held = [] }) w.gate.streams)) e) e j.back
        way e =
            ap (λ (us : List (Option Up)). way_if (stream_of us e) (way_of (stream_of w.gate.streams e) e j.back)) raise-is
            ∙ ways e
            ∙ way-rows (stream_of ups e) (stream_of (hold ep f.left ups) e) e j.back (sym (hold-rows ep f.left ups at after.fits.count_is e))
            ∙ ap (λ (us : List (Option Up)). way_of (stream_of (hold ep f.left us) e) e j.back) (sym raise-is)

    keeps : Keeps m w j (move as_deeds m w (ByClient (Asked place (Urb (urb.Submit s)))))
    keeps = keeps-made m w j j (move as_deeds m w (ByClient (Asked place (Urb (urb.Submit s))))) (waits_world w r row) (map Urb (sent_by_fills ep f.fillings ps)) (Submit r ∷ map Answer (told_by_fills ep f.fillings ps)) moved related does

  -- a stream that is up
  keep-up : (up : Up) → stream_at w.gate.streams ep ≡ Some up → Keeps m w j (move as_deeds m w (ByClient (Asked place (Urb (urb.Submit s)))))
  keep-up up here = keeps up.row (ap (λ (o : Option Up). by_stream o (Stream first)) here) w.gate.streams (ap (λ (o : Option Up). cond (is_some o) w.gate.streams (slice_set w.gate.streams (endpoint_index ep) (Some (record { ep = ep; row = up.row; held = [] })))) here) after
      (subst (Holds w.gate.streams ep up.row.max_packet) (sym (ap held_of here)) (holds-at w.gate.streams ep up at rel.ups.count_is (by-address w.gate.streams ep at ∙ here)))
      (λ e. again (stream_of w.gate.streams e) e)
    where
      again : (o : Option Up) (e : ℕ) → way_if o (way_of o e j.back) ≡ way_of o e j.back
      again None e = refl
      again (Some x) e = refl

      sent : sent_for w.gate r up.row ≡ []
      sent = λ i. zip (next_ids w.gate (length (starts (here i) ep up.row))) (starts (here i) ep up.row)

      after : AfterWait m w j (w.to_host ++ sent_for w.gate r up.row) (stream_ids_after (sent_for w.gate r up.row) w.gate.stream_ids) w.gate.streams
      after = subst (λ (l : List (ℕ × RedirPacket)). AfterWait m w j (w.to_host ++ l) (stream_ids_after l w.gate.stream_ids) w.gate.streams) (sym sent)
          (subst (λ (l : List (ℕ × RedirPacket)). AfterWait m w j l w.gate.stream_ids w.gate.streams) (sym (append-nil w.to_host)) (after-kept m w j rel facts.here still.session))

  -- one that is down
  abbrev up1 : Up
  up1 = record { ep = ep; row = first; held = [] }

  abbrev ups1 : List (Option Up)
  ups1 = slice_set w.gate.streams (endpoint_index ep) (Some (record { ep = ep; row = first; held = [] }))

  keep-down : stream_at w.gate.streams ep ≡ None → Keeps m w j (move as_deeds m w (ByClient (Asked place (Urb (urb.Submit s)))))
  keep-down here = keeps first (ap (λ (o : Option Up). by_stream o (Stream first)) here) ups1 (ap (λ (o : Option Up). cond (is_some o) w.gate.streams (slice_set w.gate.streams (endpoint_index up1.ep) (Some up1))) here) after
      (subst (Holds ups1 ep first.max_packet) (sym (ap held_of here)) (holds-at ups1 ep up1 at raised-fits.fits.count_is (up-here m w j ep (next_id w.gate) first rel still at facts.kind_is row-is down gate.long (id-free w.gate gate))))
      (way-raised m w j ep (next_id w.gate) first rel still at facts.kind_is row-is down gate.long (id-free w.gate gate))
    where
      down : stream_of w.gate.streams ep ≡ None
      down = by-address w.gate.streams ep at ∙ here

      row-is : first ≡ row_of (m.table w.host.gadget) ep
      row-is = facts.row-is ∙ same-row

      raised-fits : AfterWait m w j (w.to_host ++ (next_id w.gate, start_packet ep first) ∷ []) (started ep (next_id w.gate) w.gate.stream_ids) (slice_set w.gate.streams (endpoint_index ep) (Some (record { ep = ep; row = first; held = [] })))
      raised-fits = after-raised m w j ep (next_id w.gate) first rel still at facts.kind_is row-is down gate.long (id-free w.gate gate)

      sent : sent_for w.gate r first ≡ (next_id w.gate, start_packet ep first) ∷ []
      sent = λ i. zip (next_ids w.gate (length (starts (here i) ep first))) (starts (here i) ep first)

      after : AfterWait m w j (w.to_host ++ sent_for w.gate r first) (stream_ids_after (sent_for w.gate r first) w.gate.stream_ids) (slice_set w.gate.streams (endpoint_index ep) (Some (record { ep = ep; row = first; held = [] })))
      after = subst (λ (l : List (ℕ × RedirPacket)). AfterWait m w j (w.to_host ++ l) (stream_ids_after l w.gate.stream_ids) (slice_set w.gate.streams (endpoint_index ep) (Some (record { ep = ep; row = first; held = [] })))) (sym sent)
          (subst (λ (c : StreamIds). AfterWait m w j (w.to_host ++ (next_id w.gate, start_packet ep first) ∷ []) c (slice_set w.gate.streams (endpoint_index ep) (Some (record { ep = ep; row = first; held = [] })))) (sym (start-stream_ids (next_id w.gate) ep first w.gate.stream_ids)) raised-fits)

  pub keep-waits : Keeps m w j (move as_deeds m w (ByClient (Asked place (Urb (urb.Submit s)))))
  keep-waits = by (stream_at w.gate.streams ep) refl
    where
      by : (o : Option Up) → stream_at w.gate.streams ep ≡ o → Keeps m w j (move as_deeds m w (ByClient (Asked place (Urb (urb.Submit s)))))
      by None h = keep-down h
      by (Some up) h = keep-up up h
