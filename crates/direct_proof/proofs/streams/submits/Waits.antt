-- The gateway accepts a submit that waits for a stream: what it means, what the gateway makes of it, and what the
-- device attached directly does.
use Rattle.std.proofs.Common.{◌≡◌, ℕ, suc, ◌+◌, not, true, false, cond, List, [], ◌∷◌, ◌++◌, length, map, filter, Option, None, refl, sym, ap, ◌∙◌, append-nil}
use Rattle.std.specs.Prelude.{zip}
use Rattle.std.specs.List.{flat_map, list_any}
use Rattle.std.proofs.lemmas.List.Elements.{filter-append}
use Rattle.std.proofs.lemmas.List.{map-append}
use Rattle.usb_base.specs.declared.endpoint.EpRow.{EpRow}
use Rattle.usb_base.specs.declared.side.Side.TheVariants.{Client}
use Rattle.usb_base.specs.declared.reason.Reason.TheVariants.{NotImported, DuplicateSeq}
use Rattle.usbip_urb.specs.declared.packet.Submit.{Submit as UrbSubmit}
use Rattle.usbip_urb.specs.declared.packet.UrbPacket.TheVariants as urb
use Rattle.usbip_urb.specs.declared.client.ClientPacket.TheVariants.{Urb}
use Rattle.redir_data.specs.declared.packet.RedirPacket.{RedirPacket}
use Rattle.model_device.specs.Meaning.{Meaning}
use Rattle.gate_history.specs.declared.request.Request.{Request}
use Rattle.gate_history.specs.client.Requests.{request_of}
use Rattle.gate_history.specs.declared.item.Item.TheVariants.{Asked}
use Rattle.gate_history.specs.declared.verdict.Verdict.{Verdict}
use Rattle.gate_history.specs.declared.verdict.Verdict.TheVariants.{Stream}
use Rattle.usb_base.specs.declared.errno.TheConstants.{ESHUTDOWN}
use Rattle.gate_history.specs.host.Fillings.{Fill, fill}
use Rattle.gate_history.specs.step.Marks.{Submission, Waits}
use Rattle.gate_history.specs.client.Submits.{Pending}
use Rattle.gate_history.specs.client.Ends.{waits_at}
use Rattle.gate_history.specs.state.Ids.{last_of}
use Rattle.gate_history.specs.state.State.{State, has_number, next_ids}
use Rattle.gate_history.specs.write.Packets.{starts}
use Rattle.gate_history.specs.step.Meaning.{meaning, mark_as, refused, by_stream, accepts, accepted_as, submission, drawn_for, verdict_of, waiting}
use Rattle.gate_history.specs.step.Machine.{live_after}
use Rattle.gate_history.specs.write.Output.{fresh}
use Rattle.gate_history.specs.state.StreamIds.{stream_ids_after}
use Rattle.gate_history.specs.write.Notes.{notes_of, is_by_answer}
use Rattle.gate_history.specs.declared.note.Note.{Note}
use Rattle.gate_history.specs.declared.note.Note.TheVariants as note
use Rattle.gate_history.specs.write.Answers.{without_packets}
use Rattle.gate_history.specs.state.Ups.{Up, stream_at, hold, raise, held_of}
use Rattle.gate_history.proofs.lemmas.Lists.{filter-all, filter-none, filter-map, map-map}
use Rattle.gate_history.proofs.lemmas.step.NoCancel.{asks-none, none-cancelled, stays-uncancelled}
use Rattle.direct_run.specs.declared.submitted.Submitted.{Submitted}
use Rattle.direct_run.specs.Noted.{named}
use Rattle.direct_device.specs.Direct.{Live, Direct, is_number, way_by}
use Rattle.direct_device.specs.Acting.{Deed, Answer, Submit, answers, made_of, submitted, submit_answers}
use Rattle.direct_run.specs.Moves.{World, gate_made}
use Rattle.direct_proof.specs.Deeds.{as_deeds}
use Rattle.direct_proof.proofs.performs.Performs.{itself}
use Rattle.direct_proof.proofs.streams.Keeping.{Does}
use Rattle.direct_proof.proofs.streams.fills.Fills.{asking_at, ends_by}
use Rattle.direct_proof.proofs.streams.reads.Arriving.{stay_by, told_by_fills, sent_by_fills, none-named}

-- ---- what it means

abbrev pub waiter : State → Request → EpRow → Submission
waiter st r row = record { place = st.items; request = r; verdict = Stream row; id = 0 }

abbrev pub with_waiter : State → Request → EpRow → List Pending
with_waiter st r row = st.live ++ fresh (waiter st r row) ∷ []

abbrev pub fill_for : State → Request → EpRow → Fill
fill_for st r row = fill row.max_packet (asking_at r.transfer.ep (with_waiter st r row)) (held_of (stream_at st.streams r.transfer.ep))

waiting-with : (st : State) (r : Request) (row : EpRow) → waiting st r.transfer.ep ++ r ∷ [] ≡ asking_at r.transfer.ep (with_waiter st r row)
waiting-with st r row =
    ap (λ (l : List Request). l ++ r ∷ []) (
    ap (map (λ (s : Submission). s.request)) (filter-map (waits_at r.transfer.ep) (λ (p : Pending). p.submit) st.live)
    ∙ map-map (λ (s : Submission). s.request) (λ (p : Pending). p.submit) (filter (λ (p : Pending). waits_at r.transfer.ep p.submit) st.live))
    ∙ (λ i. map (λ (p : Pending). p.submit.request) (filter (λ (p : Pending). waits_at r.transfer.ep p.submit) st.live) ++ map (λ (p : Pending). p.submit.request) (cond (sym (itself r.transfer.ep) i) (fresh (waiter st r row) ∷ []) []))
    ∙ sym (map-append (λ (p : Pending). p.submit.request) (filter (λ (p : Pending). waits_at r.transfer.ep p.submit) st.live) (filter (λ (p : Pending). waits_at r.transfer.ep p.submit) (fresh (waiter st r row) ∷ [])))
    ∙ ap (map (λ (p : Pending). p.submit.request)) (sym (filter-append (λ (p : Pending). waits_at r.transfer.ep p.submit) st.live (fresh (waiter st r row) ∷ [])))

pub waits-means : (st : State) (place : ℕ) (s : UrbSubmit) (first row : EpRow) → st.sides.imported ≡ true → has_number st s.head.seqnum ≡ false → verdict_of st (request_of s) ≡ Stream first →
    by_stream (stream_at st.streams (request_of s).transfer.ep) (Stream first) ≡ Stream row →
    meaning st (Asked place (Urb (urb.Submit s))) ≡ Waits (waiter st (request_of s) row) (fill_for st (request_of s) row)
waits-means st place s first row imported new v kept =
    (λ i. cond (not (imported i)) (refused Client place NotImported) (cond (new i) (refused Client (place + 4) DuplicateSeq) (accepts st (request_of s) (v i))))
    ∙ ap (λ (x : Verdict). accepted_as st (submission st (request_of s) x (drawn_for st (request_of s) x)) x) kept
    ∙ ap (λ (rs : List Request). Waits (waiter st (request_of s) row) (fill row.max_packet rs (held_of (stream_at st.streams (request_of s).transfer.ep)))) (waiting-with st (request_of s) row)

-- ---- what the gateway makes of it

abbrev pub sent_for : State → Request → EpRow → List (ℕ × RedirPacket)
sent_for st r row = zip (next_ids st (length (starts (stream_at st.streams r.transfer.ep) r.transfer.ep row))) (starts (stream_at st.streams r.transfer.ep) r.transfer.ep row)

abbrev pub waits_world : {S : Type 0} → World S → Request → EpRow → World S
waits_world w r row = record w {
  gate = record w.gate {
    items = suc w.gate.items;
    live = stay_by r.transfer.ep (fill_for w.gate r row).fillings (with_waiter w.gate r row);
    streams = hold r.transfer.ep (fill_for w.gate r row).left (raise (record { ep = r.transfer.ep; row = row; held = [] }) w.gate.streams);
    stream_ids = stream_ids_after (sent_for w.gate r row) w.gate.stream_ids;
    last = last_of w.gate.last (next_ids w.gate (length (starts (stream_at w.gate.streams r.transfer.ep) r.transfer.ep row)));
  };
  to_host = w.to_host ++ sent_for w.gate r row;
  submits = w.submits ++ record { seqnum = r.seqnum; id = 0 } ∷ [];
}

abbrev noted : State → Request → EpRow → List Note
noted st r row = map (λ (p : Pending). note.Answered p.submit.request.seqnum) (filter (λ p. is_by_answer (ends_by r.transfer.ep (fill_for st r row).fillings p)) (with_waiter st r row))

pub waits-made : {S : Type 0} (w : World S) (r : Request) (row : EpRow) →
    gate_made as_deeds w (mark_as w.gate (Waits (waiter w.gate r row) (fill_for w.gate r row)) None) ≡
    record {
      world = waits_world w r row;
      outs = map Urb (sent_by_fills r.transfer.ep (fill_for w.gate r row).fillings (with_waiter w.gate r row));
      told = Submit r ∷ map Answer (told_by_fills r.transfer.ep (fill_for w.gate r row).fillings (with_waiter w.gate r row));
    }
waits-made {S = S} w r row = λ i. record {
  world = record (waits_world w r row) {
    gate = record (waits_world w r row).gate { live = lives i; abandoned = filter-all w.gate.abandoned i };
    to_host = (ap (λ (l : List (ℕ × RedirPacket)). w.to_host ++ ((l ++ sent_for w.gate r row) ++ [])) (none-cancelled (Waits (waiter w.gate r row) (fill_for w.gate r row)) stays-uncancelled w.gate.live) ∙ ap (λ (l : List (ℕ × RedirPacket)). w.to_host ++ l) (append-nil (sent_for w.gate r row))) i;
    submits = names i;
  };
  outs = map Urb (sent_by_fills r.transfer.ep (fill_for w.gate r row).fillings (with_waiter w.gate r row));
  told = deeds i;
}
  where
    lives : live_after w.gate (Waits (waiter w.gate r row) (fill_for w.gate r row)) ≡ stay_by r.transfer.ep (fill_for w.gate r row).fillings (with_waiter w.gate r row)
    lives = asks-none (Waits (waiter w.gate r row) (fill_for w.gate r row)) (λ s. refl) (stay_by r.transfer.ep (fill_for w.gate r row).fillings (with_waiter w.gate r row))

    names : w.submits ++ flat_map named (notes_of w.gate (mark_as w.gate (Waits (waiter w.gate r row) (fill_for w.gate r row)) None)) ≡ w.submits ++ record { seqnum = r.seqnum; id = 0 } ∷ []
    names =
        ap (λ (l : List Note). w.submits ++ flat_map named (note.Submitted r.seqnum 0 ∷ l)) (append-nil ((noted w.gate r row ++ []) ++ []) ∙ append-nil (noted w.gate r row ++ []) ∙ append-nil (noted w.gate r row)
        ∙ sym (map-map note.Answered (λ (p : Pending). p.submit.request.seqnum) (filter (λ p. is_by_answer (ends_by r.transfer.ep (fill_for w.gate r row).fillings p)) (with_waiter w.gate r row))))
        ∙ ap (λ (l : List Submitted). w.submits ++ record { seqnum = r.seqnum; id = 0 } ∷ l) (none-named (told_by_fills r.transfer.ep (fill_for w.gate r row).fillings (with_waiter w.gate r row)))

    deeds : (Submit r ∷ map (λ (p : Pending). Answer p.submit.request.seqnum) (filter (λ p. is_by_answer (ends_by r.transfer.ep (fill_for w.gate r row).fillings p)) (with_waiter w.gate r row)) ++ []) ++ [] ≡
        Submit r ∷ map Answer (told_by_fills r.transfer.ep (fill_for w.gate r row).fillings (with_waiter w.gate r row))
    deeds = append-nil _ ∙ append-nil _
        ∙ ap (λ (l : List Deed). Submit r ∷ l) (sym (map-map Answer (λ (p : Pending). p.submit.request.seqnum) (filter (λ p. is_by_answer (ends_by r.transfer.ep (fill_for w.gate r row).fillings p)) (with_waiter w.gate r row))))

-- ---- and the device

abbrev pub waited : {S : Type 0} → Direct S → Request → EpRow → Direct S
waited d r row =
    let ups : List (Option Up) = raise (record { ep = r.transfer.ep; row = row; held = [] }) d.streams in
    record d { live = d.live ++ record { load = record { request = r; verdict = Stream row }; unlinker = None } ∷ []; streams = ups; way = way_by ups d.way }

pub device-waits : {S : Type 0} (m : Meaning S) (d : Direct S) (r : Request) (row : EpRow) → made_of m d r ≡ Stream row → d.imported ≡ true → list_any (λ (l : Live). is_number r.seqnum l.load) d.live ≡ false → Does m d (Submit r ∷ []) (waited d r row) []
device-waits {S = S} m d r row made imported new = record {
  same = ap (λ (v : Verdict). submitted d (record { request = r; verdict = v })) made
      ∙ (λ i. record (waited d r row) {
        live = filter-all d.live i ++ record { load = record { request = r; verdict = Stream row }; unlinker = None } ∷ [];
        queue = append-nil d.queue i;
      });
  legal = ((imported, new), tt);
  outs-are = ap (map Urb) (sym (append-nil (answers m d (Submit r))
      ∙ ap (λ (v : Verdict). submit_answers d (record { request = r; verdict = v })) made
      ∙ ap (λ (l : List Live). map (λ (y : Live). without_packets y.load.request ESHUTDOWN) l ++ []) (filter-none d.live)));
}
