-- A client leaves, by its end or as the gateway refuses it: what the gateway makes of it.
use Rattle.std.proofs.Common.{◌≡◌, ℕ, suc, ◌&&◌, ◌||◌, not, Bool, true, false, cond, List, [], ◌++◌, length, map, filter, Some, None, unwrap_or, refl, ap, ◌∙◌, append-nil}
use Rattle.std.specs.Prelude.{zip}
use Rattle.std.specs.List.{flat_map, last_or}
use Rattle.std.proofs.lemmas.Grind.{flat_map-append}
use Rattle.redir_data.specs.declared.packet.RedirPacket.{RedirPacket}
use Rattle.gate_history.specs.state.StreamIds.{stream_ids_after, moved_fence}
use Rattle.gate_history.specs.state.Facts.{no_facts, tell}
use Rattle.gate_history.specs.state.Ids.{last_of}
use Rattle.gate_history.specs.step.Marks.{Effect, Mark}
use Rattle.gate_history.specs.step.Meaning.{mark_as, drawn_by}
use Rattle.gate_history.specs.write.Notes.{came_notes, submit_notes, answer_notes, refusal_notes, notes_of, is_by_answer}
use Rattle.gate_history.specs.write.Notes as notes
use Rattle.gate_history.specs.write.Output.{present, cancels, cancel}
use Rattle.gate_history.specs.write.Packets.{stops}
use Rattle.gate_history.specs.state.Sides.{refused_at, leaves, is_loss, refuses_client, ends_client, turned}
use Rattle.gate_history.specs.state.State.{State, submits, next_ids}
use Rattle.gate_history.specs.client.Submits.{Pending, is_answered}
use Rattle.gate_history.specs.client.Ends.{ByClient, ByLoss, ends, own_end}
use Rattle.gate_history.specs.state.Ups.{no_streams, is_ended, moved_streams}
use Rattle.gate_history.specs.client.Verdict.{goes_by_id}
use Rattle.gate_history.specs.declared.note.Note.{Note}
use Rattle.gate_history.specs.declared.note.Note.TheVariants as note
use Rattle.gate_history.proofs.lemmas.step.Effects.{leaving-left, leaving-answered, leaving-noted}
use Rattle.gate_history.proofs.lemmas.Lists.{every, filter-same, filter-none}
use Rattle.direct_run.specs.Moves.{World, Made, gate_made}
use Rattle.direct_run.specs.Noted.{named}
use Rattle.direct_run.specs.declared.submitted.Submitted.{Submitted}
use Rattle.direct_device.specs.Acting.{Deed, Answer, ClientGone, Gone}
use Rattle.direct_proof.specs.Deeds.{as_deeds, when}
use Rattle.direct_proof.proofs.clients.Leaves.{ClientGoes}

-- the stops of all streams, with their ids
abbrev pub leave_ids : State → List ℕ
leave_ids st = next_ids st (length (stops (is_ended None) st.streams))

abbrev pub leave_stops : State → List (ℕ × RedirPacket)
leave_stops st = zip (leave_ids st) (stops (is_ended None) st.streams)

-- with the cancels of some of what the host may still have
abbrev pub left_world : {S : Type 0} → World S → (Pending → Bool) → Bool → World S
left_world w test over = record w {
  gate = record w.gate {
    items = suc w.gate.items;
    sides = record w.gate.sides { imported = false; client_over = over };
    live = [];
    abandoned = w.gate.abandoned ++ filter (λ s. goes_by_id s.verdict) (submits w.gate);
    streams = no_streams;
    stream_ids = stream_ids_after (leave_stops w.gate) w.gate.stream_ids;
    fence = last_or w.gate.fence (leave_ids w.gate);
    last = last_of w.gate.last (leave_ids w.gate);
  };
  to_host = w.to_host ++ (map cancel (filter test w.gate.live) ++ leave_stops w.gate);
}

abbrev pub left_made : {S : Type 0} → World S → (Pending → Bool) → Bool → Made S Deed
left_made w test over = record { world = left_world w test over; outs = []; told = when (not w.gate.sides.client_over) ClientGone }

none-both : (xs ys : List Note) → flat_map named xs ≡ [] → flat_map named ys ≡ [] → flat_map named (xs ++ ys) ≡ []
none-both xs ys h k = flat_map-append named xs ys ∙ (λ i. h i ++ k i)

no-gone : (b : Bool) → flat_map named (notes.when b note.DeviceGone) ≡ []
no-gone true = refl
no-gone false = refl

no-left : (b : Bool) → flat_map named (notes.when b note.ClientGone) ≡ []
no-left true = refl
no-left false = refl

module _ {S : Type 0} (w : World S) (e : Effect) (l : ClientGoes w.gate e) where
  abbrev st : State
  st = w.gate

  abbrev mark : Mark
  mark = mark_as w.gate e None

  abbrev pub over_after : Bool
  over_after = turned refuses_client ends_client e w.gate.sides.client_over

  drawn : drawn_by w.gate e ≡ leave_ids w.gate
  drawn = ap (λ (ps : List RedirPacket). next_ids w.gate (length ps)) l.asked

  none-answered : filter (λ p. is_by_answer (ends e p.submit)) (present w.gate e) ≡ []
  none-answered =
      filter-same (λ p. is_by_answer (ends e p.submit)) (λ p. false) (present w.gate e)
      (every (λ p. is_by_answer (ends e p.submit) ≡ false) (λ p. ap (λ (b : Bool). is_by_answer (cond b (Some ByClient) (cond (is_loss e) (Some ByLoss) (own_end e p.submit)))) l.gone) (present w.gate e))
      ∙ filter-none (present w.gate e)

  noted : flat_map named (notes_of w.gate (mark_as w.gate e None)) ≡ []
  noted =
      let first : List Note = came_notes e ++ submit_notes e in
      let lost : List Note = notes.when (is_loss e && w.gate.sides.imported && not w.gate.sides.lost) note.DeviceGone in
      let gone : List Note = notes.when (leaves e && not w.gate.sides.client_over) note.ClientGone in
      none-both (first ++ answer_notes w.gate e ++ lost ++ gone) (refusal_notes (refused_at e))
      (none-both (first ++ answer_notes w.gate e ++ lost) gone
      (none-both (first ++ answer_notes w.gate e) lost
      (none-both first (answer_notes w.gate e) l.no_note (ap (flat_map named) (leaving-noted w.gate e l.gone)))
      (no-gone (is_loss e && w.gate.sides.imported && not w.gate.sides.lost)))
      (no-left (leaves e && not w.gate.sides.client_over)))
      l.unnamed

  pub leaving-made : gate_made as_deeds w (mark_as w.gate e None) ≡ left_made w (cancels e) (turned refuses_client ends_client e w.gate.sides.client_over)
  leaving-made = λ i. record {
    world = record w {
      gate = record w.gate {
        items = suc w.gate.items;
        facts = cond (l.keeps i) no_facts (tell w.gate.facts None);
        sides = record {
          agreed = unwrap_or (l.no_caps i) w.gate.sides.agreed;
          imported = cond (l.no_import i) true (cond (l.gone i) false w.gate.sides.imported);
          lost = cond (l.keeps i) true (cond (l.no_import i) false w.gate.sides.lost);
          client_over = turned refuses_client ends_client e w.gate.sides.client_over;
          host_over = cond (l.open_host i) true w.gate.sides.host_over;
        };
        live = leaving-left w.gate e l.gone i;
        abandoned = cond (l.gone i) (w.gate.abandoned ++ filter (λ s. goes_by_id s.verdict) (submits w.gate)) (cond (is_loss e) [] (filter (λ s. not (is_answered e s)) w.gate.abandoned));
        streams = cond (l.gone i || is_loss e) no_streams (moved_streams e w.gate.streams);
        stream_ids = stream_ids_after (zip (drawn i) (l.asked i)) w.gate.stream_ids;
        fence = cond (l.gone i) (last_or w.gate.fence (drawn i)) (cond (is_loss e) None (moved_fence e w.gate.fence));
        last = last_of w.gate.last (drawn i);
      };
      to_host = ((λ k. w.to_host ++ ((map cancel (filter (cancels e) w.gate.live) ++ zip (drawn k) (l.asked k)) ++ l.no_word k))
          ∙ ap (λ (ps : List (ℕ × RedirPacket)). w.to_host ++ ps) (append-nil (map cancel (filter (cancels e) w.gate.live) ++ leave_stops w.gate))) i;
      submits = (ap (λ (ns : List Submitted). w.submits ++ ns) noted ∙ append-nil w.submits) i;
    };
    outs = l.silent i ++ leaving-answered w.gate e l.gone i;
    told = ((l.no_deed i ++ map (λ (p : Pending). Answer p.submit.request.seqnum) (none-answered i)) ++ when (l.keeps i && w.gate.sides.imported && not w.gate.sides.lost) Gone) ++ when (l.gone i && not w.gate.sides.client_over) ClientGone;
  }
