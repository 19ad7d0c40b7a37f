-- What an effect makes of what is kept, and what it sends and tells, where each part has stepped as the machine's does;
-- above all one with which neither side is gone, lost or refused.
use Rattle.std.proofs.Common.{◌≡◌, ℕ, ◌+◌, ◌^◌, ◌-◌, ◌≤◌, ◌&&◌, ◌||◌, Bool, true, false, cond, not, List, [], ◌++◌, length, map, None, Result, OnOk, refl, sym, ap, subst, ◌∙◌, arith}
use Rattle.std.specs.Prelude.{is_none, filter, zip, unwrap_or}
use Rattle.std.specs.List.{flat_map, last_or}
use Rattle.std.proofs.lemmas.Bool.{false≢true}
use Rattle.std.proofs.lemmas.List.{append-nil}
use Rattle.std.proofs.lemmas.List.Elements.{filter-append}
use Rattle.usbip_urb.specs.declared.client.ClientPacket.{ClientPacket}
use Rattle.redir_wire.specs.declared.packet.Caps.{Caps}
use Rattle.redir_data.specs.declared.packet.RedirPacket.{RedirPacket}
use Rattle.unlink_race.specs.declared.live.Live.{Live}
use Rattle.gate_history.specs.declared.note.Note.{Note}
use Rattle.gate_history.specs.declared.note.Note.TheVariants as note
use Rattle.gate_parts.specs.declared.write.outputs.Outputs.{Outputs}
use Rattle.gate_core.specs.declared.state.kept.Kept.{Kept}
use Rattle.usb_base.specs.Number.{capped}
use Rattle.gate_history.specs.step.Marks.{Submission, Effect, Idle, Replies, Imports, Agrees, Arrives, StreamTold, Disconnects, Ends, Refuses, Mark}
use Rattle.gate_history.specs.state.Facts.{no_facts, facts_after}
use Rattle.gate_history.specs.declared.sides.Sides.{Sides}
use Rattle.gate_history.specs.state.Sides.{refused_at, leaves, is_loss, closes_host, imports, refuses_client, ends_client, turned, agrees, sides_after}
use Rattle.gate_history.specs.client.Submits.{Pending, opened, is_answered, abandoned_after}
use Rattle.gate_history.specs.state.Ids.{last_of}
use Rattle.gate_history.specs.state.Ups.{no_streams, is_ended, moved_streams, streams_after}
use Rattle.gate_history.specs.write.Packets.{stops, asked_packets}
use Rattle.gate_history.specs.state.StreamIds.{stream_ids_after, asking, moved_fence, fence_after}
use Rattle.gate_history.specs.state.State.{State, submits, next_ids}
use Rattle.gate_history.specs.client.Verdict.{is_wire, goes_by_id}
use Rattle.gate_history.specs.step.Meaning.{mark_as, drawn_by}
use Rattle.gate_history.specs.write.Output.{fresh, present, answered, replies, cancels, cancel, acknowledgements, to_client}
use Rattle.gate_history.specs.write.Notes.{when, came_notes, submit_notes, answer_notes, refusal_notes, notes_of, dropped}
use Rattle.gate_history.specs.write.All.{is_ret_submit, is_won_unlink}
use Rattle.redir_data.specs.Sent.{sent_packet_bytes}
use Rattle.gate_history.specs.write.Bytes.{client_bytes_of, host_bytes_of}
use Rattle.gate_history.specs.step.Machine.{live_after}
use Rattle.gate_parts.specs.state.Rows.{row, unmarked, left_row}
use Rattle.gate_core.specs.inner.state.Holds.{Holds, Does}
use Rattle.gate_history.proofs.lemmas.Lists.{every, filter-same, filter-all}

pub capped-same : (n : ℕ) → n ≤ 2 ^ 64 - 1 → n ≡ capped (n + 0)
capped-same n few = omega arith

-- ---- any effect

-- each part has stepped, and these requests are live and abandoned
abbrev pub stepped : State → Mark → List Live → List Live → Kept → Kept
stepped st m rows left old = record old {
  lives = record { live = rows; abandoned = left };
  facts = facts_after m.what m.told old.facts;
  sides = sides_after m.what old.sides;
  streams = streams_after m.what old.streams;
  stream_ids = stream_ids_after (asking st.streams m) old.stream_ids;
  fence = fence_after m.what m.drawn old.fence;
  last = last_of old.last m.drawn;
  answered = capped (old.answered + length (filter is_ret_submit (to_client st m)));
  unlinked = capped (old.unlinked + length (filter is_won_unlink (to_client st m)));
  dropped = capped (old.dropped + length (dropped st m));
}

pub does-step : (st : State) (m : Mark) (old new : Kept) (rows left : List Live) (out_old out_new : Outputs) → Holds old st →
    new ≡ stepped st m rows left old →
    rows ≡ map row (live_after st m.what) →
    map unmarked left ≡ map left_row (abandoned_after m.what (submits st) st.abandoned) →
    out_new.to_client ≡ out_old.to_client ++ client_bytes_of st m →
    out_new.to_host ≡ out_old.to_host ++ host_bytes_of st m →
    out_new.notes ≡ out_old.notes ++ notes_of st m →
    Does st m old new out_old out_new
does-step st m old new rows left out_old out_new h is rows-are left-are client host notes = record {
  holds = record {
    facts = ap (λ (k : Kept). k.facts) is ∙ ap (facts_after m.what m.told) h.facts;
    sides = ap (λ (k : Kept). k.sides) is ∙ ap (sides_after m.what) h.sides;
    streams = ap (λ (k : Kept). k.streams) is ∙ ap (streams_after m.what) h.streams;
    stream_ids = ap (λ (k : Kept). k.stream_ids) is ∙ ap (stream_ids_after (asking st.streams m)) h.stream_ids;
    fence = ap (λ (k : Kept). k.fence) is ∙ ap (fence_after m.what m.drawn) h.fence;
    last = ap (λ (k : Kept). k.last) is ∙ ap (λ (n : ℕ). last_of n m.drawn) h.last;
    live = ap (λ (k : Kept). k.lives.live) is ∙ rows-are;
    abandoned = ap (λ (k : Kept). map unmarked k.lives.abandoned) is ∙ left-are;
  };
  client = client;
  host = host;
  notes = notes;
  answered = ap (λ (k : Kept). k.answered) is;
  unlinked = ap (λ (k : Kept). k.unlinked) is;
  dropped = ap (λ (k : Kept). k.dropped) is;
}

-- what is done with an effect is done with another that is the same
pub as-effect : {T E : Type 0} (r : Result T E) (st : State) (d e : Effect) (old new : Kept) (out_old out_new : Outputs) → d ≡ e →
    OnOk r (Does st (mark_as st d None) old new out_old out_new) → OnOk r (Does st (mark_as st e None) old new out_old out_new)
as-effect r st d e old new out_old out_new same = subst (λ (x : Effect). OnOk r (Does st (mark_as st x None) old new out_old out_new)) same

-- ---- neither side is gone, lost or refused

abbrev pub is_quiet : Effect → Bool
is_quiet (Disconnects id) = false
is_quiet (Ends side) = false
is_quiet (Refuses r) = false
is_quiet _ = true

record IsQuiet (e : Effect) : Type 0 where
  stays : leaves e ≡ false
  keeps : is_loss e ≡ false
  open_host : closes_host e ≡ false
  no_refusal : refuses_client e ≡ false
  no_end : ends_client e ≡ false
  no_place : refused_at e ≡ None
  no_word : (caps : Caps) → acknowledgements caps e ≡ []

quiet-is : (e : Effect) → is_quiet e ≡ true → IsQuiet e
quiet-is (Disconnects id) h = absurd (false≢true h)
quiet-is (Ends side) h = absurd (false≢true h)
quiet-is (Refuses r) h = absurd (false≢true h)
quiet-is e h = record { stays = refl; keeps = refl; open_host = refl; no_refusal = refl; no_end = refl; no_place = refl; no_word = λ caps. refl }

-- where the sides stand behind it: neither is over by it
abbrev pub moved_sides : Effect → Sides → Sides
moved_sides e s = record s {
  agreed = unwrap_or (agrees e) s.agreed;
  imported = turned imports leaves e s.imported;
  lost = turned is_loss imports e s.lost;
}

-- what it makes of what is kept, where so many submits and unlinks are answered
abbrev pub moved : State → Effect → List Live → List Live → ℕ → ℕ → Kept → Kept
moved st e rows left done won old = record old {
  lives = record { live = rows; abandoned = left };
  sides = moved_sides e old.sides;
  streams = moved_streams e old.streams;
  stream_ids = stream_ids_after (asking st.streams (mark_as st e None)) old.stream_ids;
  fence = moved_fence e old.fence;
  last = last_of old.last (drawn_by st e);
  answered = capped (old.answered + done);
  unlinked = capped (old.unlinked + won);
}

module _ (st : State) (e : Effect) (quiet : is_quiet e ≡ true) where
  q : IsQuiet e
  q = quiet-is e quiet

  pub does-quiet : (old new : Kept) (rows left : List Live) (done won : ℕ) (out_old out_new : Outputs) → Holds old st → old.dropped ≤ 2 ^ 64 - 1 →
      new ≡ moved st e rows left done won old →
      rows ≡ map row (live_after st e) →
      map unmarked left ≡ map left_row (filter (λ s. not (is_answered e s)) st.abandoned) →
      done ≡ length (filter is_ret_submit (to_client st (mark_as st e None))) →
      won ≡ length (filter is_won_unlink (to_client st (mark_as st e None))) →
      dropped st (mark_as st e None) ≡ [] →
      out_new.to_client ≡ out_old.to_client ++ client_bytes_of st (mark_as st e None) →
      out_new.to_host ≡ out_old.to_host ++ flat_map (sent_packet_bytes st.sides.agreed) (map cancel (filter (cancels e) st.live) ++ asking st.streams (mark_as st e None)) →
      out_new.notes ≡ out_old.notes ++ (came_notes e ++ submit_notes e ++ answer_notes st e) →
      Does st (mark_as st e None) old new out_old out_new
  does-quiet old new rows left done won out_old out_new h dropped_fits is rows-are left-are done-is won-is undropped client host notes =
      does-step st (mark_as st e None) old new rows left out_old out_new h
      (is ∙ (λ i. record (moved st e rows left (done-is i) (won-is i) old) {
        facts = cond (sym q.keeps i) no_facts old.facts;
        sides = record (moved_sides e old.sides) {
          client_over = cond (sym q.no_refusal i) true (cond (sym q.no_end i) false old.sides.client_over);
          host_over = cond (sym q.open_host i) true old.sides.host_over;
        };
        streams = cond (sym q.stays i || sym q.keeps i) no_streams (moved_streams e old.streams);
        fence = cond (sym q.stays i) (last_or old.fence (drawn_by st e)) (cond (sym q.keeps i) None (moved_fence e old.fence));
        dropped = (capped-same old.dropped dropped_fits ∙ ap (λ (ss : List Submission). capped (old.dropped + length ss)) (sym undropped)) i;
      }))
      rows-are
      (left-are ∙ (λ i. map left_row (cond (sym q.stays i) (st.abandoned ++ filter (λ s. goes_by_id s.verdict) (submits st)) (cond (sym q.keeps i) [] (filter (λ s. not (is_answered e s)) st.abandoned)))))
      client
      (host ∙ ap (λ (ps : List (ℕ × RedirPacket)). out_old.to_host ++ flat_map (sent_packet_bytes st.sides.agreed) ps) (sym (append-nil asked) ∙ (λ i. asked ++ sym (q.no_word st.sides.agreed) i)))
      (notes ∙ ap (λ (ns : List Note). out_old.notes ++ ns)
      (sym (append-nil told) ∙ sym (append-nil (told ++ [])) ∙ sym (append-nil ((told ++ []) ++ []))
      ∙ (λ i. ((told ++ when ((sym q.keeps i && st.sides.imported) && not st.sides.lost) note.DeviceGone) ++ when (sym q.stays i && not st.sides.client_over) note.ClientGone) ++ refusal_notes (sym q.no_place i))))
    where
      asked : List (ℕ × RedirPacket)
      asked = map cancel (filter (cancels e) st.live) ++ asking st.streams (mark_as st e None)

      told : List Note
      told = came_notes e ++ submit_notes e ++ answer_notes st e

-- an effect that answers none by its id leaves the abandoned ones
pub none-answered : (e : Effect) (ss : List Submission) → ((s : Submission) → is_answered e s ≡ false) → map left_row ss ≡ map left_row (filter (λ s. not (is_answered e s)) ss)
none-answered e ss none =
    ap (map left_row) (sym (filter-same (λ s. not (is_answered e s)) (λ s. true) ss (every (λ s. not (is_answered e s) ≡ true) (λ s. ap not (none s)) ss) ∙ filter-all ss))

-- ---- nor is a submit opened, or answered by its id, nor the host asked for anything

pub record IsSilent (st : State) (e : Effect) : Type 0 where
  pub opens : opened e ≡ []
  pub answers_none : (s : Submission) → is_answered e s ≡ false
  pub no_packets : asked_packets st.streams e ≡ []
  pub no_answer : filter is_ret_submit (replies st e) ≡ []
  pub none_won : filter is_won_unlink (replies st e) ≡ []

abbrev pub is_silent : Effect → Bool
is_silent Idle = true
is_silent (Replies reply) = true
is_silent (Imports reply) = true
is_silent (Agrees caps) = true
is_silent (Arrives ep fill) = true
is_silent (StreamTold id ep status) = true
is_silent _ = false

pub silent-is : (st : State) (e : Effect) → is_silent e ≡ true → IsSilent st e
silent-is st Idle h = record { opens = refl; answers_none = λ s. refl; no_packets = refl; no_answer = refl; none_won = refl }
silent-is st (Replies reply) h = record { opens = refl; answers_none = λ s. refl; no_packets = refl; no_answer = refl; none_won = refl }
silent-is st (Imports reply) h = record { opens = refl; answers_none = λ s. refl; no_packets = refl; no_answer = refl; none_won = refl }
silent-is st (Agrees caps) h = record { opens = refl; answers_none = λ s. refl; no_packets = refl; no_answer = refl; none_won = refl }
silent-is st (Arrives ep fill) h = record { opens = refl; answers_none = λ s. refl; no_packets = refl; no_answer = refl; none_won = refl }
silent-is st (StreamTold id ep status) h = record { opens = refl; answers_none = λ s. refl; no_packets = refl; no_answer = refl; none_won = refl }
silent-is st e h = absurd (false≢true h)

-- what it makes of what is kept, where these are live then and so many submits and unlinks are answered
abbrev pub moved_alone : Effect → List Live → ℕ → ℕ → Kept → Kept
moved_alone e rows done won old = record old {
  lives = record { live = rows; abandoned = old.lives.abandoned };
  sides = moved_sides e old.sides;
  streams = moved_streams e old.streams;
  fence = moved_fence e old.fence;
  answered = capped (old.answered + done);
  unlinked = capped (old.unlinked + won);
}

module _ (st : State) (e : Effect) (quiet : is_quiet e ≡ true) (s : IsSilent st e) where
  no-ids : drawn_by st e ≡ []
  no-ids = ap (λ (ps : List RedirPacket). next_ids st (length ps)) s.no_packets

  none-asked : asking st.streams (mark_as st e None) ≡ []
  none-asked = λ i. zip (no-ids i) (s.no_packets i)

  pub none-opened : present st e ≡ st.live
  none-opened = ap (λ (ss : List Submission). st.live ++ map fresh ss) s.opens ∙ append-nil st.live

  -- its replies are no answers
  counted : (which : ClientPacket → Bool) → filter which (replies st e) ≡ [] → length (filter which (answered st e)) ≡ length (filter which (to_client st (mark_as st e None)))
  counted which none = ap length (sym (filter-append which (replies st e) (answered st e) ∙ ap (λ (ps : List ClientPacket). ps ++ filter which (answered st e)) none))

  pub does-silent : (old new : Kept) (rows : List Live) (done won : ℕ) (out_old out_new : Outputs) → Holds old st → old.dropped ≤ 2 ^ 64 - 1 →
      new ≡ moved_alone e rows done won old →
      rows ≡ map row (live_after st e) →
      done ≡ length (filter is_ret_submit (answered st e)) →
      won ≡ length (filter is_won_unlink (answered st e)) →
      answer_notes st e ≡ [] → dropped st (mark_as st e None) ≡ [] →
      out_new.to_client ≡ out_old.to_client ++ client_bytes_of st (mark_as st e None) →
      out_new.to_host ≡ out_old.to_host ++ flat_map (sent_packet_bytes st.sides.agreed) (map cancel (filter (cancels e) st.live)) →
      out_new.notes ≡ out_old.notes ++ (came_notes e ++ submit_notes e) →
      Does st (mark_as st e None) old new out_old out_new
  does-silent old new rows done won out_old out_new h dropped_fits is rows-are done-is won-is untold undropped client host notes =
      does-quiet st e quiet old new rows old.lives.abandoned done won out_old out_new h dropped_fits
      (is ∙ (λ i. record (moved_alone e rows done won old) { stream_ids = stream_ids_after (sym none-asked i) old.stream_ids; last = last_of old.last (sym no-ids i) }))
      rows-are (h.abandoned ∙ none-answered e st.abandoned s.answers_none) (done-is ∙ counted is_ret_submit s.no_answer) (won-is ∙ counted is_won_unlink s.none_won) undropped client
      (host ∙ ap (λ (ps : List (ℕ × RedirPacket)). out_old.to_host ++ flat_map (sent_packet_bytes st.sides.agreed) ps)
      (sym (append-nil (map cancel (filter (cancels e) st.live))) ∙ (λ i. map cancel (filter (cancels e) st.live) ++ sym none-asked i)))
      (notes ∙ ap (λ (ns : List Note). out_old.notes ++ ns)
      (sym (append-nil told) ∙ (λ i. told ++ sym untold i)))
    where
      told : List Note
      told = came_notes e ++ submit_notes e

-- ---- a side is gone, lost or refused

-- what holds of it whichever side that is
pub record IsOver (st : State) (e : Effect) : Type 0 where
  pub no_caps : (caps : Caps) → unwrap_or (agrees e) caps ≡ caps
  pub no_import : imports e ≡ false
  pub opens : opened e ≡ []
  pub silent : replies st e ≡ []
  pub cancels_are : (p : Pending) → cancels e p ≡ ((is_wire p.submit.verdict && is_none p.unlinker) && leaves e)
  pub asked : asked_packets st.streams e ≡ cond (leaves e) (stops (is_ended None) st.streams) []
  pub no_notes : came_notes e ++ submit_notes e ≡ []

pub over-is : (st : State) (e : Effect) → is_quiet e ≡ false → IsOver st e
over-is st (Disconnects id) h = record { no_caps = λ caps. refl; no_import = refl; opens = refl; silent = refl; cancels_are = λ p. refl; asked = refl; no_notes = refl }
over-is st (Ends side) h = record { no_caps = λ caps. refl; no_import = refl; opens = refl; silent = refl; cancels_are = λ p. refl; asked = refl; no_notes = refl }
over-is st (Refuses r) h = record { no_caps = λ caps. refl; no_import = refl; opens = refl; silent = refl; cancels_are = λ p. refl; asked = refl; no_notes = refl }
over-is st e h = absurd (false≢true (sym h))
