-- What each item of a trace does to the device attached directly, and what it answers.
use Rattle.std.specs.Prelude.{ℕ, ◌&&◌, ◌||◌, not, Bool, true, false, if◌then◌else◌, List, [], ◌∷◌, ◌++◌, filter, map, length, Option, Some, None, is_none, pos, drop, slice_get, option_and_then}
use Rattle.std.specs.Option.{option_map_or, option_or, option_to_list}
use Rattle.std.specs.List.{find, list_any}
use Rattle.usb_base.specs.Status.{is_success}
use Rattle.usb_base.specs.declared.endpoint.EpTable.{EpTable}
use Rattle.usb_base.specs.declared.transfer.Outcome.{Outcome}
use Rattle.usb_base.specs.declared.transfer.StreamPacket.{StreamPacket}
use Rattle.usbip_urb.specs.declared.packet.UrbPacket.{UrbPacket}
use Rattle.stream_buffers.specs.Held.{is_full}
use Rattle.stream_buffers.specs.Cuts.{Cut}
use Rattle.control_route.specs.declared.route.Route.{Route}
use Rattle.model_device.specs.Meaning.{Meaning}
use Rattle.redir_host.specs.device.Changes.{is_touched}
use Rattle.usb_base.specs.Endpoint.{row_of}
use Rattle.gate_history.specs.declared.verdict.Situation.{Situation}
use Rattle.gate_history.specs.declared.request.Request.{Request}
use Rattle.gate_history.specs.declared.verdict.Verdict.{Verdict}
use Rattle.gate_history.specs.declared.verdict.Verdict.TheVariants.{Now, IsoOut}
use Rattle.gate_history.specs.client.Verdict.{verdict, is_wire, goes_by_id, changes}
use Rattle.usb_base.specs.declared.errno.TheConstants.{ECONNRESET, ESHUTDOWN}
use Rattle.gate_history.specs.host.Fillings.{Given, cut_of}
use Rattle.gate_history.specs.client.Ends.{is_waiting, is_touched as ends_by_change, answers_by, lost_answer}
use Rattle.gate_history.specs.state.Ups.{Up, no_streams, stream_at, stream_of, hold, opened_streams}
use Rattle.gate_history.specs.step.Meaning.{by_stream}
use Rattle.gate_history.specs.write.Answers.{ret_unlink, without_packets, with_given}
use Rattle.direct_device.specs.Direct.{Load, Live, Waiting, Ran, Direct, no_way, as_submission, number, is_number, normal_of, seen_of, change_in, cancelled, is_at, without_first, way_by, with_way}

-- an item of a trace; of a submit, what it asks
pub data Deed : Type 0 where
  Import : Deed
  Submit : Request → Deed
  Unlink : (by target : ℕ) → Deed
  Perform : (ep seqnum : ℕ) → Deed
  Cancel : (seqnum : ℕ) → Deed
  Answer : (seqnum : ℕ) → Deed
  Offer : (ep : ℕ) → Deed
  Arrive : (ep : ℕ) → Deed
  Gone : Deed
  ClientGone : Deed

-- ---- a submit

-- what its verdict goes by
abbrev pub situation : {S : Type 0} → Meaning S → Direct S → Request → Situation
situation m d r = record {
  lost = d.gone;
  live = length d.live;
  changing = list_any (λ (l : Live). changes l.load.verdict) d.live;
  row = row_of (m.table d.gadget) r.transfer.ep;
  wide = true;
}

-- a stream that is up keeps its row
abbrev pub made_of : {S : Type 0} → Meaning S → Direct S → Request → Verdict
made_of m d r = by_stream (stream_at d.streams r.transfer.ep) (verdict (situation m d r) r)

-- those that wait for packets of a stream which the submit ends
abbrev pub is_ended : Verdict → Live → Bool
is_ended v l = ends_by_change v l.load.verdict

abbrev pub joins_live : Load → Verdict → List Live
joins_live l (Now status) = []
joins_live l (IsoOut row) = []
joins_live l _ = record { load = l; unlinker = None } ∷ []

abbrev pub joins_queue : Load → List Waiting
joins_queue l = if goes_by_id l.verdict then record { load = l; asked = false } ∷ [] else []

abbrev pub submitted : {S : Type 0} → Direct S → Load → Direct S
submitted d l =
    let ups : List (Option Up) = opened_streams l.verdict l.request.transfer.ep d.streams in
    record d {
      live = filter (λ y. not (is_ended l.verdict y)) d.live ++ joins_live l l.verdict;
      queue = d.queue ++ joins_queue l;
      streams = ups;
      way = way_by ups d.way;
    }

abbrev pub answered_now : Load → Verdict → List UrbPacket
answered_now l (Now status) = without_packets l.request status ∷ []
answered_now l _ = []

abbrev pub submit_answers : {S : Type 0} → Direct S → Load → List UrbPacket
submit_answers d l =
    let ended : List Live = filter (is_ended l.verdict) d.live in
    map (λ (y : Live). without_packets y.load.request ESHUTDOWN) ended ++ answered_now l l.verdict

-- ---- an unlink

abbrev pub is_taken : ℕ → Live → Bool
is_taken target l = is_waiting l.load.verdict && is_number target l.load

abbrev pub is_target : ℕ → Live → Bool
is_target target l = goes_by_id l.load.verdict && is_number target l.load && is_none l.unlinker

abbrev pub asked_back : ℕ → ℕ → Live → Live
asked_back by target l = record l {
  unlinker = option_or l.unlinker (if goes_by_id l.load.verdict && is_number target l.load then Some by else None);
}

abbrev pub marked : ℕ → Waiting → Waiting
marked target q = record q { asked = is_number target q.load || q.asked }

abbrev pub unlinked : {S : Type 0} → Direct S → ℕ → ℕ → Direct S
unlinked d by target = record d {
  live = map (asked_back by target) (filter (λ l. not (is_taken target l)) d.live);
  queue = map (marked target) d.queue;
}

-- a submit that waits for a stream is taken back at once; of any other its own answer tells whether it was
abbrev pub unlink_answers : {S : Type 0} → Direct S → ℕ → ℕ → List UrbPacket
unlink_answers d by target =
    if list_any (is_taken target) d.live then ret_unlink by ECONNRESET ∷ []
    else if list_any (is_target target) d.live then []
    else ret_unlink by (pos 0) ∷ []

-- ---- a perform

-- what a change flushes, by the table before it
abbrev pub is_flushed : Option Route → Bool → EpTable → Waiting → Bool
is_flushed change success table q = option_map_or (λ route. success && is_touched route table (normal_of q.load).ep) change false

abbrev pub joins_ran : {S : Type 0} → Direct S → List Ran → List Ran
joins_ran d more = if d.imported then d.ran ++ more else d.ran

abbrev pub performed_by : {S : Type 0} → Meaning S → Direct S → Waiting → List Waiting → Option (S × Outcome) → Direct S
performed_by m d q rest None = d
performed_by m d q rest (Some done) =
    let flushed : Waiting → Bool = is_flushed (change_in q.load.verdict) (is_success done.1.status) (m.table d.gadget) in
    record d {
      gadget = done.0;
      queue = filter (λ y. not (flushed y)) rest;
      ran = joins_ran d (map (λ (y : Waiting). cancelled y.load) (filter flushed rest)
          ++ record { load = q.load; outcome = seen_of q.load (m.configuration done.0) done.1 } ∷ []);
    }

abbrev pub performed_first : {S : Type 0} → Meaning S → Direct S → ℕ → Option Waiting → Direct S
performed_first m d ep first =
    option_map_or (λ q. performed_by m d q (without_first (is_at ep) d.queue) (m.perform d.gadget (normal_of q.load))) first d

-- ---- a cancel

abbrev pub is_cancelled_by : ℕ → Waiting → Bool
is_cancelled_by n q = is_number n q.load && is_wire q.load.verdict

abbrev pub cancelled_by : {S : Type 0} → Direct S → ℕ → Option Waiting → Direct S
cancelled_by d n None = d
cancelled_by d n (Some q) = record d {
  queue = without_first (is_cancelled_by n) d.queue;
  ran = joins_ran d (cancelled q.load ∷ []);
}

-- ---- an answer

abbrev pub without_number : ℕ → List Live → List Live
without_number n live = filter (λ (l : Live). not (is_number n l.load)) live

-- what its stream gives to a submit that waits for it
abbrev pub cut_for : {S : Type 0} → Direct S → Load → Option (Cut Given)
cut_for d l = option_and_then (λ (up : Up). cut_of up.row.max_packet l.request up.held) (stream_at d.streams l.request.transfer.ep)

abbrev pub filled_by : {S : Type 0} → Direct S → Load → Option (Cut Given) → Direct S
filled_by d l None = d
filled_by d l (Some cut) = record d {
  live = without_number (number l) d.live;
  streams = hold l.request.transfer.ep cut.leaves d.streams;
}

abbrev pub filled_answers : Load → Option (Cut Given) → List UrbPacket
filled_answers l filled = map (λ cut. with_given l.request cut.gives) (option_to_list filled)

abbrev pub ran_answers : Live → Option Ran → List UrbPacket
ran_answers l ran = option_map_or (λ r. answers_by (as_submission l.load) r.outcome l.unlinker) ran []

abbrev pub answered_by : {S : Type 0} → Direct S → Option Live → Direct S
answered_by d None = d
answered_by d (Some l) =
    if is_waiting l.load.verdict then filled_by d l.load (cut_for d l.load)
    else record d { live = without_number (number l.load) d.live; ran = drop 1 d.ran }

abbrev pub answers_of : {S : Type 0} → Direct S → Option Live → List UrbPacket
answers_of d answered =
    option_map_or (λ l. if is_waiting l.load.verdict then filled_answers l.load (cut_for d l.load) else ran_answers l (slice_get d.ran 0)) answered []

-- ---- streams

abbrev pub offered_by : {S : Type 0} → Direct S → ℕ → Option (S × StreamPacket) → Direct S
offered_by d ep None = d
offered_by d ep (Some sent) = record d {
  gadget = sent.0;
  way = way_by d.streams (with_way ep (d.way ep ++ sent.1 ∷ []) d.way);
}

abbrev pub received : Up → StreamPacket → List StreamPacket
received up p = if is_full up.held then up.held else up.held ++ p ∷ []

abbrev pub arrived_by : {S : Type 0} → Direct S → ℕ → Option Up → List StreamPacket → Direct S
arrived_by d ep (Some up) (p ∷ packets) = record d {
  streams = hold ep (received up p) d.streams;
  way = with_way ep packets d.way;
}
arrived_by d ep _ _ = d

-- ---- all items

-- nothing is asked of it any more, nor held for anyone
abbrev pub cut_off : {S : Type 0} → Direct S → Direct S
cut_off d = record d { live = []; streams = no_streams; way = no_way }

abbrev pub act : {S : Type 0} → Meaning S → Direct S → Deed → Direct S
act m d Import = record d { imported = true }
act m d (Submit r) = submitted d (record { request = r; verdict = made_of m d r })
act m d (Unlink by target) = unlinked d by target
act m d (Perform ep seqnum) = performed_first m d ep (find (is_at ep) d.queue)
act m d (Cancel seqnum) = cancelled_by d seqnum (find (is_cancelled_by seqnum) d.queue)
act m d (Answer seqnum) = answered_by d (find (λ (l : Live). is_number seqnum l.load) d.live)
act m d (Offer ep) = offered_by d ep (m.offer d.gadget ep)
act m d (Arrive ep) = arrived_by d ep (stream_of d.streams ep) (d.way ep)
act m d Gone = record (cut_off d) { gone = true }
act m d ClientGone =
    if d.imported then record (cut_off d) { queue = map (λ (q : Waiting). record q { asked = true }) d.queue; ran = []; imported = false }
    else d

abbrev pub answers : {S : Type 0} → Meaning S → Direct S → Deed → List UrbPacket
answers m d (Submit r) = submit_answers d (record { request = r; verdict = made_of m d r })
answers m d (Unlink by target) = unlink_answers d by target
answers m d (Answer seqnum) = answers_of d (find (λ (l : Live). is_number seqnum l.load) d.live)
answers m d Gone = map (λ (l : Live). lost_answer l.load.request l.unlinker) d.live
answers m d _ = []
