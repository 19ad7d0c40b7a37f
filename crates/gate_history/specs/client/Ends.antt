-- How submits end, and how they are answered then ("usbip_protocol", USBIP_RET_SUBMIT and USBIP_RET_UNLINK): which end
-- each item gives a submit, and which packets each end gives the client.
use Rattle.std.specs.Prelude.{ℕ, ◌==◌, ◌&&◌, not, Bool, true, false, if◌then◌else◌, List, [], ◌∷◌, Option, Some, None, ℤ, pos}
use Rattle.std.specs.Option.{option_map, option_map_or}
use Rattle.usb_base.specs.declared.transfer.Outcome.{Outcome}
use Rattle.usb_base.specs.Status.{errno_of, is_success}
use Rattle.usb_base.specs.declared.status.UsbStatus.{UsbStatus}
use Rattle.usb_base.specs.declared.status.UsbStatus.TheVariants as status
use Rattle.usbip_urb.specs.declared.packet.UrbPacket.{UrbPacket}
use Rattle.control_route.specs.Changes.{touches}
use Rattle.usb_base.specs.declared.errno.TheConstants.{ESHUTDOWN, ECONNRESET}
use Rattle.gate_history.specs.declared.verdict.Verdict.{Verdict}
use Rattle.gate_history.specs.declared.verdict.Verdict.TheVariants.{Now, Routed, IsoOut, Stream}
use Rattle.gate_history.specs.client.Verdict.{goes_by_id, is_wire}
use Rattle.gate_history.specs.host.Fillings.{Given, Filling, given_to}
use Rattle.gate_history.specs.write.Answers.{ret_unlink, without_packets, all_sent, with_outcome, with_given}
use Rattle.gate_history.specs.declared.request.Request.{Request}
use Rattle.gate_history.specs.step.Marks.{Submission, Effect, Opens, Waits, Arrives, Unlinks, Answers, StreamTold}
use Rattle.gate_history.specs.state.Sides.{leaves, is_loss}

-- how a submit ends
pub data End : Type 0 where
  -- without its packets: where it is accepted, with its verdict's status; and of one that waits for a stream's packets,
  -- where a change of its interface or the host ends the stream
  ByStatus : (status : ℤ) → End
  -- where it is accepted, with its packets sent to the host
  Sent : End
  ByClient : End
  ByLoss : End
  ByAnswer : Outcome → End
  -- of one that waits for a stream's packets: this unlink takes it back, or packets fill it
  ByUnlink : (by : ℕ) → End
  ByPackets : Given → End

-- ---- which submits an item is for

abbrev pub has_id : ℕ → Submission → Bool
has_id id s = goes_by_id s.verdict && (s.id == id)

-- it waits for a stream's packets
abbrev pub is_waiting : Verdict → Bool
is_waiting (Stream row) = true
is_waiting _ = false

-- for those of this endpoint's
abbrev pub waits_at : ℕ → Submission → Bool
waits_at ep s = is_waiting s.verdict && (s.request.transfer.ep == ep)

-- for those of a stream that ends with this change
abbrev pub is_touched : Verdict → Verdict → Bool
is_touched (Routed r) (Stream row) = touches r row.interface
is_touched _ _ = false

-- ---- an end at once, and one by packets

abbrev pub at_once : Verdict → Option End
at_once (Now status) = Some (ByStatus status)
at_once (IsoOut row) = Some Sent
at_once _ = None

abbrev pub packets_end : ℕ → List Filling → Submission → Option End
packets_end ep fillings s = if waits_at ep s then option_map ByPackets (given_to fillings s.request.seqnum) else None

-- ---- the answers of one that may have been asked back

abbrev pub is_cancelled : UsbStatus → Bool
is_cancelled status.Cancelled = true
is_cancelled _ = false

-- an unlink wins where its transfer was cancelled for it, and comes too late where it was answered
abbrev pub answers_by : Submission → Outcome → Option ℕ → List UrbPacket
answers_by s o None = with_outcome s.request o ∷ []
answers_by s o (Some by) =
    if is_wire s.verdict && is_cancelled o.status then ret_unlink by ECONNRESET ∷ []
    else with_outcome s.request o ∷ ret_unlink by (pos 0) ∷ []

abbrev pub lost_answer : Request → Option ℕ → UrbPacket
lost_answer r unlinker = option_map_or (λ by. ret_unlink by ECONNRESET) unlinker (without_packets r ESHUTDOWN)

-- ---- which end each item gives, and what each end answers

abbrev pub own_end : Effect → Submission → Option End
own_end (Opens t) s = if t.place == s.place then at_once s.verdict else if is_touched t.verdict s.verdict then Some (ByStatus ESHUTDOWN) else None
own_end (Waits t fill) s = packets_end t.request.transfer.ep fill.fillings s
own_end (Arrives ep fill) s = packets_end ep fill.fillings s
own_end (Unlinks by target) s = if is_waiting s.verdict && (s.request.seqnum == target) then Some (ByUnlink by) else None
own_end (StreamTold id ep status) s = if waits_at ep s && not (is_success status) then Some (ByStatus (errno_of status)) else None
own_end (Answers id outcome) s = if has_id id s then Some (ByAnswer outcome) else None
own_end _ s = None

-- how an item ends a submit that is live, or that it opens
abbrev pub ends : Effect → Submission → Option End
ends e s = if leaves e then Some ByClient else (if is_loss e then Some ByLoss else own_end e s)

-- nothing goes to a client that is gone
abbrev pub answers : Submission → Option ℕ → End → List UrbPacket
answers s by (ByStatus status) = without_packets s.request status ∷ []
answers s by Sent = all_sent s.request ∷ []
answers s by ByClient = []
answers s by ByLoss = lost_answer s.request by ∷ []
answers s by (ByAnswer outcome) = answers_by s outcome by
answers s by (ByUnlink other) = ret_unlink other ECONNRESET ∷ []
answers s by (ByPackets given) = with_given s.request given ∷ []

abbrev pub answers_at : Submission → Option ℕ → Option End → List UrbPacket
answers_at s by end = option_map_or (answers s by) end []
