-- After every past each stream holds at most 1,024 packets.
use Rattle.std.proofs.Common.{◌≡◌, ℕ, ◌+◌, ◌<◌, ◌≤◌, Bool, true, false, cond, not, leb, List, [], ◌∷◌, ◌++◌, length, map, replicate, set, get_or, drop, Option, Some, None, refl, arith}
use Rattle.std.specs.Prelude.{zero, suc, ◌%◌, ◌||◌, ◌&&◌, nat_lt, option_map, is_some, slice_set}
use Rattle.std.proofs.lemmas.Bool.{leb-false, false≢true}
use Rattle.std.proofs.lemmas.List.{length-append, length-drop}
use Rattle.usb_base.specs.declared.transfer.StreamPacket.{StreamPacket}
use Rattle.usb_base.specs.Endpoint.{endpoint_index, is_in_endpoint}
use Rattle.usb_base.specs.Status.{is_success}
use Rattle.usb_base.specs.Lists.{is_empty}
use Rattle.usbip_urb.specs.declared.packet.UrbPacket.TheVariants as urb
use Rattle.usbip_urb.specs.declared.client.ClientPacket.TheVariants.{Op, Urb}
use Rattle.redir_wire.specs.declared.packet.Header.{Header}
use Rattle.redir_wire.specs.declared.packet.RedirControl.TheVariants as plain
use Rattle.redir_data.specs.declared.packet.RedirData.{RedirData}
use Rattle.redir_data.specs.declared.packet.RedirData.TheVariants as data_packet
use Rattle.redir_data.specs.declared.packet.RedirPacket.{RedirPacket}
use Rattle.redir_data.specs.declared.packet.RedirPacket.TheVariants.{Plain, Carrying}
use Rattle.redir_data.specs.declared.stream_kind.StreamKind.{StreamKind}
use Rattle.redir_data.specs.declared.stream_kind.StreamKind.TheVariants.{Iso, Interrupt}
use Rattle.redir_data.specs.StreamKinds.{is_kind_of}
use Rattle.stream_buffers.specs.Cuts.{Cut}
use Rattle.stream_buffers.specs.Interrupt.{last_of, interrupt_cut_at, interrupt_cut}
use Rattle.stream_buffers.specs.Iso.{iso_outcome, iso_cut}
use Rattle.stream_buffers.specs.declared.up.TheConstants.{MAX_HELD}
use Rattle.gate_history.specs.declared.item.Item.{Item}
use Rattle.gate_history.specs.declared.item.Item.TheVariants.{Asked, ClientWrong, ClientLeft, Told, HostWrong, HostLeft}
use Rattle.gate_history.specs.declared.request.Request.{Request}
use Rattle.gate_history.specs.client.Requests.{request_of}
use Rattle.gate_history.specs.declared.verdict.Verdict.{Verdict}
use Rattle.gate_history.specs.declared.verdict.Verdict.TheVariants.{Now, Wire, Routed, IsoOut, Stream}
use Rattle.gate_history.specs.step.Marks.{Submission, Effect, Opens, Waits, Arrives, StreamTold}
use Rattle.gate_history.specs.state.Sides.{leaves, is_loss}
use Rattle.gate_history.specs.host.Fillings.{Given, Transferred, Isochronous, cut_as, cut_of, none_filled, filled_by, fill}
use Rattle.gate_history.specs.host.Responses.{response_of}
use Rattle.gate_history.specs.state.State.{State, state_of, has_number}
use Rattle.gate_history.specs.state.Ups.{Up, no_streams, stream_at, stream_of, held_of, unless, lower_at, hold, is_ended, opened_streams, moved_streams, streams_after, streams}
use Rattle.gate_history.specs.step.Meaning.{verdict_of, drawn_for, submission, by_stream, waiting, accepted_as, accepts, is_held, arrives, told_meaning, meaning, mark_of}
use Rattle.gate_history.specs.step.Past.{is_left_out, past}
use Rattle.gate_history.proofs.lemmas.step.Aside.{HoldsAside, by-test, of-op, of-response}
use Rattle.gate_history.proofs.lemmas.Lists.{Each}

abbrev HoldsFew : Option Up → Type 0
HoldsFew o = length (held_of o) ≤ MAX_HELD

-- ---- what requests leave of packets is no more than they are

abbrev CutFew : {A : Type 0} → List StreamPacket → Option (Cut A) → Type 0
CutFew packets None = Unit {0}
CutFew packets (Some cut) = length cut.leaves ≤ length packets

cut-as-few : {A : Type 0} (kind : A → Given) (packets : List StreamPacket) (o : Option (Cut A)) → CutFew packets o → CutFew packets (option_map (cut_as kind) o)
cut-as-few kind packets None h = tt
cut-as-few kind packets (Some cut) h = h

drop-few : (n : ℕ) (packets : List StreamPacket) → length (drop n packets) ≤ length packets
drop-few n packets = omega (arith, length-drop n packets)

interrupt-few : (max_packet wanted : ℕ) (packets : List StreamPacket) → CutFew packets (interrupt_cut max_packet wanted packets)
interrupt-few max_packet wanted packets = at_last (last_of max_packet wanted packets)
  where
    at_last : (o : Option ℕ) → CutFew packets (option_map (interrupt_cut_at wanted packets) o)
    at_last None = tt
    at_last (Some k) = drop-few (k + 1) packets

iso-few : (r : Request) (packets : List StreamPacket) → CutFew packets (iso_cut r.descs packets)
iso-few r packets = by (nat_lt (length packets) (length r.descs))
  where
    by : (b : Bool) → CutFew packets (cond b None (Some (record { gives = iso_outcome r.descs packets; leaves = drop (length r.descs) packets })))
    by true = tt
    by false = drop-few (length r.descs) packets

cut-few : (max_packet : ℕ) (r : Request) (packets : List StreamPacket) → CutFew packets (cut_of max_packet r packets)
cut-few max_packet r packets =
    elim (is_empty r.descs) as (λ b. CutFew packets (cond b (option_map (cut_as Transferred) (interrupt_cut max_packet r.transfer.wanted packets)) (option_map (cut_as Isochronous) (iso_cut r.descs packets)))) [
      | true ↦ cut-as-few Transferred packets (interrupt_cut max_packet r.transfer.wanted packets) (interrupt-few max_packet r.transfer.wanted packets)
      | false ↦ cut-as-few Isochronous packets (iso_cut r.descs packets) (iso-few r packets)
    ]

fill-few : (max_packet : ℕ) (rs : List Request) (packets : List StreamPacket) → length (fill max_packet rs packets).left ≤ length packets
fill-few max_packet [] packets = omega arith
fill-few max_packet (r ∷ rs) packets = by (λ ps. fill-few max_packet rs ps) (cut_of max_packet r packets) (cut-few max_packet r packets)
  where
    by : ((ps : List StreamPacket) → length (fill max_packet rs ps).left ≤ length ps) → (o : Option (Cut Given)) → CutFew packets o →
        length (filled_by r.seqnum packets o (fill max_packet rs)).left ≤ length packets
    by rest None h = omega arith
    by rest (Some cut) h = omega (arith, rest cut.leaves, h)

-- ---- streams that hold few

few-at : (ups : List (Option Up)) (i : ℕ) → Each HoldsFew ups → HoldsFew (get_or ups i None)
few-at [] i h = omega arith
few-at (o ∷ ups) zero h = h.0
few-at (o ∷ ups) (suc i) h = few-at ups i h.1

few-set : (ups : List (Option Up)) (i : ℕ) (o : Option Up) → HoldsFew o → Each HoldsFew ups → Each HoldsFew (set ups i o)
few-set [] i o k h = tt
few-set (u ∷ ups) zero o k h = (k, h.1)
few-set (u ∷ ups) (suc i) o k h = (h.0, few-set ups i o k h.1)

few-unless : (test : Up → Bool) (o : Option Up) → HoldsFew o → HoldsFew (unless test o)
few-unless test None h = h
few-unless test (Some up) h = by (test up)
  where
    by : (b : Bool) → HoldsFew (cond b None (Some up))
    by true = omega arith
    by false = h

few-lower : (test : Up → Bool) (ups : List (Option Up)) → Each HoldsFew ups → Each HoldsFew (map (unless test) ups)
few-lower test [] h = tt
few-lower test (o ∷ ups) h = (few-unless test o h.0, few-lower test ups h.1)

few-lower_at : (ep : ℕ) (ups : List (Option Up)) → Each HoldsFew ups → Each HoldsFew (lower_at ep ups)
few-lower_at ep ups h =
    elim (nat_lt (ep % 128) 16) as (λ b. Each HoldsFew (cond b (set ups (endpoint_index ep) None) ups)) [ true ↦ few-set ups (endpoint_index ep) None (omega arith) h | false ↦ h ]

few-raised : (ups : List (Option Up)) (up : Up) (o : Option Up) → length up.held ≤ MAX_HELD → Each HoldsFew ups → Each HoldsFew (cond (is_some o) ups (slice_set ups (endpoint_index up.ep) (Some up)))
few-raised ups up None k h = few-set ups (endpoint_index up.ep) (Some up) k h
few-raised ups up (Some before) k h = h

few-hold : (ep : ℕ) (packets : List StreamPacket) (ups : List (Option Up)) → length packets ≤ MAX_HELD → Each HoldsFew ups → Each HoldsFew (hold ep packets ups)
few-hold ep packets ups k h = few-set ups (endpoint_index ep) (option_map (λ (up : Up). record up { held = packets }) (stream_at ups ep)) (by (stream_at ups ep)) h
  where
    by : (o : Option Up) → HoldsFew (option_map (λ (up : Up). record up { held = packets }) o)
    by None = omega arith
    by (Some up) = k

-- ---- by an effect

-- what it leaves of a stream's packets
abbrev LeavesFew : Effect → Type 0
LeavesFew (Waits s fill) = length fill.left ≤ MAX_HELD
LeavesFew (Arrives ep fill) = length fill.left ≤ MAX_HELD
LeavesFew _ = Unit {0}

few-opened : (v : Verdict) (ep : ℕ) (ups : List (Option Up)) → Each HoldsFew ups → Each HoldsFew (opened_streams v ep ups)
few-opened (Now status) ep ups h = h
few-opened (Wire pipe) ep ups h = h
few-opened (Routed r) ep ups h = few-lower (is_ended (Some r)) ups h
few-opened (IsoOut row) ep ups h = few-raised ups (record { ep = ep; row = row; held = [] }) (stream_at ups ep) (omega arith) h
few-opened (Stream row) ep ups h = few-raised ups (record { ep = ep; row = row; held = [] }) (stream_at ups ep) (omega arith) h

few-moved : (e : Effect) (ups : List (Option Up)) → LeavesFew e → Each HoldsFew ups → Each HoldsFew (moved_streams e ups)
few-moved (Opens s) ups k h = few-opened s.verdict s.request.transfer.ep ups h
few-moved (Waits s fill) ups k h =
    few-hold s.request.transfer.ep fill.left (opened_streams s.verdict s.request.transfer.ep ups) k (few-opened s.verdict s.request.transfer.ep ups h)
few-moved (Arrives ep fill) ups k h = few-hold ep fill.left ups k h
few-moved (StreamTold id ep status) ups k h =
    elim (is_success status) as (λ b. Each HoldsFew (cond b ups (lower_at ep ups))) [ true ↦ h | false ↦ few-lower_at ep ups h ]
few-moved _ ups k h = h

few-none : (n : ℕ) → Each HoldsFew (replicate n None)
few-none zero = tt
few-none (suc n) = (omega arith, few-none n)

few-after : (e : Effect) (ups : List (Option Up)) → LeavesFew e → Each HoldsFew ups → Each HoldsFew (streams_after e ups)
few-after e ups k h =
    elim (leaves e || is_loss e) as (λ b. Each HoldsFew (cond b no_streams (moved_streams e ups))) [ true ↦ few-none 32 | false ↦ few-moved e ups k h ]

-- ---- what an item means leaves few

few-aside : HoldsAside LeavesFew
few-aside = record { idle = tt; replies = λ p. tt; imports = λ p. tt; answers = λ id o. tt; refuses = λ r. tt }

not-full : (kind : StreamKind) (up : Up) → is_held kind up ≡ true → length up.held < MAX_HELD
not-full kind up h = by (is_kind_of kind up.row.kind) (leb MAX_HELD (length up.held)) refl h
  where
    by : (a b : Bool) → leb MAX_HELD (length up.held) ≡ b → (a && not b) ≡ true → length up.held < MAX_HELD
    by true true e k = absurd (false≢true k)
    by true false e k = leb-false MAX_HELD (length up.held) e
    by false b e k = absurd (false≢true k)

few-arrival : (st : State) (ep : ℕ) (kind : StreamKind) (packet : StreamPacket) (o : Option Up) → HoldsFew o → LeavesFew (arrives st ep kind packet o)
few-arrival st ep kind packet None h = tt
few-arrival st ep kind packet (Some up) h = by (is_held kind up) refl
  where
    by : (b : Bool) → is_held kind up ≡ b → length (cond b (fill up.row.max_packet (waiting st ep) (up.held ++ packet ∷ [])) (none_filled up.held)).left ≤ MAX_HELD
    by true e =
        let left = fill-few up.row.max_packet (waiting st ep) (up.held ++ packet ∷ []) in
        omega (arith, left, length-append up.held (packet ∷ []), not-full kind up e)
    by false e = h

module _ (st : State) (held : Each HoldsFew st.streams) where
  few-of : (byte : ℕ) → HoldsFew (stream_of st.streams byte)
  few-of byte =
      elim (nat_lt (byte % 128) 16) as (λ b. HoldsFew (cond b (stream_at st.streams byte) None)) [ true ↦ few-at st.streams (endpoint_index byte) held | false ↦ omega arith ]

  few-data : (place : ℕ) (h : Header) (d : RedirData) → LeavesFew (told_meaning st place h (Carrying d))
  few-data place h (data_packet.Interrupt endpoint status length body) =
      by-test LeavesFew (is_in_endpoint endpoint) _ _ (few-arrival st endpoint Interrupt _ (stream_of st.streams endpoint) (few-of endpoint)) (of-response LeavesFew few-aside st place h _)
  few-data place h (data_packet.Iso endpoint status length body) =
      by-test LeavesFew (is_in_endpoint endpoint) _ _ (few-arrival st endpoint Iso _ (stream_of st.streams endpoint) (few-of endpoint)) tt
  few-data place h d = of-response LeavesFew few-aside st place h (response_of (Carrying d))

  few-told : (place : ℕ) (h : Header) (p : RedirPacket) → LeavesFew (told_meaning st place h p)
  few-told place h (Plain (plain.Hello hello)) = tt
  few-told place h (Plain plain.Disconnect) = tt
  few-told place h (Plain (plain.IsoStatus status endpoint)) = tt
  few-told place h (Plain (plain.InterruptStatus status endpoint)) = tt
  few-told place h (Carrying d) = few-data place h d
  few-told place h p = of-response LeavesFew few-aside st place h (response_of p)

  few-accepted : (s : Submission) (v : Verdict) → LeavesFew (accepted_as st s v)
  few-accepted s (Now status) = tt
  few-accepted s (Wire pipe) = tt
  few-accepted s (Routed r) = tt
  few-accepted s (IsoOut row) = tt
  few-accepted s (Stream row) =
      let ep = s.request.transfer.ep in
      let left = fill-few row.max_packet (waiting st ep ++ s.request ∷ []) (held_of (stream_at st.streams ep)) in
      omega (arith, left, few-at st.streams (endpoint_index ep) held)

  few-submit : (r : Request) (v : Verdict) → LeavesFew (accepts st r v)
  few-submit r v = let kept = by_stream (stream_at st.streams r.transfer.ep) v in few-accepted (submission st r kept (drawn_for st r kept)) kept

  few-left : (x : Item) → LeavesFew (meaning st x)
  few-left (Asked place (Op p)) = of-op LeavesFew few-aside st place p
  few-left (Asked place (Urb (urb.Submit s))) =
      by-test LeavesFew (not st.sides.imported) _ _ tt (by-test LeavesFew (has_number st s.head.seqnum) _ _ tt (few-submit (request_of s) (verdict_of st (request_of s))))
  few-left (Asked place (Urb (urb.Unlink u))) = by-test LeavesFew (not st.sides.imported) _ _ tt tt
  few-left (Asked place (Urb (urb.RetSubmit r))) = tt
  few-left (Asked place (Urb (urb.RetUnlink r))) = tt
  few-left (ClientWrong place reason) = tt
  few-left ClientLeft = tt
  few-left (Told place header packet) = few-told place header packet
  few-left (HostWrong place reason) = tt
  few-left HostLeft = tt

-- ---- all items

pub few-held : (first : ℕ) (xs : List Item) → Each (λ o. length (held_of o) ≤ MAX_HELD) (streams (past first xs))
few-held first [] = few-none 32
few-held first (x ∷ xs) =
    let st = state_of first (past first xs) in
    let before = few-held first xs in
    elim (is_left_out st x) as (λ b. Each HoldsFew (streams (cond b (past first xs) (mark_of st x ∷ past first xs)))) [
      | true ↦ before
      | false ↦ few-after (meaning st x) (streams (past first xs)) (few-left st before x) before
    ]
