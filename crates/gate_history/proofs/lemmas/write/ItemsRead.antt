-- What each item does keeps the ids in flight in range, and what it sends to the host can be read there.
use Rattle.std.proofs.Common.{◌≡◌, ℕ, ◌≤◌, Bool, true, false, cond, not, List, [], ◌∷◌, ◌++◌, map, Option, Some, None, refl, arith}
use Rattle.std.specs.Prelude.{IfSome, filter, zip, is_none}
use Rattle.usb_base.specs.Endpoint.{is_in_endpoint}
use Rattle.usb_base.specs.declared.refusal.Refusal.{Refusal}
use Rattle.usb_base.specs.declared.side.Side.TheVariants.{Client}
use Rattle.usb_base.specs.declared.transfer.Outcome.{Outcome}
use Rattle.usb_base.specs.declared.transfer.StreamPacket.{StreamPacket}
use Rattle.usbip_op.specs.declared.packet.OpPacket.{OpPacket}
use Rattle.usbip_op.specs.declared.packet.OpPacket.TheVariants as op
use Rattle.usbip_urb.specs.declared.client.ClientPacket.{ClientPacket}
use Rattle.usbip_urb.specs.declared.client.ClientPacket.TheVariants.{Op, Urb}
use Rattle.usbip_urb.specs.declared.packet.UrbPacket.{UrbPacket}
use Rattle.usbip_urb.specs.declared.packet.UrbPacket.TheVariants as urb
use Rattle.usbip_urb.specs.Ranges.{IsSubmit}
use Rattle.redir_wire.specs.declared.packet.Caps.{Caps}
use Rattle.redir_wire.specs.declared.packet.Connect.{Connect}
use Rattle.redir_wire.specs.declared.packet.Header.{Header}
use Rattle.redir_wire.specs.declared.packet.RedirControl.TheVariants as plain
use Rattle.redir_wire.specs.declared.packet.Way.TheVariants.{ToHost}
use Rattle.redir_wire.specs.declared.packet.TheConstants.Caps.{DISCONNECT_ACK}
use Rattle.redir_wire.specs.Capability.{has}
use Rattle.redir_wire.specs.Header.{IdFits}
use Rattle.redir_data.specs.declared.packet.RedirData.{RedirData}
use Rattle.redir_data.specs.declared.packet.RedirData.TheVariants as data_packet
use Rattle.redir_data.specs.declared.packet.RedirPacket.{RedirPacket}
use Rattle.redir_data.specs.declared.packet.RedirPacket.TheVariants.{Plain, Carrying}
use Rattle.redir_data.specs.Sent.{CanBeRead}
use Rattle.redir_data.proofs.Sent.{control_sent}
use Rattle.redir_data.specs.declared.stream_kind.StreamKind.{StreamKind}
use Rattle.redir_data.specs.declared.stream_kind.StreamKind.TheVariants.{Iso, Interrupt}
use Rattle.gate_history.specs.state.StreamIds.{asking}
use Rattle.gate_history.specs.state.Flight.{wide_ids, wide_bulk}
use Rattle.gate_history.specs.state.Ids.{greatest, last_of, Fits}
use Rattle.gate_history.specs.declared.item.Item.{Item}
use Rattle.gate_history.specs.declared.item.Item.TheVariants.{Asked, ClientWrong, ClientLeft, Told, HostWrong, HostLeft}
use Rattle.gate_history.specs.step.Machine.{ask, live_after}
use Rattle.gate_history.specs.step.Marks.{Submission, Fact, Effect, Idle, Replies, Disconnects, Ends, Refuses}
use Rattle.gate_history.specs.step.Meaning.{importable, imported_as, asked_meaning, situation, verdict_of, drawn_for, submission, by_stream, accepted_as, accepts, answered_as, answer_to, by_response, arrives, told_meaning, meaning, mark_as, drawn_by}
use Rattle.gate_history.specs.write.Output.{cancel, cancels, fresh, present, acknowledgements, to_host}
use Rattle.gate_history.specs.write.Packets.{stops, asked_packets}
use Rattle.gate_history.specs.declared.request.Request.{Request}
use Rattle.gate_history.specs.client.Requests.{request_of}
use Rattle.gate_history.specs.host.Responses.{Response, response_of}
use Rattle.gate_history.specs.state.Sides.{agrees, leaves}
use Rattle.gate_history.specs.state.State.{State, flying, has_number, next_ids}
use Rattle.gate_history.specs.client.Submits.{Pending, opened}
use Rattle.gate_history.specs.client.Ends.{ends}
use Rattle.gate_history.specs.state.Ups.{Up, stream_at, stream_of, is_ended}
use Rattle.gate_history.specs.declared.verdict.Verdict.{Verdict}
use Rattle.gate_history.specs.declared.verdict.Verdict.TheVariants.{Now, Wire, Routed, IsoOut, Stream}
use Rattle.gate_history.specs.client.Carried.{IsCarried}
use Rattle.gate_history.proofs.lemmas.client.Carried.{carried, is_request}
use Rattle.gate_history.proofs.lemmas.state.Draws.{draws-fit}
use Rattle.gate_history.proofs.lemmas.Lists.{Each, Each-append, Each-filter, Each-weaker}
use Rattle.gate_history.proofs.lemmas.write.Sendable.{FieldsFit, Sendable, sends-stops, sends-verdict}

-- ---- ids that are drawn

some-id : (wide : Bool) → 1 ≤ greatest wide
some-id true = omega arith
some-id false = omega arith

in-range : (wide : Bool) (id : ℕ) → Fits (greatest wide) id → IdFits wide id
in-range true id f = let h : id ≤ 18446744073709551615 = f.high in omega arith
in-range false id f = let h : id ≤ 4294967295 = f.high in omega arith

pub no-id : (wide : Bool) → IdFits wide 0
no-id true = omega arith
no-id false = omega arith

drawn-fit : (st : State) (n : ℕ) → Each (IdFits (wide_ids st.sides.agreed)) (next_ids st n)
drawn-fit st n =
    let wide = wide_ids st.sides.agreed in
    Each-weaker (Fits (greatest wide)) (IdFits wide) (in-range wide) (next_ids st n) (draws-fit (greatest wide) (flying st) st.last n (some-id wide))

last-fits : (wide : Bool) (last : ℕ) (ids : List ℕ) → IdFits wide last → Each (IdFits wide) ids → IdFits wide (last_of last ids)
last-fits wide last [] fits each = fits
last-fits wide last (id ∷ ids) fits each = last-fits wide id ids each.0 each.1

-- ---- an effect whose packets can be read

abbrev AckFits : Bool → Effect → Type 0
AckFits wide (Disconnects id) = IdFits wide id
AckFits wide _ = Unit {0}

pub record IsReadable (st : State) (e : Effect) : Type 0 where
  pub opens : Each (λ s. IdFits (wide_ids st.sides.agreed) s.id) (opened e)
  pub sends : Each (Sendable st.sides.agreed) (asked_packets st.streams e)
  pub acks : AckFits (wide_ids st.sides.agreed) e
  pub agrees-none : agrees e ≡ None

stops-if : (st : State) (b : Bool) → Each (Sendable st.sides.agreed) (cond b (stops (is_ended None) st.streams) [])
stops-if st true = sends-stops st.sides.agreed (is_ended None) st.streams
stops-if st false = tt

either : (st : State) (b : Bool) (e f : Effect) → IsReadable st e → IsReadable st f → IsReadable st (cond b e f)
either st true e f h k = h
either st false e f h k = k

refuses : (st : State) (r : Refusal) → IsReadable st (Refuses r)
refuses st r = record { opens = tt; sends = stops-if st (leaves (Refuses r)); acks = tt; agrees-none = refl }

idle : (st : State) → IsReadable st Idle
idle st = record { opens = tt; sends = tt; acks = tt; agrees-none = refl }

replies : (st : State) (p : OpPacket) → IsReadable st (Replies p)
replies st p = record { opens = tt; sends = tt; acks = tt; agrees-none = refl }

-- ---- of a client's items

imports : (st : State) (o : Option Connect) → IsReadable st (imported_as st o)
imports st None = replies st _
imports st (Some c) = record { opens = tt; sends = tt; acks = tt; agrees-none = refl }

asks-op : (st : State) (place : ℕ) (p : OpPacket) → IsReadable st (asked_meaning st place (Op p))
asks-op st place (op.ReqDevlist status) = either st st.sides.imported _ _ (refuses st _) (replies st _)
asks-op st place (op.ReqImport status busid) = either st st.sides.imported _ _ (refuses st _) (imports st (importable st busid))
asks-op st place (op.RepDevlist status devices) = idle st
asks-op st place (op.RepImport status device) = idle st

accepted : (st : State) (r : Request) (v : Verdict) (ids : List ℕ) → IsCarried (wide_bulk st.sides.agreed) v r → IfSome r.transfer.setup FieldsFit → Each (IdFits (wide_ids st.sides.agreed)) ids → IsReadable st (accepted_as st (submission st r v ids) v)
accepted st r (Now status) ids carried fit fits = record { opens = (no-id (wide_ids st.sides.agreed), tt); sends = tt; acks = tt; agrees-none = refl }
accepted st r (Wire pipe) ids carried fit fits = record { opens = (last-fits (wide_ids st.sides.agreed) 0 ids (no-id (wide_ids st.sides.agreed)) fits, tt); sends = sends-verdict st.sides.agreed st.streams (Wire pipe) r carried fit; acks = tt; agrees-none = refl }
accepted st r (Routed by) ids carried fit fits = record { opens = (last-fits (wide_ids st.sides.agreed) 0 ids (no-id (wide_ids st.sides.agreed)) fits, tt); sends = sends-verdict st.sides.agreed st.streams (Routed by) r carried fit; acks = tt; agrees-none = refl }
accepted st r (IsoOut row) ids carried fit fits = record { opens = (no-id (wide_ids st.sides.agreed), tt); sends = sends-verdict st.sides.agreed st.streams (IsoOut row) r carried fit; acks = tt; agrees-none = refl }
accepted st r (Stream row) ids carried fit fits = record { opens = (no-id (wide_ids st.sides.agreed), tt); sends = sends-verdict st.sides.agreed st.streams (Stream row) r carried fit; acks = tt; agrees-none = refl }

kept-carried : (wide : Bool) (o : Option Up) (v : Verdict) (r : Request) → IsCarried wide v r → IsCarried wide (by_stream o v) r
kept-carried wide None v r h = h
kept-carried wide (Some up) (Now status) r h = h
kept-carried wide (Some up) (Wire pipe) r h = h
kept-carried wide (Some up) (Routed by) r h = h
kept-carried wide (Some up) (IsoOut row) r h = h
kept-carried wide (Some up) (Stream row) r h = tt

-- what is known of a submit that was read of bytes
abbrev pub AskedFits : ClientPacket → Type 0
AskedFits (Urb (urb.Submit s)) = IsSubmit s × IfSome (request_of s).transfer.setup FieldsFit
AskedFits _ = Unit {0}

submits-fit : (st : State) (r : Request) (v : Verdict) → IsCarried (wide_bulk st.sides.agreed) v r → IfSome r.transfer.setup FieldsFit → IsReadable st (accepts st r v)
submits-fit st r v carries fit =
    let kept = by_stream (stream_at st.streams r.transfer.ep) v in
    accepted st r kept (drawn_for st r kept) (kept-carried (wide_bulk st.sides.agreed) (stream_at st.streams r.transfer.ep) v r carries) fit (drawn-fit st _)

asks-urb : (st : State) (place : ℕ) (p : UrbPacket) → AskedFits (Urb p) → IsReadable st (asked_meaning st place (Urb p))
asks-urb st place (urb.Submit s) fits =
    either st (not st.sides.imported) _ _ (refuses st _)
    (either st (has_number st s.head.seqnum) _ _ (refuses st _)
    (submits-fit st (request_of s) (verdict_of st (request_of s)) (carried (situation st (request_of s)) (request_of s) (is_request s fits.0)) fits.1))
asks-urb st place (urb.Unlink u) fits = either st (not st.sides.imported) _ _ (refuses st _) (record { opens = tt; sends = tt; acks = tt; agrees-none = refl })
asks-urb st place (urb.RetSubmit r) fits = idle st
asks-urb st place (urb.RetUnlink r) fits = idle st

asks : (st : State) (place : ℕ) (p : ClientPacket) → AskedFits p → IsReadable st (asked_meaning st place p)
asks st place (Op p) fits = asks-op st place p
asks st place (Urb p) fits = asks-urb st place p fits

-- ---- of the host's

answered : (st : State) (id : ℕ) (o : Outcome) (r : Option Refusal) → IsReadable st (answered_as id o r)
answered st id o None = record { opens = tt; sends = tt; acks = tt; agrees-none = refl }
answered st id o (Some r) = refuses st r

answers : (st : State) (place : ℕ) (h : Header) (response : Response) (s : Option Submission) → IsReadable st (answer_to st place h response s)
answers st place h response None = idle st
answers st place h response (Some s) = answered st h.id _ _

responds : (st : State) (place : ℕ) (h : Header) (o : Option Response) → IsReadable st (by_response st place h o)
responds st place h None = idle st
responds st place h (Some response) = answers st place h response _

arrival : (st : State) (ep : ℕ) (kind : StreamKind) (packet : StreamPacket) (o : Option Up) → IsReadable st (arrives st ep kind packet o)
arrival st ep kind packet None = idle st
arrival st ep kind packet (Some up) = record { opens = tt; sends = tt; acks = tt; agrees-none = refl }

tells-data : (st : State) (place : ℕ) (h : Header) (d : RedirData) → IsReadable st (told_meaning st place h (Carrying d))
tells-data st place h (data_packet.Interrupt endpoint status length body) =
    either st (is_in_endpoint endpoint) _ _ (arrival st endpoint Interrupt _ (stream_of st.streams endpoint)) (responds st place h _)
tells-data st place h (data_packet.Iso endpoint status length body) = either st (is_in_endpoint endpoint) _ _ (arrival st endpoint Iso _ (stream_of st.streams endpoint)) (idle st)
tells-data st place h d = responds st place h (response_of (Carrying d))

-- a hello agrees to capabilities
abbrev pub is_greeting : RedirPacket → Bool
is_greeting (Plain (plain.Hello hello)) = true
is_greeting _ = false

pub tells : (st : State) (place : ℕ) (h : Header) (p : RedirPacket) → is_greeting p ≡ false → IdFits (wide_ids st.sides.agreed) h.id → IsReadable st (told_meaning st place h p)
tells st place h (Plain (plain.Hello hello)) other fits = absurd (let no : true ≡ false = other in cc)
tells st place h (Plain plain.Disconnect) other fits = record { opens = tt; sends = tt; acks = fits; agrees-none = refl }
tells st place h (Plain (plain.IsoStatus status endpoint)) other fits = record { opens = tt; sends = tt; acks = tt; agrees-none = refl }
tells st place h (Plain (plain.InterruptStatus status endpoint)) other fits = record { opens = tt; sends = tt; acks = tt; agrees-none = refl }
tells st place h (Carrying d) other fits = tells-data st place h d
tells st place h p other fits = responds st place h (response_of p)

-- ---- of any item but the hello

abbrev pub ItemFits : State → Item → Type 0
ItemFits st (Asked place p) = AskedFits p
ItemFits st (Told place h p) = (is_greeting p ≡ false) × IdFits (wide_ids st.sides.agreed) h.id
ItemFits st _ = Unit {0}

pub readable : (st : State) (x : Item) → ItemFits st x → IsReadable st (meaning st x)
readable st (Asked place p) fits = asks st place p fits
readable st (ClientWrong place why) fits = refuses st _
readable st ClientLeft fits = record { opens = tt; sends = stops-if st (leaves (Ends Client)); acks = tt; agrees-none = refl }
readable st (Told place h p) fits = tells st place h p fits.0 fits.1
readable st (HostWrong place why) fits = refuses st _
readable st HostLeft fits = record { opens = tt; sends = tt; acks = tt; agrees-none = refl }

-- ---- what it sends

abbrev pub Reads : Caps → ℕ × RedirPacket → Type 0
Reads caps p = CanBeRead ToHost caps p

-- the ids of those that wait are in range
abbrev pub IdsFit : Bool → List Pending → Type 0
IdsFit wide ps = Each (λ p. IdFits wide p.submit.id) ps

cancelled : (caps : Caps) (test : Pending → Bool) (ps : List Pending) → IdsFit (wide_ids caps) ps → Each (Reads caps) (map cancel (filter test ps))
cancelled caps test [] fits = tt
cancelled caps test (p ∷ ps) fits =
    elim (test p) as (λ (b : Bool). Each (Reads caps) (map cancel (cond b (p ∷ filter test ps) (filter test ps)))) [
      | true ↦ (control_sent ToHost caps p.submit.id plain.Cancel refl tt (record { agreed = refl; id_fits = fits.0; writable = tt }) refl, cancelled caps test ps fits.1)
      | false ↦ cancelled caps test ps fits.1
    ]

each-zip : (caps : Caps) (ids : List ℕ) (ps : List RedirPacket) → Each (IdFits (wide_ids caps)) ids → Each (Sendable caps) ps → Each (Reads caps) (zip ids ps)
each-zip caps [] ps fits sends = tt
each-zip caps (id ∷ ids) [] fits sends = tt
each-zip caps (id ∷ ids) (p ∷ ps) fits sends = (sends.0 id fits.0, each-zip caps ids ps fits.1 sends.1)

acknowledged : (caps : Caps) (e : Effect) → AckFits (wide_ids caps) e → Each (Reads caps) (acknowledgements caps e)
acknowledged caps (Disconnects id) fits = by (has caps DISCONNECT_ACK) refl
  where
    by : (b : Bool) → has caps DISCONNECT_ACK ≡ b → Each (Reads caps) (cond b ((id, Plain plain.DisconnectAck) ∷ []) [])
    by true e = (control_sent ToHost caps id plain.DisconnectAck refl tt (record { agreed = e; id_fits = fits; writable = tt }) refl, tt)
    by false e = tt
acknowledged caps e fits = tt

pub sent-read : (st : State) (e : Effect) (told : Option Fact) → IdsFit (wide_ids st.sides.agreed) st.live → IsReadable st e → Each (Reads st.sides.agreed) (to_host st (mark_as st e told))
sent-read st e told fits is =
    let stopped = map cancel (filter (cancels e) st.live) in
    let asked = asking st.streams (mark_as st e told) in
    let acks = acknowledgements st.sides.agreed e in
    Each-append (Reads st.sides.agreed) (stopped ++ asked) acks
    (Each-append (Reads st.sides.agreed) stopped asked (cancelled st.sides.agreed (cancels e) st.live fits) (each-zip st.sides.agreed (drawn_by st e) (asked_packets st.streams e) (drawn-fit st _) is.sends))
    (acknowledged st.sides.agreed e is.acks)

-- ---- who is in flight behind it

fresh-fit : (wide : Bool) (ss : List Submission) → Each (λ s. IdFits wide s.id) ss → IdsFit wide (map fresh ss)
fresh-fit wide [] fits = tt
fresh-fit wide (s ∷ ss) fits = (fits.0, fresh-fit wide ss fits.1)

asked-fit : (wide : Bool) (e : Effect) (ps : List Pending) → IdsFit wide ps → IdsFit wide (map (ask e) ps)
asked-fit wide e [] fits = tt
asked-fit wide e (p ∷ ps) fits = (fits.0, asked-fit wide e ps fits.1)

pub live-fit : (st : State) (e : Effect) → IdsFit (wide_ids st.sides.agreed) st.live → IsReadable st e → IdsFit (wide_ids st.sides.agreed) (live_after st e)
live-fit st e fits is =
    let wide = wide_ids st.sides.agreed in
    let fit : Pending → Type 0 = λ p. IdFits wide p.submit.id in
    asked-fit wide e (filter (λ p. is_none (ends e p.submit)) (present st e))
    (Each-filter fit (λ p. is_none (ends e p.submit)) (present st e) (Each-append fit st.live (map fresh (opened e)) fits (fresh-fit wide (opened e) is.opens)))
