-- What is true of a submit where an item accepts it, and of an import.
use Rattle.std.specs.Bool.{beq}
use Rattle.std.proofs.Common.{◌≡◌, ℕ, ◌<◌, ◌&&◌, Bool, true, false, cond, not, eqb, leb, List, [], ◌∷◌, length, Option, Some, None, refl, sym, ap, subst, ◌∙◌, arith}
use Rattle.std.specs.Prelude.{nat_lt, is_none, ℤ}
use Rattle.std.proofs.lemmas.Bool.{leb-false, false≢true, not-false}
use Rattle.usb_base.specs.declared.setup.Setup.{Setup}
use Rattle.usb_base.specs.declared.endpoint.EpKind.{EpKind}
use Rattle.usb_base.specs.declared.endpoint.EpKind.TheVariants as kind
use Rattle.usb_base.specs.declared.endpoint.EpRow.{EpRow}
use Rattle.usb_base.specs.declared.refusal.Refusal.{Refusal}
use Rattle.usb_base.specs.declared.transfer.Outcome.{Outcome}
use Rattle.usb_base.specs.Endpoint.{is_in_endpoint, is_iso}
use Rattle.usbip_op.specs.declared.packet.OpPacket.{OpPacket}
use Rattle.usbip_op.specs.declared.packet.OpPacket.TheVariants as op
use Rattle.usbip_urb.specs.declared.packet.UrbPacket.{UrbPacket}
use Rattle.usbip_urb.specs.declared.packet.UrbPacket.TheVariants as urb
use Rattle.redir_wire.specs.declared.packet.Connect.{Connect}
use Rattle.redir_wire.specs.declared.packet.Header.{Header}
use Rattle.redir_wire.specs.declared.packet.RedirControl.TheVariants as plain
use Rattle.redir_data.specs.declared.packet.RedirPacket.{RedirPacket}
use Rattle.redir_data.specs.declared.packet.RedirData.{RedirData}
use Rattle.redir_data.specs.declared.packet.RedirData.TheVariants as data_packet
use Rattle.redir_data.specs.declared.packet.RedirPacket.TheVariants.{Plain, Carrying}
use Rattle.redir_data.specs.declared.stream_kind.StreamKind.{StreamKind}
use Rattle.redir_data.specs.declared.stream_kind.StreamKind.TheVariants.{Iso, Interrupt}
use Rattle.usb_base.specs.declared.transfer.StreamPacket.{StreamPacket}
use Rattle.usbip_urb.specs.Buffers.{laid}
use Rattle.control_route.specs.declared.route.Route.{Route}
use Rattle.control_route.specs.declared.route.Route.TheVariants as route
use Rattle.control_route.specs.Routes.{route_of}
use Rattle.usbip_urb.specs.declared.client.ClientPacket.{ClientPacket}
use Rattle.usbip_urb.specs.declared.client.ClientPacket.TheVariants.{Op, Urb}
use Rattle.usbip_urb.specs.declared.code.TheConstants.{MAX_LIVE}
use Rattle.gate_history.specs.declared.item.Item.{Item}
use Rattle.gate_history.specs.declared.item.Item.TheVariants.{Asked, ClientWrong, ClientLeft, Told, HostWrong, HostLeft}
use Rattle.usb_base.specs.declared.errno.TheConstants.{ENOENT, EBUSY, EINVAL, EMSGSIZE, ESHUTDOWN}
use Rattle.gate_history.specs.declared.request.Request.{Request}
use Rattle.usb_base.specs.Setup.{is_in_setup}
use Rattle.usb_base.specs.Lists.{is_empty}
use Rattle.gate_history.specs.client.Requests.{request_of}
use Rattle.gate_history.specs.declared.verdict.Situation.{Situation}
use Rattle.gate_history.specs.declared.verdict.TheConstants.{MAX_NARROW}
use Rattle.gate_history.specs.declared.verdict.Verdict.{Verdict}
use Rattle.gate_history.specs.declared.verdict.Verdict.TheVariants.{Now, Wire, Routed, IsoOut, Stream}
use Rattle.gate_history.specs.client.Verdict.{is_invalid, is_control, is_narrow, by_route, by_kind, by_transfer, verdict, goes_by_id}
use Rattle.gate_history.specs.step.Marks.{Submission, Effect, Opens, Waits}
use Rattle.gate_history.specs.state.Sides.{imports}
use Rattle.gate_history.specs.client.Submits.{opened}
use Rattle.gate_history.specs.client.Ends.{ByStatus, at_once, is_waiting, is_touched, ends}
use Rattle.gate_history.specs.state.Ids.{last_of}
use Rattle.gate_history.specs.state.Ups.{Up, stream_at, stream_of}
use Rattle.gate_history.specs.state.State.{State, has_number}
use Rattle.gate_history.specs.client.Replies.{is_exported}
use Rattle.gate_history.specs.write.Packets.{HasRoute}
use Rattle.gate_history.specs.host.Responses.{Response, response_of}
use Rattle.gate_history.specs.step.Meaning.{imported_as, asked_meaning, situation, verdict_of, drawn_for, submission, by_stream, accepted_as, accepts, answered_as, answer_to, by_response, arrives, told_meaning, meaning}
use Rattle.gate_history.proofs.lemmas.Lists.{Each}

-- ---- of a verdict

-- a submit that isn't answered at once finds room
pub verdict-room : (here : Situation) (r : Request) → is_none (at_once (verdict here r)) ≡ true → here.live < MAX_LIVE
verdict-room here r h = go here.lost (leb MAX_LIVE here.live) refl h
  where
    go : (l b : Bool) → leb MAX_LIVE here.live ≡ b → is_none (at_once (cond l (Now ESHUTDOWN) (cond b (Now EBUSY) (by_transfer here r r.transfer.setup)))) ≡ true → here.live < MAX_LIVE
    go true b e k = absurd (false≢true k)
    go false true e k = absurd (false≢true k)
    go false false e k = leb-false MAX_LIVE here.live e

-- a request that goes by its route has packets

sends-if : (b : Bool) (v w : Verdict) → HasRoute v → HasRoute w → HasRoute (cond b v w)
sends-if true v w h k = h
sends-if false v w h k = k

sends-route : (r : Route) → HasRoute (by_route r)
sends-route route.Local = tt
sends-route route.Plain = tt
sends-route route.Bad = tt
sends-route _ = omega arith

sends-kind : (r : Request) (row : EpRow) (k : EpKind) → HasRoute (by_kind r row k)
sends-kind r row kind.Iso = sends-if r.is_in _ _ tt tt
sends-kind r row kind.Interrupt = sends-if r.is_in _ _ tt tt
sends-kind r row _ = tt

-- else it is answered at once
unless : (b : Bool) (status : ℤ) (w : Verdict) → HasRoute w → HasRoute (cond b (Now status) w)
unless b status w h = sends-if b (Now status) w tt h

sends-transfer : (here : Situation) (r : Request) (o : Option Setup) → HasRoute (by_transfer here r o)
sends-transfer here r (Some s) =
    unless (not (is_empty r.descs)) EINVAL _
    (unless (not (eqb s.length 0) && not (beq (is_in_setup s) r.is_in)) EINVAL _
    (unless (not (eqb s.length r.transfer.wanted)) EINVAL _ (sends-route (route_of s))))
sends-transfer here r None =
    unless here.changing ENOENT _
    (unless (is_invalid here.row.kind) ENOENT _
    (unless (is_control here.row.kind) EINVAL _
    (unless (beq (is_iso here.row.kind) (is_empty r.descs)) EINVAL _
    (unless (not (laid r.descs r.transfer.wanted)) EINVAL _
    (unless (is_narrow here r here.row.kind && nat_lt MAX_NARROW r.transfer.wanted) EMSGSIZE _ (sends-kind r here.row here.row.kind))))))

pub verdict-sends : (here : Situation) (r : Request) → HasRoute (verdict here r)
verdict-sends here r = unless here.lost ESHUTDOWN _ (unless (leb MAX_LIVE here.live) EBUSY _ (sends-transfer here r r.transfer.setup))

-- a stream that is up keeps its row, and changes nothing else

kept-room : (o : Option Up) (v : Verdict) → is_none (at_once (by_stream o v)) ≡ true → is_none (at_once v) ≡ true
kept-room (Some up) (Stream row) h = refl
kept-room (Some up) _ h = h
kept-room None v h = h

kept-sends : (o : Option Up) (v : Verdict) → HasRoute v → HasRoute (by_stream o v)
kept-sends (Some up) (Stream row) h = tt
kept-sends (Some up) _ h = h
kept-sends None v h = h

none-at-once : (v : Verdict) → is_none (at_once v) ≡ true → at_once v ≡ None
none-at-once (Now status) h = absurd (false≢true h)
none-at-once (IsoOut row) h = absurd (false≢true h)
none-at-once _ h = refl

-- ---- of an effect

-- one that waits for a stream's packets is of such a verdict
abbrev pub WaitsWell : Effect → Type 0
WaitsWell (Waits s fill) = is_waiting s.verdict ≡ true
WaitsWell _ = Unit {0}

pub record IsOpening (st : State) (e : Effect) : Type 0 where
  -- a client that has imported accepts, a number that isn't live is accepted, and an import finds nothing abandoned
  pub imported : Each (λ s. st.sides.imported ≡ true) (opened e)
  pub new : Each (λ s. has_number st s.request.seqnum ≡ false) (opened e)
  pub alone : imports e ≡ true → st.abandoned ≡ []
  -- one that lives on finds room, and its id was drawn
  pub room : Each (λ s. is_none (ends e s) ≡ true → length st.live < MAX_LIVE) (opened e)
  pub drawn : Each (λ s. is_none (ends e s) ≡ true → goes_by_id s.verdict ≡ true → s.id ≡ last_of 0 (drawn_for st s.request s.verdict)) (opened e)
  pub routes : Each (λ s. HasRoute s.verdict) (opened e)
  pub going : Each (λ s. is_none (ends e s) ≡ true → at_once s.verdict ≡ None) (opened e)
  pub waits : WaitsWell e

-- one that opens nothing and imports nothing
none : (st : State) (e : Effect) → opened e ≡ [] → imports e ≡ false → WaitsWell e → IsOpening st e
none st e nil k well = record {
  imported = subst (Each (λ s. st.sides.imported ≡ true)) (sym nil) tt;
  new = subst (Each (λ s. has_number st s.request.seqnum ≡ false)) (sym nil) tt;
  alone = λ h. absurd (false≢true (sym k ∙ h));
  room = subst (Each (λ s. is_none (ends e s) ≡ true → length st.live < MAX_LIVE)) (sym nil) tt;
  drawn = subst (Each (λ s. is_none (ends e s) ≡ true → goes_by_id s.verdict ≡ true → s.id ≡ last_of 0 (drawn_for st s.request s.verdict))) (sym nil) tt;
  routes = subst (Each (λ s. HasRoute s.verdict)) (sym nil) tt;
  going = subst (Each (λ s. is_none (ends e s) ≡ true → at_once s.verdict ≡ None)) (sym nil) tt;
  waits = well;
}

-- by a test
when : (st : State) (b : Bool) (e f : Effect) → (b ≡ true → IsOpening st e) → (b ≡ false → IsOpening st f) → IsOpening st (cond b e f)
when st true e f h k = h refl
when st false e f h k = k refl

middle : (a b c : Bool) → (a && b && c) ≡ true → b ≡ true
middle true true c e = refl
middle true false c e = absurd (false≢true e)
middle false b c e = absurd (false≢true e)

none-nil : {A : Type 0} (xs : List A) → is_empty xs ≡ true → xs ≡ []
none-nil [] e = refl
none-nil (x ∷ xs) e = absurd (false≢true e)

opening-import : (st : State) (o : Option Connect) → st.abandoned ≡ [] → IsOpening st (imported_as st o)
opening-import st None h = none st (imported_as st None) refl refl tt
opening-import st (Some c) h = record { imported = tt; new = tt; alone = λ k. h; room = tt; drawn = tt; routes = tt; going = tt; waits = tt }

opening-op : (st : State) (place : ℕ) (p : OpPacket) → IsOpening st (asked_meaning st place (Op p))
opening-op st place (op.ReqDevlist status) = when st st.sides.imported _ _ (λ h. none st _ refl refl tt) (λ h. none st _ refl refl tt)
opening-op st place (op.ReqImport status busid) = when st st.sides.imported _ _ (λ h. none st _ refl refl tt) (λ h. by (is_exported busid && is_empty st.abandoned && is_none st.fence) refl)
  where
    by : (b : Bool) → (is_exported busid && is_empty st.abandoned && is_none st.fence) ≡ b → IsOpening st (imported_as st (cond b st.facts.connect None))
    by true e = opening-import st st.facts.connect (none-nil st.abandoned (middle (is_exported busid) (is_empty st.abandoned) (is_none st.fence) e))
    by false e = none st _ refl refl tt
opening-op st place (op.RepDevlist status devices) = none st _ refl refl tt
opening-op st place (op.RepImport status device) = none st _ refl refl tt

own : (n : ℕ) → eqb n n ≡ true
own n = grind arith

-- it lives on where its verdict doesn't answer it
lives-on : (s : Submission) → is_none (ends (Opens s) s) ≡ true → is_none (at_once s.verdict) ≡ true
lives-on s h = sym (ap (λ (b : Bool). is_none (cond b (at_once s.verdict) (cond (is_touched s.verdict s.verdict) (Some (ByStatus ESHUTDOWN)) None))) (own s.place)) ∙ h

module _ (st : State) (r : Request) (in_session : st.sides.imported ≡ true) (new : has_number st r.seqnum ≡ false) where
  opening-now : (s : Submission) → s.request ≡ r → (is_none (at_once s.verdict) ≡ true → length st.live < MAX_LIVE) → HasRoute s.verdict →
      (goes_by_id s.verdict ≡ true → s.id ≡ last_of 0 (drawn_for st s.request s.verdict)) → IsOpening st (Opens s)
  opening-now s is room sends drawn = record {
    imported = (in_session, tt);
    new = (ap (λ (q : Request). has_number st q.seqnum) is ∙ new, tt);
    alone = λ k. absurd (false≢true k);
    room = (λ k. room (lives-on s k), tt);
    drawn = (λ k by. drawn by, tt);
    routes = (sends, tt);
    going = (λ k. none-at-once s.verdict (lives-on s k), tt);
    waits = tt;
  }

  opening-accepted : (v : Verdict) → (is_none (at_once v) ≡ true → length st.live < MAX_LIVE) → HasRoute v → IsOpening st (accepted_as st (submission st r v (drawn_for st r v)) v)
  opening-accepted (Now status) room sends = opening-now (submission st r (Now status) (drawn_for st r (Now status))) refl room sends (λ k. absurd (false≢true k))
  opening-accepted (Wire pipe) room sends = opening-now (submission st r (Wire pipe) (drawn_for st r (Wire pipe))) refl room sends (λ k. refl)
  opening-accepted (Routed route) room sends = opening-now (submission st r (Routed route) (drawn_for st r (Routed route))) refl room sends (λ k. refl)
  opening-accepted (IsoOut row) room sends = opening-now (submission st r (IsoOut row) (drawn_for st r (IsoOut row))) refl room sends (λ k. absurd (false≢true k))
  opening-accepted (Stream row) room sends = record {
    imported = (in_session, tt);
    new = (new, tt);
    alone = λ k. absurd (false≢true k);
    room = (λ k. room refl, tt);
    drawn = (λ k by. absurd (false≢true by), tt);
    routes = (tt, tt);
    going = (λ k. refl, tt);
    waits = refl;
  }

  opening-submit : IsOpening st (accepts st r (verdict_of st r))
  opening-submit =
      let up = stream_at st.streams r.transfer.ep in
      opening-accepted (by_stream up (verdict_of st r))
      (λ k. verdict-room (situation st r) r (kept-room up (verdict_of st r) k))
      (kept-sends up (verdict_of st r) (verdict-sends (situation st r) r))

opening-urb : (st : State) (place : ℕ) (p : UrbPacket) → IsOpening st (asked_meaning st place (Urb p))
opening-urb st place (urb.Submit s) =
    when st (not st.sides.imported) _ _ (λ h. none st _ refl refl tt)
    (λ h. when st (has_number st s.head.seqnum) _ _ (λ k. none st _ refl refl tt) (λ k. opening-submit st (request_of s) (not-false st.sides.imported h) k))
opening-urb st place (urb.Unlink u) = when st (not st.sides.imported) _ _ (λ h. none st _ refl refl tt) (λ h. none st _ refl refl tt)
opening-urb st place (urb.RetSubmit r) = none st _ refl refl tt
opening-urb st place (urb.RetUnlink r) = none st _ refl refl tt

opening-asked : (st : State) (place : ℕ) (p : ClientPacket) → IsOpening st (asked_meaning st place p)
opening-asked st place (Op p) = opening-op st place p
opening-asked st place (Urb p) = opening-urb st place p

opening-answered : (st : State) (id : ℕ) (o : Outcome) (r : Option Refusal) → IsOpening st (answered_as id o r)
opening-answered st id o None = none st (answered_as id o None) refl refl tt
opening-answered st id o (Some r) = none st (answered_as id o (Some r)) refl refl tt

opening-answer : (st : State) (place : ℕ) (h : Header) (response : Response) (s : Option Submission) → IsOpening st (answer_to st place h response s)
opening-answer st place h response None = none st (answer_to st place h response None) refl refl tt
opening-answer st place h response (Some s) = opening-answered st h.id _ _

opening-response : (st : State) (place : ℕ) (h : Header) (response : Option Response) → IsOpening st (by_response st place h response)
opening-response st place h None = none st (by_response st place h None) refl refl tt
opening-response st place h (Some response) = opening-answer st place h response _

opening-arrival : (st : State) (ep : ℕ) (kind : StreamKind) (packet : StreamPacket) (o : Option Up) → IsOpening st (arrives st ep kind packet o)
opening-arrival st ep kind packet None = none st (arrives st ep kind packet None) refl refl tt
opening-arrival st ep kind packet (Some up) = none st (arrives st ep kind packet (Some up)) refl refl tt

opening-data : (st : State) (place : ℕ) (h : Header) (d : RedirData) → IsOpening st (told_meaning st place h (Carrying d))
opening-data st place h (data_packet.Interrupt endpoint status length body) =
    when st (is_in_endpoint endpoint) _ _ (λ k. opening-arrival st endpoint Interrupt _ (stream_of st.streams endpoint)) (λ k. opening-response st place h _)
opening-data st place h (data_packet.Iso endpoint status length body) =
    when st (is_in_endpoint endpoint) _ _ (λ k. opening-arrival st endpoint Iso _ (stream_of st.streams endpoint)) (λ k. none st _ refl refl tt)
opening-data st place h d = opening-response st place h (response_of (Carrying d))

opening-told : (st : State) (place : ℕ) (h : Header) (p : RedirPacket) → IsOpening st (told_meaning st place h p)
opening-told st place h (Plain (plain.Hello hello)) = none st (told_meaning st place h (Plain (plain.Hello hello))) refl refl tt
opening-told st place h (Plain plain.Disconnect) = none st (told_meaning st place h (Plain plain.Disconnect)) refl refl tt
opening-told st place h (Plain (plain.IsoStatus status endpoint)) = none st (told_meaning st place h (Plain (plain.IsoStatus status endpoint))) refl refl tt
opening-told st place h (Plain (plain.InterruptStatus status endpoint)) = none st (told_meaning st place h (Plain (plain.InterruptStatus status endpoint))) refl refl tt
opening-told st place h (Carrying d) = opening-data st place h d
opening-told st place h p = opening-response st place h (response_of p)

pub opening-meaning : (st : State) (x : Item) → IsOpening st (meaning st x)
opening-meaning st (Asked place packet) = opening-asked st place packet
opening-meaning st (ClientWrong place reason) = none st (meaning st (ClientWrong place reason)) refl refl tt
opening-meaning st ClientLeft = none st (meaning st ClientLeft) refl refl tt
opening-meaning st (Told place header packet) = opening-told st place header packet
opening-meaning st (HostWrong place reason) = none st (meaning st (HostWrong place reason)) refl refl tt
opening-meaning st HostLeft = none st (meaning st HostLeft) refl refl tt
