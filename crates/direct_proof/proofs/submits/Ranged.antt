-- What is known of a submit that a client can send and that goes by an id: its transfer is one, and its packet fits it.
use Rattle.std.specs.Bool.{beq}
use Rattle.std.proofs.Common.{◌≡◌, ℕ, ◌≤◌, ◌==◌, ◌&&◌, nat_lt, nat_le, not, Bool, true, false, cond, List, [], ◌∷◌, length, Option, Some, None, is_some, refl, sym, ap, ◌∙◌, subst, arith}
use Rattle.std.specs.Prelude.{IfSome}
use Rattle.std.proofs.lemmas.Bool.{eqb-true, ltb-false, not-false}
use Rattle.usb_base.specs.declared.setup.Setup.{Setup}
use Rattle.usb_base.specs.declared.endpoint.EpKind.{EpKind}
use Rattle.usb_base.specs.declared.endpoint.EpKind.TheVariants as kind
use Rattle.usb_base.specs.declared.endpoint.EpRow.{EpRow}
use Rattle.usb_base.specs.Endpoint.{is_control, is_in_endpoint, is_iso}
use Rattle.usbip_urb.specs.declared.packet.Submit.{Submit as UrbSubmit}
use Rattle.usbip_urb.specs.declared.packet.UrbPacket.TheVariants as urb
use Rattle.usbip_urb.specs.declared.client.ClientPacket.TheVariants.{Urb}
use Rattle.usbip_urb.specs.Buffers.{laid}
use Rattle.usbip_urb.specs.ClientPackets.{IsClientPacket}
use Rattle.usbip_urb.specs.declared.code.TheConstants.{MAX_LIVE}
use Rattle.control_route.specs.declared.route.Route.{Route}
use Rattle.control_route.specs.declared.route.Route.TheVariants as route
use Rattle.control_route.specs.Routes.{route_of}
use Rattle.redir_data.specs.Spelling.{data_count}
use Rattle.redir_wire.specs.declared.packet.Way.TheVariants.{ToHost}
use Rattle.model_device.specs.Transfer.{IsTransfer}
use Rattle.model_device.specs.Submit.{normal}
use Rattle.model_device.proofs.Submits.{asks_transfer}
use Rattle.redir_host.specs.guest.Asking.{routed}
use Rattle.gate_history.specs.declared.verdict.TheConstants.{MAX_NARROW}
use Rattle.gate_history.specs.declared.verdict.Situation.{Situation}
use Rattle.usb_base.specs.declared.errno.TheConstants.{ENOENT, EBUSY, EINVAL, EMSGSIZE, ESHUTDOWN}
use Rattle.gate_history.specs.state.Flight.{wide_bulk}
use Rattle.gate_history.specs.step.Meaning.{verdict_of, situation}
use Rattle.gate_history.specs.declared.request.Request.{Request}
use Rattle.usb_base.specs.Setup.{is_in_setup}
use Rattle.usb_base.specs.Lists.{is_empty}
use Rattle.gate_history.specs.client.Requests.{request_of, address}
use Rattle.gate_history.specs.state.State.{State}
use Rattle.gate_history.specs.declared.verdict.Pipe.TheVariants.{Control, InterruptOut}
use Rattle.gate_history.specs.declared.verdict.Verdict.{Verdict}
use Rattle.gate_history.specs.declared.verdict.Verdict.TheVariants.{Now, Wire, Routed, IsoOut, Stream}
use Rattle.gate_history.specs.client.Verdict.{by_route, by_setup, by_kind, is_invalid, is_narrow, by_endpoint, by_transfer, verdict, goes_by_id}
use Rattle.gate_history.specs.client.Verdict as of_kind
use Rattle.gate_history.specs.client.Carried.{IsDirected, IsRequest, IsCarried}
use Rattle.gate_history.proofs.lemmas.client.Carried.{is_request, carried}
use Rattle.direct_device.specs.Direct.{normal_by}
use Rattle.direct_proof.specs.Loads.{FitsPipe, FitsRoute, FitsVerdict, IsLoad}
use Rattle.direct_proof.proofs.submits.Addressed.{IsAddressed, addressed}

-- ---- its transfer

nothing : (body : List ℕ) → length body ≡ 0 → body ≡ []
nothing [] h = refl
nothing (b ∷ body) h = absurd (cc)

wire-transfer : (r : Request) → IsAddressed r.transfer → IsDirected r.is_in r.transfer.setup r.transfer.ep → length r.transfer.body ≡ data_count ToHost r.transfer.ep r.transfer.wanted → IsTransfer r.transfer
wire-transfer r at directed there = record {
  address = at.low;
  has_setup = at.has_setup;
  direction = way r.transfer.setup directed;
  from_device = λ h. nothing r.transfer.body (there ∙ ap (λ (b : Bool). cond (not b) r.transfer.wanted 0) h);
  to_device = λ h. sym (there ∙ ap (λ (b : Bool). cond (not b) r.transfer.wanted 0) h);
}
  where
    zero-way : (b : Bool) → b ≡ is_in_endpoint (address b 0)
    zero-way true = refl
    zero-way false = refl

    way : (o : Option Setup) → IsDirected r.is_in o r.transfer.ep → IfSome o (λ (x : Setup). is_in_setup x ≡ is_in_endpoint r.transfer.ep)
    way None d = tt
    way (Some s) d = zero-way (is_in_setup s) ∙ ap is_in_endpoint (sym d)

routed-transfer : (x : Route) → IsTransfer (routed x)
routed-transfer x = by x (asks_transfer x nothing 0 false 0 [] (record { endpoint = omega arith; from_device = λ h. refl; to_device = λ h. refl; direction = λ h k. absurd (k refl) }))
  where
    nothing : Setup
    nothing = record { kind = 0; request = 0; value = 0; index = 0; length = 0 }

    by : (x : Route) → IsTransfer (normal x nothing 0 false 0 []) → IsTransfer (routed x)
    by route.Local h = h
    by (route.SetConfig c) h = h
    by route.GetConfig h = h
    by (route.SetAlt i a) h = h
    by (route.GetAlt i) h = h
    by route.Reset h = h
    by route.Plain h = h
    by route.Bad h = h

-- ---- its packet

abbrev FitsIt : Verdict → Request → Type 0
FitsIt (Wire pipe) r = FitsPipe pipe r.transfer r.transfer.setup
FitsIt (Routed x) r = FitsRoute x r.transfer r.transfer.setup
FitsIt _ r = Unit {0}

-- a rule that answers at once asks for nothing
unless : (b : Bool) (status : _) (v : Verdict) (r : Request) → (b ≡ false → FitsIt v r) → FitsIt (cond b (Now status) v) r
unless true status v r h = tt
unless false status v r h = h refl

route-fits : (r : Request) (s : Setup) (x : Route) → r.transfer.setup ≡ Some s → r.transfer.ep ≡ address (is_in_setup s) 0 → route_of s ≡ x → s.length ≡ r.transfer.wanted → FitsIt (by_route x) r
route-fits r s route.Local has way is long = tt
route-fits r s (route.SetConfig c) has way is long = subst (FitsRoute (route.SetConfig c) r.transfer) (sym has) (is, long, λ h. cc, λ h. cc, λ h. cc)
route-fits r s route.GetConfig has way is long = subst (FitsRoute route.GetConfig r.transfer) (sym has) (is, long, λ h. cc, λ h. cc, λ h. cc)
route-fits r s (route.SetAlt i a) has way is long = subst (FitsRoute (route.SetAlt i a) r.transfer) (sym has) (is, long, λ h. cc, λ h. cc, λ h. cc)
route-fits r s (route.GetAlt i) has way is long = subst (FitsRoute (route.GetAlt i) r.transfer) (sym has) (is, long, λ h. cc, λ h. cc, λ h. cc)
route-fits r s route.Reset has way is long = subst (FitsRoute route.Reset r.transfer) (sym has) (is, long, λ h. cc, λ h. cc, λ h. cc)
route-fits r s route.Plain has way is long = subst (FitsPipe Control r.transfer) (sym has) (way ∙ turned (nat_lt s.kind 128), is, long)
  where
    turned : (b : Bool) → address (not b) 0 ≡ cond b 0 128
    turned true = refl
    turned false = refl
route-fits r s route.Bad has way is long = tt

setup-fits : (r : Request) (s : Setup) → r.transfer.setup ≡ Some s → r.transfer.ep ≡ address (is_in_setup s) 0 → FitsIt (by_setup r s) r
setup-fits r s has way =
    unless (not (is_empty r.descs)) EINVAL _ r (λ none.
    unless (not (s.length == 0) && not (beq (is_in_setup s) r.is_in)) EINVAL _ r (λ one.
    unless (not (s.length == r.transfer.wanted)) EINVAL _ r (λ same.
    route-fits r s (route_of s) has way refl (eqb-true s.length r.transfer.wanted (not-false (s.length == r.transfer.wanted) same)))))

kind-fits : (here : Situation) (r : Request) (row : EpRow) (k : EpKind) → r.transfer.setup ≡ None → is_control r.transfer.ep ≡ false → is_in_endpoint r.transfer.ep ≡ r.is_in → r.transfer.wanted ≤ 16777216 → (is_narrow here r k && nat_lt MAX_NARROW r.transfer.wanted) ≡ false → FitsIt (by_kind r row k) r
kind-fits here r row kind.Control none other way few narrow = tt
kind-fits here r row kind.Iso none other way few narrow = elim r.is_in as (λ (b : Bool). FitsIt (cond b (Stream row) (IsoOut row)) r) [ true ↦ tt | false ↦ tt ]
kind-fits here r row kind.Bulk none other way few narrow = (none, other, few)
kind-fits here r row kind.Interrupt none other way few narrow = go r.is_in refl
  where
    go : (b : Bool) → r.is_in ≡ b → FitsIt (cond b (Stream row) (Wire InterruptOut)) r
    go true h = tt
    go false h = (none, other, way ∙ h, ltb-false MAX_NARROW r.transfer.wanted (sym (ap (λ (x : Bool). not x && nat_lt MAX_NARROW r.transfer.wanted) h) ∙ narrow))
kind-fits here r row kind.Invalid none other way few narrow = tt

endpoint-fits : (here : Situation) (r : Request) → r.transfer.setup ≡ None → is_control r.transfer.ep ≡ false → is_in_endpoint r.transfer.ep ≡ r.is_in → r.transfer.wanted ≤ 16777216 → FitsIt (by_endpoint here r) r
endpoint-fits here r none other way few =
    unless (is_invalid here.row.kind) ENOENT _ r (λ valid.
    unless (of_kind.is_control here.row.kind) EINVAL _ r (λ moves.
    unless (beq (is_iso here.row.kind) (is_empty r.descs)) EINVAL _ r (λ iso.
    unless (not (laid r.descs r.transfer.wanted)) EINVAL _ r (λ lies.
    unless (is_narrow here r here.row.kind && nat_lt MAX_NARROW r.transfer.wanted) EMSGSIZE _ r (λ narrow.
    kind-fits here r here.row here.row.kind none other way few narrow)))))

verdict-fits : (here : Situation) (r : Request) → IsAddressed r.transfer → IsRequest r → FitsIt (verdict here r) r
verdict-fits here r at is =
    unless here.lost ESHUTDOWN _ r (λ there.
    unless (nat_le MAX_LIVE here.live) EBUSY _ r (λ room.
    by r.transfer.setup refl))
  where
    by : (o : Option Setup) → r.transfer.setup ≡ o → FitsIt (by_transfer here r o) r
    by (Some s) has = setup-fits r s has (subst (λ (x : Option Setup). IsDirected r.is_in x r.transfer.ep) has is.directed)
    by None has = unless here.changing ENOENT _ r (λ still. endpoint-fits here r has (sym at.has_setup ∙ ap is_some has) (subst (λ (x : Option Setup). IsDirected r.is_in x r.transfer.ep) has is.directed) is.few_bytes)

-- ---- a submit

pub submit-load : (st : State) (s : UrbSubmit) (v : Verdict) → IsClientPacket (Urb (urb.Submit s)) → verdict_of st (request_of s) ≡ v → goes_by_id v ≡ true → IsLoad (record { request = request_of s; verdict = v })
submit-load st s v read is by_id = record { transfer = transfer v is by_id; verdict = fits v is by_id }
  where
    r : Request
    r = request_of s

    at : IsAddressed r.transfer
    at = addressed s read.0

    asks : IsRequest r
    asks = is_request s read.0

    transfer : (u : Verdict) → verdict_of st r ≡ u → goes_by_id u ≡ true → IsTransfer (normal_by r u)
    transfer (Wire pipe) e h = wire-transfer r at asks.directed (subst (λ (u : Verdict). IsCarried (wide_bulk st.sides.agreed) u r) e (carried (situation st r) r asks)).data_there
    transfer (Routed x) e h = routed-transfer x
    transfer _ e h = absurd (cc)

    fits : (u : Verdict) → verdict_of st r ≡ u → goes_by_id u ≡ true → FitsVerdict u r.transfer
    fits (Wire pipe) e h = subst (λ (u : Verdict). FitsIt u r) e (verdict-fits (situation st r) r at asks)
    fits (Routed x) e h = subst (λ (u : Verdict). FitsIt u r) e (verdict-fits (situation st r) r at asks)
    fits _ e h = absurd (cc)
