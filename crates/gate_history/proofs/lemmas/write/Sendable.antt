-- The packets to the host can be read with any id that fits.
use Rattle.std.proofs.Common.{◌≡◌, ℕ, ◌≤◌, ◌<◌, ◌^◌, Bool, true, false, cond, not, List, [], ◌∷◌, length, map, Option, Some, None, unwrap_or, refl, sym, ap, subst, ◌∙◌, arith, lit<}
use Rattle.std.specs.Prelude.{IfSome, drop}
use Rattle.std.proofs.lemmas.List.{length-take, length-drop}
use Rattle.usb_base.specs.Endpoint.{is_in_endpoint, is_iso}
use Rattle.usb_base.specs.Number.{part}
use Rattle.usb_base.specs.declared.endpoint.EpRow.{EpRow}
use Rattle.usb_base.specs.declared.setup.Setup.{Setup}
use Rattle.usb_base.specs.declared.transfer.Transfer.{Transfer}
use Rattle.usbip_urb.specs.declared.packet.IsoDesc.{IsoDesc}
use Rattle.redir_wire.specs.declared.packet.Caps.{Caps}
use Rattle.redir_wire.specs.declared.packet.RedirControl.TheVariants as plain
use Rattle.redir_wire.specs.declared.packet.Way.TheVariants.{ToHost}
use Rattle.redir_wire.specs.Header.{IdFits}
use Rattle.redir_data.specs.declared.packet.RedirData.TheVariants as data_packet
use Rattle.redir_data.specs.declared.packet.RedirPacket.{RedirPacket}
use Rattle.redir_data.specs.declared.packet.RedirPacket.TheVariants.{Plain, Carrying}
use Rattle.redir_data.specs.Sent.{CanBeRead}
use Rattle.redir_data.proofs.Sent.{control_sent, data_sent}
use Rattle.control_route.specs.declared.route.Route.{Route}
use Rattle.control_route.specs.declared.route.Route.TheVariants as route
use Rattle.gate_history.specs.state.Flight.{wide_ids, wide_bulk}
use Rattle.gate_history.specs.declared.sent.TheConstants.{PACKETS_PER_URB, STREAM_URBS}
use Rattle.gate_history.specs.write.Packets.{no_setup, wire_packet, route_packets, start_packet, starts, stop_packet, stop_of, stops, iso_packets, packets_of}
use Rattle.gate_history.specs.declared.request.Request.{Request}
use Rattle.gate_history.specs.state.Ups.{Up, stream_at, is_ended}
use Rattle.gate_history.specs.declared.verdict.Pipe.{Pipe}
use Rattle.gate_history.specs.declared.verdict.Pipe.TheVariants.{Control, Bulk, InterruptOut}
use Rattle.gate_history.specs.declared.verdict.TheConstants.{MAX_NARROW}
use Rattle.gate_history.specs.declared.verdict.Verdict.{Verdict}
use Rattle.gate_history.specs.declared.verdict.Verdict.TheVariants.{Now, Wire, Routed, IsoOut, Stream}
use Rattle.gate_history.specs.client.Carried.{HasItsSetup, IsSent, IsLaid, IsCarried}
use Rattle.gate_history.proofs.lemmas.client.Carried.{can_be_written}
use Rattle.gate_history.proofs.lemmas.write.Laid.{IsWithin, all-within}
use Rattle.gate_history.proofs.lemmas.Lists.{Each, Each-append}

abbrev pub Sendable : Caps → RedirPacket → Type 0
Sendable caps p = (id : ℕ) → IdFits (wide_ids caps) id → CanBeRead ToHost caps (id, p)

-- ---- streams

pub sends-stop : (caps : Caps) (up : Up) → Sendable caps (stop_packet up)
sends-stop caps up = by (is_iso up.row.kind)
  where
    by : (b : Bool) → Sendable caps (Plain (cond b (plain.StopIso up.ep) (plain.StopInterrupt up.ep)))
    by true id fits = control_sent ToHost caps id (plain.StopIso up.ep) refl tt (record { agreed = refl; id_fits = fits; writable = tt }) refl
    by false id fits = control_sent ToHost caps id (plain.StopInterrupt up.ep) refl tt (record { agreed = refl; id_fits = fits; writable = tt }) refl

sends-stop-of : (caps : Caps) (test : Up → Bool) (o : Option Up) → Each (Sendable caps) (stop_of test o)
sends-stop-of caps test None = tt
sends-stop-of caps test (Some up) =
    elim (test up) as (λ (b : Bool). Each (Sendable caps) (cond b (stop_packet up ∷ []) [])) [ true ↦ (sends-stop caps up, tt) | false ↦ tt ]

pub sends-stops : (caps : Caps) (test : Up → Bool) (ups : List (Option Up)) → Each (Sendable caps) (stops test ups)
sends-stops caps test [] = tt
sends-stops caps test (o ∷ ups) = Each-append (Sendable caps) (stop_of test o) (stops test ups) (sends-stop-of caps test o) (sends-stops caps test ups)

sends-start : (caps : Caps) (ep : ℕ) (row : EpRow) → Sendable caps (start_packet ep row)
sends-start caps ep row = by (is_iso row.kind)
  where
    by : (b : Bool) → Sendable caps (Plain (cond b (plain.StartIso ep PACKETS_PER_URB STREAM_URBS) (plain.StartInterrupt ep)))
    by true id fits = control_sent ToHost caps id (plain.StartIso ep PACKETS_PER_URB STREAM_URBS) refl tt (record { agreed = refl; id_fits = fits; writable = tt }) refl
    by false id fits = control_sent ToHost caps id (plain.StartInterrupt ep) refl tt (record { agreed = refl; id_fits = fits; writable = tt }) refl

sends-starts : (caps : Caps) (o : Option Up) (ep : ℕ) (row : EpRow) → Each (Sendable caps) (starts o ep row)
sends-starts caps None ep row = (sends-start caps ep row, tt)
sends-starts caps (Some up) ep row = tt

-- ---- routes

sends-route : (caps : Caps) (r : Route) → Each (Sendable caps) (route_packets r)
sends-route caps (route.SetConfig configuration) = ((λ id fits. control_sent ToHost caps id (plain.SetConfiguration configuration) refl tt (record { agreed = refl; id_fits = fits; writable = tt }) refl), tt)
sends-route caps route.GetConfig = ((λ id fits. control_sent ToHost caps id plain.GetConfiguration refl tt (record { agreed = refl; id_fits = fits; writable = tt }) refl), tt)
sends-route caps (route.SetAlt interface alt) = ((λ id fits. control_sent ToHost caps id (plain.SetAlt interface alt) refl tt (record { agreed = refl; id_fits = fits; writable = tt }) refl), tt)
sends-route caps (route.GetAlt interface) = ((λ id fits. control_sent ToHost caps id (plain.GetAlt interface) refl tt (record { agreed = refl; id_fits = fits; writable = tt }) refl), tt)
sends-route caps route.Reset = (
  (λ id fits. control_sent ToHost caps id plain.Reset refl tt (record { agreed = refl; id_fits = fits; writable = tt }) refl),
  ((λ id fits. control_sent ToHost caps id plain.GetConfiguration refl tt (record { agreed = refl; id_fits = fits; writable = tt }) refl), tt),
)
sends-route caps route.Local = tt
sends-route caps route.Plain = tt
sends-route caps route.Bad = tt

-- ---- transfers

-- the fields of a setup that eight bytes tell
pub record FieldsFit (s : Setup) : Type 0 where
  pub value_fits : s.value < 2 ^ 16
  pub index_fits : s.index < 2 ^ 16
  pub length_fits : s.length < 2 ^ 16

own-setup : (wanted : ℕ) (o : Option Setup) → HasItsSetup Control o wanted → IfSome o FieldsFit → FieldsFit (unwrap_or o no_setup) × (wanted ≡ (unwrap_or o no_setup).length)
own-setup wanted None is fit = absurd is
own-setup wanted (Some s) is fit = (fit, is)

sends-wire : (caps : Caps) (pipe : Pipe) (t : Transfer) → IsSent (wide_bulk caps) pipe t → IfSome t.setup FieldsFit → Sendable caps (wire_packet pipe t)
sends-wire caps Control t sent fit id fits =
    let s = unwrap_or t.setup no_setup in
    let own = own-setup t.wanted t.setup sent.setup fit in
    data_sent ToHost caps id (data_packet.Control t.ep s.request s.kind 0 s.value s.index t.wanted t.body)
    ((own.0.value_fits, (own.0.index_fits, (subst (λ (n : ℕ). n < 2 ^ 16) (sym own.1) own.0.length_fits, tt))), tt)
    (can_be_written id caps Control t _ fits sent refl)
sends-wire caps Bulk t sent fit id fits =
    data_sent ToHost caps id (data_packet.Bulk t.ep 0 t.wanted 0 t.body) ((lit< tt, tt), ((let few : t.wanted ≤ 16777216 = sent.few_bytes in omega arith), tt))
    (can_be_written id caps Bulk t _ fits sent refl)
sends-wire caps InterruptOut t sent fit id fits =
    data_sent ToHost caps id (data_packet.Interrupt t.ep 0 t.wanted t.body) (((let few : t.wanted ≤ MAX_NARROW = sent.length_fits in omega arith), tt), tt) (can_be_written id caps InterruptOut t _ fits sent refl)

-- ---- isochronous packets to the device

sends-iso : (caps : Caps) (ep : ℕ) (body : List ℕ) (d : IsoDesc) → is_in_endpoint ep ≡ false → IsWithin d (length body) → Sendable caps (Carrying (data_packet.Iso ep 0 d.length (part d.offset d.length body)))
sends-iso caps ep body d out within id fits =
    let few = within.few in
    let all = within.within in
    let long : length (part d.offset d.length body) ≡ d.length = omega (arith, length-take d.length (drop d.offset body), length-drop d.offset body) in
    data_sent ToHost caps id (data_packet.Iso ep 0 d.length (part d.offset d.length body)) ((omega arith, tt), tt)
    (record { id_fits = fits; length_fits = tt; data_there = long ∙ sym (ap (λ (b : Bool). cond (not b) d.length 0) out); in_limit = omega arith })

sends-isos : (caps : Caps) (ep : ℕ) (body : List ℕ) (ds : List IsoDesc) → is_in_endpoint ep ≡ false → Each (λ d. IsWithin d (length body)) ds → Each (Sendable caps) (map (λ (d : IsoDesc). Carrying (data_packet.Iso ep 0 d.length (part d.offset d.length body))) ds)
sends-isos caps ep body [] out within = tt
sends-isos caps ep body (d ∷ ds) out within = (sends-iso caps ep body d out within.0, sends-isos caps ep body ds out within.1)

sends-laid : (caps : Caps) (r : Request) → IsLaid r → Each (Sendable caps) (iso_packets r)
sends-laid caps r is =
    sends-isos caps r.transfer.ep r.transfer.body r.descs is.out (subst (λ (n : ℕ). Each (λ d. IsWithin d n) r.descs) (sym is.whole) (all-within 0 r.descs r.transfer.wanted is.lies))

-- ---- of a submit

pub sends-verdict : (caps : Caps) (ups : List (Option Up)) (v : Verdict) (r : Request) → IsCarried (wide_bulk caps) v r → IfSome r.transfer.setup FieldsFit → Each (Sendable caps) (packets_of ups v r)
sends-verdict caps ups (Now status) r carried fit = tt
sends-verdict caps ups (Wire pipe) r carried fit = (sends-wire caps pipe r.transfer carried fit, tt)
sends-verdict caps ups (Routed by) r carried fit = Each-append (Sendable caps) (stops (is_ended (Some by)) ups) (route_packets by) (sends-stops caps (is_ended (Some by)) ups) (sends-route caps by)
sends-verdict caps ups (IsoOut row) r carried fit =
    Each-append (Sendable caps) (starts (stream_at ups r.transfer.ep) r.transfer.ep row) (iso_packets r) (sends-starts caps (stream_at ups r.transfer.ep) r.transfer.ep row) (sends-laid caps r carried)
sends-verdict caps ups (Stream row) r carried fit = sends-starts caps (stream_at ups r.transfer.ep) r.transfer.ep row
