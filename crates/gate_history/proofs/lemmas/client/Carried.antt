-- What a client's submits ask for, and what a verdict lets on the wire.
use Rattle.std.specs.Bool.{beq}
use Rattle.std.proofs.Common.{◌≡◌, inl, inr, ℕ, ◌+◌, ◌≤◌, ◌==◌, ◌&&◌, nat_lt, nat_le, not, Bool, true, false, cond, if◌then◌else◌, length, Option, Some, None, unwrap_or, refl, sym, ap, subst, ◌∙◌, arith}
use Rattle.std.proofs.lemmas.Bool.{cases_Bool, eqb-true, ltb-false, le-ltb, lt-ltb, true≢false, not-false}
use Rattle.std.proofs.lemmas.Bool.Decides.{eqb_tells}
use Rattle.usb_base.specs.Endpoint.{is_in_endpoint, is_iso}
use Rattle.usb_base.specs.declared.setup.Setup.{Setup}
use Rattle.usb_base.specs.declared.endpoint.EpKind.{EpKind}
use Rattle.usb_base.specs.declared.endpoint.EpKind.TheVariants as kind
use Rattle.usb_base.specs.declared.endpoint.EpRow.{EpRow}
use Rattle.usb_base.specs.declared.transfer.Transfer.{Transfer}
use Rattle.usbip_urb.specs.Buffers.{laid}
use Rattle.usbip_urb.specs.Sizes.{is_out, body_size}
use Rattle.usbip_urb.specs.Ranges.{IsSubmit}
use Rattle.usbip_urb.specs.declared.packet.Submit.{Submit}
use Rattle.usbip_urb.specs.declared.code.TheConstants.{MAX_LIVE}
use Rattle.redir_wire.specs.declared.packet.Way.TheVariants.{ToHost}
use Rattle.redir_wire.specs.declared.packet.Caps.{Caps}
use Rattle.redir_wire.specs.Header.{IdFits}
use Rattle.redir_data.specs.declared.packet.RedirData.{RedirData}
use Rattle.redir_data.specs.declared.packet.RedirPacket.{RedirPacket}
use Rattle.redir_data.specs.declared.packet.RedirData.TheVariants as data_packet
use Rattle.redir_data.specs.declared.packet.RedirPacket.TheVariants.{Plain, Carrying}
use Rattle.redir_data.specs.Spelling.{data_count}
use Rattle.redir_data.specs.Ranges.{BulkLengthFits}
use Rattle.redir_data.specs.Written.{CanWrite}
use Rattle.control_route.specs.declared.route.Route.{Route}
use Rattle.control_route.specs.declared.route.Route.TheVariants as route
use Rattle.control_route.specs.Routes.{route_of}
use Rattle.usb_base.specs.declared.errno.TheConstants.{ENOENT, EBUSY, EINVAL, EMSGSIZE, ESHUTDOWN}
use Rattle.gate_history.specs.declared.request.Request.{Request}
use Rattle.usb_base.specs.Setup.{is_in_setup}
use Rattle.usb_base.specs.Lists.{is_empty}
use Rattle.gate_history.specs.client.Requests.{request_of, transfer_by, address}
use Rattle.gate_history.specs.declared.verdict.Pipe.{Pipe}
use Rattle.gate_history.specs.declared.verdict.Pipe.TheVariants.{Control, Bulk, InterruptOut}
use Rattle.gate_history.specs.declared.verdict.Situation.{Situation}
use Rattle.gate_history.specs.declared.verdict.TheConstants.{MAX_NARROW}
use Rattle.gate_history.specs.declared.verdict.Verdict.{Verdict}
use Rattle.gate_history.specs.declared.verdict.Verdict.TheVariants.{Now, Wire, IsoOut, Stream}
use Rattle.gate_history.specs.client.Verdict.{by_route, by_setup, by_kind, is_control, is_invalid, is_narrow, by_endpoint, by_transfer, verdict}
use Rattle.gate_history.specs.client.Carried.{IsDirected, IsRequest, HasItsSetup, LengthFits, IsSent, IsCarried}
use Rattle.gate_history.specs.state.Flight.{wide_ids, wide_bulk}
use Rattle.gate_history.specs.write.Packets.{no_setup, wire_packet}

-- ---- a submit's request

not-not : (b : Bool) → not (not b) ≡ b
not-not true = refl
not-not false = refl

pub address-way : (is_in : Bool) (n : ℕ) → n ≤ 15 → is_in_endpoint (address is_in n) ≡ is_in
address-way true n few = ap not (le-ltb (n + 128) 128 (omega arith))
address-way false n few = ap not (lt-ltb n 128 (omega arith))

directed : (control : Bool) (s : Submit) → s.head.ep ≤ 15 →
    IsDirected (not (is_out s.head.direction)) (transfer_by control s).setup (transfer_by control s).ep
directed true s few = refl
directed false s few = address-way (not (is_out s.head.direction)) s.head.ep few

pub is_request : (s : Submit) → IsSubmit s → IsRequest (request_of s)
is_request s is = record {
  few_bytes = is.few_bytes;
  few_packets = is.few_packets;
  descs = is.descs;
  body = is.body ∙ ap (λ (b : Bool). body_size b s.length) (sym (not-not (is_out s.head.direction)));
  directed = directed (s.head.ep == 0) s is.head.endpoint;
}

-- ---- its verdict

-- a rule that answers at once lets nothing on the wire
unless : (wide b : Bool) (status : _) (v : Verdict) (t : Request) → (b ≡ false → IsCarried wide v t) → IsCarried wide (if b then Now status else v) t
unless wide true status v t h = tt
unless wide false status v t h = h refl

data-way : (is_in : Bool) (ep wanted n : ℕ) → is_in_endpoint ep ≡ is_in → n ≡ body_size (not is_in) wanted → n ≡ data_count ToHost ep wanted
data-way is_in ep wanted n way e = e ∙ ap (λ (b : Bool). body_size (not b) wanted) (sym way)

bulk : (wide : Bool) (r : Request) → r.transfer.wanted ≤ 16777216 → length r.transfer.body ≡ data_count ToHost r.transfer.ep r.transfer.wanted → (not wide && nat_lt MAX_NARROW r.transfer.wanted) ≡ false → IsCarried wide (Wire Bulk) r
bulk true r few there fits = record { setup = tt; length_fits = tt; few_bytes = few; data_there = there }
bulk false r few there fits = record { setup = tt; length_fits = ltb-false _ _ fits; few_bytes = few; data_there = there }

interrupt : (wide : Bool) (row : EpRow) (is_in : Bool) (r : Request) → r.transfer.wanted ≤ 16777216 → length r.transfer.body ≡ data_count ToHost r.transfer.ep r.transfer.wanted →
    (not is_in && nat_lt MAX_NARROW r.transfer.wanted) ≡ false → IsCarried wide (if is_in then Stream row else Wire InterruptOut) r
interrupt wide row true r few there fits = tt
interrupt wide row false r few there fits = record { setup = tt; length_fits = ltb-false _ _ fits; few_bytes = few; data_there = there }

-- an isochronous transfer lies over its buffer
isochronous : (wide : Bool) (row : EpRow) (is_in : Bool) (r : Request) → r.is_in ≡ is_in → is_in_endpoint r.transfer.ep ≡ is_in → length r.transfer.body ≡ body_size (not is_in) r.transfer.wanted →
    laid r.descs r.transfer.wanted ≡ true → IsCarried wide (if is_in then Stream row else IsoOut row) r
isochronous wide row true r same way whole lies = tt
isochronous wide row false r same way whole lies = record { out = way; to_device = same; lies = lies; whole = whole }

by_kind-carried : (here : Situation) (r : Request) (row : EpRow) (k : EpKind) → is_in_endpoint r.transfer.ep ≡ r.is_in → length r.transfer.body ≡ body_size (not r.is_in) r.transfer.wanted → laid r.descs r.transfer.wanted ≡ true → r.transfer.wanted ≤ 16777216 → length r.transfer.body ≡ data_count ToHost r.transfer.ep r.transfer.wanted →
    (is_narrow here r k && nat_lt MAX_NARROW r.transfer.wanted) ≡ false → IsCarried here.wide (by_kind r row k) r
by_kind-carried here r row kind.Control way whole lies few there fits = tt
by_kind-carried here r row kind.Iso way whole lies few there fits = isochronous here.wide row r.is_in r refl way whole lies
by_kind-carried here r row kind.Bulk way whole lies few there fits = bulk here.wide r few there fits
by_kind-carried here r row kind.Interrupt way whole lies few there fits = interrupt here.wide row r.is_in r few there fits
by_kind-carried here r row kind.Invalid way whole lies few there fits = tt

by_endpoint-carried : (here : Situation) (r : Request) → IsRequest r → is_in_endpoint r.transfer.ep ≡ r.is_in → IsCarried here.wide (by_endpoint here r) r
by_endpoint-carried here r is way =
    unless here.wide (is_invalid here.row.kind) ENOENT _ r (λ valid.
    unless here.wide (is_control here.row.kind) EINVAL _ r (λ other.
    unless here.wide (beq (is_iso here.row.kind) (is_empty r.descs)) EINVAL _ r (λ iso.
    unless here.wide (not (laid r.descs r.transfer.wanted)) EINVAL _ r (λ lies.
    unless here.wide (is_narrow here r here.row.kind && nat_lt MAX_NARROW r.transfer.wanted) EMSGSIZE _ r (λ fits.
    by_kind-carried here r here.row here.row.kind way is.body (not-false _ lies) is.few_bytes (data-way r.is_in r.transfer.ep r.transfer.wanted _ way is.body) fits)))))

-- ---- endpoint 0

by_route-carried : (wide : Bool) (rt : Route) (t : Request) → IsSent wide Control t.transfer → IsCarried wide (by_route rt) t
by_route-carried wide route.Plain t sent = sent
by_route-carried wide _ t sent = tt

pub no-length : (n : ℕ) → (not (n == 0) && true) ≡ false → n ≡ 0
no-length n e = elim (eqb_tells n 0) [ inl h ↦ h.1 | inr h ↦ absurd (true≢false (rw h.0 at e)) ]

-- its directions are one, or it moves no data
setup-data : (way is_in : Bool) (length wanted n : ℕ) → (not (length == 0) && not (beq way is_in)) ≡ false → length ≡ wanted → n ≡ body_size (not is_in) wanted →
    n ≡ data_count ToHost (address way 0) wanted
setup-data true true length wanted n one same e = e
setup-data false false length wanted n one same e = e
setup-data true false length wanted n one same e = e ∙ sym same ∙ no-length length one
setup-data false true length wanted n one same e = e ∙ sym (sym same ∙ no-length length one)

pub by_setup-carried : (wide : Bool) (r : Request) (s : Setup) → IsRequest r → r.transfer.setup ≡ Some s → r.transfer.ep ≡ address (is_in_setup s) 0 → IsCarried wide (by_setup r s) r
by_setup-carried wide r s is has way =
    unless wide (not (is_empty r.descs)) EINVAL _ r (λ none.
    unless wide (not (s.length == 0) && not (beq (is_in_setup s) r.is_in)) EINVAL _ r (λ one.
    unless wide (not (s.length == r.transfer.wanted)) EINVAL _ r (λ same.
    let length : s.length ≡ r.transfer.wanted = eqb-true s.length r.transfer.wanted (not-false _ same) in
    by_route-carried wide (route_of s) r (record {
      setup = subst (λ (o : Option Setup). HasItsSetup Control o r.transfer.wanted) (sym has) (sym length);
      length_fits = tt;
      few_bytes = is.few_bytes;
      data_there =
          setup-data (is_in_setup s) r.is_in s.length r.transfer.wanted _ one length is.body
          ∙ ap (λ (ep : ℕ). data_count ToHost ep r.transfer.wanted) (sym way);
    }))))

-- ---- both

by_transfer-carried : (here : Situation) (r : Request) (o : Option Setup) → IsRequest r → r.transfer.setup ≡ o → IsDirected r.is_in o r.transfer.ep →
    IsCarried here.wide (by_transfer here r o) r
by_transfer-carried here r None is has way =
    unless here.wide here.changing ENOENT _ r (λ still. by_endpoint-carried here r is way)
by_transfer-carried here r (Some s) is has way = by_setup-carried here.wide r s is has way

-- what a verdict lets on the wire a packet can carry
pub carried : (here : Situation) (r : Request) → IsRequest r → IsCarried here.wide (verdict here r) r
carried here r is =
    unless here.wide here.lost ESHUTDOWN _ r (λ there.
    unless here.wide (nat_le MAX_LIVE here.live) EBUSY _ r (λ room.
    by_transfer-carried here r r.transfer.setup is refl is.directed))

-- ---- its packet

abbrev pub CanWriteIt : ℕ → Caps → RedirPacket → Type 0
CanWriteIt id caps (Plain p) = Unit {0}
CanWriteIt id caps (Carrying d) = CanWrite id ToHost caps d

narrow : (wide : Bool) (n : ℕ) → LengthFits wide Bulk n → BulkLengthFits wide n
narrow true n h = h
narrow false n h = omega arith

few-there : (ep wanted n : ℕ) → wanted ≤ 16777216 → n ≡ data_count ToHost ep wanted → n ≤ 16777216
few-there ep wanted n few there = elim (cases_Bool (is_in_endpoint ep)) [
  | inl into ↦ let h : n ≡ 0 = there ∙ ap (λ (b : Bool). cond (not b) wanted 0) into in omega arith
  | inr out ↦ let h : n ≡ wanted = there ∙ ap (λ (b : Bool). cond (not b) wanted 0) out in omega arith
]

-- a packet's fields and its data are at most 64 bytes more than 16 MiB
wide-few : (wide : Bool) → cond wide 2 0 ≤ 2
wide-few true = omega arith
wide-few false = omega arith

by_setup-written : (id : ℕ) (caps : Caps) (t : Transfer) (s : Setup) → IdFits (wide_ids caps) id → IsSent (wide_bulk caps) Control t →
    CanWriteIt id caps (Carrying (data_packet.Control t.ep s.request s.kind 0 s.value s.index t.wanted t.body))
by_setup-written id caps t s fits sent =
    let few = few-there t.ep t.wanted (length t.body) sent.few_bytes sent.data_there in
    record { id_fits = fits; length_fits = tt; data_there = sent.data_there; in_limit = omega arith }

can_write : (id : ℕ) (caps : Caps) (pipe : Pipe) (t : Transfer) → IdFits (wide_ids caps) id → IsSent (wide_bulk caps) pipe t → CanWriteIt id caps (wire_packet pipe t)
can_write id caps Control t fits sent = by_setup-written id caps t (unwrap_or t.setup no_setup) fits sent
can_write id caps Bulk t fits sent =
    let few = few-there t.ep t.wanted (length t.body) sent.few_bytes sent.data_there in
    let more = wide-few (wide_bulk caps) in
    record { id_fits = fits; length_fits = narrow (wide_bulk caps) t.wanted sent.length_fits; data_there = sent.data_there; in_limit = omega arith }
can_write id caps InterruptOut t fits sent =
    let few = few-there t.ep t.wanted (length t.body) sent.few_bytes sent.data_there in
    record { id_fits = fits; length_fits = tt; data_there = sent.data_there; in_limit = omega arith }

pub can_be_written : (id : ℕ) (caps : Caps) (pipe : Pipe) (t : Transfer) (d : RedirData) → IdFits (wide_ids caps) id → IsSent (wide_bulk caps) pipe t → Carrying d ≡ wire_packet pipe t →
    CanWrite id ToHost caps d
can_be_written id caps pipe t d fits sent is = subst (CanWriteIt id caps) (sym is) (can_write id caps pipe t fits sent)
