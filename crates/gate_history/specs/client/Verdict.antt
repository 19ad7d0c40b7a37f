-- What is made of a submit: the first of these rules that applies. What they go by beside the request is a record of
-- plain facts, and they are read without the rest of the gate.
use Rattle.std.specs.Bool.{beq}
use Rattle.std.specs.Prelude.{◌==◌, ◌&&◌, nat_lt, nat_le, not, Bool, true, false, if◌then◌else◌, Option, Some, None, pos}
use Rattle.usb_base.specs.Endpoint.{is_iso}
use Rattle.usb_base.specs.declared.setup.Setup.{Setup}
use Rattle.usb_base.specs.declared.endpoint.EpKind.{EpKind}
use Rattle.usb_base.specs.declared.endpoint.EpKind.TheVariants as kind
use Rattle.usb_base.specs.declared.endpoint.EpRow.{EpRow}
use Rattle.usbip_urb.specs.Buffers.{laid}
use Rattle.usbip_urb.specs.declared.code.TheConstants.{MAX_LIVE}
use Rattle.control_route.specs.declared.route.Route.{Route}
use Rattle.control_route.specs.declared.route.Route.TheVariants as route
use Rattle.control_route.specs.Routes.{route_of}
use Rattle.control_route.specs.Changes.{is_change}
use Rattle.gate_history.specs.declared.verdict.Pipe.{Pipe}
use Rattle.gate_history.specs.declared.verdict.Pipe.TheVariants.{Control, Bulk, InterruptOut}
use Rattle.gate_history.specs.declared.verdict.Situation.{Situation}
use Rattle.gate_history.specs.declared.verdict.TheConstants.{MAX_NARROW}
use Rattle.gate_history.specs.declared.verdict.Verdict.{Verdict}
use Rattle.gate_history.specs.declared.verdict.Verdict.TheVariants.{Now, Wire, Routed, IsoOut, Stream}
use Rattle.gate_history.specs.declared.request.Request.{Request}
use Rattle.usb_base.specs.declared.errno.TheConstants.{ENOENT, EBUSY, EINVAL, EMSGSIZE, ESHUTDOWN}
use Rattle.usb_base.specs.Setup.{is_in_setup}
use Rattle.usb_base.specs.Lists.{is_empty}

-- ---- endpoint 0

abbrev pub by_route : Route → Verdict
by_route route.Local = Now (pos 0)
by_route route.Plain = Wire Control
by_route route.Bad = Now EINVAL
by_route r = Routed r

abbrev pub by_setup : Request → Setup → Verdict
by_setup r s =
    if not (is_empty r.descs) then Now EINVAL
    else if not (s.length == 0) && not (beq (is_in_setup s) r.is_in) then Now EINVAL
    else if not (s.length == r.transfer.wanted) then Now EINVAL
    else by_route (route_of s)

-- ---- the other endpoints

abbrev pub by_kind : Request → EpRow → EpKind → Verdict
by_kind r row kind.Control = Now EINVAL
by_kind r row kind.Iso = if r.is_in then Stream row else IsoOut row
by_kind r row kind.Bulk = Wire Bulk
by_kind r row kind.Interrupt = if r.is_in then Stream row else Wire InterruptOut
by_kind r row kind.Invalid = Now ENOENT

abbrev pub is_control : EpKind → Bool
is_control kind.Control = true
is_control _ = false

abbrev pub is_invalid : EpKind → Bool
is_invalid kind.Invalid = true
is_invalid _ = false

-- the packet of this transfer has 16 bits for its length
abbrev pub is_narrow : Situation → Request → EpKind → Bool
is_narrow here r kind.Bulk = not here.wide
is_narrow here r kind.Interrupt = not r.is_in
is_narrow here r _ = false

abbrev pub by_endpoint : Situation → Request → Verdict
by_endpoint here r =
    if is_invalid here.row.kind then Now ENOENT
    else if is_control here.row.kind then Now EINVAL
    else if beq (is_iso here.row.kind) (is_empty r.descs) then Now EINVAL
    else if not (laid r.descs r.transfer.wanted) then Now EINVAL
    else if is_narrow here r here.row.kind && nat_lt MAX_NARROW r.transfer.wanted then Now EMSGSIZE
    else by_kind r here.row here.row.kind

-- ---- both

abbrev pub by_transfer : Situation → Request → Option Setup → Verdict
by_transfer here r (Some setup) = by_setup r setup
by_transfer here r None = if here.changing then Now ENOENT else by_endpoint here r

abbrev pub verdict : Situation → Request → Verdict
verdict here r =
    if here.lost then Now ESHUTDOWN
    else if nat_le MAX_LIVE here.live then Now EBUSY
    else by_transfer here r r.transfer.setup

-- ---- what a verdict says of a submit

-- the host's answer ends it, by an id
abbrev pub goes_by_id : Verdict → Bool
goes_by_id (Wire pipe) = true
goes_by_id (Routed r) = true
goes_by_id _ = false

abbrev pub is_wire : Verdict → Bool
is_wire (Wire pipe) = true
is_wire _ = false

-- the device's interfaces may be others once it ends
abbrev pub changes : Verdict → Bool
changes (Routed r) = is_change r
changes _ = false

abbrev pub pipe_kind : Pipe → EpKind
pipe_kind Control = kind.Control
pipe_kind Bulk = kind.Bulk
pipe_kind InterruptOut = kind.Interrupt
