-- What a packet asks of the device.
use Rattle.std.specs.Prelude.{ℕ, ◌==◌, ◌&&◌, not, nat_lt, nat_le, Bool, if◌then◌else◌, [], Some, None, unwrap_or}
use Rattle.usb_base.specs.Endpoint.{is_address, is_control, is_in_endpoint}
use Rattle.usb_base.specs.declared.setup.Setup.{Setup}
use Rattle.usb_base.specs.declared.transfer.Transfer.{Transfer}
use Rattle.redir_wire.specs.declared.packet.RedirControl.{RedirControl}
use Rattle.redir_wire.specs.declared.packet.RedirControl.TheVariants as plain
use Rattle.redir_data.specs.declared.packet.RedirData.{RedirData}
use Rattle.redir_data.specs.declared.packet.RedirData.TheVariants as moving
use Rattle.redir_data.specs.declared.packet.RedirPacket.{RedirPacket}
use Rattle.redir_data.specs.declared.packet.RedirPacket.TheVariants.{Plain, Carrying}
use Rattle.control_route.specs.declared.route.Route.{Route}
use Rattle.control_route.specs.declared.route.Route.TheVariants as route
use Rattle.model_device.specs.Submit.{control_transfer, setup_of}
use Rattle.usb_base.specs.declared.limits.TheConstants.{MAX_TRANSFER}
use Rattle.redir_host.specs.declared.state.request.Asking.{Asking}
use Rattle.redir_host.specs.declared.state.request.Asking.TheVariants.{Nothing, Refuses, Asks}
use Rattle.redir_host.specs.declared.state.request.Form.{Form}
use Rattle.redir_host.specs.declared.state.request.Form.TheVariants as form

-- an address of an endpoint other than 0
abbrev pub is_other : ℕ → Bool
is_other ep = is_address ep && not (is_control ep)

abbrev pub asked_if : Bool → Form → Transfer → Asking
asked_if can f t = if can then Asks f t else Refuses f t.ep

-- what one asks that moves data: endpoint 0 has the direction of bit 7 of bmRequestType; an interrupt endpoint gives
-- what it has by its stream
abbrev pub asking_of : RedirData → Asking
asking_of (moving.Control ep request kind status value index told body) =
    let setup : Setup = record { kind = kind; request = request; value = value; index = index; length = told } in
    asked_if (ep == (if nat_lt kind 128 then 0 else 128)) (form.Control setup) (record { ep = ep; setup = Some setup; wanted = told; body = body })
asking_of (moving.Bulk ep status told stream body) =
    asked_if (is_other ep && nat_le told MAX_TRANSFER) (form.Bulk stream) (record { ep = ep; setup = None; wanted = told; body = body })
asking_of (moving.Iso ep status told body) = Nothing
asking_of (moving.Interrupt ep status told body) =
    if is_in_endpoint ep then Nothing
    else asked_if (is_other ep) form.Interrupt (record { ep = ep; setup = None; wanted = told; body = body })

-- the transfer of a request that has a packet of its own: that of its route's setup, which sends the device no data
abbrev pub routed : Route → Transfer
routed r =
    let setup : Setup = unwrap_or (setup_of r) (record { kind = 0; request = 0; value = 0; index = 0; length = 0 }) in
    control_transfer setup setup.length []

-- what a packet asks that moves no data
abbrev pub asking_plain : RedirControl → Asking
asking_plain (plain.SetConfiguration configuration) =
    Asks (form.SetConfiguration configuration) (routed (route.SetConfig configuration))
asking_plain plain.GetConfiguration = Asks form.GetConfiguration (routed route.GetConfig)
asking_plain (plain.SetAlt interface alt) = Asks (form.SetAlt interface alt) (routed (route.SetAlt interface alt))
asking_plain (plain.GetAlt interface) = Asks (form.GetAlt interface) (routed (route.GetAlt interface))
asking_plain _ = Nothing

abbrev pub asking : RedirPacket → Asking
asking (Plain p) = asking_plain p
asking (Carrying d) = asking_of d
