-- How requests are answered: by the packet that they came by, with the status, the length and the data of what came
-- of them, or by the status packet of their kind.
use Rattle.std.specs.Prelude.{ℕ, if◌then◌else◌, slice_index}
use Rattle.usb_base.specs.Status.{status_byte, is_success}
use Rattle.usb_base.specs.declared.status.UsbStatus.TheVariants.{Cancelled}
use Rattle.usb_base.specs.declared.transfer.Outcome.{Outcome}
use Rattle.redir_wire.specs.declared.packet.RedirControl.TheVariants as plain
use Rattle.redir_data.specs.declared.packet.RedirData.TheVariants as moving
use Rattle.redir_data.specs.declared.packet.RedirPacket.{RedirPacket}
use Rattle.redir_data.specs.declared.packet.RedirPacket.TheVariants.{Plain, Carrying}
use Rattle.chapter9.specs.Standard.{ended}
use Rattle.redir_host.specs.declared.state.request.Form.{Form}
use Rattle.redir_host.specs.declared.state.request.Form.TheVariants as form
use Rattle.redir_host.specs.declared.state.request.Request.{Request}

-- the setting that a get found: the first byte that came, and 0 where none did or the device refused
abbrev pub alt_in : Outcome → ℕ
alt_in o = if is_success o.status then slice_index o.body 0 else 0

-- to a request of this form and endpoint, after which the device has this configuration
abbrev pub answer_by : ℕ → Form → ℕ → Outcome → RedirPacket
answer_by configuration (form.Control s) ep o = Carrying (moving.Control ep s.request s.kind (status_byte o.status) s.value s.index o.done o.body)
answer_by configuration (form.Bulk stream) ep o = Carrying (moving.Bulk ep (status_byte o.status) o.done stream o.body)
answer_by configuration form.Interrupt ep o = Carrying (moving.Interrupt ep (status_byte o.status) o.done o.body)
answer_by configuration (form.SetConfiguration asked) ep o = Plain (plain.ConfigurationStatus (status_byte o.status) configuration)
answer_by configuration form.GetConfiguration ep o = Plain (plain.ConfigurationStatus (status_byte o.status) configuration)
answer_by configuration (form.SetAlt interface alt) ep o = Plain (plain.AltStatus (status_byte o.status) interface alt)
answer_by configuration (form.GetAlt interface) ep o = Plain (plain.AltStatus (status_byte o.status) interface (alt_in o))

abbrev pub answer : ℕ → Request → Outcome → ℕ × RedirPacket
answer configuration q o = (q.id, answer_by configuration q.form q.transfer.ep o)

-- only requests that move data are answered so, and their answers tell no configuration
abbrev pub cancelled : Request → ℕ × RedirPacket
cancelled q = answer 0 q (ended Cancelled)
