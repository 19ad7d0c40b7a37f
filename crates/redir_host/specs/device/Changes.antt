-- What a change does: a new configuration, an alternate setting, or a reset. Which endpoints it touches goes by the
-- device's table before it; none touches endpoint 0.
use Rattle.std.specs.Prelude.{ℕ, ◌&&◌, not, Bool, if◌then◌else◌, [], ◌++◌, map, filter, Option, Some, None}
use Rattle.std.specs.Option.{option_map_or}
use Rattle.usb_base.specs.Endpoint.{is_control, row_of}
use Rattle.usb_base.specs.declared.endpoint.EpTable.{EpTable}
use Rattle.control_route.specs.Changes.{touches}
use Rattle.control_route.specs.declared.route.Route.{Route}
use Rattle.control_route.specs.declared.route.Route.TheVariants as route
use Rattle.model_device.specs.Meaning.{Meaning}
use Rattle.redir_host.specs.declared.state.host.Host.{Host}
use Rattle.redir_host.specs.declared.state.request.Form.{Form}
use Rattle.redir_host.specs.declared.state.request.Form.TheVariants as form
use Rattle.redir_host.specs.declared.state.request.Request.{Request}
use Rattle.redir_host.specs.declared.state.running.Running.{Running}
use Rattle.redir_host.specs.write.Answers.{cancelled}
use Rattle.redir_host.specs.device.Facts.{facts_of}
use Rattle.redir_host.specs.step.Moves.{Move, quiet}

-- a control packet is never a change here, whatever its setup
abbrev pub change_of : Form → Option Route
change_of (form.SetConfiguration configuration) = Some (route.SetConfig configuration)
change_of (form.SetAlt interface alt) = Some (route.SetAlt interface alt)
change_of _ = None

abbrev pub is_touched : Route → EpTable → ℕ → Bool
is_touched r table ep = not (is_control ep) && touches r (row_of table ep).interface

abbrev pub touched : Route → EpTable → Request → Bool
touched r table q = is_touched r table q.transfer.ep

abbrev pub stays : Route → EpTable → Request → Bool
stays r table q = not (touched r table q)

abbrev pub runs_on : Route → EpTable → Running → Bool
runs_on r table s = not (is_touched r table s.ep)

-- with success the requests of the endpoints that it touches are answered cancelled, in order of arrival, and their
-- streams end
abbrev pub flushed : {S : Type 0} → Route → EpTable → Host S → Host S
flushed r table h = record h { queue = filter (stays r table) h.queue; running = filter (runs_on r table) h.running }

abbrev pub cleared : {S : Type 0} → Bool → Route → EpTable → Host S → Move S
cleared success r table h =
    if success then record { host = flushed r table h; sent = map cancelled (filter (touched r table) h.queue); notes = [] }
    else quiet h

-- and then, also where the device refuses it, the facts are told as they are now
abbrev pub changed : {S : Type 0} → Meaning S → Route → EpTable → Bool → Host S → Move S
changed {S = S} m r table success h =
    let v : Move S = cleared success r table h in
    record v { sent = v.sent ++ facts_of h.guest.caps m h.gadget }

-- what a request does that is a change, or none
abbrev pub changed_by : {S : Type 0} → Meaning S → Option Route → EpTable → Bool → Host S → Move S
changed_by m change table success h = option_map_or (λ r. changed m r table success h) change (quiet h)
