-- The requests and answers that both sides know, and how they stand at the host and at the device attached directly.
use Rattle.std.specs.Prelude.{ℕ, Bool, true, false, if◌then◌else◌, List, [], ◌∷◌, ◌++◌, map, filter, unwrap_or}
use Rattle.usb_base.specs.declared.transfer.Outcome.{Outcome}
use Rattle.usb_base.specs.declared.transfer.Transfer.{Transfer}
use Rattle.control_route.specs.declared.route.Route.{Route}
use Rattle.control_route.specs.declared.route.Route.TheVariants as route
use Rattle.redir_host.specs.guest.Asking.{routed}
use Rattle.redir_host.specs.guest.Line.{Waiting as InLine, Reset, Waits}
use Rattle.redir_host.specs.declared.state.request.Form.{Form}
use Rattle.redir_host.specs.declared.state.request.Form.TheVariants as form
use Rattle.redir_host.specs.declared.state.request.Request.{Request as HostRequest}
use Rattle.gate_history.specs.step.Marks.{Submission}
use Rattle.gate_history.specs.write.Packets.{no_setup}
use Rattle.gate_history.specs.declared.request.Request.{Request}
use Rattle.gate_history.specs.client.Submits.{Pending}
use Rattle.gate_history.specs.declared.verdict.Pipe.{Pipe}
use Rattle.gate_history.specs.declared.verdict.Pipe.TheVariants.{Control, Bulk, InterruptOut}
use Rattle.gate_history.specs.declared.verdict.Verdict.{Verdict}
use Rattle.gate_history.specs.declared.verdict.Verdict.TheVariants.{Wire, Routed}
use Rattle.gate_history.specs.client.Verdict.{goes_by_id}
use Rattle.direct_device.specs.Direct.{Live, Load, Ran, Waiting, normal_of, seen_of}

-- ---- how a submit stands at the host

-- the packet by which it is asked for; of a reset, which has no answer of its own, the one behind it that has
abbrev pub route_form : Route → Form
route_form (route.SetConfig configuration) = form.SetConfiguration configuration
route_form (route.SetAlt interface alt) = form.SetAlt interface alt
route_form (route.GetAlt interface) = form.GetAlt interface
route_form _ = form.GetConfiguration

abbrev pub pipe_form : Pipe → Transfer → Form
pipe_form Control t = form.Control (unwrap_or t.setup no_setup)
pipe_form Bulk t = form.Bulk 0
pipe_form InterruptOut t = form.Interrupt

abbrev pub form_by : Request → Verdict → Form
form_by r (Routed x) = route_form x
form_by r (Wire pipe) = pipe_form pipe r.transfer
form_by r _ = form.Interrupt

abbrev pub form_of : Load → Form
form_of l = form_by l.request l.verdict

abbrev pub is_reset_route : Route → Bool
is_reset_route route.Reset = true
is_reset_route _ = false

abbrev pub resets : Verdict → Bool
resets (Routed x) = is_reset_route x
resets _ = false

abbrev pub queued_transfer : Load → Transfer
queued_transfer l = if resets l.verdict then routed route.GetConfig else normal_of l

-- ---- requests and answers as both sides know them

-- one that wasn't performed
pub record Entry : Type 0 where
  pub id : ℕ
  pub load : Load
  pub asked : Bool

-- an answer under way: what came of it, and the configuration that was set then
pub record Coming : Type 0 where
  pub id : ℕ
  pub load : Load
  pub configuration : ℕ
  pub outcome : Outcome

-- one that the host owes an answer, whoever waits for it
pub record Debt : Type 0 where
  pub id : ℕ
  pub load : Load

abbrev pub at_queue : Entry → HostRequest
at_queue e = record { id = e.id; form = form_of e.load; transfer = queued_transfer e.load; reset = resets e.load.verdict }

-- in line, a reset stands before the packet that asks for its answer; the place is that of `in_line`
abbrev pub at_host : Entry → List InLine
at_host e = (if resets e.load.verdict then Reset ∷ [] else []) ++ Waits 0 e.id (form_of e.load) (queued_transfer e.load) ∷ []

abbrev pub at_device : Entry → Waiting
at_device e = record { load = e.load; asked = e.asked }

abbrev pub ran_of : Coming → Ran
ran_of c = record { load = c.load; outcome = seen_of c.load c.configuration c.outcome }

abbrev pub load_of : Submission → Load
load_of s = record { request = s.request; verdict = s.verdict }

abbrev pub live_of : Pending → Live
live_of p = record { load = load_of p.submit; unlinker = p.unlinker }

abbrev pub debts_of : List Submission → List Debt
debts_of ss = map (λ (s : Submission). record { id = s.id; load = load_of s }) (filter (λ (s : Submission). goes_by_id s.verdict) ss)
