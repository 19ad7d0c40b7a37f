-- What a guest waits for, in line: its requests and its resets, in order of arrival. A reset is performed with the
-- first request of endpoint 0 behind it. What a host keeps of its requests and of their marks is read off this line.
use Rattle.std.specs.Prelude.{ℕ, ◌==◌, ◌&&◌, not, Bool, true, if◌then◌else◌, List, [], ◌∷◌, ◌++◌, filter, Option, Some, None}
use Rattle.usb_base.specs.Endpoint.{is_control}
use Rattle.usb_base.specs.Status.{is_success}
use Rattle.usb_base.specs.declared.endpoint.EpTable.{EpTable}
use Rattle.usb_base.specs.declared.status.UsbStatus.{UsbStatus}
use Rattle.usb_base.specs.declared.transfer.Outcome.{Outcome}
use Rattle.usb_base.specs.declared.transfer.Transfer.{Transfer}
use Rattle.redir_wire.specs.declared.packet.RedirControl.{RedirControl}
use Rattle.redir_wire.specs.declared.packet.RedirControl.TheVariants as plain
use Rattle.redir_data.specs.declared.packet.RedirPacket.{RedirPacket}
use Rattle.redir_data.specs.declared.packet.RedirPacket.TheVariants.{Plain, Carrying}
use Rattle.control_route.specs.declared.route.Route.{Route}
use Rattle.control_route.specs.declared.route.Route.TheVariants as route
use Rattle.model_device.specs.Meaning.{Meaning}
use Rattle.redir_host.specs.declared.state.request.Asking.{Asking}
use Rattle.redir_host.specs.declared.state.request.Asking.TheVariants.{Asks}
use Rattle.redir_host.specs.declared.state.request.Form.{Form}
use Rattle.redir_host.specs.declared.state.request.Form.TheVariants as form
use Rattle.redir_host.specs.declared.state.request.Request.{Request}
use Rattle.redir_host.specs.guest.Asking.{asking_of, asking_plain, routed}
use Rattle.redir_host.specs.device.Changes.{change_of, is_touched}
use Rattle.redir_host.specs.guest.Packets.{request}
use Rattle.redir_host.specs.state.Queues.{is_data, queue_of}

-- A request has its place, how many packets the guest has sent before it, which tells it from others of its id.
pub data Waiting : Type 0 where
  Reset : Waiting
  Waits : (place id : ℕ) → (form : Form) → (transfer : Transfer) → Waiting

-- ---- who comes, behind all others

abbrev pub asked_line : ℕ → ℕ → Asking → List Waiting
asked_line place id (Asks f t) = Waits place id f t ∷ []
asked_line place id _ = []

abbrev pub plain_line : ℕ → ℕ → RedirControl → List Waiting
plain_line place id plain.Reset = Reset ∷ []
plain_line place id p = asked_line place id (asking_plain p)

abbrev pub packet_line : ℕ → ℕ → RedirPacket → List Waiting
packet_line place id (Plain p) = plain_line place id p
packet_line place id (Carrying d) = asked_line place id (asking_of d)

-- ---- what is read off it

-- its requests; one of endpoint 0 is marked where a reset stands before it, behind the one of endpoint 0 before it
abbrev pub queue_in : Bool → List Waiting → List Request
queue_in reset [] = []
queue_in reset (Reset ∷ line) = queue_in true line
queue_in reset (Waits place id f t ∷ line) = request (is_control t.ep && reset) id f t ∷ queue_in (not (is_control t.ep) && reset) line

-- a reset stands behind all of endpoint 0
abbrev pub reset_in : Bool → List Waiting → Bool
reset_in reset [] = reset
reset_in reset (Reset ∷ line) = reset_in true line
reset_in reset (Waits place id f t ∷ line) = reset_in (not (is_control t.ep) && reset) line

-- a request without its data
pub record Placed : Type 0 where
  pub place : ℕ
  pub id : ℕ
  pub form : Form
  pub ep : ℕ

abbrev pub placed : ℕ → ℕ → Form → ℕ → Placed
placed place id f ep = record { place = place; id = id; form = f; ep = ep }

abbrev pub waiting_in : List Waiting → List Placed
waiting_in [] = []
waiting_in (Reset ∷ line) = waiting_in line
waiting_in (Waits place id f t ∷ line) = placed place id f t.ep ∷ waiting_in line

-- ---- who leaves

-- the first request that moves data and has this id is cancelled
abbrev pub without_cancelled : ℕ → List Waiting → List Waiting
without_cancelled id [] = []
without_cancelled id (Reset ∷ line) = Reset ∷ without_cancelled id line
without_cancelled id (Waits place i f t ∷ line) = if is_data f && (i == id) then line else Waits place i f t ∷ without_cancelled id line

-- the first request of an endpoint is performed, that of endpoint 0 with the resets before it
abbrev pub without_performed : ℕ → List Waiting → List Waiting
without_performed ep [] = []
without_performed ep (Reset ∷ line) = if is_control ep then without_performed ep line else Reset ∷ without_performed ep line
without_performed ep (Waits place i f t ∷ line) = if queue_of t.ep == queue_of ep then line else Waits place i f t ∷ without_performed ep line

-- a change flushes the requests of the endpoints that it touches, by the table before it
abbrev pub stays_in : Route → EpTable → Waiting → Bool
stays_in r table Reset = true
stays_in r table (Waits place i f t) = not (is_touched r table t.ep)

abbrev pub flushed_in : List (Route × EpTable) → List Waiting → List Waiting
flushed_in [] line = line
flushed_in (c ∷ cs) line = flushed_in cs (filter (stays_in c.0 c.1) line)

-- ---- the changes that the device carried out as it performed a request, with the tables before them

abbrev pub changes_by : EpTable → Option Route → UsbStatus → List (Route × EpTable)
changes_by table None status = []
changes_by table (Some r) status = if is_success status then (r, table) ∷ [] else []

abbrev pub changes_of : {S : Type 0} → Meaning S → S → Option Route → Option (S × Outcome) → List (Route × EpTable)
changes_of m s r None = []
changes_of m s r (Some done) = changes_by (m.table s) r done.1.status

abbrev pub request_changes : {S : Type 0} → Meaning S → S → Request → List (Route × EpTable)
request_changes m s q = changes_of m s (change_of q.form) (m.perform s q.transfer)

-- the reset, and then the request
abbrev pub reset_changes : {S : Type 0} → Meaning S → S → Request → Option (S × Outcome) → List (Route × EpTable)
reset_changes m s q None = []
reset_changes m s q (Some done) = changes_by (m.table s) (Some route.Reset) done.1.status ++ request_changes m done.0 q

abbrev pub marked_changes : {S : Type 0} → Meaning S → S → Request → Form → List (Route × EpTable)
marked_changes m s q form.GetConfiguration = changes_of m s (Some route.Reset) (m.perform s (routed route.Reset))
marked_changes m s q _ = reset_changes m s q (m.perform s (routed route.Reset))

abbrev pub all_changes : {S : Type 0} → Meaning S → S → Request → List (Route × EpTable)
all_changes m s q = if q.reset then marked_changes m s q q.form else request_changes m s q
