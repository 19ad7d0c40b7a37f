-- What becomes of the guest's requests: each waits in line, is answered, or is dropped with the device. Lists of items
-- have the latest first, lines and lists of requests and of answers the earliest.
use Rattle.std.specs.Prelude.{◌≡◌, ◌⊎◌, ℕ, ◌+◌, ◌==◌, ◌&&◌, not, Bool, true, false, if◌then◌else◌, List, [], ◌∷◌, ◌++◌, map, filter, Option, Some, None}
use Rattle.std.specs.Option.{option_to_list}
use Rattle.std.specs.List.{find}
use Rattle.usb_base.specs.Endpoint.{is_in_endpoint}
use Rattle.usb_base.specs.declared.endpoint.EpTable.{EpTable}
use Rattle.usb_base.specs.declared.status.UsbStatus.TheVariants as status
use Rattle.usb_base.specs.declared.transfer.Outcome.{Outcome}
use Rattle.redir_wire.specs.declared.packet.RedirControl.{RedirControl}
use Rattle.redir_wire.specs.declared.packet.RedirControl.TheVariants as plain
use Rattle.redir_data.specs.declared.packet.RedirData.{RedirData}
use Rattle.redir_data.specs.declared.packet.RedirData.TheVariants as moving
use Rattle.redir_data.specs.declared.packet.RedirPacket.{RedirPacket}
use Rattle.redir_data.specs.declared.packet.RedirPacket.TheVariants.{Plain, Carrying}
use Rattle.control_route.specs.declared.route.Route.{Route}
use Rattle.control_route.specs.declared.route.Route.TheVariants as route
use Rattle.model_device.specs.Meaning.{Meaning}
use Rattle.redir_host.specs.declared.state.host.Host.{Host}
use Rattle.redir_host.specs.declared.state.request.Asking.{Asking}
use Rattle.redir_host.specs.declared.state.request.Asking.TheVariants.{Nothing, Refuses, Asks}
use Rattle.redir_host.specs.declared.state.request.Form.{Form}
use Rattle.redir_host.specs.declared.state.request.Form.TheVariants as form
use Rattle.redir_host.specs.declared.state.request.Request.{Request}
use Rattle.redir_host.specs.device.Changes.{is_touched}
use Rattle.redir_host.specs.guest.Asking.{asking, asking_of, routed}
use Rattle.redir_host.specs.guest.Line.{Placed, Waiting, all_changes, asked_line, flushed_in, placed, plain_line, stays_in, waiting_in, without_cancelled, without_performed}
use Rattle.redir_host.specs.state.Queues.{is_at, is_data, queue_of}
use Rattle.redir_host.specs.step.Items.{Item, Asked, Wrong, Performs, Offers, Unplugs}
use Rattle.redir_host.specs.step.Machine.{run, all_given}
use Rattle.chapter9.specs.Standard.{ended}
use Rattle.redir_host.specs.write.Answers.{answer_by}

-- ---- the requests

-- how many packets the guest has sent
abbrev pub packets : List Item → ℕ
packets [] = 0
packets (Asked id p ∷ xs) = packets xs + 1
packets (_ ∷ xs) = packets xs

-- the device was taken away
abbrev pub is_gone : List Item → Bool
is_gone [] = false
is_gone (Unplugs ∷ xs) = true
is_gone (_ ∷ xs) = is_gone xs

abbrev pub request_in : ℕ → ℕ → Asking → List Placed
request_in place id Nothing = []
request_in place id (Refuses f ep) = placed place id f ep ∷ []
request_in place id (Asks f t) = placed place id f t.ep ∷ []

-- all that came
abbrev pub requests : List Item → List Placed
requests [] = []
requests (Asked id p ∷ xs) = requests xs ++ request_in (packets xs) id (asking p)
requests (_ ∷ xs) = requests xs

-- ---- the answers

pub data End : Type 0 where
  -- the device performed it, and has this configuration then
  ByDevice : (configuration : ℕ) → (outcome : Outcome) → End
  ByCancel : End
  -- a change flushed it
  ByChange : End
  -- it can't be asked
  AtOnce : End

pub record Answered : Type 0 where
  pub request : Placed
  pub by : End

abbrev pub ends : End → Placed → Answered
ends e p = record { request = p; by = e }

abbrev pub answer_to : Placed → End → ℕ × RedirPacket
answer_to p (ByDevice configuration o) = (p.id, answer_by configuration p.form p.ep o)
answer_to p ByCancel = (p.id, answer_by 0 p.form p.ep (ended status.Cancelled))
answer_to p ByChange = (p.id, answer_by 0 p.form p.ep (ended status.Cancelled))
answer_to p AtOnce = (p.id, answer_by 0 p.form p.ep (ended status.Inval))

abbrev pub answer_of : Answered → ℕ × RedirPacket
answer_of a = answer_to a.request a.by

-- all else that is sent tells of the device, of a stream, or is a stream's: those of IN endpoints
abbrev pub is_plain_answer : RedirControl → Bool
is_plain_answer (plain.ConfigurationStatus status configuration) = true
is_plain_answer (plain.AltStatus status interface alt) = true
is_plain_answer _ = false

abbrev pub is_data_answer : RedirData → Bool
is_data_answer (moving.Control ep request kind status value index told body) = true
is_data_answer (moving.Bulk ep status told stream body) = true
is_data_answer (moving.Iso ep status told body) = false
is_data_answer (moving.Interrupt ep status told body) = not (is_in_endpoint ep)

abbrev pub is_answer : ℕ × RedirPacket → Bool
is_answer (id, Plain p) = is_plain_answer p
is_answer (id, Carrying d) = is_data_answer d

-- ---- what an item makes of them

-- the line behind it, the requests that it answers, and those that it drops
pub record Became : Type 0 where
  pub line : List Waiting
  pub answered : List Answered
  pub dropped : List Placed

abbrev pub unchanged : List Waiting → Became
unchanged line = record { line = line; answered = []; dropped = [] }

abbrev pub is_in_queue_of : ℕ → Placed → Bool
is_in_queue_of ep p = queue_of p.ep == queue_of ep

abbrev pub is_cancelled : ℕ → Placed → Bool
is_cancelled id p = is_data p.form && (p.id == id)

-- one that can't be asked is answered at once
abbrev pub at_once : ℕ → ℕ → Asking → List Answered
at_once place id Nothing = []
at_once place id (Refuses f ep) = ends AtOnce (placed place id f ep) ∷ []
at_once place id (Asks f t) = []

-- what comes stands behind all others
abbrev pub lines_up : List Waiting → List Waiting → List Answered → Became
lines_up line new answered = record { line = line ++ new; answered = answered; dropped = [] }

abbrev pub by_cancel : ℕ → List Waiting → Became
by_cancel id line = record {
  line = without_cancelled id line;
  answered = map (ends ByCancel) (option_to_list (find (is_cancelled id) (waiting_in line)));
  dropped = [];
}

abbrev pub by_plain : ℕ → ℕ → RedirControl → List Waiting → Became
by_plain place id plain.Cancel line = by_cancel id line
by_plain place id p line = lines_up line (plain_line place id p) []

abbrev pub by_packet : ℕ → ℕ → RedirPacket → List Waiting → Became
by_packet place id (Plain p) line = by_plain place id p line
by_packet place id (Carrying d) line = lines_up line (asked_line place id (asking_of d)) (at_once place id (asking_of d))

-- changes flush, one after another, those of the endpoints that they touch
abbrev pub is_flushed : Route → EpTable → Placed → Bool
is_flushed r table p = is_touched r table p.ep

abbrev pub flushed_of : List (Route × EpTable) → List Waiting → List Placed
flushed_of [] line = []
flushed_of (c ∷ cs) line = filter (is_flushed c.0 c.1) (waiting_in line) ++ flushed_of cs (filter (stays_in c.0 c.1) line)

-- what came of a transfer, and the configuration behind it
abbrev pub came_of : {S : Type 0} → Meaning S → Option (S × Outcome) → Option (ℕ × Outcome)
came_of m None = None
came_of m (Some done) = Some (m.configuration done.0, done.1)

abbrev pub came_behind : {S : Type 0} → Meaning S → Request → Option (S × Outcome) → Option (ℕ × Outcome)
came_behind m q None = None
came_behind m q (Some done) = came_of m (m.perform done.0 q.transfer)

abbrev pub came_marked : {S : Type 0} → Meaning S → S → Request → Form → Option (ℕ × Outcome)
came_marked m s q form.GetConfiguration = came_of m (m.perform s (routed route.Reset))
came_marked m s q _ = came_behind m q (m.perform s (routed route.Reset))

-- what comes of a request, behind the reset where it is marked, or none where the device isn't ready for it
abbrev pub outcome_of : {S : Type 0} → Meaning S → S → Request → Option (ℕ × Outcome)
outcome_of m s q = if q.reset then came_marked m s q q.form else came_of m (m.perform s q.transfer)

-- the first of its queue is answered behind those that its changes flush
abbrev pub by_outcome : List (Route × EpTable) → ℕ → List Waiting → Option (ℕ × Outcome) → Became
by_outcome changes ep line None = unchanged line
by_outcome changes ep line (Some o) = record {
  line = flushed_in changes (without_performed ep line);
  answered = map (ends ByChange) (flushed_of changes (without_performed ep line))
      ++ map (ends (ByDevice o.0 o.1)) (option_to_list (find (is_in_queue_of ep) (waiting_in line)));
  dropped = [];
}

-- of the first request of the host's queue, with its mark
abbrev pub by_perform : {S : Type 0} → Meaning S → S → ℕ → List Waiting → Option Request → Became
by_perform m s ep line None = unchanged line
by_perform m s ep line (Some q) = by_outcome (all_changes m s q) ep line (outcome_of m s q)

-- with the device all that wait are dropped, and so is each that comes later
abbrev pub becomes : {S : Type 0} → Meaning S → Host S → Bool → ℕ → Item → List Waiting → Became
becomes m h gone place (Asked id p) line =
    if gone then record { line = line; answered = []; dropped = request_in place id (asking p) }
    else by_packet place id p line
becomes m h gone place (Wrong from reason) line = unchanged line
becomes m h gone place (Performs ep) line =
    if gone then unchanged line else by_perform m h.gadget ep line (find (is_at ep) h.queue)
becomes m h gone place (Offers ep) line = unchanged line
becomes m h gone place Unplugs line =
    if gone then unchanged line else record { line = []; answered = []; dropped = waiting_in line }

-- ---- behind all items

abbrev pub line : {S : Type 0} → Meaning S → S → List Item → List Waiting
line m s [] = []
line m s (x ∷ xs) = (becomes m (run m s xs) (is_gone xs) (packets xs) x (line m s xs)).line

abbrev pub waiting : {S : Type 0} → Meaning S → S → List Item → List Placed
waiting m s items = waiting_in (line m s items)

abbrev pub answered : {S : Type 0} → Meaning S → S → List Item → List Answered
answered m s [] = []
answered m s (x ∷ xs) =
    answered m s xs ++ (becomes m (run m s xs) (is_gone xs) (packets xs) x (line m s xs)).answered

abbrev pub dropped : {S : Type 0} → Meaning S → S → List Item → List Placed
dropped m s [] = []
dropped m s (x ∷ xs) = dropped m s xs ++ (becomes m (run m s xs) (is_gone xs) (packets xs) x (line m s xs)).dropped

abbrev pub requests_of : List Answered → List Placed
requests_of answered = map (λ (a : Answered). a.request) answered

abbrev pub is_performed_end : End → Bool
is_performed_end (ByDevice configuration outcome) = true
is_performed_end _ = false

abbrev pub is_performed : Answered → Bool
is_performed a = is_performed_end a.by

-- in the order in which the device performed them
abbrev pub performed_of : List Answered → List Placed
performed_of answered = requests_of (filter is_performed answered)

-- all answers that were sent
abbrev pub answers_sent : {S : Type 0} → Meaning S → S → List Item → List (ℕ × RedirPacket)
answers_sent m s items = filter is_answer (all_given (λ v. v.sent) m s items)

-- ---- streams

-- a packet that starts or stops a stream, by its id
abbrev pub stream_id_in : ℕ → RedirControl → List ℕ
stream_id_in id (plain.StartIso ep pkts_per_urb no_urbs) = id ∷ []
stream_id_in id (plain.StopIso ep) = id ∷ []
stream_id_in id (plain.StartInterrupt ep) = id ∷ []
stream_id_in id (plain.StopInterrupt ep) = id ∷ []
stream_id_in id _ = []

abbrev pub stream_id : ℕ → RedirPacket → List ℕ
stream_id id (Plain p) = stream_id_in id p
stream_id id (Carrying d) = []

-- those that came before the device was taken away
abbrev pub stream_ids : List Item → List ℕ
stream_ids [] = []
stream_ids (Asked id p ∷ xs) = stream_ids xs ++ (if is_gone xs then [] else stream_id id p)
stream_ids (_ ∷ xs) = stream_ids xs

abbrev pub is_plain_status : RedirControl → Bool
is_plain_status (plain.IsoStatus status ep) = true
is_plain_status (plain.InterruptStatus status ep) = true
is_plain_status _ = false

abbrev pub is_status : ℕ × RedirPacket → Bool
is_status (id, Plain p) = is_plain_status p
is_status (id, Carrying d) = false

abbrev pub ids_of : List (ℕ × RedirPacket) → List ℕ
ids_of packets = map (λ (p : ℕ × RedirPacket). p.0) packets

-- all statuses of streams that were sent
abbrev pub statuses_sent : {S : Type 0} → Meaning S → S → List Item → List (ℕ × RedirPacket)
statuses_sent m s items = filter is_status (all_given (λ v. v.sent) m s items)

-- it answers a request, tells of a stream, or is the device's own
abbrev pub IsKnown : ℕ × RedirPacket → Type 0
IsKnown p = (is_answer p ≡ true) ⊎ ((is_status p ≡ true) ⊎ (p.0 ≡ 0))

-- ---- words of the laws

abbrev pub is_placed : ℕ → Placed → Bool
is_placed place p = p.place == place

-- the queue has these requests, in this order
abbrev pub told_request : Request → ℕ × Form × ℕ
told_request q = (q.id, q.form, q.transfer.ep)

abbrev pub told_placed : Placed → ℕ × Form × ℕ
told_placed p = (p.id, p.form, p.ep)

-- the first list is the second without some of its elements
abbrev pub IsSublist : {A : Type 0} → List A → List A → Type 0
IsSublist [] ys = Unit {0}
IsSublist (x ∷ xs) [] = ⊥
IsSublist (x ∷ xs) (y ∷ ys) = ((x ≡ y) × IsSublist xs ys) ⊎ IsSublist (x ∷ xs) ys
