-- The requests of a line, as the line changes.
use Rattle.std.proofs.Common.{◌≡◌, ℕ, ◌==◌, ◌&&◌, true, false, cond, not, Bool, List, [], ◌∷◌, ◌++◌, filter, refl, ap}
use Rattle.usb_base.specs.Endpoint.{is_control}
use Rattle.usb_base.specs.declared.endpoint.EpTable.{EpTable}
use Rattle.redir_wire.specs.declared.packet.RedirControl.{RedirControl}
use Rattle.redir_wire.specs.declared.packet.RedirControl.TheVariants as plain
use Rattle.control_route.specs.declared.route.Route.{Route}
use Rattle.redir_host.specs.device.Changes.{is_touched}
use Rattle.redir_host.specs.guest.Asking.{asking_plain}
use Rattle.redir_host.specs.guest.Line.{Placed, Waiting, Reset, Waits, placed, plain_line, stays_in, waiting_in, without_cancelled, without_performed}
use Rattle.usb_base.specs.Firsts.{without_first}
use Rattle.redir_host.specs.state.Queues.{is_data, queue_of}
use Rattle.redir_host.specs.step.Answered.{is_cancelled, is_flushed, is_in_queue_of, request_in}

pub placed-append : (l k : List Waiting) → waiting_in (l ++ k) ≡ waiting_in l ++ waiting_in k
placed-append [] k = refl
placed-append (Reset ∷ l) k = placed-append l k
placed-append (Waits p i f t ∷ l) k = ap (λ (ps : List Placed). placed p i f t.ep ∷ ps) (placed-append l k)

-- what moves no data is never refused
pub placed-plain : (place id : ℕ) (p : RedirControl) → waiting_in (plain_line place id p) ≡ request_in place id (asking_plain p)
placed-plain place id plain.Reset = refl
placed-plain place id (plain.SetConfiguration configuration) = refl
placed-plain place id plain.GetConfiguration = refl
placed-plain place id (plain.SetAlt interface alt) = refl
placed-plain place id (plain.GetAlt interface) = refl
placed-plain place id _ = refl

pub placed-cancelled : (id : ℕ) (l : List Waiting) → waiting_in (without_cancelled id l) ≡ without_first (is_cancelled id) (waiting_in l)
placed-cancelled id [] = refl
placed-cancelled id (Reset ∷ l) = placed-cancelled id l
placed-cancelled id (Waits p i f t ∷ l) =
    let left = without_first (is_cancelled id) (waiting_in l) in
    elim (is_data f && (i == id)) as (λ (b : Bool). waiting_in (cond b l (Waits p i f t ∷ without_cancelled id l)) ≡ cond b (waiting_in l) (placed p i f t.ep ∷ left)) [
      | true ↦ refl
      | false ↦ ap (λ (ps : List Placed). placed p i f t.ep ∷ ps) (placed-cancelled id l)
    ]

pub placed-performed : (ep : ℕ) (l : List Waiting) → waiting_in (without_performed ep l) ≡ without_first (is_in_queue_of ep) (waiting_in l)
placed-performed ep [] = refl
placed-performed ep (Reset ∷ l) =
    let left = without_first (is_in_queue_of ep) (waiting_in l) in
    elim (is_control ep) as (λ (b : Bool). waiting_in (cond b (without_performed ep l) (Reset ∷ without_performed ep l)) ≡ left) [
      | true ↦ placed-performed ep l
      | false ↦ placed-performed ep l
    ]
placed-performed ep (Waits p i f t ∷ l) =
    let left = without_first (is_in_queue_of ep) (waiting_in l) in
    elim (queue_of t.ep == queue_of ep) as (λ (b : Bool). waiting_in (cond b l (Waits p i f t ∷ without_performed ep l)) ≡ cond b (waiting_in l) (placed p i f t.ep ∷ left)) [
      | true ↦ refl
      | false ↦ ap (λ (ps : List Placed). placed p i f t.ep ∷ ps) (placed-performed ep l)
    ]

-- those that a change leaves
abbrev pub is_left : Route → EpTable → Placed → Bool
is_left r table p = not (is_flushed r table p)

pub placed-left : (r : Route) (table : EpTable) (l : List Waiting) → waiting_in (filter (stays_in r table) l) ≡ filter (is_left r table) (waiting_in l)
placed-left r table [] = refl
placed-left r table (Reset ∷ l) = placed-left r table l
placed-left r table (Waits p i f t ∷ l) =
    let kept = filter (stays_in r table) l in
    let left = filter (is_left r table) (waiting_in l) in
    elim (not (is_touched r table t.ep)) as (λ (b : Bool). waiting_in (cond b (Waits p i f t ∷ kept) kept) ≡ cond b (placed p i f t.ep ∷ left) left) [
      | true ↦ ap (λ (ps : List Placed). placed p i f t.ep ∷ ps) (placed-left r table l)
      | false ↦ placed-left r table l
    ]
