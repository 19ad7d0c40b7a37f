-- What becomes of an endpoint's first request where the device performs it.
use Rattle.std.specs.Prelude.{ℕ, Bool, if◌then◌else◌, Option, Some, None, option_map, option_and_then}
use Rattle.std.specs.List.{find}
use Rattle.std.specs.Option.{option_map_or}
use Rattle.usb_base.specs.Status.{is_success}
use Rattle.usb_base.specs.declared.endpoint.EpTable.{EpTable}
use Rattle.usb_base.specs.declared.transfer.Outcome.{Outcome}
use Rattle.control_route.specs.declared.route.Route.{Route}
use Rattle.control_route.specs.declared.route.Route.TheVariants as route
use Rattle.model_device.specs.Meaning.{Meaning}
use Rattle.redir_host.specs.declared.state.host.Host.{Host}
use Rattle.redir_host.specs.declared.write.note.Performed.{Performed}
use Rattle.redir_host.specs.declared.write.note.Performed.TheVariants.{Done, NotReady, Unplugged}
use Rattle.redir_host.specs.declared.state.request.Form.{Form}
use Rattle.redir_host.specs.declared.state.request.Form.TheVariants as form
use Rattle.redir_host.specs.declared.state.request.Request.{Request}
use Rattle.usb_base.specs.Firsts.{without_first}
use Rattle.redir_host.specs.state.Queues.{is_at}
use Rattle.redir_host.specs.guest.Asking.{routed}
use Rattle.redir_host.specs.write.Answers.{answer}
use Rattle.redir_host.specs.device.Changes.{change_of, changed, changed_by}
use Rattle.redir_host.specs.step.Moves.{Move, quiet, then_sends, behind}

-- the device did this for a request that is a change, or none: what the change does, and then the answer; the table is
-- that of before
abbrev pub done_by : {S : Type 0} → Meaning S → EpTable → Host S → Request → Option Route → Outcome → Move S
done_by m table h q change o =
    then_sends (changed_by m change table (is_success o.status) h) (answer (m.configuration h.gadget) q o)

-- none where the device isn't ready for it
abbrev pub does : {S : Type 0} → Meaning S → Host S → Request → Option Route → Option (S × Outcome) → Option (Move S)
does m h q r came = option_map (λ done. done_by m (m.table h.gadget) (record h { gadget = done.0 }) q r done.1) came

abbrev pub performs : {S : Type 0} → Meaning S → Host S → Request → Option (Move S)
performs m h q = does m h q (change_of q.form) (m.perform h.gadget q.transfer)

-- ---- with a reset

-- the device is reset, and then it performs the request
abbrev pub resets : {S : Type 0} → Meaning S → Host S → Request → Option (S × Outcome) → Option (Move S)
resets m h q None = None
resets {S = S} m h q (Some done) =
    let v : Move S = changed m route.Reset (m.table h.gadget) (is_success done.1.status) (record h { gadget = done.0 }) in
    option_map (behind v) (performs m v.host q)

-- the configuration after a reset is its answer, so that a get_configuration is performed by the reset alone
abbrev pub performs_marked : {S : Type 0} → Meaning S → Host S → Request → Form → Option (Move S)
performs_marked m h q form.GetConfiguration = does m h q (Some route.Reset) (m.perform h.gadget (routed route.Reset))
performs_marked m h q _ = resets m h q (m.perform h.gadget (routed route.Reset))

-- ---- an endpoint's first request

abbrev pub performs_any : {S : Type 0} → Meaning S → Host S → Request → Option (Move S)
performs_any m h q = if q.reset then performs_marked m h q q.form else performs m h q

abbrev pub with_id : {S : Type 0} → Request → Option (Move S) → Option (ℕ × Move S)
with_id q made = option_map (λ v. (q.id, v)) made

abbrev pub first_performed : {S : Type 0} → Meaning S → Host S → ℕ → Option Request → Option (ℕ × Move S)
first_performed m h ep first = option_and_then (λ q. with_id q (performs_any m (record h { queue = without_first (is_at ep) h.queue }) q)) first

-- the id of the request that is performed, and what that makes
abbrev pub performed : {S : Type 0} → Meaning S → Host S → ℕ → Option (ℕ × Move S)
performed m h ep = if h.unplugged then None else first_performed m h ep (find (is_at ep) h.queue)

abbrev pub perform_move_by : {S : Type 0} → Host S → Option (ℕ × Move S) → Move S
perform_move_by h made = option_map_or (λ r. r.1) made (quiet h)

abbrev pub perform_move : {S : Type 0} → Meaning S → Host S → ℕ → Move S
perform_move m h ep = perform_move_by h (performed m h ep)

-- ---- what is answered

abbrev pub told_performed_by : {S : Type 0} → Bool → Option (ℕ × Move S) → Performed
told_performed_by unplugged None = if unplugged then Unplugged else NotReady
told_performed_by unplugged (Some r) = Done r.0

abbrev pub told_performed : {S : Type 0} → Meaning S → Host S → ℕ → Performed
told_performed m h ep = told_performed_by h.unplugged (performed m h ep)
