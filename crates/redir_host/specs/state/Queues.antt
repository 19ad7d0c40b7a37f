-- The queues of a host, kept as one list of the requests in order of arrival. Endpoint 0 has one queue for both
-- directions, every other endpoint address its own.
use Rattle.std.specs.Prelude.{ℕ, ◌==◌, ◌&&◌, not, Bool, true, false, if◌then◌else◌, List, [], ◌∷◌}
use Rattle.std.specs.List.{list_any}
use Rattle.usb_base.specs.Endpoint.{is_control}
use Rattle.redir_host.specs.declared.state.request.Form.{Form}
use Rattle.redir_host.specs.declared.state.request.Form.TheVariants as form
use Rattle.redir_host.specs.declared.state.request.Request.{Request}

abbrev pub queue_of : ℕ → ℕ
queue_of ep = if is_control ep then 0 else ep

abbrev pub is_at : ℕ → Request → Bool
is_at ep q = queue_of q.transfer.ep == queue_of ep

abbrev pub is_first_queue : Request → Bool
is_first_queue q = is_control q.transfer.ep

-- ---- cancels

-- it came by a packet that moves data, and only those are cancelled
abbrev pub is_data : Form → Bool
is_data (form.Control setup) = true
is_data (form.Bulk stream) = true
is_data form.Interrupt = true
is_data _ = false

abbrev pub is_cancelled_by : ℕ → Request → Bool
is_cancelled_by id q = is_data q.form && (q.id == id)

abbrev pub marked : Request → Request
marked q = record q { reset = true }

-- the first of endpoint 0's queue is marked
abbrev pub with_first_marked : List Request → List Request
with_first_marked [] = []
with_first_marked (q ∷ qs) = if is_first_queue q then marked q ∷ qs else q ∷ with_first_marked qs

-- the first that the cancel is for goes, and its mark goes to the request behind it
abbrev pub after_cancel : ℕ → List Request → List Request
after_cancel id [] = []
after_cancel id (q ∷ qs) = if is_cancelled_by id q then (if q.reset then with_first_marked qs else qs) else q ∷ after_cancel id qs

-- its mark goes to the next request that comes, since none is behind it
abbrev pub leaves_mark : ℕ → List Request → Bool
leaves_mark id [] = false
leaves_mark id (q ∷ qs) = if is_cancelled_by id q then q.reset && not (list_any is_first_queue qs) else leaves_mark id qs
