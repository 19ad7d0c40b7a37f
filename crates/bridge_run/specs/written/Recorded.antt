-- The lines of an event on a tape: what came, and a comment for each refusal. When they are written.
use Rattle.std.specs.Prelude.{ℕ, ◌==◌, ltb, ◌&&◌, ◌||◌, not, Bool, if◌then◌else◌, List, [], ◌++◌, length}
use Rattle.std.specs.List.{flat_map}
use Rattle.usb_base.specs.declared.refusal.Refusal.{Refusal}
use Rattle.usb_base.specs.Lists.{is_empty}
use Rattle.session_tape.specs.Lines.{piece_line, end_line, refusal_comment}
use Rattle.bridge_run.specs.declared.written.recording.TheConstants.{WAITING_LIMIT}
use Rattle.bridge_run.specs.events.Events.{PastLinkEvent, SidePiece, SideEnd}
use Rattle.bridge_run.specs.course.Course.{Course}

-- a client that comes, or is quiet, has no line
abbrev pub event_line : PastLinkEvent → List ℕ
event_line (SidePiece side b) = piece_line side b
event_line (SideEnd side) = end_line side
event_line e = []

abbrev pub lines_of : PastLinkEvent → List Refusal → List ℕ
lines_of e refusals = event_line e ++ flat_map refusal_comment refusals

-- ---- when lines are written

-- an event sends bytes to a side, refuses one, or lets the client go
abbrev pub sends_any : List ℕ → List ℕ → List Refusal → Bool → Bool
sends_any to_client to_host refusals lets_go = not (is_empty to_client) || (not (is_empty to_host) || (not (is_empty refusals) || lets_go))

-- no link is up, or all is taken that may be
abbrev pub is_last : Course → Bool
is_last c = (not c.client_up && not c.host_up) || (c.left == 0)

-- as many bytes wait as are written at the latest
abbrev pub is_full : List ℕ → Bool
is_full lines = not (ltb (length lines) WAITING_LIMIT)

-- lines that are due are written, and then none wait
abbrev pub written_if : Bool → List ℕ → List ℕ
written_if due lines = if due then lines else []

abbrev pub waiting_if : Bool → List ℕ → List ℕ
waiting_if due lines = if due then [] else lines
