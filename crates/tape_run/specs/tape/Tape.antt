-- A replay tape: the lines of a text, and the event that each says.
use Rattle.std.specs.Prelude.{ℕ, ◌==◌, Bool, true, false, not, if◌then◌else◌, List, [], ◌∷◌, Option, Some, None}
use Rattle.std.specs.List.{onto_first}
use Rattle.std.specs.Io.BufRead.{strip_last}
use Rattle.packet_show.specs.Line.{LF}
use Rattle.packet_show.specs.declared.tape.ReplayLine.{ReplayLine}
use Rattle.packet_show.specs.declared.tape.ReplayLine.TheVariants as line
use Rattle.gate_history.specs.step.Events.{PastEvent, ClientPiece, ClientEnd, HostPiece, HostEnd}

-- ---- lines

-- a text cut behind each LF: each line has its LF, but for a last one that has none
abbrev pub lines_of : List ℕ → List (List ℕ)
lines_of [] = []
lines_of (b ∷ bs) = if b == LF then (LF ∷ []) ∷ lines_of bs else onto_first b (lines_of bs)

-- a line without its LF
abbrev pub content : List ℕ → List ℕ
content line = strip_last LF line

-- ---- events

-- the event that a line says, or none
abbrev pub event_said : ReplayLine → Option PastEvent
event_said line.Skip = None
event_said (line.Client piece) = Some (ClientPiece piece)
event_said line.ClientEnd = Some ClientEnd
event_said (line.Host piece) = Some (HostPiece piece)
event_said line.HostEnd = Some HostEnd

-- nothing of the host comes after its end; after a client's comes the next client
abbrev pub host_ended : List PastEvent → Bool
host_ended [] = false
host_ended (HostEnd ∷ events) = true
host_ended (e ∷ events) = host_ended events

abbrev pub may_happen : List PastEvent → PastEvent → Bool
may_happen events (HostPiece b) = not (host_ended events)
may_happen events HostEnd = not (host_ended events)
may_happen events e = true
