-- The accepted submits, how each ended, which are live, and which were asked back: by search of the past.
use Rattle.std.specs.Prelude.{ℕ, ◌==◌, ◌&&◌, nat_le, not, Bool, false, if◌then◌else◌, List, [], ◌∷◌, ◌++◌, length, filter, Option, Some, None, is_none}
use Rattle.std.specs.Option.{option_or}
use Rattle.packet_stream.specs.Folds.{rfold}
use Rattle.gate_history.specs.client.Verdict.{goes_by_id}
use Rattle.gate_history.specs.client.Ends.{End, has_id, ends}
use Rattle.gate_history.specs.step.Marks.{Submission, Effect, Opens, Waits, Unlinks, Answers, Mark}
use Rattle.gate_history.specs.state.Sides.{leaves, is_loss}

-- ---- the submits

abbrev pub opened : Effect → List Submission
opened (Opens s) = s ∷ []
opened (Waits s fill) = s ∷ []
opened _ = []

-- in order
abbrev pub accepted : List Mark → List Submission
accepted ms = rfold (λ before m. before ++ opened m.what) [] ms

-- ---- their ends

-- the first item from the submit on that ends it
abbrev pub end_of : List Mark → Submission → Option End
end_of [] s = None
end_of (m ∷ ms) s = option_or (end_of ms s) (if nat_le s.place (length ms) then ends m.what s else None)

abbrev pub is_live : List Mark → Submission → Bool
is_live ms s = is_none (end_of ms s)

abbrev pub live : List Mark → List Submission
live ms = filter (is_live ms) (accepted ms)

-- those that end at an item
abbrev pub ended : List Mark → Mark → List Submission
ended ms m = filter (λ s. is_live ms s && not (is_live (m ∷ ms) s)) (accepted (m ∷ ms))

-- ---- their unlinkers

-- a stream's request is taken back at once, and so has none
abbrev pub asks : Effect → Submission → Option ℕ
asks (Unlinks by target) s = if goes_by_id s.verdict && (s.request.seqnum == target) then Some by else None
asks _ s = None

-- the number of the first unlink that asks for it, after it and before its end
abbrev pub unlinker : List Mark → Submission → Option ℕ
unlinker [] s = None
unlinker (m ∷ ms) s = option_or (unlinker ms s) (if nat_le s.place (length ms) && is_live ms s then asks m.what s else None)

-- a live submit with its unlinker
pub record Pending : Type 0 where
  pub submit : Submission
  pub unlinker : Option ℕ

abbrev pub pending : List Mark → Submission → Pending
pending ms s = record { submit = s; unlinker = unlinker ms s }

-- ---- what a client leaves behind

abbrev pub is_answered : Effect → Submission → Bool
is_answered (Answers id outcome) s = has_id id s
is_answered _ s = false

-- what it has at the host is abandoned at its end, until the host has answered it or the device is lost
abbrev pub abandoned_after : Effect → List Submission → List Submission → List Submission
abandoned_after e live left =
    if leaves e then left ++ filter (λ s. goes_by_id s.verdict) live
    else if is_loss e then []
    else filter (λ s. not (is_answered e s)) left

abbrev pub abandoned : List Mark → List Submission
abandoned [] = []
abandoned (m ∷ ms) = abandoned_after m.what (live ms) (abandoned ms)
