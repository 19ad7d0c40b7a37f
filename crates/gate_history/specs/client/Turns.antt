-- How the submits of a number and their ends follow each other, and which packets to a client answer which submit.
use Rattle.usbip_urb.specs.Errors.{is_failed}
use Rattle.std.specs.Prelude.{ℕ, ◌&&◌, not, Bool, true, false, if◌then◌else◌, List, [], ◌∷◌, ◌++◌, map, filter, Option, Some, None}
use Rattle.usbip_urb.specs.declared.packet.UrbPacket.TheVariants as urb
use Rattle.usbip_urb.specs.declared.client.ClientPacket.{ClientPacket}
use Rattle.usbip_urb.specs.declared.client.ClientPacket.TheVariants.{Urb}
use Rattle.gate_history.specs.client.Verdict.{is_wire}
use Rattle.gate_history.specs.step.Marks.{Submission, Effect, Mark}
use Rattle.gate_history.specs.client.Submits.{opened, end_of, ended, unlinker}
use Rattle.gate_history.specs.client.Ends.{End, ByLoss, ByAnswer, ByUnlink, is_cancelled}
use Rattle.gate_history.specs.state.State.{is_number}
use Rattle.gate_history.specs.write.Notes.{is_by_client}

-- ---- of one number, the latest first

pub data Turn : Type 0 where
  Begin : Turn
  Finish : Turn

abbrev pub begins : Effect → ℕ → List Turn
begins e n = map (λ s. Begin) (filter (is_number n) (opened e))

abbrev pub finishes : List Mark → Mark → ℕ → List Turn
finishes ms m n = map (λ s. Finish) (filter (is_number n) (ended ms m))

abbrev pub turns : List Mark → ℕ → List Turn
turns [] n = []
turns (m ∷ ms) n = finishes ms m n ++ (begins m.what n ++ turns ms n)

-- a submit is first, and each other turn is of the other kind than the one before it; the flag says that the last one
-- is a submit
abbrev pub Alternate : Bool → List Turn → Type 0
Alternate false [] = Unit {0}
Alternate true [] = ⊥
Alternate true (Begin ∷ ts) = Alternate false ts
Alternate false (Finish ∷ ts) = Alternate true ts
Alternate true (Finish ∷ ts) = ⊥
Alternate false (Begin ∷ ts) = ⊥

-- ---- of all numbers

-- what answers a submit: its completion, which has its number, or an unlink that won, which has the unlink's
pub data Answer : Type 0 where
  Completed : (number : ℕ) → Answer
  Unlinked : (by : ℕ) → Answer

-- the word to an unlink that came too late answers no submit
abbrev pub answers_in : ClientPacket → List Answer
answers_in (Urb (urb.RetSubmit r)) = Completed r.head.seqnum ∷ []
answers_in (Urb (urb.RetUnlink r)) = if is_failed r.status then Unlinked r.head.seqnum ∷ [] else []
answers_in _ = []

-- the ends that aren't a client's leaving
abbrev pub answered_ends : List Mark → List Submission
answered_ends [] = []
answered_ends (m ∷ ms) = answered_ends ms ++ filter (λ s. not (is_by_client (end_of (m ∷ ms) s))) (ended ms m)

-- the ends with which an unlink wins: a loss, and the answer that its transfer was cancelled
abbrev pub wins : Submission → Option End → Bool
wins s (Some ByLoss) = true
wins s (Some (ByAnswer outcome)) = is_wire s.verdict && is_cancelled outcome.status
wins s _ = false

-- an unlink that takes back a request which waits for a stream's packets is its answer
abbrev pub answer_by : Submission → Option ℕ → Option End → Answer
answer_by s by (Some (ByUnlink other)) = Unlinked other
answer_by s None end = Completed s.request.seqnum
answer_by s (Some by) end = if wins s end then Unlinked by else Completed s.request.seqnum

-- the one answer of a submit that has ended
abbrev pub answer_of : List Mark → Submission → Answer
answer_of ms s = answer_by s (unlinker ms s) (end_of ms s)
