-- A round's questions: how serving goes on behind an answer.
use Rattle.std.proofs.Common.{◌≡◌, ℕ, true, List, length, take, IfSome, Result, ◌∙◌, subst}
use Rattle.usb_base.specs.declared.side.Side.{Side}
use Rattle.gate_outside.specs.declared.turn.Polled.{Polled}
use Rattle.gate_outside.specs.Link.{Link, Door}
use Rattle.gate_outside.specs.Turns.{taken}
use Rattle.gate_outside.specs.Doors.{GivesTurns}
use Rattle.bridge_run.specs.events.Events.{PastLinkEvent}
use Rattle.bridge_run.specs.declared.course.rounds.Rounds.{Rounds}
use Rattle.bridge_run.specs.declared.course.serve_end.ServeEnd.{ServeEnd}
use Rattle.bridge_run.specs.events.Prescribed.{Prescribed}
use Rattle.bridge_run.specs.course.Course.{Course, Next}
use Rattle.bridge_run.specs.declared.course.polling.TheConstants.{POLL_LIMIT}
use Rattle.bridge_run.specs.course.Calls.{Goes, heard}
use Rattle.bridge_run.specs.course.Calls.{turned as passed}
use Rattle.bridge_run.specs.course.Outside.{Outside, outside, Written, Faults}
use Rattle.bridge_run.specs.inner.Keeping.{up_of}
use Rattle.bridge_run.specs.inner.Follows.{IsServing, RunsOn, HasFaults, setting, polls, behind}
use Rattle.bridge_run.proofs.lemmas.course.Course.{reaches-none, reaches-call, runs-then}
use Rattle.bridge_run.proofs.lemmas.course.Answers.{OneMoved, poll-call, up-is, moved-no_fault}
use Rattle.bridge_run.proofs.lemmas.course.Rest.{faults-then}

-- a side whose link is up is polled, and serving goes on from what that gave
pub polled-runs : {T : Type 0} → (result : Result T ServeEnd) (stands stands' : List PastLinkEvent → Type 0) (runs_out : List PastLinkEvent → PastLinkEvent → List ℕ → List ℕ → Type 0) (p : Prescribed) (side : Side) (k k1 k' : Rounds) (links : Side → Link) (door : Door) (w' : Outside) (out out' : Written) (c d : Course) (polled : Polled) (buf : List ℕ) (next : Next)
    → IsServing stands p k (outside links door) out c → up_of side k ≡ true → length buf ≡ POLL_LIMIT → IfSome (links side).turns (GivesTurns polled buf) → heard side (behind side) polled (take (taken polled) buf) (passed side c) ≡ Goes next d → k1.idle ≡ k.idle
    → RunsOn result stands' runs_out (setting p k1) k' w' out' (Goes next d) (behind side) → RunsOn result stands' runs_out (setting p k) k' w' out' (Goes (polls side) c) (behind side)
polled-runs result stands stands' runs_out p side k k1 k' links door w' out out' c d polled buf next f up len gives is idle run =
    let s = setting p k in
    let from = Goes (polls side) c in
    runs-then result stands' runs_out s k' w' out' from next d (behind side)
    (reaches-call s from (polls side) c (Goes next d) (reaches-none s from) (poll-call s side links door out c polled buf f.tells (up-is side stands p k (outside links door) out c true f up) len gives ∙ is))
    (subst (λ (n : ℕ). RunsOn result stands' runs_out (record { served = p; idle = n }) k' w' out' (Goes next d) (behind side)) idle run)

-- the poll was no fault
pub polled-faults : {T : Type 0} → (result : Result T ServeEnd) (side : Side) (links links' : Side → Link) (door door' : Door) (w : Outside) (sink sink' : Faults) → OneMoved side links links' door door' → (links' side).faults ≡ (links side).faults
    → HasFaults result (outside links' door') w sink sink' → HasFaults result (outside links door) w sink sink'
polled-faults result side links links' door door' w sink sink' moved same faults =
    faults-then result (outside links door) (outside links' door') w sink sink sink' (moved-no_fault side links links' door door' sink moved same) faults
