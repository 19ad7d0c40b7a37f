-- What a poll asks of its connection, and what it makes of the answer.
use Rattle.std.specs.Prelude.{◌≡◌, ◌<◌, ◌⊎◌, ℕ, min, nat_lt, if◌then◌else◌, Bool, true, false, List, [], ◌∷◌, length, take, drop, Some, Result}
use Rattle.std.specs.declared.io.Error.{Error}
use Rattle.gate_outside.specs.declared.turn.Polled.{Polled}
use Rattle.gate_outside.specs.declared.turn.Polled.TheVariants.{Took, NotYet, Ended}
use Rattle.gate_sockets.specs.declared.limits.TheConstants.{RESTS}
use Rattle.gate_sockets.specs.declared.step.Step.{Step}
use Rattle.gate_sockets.specs.declared.step.Step.TheVariants.{Moved, Blocked, Cut, Broken}
use Rattle.gate_sockets.specs.State.{State, closed, idled}
use Rattle.gate_sockets.specs.Step.{step_for}

-- how many polls pass a link over of which a read has taken all that was there, or had to wait, where the system tells
-- of nothing before
abbrev pub most_rests : ℕ
most_rests = RESTS

-- the link's state once it was read
abbrev pub read_to : {S : Type 0} → S → State S → State S
read_to stream state = record state { stream = Some stream; rests = 0 }

-- where nothing has come, a link that has broken has ended
abbrev pub Waits : {S : Type 0} → Bool → Polled → State S → State S → Type 0
Waits true polled old new = (polled ≡ Ended) × (new ≡ closed old)
Waits false polled old new = (polled ≡ NotYet) × (new ≡ idled (record old { rests = most_rests }))

-- bytes that don't fill the room are all that was there
abbrev pub took : {S : Type 0} → ℕ → ℕ → State S → State S
took n room state = if nat_lt n room then record state { rests = most_rests } else state

-- what a read means that had so much room: the bytes that it gave, an end, or nothing yet. It never fails: where the
-- link has broken, it has ended.
abbrev pub Hears : {S : Type 0} → Step → ℕ → Polled → State S → State S → Type 0
Hears (Moved n) room polled old new = (n ≡ 0 → (polled ≡ Ended) × (new ≡ closed old)) × (0 < n → (polled ≡ Took n) × (new ≡ took n room old))
Hears Blocked room polled old new = Waits old.broken polled old new
Hears Cut room polled old new = (polled ≡ NotYet) × (new ≡ idled old)
Hears (Broken e) room polled old new = (polled ≡ Ended) × (new ≡ closed old)

-- the connection was read once, into this buffer, and gave this answer
abbrev pub Reads : {S : Type 0} → (S → List ℕ → Result ℕ Error → S → Type 0) → List ℕ → Result ℕ Error → S → State S → Type 0
Reads {S = S} gives buf answer new old = (stream : S) × ((old.stream ≡ Some stream) × gives stream buf answer new)

-- the link is passed over, as long after a read that had to wait, or that took all that was there, as it may be
pub record PassesOver {S : Type 0} (old new : State S) : Type 0 where
  pub whole : old.broken ≡ false
  pub left : new.rests < old.rests
  pub some : 0 < new.rests
  pub rest : new ≡ record old { rests = new.rests }

pub record Passed {S : Type 0} (polled : Polled) (old new : State S) : Type 0 where
  pub answer : polled ≡ NotYet
  pub over : State S
  pub passes : PassesOver old over
  pub rest : new ≡ idled over

-- the connection was read once, and this is what that means
pub record Heard {S : Type 0} (gives : S → List ℕ → Result ℕ Error → S → Type 0) (polled : Polled) (buf : List ℕ) (old new : State S) : Type 0 where
  pub answer : Result ℕ Error
  pub stream : S
  pub reads : Reads gives buf answer stream old
  pub hears : Hears (step_for answer) (length buf) polled (read_to stream old) new

-- what was read ahead is given
pub record GivesAhead {S : Type 0} (polled : Polled) (buf : List ℕ) (ahead : List ℕ) (old new : State S) : Type 0 where
  pub count : polled ≡ Took (min (length ahead) (length buf))
  pub bytes : take (min (length ahead) (length buf)) buf ≡ take (min (length ahead) (length buf)) ahead
  pub rest : new ≡ record old { ahead = drop (min (length ahead) (length buf)) ahead }

-- what was read ahead comes first, before bytes that came later, and before the end
abbrev pub PollsBehind : {S : Type 0} → (S → List ℕ → Result ℕ Error → S → Type 0) → List ℕ → Polled → List ℕ → State S → State S → Type 0
PollsBehind gives [] polled buf old new = Heard gives polled buf old new ⊎ Passed polled old new
PollsBehind gives (b ∷ ahead) polled buf old new = GivesAhead polled buf (b ∷ ahead) old new

abbrev pub PollSteps : {S : Type 0} → (S → List ℕ → Result ℕ Error → S → Type 0) → Polled → List ℕ → State S → State S → Type 0
PollSteps gives polled buf old new = PollsBehind gives old.ahead polled buf old new
