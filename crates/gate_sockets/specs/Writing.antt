-- What a write asks of its connection, and what is read ahead while it waits.
use Rattle.std.specs.Prelude.{◌≡◌, ◌<◌, ◌≤◌, ◌+◌, ℕ, Bool, true, false, List, [], length, take, Option, Some, None, Result, Ok, Err}
use Rattle.std.specs.declared.io.Error.{Error}
use Rattle.gate_sockets.specs.declared.limits.TheConstants.{TRIES}
use Rattle.gate_sockets.specs.declared.step.Step.{Step}
use Rattle.gate_sockets.specs.declared.step.Step.TheVariants.{Moved, Blocked, Cut, Broken}
use Rattle.gate_sockets.specs.Calls.{Call, Calls, came, went, tries, broken}
use Rattle.gate_sockets.specs.State.{State, broke, faulted}

-- how often a write is tried that can't go on, the last try among them
abbrev pub most_tries : ℕ
most_tries = TRIES + 1

-- the connection took these calls, one after the other: what the reads gave stands behind what was read ahead, and an
-- error has broken the link
pub record Called {S : Type 0} (reads writes : S → List ℕ → Result ℕ Error → S → Type 0) (calls : List Call) (old new : State S) : Type 0 where
  pub chain : Calls reads writes calls old.stream new.stream
  pub rest : new ≡ record old { stream = new.stream; ahead = came calls old.ahead; broken = broken calls old.broken }

-- a write was tried so often, and nothing went; the link may have been read on, and found broken
pub record Waited {S : Type 0} (reads writes : S → List ℕ → Result ℕ Error → S → Type 0) (tried : ℕ) (old new : State S) : Type 0 where
  pub calls : List Call
  pub called : Called reads writes calls old new
  pub none : went calls [] ≡ []
  pub count : tries calls 0 ≡ tried

-- a link is read on behind what was read ahead, and may be found broken
abbrev pub ReadOn : {S : Type 0} → (S → List ℕ → Result ℕ Error → S → Type 0) → (S → List ℕ → Result ℕ Error → S → Type 0) → State S → State S → Type 0
ReadOn reads writes old new = Waited reads writes 0 old new

-- so many bytes of the piece are told as written, and these went: as many, or none where the link has broken, which
-- takes the whole piece as the system's buffer would
abbrev pub Sent : ℕ → List ℕ → List ℕ → Bool → Type 0
Sent n piece bytes true = (n ≡ length piece) × (bytes ≡ [])
Sent n piece bytes false = bytes ≡ take n piece

-- a front of the piece, at least one byte of it, is told as written
pub record WritesFront {S : Type 0} (reads writes : S → List ℕ → Result ℕ Error → S → Type 0) (n : ℕ) (piece : List ℕ) (old new : State S) : Type 0 where
  pub some : 0 < n
  pub within : n ≤ length piece
  pub calls : List Call
  pub called : Called reads writes calls old new
  pub sent : Sent n piece (went calls []) new.broken

-- a write that was tried once: on a link that isn't broken it may have to wait
abbrev pub WroteOnce : {S : Type 0} → (S → List ℕ → Result ℕ Error → S → Type 0) → (S → List ℕ → Result ℕ Error → S → Type 0) → Option ℕ → List ℕ → State S → State S → Type 0
WroteOnce reads writes (Some n) piece old new = WritesFront reads writes n piece old new
WroteOnce reads writes None piece old new = Waited reads writes 1 old new × (new.broken ≡ false)

-- a write that fails was tried as often as it may be, on a link that isn't broken
pub record GivesUp {S : Type 0} (reads writes : S → List ℕ → Result ℕ Error → S → Type 0) (old new : State S) : Type 0 where
  pub over : State S
  pub waited : Waited reads writes most_tries old over
  pub whole : over.broken ≡ false
  pub rest : new ≡ faulted over

-- what a write does to its link
abbrev pub WriteSteps : {S E : Type 0} → (S → List ℕ → Result ℕ Error → S → Type 0) → (S → List ℕ → Result ℕ Error → S → Type 0) → Result ℕ E → List ℕ → State S → State S → Type 0
WriteSteps reads writes (Ok n) piece old new = WritesFront reads writes n piece old new
WriteSteps reads writes (Err _) piece old new = GivesUp reads writes old new

-- how many bytes a step of a write has taken of so many, and whether it broke the link
abbrev pub TakesFront : {S : Type 0} → Step → ℕ → Option ℕ → State S → State S → Type 0
TakesFront (Moved n) most taken old new = (n ≡ 0 → taken ≡ None) × (0 < n → taken ≡ Some n) × (new ≡ old)
TakesFront Blocked most taken old new = (taken ≡ None) × (new ≡ old)
TakesFront Cut most taken old new = (taken ≡ None) × (new ≡ old)
TakesFront (Broken e) most taken old new = (taken ≡ Some most) × (new ≡ broke old)
