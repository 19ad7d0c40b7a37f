-- What reading a connection ahead of its polls does to the bytes that were read ahead.
use Rattle.std.specs.Prelude.{◌≡◌, ◌⊎◌, ℕ, List, ◌++◌, Result}
use Rattle.std.specs.declared.io.Error.{Error}
use Rattle.gate_sockets.specs.declared.step.Step.{Step}
use Rattle.gate_sockets.specs.declared.step.Step.TheVariants.{Blocked}
use Rattle.gate_sockets.specs.Step.{step_for, moved_of}

-- the connection was read once, and what that gave stands behind the others
abbrev pub ReadBehind : {S : Type 0} → (S → List ℕ → Result ℕ Error → S → Type 0) → Step → S → S → List ℕ → List ℕ → Type 0
ReadBehind gives step stream stream_new bytes bytes_new =
    (buf : List ℕ) × ((answer : Result ℕ Error) × (gives stream buf answer stream_new × (step ≡ step_for answer) × (bytes_new ≡ bytes ++ moved_of (step_for answer) buf)))

-- the connection wasn't read
abbrev pub LeftUnread : {S : Type 0} → Step → S → S → List ℕ → List ℕ → Type 0
LeftUnread step stream stream_new bytes bytes_new = (step ≡ Blocked) × (stream_new ≡ stream) × (bytes_new ≡ bytes)

abbrev pub ReadsAhead : {S : Type 0} → (S → List ℕ → Result ℕ Error → S → Type 0) → Step → S → S → List ℕ → List ℕ → Type 0
ReadsAhead gives step stream stream_new bytes bytes_new = ReadBehind gives step stream stream_new bytes bytes_new ⊎ LeftUnread step stream stream_new bytes bytes_new
