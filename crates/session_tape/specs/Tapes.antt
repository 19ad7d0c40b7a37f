-- What is written to a tape, and why none is made.
use Rattle.std.specs.Prelude.{◌≡◌, ℕ, List, ◌++◌, Option, Some, None, Result, Ok, Err}
use Rattle.std.specs.Io.KnownBytes.{append_known, Appends}
use Rattle.gate_outside.specs.Faults.{Rose}
use Rattle.gate_outside.specs.Std.{inner_of}
use Rattle.gate_outside.specs.declared.std_stream.StdStream.{StdStream}
use Rattle.session_tape.specs.declared.telling.Telling.{Telling}
use Rattle.session_tape.specs.declared.tape.Unmade.{Unmade}
use Rattle.session_tape.specs.declared.tape.Unmade.TheVariants.{There, Failed}

-- how often a tape has failed, and how often there was such a file before
pub record Counts : Type 0 where
  pub faults : ℕ
  pub there : ℕ

abbrev pub counts : ℕ → ℕ → Counts
counts faults there = record { faults = faults; there = there }

abbrev pub OneFault : Counts → Counts → Type 0
OneFault old new = Rose old.faults new.faults × (new.there ≡ old.there)

abbrev pub WasThere : Counts → Counts → Type 0
WasThere old new = (new.faults ≡ old.faults) × Rose old.there new.there

-- a file is made without a count, and each reason why it isn't counts one
abbrev pub HasReason : {T : Type 0} → Result T Unmade → Counts → Counts → Type 0
HasReason (Ok _) old new = new ≡ old
HasReason (Err There) old new = WasThere old new
HasReason (Err Failed) old new = OneFault old new

-- a call that failed counted one fault, and any other none
abbrev pub CountsFault : {T E : Type 0} → Result T E → Counts → Counts → Type 0
CountsFault (Ok _) old new = new ≡ old
CountsFault (Err _) old new = OneFault old new

-- Known bytes grew by a front of `bytes`, and a tape that told none tells none now. That is more than `AppendsFront` of
-- `gate_outside` says, which the writers of std can't promise.
pub record GrowsInPart (old new : Option (List ℕ)) (bytes : List ℕ) : Type 0 where
  pub front : List ℕ
  pub back : List ℕ
  pub parts : bytes ≡ front ++ back
  pub grows : new ≡ append_known old front

-- all of the bytes went to what is there
abbrev pub GoesTo : {K : Type 0} → (K → Option (List ℕ)) → Option K → Option K → List ℕ → Type 0
GoesTo contents (Some old) (Some new) bytes = Appends (contents old) (contents new) bytes
GoesTo contents (Some old) None bytes = ⊥
GoesTo contents None new bytes = ⊥

-- what the writer of a file holds, where it tells that
abbrev pub told_by : {R W : Type 0} → (W → Option (List ℕ)) → StdStream (Telling R W) → Option (List ℕ)
told_by contents sink = contents (inner_of sink).writer
