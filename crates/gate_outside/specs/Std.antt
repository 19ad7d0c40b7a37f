-- Sources over a reader of std, and sinks over a writer.
use Rattle.std.specs.Prelude.{◌≡◌, ℕ, ◌==◌, if◌then◌else◌, List, Option, Result, Ok, Err}
use Rattle.std.specs.Io.{ReadsAtMost, WritesAtMost}
use Rattle.std.specs.Io.KnownBytes.{ReadConsumes, WriteAppends}
use Rattle.gate_outside.specs.declared.fault.Failed.{Failed}
use Rattle.gate_outside.specs.declared.std_stream.StdStream.{StdStream}

abbrev pub inner_of : {T : Type 0} → StdStream T → T
inner_of stream = stream.inner

abbrev pub faults_of : {T : Type 0} → StdStream T → ℕ
faults_of stream = stream.faults

-- all that std promises of a read, and of a write
abbrev pub Reads : Option (List ℕ) → Option (List ℕ) → Result ℕ Failed → List ℕ → Type 0
Reads old new answer buf = ReadsAtMost answer buf × ReadConsumes old new answer buf

abbrev pub Writes : Option (List ℕ) → Option (List ℕ) → Result ℕ Failed → List ℕ → Type 0
Writes old new answer piece = WritesAtMost answer piece × WriteAppends old new answer piece

-- a writer's answer, where one that took nothing has failed
abbrev pub passed : Result ℕ Failed → Result ℕ Failed
passed (Ok n) = if n == 0 then Err (record {}) else Ok n
passed (Err failed) = Err failed

-- the writer gave an answer, and this is it
abbrev pub Passes : (Result ℕ Failed → Type 0) → Result ℕ Failed → Type 0
Passes gives result = (answer : Result ℕ Failed) × gives answer × (result ≡ passed answer)
