-- What recording counts.
use Rattle.std.specs.Prelude.{◌≡◌, Result, Ok, Err}
use Rattle.session_tape.specs.Tapes.{Counts, OneFault}
use Rattle.bridge_run.specs.declared.course.serve_end.ServeEnd.{ServeEnd}
use Rattle.bridge_run.specs.declared.course.serve_end.ServeEnd.TheVariants.{WriteFault, Memory}

-- a write fault counts one fault of the tape, want of memory none, and there is no other end
abbrev pub TapeFaults : {T : Type 0} → Result T ServeEnd → Counts → Counts → Type 0
TapeFaults (Ok _) old new = new ≡ old
TapeFaults (Err WriteFault) old new = OneFault old new
TapeFaults (Err Memory) old new = new ≡ old
TapeFaults (Err _) old new = ⊥
