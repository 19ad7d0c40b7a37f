-- The commands `make` and `load`, of the tape that a number stands for.
use Rattle.std.specs.Prelude.{ℕ, List}
use Rattle.made_tape.specs.Lines.{tape_text}
use Rattle.made_tape.specs.Rounds.{made_lines}
use Rattle.tape_run.specs.declared.model.device.Device.TheVariants.{Loopback}
use Rattle.tape_run.specs.model.Model.{model_of}
use Rattle.tape_run.specs.tape.TapeCommand.{read_tape, last_text}

-- the tape is printed
abbrev pub made : ℕ → List ℕ
made count = tape_text (made_lines count)

-- the last line is printed that `model --device loop` has for that tape
abbrev pub loaded : ℕ → List ℕ
loaded count = last_text (model_of Loopback) (read_tape (model_of Loopback) (made count))
