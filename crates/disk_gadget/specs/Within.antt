-- What is left of a command is within what it may move, and within the disk.
use Rattle.std.specs.Prelude.{ℕ, ◌+◌, ◌*◌, ◌≤◌, ◌<◌, ◌^◌, length}
use Rattle.disk_gadget.specs.declared.stage.Answer.{Answer}
use Rattle.disk_gadget.specs.declared.stage.Answer.TheVariants.{Text, Blocks}
use Rattle.disk_gadget.specs.declared.stage.Stage.{Stage}
use Rattle.disk_gadget.specs.declared.stage.Stage.TheVariants.{Gathers, Gives}
use Rattle.disk_gadget.specs.declared.medium.TheConstants.{BLOCK_SIZE}
use Rattle.disk_gadget.specs.Turns.{left_of}

-- what was given and what is left of it are counted in 32 bits
abbrev pub GivenFits : Answer → Type 0
GivenFits (Text rest) = Unit {0}
GivenFits (Blocks block given left) = given + left < 2 ^ 32

-- it stands within a disk of so many bytes
abbrev pub PlaceWithin : ℕ → Answer → Type 0
PlaceWithin size (Text rest) = Unit {0}
PlaceWithin size (Blocks block given left) = BLOCK_SIZE * block + given + left ≤ size

pub record AnswerWithin (size residue : ℕ) (answer : Answer) : Type 0 where
  pub moved : left_of answer ≤ residue
  pub fits : GivenFits answer
  pub place : PlaceWithin size answer

abbrev pub IsWithin : ℕ → Stage → Type 0
IsWithin size (Gathers w bytes) = length bytes ≤ w.length
IsWithin size (Gives answer r) = AnswerWithin size r.residue answer
IsWithin size _ = Unit {0}
