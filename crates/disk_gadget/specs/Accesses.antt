-- The reads and writes of blocks that passed, and what they make of the blocks.
use Rattle.std.specs.Prelude.{ℕ, ◌+◌, ◌*◌, ◌/◌, ◌++◌, List, length, take, drop, Option, Some}
use Rattle.disk_gadget.specs.declared.medium.TheConstants.{BLOCK_SIZE}

-- all blocks are one list of bytes, and this is how many there are
abbrev pub count_of : List ℕ → ℕ
count_of blocks = length blocks / BLOCK_SIZE

pub data Access : Type 0 where
  -- so many blocks are read from this one on
  ReadOf : (block count : ℕ) → Access
  -- these bytes are written to the blocks from this one on
  WriteOf : (block : ℕ) (bytes : List ℕ) → Access

-- bytes take the place of as many
abbrev pub put : ℕ → List ℕ → List ℕ → List ℕ
put at bytes blocks = take at blocks ++ (bytes ++ drop (at + length bytes) blocks)

abbrev pub blocks_after : List ℕ → Option Access → List ℕ
blocks_after blocks (Some (WriteOf block bytes)) = put (BLOCK_SIZE * block) bytes blocks
blocks_after blocks _ = blocks
