-- What the parts of an arena own and lend, at values of the row R.
use Rattle.std.specs.Prelude.{ℕ, ◌+◌, ◌*◌, ◌^◌, List, [], ◌∷◌, length, replicate, Option, Some, None}
use Rattle.std.specs.Mem.{type_size}
use base.Fraction.{full_share}
use base.Fml.{Lft, Fml, ftrue, ffalse, fsep, flt, froom, fwand}
use mir.Syntax.{Ty, ty_array}
use mir.Raw.{raw}
use prog.Memory.{size, align, up}
use denote.RattleType.{RattleType}
use denote.Memory.{lone, part_at, shared_of}
use denote.Sharing.{nothing, said, beside}
use denote.RawPtr.{Ptr, block_ptr, null_ptr}
use Rattle.urb_arena.specs.contracts.cells.Links as links
use Rattle.urb_arena.specs.contracts.cells.Cell as cell

-- the row of `Links`
abbrev pub Lk : RattleType
Lk = links.the_row

module _ (R : RattleType) where
  -- one place for a value of R, o bytes into the block b: it holds one, or is bare
  abbrev pub place : ℕ → ℕ → Option R.Denot → Fml
  place b o (Some x) = part_at R full_share x b o
  place b o None = froom (raw (lone R.mir)) b o

  -- places that are `step` bytes apart, each `off` bytes into its cell
  abbrev pub column : ℕ → ℕ → ℕ → ℕ → List (Option R.Denot) → Fml
  column step off b o [] = ftrue
  column step off b o (c ∷ cs) = fsep (place b (o + off) c) (column step off b (o + step) cs)

  abbrev pub place_lent : ℕ → ℕ → Option R.Denot → Lft → Fml
  place_lent b o (Some x) = shared_of R x b o
  place_lent b o None = nothing

  abbrev pub column_lent : ℕ → ℕ → ℕ → ℕ → List (Option R.Denot) → Lft → Fml
  column_lent step off b o [] = nothing
  column_lent step off b o (c ∷ cs) = beside (place_lent b (o + off) c) (column_lent step off b (o + step) cs)

module _ (R : RattleType) where
  -- the bytes of a cell, and where its value lies
  abbrev pub stride : ℕ
  stride = type_size (cell.the_row R)

  abbrev pub value_at : ℕ
  value_at = up (align (lone R.mir)) (size (lone Lk.mir))

  abbrev pub fits : ℕ → Fml
  fits n = flt (n * stride) (2 ^ 63)

  abbrev pub columns : ℕ → ℕ → List (Option Lk.Denot) → List (Option R.Denot) → Fml
  columns b o ls vs = fsep (column Lk stride 0 b o ls) (column R stride value_at b o vs)

  -- the two columns of one block
  abbrev pub block_own : Ptr → List (Option Lk.Denot) → List (Option R.Denot) → Fml
  block_own (block_ptr b o) ls vs = fsep (fits (length ls)) (columns b o ls vs)
  block_own null_ptr ls vs = ffalse

  abbrev pub block_lent : Ptr → List (Option Lk.Denot) → List (Option R.Denot) → Lft → Fml
  block_lent (block_ptr b o) ls vs = beside (said (fits (length ls))) (beside (column_lent Lk stride 0 b o ls) (column_lent R stride value_at b o vs))
  block_lent null_ptr ls vs = said ffalse

  abbrev pub block_type : ℕ → Ty
  block_type n = raw (ty_array (lone (cell.the_row R).mir) n)

  abbrev pub bare : ℕ → ℕ → ℕ → Fml
  bare b o n = columns b o (replicate n None) (replicate n None)

  -- n bare cells make the block again
  abbrev pub rejoins : Ptr → ℕ → Fml
  rejoins (block_ptr b o) n = fwand (bare b o n) (froom (block_type n) b o)
  rejoins null_ptr n = ftrue

  -- the allocator's token for the block of n cells, and the way back
  abbrev pub deed_owns : (Ty → Ptr → Fml) → Ptr → ℕ → Fml
  deed_owns token p n = fsep (token (block_type n) p) (rejoins p n)
