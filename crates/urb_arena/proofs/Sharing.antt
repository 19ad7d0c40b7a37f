-- A `&` to a block is made where one to a value is. Assumes `Logic`.
use Prim.Native.Nat.{ℕ, ◌+◌}
use Rattle.std.specs.Prelude.{List, [], ◌∷◌, length, Option, Some, None}
use seplogic.Ra.Ura.{Ura}
use base.Fml.{Lft, Incl, ftrue, ffalse}
use contract.BorrowLft.{⊑_static}
use types.Logic.{Logic}
use denote.RattleType.{RattleType, RowLaws}
use denote.Param.Laws.{Laws}
use denote.RawPtr.{Ptr, block_ptr, null_ptr}
use denote.Sharing.{ShrLaws, said, beside}
use denote.SharingLaws.{beside_shr_laws, nothing_shr_laws, said_shr_laws}
use denote.Shares.{Shares-less}
use denote.Struct.Lending.{Lends, Lends-both, Lends-nothing, Lends-said, Lends-false}
use Rattle.urb_arena.specs.Inner.Ownership.{Lk, place, column, place_lent, column_lent, stride, value_at, fits, columns, block_own, block_lent}
use Rattle.urb_arena.proofs.cells.Links.TheLaws.{the_row_laws as link_laws}

module _ (R : RattleType) (L : RowLaws R) where
  place_lent_laws : (b o : ℕ) (c : Option R.Denot) → ShrLaws (place_lent R b o c)
  place_lent_laws b o (Some x) = L x b o
  place_lent_laws b o None = nothing_shr_laws

  column_lent_laws : (s off b o : ℕ) (cs : List (Option R.Denot)) → ShrLaws (column_lent R s off b o cs)
  column_lent_laws s off b o [] = nothing_shr_laws
  column_lent_laws s off b o (c ∷ cs) = beside_shr_laws _ _ (place_lent_laws b (o + off) c) (column_lent_laws s off b (o + s) cs)

pub block_lent_laws : (R : RattleType) → RowLaws R → (p : Ptr) (ls : List (Option Lk.Denot)) (vs : List (Option R.Denot)) → ShrLaws (block_lent R p ls vs)
block_lent_laws R L (block_ptr b o) ls vs = beside_shr_laws _ _ (said_shr_laws (fits R (length ls)) tt) (beside_shr_laws _ _ (column_lent_laws Lk link_laws.shr_laws (stride R) 0 b o ls) (column_lent_laws R L (stride R) (value_at R) b o vs))
block_lent_laws R L null_ptr ls vs = said_shr_laws ffalse tt

module _ {M : Type 1} {𝓤 : Ura M} (𝓛 : Logic 𝓤) (l : Lft) (R : RattleType) (L : Laws R) (inc : Incl l R.lives) where
  Lends-place : (b o : ℕ) (c : Option R.Denot) → Lends 𝓛 (place R b o c) (place_lent R b o c) l
  Lends-place b o (Some x) = λ κ ts. Shares-less 𝓛 R R.lives l inc (L.shares 𝓛) x κ ts b o
  Lends-place b o None = Lends-nothing 𝓛 (place R b o None) l

  Lends-column : (s off b o : ℕ) (cs : List (Option R.Denot)) → Lends 𝓛 (column R s off b o cs) (column_lent R s off b o cs) l
  Lends-column s off b o [] = Lends-nothing 𝓛 ftrue l
  Lends-column s off b o (c ∷ cs) =
      Lends-both 𝓛 (place R b (o + off) c) (column R s off b (o + s) cs) (place_lent R b (o + off) c) (column_lent R s off b (o + s) cs) l (Lends-place b (o + off) c) (Lends-column s off b (o + s) cs)

module _ {M : Type 1} {𝓤 : Ura M} (𝓛 : Logic 𝓤) (l : Lft) (R : RattleType) (L : Laws R) (inc : Incl l R.lives) where
  pub Lends-block : (p : Ptr) (ls : List (Option Lk.Denot)) (vs : List (Option R.Denot)) → Lends 𝓛 (block_own R p ls vs) (block_lent R p ls vs) l
  Lends-block (block_ptr b o) ls vs =
      let s = stride R in let vo = value_at R in
      Lends-both 𝓛 (fits R (length ls)) (columns R b o ls vs) (said (fits R (length ls))) (beside (column_lent Lk s 0 b o ls) (column_lent R s vo b o vs)) l (Lends-said 𝓛 (fits R (length ls)) tt l)
      (Lends-both 𝓛 (column Lk s 0 b o ls) (column R s vo b o vs) (column_lent Lk s 0 b o ls) (column_lent R s vo b o vs) l (Lends-column 𝓛 l Lk link_laws (⊑_static l) s 0 b o ls) (Lends-column 𝓛 l R L inc s vo b o vs))
  Lends-block null_ptr ls vs = Lends-false 𝓛 (said ffalse) l
