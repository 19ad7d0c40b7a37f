-- Room for n cells is two columns of bare places, and the way back; and the values of the structs that take no space.
-- Assumes `Logic`.
use Rattle.std.proofs.Common.{◌≡◌, ℕ, zero, suc, ◌+◌, List, [], ◌∷◌, refl}
use lib.ListN.{length, replicate}
use seplogic.Ra.Ura.{Ura}
use mir.Val.{Val, vstruct, vcons, vnil}
use mir.Syntax.{Ty, Tys, Sym, ty_array, ty_struct, tcons, tnil}
use base.Logic.{SProp, ent, sep, emp, wand, apply∗, id⊢}
use base.Fml.{Fml, ftrue, fwand, froom}
use prog.Model.{rooms_at}
use types.Logic.{Logic, sem}
use types.Kit.{‵, raw, ◌⊛◌, ◌$◌, ◌∵◌, !, qed, by, move, keep, use0, use1, use2, split, split3, group, assume, fsplit, fjoin, feq_i, fpack, done}
use denote.RattleType.{RattleType, Valss}
use denote.Param.{param, layout}
use denote.Param.Laws.{Laws, param_laws}
use denote.Memory.{lone}
use denote.RawPtr.{Ptr, block_ptr, ptr_val}
use denote.Shadow.{makes_shadow}
use denote.Steps.{nothing}
use denote.Struct.Struct.{Struct, within}
use denote.Struct.Owning.{shape}
use denote.Struct.Declared as Declared
use denote.Struct.Tuple.{Tuple, tuple_type}
use Rattle.std.specs.Prelude.{Option, None}
use Rattle.std_alloc.proofs.RawLayout.{as_raw, as_written}
use Rattle.core.proofs.mem.Param.{El}
use Rattle.urb_arena.specs.Inner.Ownership.{Lk, column, stride, value_at, bare, rejoins}
use Rattle.urb_arena.specs.contracts.cells.Cell as cell
use Rattle.urb_arena.specs.contracts.cells.Block as block
use Rattle.urb_arena.specs.contracts.cells.Base as origin
use Rattle.urb_arena.proofs.cells.Cell.TheLaws.{the_row_laws}
use Rattle.urb_arena.proofs.Parts.{base_val, cleared}

module _ (T : RattleType) where
  abbrev pub R : RattleType
  R = param 0 T

  abbrev pub cell_ty : Ty
  cell_ty = layout (cell.the_row R)

  -- a whole cell, as the type of an allocated array
  abbrev pub as_el : Laws T → El
  as_el L = record { row = cell.the_row R; laws = the_row_laws R (param_laws 0 T L) }

  abbrev ν : Sym
  ν = (cell.the_type R).name

  abbrev fields : Tys
  fields = tcons (lone Lk.mir) (tcons (layout T) tnil)

  -- n bare cells make room for the array again
  abbrev Again : ℕ → ℕ → ℕ → Fml
  Again b o n = fwand (bare R b o n) (froom (ty_array cell_ty n) b o)

module _ (T : RattleType) {M : Type 1} {𝓤 : Ura M} (𝓛 : Logic 𝓤) (b : ℕ) where
  open 𝓛 use {H}

  abbrev Joins : ℕ → SProp 𝓤
  Joins o = wand 𝓤 (rooms_at 𝓤 H (fields T) 0 b o) (H.room (ty_struct (ν T) (fields T)) b o)

  again_none : (o : ℕ) → ent 𝓤 (emp 𝓤) (sem 𝓛 (Again T b o 0))
  again_none o = qed 𝓛 [] ∵ assume ! (‵ (bare (R T) b o 0)) $ keep ! [] $ by ! (𝓛.laws.room_nil (cell_ty T) b o)

  again_more : (o n : ℕ) → ent 𝓤 (sep 𝓤 (Joins o) (sem 𝓛 (Again T b (o + stride (R T)) n))) (sem 𝓛 (Again T b o (suc n)))
  again_more o n = let s = stride (R T) in let vo = value_at (R T) in
      qed 𝓛 (raw (Joins o) ∷ ‵ (Again T b (o + s) n) ∷ []) ∵ assume ! (‵ (bare (R T) b o (suc n))) $ fsplit ! $ fsplit ! $ move ! (2 ∷ []) $ fsplit ! $
      -- [the value's place; the other values; the links' place; the other links; both ways back]
      as_written ! (layout T) b (o + vo) $ move ! (2 ∷ []) $ as_written ! (lone Lk.mir) b (o + 0) $ nothing ! $ move ! (1 ∷ 2 ∷ 0 ∷ 5 ∷ []) $ move ! (0 ∷ 1 ∷ 2 ∷ []) $ group ! 3 $ move ! (0 ∷ 1 ∷ []) $
      use2 𝓛 (‵ (froom (ty_struct (ν T) (fields T)) b o)) (apply∗ 𝓤 (rooms_at 𝓤 H (fields T) 0 b o) (H.room (ty_struct (ν T) (fields T)) b o)) $
      move ! (2 ∷ 1 ∷ []) $ fjoin ! $ move ! (0 ∷ 2 ∷ []) $ use2 𝓛 (‵ (froom (ty_array (cell_ty T) n) b (o + s))) (apply∗ 𝓤 (sem 𝓛 (bare (R T) b (o + s) n)) (H.room (ty_array (cell_ty T) n) b (o + s))) $
      move ! (1 ∷ 0 ∷ []) $ by ! (𝓛.laws.room_cons (cell_ty T) n b o)

  pub bared : (n o : ℕ) → ent 𝓤 (H.room (ty_array (cell_ty T) n) b o) (sep 𝓤 (sem 𝓛 (bare (R T) b o n)) (sem 𝓛 (Again T b o n)))
  bared zero o = qed 𝓛 (‵ (froom (ty_array (cell_ty T) 0) b o) ∷ []) ∵ keep ! [] $ use0 𝓛 (‵ (Again T b o 0)) (again_none o) $ nothing ! $ nothing ! $ fjoin ! $ done !
  bared (suc n) o = let s = stride (R T) in let vo = value_at (R T) in
      qed 𝓛 (‵ (froom (ty_array (cell_ty T) (suc n)) b o) ∷ []) ∵
      use1 𝓛 (‵ (froom (cell_ty T) b o) ⊛ ‵ (froom (ty_array (cell_ty T) n) b (o + s))) (𝓛.laws.room_uncons (cell_ty T) n b o) $ split ! $
      use1 𝓛 ((‵ (froom (lone Lk.mir) b (o + 0)) ⊛ ‵ (froom (layout T) b (o + vo)) ⊛ ‵ ftrue) ⊛ raw (Joins o)) (𝓛.laws.room_fields (ν T) (fields T) b o) $ split ! $ split3 ! $
      as_raw ! (lone Lk.mir) b (o + 0) $ move ! (1 ∷ []) $ as_raw ! (layout T) b (o + vo) $ move ! (4 ∷ []) $
      use1 𝓛 (‵ (bare (R T) b (o + s) n) ⊛ ‵ (Again T b (o + s) n)) (bared n (o + s)) $ split ! $ move ! (5 ∷ 1 ∷ []) $ use2 𝓛 (‵ (Again T b o (suc n))) (again_more o n) $
      -- [the way back; the other places; the value's place; the links' place]
      move ! (1 ∷ []) $ fsplit ! $ move ! (4 ∷ 0 ∷ []) $ fjoin ! $ move ! (3 ∷ 1 ∷ []) $ fjoin ! $ move ! (1 ∷ 0 ∷ []) $ fjoin ! $ keep ! (0 ∷ 1 ∷ []) $ done !

  pub rejoined : (n o : ℕ) → ent 𝓤 (sem 𝓛 (Again T b o n)) (sem 𝓛 (rejoins (R T) (block_ptr b o) n))
  rejoined n o = qed 𝓛 (‵ (Again T b o n) ∷ []) ∵ assume ! (‵ (bare (R T) b o n)) $ move ! (0 ∷ 1 ∷ []) $
      use2 𝓛 (‵ (froom (ty_array (cell_ty T) n) b o)) (apply∗ 𝓤 (sem 𝓛 (bare (R T) b o n)) (H.room (ty_array (cell_ty T) n) b o)) $ by ! (𝓛.laws.room-raw (ty_array (cell_ty T) n) b o)

module _ (R : RattleType) (one : R.mir ≡ lone R.mir ∷ []) (step off : ℕ) {M : Type 1} {𝓤 : Ura M} (𝓛 : Logic 𝓤) (b : ℕ) where
  -- all that a column holds is forgotten
  pub cleared_all : (o : ℕ) (cs : List (Option R.Denot)) → ent 𝓤 (sem 𝓛 (column R step off b o cs)) (sem 𝓛 (column R step off b o (replicate (length cs) None)))
  cleared_all o [] = id⊢ 𝓤 (emp 𝓤)
  cleared_all o (c ∷ cs) = qed 𝓛 (‵ (column R step off b o (c ∷ cs)) ∷ []) ∵ fsplit ! $ use1 𝓛 (‵ (froom (lone R.mir) b (o + off))) (cleared R one 𝓛 b (o + off) c) $ as_raw ! (lone R.mir) b (o + off) $
      move ! (1 ∷ []) $ use1 𝓛 (‵ (column R step off b (o + step) (replicate (length cs) None))) (cleared_all (o + step) cs) $ move ! (1 ∷ 0 ∷ []) $ fjoin ! $ done !

pub base_made : (T : RattleType) {M : Type 1} {𝓤 : Ura M} (𝓛 : Logic 𝓤) (p : Ptr) → ent 𝓤 (emp 𝓤) (sem 𝓛 ((origin.the_row (R T)).own_val (record { ptr = p }) (base_val p ∷ [])))
base_made T 𝓛 p = makes_shadow 𝓛 ((origin.the_row (R T)).own_val (record { ptr = p }) (base_val p ∷ [])) (λ _. (tt, (tt, tt))) ((ptr_val p ∷ [], tt), (refl, (refl, tt)))

-- a struct of one mark
abbrev pub mark_val : Val
mark_val = vstruct (vcons (vstruct vnil) vnil)

abbrev pub mark_own : RattleType → List Val → Fml
mark_own T = (Struct (shape (block.the_type (R T)))).own_val (tt, tt)

pub mark_made : (T : RattleType) {M : Type 1} {𝓤 : Ura M} (𝓛 : Logic 𝓤) → ent 𝓤 (emp 𝓤) (sem 𝓛 (mark_own T (mark_val ∷ [])))
mark_made T 𝓛 = makes_shadow 𝓛 (mark_own T (mark_val ∷ [])) (λ _. (tt, ((λ _. (tt, tt)), tt))) ((vstruct vnil ∷ [], tt), (refl, ((tt, (refl, tt)), tt)))

abbrev pub triple_val : Val → Val → Val → Val
triple_val u v w = vstruct (vcons u (vcons v (vcons w vnil)))

pub triple_made : {M : Type 1} {𝓤 : Ura M} (𝓛 : Logic 𝓤) (R S T : RattleType) (x : R.Denot) (y : S.Denot) (z : T.Denot) (u v w : Val)
    → ent 𝓤 (sep 𝓤 (sem 𝓛 (R.own_val x (u ∷ []))) (sep 𝓤 (sem 𝓛 (S.own_val y (v ∷ []))) (sem 𝓛 (T.own_val z (w ∷ []))))) (sem 𝓛 ((Tuple (R ∷ S ∷ T ∷ [])).own_val (x, y, z) (triple_val u v w ∷ [])))
triple_made 𝓛 R S T x y z u v w =
    qed 𝓛 (‵ (R.own_val x (u ∷ [])) ∷ ‵ (S.own_val y (v ∷ [])) ∷ ‵ (T.own_val z (w ∷ [])) ∷ []) ∵ nothing ! $ move ! (3 ∷ 0 ∷ []) $ fjoin ! $ move ! (2 ∷ 0 ∷ []) $ fjoin ! $ move ! (1 ∷ 0 ∷ []) $ fjoin ! $
    feq_i ! (List Val) (triple_val u v w ∷ []) (triple_val u v w ∷ []) refl $ fjoin ! $
    fpack ! (Valss (R ∷ S ∷ T ∷ [])) (within (Declared.shape (tuple_type (R ∷ S ∷ T ∷ []))) (x, (y, (z, tt))) (triple_val u v w ∷ [])) (u ∷ [], (v ∷ [], (w ∷ [], tt))) $ done !
