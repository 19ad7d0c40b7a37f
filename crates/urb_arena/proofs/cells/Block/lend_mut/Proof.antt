-- `lend_mut` lends a value, and the block follows it. Assumes `Logic`.
use Rattle.std.proofs.Common.{◌≡◌, ℕ, ◌+◌, ◌*◌, ◌^◌, ◌<◌, List, [], ◌∷◌, ◌++◌, refl, sym, ◌∙◌, arith, length, get_or, w64}
use Rattle.std.specs.Prelude.{Option, Some, None}
use lib.ListN.{set}
use mir.Syntax.{a_type}
use mir.MapTy.{inst_fn}
use mir.Val.{Val, vint, vptr}
use base.Fraction.{full_share}
use base.Logic.{SProp, ent, sep, emp, never, id⊢}
use base.Fml.{GName, Fml, ftrue, fsep, flft, fat}
use prog.Wp.{WpFn}
use types.Logic.{sem}
use types.Kit.{‵, raw, ◌⊛◌, some, pick, later, await, group, fpack, done, split3, at_ret, prop, ◌$◌, ◌∵◌, !, qed, by, move, keep, use0, use1, use2, split, join, fsplit, fsplit3, fjoin, rewrite, regoal, flt_i, flt_l}
use types.Part.{whole, sub}
use types.Run.{stop, fld, of_opd, size_lit, bin, addr, first, blocks, exec, returns, enter}
use types.ByLocal.{alloc_all, pass_all, free_all, look_at, get, get_in, through, take_at, give_at, sets, sets_last, env}
use contract.Monad.{fact, fact_i}
use contract.Running.{tables}
use denote.Exit.{yes, no}
use denote.Memory.{mem, cell_at, part_of}
use denote.Ref.{MutBor, MutRef}
use denote.Follow.{follows, Part, lends_Part}
use denote.Struct.Struct.{Struct}
use denote.Struct.Owning.{shape}
use seplogic.Ra.Ura.{Ura}
use mir.Syntax.{named}
use types.Logic.{Logic}
use Rattle.urb_arena.specs.Inner.Lends.{with_values}
use denote.RattleType.{RattleType, owns}
use denote.Signature.{types_at, plain, mut_ref_to}
use denote.RawPtr.{Ptr, block_ptr, in_a_block}
use denote.Steps.{nothing, heard, opens}
use denote.Param.{param, layout, layouts}
use denote.Param.Laws.{param_laws}
use denote.Builtin.{usize}
use denote.Triple.Walked.{Stays, stay_dropped, walk_of, Goes-dropped, Goes-spent_ref}
use Rattle.core.proofs.ptr.Rows.{times_below, one_below}
use Rattle.std_alloc.proofs.VecSteps.Shapes.{after}
use Rattle.std_alloc.proofs.RcSteps.{word-Good}
use Rattle.std.proofs.raw_atomic.Walks.{proved_at, leaves}
use Rattle.urb_arena.specs.Inner.Ownership.{Lk, place, column, block_own, stride, value_at}
use Rattle.urb_arena.specs.Inner.Columns.{There}
use Rattle.urb_arena.proofs.Parts.{there_within, Others, place_out, place_in, base_val}
use Rattle.urb_arena.specs.contracts.cells.Block as block
use Rattle.urb_arena.specs.contracts.cells.Base as origin
use Rattle.urb_arena.proofs.cells.Base.TheLaws.{lowers}
use Rattle.urb_arena.specs.contracts.cells.Block.lend_mut.{ended, clauses}
use Rattle.urb_arena.specs.contracts.cells.Block.lend_mut.Key.{name as #self}
use Rattle.urb_arena.proofs.cells.Block.lend_mut.Statement.{statement}
use Rattle.urb_arena.proofs.cells.Block.lend_mut.Code as code

module _ (T : RattleType) where
  abbrev R : RattleType
  R = param 0 T

  abbrev Br : RattleType
  Br = block.the_row R

module _ (T : RattleType) {M : Type 1} {𝓤 : Ura M} (𝓛 : Logic 𝓤) (rb ro : ℕ) (d : (Br T).Denot) (i : ℕ) (within : i < length d.values) (ts : List Val) (b o : ℕ) where
  -- what of the block stays behind
  abbrev Rest : Fml
  Rest = fsep (Others (R T) (stride (R T)) (value_at (R T)) 𝓛 b o d.values i within) (fsep (column Lk (stride (R T)) 0 b o d.links) (fsep ((Struct (shape (block.the_type (R T)))).own_val (tt, tt) ts) (cell_at full_share (Br T).mir ts rb ro)))

  abbrev new : T.Denot → (Br T).Denot
  new w = with_values d (set d.values i (Some w))

  back : d.at ≡ block_ptr b o → length d.links * stride (R T) < 2 ^ 63 → (w : T.Denot)
      → ent 𝓤 (sep 𝓤 (sem 𝓛 ((mem (R T)).own_at w b (i * stride (R T) + o + value_at (R T)))) (sem 𝓛 Rest)) (sem 𝓛 ((mem (Br T)).own_at (new w) rb ro))
  unfolding part_of
  back e small w = let vs = set d.values i (Some w) in
      qed 𝓛 (‵ (place (R T) b (i * stride (R T) + o + value_at (R T)) (Some w)) ∷ ‵ Rest ∷ []) ∵ move ! (1 ∷ []) $ fsplit3 ! $ move ! (2 ∷ []) $ fsplit ! $ move ! (4 ∷ 2 ∷ []) $
      use2 𝓛 (‵ (column (R T) (stride (R T)) (value_at (R T)) b o vs)) (place_in (R T) (stride (R T)) (value_at (R T)) 𝓛 b o d.values i within (Some w)) $ move ! (3 ∷ 0 ∷ []) $ fjoin ! $ flt_i ! (length d.links * stride (R T)) (2 ^ 63) small $ fjoin ! $
      rewrite ! 0 (λ (q : Ptr). ‵ (block_own (R T) q d.links vs)) (sym e) refl $ move ! (1 ∷ 0 ∷ []) $ fjoin ! $ move ! (1 ∷ 0 ∷ []) $ fjoin ! $
      fpack ! (List Val) (λ us. fsep (cell_at full_share (Br T).mir us rb ro) ((Br T).own_val (new w) us)) ts $ done !

pub lend_mut_spec : {M : Type 1} → statement M
lend_mut_spec 𝓤 𝓛 𝓜 𝓡 wired T L =
    let H = 𝓛.H in let 𝓣 = tables 𝓤 H 𝓜 𝓡 𝓡.env in let LR = param_laws 0 T L in let Bs : RattleType = origin.the_row (R T) in
    let En = ended T in let c = clauses T 𝓛 𝓜.mem 𝓡.returns in let inst = layouts (a_type ∷ []) (T, tt) in let fn = inst_fn inst code.function in
    let hs : Stays En.signature.params En.kept = (stay_dropped (mut_ref_to (0 ∷ []) tt (plain (λ _. Br T))) no, (stay_dropped (plain (λ _. Bs)) no, (stay_dropped (plain (λ _. usize)) yes, tt))) in
    proved_at 𝓛 En hs c 𝓜 𝓡 (Goes-spent_ref 𝓛 2 (0 ∷ []) tt (plain (λ _. Br T)), (Goes-dropped 𝓛 2 (plain (λ _. Bs)) no (λ κs x f. refl), (Goes-dropped 𝓛 2 (plain (λ _. usize)) yes (λ κs x f. refl), tt)))
    (#self inst) fn (code.unfolded 𝓤 H 𝓜 𝓡 wired (T, tt)) (λ y are.
    let κs = y.0.0 in let qs = y.0.1 in let a = y.0.3 in let vss = y.0.4 in let Post : Val → SProp 𝓤 = (walk_of 𝓛 En hs c).post y in let κ = κs.0 in let q = qs.0 in
    let rb : ℕ = a.0.ref_ptr.0 in let ro : ℕ = a.0.ref_ptr.1 in let γ = a.0.ghost_name in let d : (Br T).Denot = a.0.now in let p : Ptr = a.1.0.ptr in let i : ℕ = a.1.1.0 in
    let told = (lowers (R T) LR).val_is a.1.0 vss.1.0 are.1.0 in let us : List Val = vptr rb ro ∷ base_val p ∷ vint w64 i ∷ [] in
    let Asked : Type 0 = (p ≡ d.at) × (i < length d.links) × There d.values i in
    qed 𝓛 (((‵ (flft κ q) ⊛ ‵ (fsep (flft κs.1.0 qs.1.0) ftrue)) ⊛ ‵ (owns (types_at En.signature.params κs) a vss)) ∷ raw (fact 𝓤 _) ∷ raw (fact 𝓤 Asked) ∷ []) ∵
    keep ! (2 ∷ 0 ∷ []) $ heard ! Asked (λ asked. split ! $ split ! $ move ! (2 ∷ []) $ fsplit ! $ fsplit3 ! $ keep ! (1 ∷ 2 ∷ 4 ∷ 5 ∷ []) $
    regoal ! (λ (ws : List Val). prop (WpFn 𝓤 H 𝓣.C 𝓣.Λ fn ws Post)) (λ j. are.0.0 j ++ (told j ++ (are.1.1.0.0 j ++ []))) refl $
    enter ! 𝓣.C 𝓣.Λ fn us Post $ alloc_all ! (λ l. pass_all ! refl ((tt, tt), (word-Good [] p, ((tt, record { fits = are.1.1.0.1 }), tt))) $ let Ev = env fn.locals l in
    opens ! tt (Br T) rb ro (λ ts. move ! (1 ∷ []) $ fsplit ! $ move ! (1 ∷ []) $ in_a_block ! d.at (λ (q' : Ptr). block_own (R T) q' d.links d.values) (id⊢ 𝓤 (never 𝓤)) (λ b o e. fsplit ! $ flt_l ! (λ small. fsplit ! $
    -- [the links; the values; the mark; its cell; the open borrow; obs; auth; the other token]
    let x : T.Denot = asked.2.0 in let s = stride (R T) in let vo = value_at (R T) in let spot : ℕ = i * s + o + vo in
    let some_cell : i < length d.links = asked.1 in let within : i < length d.values = there_within d.values i x asked.2.1 in
    let tiny : s < 2 ^ 64 = omega (arith, one_below (length d.links) s (2 ^ 63) (omega arith) small) in
    let far : i * s < 2 ^ 64 = omega (arith, times_below i (length d.links) s (2 ^ 63) (omega arith) small) in
    take_at ! 2 $ rewrite ! 0 (λ (q' : Ptr). ‵ (fat full_share (layout Bs) (l 2) 0 (base_val q'))) (asked.0 ∙ e) refl $ give_at ! 2 $ first ! $ blocks ! $
    sets ! (bin ! (get ! refl) (size_lit ! (record { fits = tiny })) (record { fits = far })) refl (tt, record { fits = far }) $
    sets ! (bin ! (get_in ! (fld ! refl (stop !)) (sub ! 0 refl (whole !))) (get ! refl) tt) refl (tt, tt) $
    sets_last ! (addr ! (through ! refl (fld ! refl (stop !)))) refl (tt, tt) $
    exec ! 𝓣.C 𝓣.Λ Ev (after 1 fn.body) (at_ret Ev Post) $ sets ! (of_opd ! (get ! refl)) refl (tt, tt) $
    move ! (1 ∷ []) $ use1 𝓛 (‵ (place (R T) b spot (get_or d.values i None)) ⊛ ‵ (Others (R T) s vo 𝓛 b o d.values i within)) (place_out (R T) s vo 𝓛 b o d.values i within) $ split ! $
    rewrite ! 0 (λ (u : Option T.Denot). ‵ (place (R T) b spot u)) asked.2.1 refl $
    let rest = sem 𝓛 (Rest T 𝓛 rb ro d i within ts b o) in let way = back T 𝓛 rb ro d i within ts b o e small in let made = new T 𝓛 rb ro d i within ts b o in let code' = (Br T).coded.code d in
    move ! (3 ∷ 4 ∷ []) $ fjoin ! $ move ! (3 ∷ 0 ∷ []) $ fjoin ! $ move ! (2 ∷ 0 ∷ []) $ fjoin ! $ move ! (2 ∷ 3 ∷ 4 ∷ 1 ∷ 0 ∷ []) $ group ! 5 $
    use1 𝓛 (later (some (λ (δ : GName). raw (Part 𝓛 (Br T) (R T) made (named 0) κ q rb ro b spot γ rest way x δ)))) (lends_Part 𝓛 (Br T) (R T) made (named 0) κ q rb ro b spot γ rest way code' code' x) $ await ! tt $ pick ! (λ δ.
    let r : MutBor T.Denot = record { ref_ptr = (b, spot); ghost_name = δ; now = x } in
    use1 𝓛 (‵ ((MutRef (named 0) κ (R T)).own_val r (vptr b spot ∷ [])) ⊛ ‵ (flft κ q) ⊛ ‵ (follows (Br T) (R T) γ δ made)) (id⊢ 𝓤 _) $ split3 ! $
    move ! (1 ∷ 3 ∷ []) $ join ! $ nothing ! $ nothing ! $ fjoin ! $ nothing ! $ fjoin ! $ nothing ! $ fjoin ! $
    let Told : Type 0 = get_or d.values i None ≡ Some x in use0 𝓛 (raw (fact 𝓤 Told)) (fact_i 𝓤 Told (emp 𝓤) asked.2.1) $ move ! (4 ∷ 0 ∷ []) $ join ! $
    returns ! (look_at ! 0 refl) $ free_all ! refl $ keep ! (2 ∷ 1 ∷ 3 ∷ 0 ∷ []) $ by ! (leaves 𝓛 En hs c y (vptr b spot) r (tt, (tt, (tt, tt))) (tt, (tt, (tt, tt)))))))))))
