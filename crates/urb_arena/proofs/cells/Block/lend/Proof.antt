-- `lend` shows a value that the block lends. Assumes `Logic`.
use Rattle.std.proofs.Common.{◌≡◌, ℕ, ◌+◌, ◌*◌, ◌^◌, ◌<◌, List, [], ◌∷◌, ◌++◌, refl, ◌∙◌, arith, length, get_or, w64}
use Rattle.std.specs.Prelude.{Option, Some, None}
use mir.Syntax.{a_type}
use mir.MapTy.{inst_fn}
use mir.Val.{Val, vint, vptr}
use base.Fraction.{full_share}
use base.Logic.{SProp, emp, never, id⊢}
use base.Fml.{ftrue, fsep, flft, fat}
use prog.Wp.{WpFn}
use types.Kit.{‵, raw, ◌⊛◌, at_ret, prop, ◌$◌, ◌∵◌, !, qed, by, move, keep, drop, use0, use1, split, join, fsplit, fjoin, rewrite, regoal, feq_i, flt_l}
use types.Part.{whole, sub}
use types.Run.{stop, fld, of_opd, size_lit, bin, addr, first, blocks, exec, returns, enter}
use types.ByLocal.{alloc_all, pass_all, free_all, look_at, get, get_in, through, take_at, give_at, sets, sets_last, env}
use contract.Monad.{fact, fact_i}
use contract.Running.{tables}
use denote.Exit.{yes, no}
use denote.RattleType.{RattleType, owns}
use denote.Signature.{types_at, plain}
use denote.Builtin.{RefOf}
use denote.RawPtr.{Ptr, in_a_block}
use denote.Steps.{nothing, heard}
use denote.Param.{param, layout, layouts}
use denote.Param.Laws.{param_laws}
use denote.Builtin.{usize}
use denote.Triple.Walked.{Stays, stay_dropped, walk_of, Goes-dropped}
use Rattle.core.proofs.ptr.Rows.{times_below, one_below}
use Rattle.std_alloc.proofs.VecSteps.Shapes.{after}
use Rattle.std_alloc.proofs.RcSteps.{word-Good}
use Rattle.std.proofs.raw_atomic.Walks.{proved_at, leaves}
use denote.Opens.{unhide, hide}
use Rattle.urb_arena.specs.Inner.Ownership.{place_lent, block_lent, stride, value_at}
use Rattle.urb_arena.specs.Inner.Columns.{There}
use Rattle.urb_arena.proofs.Parts.{there_within, place_seen, base_val}
use Rattle.urb_arena.specs.contracts.cells.Block as block
use Rattle.urb_arena.specs.contracts.cells.Base as origin
use Rattle.urb_arena.proofs.cells.Base.TheLaws.{lowers}
use Rattle.urb_arena.specs.contracts.cells.Block.lend.{ended, clauses}
use Rattle.urb_arena.specs.contracts.cells.Block.lend.Key.{name as #self}
use Rattle.urb_arena.proofs.cells.Block.lend.Statement.{statement}
use Rattle.urb_arena.proofs.cells.Block.lend.Code as code

pub lend_spec : {M : Type 1} → statement M
lend_spec 𝓤 𝓛 𝓜 𝓡 wired T L =
    let H = 𝓛.H in let 𝓣 = tables 𝓤 H 𝓜 𝓡 𝓡.env in let R : RattleType = param 0 T in let LR = param_laws 0 T L in let Br : RattleType = block.the_row R in let Bs : RattleType = origin.the_row R in
    let En = ended T in let c = clauses T 𝓛 𝓜.mem 𝓡.returns in let inst = layouts (a_type ∷ []) (T, tt) in let fn = inst_fn inst code.function in
    let hs : Stays En.signature.params En.kept = (stay_dropped (RefOf (0 ∷ []) tt (plain (λ _. Br)) (λ _. tt)) yes, (stay_dropped (plain (λ _. Bs)) no, (stay_dropped (plain (λ _. usize)) yes, tt))) in
    proved_at 𝓛 En hs c 𝓜 𝓡 (Goes-dropped 𝓛 2 (RefOf (0 ∷ []) tt (plain (λ _. Br)) (λ _. tt)) yes (λ κs x f. refl), (Goes-dropped 𝓛 2 (plain (λ _. Bs)) no (λ κs x f. refl), (Goes-dropped 𝓛 2 (plain (λ _. usize)) yes (λ κs x f. refl), tt)))
    (#self inst) fn (code.unfolded 𝓤 H 𝓜 𝓡 wired (T, tt)) (λ y are.
    let κs = y.0.0 in let qs = y.0.1 in let a = y.0.3 in let vss = y.0.4 in let Post : Val → SProp 𝓤 = (walk_of 𝓛 En hs c).post y in let κ = κs.0 in
    let rb : ℕ = a.0.ref_ptr.0 in let ro : ℕ = a.0.ref_ptr.1 in let d : Br.Denot = a.0.now in let p : Ptr = a.1.0.ptr in let i : ℕ = a.1.1.0 in
    let told = (lowers R LR).val_is a.1.0 vss.1.0 are.1.0 in let us : List Val = vptr rb ro ∷ base_val p ∷ vint w64 i ∷ [] in
    let Asked : Type 0 = (p ≡ d.at) × (i < length d.links) × There d.values i in
    qed 𝓛 (((‵ (flft κ qs.0) ⊛ ‵ (fsep (flft κs.1.0 qs.1.0) ftrue)) ⊛ ‵ (owns (types_at En.signature.params κs) a vss)) ∷ raw (fact 𝓤 _) ∷ raw (fact 𝓤 Asked) ∷ []) ∵
    keep ! (2 ∷ 0 ∷ []) $ heard ! Asked (λ asked. split ! $ split ! $ move ! (2 ∷ []) $ fsplit ! $ fsplit ! $ keep ! (1 ∷ 3 ∷ 4 ∷ []) $
    regoal ! (λ (ws : List Val). prop (WpFn 𝓤 H 𝓣.C 𝓣.Λ fn ws Post)) (λ j. are.0.0 j ++ (told j ++ (are.1.1.0.0 j ++ []))) refl $
    enter ! 𝓣.C 𝓣.Λ fn us Post $ alloc_all ! (λ l. pass_all ! refl ((tt, tt), (word-Good [] p, ((tt, record { fits = are.1.1.0.1 }), tt))) $ let Ev = env fn.locals l in
    unhide ! $ fsplit ! $ drop ! $ in_a_block ! d.at (λ (q : Ptr). block_lent R q d.links d.values κ) (id⊢ 𝓤 (never 𝓤)) (λ b o e. fsplit ! $ flt_l ! (λ small. fsplit ! $
    -- [the links, lent; the values, lent; the token; the other token]
    let x : T.Denot = asked.2.0 in let s = stride R in let vo = value_at R in let spot : ℕ = i * s + o + vo in
    let some_cell : i < length d.links = asked.1 in
    let tiny : s < 2 ^ 64 = omega (arith, one_below (length d.links) s (2 ^ 63) (omega arith) small) in
    let far : i * s < 2 ^ 64 = omega (arith, times_below i (length d.links) s (2 ^ 63) (omega arith) small) in
    take_at ! 2 $ rewrite ! 0 (λ (q : Ptr). ‵ (fat full_share (layout Bs) (l 2) 0 (base_val q))) (asked.0 ∙ e) refl $ give_at ! 2 $ first ! $ blocks ! $
    sets ! (bin ! (get ! refl) (size_lit ! (record { fits = tiny })) (record { fits = far })) refl (tt, record { fits = far }) $
    sets ! (bin ! (get_in ! (fld ! refl (stop !)) (sub ! 0 refl (whole !))) (get ! refl) tt) refl (tt, tt) $
    move ! (1 ∷ []) $ use1 𝓛 (‵ (place_lent R b spot (get_or d.values i None) κ)) (place_seen R s vo 𝓛 b κ o d.values i (there_within d.values i x asked.2.1)) $
    rewrite ! 0 (λ (u : Option T.Denot). ‵ (place_lent R b spot u κ)) asked.2.1 refl $ hide ! $
    sets_last ! (addr ! (through ! refl (fld ! refl (stop !)))) refl (tt, tt) $
    exec ! 𝓣.C 𝓣.Λ Ev (after 1 fn.body) (at_ret Ev Post) $ sets ! (of_opd ! (get ! refl)) refl (tt, tt) $
    feq_i ! (List Val) (vptr b spot ∷ []) (vptr b spot ∷ []) refl $ fjoin ! $
    nothing ! $ nothing ! $ fjoin ! $ nothing ! $ fjoin ! $ nothing ! $ fjoin ! $ move ! (3 ∷ 4 ∷ []) $ join ! $
    let Told : Type 0 = get_or d.values i None ≡ Some x in use0 𝓛 (raw (fact 𝓤 Told)) (fact_i 𝓤 Told (emp 𝓤) asked.2.1) $
    returns ! (look_at ! 0 refl) $ free_all ! refl $ keep ! (1 ∷ 2 ∷ 3 ∷ 0 ∷ []) $ by ! (leaves 𝓛 En hs c y (vptr b spot) (record { ref_ptr = (b, spot); now = x }) (tt, (tt, (tt, tt))) (tt, (tt, (tt, tt)))))))))
