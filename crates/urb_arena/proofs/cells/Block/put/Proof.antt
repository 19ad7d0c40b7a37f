-- `put` writes into room. Assumes `Logic`.
use Rattle.std.proofs.Common.{◌≡◌, ℕ, ◌+◌, ◌*◌, ◌^◌, ◌<◌, List, [], ◌∷◌, ◌++◌, refl, sym, ◌∙◌, arith, length, get_or, w64}
use Rattle.std.specs.Prelude.{Option, Some, None}
use lib.ListN.{set}
use mir.Syntax.{a_type}
use mir.MapTy.{inst_fn}
use mir.Val.{Val, vunit, vint, vptr}
use base.Fraction.{full_share}
use base.Logic.{SProp, emp, never, id⊢}
use base.Fml.{ftrue, fsep, flft, fat}
use prog.Wp.{WpFn}
use types.Kit.{‵, raw, ◌⊛◌, at_ret, prop, ◌$◌, ◌∵◌, !, qed, by, move, keep, use0, use1, use2, split, join, fsplit, fsplit3, fjoin, fjoin3, rewrite, regoal, feq_i, flt_i, flt_l}
use types.Part.{whole, sub}
use types.Run.{stop, fld, of_opd, unit_lit, size_lit, bin, addr, init, assigns_last, first, blocks, exec, returns, enter}
use types.ByLocal.{alloc_all, pass_all, free_all, look_at, get, get_in, through, take_at, give_at, sets, env}
use contract.Monad.{fact, fact_i}
use contract.Running.{tables}
use denote.Exit.{yes, no}
use denote.RattleType.{RattleType, owns}
use denote.Signature.{types_at, plain}
use denote.RawPtr.{Ptr, in_a_block}
use denote.Steps.{nothing, heard, opens, closes}
use denote.Param.{param, layout, layouts}
use denote.Param.Laws.{param_laws}
use denote.Builtin.{usize}
use denote.Triple.Walked.{Stays, stay_dropped, stay_ref, walk_of, Goes-dropped, Goes-ref}
use borrow.Table.OneValue.{part_in}
use Rattle.core.proofs.cell.Inside.{one}
use Rattle.core.proofs.ptr.Rows.{times_below, one_below}
use Rattle.std_alloc.proofs.VecSteps.Shapes.{after}
use Rattle.std_alloc.proofs.RcSteps.{word-Good}
use Rattle.std_alloc.proofs.RawLayout.{as_written}
use Rattle.std.proofs.raw_atomic.Walks.{proved_at, leaves}
use Rattle.urb_arena.specs.Inner.Ownership.{place, column, block_own, stride, value_at}
use Rattle.urb_arena.proofs.Parts.{Others, place_out, place_in, base_val}
use Rattle.urb_arena.specs.contracts.cells.Block as block
use Rattle.urb_arena.specs.contracts.cells.Base as origin
use Rattle.urb_arena.proofs.cells.Base.TheLaws.{lowers}
use Rattle.urb_arena.specs.contracts.cells.Block.put.{ended, clauses}
use Rattle.urb_arena.specs.contracts.cells.Block.put.Key.{name as #self}
use Rattle.urb_arena.proofs.cells.Block.put.Statement.{statement}
use Rattle.urb_arena.proofs.cells.Block.put.Code as code

pub put_spec : {M : Type 1} → statement M
put_spec 𝓤 𝓛 𝓜 𝓡 wired T L =
    let H = 𝓛.H in let 𝓣 = tables 𝓤 H 𝓜 𝓡 𝓡.env in let R : RattleType = param 0 T in let LR = param_laws 0 T L in let Br : RattleType = block.the_row R in let Bs : RattleType = origin.the_row R in
    let En = ended T in let c = clauses T 𝓛 𝓜.mem 𝓡.returns in let inst = layouts (a_type ∷ []) (T, tt) in let fn = inst_fn inst code.function in
    let hs : Stays En.signature.params En.kept = (stay_ref (0 ∷ []) tt (plain (λ _. Br)), (stay_dropped (plain (λ _. Bs)) no, (stay_dropped (plain (λ _. usize)) yes, (stay_dropped (plain (λ _. R)) no, tt)))) in
    proved_at 𝓛 En hs c 𝓜 𝓡 (Goes-ref 𝓛 2 0 tt (plain (λ _. Br)), (Goes-dropped 𝓛 2 (plain (λ _. Bs)) no (λ κs x f. refl), (Goes-dropped 𝓛 2 (plain (λ _. usize)) yes (λ κs x f. refl), (Goes-dropped 𝓛 2 (plain (λ _. R)) no (λ κs x f. refl), tt))))
    (#self inst) fn (code.unfolded 𝓤 H 𝓜 𝓡 wired (T, tt)) (λ y are.
    let κs = y.0.0 in let qs = y.0.1 in let a = y.0.3 in let vss = y.0.4 in let Post : Val → SProp 𝓤 = (walk_of 𝓛 En hs c).post y in
    let rb : ℕ = a.0.ref_ptr.0 in let ro : ℕ = a.0.ref_ptr.1 in let d : Br.Denot = a.0.now in let p : Ptr = a.1.0.ptr in let i : ℕ = a.1.1.0 in let x : T.Denot = a.1.1.1.0 in
    let got = one (layout T) vss.1.1.1.0 ((LR.lawful 𝓛).typed x vss.1.1.1.0 are.1.1.1.0) in let v : Val = got.0 in
    let told = (lowers R LR).val_is a.1.0 vss.1.0 are.1.0 in let us : List Val = vptr rb ro ∷ base_val p ∷ vint w64 i ∷ v ∷ [] in
    let Asked : Type 0 = (p ≡ d.at) × (i < length d.links) × (i < length d.values) × (get_or d.values i None ≡ None) in
    qed 𝓛 (((‵ (flft κs.0 qs.0) ⊛ ‵ (fsep (flft κs.1.0 qs.1.0) ftrue)) ⊛ ‵ (owns (types_at En.signature.params κs) a vss)) ∷ raw (fact 𝓤 _) ∷ raw (fact 𝓤 Asked) ∷ []) ∵
    keep ! (2 ∷ 0 ∷ []) $ heard ! Asked (λ asked. split ! $ split ! $ move ! (2 ∷ []) $ fsplit3 ! $ fsplit3 ! $ move ! (4 ∷ []) $ fsplit3 ! $ keep ! (4 ∷ 5 ∷ 7 ∷ 1 ∷ 8 ∷ []) $
    rewrite ! 3 (λ (ws : List Val). ‵ (R.own_val x ws)) got.1 refl $
    regoal ! (λ (ws : List Val). prop (WpFn 𝓤 H 𝓣.C 𝓣.Λ fn ws Post)) (λ j. are.0.0 j ++ (told j ++ (are.1.1.0.0 j ++ (got.1 j ++ [])))) refl $
    enter ! 𝓣.C 𝓣.Λ fn us Post $ alloc_all ! (λ l. pass_all ! refl ((tt, tt), (word-Good [] p, ((tt, record { fits = are.1.1.0.1 }), (got.2, tt)))) $ let Ev = env fn.locals l in
    opens ! tt Br rb ro (λ ts. move ! (1 ∷ []) $ fsplit ! $ move ! (1 ∷ []) $ in_a_block ! d.at (λ (q : Ptr). block_own R q d.links d.values) (id⊢ 𝓤 (never 𝓤)) (λ b o e. fsplit ! $ flt_l ! (λ small. fsplit ! $
    -- [the links; the values; the mark; its cell; the open borrow; obs; auth; what the value owns; the other token]
    let s = stride R in let vo = value_at R in let spot : ℕ = i * s + o + vo in let new = set d.values i (Some x) in
    let some_cell : i < length d.links = asked.1 in let tiny : s < 2 ^ 64 = omega (arith, one_below (length d.links) s (2 ^ 63) (omega arith) small) in
    let far : i * s < 2 ^ 64 = omega (arith, times_below i (length d.links) s (2 ^ 63) (omega arith) small) in
    take_at ! 2 $ rewrite ! 0 (λ (q : Ptr). ‵ (fat full_share (layout Bs) (l 2) 0 (base_val q))) (asked.0 ∙ e) refl $ give_at ! 2 $ first ! $ blocks ! $
    sets ! (bin ! (get ! refl) (size_lit ! (record { fits = tiny })) (record { fits = far })) refl (tt, record { fits = far }) $
    sets ! (bin ! (get_in ! (fld ! refl (stop !)) (sub ! 0 refl (whole !))) (get ! refl) tt) refl (tt, tt) $
    sets ! (addr ! (through ! refl (fld ! refl (stop !)))) refl (tt, tt) $
    move ! (1 ∷ []) $ use1 𝓛 (‵ (place R b spot (get_or d.values i None)) ⊛ ‵ (Others R s vo 𝓛 b o d.values i asked.2)) (place_out R s vo 𝓛 b o d.values i asked.2) $ split ! $
    rewrite ! 0 (λ (u : Option T.Denot). ‵ (place R b spot u)) asked.3 refl $ as_written ! (layout T) b spot $
    sets ! (of_opd ! (get ! refl)) refl got.2 $ assigns_last ! (of_opd ! (get ! refl)) (through ! refl (stop !)) (init ! 0 refl got.2) $
    exec ! 𝓣.C 𝓣.Λ Ev (after 1 fn.body) (at_ret Ev Post) $ sets ! (of_opd ! (unit_lit !)) refl (tt, tt) $
    move ! (0 ∷ 8 ∷ []) $ use2 𝓛 (‵ (place R b spot (Some x))) (part_in 𝓛 R refl full_share x b spot v) $
    use2 𝓛 (‵ (column R s vo b o new)) (place_in R s vo 𝓛 b o d.values i asked.2 (Some x)) $ move ! (1 ∷ 0 ∷ []) $ fjoin ! $ flt_i ! (length d.links * s) (2 ^ 63) small $ fjoin ! $
    rewrite ! 0 (λ (q : Ptr). ‵ (block_own R q d.links new)) (sym e) refl $ move ! (1 ∷ 0 ∷ []) $ fjoin ! $ move ! (1 ∷ 0 ∷ []) $
    let d' : Br.Denot = record { mark = d.mark; at = d.at; links = d.links; values = new } in
    closes ! tt Br d' ts rb ro $ feq_i ! (List Val) vss.0 (vptr rb ro ∷ []) are.0.0 $ fjoin3 ! $ nothing ! $ nothing ! $ fjoin ! $ nothing ! $ fjoin ! $ nothing ! $ fjoin ! $ move ! (1 ∷ 0 ∷ []) $ fjoin ! $ move ! (1 ∷ 2 ∷ []) $ join ! $
    let Kept : Type 0 = (d.at ≡ d.at) × (d.links ≡ d.links) × (new ≡ new) in
    use0 𝓛 (raw (fact 𝓤 Kept)) (fact_i 𝓤 Kept (emp 𝓤) (refl, refl, refl)) $ feq_i ! (List Val) (vunit ∷ []) (vunit ∷ []) refl $
    returns ! (look_at ! 0 refl) $ free_all ! refl $ keep ! (2 ∷ 3 ∷ 0 ∷ 1 ∷ []) $ by ! (leaves 𝓛 En hs c y vunit tt (d', (tt, (tt, (tt, tt)))) (tt, (tt, (tt, (tt, tt)))))))))))
