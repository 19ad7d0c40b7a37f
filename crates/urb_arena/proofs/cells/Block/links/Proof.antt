-- `links` reads through a `&`. Assumes `Logic`.
use Rattle.std.proofs.Common.{◌≡◌, ℕ, ◌+◌, ◌*◌, ◌^◌, ◌<◌, List, [], ◌∷◌, ◌++◌, refl, sym, subst, ◌∙◌, arith, length, get_or, w64}
use Rattle.std.specs.Prelude.{Option, Some, None}
use mir.Syntax.{a_type}
use mir.MapTy.{inst_fn}
use mir.Val.{Val, vint, vptr}
use base.Fraction.{full_share}
use base.Logic.{SProp, emp, never, id⊢}
use base.Fml.{ftrue, fsep, flft, fat}
use prog.Wp.{WpFn}
use types.Kit.{‵, raw, ◌⊛◌, at_ret, prop, ◌$◌, ◌∵◌, !, qed, by, move, keep, drop, use0, use1, split, join, fsplit, fjoin, rewrite, regoal, flt_l}
use types.Part.{whole, sub}
use types.Run.{stop, fld, of_opd, size_lit, bin, load, look_raw, first, blocks, exec, returns, enter}
use types.ByLocal.{alloc_all, pass_all, free_all, look_at, get, get_in, through, take_at, give_at, sets, sets_last, env}
use contract.Monad.{fact, fact_i}
use contract.Running.{tables}
use denote.Exit.{yes, no}
use denote.Laws.{Is, shows}
use denote.RattleType.{RattleType, owns}
use denote.Signature.{types_at, plain}
use denote.Builtin.{RefOf}
use denote.RawPtr.{Ptr, in_a_block}
use denote.Steps.{nothing, heard, peeks, owned, looks, shuts}
use denote.Param.{param, layout, layouts}
use denote.Param.Laws.{param_laws}
use denote.Builtin.{usize}
use denote.Triple.Walked.{Stays, stay_dropped, walk_of, Goes-dropped}
use Rattle.core.proofs.ptr.Rows.{times_below, one_below}
use Rattle.std_alloc.proofs.VecSteps.Shapes.{after}
use Rattle.std_alloc.proofs.RcSteps.{word-Good}
use Rattle.std.proofs.raw_atomic.Walks.{proved_at, leaves}
use denote.Memory.{cell_at}
use denote.Struct.Laws.{makes}
use denote.Opens.{unhide, hide}
use Rattle.urb_arena.specs.Inner.Ownership.{Lk, place_lent, block_lent, stride}
use Rattle.urb_arena.specs.Inner.Columns.{There}
use Rattle.urb_arena.proofs.Parts.{there_within, place_seen, base_val}
use Rattle.urb_arena.specs.contracts.cells.Block as block
use Rattle.urb_arena.specs.contracts.cells.Base as origin
use Rattle.urb_arena.proofs.cells.Base.TheLaws.{lowers}
use Rattle.urb_arena.proofs.cells.Links.TheLaws.{lowers as link_lowers, the_row_laws as link_laws, the_row_copy as link_copy, the_plain as link_plain}
use Rattle.urb_arena.specs.contracts.cells.Links as links
use Rattle.urb_arena.specs.contracts.cells.Block.links.{ended, clauses}
use Rattle.urb_arena.specs.contracts.cells.Block.links.Key.{name as #self}
use Rattle.urb_arena.proofs.cells.Block.links.Statement.{statement}
use Rattle.urb_arena.proofs.cells.Block.links.Code as code

pub links_spec : {M : Type 1} → statement M
links_spec 𝓤 𝓛 𝓜 𝓡 wired T L =
    let H = 𝓛.H in let 𝓣 = tables 𝓤 H 𝓜 𝓡 𝓡.env in let R : RattleType = param 0 T in let LR = param_laws 0 T L in let Br : RattleType = block.the_row R in let Bs : RattleType = origin.the_row R in
    let En = ended T in let c = clauses T 𝓛 𝓜.mem 𝓡.returns in let inst = layouts (a_type ∷ []) (T, tt) in let fn = inst_fn inst code.function in
    let hs : Stays En.signature.params En.kept = (stay_dropped (RefOf (0 ∷ []) tt (plain (λ _. Br)) (λ _. tt)) yes, (stay_dropped (plain (λ _. Bs)) no, (stay_dropped (plain (λ _. usize)) yes, tt))) in
    proved_at 𝓛 En hs c 𝓜 𝓡 (Goes-dropped 𝓛 2 (RefOf (0 ∷ []) tt (plain (λ _. Br)) (λ _. tt)) yes (λ κs x f. refl), (Goes-dropped 𝓛 2 (plain (λ _. Bs)) no (λ κs x f. refl), (Goes-dropped 𝓛 2 (plain (λ _. usize)) yes (λ κs x f. refl), tt)))
    (#self inst) fn (code.unfolded 𝓤 H 𝓜 𝓡 wired (T, tt)) (λ y are.
    let κs = y.0.0 in let qs = y.0.1 in let a = y.0.3 in let vss = y.0.4 in let Post : Val → SProp 𝓤 = (walk_of 𝓛 En hs c).post y in let κ = κs.0 in
    let rb : ℕ = a.0.ref_ptr.0 in let ro : ℕ = a.0.ref_ptr.1 in let d : Br.Denot = a.0.now in let p : Ptr = a.1.0.ptr in let i : ℕ = a.1.1.0 in
    let told = (lowers R LR).val_is a.1.0 vss.1.0 are.1.0 in let us : List Val = vptr rb ro ∷ base_val p ∷ vint w64 i ∷ [] in
    let Asked : Type 0 = (p ≡ d.at) × There d.links i in
    qed 𝓛 (((‵ (flft κ qs.0) ⊛ ‵ (fsep (flft κs.1.0 qs.1.0) ftrue)) ⊛ ‵ (owns (types_at En.signature.params κs) a vss)) ∷ raw (fact 𝓤 _) ∷ raw (fact 𝓤 Asked) ∷ []) ∵
    keep ! (2 ∷ 0 ∷ []) $ heard ! Asked (λ asked. split ! $ split ! $ move ! (2 ∷ []) $ fsplit ! $ fsplit ! $ keep ! (1 ∷ 3 ∷ 4 ∷ []) $
    regoal ! (λ (ws : List Val). prop (WpFn 𝓤 H 𝓣.C 𝓣.Λ fn ws Post)) (λ j. are.0.0 j ++ (told j ++ (are.1.1.0.0 j ++ []))) refl $
    enter ! 𝓣.C 𝓣.Λ fn us Post $ alloc_all ! (λ l. pass_all ! refl ((tt, tt), (word-Good [] p, ((tt, record { fits = are.1.1.0.1 }), tt))) $ let Ev = env fn.locals l in
    unhide ! $ fsplit ! $ drop ! $ in_a_block ! d.at (λ (q : Ptr). block_lent R q d.links d.values κ) (id⊢ 𝓤 (never 𝓤)) (λ b o e. fsplit ! $ flt_l ! (λ small. fsplit ! $
    -- [the links, lent; the values, lent; the token; the other token]
    let x : Lk.Denot = asked.1.0 in let s = stride R in let spot : ℕ = i * s + o + 0 in
    let some_cell : i < length d.links = there_within d.links i x asked.1.1 in
    let tiny : s < 2 ^ 64 = omega (arith, one_below (length d.links) s (2 ^ 63) (omega arith) small) in
    let far : i * s < 2 ^ 64 = omega (arith, times_below i (length d.links) s (2 ^ 63) (omega arith) small) in
    take_at ! 2 $ rewrite ! 0 (λ (q : Ptr). ‵ (fat full_share (layout Bs) (l 2) 0 (base_val q))) (asked.0 ∙ e) refl $ give_at ! 2 $ first ! $ blocks ! $
    sets ! (bin ! (get ! refl) (size_lit ! (record { fits = tiny })) (record { fits = far })) refl (tt, record { fits = far }) $
    sets ! (bin ! (get_in ! (fld ! refl (stop !)) (sub ! 0 refl (whole !))) (get ! refl) tt) refl (tt, tt) $
    use1 𝓛 (‵ (place_lent Lk b spot (get_or d.links i None) κ)) (place_seen Lk s 0 𝓛 b κ o d.links i some_cell) $
    rewrite ! 0 (λ (u : Option Lk.Denot). ‵ (place_lent Lk b spot u κ)) asked.1.1 refl $ hide ! $ move ! (0 ∷ 2 ∷ []) $
    looks ! tt Lk (link_copy.copied _ 𝓤 𝓛).opens x b spot (λ q' ws. move ! (1 ∷ []) $
    peeks ! Lk (Is Lk) (shows 𝓛 Lk) x ws (λ is. let same = link_lowers.val_is x ws is in let v : Val = link_lowers.lowered x in
    let is' = subst (λ (us' : List Val). Is Lk x us') same is in let good = ((link_laws.lawful 𝓛).typed x (v ∷ []) is').0 in
    move ! (1 ∷ []) $ rewrite ! 0 (λ (us' : List Val). ‵ (cell_at q' Lk.mir us' b spot)) same refl $
    sets_last ! (of_opd ! (load ! (through ! refl (fld ! refl (stop !))) (look_raw ! 0 refl))) refl good $
    exec ! 𝓣.C 𝓣.Λ Ev (after 1 fn.body) (at_ret Ev Post) $ sets ! (of_opd ! (get ! refl)) refl good $
    rewrite ! 0 (λ (us' : List Val). ‵ (cell_at q' Lk.mir us' b spot)) (sym same) refl $ shuts ! tt Lk q' x ws b spot $
    nothing ! $ nothing ! $ fjoin ! $ nothing ! $ fjoin ! $ nothing ! $ fjoin ! $ move ! (1 ∷ 4 ∷ []) $ join ! $
    owned ! Lk (Is Lk) (makes links.the_type link_plain 𝓛) x (v ∷ []) is' $
    let Told : Type 0 = get_or d.links i None ≡ Some x in use0 𝓛 (raw (fact 𝓤 Told)) (fact_i 𝓤 Told (emp 𝓤) asked.1.1) $
    returns ! (look_at ! 0 refl) $ free_all ! refl $ keep ! (2 ∷ 3 ∷ 1 ∷ 0 ∷ []) $ by ! (leaves 𝓛 En hs c y v x (tt, (tt, (tt, tt))) (tt, (tt, (tt, tt)))))))))))
