-- `deallocate` makes the block of its bare cells, and gives it back. Assumes `Logic`.
use Rattle.std.proofs.Common.{◌≡◌, ℕ, ◌*◌, ◌^◌, ◌<◌, List, [], ◌∷◌, ◌++◌, refl, sym, ap, subst, ◌∙◌, arith, w64}
use Rattle.std.specs.Prelude.{Option, None}
use lib.ListN.{length, replicate}
use mir.Syntax.{ty_unit, a_type, dcons, dnil}
use mir.MapTy.{inst_fn}
use mir.Val.{Val, vunit, vint, vptr, has_ty, WT}
use base.Logic.{SProp, never, id⊢, apply∗}
use base.Fml.{Incl-trans, ftrue, fsep, flft, froom}
use prog.Memory.{align, capped}
use prog.Capped.{capped_fits}
use prog.Wp.{WpFn}
use types.Logic.{sem}
use types.Kit.{fsplit3, given, learn, group, rewrite, feq_i, flt_l, ‵, raw, ◌⊛◌, later, await, at_ret, prop, ◌$◌, ◌∵◌, !, qed, by, move, keep, use1, use2, split, join, fsplit, fjoin, regoal}
use types.Part.{whole, sub}
use types.Run.{stop, fld, of_opd, unit_lit, bin, no_more, and_then, size_word, align_word, first, blocks, exec, returns, enter}
use types.ByLocal.{alloc_all, pass_all, free_all, look_at, get, get_in, sets, is, lands_last, env}
use contract.BorrowLft.{◌⊑◌}
use contract.Monad.{fact}
use contract.Running.{tables}
use denote.Builtin.{RefOf, usize}
use denote.Exit.{yes, no}
use denote.RattleType.{RattleType, owns}
use denote.RawPtr.{Ptr, ptr_val, in_a_block}
use denote.Param.{param, bounded}
use denote.Param.Laws.{param_laws}
use denote.Signature.{types_at, plain}
use denote.Steps.{nothing, heard}
use denote.Triple.Call.{calls_at_last}
use denote.Triple.Walked.{Stays, stay_dropped, walk_of, Goes-dropped}
use Rattle.core.proofs.alloc.Calls.{Al, seen, token, Gives, at_gives, Gives-goes, Gives-Gives, Goes-blank}
use Rattle.core.proofs.alloc.Shapes.{after}
use Rattle.core.proofs.atomic.Steps.{fm}
use Rattle.core.proofs.mem.Param.{El, elτ}
use Rattle.core.proofs.slots.Leases.{uncapped, block_ty, block_size, block_align}
use Rattle.std_alloc.proofs.RcSteps.{word-Good}
use Rattle.std.proofs.raw_atomic.Walks.{proved_at, leaves}
use Rattle.urb_arena.specs.Inner.Ownership.{Lk, stride, column, block_own, bare, deed_owns, block_type}
use Rattle.urb_arena.proofs.Parts.{base_val}
use Rattle.urb_arena.proofs.Rooms.{as_el, cleared_all, mark_val}
use lib.Dec.{T as Holds}
use Rattle.urb_arena.proofs.cells.Base.TheLaws.{lowers as base_lowers}
use Rattle.urb_arena.proofs.cells.Block.TheLaws.{lowers as block_lowers}
use Rattle.urb_arena.proofs.cells.Deed.TheLaws.{lowers as deed_lowers}
use Rattle.urb_arena.specs.contracts.cells.Block as block
use Rattle.urb_arena.specs.contracts.cells.Base as origin
use Rattle.urb_arena.specs.contracts.cells.Deed as deed
use Rattle.urb_arena.specs.contracts.cells.deallocate.{ended, clauses}
use Rattle.urb_arena.specs.contracts.cells.deallocate.Key.{name as #self}
use Rattle.urb_arena.proofs.cells.deallocate.Statement.{statement}
use Rattle.urb_arena.proofs.cells.deallocate.Code as code

pub deallocate_spec : {M : Type 1} → statement M
deallocate_spec 𝓤 𝓛 𝓜 𝓡 wired T A LT LA g d dd met md =
    let H = 𝓛.H in let 𝓣 = tables 𝓤 H 𝓜 𝓡 𝓡.env in let R : RattleType = param 0 T in let P : RattleType = param 1 A in let LR = param_laws 0 T LT in let LP = param_laws 1 A LA in
    let Bs : RattleType = origin.the_row R in let Br : RattleType = block.the_row R in let Dd : RattleType = deed.the_row R P g in
    let En = ended T A g d dd in let c = clauses T A g d dd 𝓛 𝓜.mem 𝓡.returns in let inst = bounded (a_type ∷ a_type ∷ []) (T, (A, tt)) (dcons d (dcons dd dnil)) in let fn = inst_fn inst code.function in
    let C : El = as_el T LT in let Z : Al = record { row = A; laws = LA; g = g; d = d; drops = dd } in let s = stride R in
    let hs : Stays En.signature.params En.kept = (stay_dropped (RefOf (0 ∷ []) tt (plain (λ _. P)) (λ _. tt)) yes, (stay_dropped (plain (λ _. Bs)) no, (stay_dropped (plain (λ _. usize)) yes, (stay_dropped (plain (λ _. Br)) no, (stay_dropped (plain (λ _. Dd)) no, tt))))) in
    proved_at 𝓛 En hs c 𝓜 𝓡 (Goes-dropped 𝓛 3 (RefOf (0 ∷ []) tt (plain (λ _. P)) (λ _. tt)) yes (λ κs x f. refl), (Goes-dropped 𝓛 3 (plain (λ _. Bs)) no (λ κs x f. refl), (Goes-dropped 𝓛 3 (plain (λ _. usize)) yes (λ κs x f. refl), (Goes-blank 𝓛 3 (plain (λ _. Br)) no (λ κs x f. tt), (Goes-blank 𝓛 3 (plain (λ _. Dd)) no (λ κs x f. tt), tt)))))
    (#self inst) fn (code.unfolded 𝓤 H 𝓜 𝓡 wired (T, (A, tt)) d dd) (λ y are.
    let κs = y.0.0 in let qs = y.0.1 in let a = y.0.3 in let vss = y.0.4 in let Post : Val → SProp 𝓤 = (walk_of 𝓛 En hs c).post y in let κ = κs.0 in let q = qs.0 in
    let at = a.0.ref_ptr in let h = a.0.now in let p : Ptr = a.1.0.ptr in let n : ℕ = a.1.1.0 in let bl : Br.Denot = a.1.1.1.0 in let de : Dd.Denot = a.1.1.1.1.0 in
    let told = (base_lowers R LR).val_is a.1.0 vss.1.0 are.1.0 in let told' = (block_lowers R LR).val_is bl vss.1.1.1.0 are.1.1.1.0 in let told'' = (deed_lowers R P g LR LP).val_is de vss.1.1.1.1.0 are.1.1.1.1.0 in
    let Asked : Type 0 = (bl.at ≡ p) × (length bl.links ≡ n) × (bl.values ≡ replicate n None) × (de.at ≡ p) × (de.len ≡ n) × (de.alloc ≡ h) in let us : List Val = vptr at.0 at.1 ∷ base_val p ∷ vint w64 n ∷ mark_val ∷ mark_val ∷ [] in
    qed 𝓛 (((‵ (flft κ q) ⊛ ‵ (fsep (flft κs.1.0 qs.1.0) (fsep (flft κs.1.1.0 qs.1.1.0) ftrue))) ⊛ ‵ (owns (types_at En.signature.params κs) a vss)) ∷ raw (fact 𝓤 _) ∷ raw (fact 𝓤 (κs.1.1.0 ⊑ A.lives)) ∷ raw (fact 𝓤 Asked) ∷ []) ∵
    keep ! (2 ∷ 3 ∷ 0 ∷ []) $ heard ! _ (λ within. heard ! Asked (λ asked. split ! $ split ! $ move ! (2 ∷ []) $ fsplit3 ! $ fsplit ! $ move ! (3 ∷ []) $ fsplit3 ! $ move ! (2 ∷ []) $ fsplit ! $
    -- [the deed; nothing; the length; the block; the allocator's place; the allocator, lent; the base; its token; the
    -- other tokens]
    fsplit ! $ move ! (4 ∷ []) $ fsplit ! $ keep ! (1 ∷ 3 ∷ 7 ∷ 9 ∷ 10 ∷ []) $ move ! (2 ∷ []) $ use1 𝓛 (‵ (seen Z κ at h)) (id⊢ 𝓤 _) $ move ! (1 ∷ 2 ∷ 0 ∷ []) $
    -- [the cells; the deed; the allocator, lent; its token; the other tokens]
    regoal ! (λ (ws : List Val). prop (WpFn 𝓤 H 𝓣.C 𝓣.Λ fn ws Post)) (λ j. are.0.0 j ++ (told j ++ (are.1.1.0.0 j ++ (told' j ++ (told'' j ++ []))))) refl $
    enter ! 𝓣.C 𝓣.Λ fn us Post $ alloc_all ! (λ l. pass_all ! refl ((tt, tt), (word-Good [] p, ((tt, record { fits = are.1.1.0.1 }), ((tt, (tt, tt)), ((tt, (tt, tt)), tt))))) $ let Ev = env fn.locals l in
    rewrite ! 0 (λ (u : Ptr × List (Option T.Denot)). ‵ (block_own R u.0 bl.links u.1)) (λ j. (asked.0 j, asked.2 j)) refl $
    in_a_block ! p (λ (u : Ptr). block_own R u bl.links (replicate n None)) (id⊢ 𝓤 (never 𝓤)) (λ b o e. fsplit ! $ flt_l ! (λ fit. fsplit ! $
    let small : n * s < 2 ^ 63 = subst (λ k. k * s < 2 ^ 63) asked.1 fit in let bytes : n * s < 2 ^ 64 = omega arith in let al : ℕ = capped (align (elτ C)) in
    let G = Gives Z 𝓛 𝓜.mem 𝓡.returns in let z = at_gives Z 𝓛 𝓜.mem 𝓡.returns κ q at h b o (n * s) al (block_ty C n) in
    use1 𝓛 (‵ (column Lk s 0 b o (replicate (length bl.links) None))) (cleared_all Lk refl s 0 𝓛 b o bl.links) $ rewrite ! 0 (λ (k : ℕ). ‵ (column Lk s 0 b o (replicate k None))) asked.1 refl $ fjoin ! $ move ! (1 ∷ []) $
    rewrite ! 0 (λ (u : A.Denot × Ptr × ℕ). ‵ (deed_owns R (token Z u.0) u.1 u.2)) (λ j. (asked.5 j, (asked.3 ∙ e) j, asked.4 j)) refl $ fsplit ! $ move ! (2 ∷ 1 ∷ []) $
    use2 𝓛 (‵ (froom (block_type R n) b o)) (apply∗ 𝓤 (sem 𝓛 (bare R b o n)) (H.room (block_type R n) b o)) $ first ! $ blocks ! $
    -- [the room; the right to free it; the allocator, lent; its token; the other tokens]
    sets ! (is ! (of_opd ! (get_in ! (fld ! refl (stop !)) (sub ! 0 refl (whole !)))) (ap ptr_val e)) refl (tt, tt) $
    sets ! (is ! (bin ! (get ! refl) (size_word !) (record { fits = subst (λ (k : ℕ). k < 2 ^ 64) (sym (uncapped n s bytes)) bytes })) (ap (vint w64) (uncapped n s bytes))) refl (tt, record { fits = bytes }) $
    group ! 4 $ use1 𝓛 (raw (G.pre z)) (Gives-goes Z 𝓛 𝓜.mem 𝓡.returns κ q at h (Incl-trans y.0.2.0 within) b o (n * s) al (block_ty C n) (block_size C n bytes) (block_align C n) bytes (capped_fits (align (elτ C)))) $
    calls_at_last ! (fm 𝓛 𝓜 𝓡) G (met.deallocate dd) z (and_then ! (get ! refl) (and_then ! (get ! refl) (and_then ! (get ! refl) (and_then ! (align_word !) (no_more !))))) (λ v.
    use1 𝓛 (later (given (v ≡ vunit) (‵ (flft κ q)))) (Gives-Gives Z 𝓛 𝓜.mem 𝓡.returns κ q at h b o (n * s) al (block_ty C n) v) $ await ! tt $ learn ! (λ is_unit.
    lands_last ! refl (subst (λ (u : Val). Holds (has_ty ty_unit u) × WT u) (sym is_unit) (tt, tt)) $ exec ! 𝓣.C 𝓣.Λ Ev (after 1 fn.body) (at_ret Ev Post) $ sets ! (of_opd ! (unit_lit !)) refl (tt, tt) $
    join ! $ nothing ! $ nothing ! $ fjoin ! $ nothing ! $ fjoin ! $ nothing ! $ fjoin ! $ nothing ! $ fjoin ! $ nothing ! $ fjoin ! $ feq_i ! (List Val) (vunit ∷ []) (vunit ∷ []) refl $ nothing ! $
    returns ! (look_at ! 0 refl) $ free_all ! refl $ keep ! (3 ∷ 2 ∷ 1 ∷ 0 ∷ []) $ by ! (leaves 𝓛 En hs c y vunit tt (tt, (tt, (tt, (tt, (tt, tt))))) (tt, (tt, (tt, (tt, (tt, tt))))))))))))))
