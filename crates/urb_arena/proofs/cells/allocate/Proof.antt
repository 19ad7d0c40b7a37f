-- Fresh memory becomes bare cells and a deed. Assumes `Logic`.
use Rattle.std.proofs.Common.{◌≡◌, ℕ, ◌*◌, ◌^◌, ◌<◌, List, [], ◌∷◌, ◌++◌, refl, sym, ap, subst, arith, lit<, w64}
use mathlib.Core.Bool.{true, false}
use Rattle.std.specs.Prelude.{Option, None, Ok, Err}
use lib.ListN.{length, replicate, length-replicate}
use mir.Syntax.{Ty, a_type, dcons, dnil, ty_array}
use mir.MapTy.{inst_fn}
use mir.Val.{Val, vint, vptr, vstruct, vcons, vnil}
use base.Logic.{SProp, emp, id⊢}
use base.Fml.{Fml, Incl-trans, ftrue, fsep, fwand, flft, froom}
use prog.Memory.{align, capped}
use prog.Capped.{capped_fits}
use prog.Wp.{WpFn}
use types.Kit.{‵, raw, ◌⊛◌, later, await, at_ret, prop, ◌$◌, ◌∵◌, !, qed, by, move, keep, use0, use1, use2, use3, split, join, fsplit, fjoin, regoal, flt_i}
use types.Part.{whole, agg}
use types.Match.{live, vrt, in_variant}
use types.Run.{stop, fld, lit, of_opd, bin, no_more, and_then, size_word, align_word, first, switches_on, exec, returns, enter}
use types.ByLocal.{alloc_all, pass_all, free_all, look_at, get, get_in, get_tag, sets, sets_last, is, lands_as, env}
use contract.BorrowLft.{◌⊑◌}
use contract.Monad.{fact, fact_i}
use contract.Running.{tables}
use denote.Builtin.{RefOf, usize}
use denote.Exit.{yes}
use denote.Laws.{Is}
use denote.RattleType.{RattleType, owns}
use denote.RawPtr.{Ptr, block_ptr}
use denote.Param.{param, layout, bounded}
use denote.Signature.{types_at, plain}
use denote.Steps.{nothing, owned, heard}
use denote.Struct.Declared as Declared
use denote.Struct.Struct.{Struct, Struct-Makes}
use denote.Struct.Tuple.{Tuple}
use denote.Triple.Call.{calls_at}
use denote.Triple.Walked.{Stays, stay_dropped, walk_of, Goes-dropped}
use Rattle.core.proofs.alloc.Calls.{Al, seen, Takes, at_takes, Answered, Answer-typed, Takes-goes, Takes-gives, answers}
use Rattle.core.proofs.alloc.Shapes.{after, head, arm_body}
use Rattle.core.proofs.atomic.Steps.{fm}
use Rattle.core.proofs.mem.Param.{El, elτ}
use Rattle.core.proofs.slots.Leases.{uncapped, block_ty, block_size, block_align}
use Rattle.std_alloc.proofs.RawLayout.{as_written}
use Rattle.std_alloc.proofs.RcSteps.{Good, word-Good, first_Good}
use Rattle.std_alloc.proofs.ResultValues.{ok_of, err_of}
use Rattle.std.proofs.raw_atomic.Walks.{proved_at, leaves}
use Rattle.std.specs.Vec.Ownership.{FitsInBlock}
use Rattle.core.specs.contracts.result.Result as RS
use Rattle.core.specs.contracts.alloc.AllocError as AE
use Rattle.urb_arena.specs.Inner.Ownership.{Lk, stride, bare, rejoins}
use Rattle.urb_arena.proofs.Parts.{base_val, goes_on}
use Rattle.urb_arena.proofs.Rooms.{as_el, cell_ty, bared, rejoined, base_made, mark_val, mark_own, mark_made, triple_val, triple_made}
use Rattle.urb_arena.specs.contracts.cells.Cell as cell
use Rattle.urb_arena.specs.contracts.cells.Block as block
use Rattle.urb_arena.specs.contracts.cells.Base as origin
use Rattle.urb_arena.specs.contracts.cells.Deed as deed
use Rattle.urb_arena.specs.contracts.cells.allocate.{ended, clauses}
use Rattle.urb_arena.specs.contracts.cells.allocate.Key.{name as #self}
use Rattle.urb_arena.proofs.cells.allocate.Statement.{statement}
use Rattle.urb_arena.proofs.cells.allocate.Code as code

pub allocate_spec : {M : Type 1} → statement M
allocate_spec 𝓤 𝓛 𝓜 𝓡 wired T A LT LA g d dd met md =
    let H = 𝓛.H in let 𝓣 = tables 𝓤 H 𝓜 𝓡 𝓡.env in let R : RattleType = param 0 T in let P : RattleType = param 1 A in
    let Bs : RattleType = origin.the_row R in let Br : RattleType = block.the_row R in let Dd : RattleType = deed.the_row R P g in let Three : RattleType = Tuple (Bs ∷ Br ∷ Dd ∷ []) in let Out : RattleType = RS.the_row Three AE.the_row in
    let En = ended T A g d dd in let c = clauses T A g d dd 𝓛 𝓜.mem 𝓡.returns in let inst = bounded (a_type ∷ a_type ∷ []) (T, (A, tt)) (dcons d (dcons dd dnil)) in let fn = inst_fn inst code.function in
    let C : El = as_el T LT in let Z : Al = record { row = A; laws = LA; g = g; d = d; drops = dd } in let s = stride R in
    let hs : Stays En.signature.params En.kept = (stay_dropped (RefOf (0 ∷ []) tt (plain (λ _. P)) (λ _. tt)) yes, (stay_dropped (plain (λ _. usize)) yes, tt)) in
    proved_at 𝓛 En hs c 𝓜 𝓡 (Goes-dropped 𝓛 3 (RefOf (0 ∷ []) tt (plain (λ _. P)) (λ _. tt)) yes (λ κs x f. refl), (Goes-dropped 𝓛 3 (plain (λ _. usize)) yes (λ κs x f. refl), tt))
    (#self inst) fn (code.unfolded 𝓤 H 𝓜 𝓡 wired (T, (A, tt)) d dd) (λ y are.
    let κs = y.0.0 in let qs = y.0.1 in let a = y.0.3 in let vss = y.0.4 in let Post : Val → SProp 𝓤 = (walk_of 𝓛 En hs c).post y in let κ = κs.0 in let q = qs.0 in
    let at = a.0.ref_ptr in let h = a.0.now in let n : ℕ = a.1.0 in let τ : Ty = block_ty C n in let al : ℕ = capped (align (elτ C)) in
    let Asked : Type 0 = FitsInBlock (cell.the_row R) n in let us : List Val = vptr at.0 at.1 ∷ vint w64 n ∷ [] in
    qed 𝓛 (((‵ (flft κ q) ⊛ ‵ (fsep (flft κs.1.0 qs.1.0) (fsep (flft κs.1.1.0 qs.1.1.0) ftrue))) ⊛ ‵ (owns (types_at En.signature.params κs) a vss)) ∷ raw (fact 𝓤 _) ∷ raw (fact 𝓤 (κs.1.1.0 ⊑ A.lives)) ∷ raw (fact 𝓤 Asked) ∷ []) ∵
    keep ! (2 ∷ 3 ∷ 0 ∷ []) $ heard ! _ (λ within. heard ! Asked (λ asked. split ! $ split ! $ move ! (2 ∷ []) $ fsplit ! $ fsplit ! $ keep ! (1 ∷ 3 ∷ 4 ∷ []) $ use1 𝓛 (‵ (seen Z κ at h)) (id⊢ 𝓤 _) $
    -- [the allocator, lent; its token; the other tokens]
    let small : n * s < 2 ^ 63 = asked.0 in let bytes : n * s < 2 ^ 64 = omega arith in let other : Fml = fsep (flft κs.1.0 qs.1.0) (fsep (flft κs.1.1.0 qs.1.1.0) ftrue) in
    let G = Takes Z 𝓛 𝓜.mem 𝓡.returns in let z = at_takes Z 𝓛 𝓜.mem 𝓡.returns κ q at h (n * s) al τ in
    regoal ! (λ (ws : List Val). prop (WpFn 𝓤 H 𝓣.C 𝓣.Λ fn ws Post)) (λ j. are.0.0 j ++ (are.1.0.0 j ++ [])) refl $
    enter ! 𝓣.C 𝓣.Λ fn us Post $ alloc_all ! (λ l. pass_all ! refl ((tt, tt), ((tt, record { fits = are.1.0.1 }), tt)) $ let Ev = env fn.locals l in let Then = goes_on 𝓛 𝓣.C 𝓣.Λ Ev (after 3 fn.body) (at_ret Ev Post) in
    sets ! (is ! (bin ! (get ! refl) (size_word !) (record { fits = subst (λ (k : ℕ). k < 2 ^ 64) (sym (uncapped n s bytes)) bytes })) (ap (vint w64) (uncapped n s bytes))) refl (tt, record { fits = bytes }) $
    use2 𝓛 (raw (G.pre z)) (Takes-goes Z 𝓛 𝓜.mem 𝓡.returns κ q at h (Incl-trans y.0.2.0 within) (n * s) al τ (block_size C n bytes) (block_align C n) bytes (capped_fits (align (elτ C)))) $
    calls_at ! (fm 𝓛 𝓜 𝓡) G (met.allocate dd) z (and_then ! (get ! refl) (and_then ! (get ! refl) (and_then ! (align_word !) (no_more !)))) (λ v.
    use1 𝓛 (later (raw (Answered Z 𝓛 𝓜.mem 𝓡.returns h τ v) ⊛ ‵ (flft κ q))) (Takes-gives Z 𝓛 𝓜.mem 𝓡.returns κ q at h (n * s) al τ v) $ await ! tt $ split ! $
    answers Z ! 𝓜.mem 𝓡.returns h τ v
    (λ b o e.
    -- [the room; the right to free it; the token; the other tokens]
    let p : Ptr = block_ptr b o in let none : List (Option Lk.Denot) = replicate n None in let none' : List (Option T.Denot) = replicate n None in
    let made : Bs.Denot = record { ptr = p } in let block' : Br.Denot = record { mark = record {}; at = p; links = none; values = none' } in let deed' : Dd.Denot = record { mark = record {}; at = p; len = n; alloc = h } in
    let w : Val = triple_val (base_val p) mark_val mark_val in let out : Val = live 0 (vcons w vnil) in
    let typed : Good (layout Three) w = (tt, ((tt, tt), ((tt, tt), ((tt, tt), tt)))) in let ok = first_Good (layout Three) w typed in
    lands_as ! e refl (Answer-typed true b o) $ first ! $ switches_on ! (get_tag ! (vrt ! refl (fld ! refl (stop !))) (whole !)) $ exec ! 𝓣.C 𝓣.Λ Ev (arm_body 0 (head (after 2 fn.body))) Then $
    sets ! (of_opd ! (get_in ! (vrt ! refl (fld ! refl (stop !))) (in_variant ! 0 0 refl refl (whole !)))) refl (tt, tt) $ sets ! (of_opd ! (get ! refl)) refl (tt, tt) $
    sets ! (agg ! (and_then ! (get ! refl) (no_more !))) refl (word-Good [] p) $
    sets ! (agg ! (no_more !)) refl (tt, tt) $ sets ! (agg ! (and_then ! (get ! refl) (no_more !))) refl (tt, (tt, tt)) $
    sets ! (agg ! (no_more !)) refl (tt, tt) $ sets ! (agg ! (and_then ! (get ! refl) (no_more !))) refl (tt, (tt, tt)) $
    sets ! (agg ! (and_then ! (get ! refl) (and_then ! (get ! refl) (and_then ! (get ! refl) (no_more !))))) refl typed $
    sets_last ! (agg ! (and_then ! (lit ! tt) (and_then ! (get ! refl) (no_more !)))) refl ok $
    exec ! 𝓣.C 𝓣.Λ Ev (after 3 fn.body) (at_ret Ev Post) $ sets ! (of_opd ! (get ! refl)) refl ok $
    as_written ! (ty_array (cell_ty T) n) b o $ use1 𝓛 (‵ (bare R b o n) ⊛ ‵ (fwand (bare R b o n) (froom (ty_array (cell_ty T) n) b o))) (bared T 𝓛 b n o) $ split ! $
    flt_i ! (length none * s) (2 ^ 63) (subst (λ k. k * s < 2 ^ 63) (sym (length-replicate n None)) small) $ fjoin ! $ use0 𝓛 (‵ (mark_own T (mark_val ∷ []))) (mark_made T 𝓛) $ fjoin ! $
    move ! (1 ∷ []) $ use1 𝓛 (‵ (rejoins R p n)) (rejoined T 𝓛 b n o) $ move ! (2 ∷ 0 ∷ []) $ fjoin ! $ use0 𝓛 (‵ (mark_own T (mark_val ∷ []))) (mark_made T 𝓛) $ fjoin ! $
    use0 𝓛 (‵ (Bs.own_val made (base_val p ∷ []))) (base_made T 𝓛 p) $ move ! (0 ∷ 2 ∷ 1 ∷ []) $
    use3 𝓛 (‵ (Three.own_val (made, block', deed') (w ∷ []))) (triple_made 𝓛 Bs Br Dd made block' deed' (base_val p) mark_val mark_val) $ use1 𝓛 (‵ (Out.own_val (Ok (made, block', deed')) (out ∷ []))) (ok_of 𝓛 Three AE.the_row (made, block', deed') w) $
    move ! (1 ∷ 2 ∷ []) $ join ! $ nothing ! $ nothing ! $ fjoin ! $ nothing ! $ fjoin ! $
    let Told : Type 0 = (p ≡ p) × (none ≡ none) × (none' ≡ none') × (p ≡ p) × (n ≡ n) × (h ≡ h) in use0 𝓛 (raw (fact 𝓤 Told)) (fact_i 𝓤 Told (emp 𝓤) (refl, refl, refl, refl, refl, refl)) $
    returns ! (look_at ! 0 refl) $ free_all ! refl $ keep ! (2 ∷ 1 ∷ 3 ∷ 0 ∷ []) $ by ! (leaves 𝓛 En hs c y out (Ok (made, block', deed')) (tt, (tt, tt)) (tt, (tt, tt))))
    (λ e.
    let Refusal : RattleType = Struct (Declared.shape AE.the_type) in let out : Val = live 1 (vcons (vstruct vnil) vnil) in
    lands_as ! e refl (Answer-typed false 0 0) $ first ! $ switches_on ! (get_tag ! (vrt ! refl (fld ! refl (stop !))) (whole !)) $ exec ! 𝓣.C 𝓣.Λ Ev (arm_body 1 (head (after 2 fn.body))) Then $
    sets ! (of_opd ! (get_in ! (vrt ! refl (fld ! refl (stop !))) (in_variant ! 1 0 refl refl (whole !)))) refl (tt, tt) $
    sets_last ! (agg ! (and_then ! (lit ! tt) (and_then ! (get ! refl) (no_more !)))) refl (tt, (record { fits = lit< tt }, (tt, tt))) $
    exec ! 𝓣.C 𝓣.Λ Ev (after 3 fn.body) (at_ret Ev Post) $ sets ! (of_opd ! (get ! refl)) refl (tt, (record { fits = lit< tt }, (tt, tt))) $
    join ! $ owned ! Refusal (Is Refusal) (Struct-Makes 𝓛 (Declared.shape AE.the_type) tt) tt (vstruct vnil ∷ []) (tt, (refl, tt)) $
    use1 𝓛 (‵ (Out.own_val (Err (record {})) (out ∷ []))) (err_of 𝓛 Three AE.the_row (record {}) (vstruct vnil)) $ nothing ! $ nothing ! $ fjoin ! $ nothing ! $ fjoin ! $
    use0 𝓛 (raw (fact 𝓤 (Unit {0}))) (fact_i 𝓤 (Unit {0}) (emp 𝓤) tt) $
    returns ! (look_at ! 0 refl) $ free_all ! refl $ keep ! (3 ∷ 1 ∷ 2 ∷ 0 ∷ []) $ by ! (leaves 𝓛 En hs c y out (Err (record {})) (tt, (tt, tt)) (tt, (tt, tt)))))))))
