-- What the walks share: one place is taken out of a column, put back, or seen. Assumes `Logic`.
use Rattle.std.proofs.Common.{◌≡◌, ℕ, zero, suc, ◌+◌, ◌*◌, ◌<◌, ◌≤◌, List, [], ◌∷◌, ◌++◌, refl, sym, ap, subst, ◌∙◌, arith}
use native.Mathlib.Nat.{zero-mul, suc-mul}
use lib.ListN.{length, take, drop, set, get_or, take-append-drop, length-take}
use lib.Seq.{drop-cons, set_split}
use seplogic.Ra.Ura.{Ura}
use mir.Syntax.{Body}
use mir.Val.{Val}
use base.Fraction.{full_share}
use base.Logic.{ent, sep, id⊢, via, snd∗}
use base.Fml.{Fml, Lft, ftrue, fsep, fat, froom}
use prog.Wp.{Env, Calls, Loops, Wp, after_seq}
use types.Logic.{Logic, sem}
use types.Kit.{Post as After, post, any_q, ‵, ◌⊛◌, some, pick, ◌$◌, ◌∵◌, !, qed, by, move, keep, drop as skip, use1, use2, split, fsplit, fjoin, rewrite, done}
use denote.RattleType.{RattleType}
use denote.Memory.{lone}
use denote.RawPtr.{Ptr}
use denote.Steps.{nothing}
use borrow.Table.OneValue.{part_out}
use Rattle.std.specs.Prelude.{Option, Some, None}
use Rattle.std_alloc.proofs.RcSteps.{word}
use Rattle.urb_arena.specs.Inner.Ownership.{place, column, place_lent, column_lent}

-- a base as it lies in memory
abbrev pub base_val : Ptr → Val
base_val p = word p

-- what follows an arm of a `match`
abbrev pub goes_on : {M : Type 1} {𝓤 : Ura M} (𝓛 : Logic 𝓤) (C : Calls 𝓤 𝓛.H) (Λ : Loops 𝓤 𝓛.H) → Env 𝓤 𝓛.H → Body → After 𝓤 𝓛.H → After 𝓤 𝓛.H
goes_on {𝓤 = 𝓤} 𝓛 C Λ E b q = let H = 𝓛.H in any_q (after_seq 𝓤 H (Wp 𝓤 H C Λ E b (post 𝓤 H q)) (post 𝓤 H q))

pub there_within : {X : Type 0} (cs : List (Option X)) (i : ℕ) (x : X) → get_or cs i None ≡ Some x → i < length cs
there_within [] i x e = cc
there_within (c ∷ cs) zero x e = omega arith
there_within (c ∷ cs) (suc i) x e = omega (arith, there_within cs i x e)

-- what a place holds is forgotten
pub cleared : (R : RattleType) → R.mir ≡ lone R.mir ∷ [] → {M : Type 1} {𝓤 : Ura M} (𝓛 : Logic 𝓤) (b o : ℕ) (c : Option R.Denot) → ent 𝓤 (sem 𝓛 (place R b o c)) (sem 𝓛 (froom (lone R.mir) b o))
cleared R one 𝓛 b o (Some x) = qed 𝓛 (‵ (place R b o (Some x)) ∷ []) ∵
    use1 𝓛 (some (λ (v : Val). ‵ (fat full_share (lone R.mir) b o v) ⊛ ‵ (R.own_val x (v ∷ [])))) (part_out 𝓛 R one full_share x b o) $ pick ! (λ v. split ! $ keep ! (0 ∷ []) $ by ! (𝓛.laws.at_room (lone R.mir) b o v))
cleared R one 𝓛 b o None = 𝓛.laws.raw-room (lone R.mir) b o

module _ (R : RattleType) (s off : ℕ) {M : Type 1} {𝓤 : Ura M} (𝓛 : Logic 𝓤) (b : ℕ) where
  abbrev Row : ℕ → List (Option R.Denot) → Fml
  Row = column R s off b

  cut : (xs ys : List (Option R.Denot)) (o at : ℕ) → at ≡ length xs * s + o → ent 𝓤 (sem 𝓛 (Row o (xs ++ ys))) (sep 𝓤 (sem 𝓛 (Row o xs)) (sem 𝓛 (Row at ys)))
  cut [] ys o at e = qed 𝓛 (‵ (Row o ys) ∷ []) ∵ rewrite ! 0 (λ (k : ℕ). ‵ (Row k ys)) {x = at} (omega (arith, zero-mul s)) refl $ nothing ! $ done !
  cut (x ∷ xs) ys o at e = let more : at ≡ suc (length xs) * s + o = e in qed 𝓛 (‵ (Row o (x ∷ xs ++ ys)) ∷ []) ∵ fsplit ! $ move ! (1 ∷ []) $
      use1 𝓛 (‵ (Row (o + s) xs) ⊛ ‵ (Row at ys)) (cut xs ys (o + s) at (omega (arith, suc-mul (length xs) s))) $ split ! $ move ! (2 ∷ 0 ∷ []) $ fjoin ! $ done !

  glue : (xs ys : List (Option R.Denot)) (o at : ℕ) → at ≡ length xs * s + o → ent 𝓤 (sep 𝓤 (sem 𝓛 (Row o xs)) (sem 𝓛 (Row at ys))) (sem 𝓛 (Row o (xs ++ ys)))
  glue [] ys o at e = qed 𝓛 (‵ ftrue ∷ ‵ (Row at ys) ∷ []) ∵ skip ! $ rewrite ! 0 (λ (k : ℕ). ‵ (Row k ys)) {x = o} (omega (arith, zero-mul s)) refl $ done !
  glue (x ∷ xs) ys o at e = let more : at ≡ suc (length xs) * s + o = e in qed 𝓛 (‵ (Row o (x ∷ xs)) ∷ ‵ (Row at ys) ∷ []) ∵ fsplit ! $ move ! (1 ∷ 2 ∷ []) $
      use2 𝓛 (‵ (Row (o + s) (xs ++ ys))) (glue xs ys (o + s) at (omega (arith, suc-mul (length xs) s))) $ move ! (1 ∷ 0 ∷ []) $ fjoin ! $ done !

  module _ (o : ℕ) (cs : List (Option R.Denot)) (i : ℕ) (lt : i < length cs) where
    -- the column but for the i-th place
    abbrev pub Others : Fml
    Others = fsep (Row o (take i cs)) (Row (i * s + o + s) (drop (suc i) cs))

    before : i * s + o ≡ length (take i cs) * s + o
    before = let long : i ≡ length (take i cs) = omega (arith, lt, length-take i cs) in ap (λ k. k * s + o) long

    pub place_out : ent 𝓤 (sem 𝓛 (Row o cs)) (sep 𝓤 (sem 𝓛 (place R b (i * s + o + off) (get_or cs i None))) (sem 𝓛 Others))
    place_out = qed 𝓛 (‵ (Row o cs) ∷ []) ∵
        rewrite ! 0 (λ (l : List (Option R.Denot)). ‵ (Row o l)) (sym (take-append-drop i cs) ∙ ap (λ l. take i cs ++ l) (drop-cons cs i None lt)) refl $
        use1 𝓛 (‵ (Row o (take i cs)) ⊛ ‵ (Row (i * s + o) (get_or cs i None ∷ drop (suc i) cs))) (cut (take i cs) (get_or cs i None ∷ drop (suc i) cs) o (i * s + o) before) $
        split ! $ move ! (1 ∷ []) $ fsplit ! $ move ! (2 ∷ 1 ∷ []) $ fjoin ! $ move ! (1 ∷ []) $ done !

    pub place_in : (c : Option R.Denot) → ent 𝓤 (sep 𝓤 (sem 𝓛 (place R b (i * s + o + off) c)) (sem 𝓛 Others)) (sem 𝓛 (Row o (set cs i c)))
    place_in c = qed 𝓛 (‵ (place R b (i * s + o + off) c) ∷ ‵ Others ∷ []) ∵ move ! (1 ∷ []) $ fsplit ! $ move ! (2 ∷ 1 ∷ []) $ fjoin ! $ move ! (1 ∷ 0 ∷ []) $
        use2 𝓛 (‵ (Row o (take i cs ++ c ∷ drop (suc i) cs))) (glue (take i cs) (c ∷ drop (suc i) cs) o (i * s + o) before) $
        rewrite ! 0 (λ (l : List (Option R.Denot)). ‵ (Row o l)) (sym (set_split cs i c lt)) refl $ done !

  module _ (κ : Lft) where
    abbrev Seen : ℕ → List (Option R.Denot) → Fml
    Seen o cs = column_lent R s off b o cs κ

    from_on : (cs : List (Option R.Denot)) (i o at : ℕ) → i ≤ length cs → at ≡ i * s + o → ent 𝓤 (sem 𝓛 (Seen o cs)) (sem 𝓛 (Seen at (drop i cs)))
    from_on cs zero o at le e = let same : o ≡ at = omega (arith, zero-mul s) in subst (λ k. ent 𝓤 (sem 𝓛 (Seen o cs)) (sem 𝓛 (Seen k cs))) same (id⊢ 𝓤 _)
    from_on [] (suc i) o at le e = absurd (omega arith)
    from_on (c ∷ cs) (suc i) o at le e =
        via 𝓤 (sem 𝓛 (Seen (o + s) cs)) (snd∗ 𝓤 (sem 𝓛 (place_lent R b (o + off) c κ)) (sem 𝓛 (Seen (o + s) cs))) (from_on cs i (o + s) at (omega arith) (omega (arith, suc-mul i s)))

    pub place_seen : (o : ℕ) (cs : List (Option R.Denot)) (i : ℕ) → i < length cs → ent 𝓤 (sem 𝓛 (Seen o cs)) (sem 𝓛 (place_lent R b (i * s + o + off) (get_or cs i None) κ))
    place_seen o cs i lt = qed 𝓛 (‵ (Seen o cs) ∷ []) ∵ use1 𝓛 (‵ (Seen (i * s + o) (drop i cs))) (from_on cs i o (i * s + o) (omega arith) refl) $
        rewrite ! 0 (λ (l : List (Option R.Denot)). ‵ (Seen (i * s + o) l)) (drop-cons cs i None lt) refl $ fsplit ! $ keep ! (0 ∷ []) $ done !
