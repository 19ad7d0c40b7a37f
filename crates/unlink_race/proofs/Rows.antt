-- What a change of the rows and of the table does to the list.
use Rattle.std.proofs.Common.{◌≡◌, ◌≢◌, ℕ, zero, suc, ◌<◌, List, [], ◌∷◌, ◌++◌, length, get_or, set, Option, Some, None, IsSome, refl, ap, sym, ◌∙◌, arith}
use Rattle.std.specs.List.{remove, slice_get}
use Rattle.std.proofs.lemmas.Bool.{false≢true}
use Rattle.urb_arena.specs.Distinct.{Absent}
use Rattle.unlink_race.specs.Inner.Listed.{IsKeyed, listed}

module _ {R : Type 0} (key : R → ℕ) where
  pub absent_at : (k : ℕ) (rs : List R) (i : ℕ) (r : R) → i < length rs → r ≡ get_or rs i r → Absent key k rs → key r ≢ k
  absent_at k [] i r within read absent = absurd (omega arith)
  absent_at k (s ∷ rs) zero r within read absent = rw read absent.0
  absent_at k (s ∷ rs) (suc i) r within read absent = absent_at k rs i r (omega arith) read absent.1

  absent_remove : (k : ℕ) (rs : List R) (i : ℕ) → Absent key k rs → Absent key k (remove rs i)
  absent_remove k [] zero absent = tt
  absent_remove k [] (suc i) absent = tt
  absent_remove k (s ∷ rs) zero absent = absent.1
  absent_remove k (s ∷ rs) (suc i) absent = (absent.0, absent_remove k rs i absent.1)

  absent_push : (k : ℕ) (rs : List R) (r : R) → key r ≢ k → Absent key k rs → Absent key k (rs ++ r ∷ [])
  absent_push k [] r other absent = (other, tt)
  absent_push k (s ∷ rs) r other absent = (absent.0, absent_push k rs r other absent.1)

module _ {R X : Type 0} (key : R → ℕ) where
  -- a table that has the same at every other key
  abbrev pub SameBut : ℕ → (ℕ → Option X) → (ℕ → Option X) → Type 0
  SameBut k old new = (j : ℕ) → j ≢ k → new j ≡ old j

  pub listed_same : (g h : ℕ → Option X) (k : ℕ) → SameBut k g h → (rs : List R) → Absent key k rs → listed key h rs ≡ listed key g rs
  listed_same g h k same [] absent = refl
  listed_same g h k same (r ∷ rs) absent = rw (same (key r) absent.0, listed_same g h k same rs absent.1) refl

  pub kept_same : (g h : ℕ → Option X) (k : ℕ) → SameBut k g h → (rs : List R) → Absent key k rs → IsKeyed key g rs → IsKeyed key h rs
  kept_same g h k same [] absent kept = kept
  kept_same g h k same (r ∷ rs) absent kept =
      (rw (same (key r) absent.0) kept.0, kept.1, kept_same g h k same rs absent.1 kept.2)

  -- the entry of a row
  pub entry_of : (g : ℕ → Option X) (r : R) → IsSome (g (key r)) → (x : X) × (g (key r) ≡ Some x)
  entry_of g r there = by_case (g (key r)) refl there
    where
      by_case : (o : Option X) → g (key r) ≡ o → IsSome o → (x : X) × (g (key r) ≡ Some x)
      by_case None is there = absurd (false≢true there)
      by_case (Some x) is there = (x, is)

  pub length-listed : (g : ℕ → Option X) (rs : List R) → IsKeyed key g rs → length (listed key g rs) ≡ length rs
  length-listed g [] kept = refl
  length-listed g (r ∷ rs) kept =
      let e = entry_of g r kept.0 in
      rw e.1 (ap suc (length-listed g rs kept.2))

  -- a key with no entry is in no row
  absent_fresh : (g : ℕ → Option X) (k : ℕ) → g k ≡ None → (rs : List R) → IsKeyed key g rs → Absent key k rs
  absent_fresh g k fresh [] kept = tt
  absent_fresh g k fresh (r ∷ rs) kept =
      let e = entry_of g r kept.0 in
      (λ same. let both : Some e.0 ≡ None = sym e.1 ∙ ap g same ∙ fresh in cc, absent_fresh g k fresh rs kept.2)

  -- the row at a place and its entry are taken out
  pub record Took (g h : ℕ → Option X) (rs : List R) (i : ℕ) (r : R) : Type 0 where
    pub entry : g (key r) ≡ slice_get (listed key g rs) i
    pub rest : listed key h (remove rs i) ≡ remove (listed key g rs) i
    pub kept : IsKeyed key h (remove rs i)

  pub took_at : (g h : ℕ → Option X) (rs : List R) (i : ℕ) (r : R) → i < length rs → r ≡ get_or rs i r → SameBut (key r) g h → IsKeyed key g rs → Took g h rs i r
  took_at g h [] i r within read same kept = absurd (omega arith)
  took_at g h (s ∷ rs) zero r within read same kept =
      let e = entry_of g s kept.0 in
      let k : key r ≡ key s = ap key read in
      record {
        entry = rw (k, e.1) refl;
        rest = rw e.1 (listed_same g h (key r) same rs (rw k kept.1));
        kept = kept_same g h (key r) same rs (rw k kept.1) kept.2;
      }
  took_at g h (s ∷ rs) (suc i) r within read same kept =
      let e = entry_of g s kept.0 in
      let later = took_at g h rs i r (omega arith) read same kept.2 in
      let other = absent_at key (key s) rs i r (omega arith) read kept.1 in
      let stays : h (key s) ≡ g (key s) = same (key s) (λ q. other (sym q)) in
      record {
        entry = rw e.1 later.entry;
        rest = rw (stays, e.1) (ap (λ ys. e.0 ∷ ys) later.rest);
        kept = (rw stays kept.0, absent_remove key (key s) rs i kept.1, later.kept);
      }

  -- a row with a new key and its entry are appended
  pub record Put (g h : ℕ → Option X) (rs : List R) (r : R) (x : X) : Type 0 where
    pub whole : listed key h (rs ++ r ∷ []) ≡ listed key g rs ++ x ∷ []
    pub kept : IsKeyed key h (rs ++ r ∷ [])

  pub put_last : (g h : ℕ → Option X) (rs : List R) (r : R) (x : X) → g (key r) ≡ None → h (key r) ≡ Some x → SameBut (key r) g h → IsKeyed key g rs → Put g h rs r x
  put_last g h [] r x fresh is same kept = record { whole = rw is refl; kept = (rw is refl, tt, tt) }
  put_last g h (s ∷ rs) r x fresh is same kept =
      let e = entry_of g s kept.0 in
      let later = put_last g h rs r x fresh is same kept.2 in
      let other : key s ≢ key r = (absent_fresh g (key r) fresh (s ∷ rs) kept).0 in
      let stays : h (key s) ≡ g (key s) = same (key s) other in
      record {
        whole = rw (stays, e.1) (ap (λ ys. e.0 ∷ ys) later.whole);
        kept = (rw stays kept.0, absent_push key (key s) rs r (λ q. other (sym q)) kept.1, later.kept);
      }

  -- the entry of the row at a place is written anew
  pub record Changed (g h : ℕ → Option X) (rs : List R) (i : ℕ) (y : X) : Type 0 where
    pub whole : listed key h rs ≡ set (listed key g rs) i y
    pub kept : IsKeyed key h rs

  pub changed_at : (g h : ℕ → Option X) (rs : List R) (i : ℕ) (r : R) (y : X) → i < length rs → r ≡ get_or rs i r → h (key r) ≡ Some y → SameBut (key r) g h → IsKeyed key g rs → Changed g h rs i y
  changed_at g h [] i r y within read is same kept = absurd (omega arith)
  changed_at g h (s ∷ rs) zero r y within read is same kept =
      let e = entry_of g s kept.0 in
      let k : r ≡ s = read in
      let there : h (key s) ≡ Some y = rw (← k) is in
      let away : Absent key (key r) rs = rw k kept.1 in
      record {
        whole = rw (there, e.1) (ap (λ ys. y ∷ ys) (listed_same g h (key r) same rs away));
        kept = (rw there refl, kept.1, kept_same g h (key r) same rs away kept.2);
      }
  changed_at g h (s ∷ rs) (suc i) r y within read is same kept =
      let e = entry_of g s kept.0 in
      let later = changed_at g h rs i r y (omega arith) read is same kept.2 in
      let other = absent_at key (key s) rs i r (omega arith) read kept.1 in
      let stays : h (key s) ≡ g (key s) = same (key s) (λ q. other (sym q)) in
      record {
        whole = rw (stays, e.1) (ap (λ ys. e.0 ∷ ys) later.whole);
        kept = (rw stays kept.0, kept.1, later.kept);
      }
