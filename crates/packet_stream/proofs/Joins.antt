-- Two formats joined to one, and a format under other names: sound where they are.
use Rattle.std.proofs.Common.{◌≡◌, ℕ, ◌<◌, ◌≤◌, Bool, true, false, cond, List, [], ◌∷◌, ◌++◌, ◌⊎◌, inl, inr, length, take, Option, Some, None, refl, sym, ap, subst, ◌∙◌, arith}
use Rattle.std.specs.Prelude.{nat_lt, not, ◌&&◌}
use Rattle.std.proofs.lemmas.Bool.{cases_lt}
use Rattle.std.proofs.lemmas.List.{append-nil}
use Rattle.usb_base.specs.Number.{AreBytes}
use Rattle.packet_stream.specs.Format.{Check, fails, wrong_at, Format, Found, Whole, Short, Wrong, reading_by, reading, StaysWrong, IsSound}
use Rattle.packet_stream.specs.Joined.{guarded, joined_spelling, JoinedFits, joined}
use Rattle.packet_stream.proofs.Formats.{AreSteady}

-- no check is made before n bytes are there
abbrev pub Waits : {R : Type 0} → ℕ → List (Check R) → Type 0
Waits n cs = (b : List ℕ) → length b < n → wrong_at cs b ≡ None

-- ---- guarded checks

pub guarded-off : {R : Type 0} (test : List ℕ → Bool) (cs ds : List (Check R)) (b : List ℕ) → test b ≡ false → wrong_at (guarded test cs ++ ds) b ≡ wrong_at ds b
guarded-off test [] ds b e = refl
guarded-off test (c ∷ cs) ds b e = rw e (guarded-off test cs ds b e)

pub guarded-on : {R : Type 0} (test : List ℕ → Bool) (cs ds : List (Check R)) (b : List ℕ) → test b ≡ true → wrong_at ds b ≡ None → wrong_at (guarded test cs ++ ds) b ≡ wrong_at cs b
guarded-on test [] ds b e none = none
guarded-on {R = R} test (c ∷ cs) ds b e none = rw e (ap (λ (y : Option (ℕ × R)). cond (fails c b) (Some (c.place, c.reason)) y) (guarded-on test cs ds b e none))

pub none_guarded : {R : Type 0} (test : List ℕ → Bool) (cs : List (Check R)) (b : List ℕ) → test b ≡ false → wrong_at (guarded test cs) b ≡ None
none_guarded test cs b e = ap (λ ds. wrong_at ds b) (sym (append-nil (guarded test cs))) ∙ guarded-off test cs [] b e

pub all_guarded : {R : Type 0} (test : List ℕ → Bool) (cs : List (Check R)) (b : List ℕ) → test b ≡ true → wrong_at (guarded test cs) b ≡ wrong_at cs b
all_guarded test cs b e = ap (λ ds. wrong_at ds b) (sym (append-nil (guarded test cs))) ∙ guarded-on test cs [] b e refl

-- guarded checks are steady where the test sees no more bytes than they need
pub guarded-steady : {R : Type 0} (test : List ℕ → Bool) (seen n : ℕ) (cs : List (Check R)) → ((b more : List ℕ) → seen ≤ length b → test (b ++ more) ≡ test b) → seen ≤ n → AreSteady n cs → AreSteady n (guarded test cs)
guarded-steady test seen n [] sees le steady = tt
guarded-steady test seen n (c ∷ cs) sees le steady = (
  steady.0,
  λ b more there.
      let own = steady.1 b more there in
      let same = sees b more (omega (arith, steady.0, le, there)) in
      ((λ i. same i && own.0 i), own.1),
  guarded-steady test seen c.needed cs sees (omega (arith, steady.0, le)) steady.2,
)

-- ---- the joined format: as a sum, and by its packets' names

abbrev pub both : {P Q R : Type 0} → (List ℕ → Bool) → Format P R → Format Q R → Format (P ⊎ Q) R
both test f g = joined test (λ p. inl p) (λ q. inr q) (λ x. x) f g

abbrev pub named : {P Q X : Type 0} → (P → X) → (Q → X) → P ⊎ Q → X
named left right (inl p) = left p
named left right (inr q) = right q

-- its checks are those of the one or the other
pub joined-left : {P Q R : Type 0} (test : List ℕ → Bool) (f : Format P R) (g : Format Q R) (b : List ℕ) → test b ≡ true → wrong_at (both test f g).checks b ≡ wrong_at f.checks b
joined-left test f g b e = guarded-on test f.checks (guarded (λ x. not (test x)) g.checks) b e (none_guarded (λ x. not (test x)) g.checks b (ap not e))

pub joined-right : {P Q R : Type 0} (test : List ℕ → Bool) (f : Format P R) (g : Format Q R) (b : List ℕ) → test b ≡ false → wrong_at (both test f g).checks b ≡ wrong_at g.checks b
joined-right test f g b e = guarded-off test f.checks (guarded (λ x. not (test x)) g.checks) b e ∙ all_guarded (λ x. not (test x)) g.checks b (ap not e)

-- what is found of the one, as found of both
abbrev pub found_as : {P X R : Type 0} → (P → X) → Found P R → Found X R
found_as to (Whole p n) = Whole (to p) n
found_as to Short = Short
found_as to (Wrong place reason) = Wrong place reason

found_by_length : {P X R : Type 0} (to : P → X) (p : P) (n : ℕ) (t : Bool) → ◌≡◌ {A = Found X R} (cond t Short (Whole (to p) n)) (found_as to (cond t Short (Whole p n)))
found_by_length to p n true = refl
found_by_length to p n false = refl

reading_as : {P X R : Type 0} (to : P → X) (f : Format P R) (b : List ℕ) (h : Format X R) → h.size b ≡ f.size b → h.packet b ≡ to (f.packet b) → (w : Option (ℕ × R)) → reading_by h b w ≡ found_as to (reading_by f b w)
reading_as {P = P} {X = X} {R = R} to f b h size packet None = rw (size, packet) (found_by_length to (f.packet b) (f.size b) (nat_lt (length b) (f.size b)))
reading_as to f b h size packet (Some w) = refl

-- reading is reading the one or the other
pub reading-left : {P Q X R : Type 0} (test : List ℕ → Bool) (left : P → X) (right : Q → X) (sort : X → P ⊎ Q) (f : Format P R) (g : Format Q R) (b : List ℕ) → test b ≡ true →
    reading (joined test left right sort f g) b ≡ found_as left (reading f b)
reading-left test left right sort f g b e =
    let j = joined test left right sort f g in
    ap (reading_by j b) (joined-left test f g b e) ∙ reading_as left f b j (rw e refl) (rw e refl) (wrong_at f.checks b)

pub reading-right : {P Q X R : Type 0} (test : List ℕ → Bool) (left : P → X) (right : Q → X) (sort : X → P ⊎ Q) (f : Format P R) (g : Format Q R) (b : List ℕ) → test b ≡ false →
    reading (joined test left right sort f g) b ≡ found_as right (reading g b)
reading-right test left right sort f g b e =
    let j = joined test left right sort f g in
    ap (reading_by j b) (joined-right test f g b e) ∙ reading_as right g b j (rw e refl) (rw e refl) (wrong_at g.checks b)

-- what joining asks of the test and of both formats: the test sees n bytes, no check is made before they are there, and
-- the packets of f pass it and those of g don't
pub record IsJoin {P Q R : Type 0} (n : ℕ) (test : List ℕ → Bool) (f : Format P R) (g : Format Q R) : Type 0 where
  pub sees : (b more : List ℕ) → n ≤ length b → test (b ++ more) ≡ test b
  pub left_waits : Waits n f.checks
  pub right_waits : Waits n g.checks
  pub left : (p : P) (more : List ℕ) → f.Fits p → test (f.spelling p ++ more) ≡ true
  pub right : (q : Q) (more : List ℕ) → g.Fits q → test (g.spelling q ++ more) ≡ false

joined_waits : {P Q R : Type 0} (n : ℕ) (test : List ℕ → Bool) (f : Format P R) (g : Format Q R) → IsJoin n test f g → (b : List ℕ) → length b < n → (t : Bool) → test b ≡ t → wrong_at (both test f g).checks b ≡ None
joined_waits n test f g join b less true e = joined-left test f g b e ∙ join.left_waits b less
joined_waits n test f g join b less false e = joined-right test f g b e ∙ join.right_waits b less

stays_by : {P Q R : Type 0} (n : ℕ) (test : List ℕ → Bool) (f : Format P R) (g : Format Q R) → IsSound f → IsSound g → IsJoin n test f g → (b more : List ℕ) (w : ℕ × R) → n ≤ length b → (t : Bool) → test b ≡ t →
    wrong_at (both test f g).checks b ≡ Some w → wrong_at (both test f g).checks (b ++ more) ≡ Some w
stays_by n test f g sf sg join b more w there true e h =
    joined-left test f g (b ++ more) (join.sees b more there ∙ e) ∙ sf.steady b more w (sym (joined-left test f g b e) ∙ h)
stays_by n test f g sf sg join b more w there false e h =
    joined-right test f g (b ++ more) (join.sees b more there ∙ e) ∙ sg.steady b more w (sym (joined-right test f g b e) ∙ h)

abbrev FoundAt : {P R : Type 0} → Format P R → List ℕ → Type 0
FoundAt f b = (f.spelling (f.packet b) ≡ take (f.size b) b) × f.Fits (f.packet b)

found_by : {P Q R : Type 0} (test : List ℕ → Bool) (f : Format P R) (g : Format Q R) → IsSound f → IsSound g → (b : List ℕ) → AreBytes b → (t : Bool) → test b ≡ t →
    wrong_at (both test f g).checks b ≡ None → (both test f g).size b ≤ length b → FoundAt (both test f g) b
found_by test f g sf sg b are true e none there = rw e (sf.found b are (sym (joined-left test f g b e) ∙ none) (rw e at there))
found_by test f g sf sg b are false e none there = rw e (sg.found b are (sym (joined-right test f g b e) ∙ none) (rw e at there))

some_by : {P Q R : Type 0} (test : List ℕ → Bool) (f : Format P R) (g : Format Q R) → IsSound f → IsSound g → (b : List ℕ) (t : Bool) → 0 < cond t (f.size b) (g.size b)
some_by test f g sf sg b true = sf.some b
some_by test f g sf sg b false = sg.some b

right_of : {P Q R : Type 0} (n : ℕ) (test : List ℕ → Bool) (f : Format P R) (g : Format Q R) → IsSound f → IsSound g → IsJoin n test f g → (x : P ⊎ Q) (more : List ℕ) → JoinedFits f g x →
    wrong_at (both test f g).checks (joined_spelling f g x ++ more) ≡ None
right_of n test f g sf sg join (inl p) more fits = joined-left test f g (f.spelling p ++ more) (join.left p more fits) ∙ sf.right p more fits
right_of n test f g sf sg join (inr q) more fits = joined-right test f g (g.spelling q ++ more) (join.right q more fits) ∙ sg.right q more fits

size_of : {P Q R : Type 0} (n : ℕ) (test : List ℕ → Bool) (f : Format P R) (g : Format Q R) → IsSound f → IsSound g → IsJoin n test f g → (x : P ⊎ Q) (more : List ℕ) → JoinedFits f g x →
    (both test f g).size (joined_spelling f g x ++ more) ≡ length (joined_spelling f g x)
size_of n test f g sf sg join (inl p) more fits = rw (join.left p more fits) (sf.size p more fits)
size_of n test f g sf sg join (inr q) more fits = rw (join.right q more fits) (sg.size q more fits)

packet_of : {P Q R : Type 0} (n : ℕ) (test : List ℕ → Bool) (f : Format P R) (g : Format Q R) → IsSound f → IsSound g → IsJoin n test f g → (x : P ⊎ Q) (more : List ℕ) → JoinedFits f g x →
    (both test f g).packet (joined_spelling f g x ++ more) ≡ x
packet_of {P = P} {Q = Q} n test f g sf sg join (inl p) more fits = rw (join.left p more fits) (ap {B = P ⊎ Q} (λ (y : P). inl y) (sf.packet p more fits))
packet_of {P = P} {Q = Q} n test f g sf sg join (inr q) more fits = rw (join.right q more fits) (ap {B = P ⊎ Q} (λ (y : Q). inr y) (sg.packet q more fits))

stays : {P Q R : Type 0} (n : ℕ) (test : List ℕ → Bool) (f : Format P R) (g : Format Q R) → IsSound f → IsSound g → IsJoin n test f g → StaysWrong (both test f g).checks
stays n test f g sf sg join b more w e =
    elim (cases_lt (length b) n) [
      | inl less ↦ let none = joined_waits n test f g join b less (test b) refl in absurd cc
      | inr there ↦ stays_by n test f g sf sg join b more w there (test b) refl e
    ]

both_sound : {P Q R : Type 0} (n : ℕ) (test : List ℕ → Bool) (f : Format P R) (g : Format Q R) → IsSound f → IsSound g → IsJoin n test f g → IsSound (both test f g)
both_sound n test f g sf sg join = record {
  found = λ b are none there. found_by test f g sf sg b are (test b) refl none there;
  right = right_of n test f g sf sg join;
  size = size_of n test f g sf sg join;
  packet = packet_of n test f g sf sg join;
  some = λ b. some_by test f g sf sg b (test b);
  steady = stays n test f g sf sg join;
}

-- the names are as good as the packets
pub record AreNames {P Q X : Type 0} (left : P → X) (right : Q → X) (sort : X → P ⊎ Q) : Type 0 where
  pub back : (y : P ⊎ Q) → sort (named left right y) ≡ y
  pub forth : (x : X) → named left right (sort x) ≡ x

name_by : {P Q X : Type 0} (left : P → X) (right : Q → X) (p : P) (q : Q) (t : Bool) → cond t (left p) (right q) ≡ named left right (cond t (inl p) (inr q))
name_by left right p q true = refl
name_by left right p q false = refl

-- the joined format is sound
pub joined_sound : {P Q X R : Type 0} (n : ℕ) (test : List ℕ → Bool) (left : P → X) (right : Q → X) (sort : X → P ⊎ Q) (f : Format P R) (g : Format Q R) → AreNames left right sort → IsSound f → IsSound g → IsJoin n test f g →
    IsSound (joined test left right sort f g)
joined_sound {P = P} {Q = Q} {X = X} n test left right sort f g names sf sg join =
    let sound = both_sound n test f g sf sg join in
    let name : (b : List ℕ) → (joined test left right sort f g).packet b ≡ named left right ((both test f g).packet b) = λ b. name_by left right (f.packet b) (g.packet b) (test b) in
    let sorted : (b : List ℕ) → sort ((joined test left right sort f g).packet b) ≡ (both test f g).packet b = λ b. ap sort (name b) ∙ names.back ((both test f g).packet b) in
    record {
      found = λ b are none there. let h = sound.found b are none there in (ap (joined_spelling f g) (sorted b) ∙ h.0, subst (JoinedFits f g) (sym (sorted b)) h.1);
      right = λ x more fits. sound.right (sort x) more fits;
      size = λ x more fits. sound.size (sort x) more fits;
      packet = λ x more fits. name (joined_spelling f g (sort x) ++ more) ∙ ap (named left right) (sound.packet (sort x) more fits) ∙ names.forth x;
      some = sound.some;
      steady = sound.steady;
    }
