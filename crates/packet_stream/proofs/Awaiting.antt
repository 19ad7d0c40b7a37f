-- What is awaited is the least number at which anything is decided, and until then everything stays short.
use Rattle.std.proofs.Common.{◌≡◌, ℕ, ◌<◌, ◌≤◌, ◌⊎◌, inl, inr, Bool, true, false, cond, List, [], ◌∷◌, ◌++◌, length, Option, Some, None, refl, sym, ap, subst, ◌∙◌, arith}
use Rattle.std.specs.Prelude.{nat_lt, not, ◌&&◌}
use Rattle.std.proofs.lemmas.Bool.{and_parts, ltb-true, ltb-false, lt-ltb}
use Rattle.packet_stream.specs.Format.{Check, wrong_at, Format, Found, Whole, Short, reading_by, reading}
use Rattle.packet_stream.specs.Joined.{guarded, joined}
use Rattle.packet_stream.specs.Awaited.{IsComplete, Decides, IsAwaited, StaysShort, first_awaited, awaited}
use Rattle.packet_stream.proofs.Formats.{AreSteady, Passes, none_first, none_later, none_from, none_before}
use Rattle.packet_stream.proofs.Joins.{both, found_as, reading-left, reading-right}

-- ---- less than a packet

short_by_length : {P R : Type 0} (f : Format P R) (b : List ℕ) (t : Bool) → nat_lt (length b) (f.size b) ≡ t → ◌≡◌ {A = Found P R} (cond t Short (Whole (f.packet b) (f.size b))) Short → length b < f.size b
short_by_length f b true less e = ltb-true (length b) (f.size b) less
short_by_length f b false less e = absurd cc

short_by : {P R : Type 0} (f : Format P R) (b : List ℕ) (w : Option (ℕ × R)) → reading_by f b w ≡ Short → (w ≡ None) × (length b < f.size b)
short_by f b None e = (refl, short_by_length f b (nat_lt (length b) (f.size b)) refl e)
short_by f b (Some w) e = absurd cc

-- nothing is wrong, and the packet is longer
pub short_parts : {P R : Type 0} (f : Format P R) (b : List ℕ) → reading f b ≡ Short → (wrong_at f.checks b ≡ None) × (length b < f.size b)
short_parts f b e = short_by f b (wrong_at f.checks b) e

pub short_from : {P R : Type 0} (f : Format P R) (b : List ℕ) → wrong_at f.checks b ≡ None → length b < f.size b → reading f b ≡ Short
short_from f b none less = let e = lt-ltb (length b) (f.size b) less in ap (reading_by f b) none ∙ rw e refl

-- ---- the least number

one_false : (t u : Bool) → (t && u) ≡ false → t ≡ true → u ≡ false
one_false true u e is = e
one_false false u e is = absurd cc

above_by : (t : Bool) (low n m : ℕ) → (t ≡ true → low < n) → low < m → low < cond t n m
above_by true low n m here later = here refl
above_by false low n m here later = later

first_above : {R : Type 0} (cs : List (Check R)) (b : List ℕ) (size : ℕ) → length b < size → length b < first_awaited cs b size
first_above [] b size less = less
first_above (c ∷ cs) b size less =
    above_by (c.tried b && nat_lt (length b) c.needed) (length b) c.needed (first_awaited cs b size)
    (λ e. ltb-true (length b) c.needed (and_parts (c.tried b) (nat_lt (length b) c.needed) e).1) (first_above cs b size less)

holds_by : {R : Type 0} (c : Check R) (cs : List (Check R)) (b : List ℕ) (size n : ℕ) (t : Bool) → (c.tried b && nat_lt (length b) c.needed) ≡ t → IsComplete cs b n ⊎ (size ≡ n) →
    IsComplete (c ∷ cs) b (cond t c.needed n) ⊎ (size ≡ cond t c.needed n)
holds_by c cs b size n true e later = inl (inl ((and_parts (c.tried b) (nat_lt (length b) c.needed) e).0, refl))
holds_by c cs b size n false e (inl h) = inl (inr h)
holds_by c cs b size n false e (inr h) = inr h

first_holds : {R : Type 0} (cs : List (Check R)) (b : List ℕ) (size : ℕ) → IsComplete cs b (first_awaited cs b size) ⊎ (size ≡ first_awaited cs b size)
first_holds [] b size = inr refl
first_holds (c ∷ cs) b size = holds_by c cs b size (first_awaited cs b size) (c.tried b && nat_lt (length b) c.needed) refl (first_holds cs b size)

-- a check needs as many bytes as those before it
later_needs : {R : Type 0} (cs : List (Check R)) (n m : ℕ) (b : List ℕ) → AreSteady n cs → IsComplete cs b m → n ≤ m
later_needs [] n m b steady h = absurd h
later_needs (c ∷ cs) n m b steady (inl h) = omega (arith, steady.0, h.1)
later_needs (c ∷ cs) n m b steady (inr h) = let later = later_needs cs c.needed m b steady.2 h in omega (arith, steady.0, later)

least_by : {R : Type 0} (c : Check R) (cs : List (Check R)) (b : List ℕ) (size n m : ℕ) (t : Bool) → (c.tried b && nat_lt (length b) c.needed) ≡ t → AreSteady c.needed cs →
    (IsComplete cs b m ⊎ (size ≡ m) → n ≤ size → n ≤ m) → cond t c.needed n ≤ size → length b < m → IsComplete (c ∷ cs) b m ⊎ (size ≡ m) → cond t c.needed n ≤ m
least_by c cs b size n m true e steady later most less (inl (inl h)) = omega (arith, h.1)
least_by c cs b size n m true e steady later most less (inl (inr h)) = later_needs cs c.needed m b steady h
least_by c cs b size n m true e steady later most less (inr h) = omega (arith, h, most)
least_by c cs b size n m false e steady later most less (inl (inl h)) =
    let there = ltb-false (length b) c.needed (one_false (c.tried b) (nat_lt (length b) c.needed) e h.0) in absurd (omega (arith, h.1, there))
least_by c cs b size n m false e steady later most less (inl (inr h)) = later (inl h) most
least_by c cs b size n m false e steady later most less (inr h) = later (inr h) most

first_least : {R : Type 0} (cs : List (Check R)) (k : ℕ) (b : List ℕ) (size m : ℕ) → AreSteady k cs → first_awaited cs b size ≤ size → length b < m → IsComplete cs b m ⊎ (size ≡ m) → first_awaited cs b size ≤ m
first_least [] k b size m steady most less (inl h) = absurd h
first_least [] k b size m steady most less (inr h) = omega (arith, h)
first_least (c ∷ cs) k b size m steady most less h =
    least_by c cs b size (first_awaited cs b size) m (c.tried b && nat_lt (length b) c.needed) refl steady.2
    (λ h most. first_least cs c.needed b size m steady.2 most less h) most less h

soon_by : (t : Bool) (n m k : ℕ) → (t ≡ true → n ≤ k) → (t ≡ false → m ≤ k) → cond t n m ≤ k
soon_by true n m k now later = now refl
soon_by false n m k now later = later refl

-- no more than a check needs that is tried and hasn't its bytes yet
pub first_soon : {R : Type 0} (cs : List (Check R)) (k : ℕ) (b : List ℕ) (size m : ℕ) → AreSteady k cs → length b < m → IsComplete cs b m → first_awaited cs b size ≤ m
first_soon [] k b size m steady less h = absurd h
first_soon (c ∷ cs) k b size m steady less (inl h) =
    soon_by (c.tried b && nat_lt (length b) c.needed) c.needed (first_awaited cs b size) m (λ e. omega (arith, h.1))
    (λ e. absurd (omega (arith, h.1, ltb-false (length b) c.needed (one_false (c.tried b) (nat_lt (length b) c.needed) e h.0))))
first_soon (c ∷ cs) k b size m steady less (inr h) =
    soon_by (c.tried b && nat_lt (length b) c.needed) c.needed (first_awaited cs b size) m (λ e. later_needs cs c.needed m b steady.2 h) (λ e. first_soon cs c.needed b size m steady.2 less h)

most_by : (t : Bool) (n m k : ℕ) → (t ≡ true → n ≤ k) → m ≤ k → cond t n m ≤ k
most_by true n m k here later = here refl
most_by false n m k here later = later

-- each check that is tried and hasn't its bytes yet needs n at most
abbrev pub AreAtMost : {R : Type 0} → ℕ → List (Check R) → List ℕ → Type 0
AreAtMost n [] b = Unit {0}
AreAtMost n (c ∷ cs) b = (c.tried b ≡ true → length b < c.needed → c.needed ≤ n) × AreAtMost n cs b

pub first_most : {R : Type 0} (cs : List (Check R)) (n : ℕ) (b : List ℕ) (size : ℕ) → AreAtMost n cs b → size ≤ n → first_awaited cs b size ≤ n
first_most [] n b size most le = le
first_most (c ∷ cs) n b size most le =
    most_by (c.tried b && nat_lt (length b) c.needed) c.needed (first_awaited cs b size) n
    (λ e. let parts = and_parts (c.tried b) (nat_lt (length b) c.needed) e in most.0 parts.0 (ltb-true (length b) c.needed parts.1))
    (first_most cs n b size most.1 le)

-- no check needs more than n bytes
abbrev pub AreWithin : {R : Type 0} → ℕ → List (Check R) → Type 0
AreWithin n [] = Unit {0}
AreWithin n (c ∷ cs) = (c.needed ≤ n) × AreWithin n cs

-- then no more than these are awaited, or the packet's size
pub first_within : {R : Type 0} (cs : List (Check R)) (n : ℕ) (b : List ℕ) (size : ℕ) → AreWithin n cs → (first_awaited cs b size ≤ n) ⊎ (first_awaited cs b size ≡ size)
first_within [] n b size within = inr refl
first_within {R = R} (c ∷ cs) n b size within = go (c.tried b && nat_lt (length b) c.needed) (first_within cs n b size within.1)
  where
    go : (t : Bool) → (first_awaited cs b size ≤ n) ⊎ (first_awaited cs b size ≡ size) → (cond t c.needed (first_awaited cs b size) ≤ n) ⊎ (cond t c.needed (first_awaited cs b size) ≡ size)
    go true later = inl within.0
    go false later = later

-- ---- nothing fails before

-- of each check that has its bytes in x, b tells whether it is tried there
abbrev pub AreSettled : {R : Type 0} → List (Check R) → List ℕ → List ℕ → Type 0
AreSettled [] b x = Unit {0}
AreSettled (c ∷ cs) b x = (c.needed ≤ length x → c.tried x ≡ c.tried b) × AreSettled cs b x

-- guarded ones are settled where the test says of x what it says of b
pub guarded-settled : {R : Type 0} (test : List ℕ → Bool) (n : ℕ) (cs : List (Check R)) (b x : List ℕ) → (n ≤ length x → test x ≡ test b) → AreSteady n cs → AreSettled cs b x → AreSettled (guarded test cs) b x
guarded-settled test n [] b x same steady settled = tt
guarded-settled test n (c ∷ cs) b x same steady settled = (
  λ there. let guard = same (omega (arith, steady.0, there)) in (λ i. guard i && settled.0 there i),
  guarded-settled test c.needed cs b x (λ there. same (omega (arith, steady.0, there))) steady.2 settled.1,
)

passes_by : {R : Type 0} (c : Check R) (b more : List ℕ) (n : ℕ) (t : Bool) → (c.tried b && nat_lt (length b) c.needed) ≡ t → (c.needed ≤ length b → c.passes (b ++ more) ≡ c.passes b) → Passes c b →
    (c.needed ≤ length (b ++ more) → c.tried (b ++ more) ≡ c.tried b) → length (b ++ more) < cond t c.needed n → Passes c (b ++ more)
passes_by c b more n true e same now settled less tried there = absurd (omega (arith, less, there))
passes_by c b more n false e same now settled less tried there =
    let before = sym (settled there) ∙ tried in
    let enough = ltb-false (length b) c.needed (one_false (c.tried b) (nat_lt (length b) c.needed) e before) in
    same enough ∙ now before enough

none_by : {R : Type 0} (c : Check R) (cs : List (Check R)) (x : List ℕ) (n : ℕ) (t : Bool) → AreSteady c.needed cs → (length x < n → wrong_at cs x ≡ None) → length x < cond t c.needed n → wrong_at cs x ≡ None
none_by c cs x n true steady later less = none_before cs c.needed x steady less
none_by c cs x n false steady later less = later less

none_yet : {R : Type 0} (cs : List (Check R)) (k : ℕ) (b more : List ℕ) (size : ℕ) → AreSteady k cs → AreSettled cs b (b ++ more) → wrong_at cs b ≡ None → length (b ++ more) < first_awaited cs b size →
    wrong_at cs (b ++ more) ≡ None
none_yet [] k b more size steady settled none less = refl
none_yet (c ∷ cs) k b more size steady settled none less =
    let t = c.tried b && nat_lt (length b) c.needed in
    let n = first_awaited cs b size in
    none_from c cs (b ++ more)
    (passes_by c b more n t refl (λ there. (steady.1 b more there).1) (none_first c cs b none) settled.0 less)
    (none_by c cs (b ++ more) n t steady.2 (λ less. none_yet cs c.needed b more size steady.2 settled.1 (none_later c cs b none) less) less)

-- ---- formats whose packets can be awaited

-- checks that see only their bytes, and need rising numbers of them; which of them are tried is settled by the bytes
-- that are there, as long as fewer have come than are awaited; a size that no later byte makes less
pub record IsPatient {P R : Type 0} (f : Format P R) : Type 0 where
  pub first : ℕ
  pub steady : AreSteady first f.checks
  pub settled : (b more : List ℕ) → length (b ++ more) < awaited f b → AreSettled f.checks b (b ++ more)
  pub longer : (b more : List ℕ) → wrong_at f.checks b ≡ None → length (b ++ more) < awaited f b → length (b ++ more) < f.size (b ++ more)
  pub most : (b : List ℕ) → wrong_at f.checks b ≡ None → awaited f b ≤ f.size b

pub awaited_least : {P R : Type 0} (f : Format P R) → IsPatient f → (b : List ℕ) → reading f b ≡ Short → (n : ℕ) → n ≡ awaited f b → IsAwaited f b n
awaited_least f patient b short n is =
    let parts = short_parts f b short in
    subst (IsAwaited f b) (sym is) (record {
      above = first_above f.checks b (f.size b) parts.1;
      holds = first_holds f.checks b (f.size b);
      least = λ m less h. first_least f.checks patient.first b (f.size b) m patient.steady (patient.most b parts.0) less h;
    })

pub stays_short : {P R : Type 0} (f : Format P R) → IsPatient f → (b : List ℕ) → reading f b ≡ Short → (n : ℕ) → n ≡ awaited f b → StaysShort f b n
stays_short f patient b short n is more less =
    let below : length (b ++ more) < awaited f b = omega (arith, is, less) in
    let none = (short_parts f b short).0 in
    short_from f (b ++ more) (none_yet f.checks patient.first b more (f.size b) patient.steady (patient.settled b more below) none below) (patient.longer b more none below)

-- ---- formats that are joined

complete_off : {R : Type 0} (test : List ℕ → Bool) (cs ds : List (Check R)) (b : List ℕ) (n : ℕ) → test b ≡ false → IsComplete (guarded test cs ++ ds) b n → IsComplete ds b n
complete_off test [] ds b n e h = h
complete_off test (c ∷ cs) ds b n e (inl h) = let no = (and_parts (test b) (c.tried b) h.0).0 in absurd cc
complete_off test (c ∷ cs) ds b n e (inr h) = complete_off test cs ds b n e h

complete_on : {R : Type 0} (test : List ℕ → Bool) (cs ds : List (Check R)) (b : List ℕ) (n : ℕ) → IsComplete (guarded test cs ++ ds) b n → IsComplete cs b n ⊎ IsComplete ds b n
complete_on test [] ds b n h = inr h
complete_on test (c ∷ cs) ds b n (inl h) = inl (inl ((and_parts (test b) (c.tried b) h.0).1, h.1))
complete_on test (c ∷ cs) ds b n (inr h) = elim (complete_on test cs ds b n h) [
  | inl g ↦ inl (inr g)
  | inr g ↦ inr g
]

complete_first : {R : Type 0} (test : List ℕ → Bool) (cs ds : List (Check R)) (b : List ℕ) (n : ℕ) → test b ≡ true → IsComplete cs b n → IsComplete (guarded test cs ++ ds) b n
complete_first test [] ds b n e h = absurd h
complete_first test (c ∷ cs) ds b n e (inl h) = inl (rw e h.0, h.1)
complete_first test (c ∷ cs) ds b n e (inr h) = inr (complete_first test cs ds b n e h)

complete_last : {R : Type 0} (test : List ℕ → Bool) (cs ds : List (Check R)) (b : List ℕ) (n : ℕ) → IsComplete ds b n → IsComplete (guarded test cs ++ ds) b n
complete_last test [] ds b n h = h
complete_last test (c ∷ cs) ds b n h = inr (complete_last test cs ds b n h)

none_complete : {R : Type 0} (test : List ℕ → Bool) (cs : List (Check R)) (b : List ℕ) (n : ℕ) → test b ≡ false → IsComplete (guarded test cs) b n → ⊥
none_complete test [] b n e h = h
none_complete test (c ∷ cs) b n e (inl h) = let no = (and_parts (test b) (c.tried b) h.0).0 in absurd cc
none_complete test (c ∷ cs) b n e (inr h) = none_complete test cs b n e h

all_complete : {R : Type 0} (test : List ℕ → Bool) (cs : List (Check R)) (b : List ℕ) (n : ℕ) → IsComplete (guarded test cs) b n → IsComplete cs b n
all_complete test [] b n h = h
all_complete test (c ∷ cs) b n (inl h) = inl ((and_parts (test b) (c.tried b) h.0).1, h.1)
all_complete test (c ∷ cs) b n (inr h) = inr (all_complete test cs b n h)

each_complete : {R : Type 0} (test : List ℕ → Bool) (cs : List (Check R)) (b : List ℕ) (n : ℕ) → test b ≡ true → IsComplete cs b n → IsComplete (guarded test cs) b n
each_complete test [] b n e h = h
each_complete test (c ∷ cs) b n e (inl h) = inl (rw e h.0, h.1)
each_complete test (c ∷ cs) b n e (inr h) = inr (each_complete test cs b n e h)

decides_left : {P Q R : Type 0} (test : List ℕ → Bool) (f : Format P R) (g : Format Q R) (b : List ℕ) (n : ℕ) → test b ≡ true → Decides (both test f g) b n → Decides f b n
decides_left test f g b n e (inl h) = elim (complete_on test f.checks (guarded (λ x. not (test x)) g.checks) b n h) [
  | inl here ↦ inl here
  | inr there ↦ absurd (none_complete (λ x. not (test x)) g.checks b n (ap not e) there)
]
decides_left test f g b n e (inr h) = inr (rw e at h)

left_decides : {P Q R : Type 0} (test : List ℕ → Bool) (f : Format P R) (g : Format Q R) (b : List ℕ) (n : ℕ) → test b ≡ true → Decides f b n → Decides (both test f g) b n
left_decides test f g b n e (inl h) = inl (complete_first test f.checks (guarded (λ x. not (test x)) g.checks) b n e h)
left_decides test f g b n e (inr h) = inr (rw e h)

decides_right : {P Q R : Type 0} (test : List ℕ → Bool) (f : Format P R) (g : Format Q R) (b : List ℕ) (n : ℕ) → test b ≡ false → Decides (both test f g) b n → Decides g b n
decides_right test f g b n e (inl h) = inl (all_complete (λ x. not (test x)) g.checks b n (complete_off test f.checks (guarded (λ x. not (test x)) g.checks) b n e h))
decides_right test f g b n e (inr h) = inr (rw e at h)

right_decides : {P Q R : Type 0} (test : List ℕ → Bool) (f : Format P R) (g : Format Q R) (b : List ℕ) (n : ℕ) → test b ≡ false → Decides g b n → Decides (both test f g) b n
right_decides test f g b n e (inl h) = inl (complete_last test f.checks (guarded (λ x. not (test x)) g.checks) b n (each_complete (λ x. not (test x)) g.checks b n (ap not e) h))
right_decides test f g b n e (inr h) = inr (rw e h)

-- what the one awaits is awaited of both, where the test holds of it
pub awaited-left : {P Q R : Type 0} (test : List ℕ → Bool) (f : Format P R) (g : Format Q R) (b : List ℕ) (n : ℕ) → test b ≡ true → IsAwaited f b n → IsAwaited (both test f g) b n
awaited-left test f g b n e is = record {
  above = is.above;
  holds = left_decides test f g b n e is.holds;
  least = λ m less h. is.least m less (decides_left test f g b m e h);
}

pub awaited-right : {P Q R : Type 0} (test : List ℕ → Bool) (f : Format P R) (g : Format Q R) (b : List ℕ) (n : ℕ) → test b ≡ false → IsAwaited g b n → IsAwaited (both test f g) b n
awaited-right test f g b n e is = record {
  above = is.above;
  holds = right_decides test f g b n e is.holds;
  least = λ m less h. is.least m less (decides_right test f g b m e h);
}

pub stays-left : {P Q X R : Type 0} (test : List ℕ → Bool) (left : P → X) (right : Q → X) (sort : X → P ⊎ Q) (f : Format P R) (g : Format Q R) (b : List ℕ) (n : ℕ) → ((more : List ℕ) → test (b ++ more) ≡ true) → StaysShort f b n →
    StaysShort (joined test left right sort f g) b n
stays-left test left right sort f g b n e stays more less = reading-left test left right sort f g (b ++ more) (e more) ∙ ap (found_as left) (stays more less)

pub stays-right : {P Q X R : Type 0} (test : List ℕ → Bool) (left : P → X) (right : Q → X) (sort : X → P ⊎ Q) (f : Format P R) (g : Format Q R) (b : List ℕ) (n : ℕ) → ((more : List ℕ) → test (b ++ more) ≡ false) → StaysShort g b n →
    StaysShort (joined test left right sort f g) b n
stays-right test left right sort f g b n e stays more less = reading-right test left right sort f g (b ++ more) (e more) ∙ ap (found_as right) (stays more less)
