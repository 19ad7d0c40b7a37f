-- What holds along a whole legal trace, and what it says where something is performed, answered or lost.
use Rattle.std.proofs.Common.{◌≡◌, ℕ, ◌≤◌, Bool, true, false, List, [], ◌∷◌, ◌++◌, Option, Some, None, refl, sym, ap, subst, ◌∙◌, arith, true≢false}
use Rattle.std.specs.Prelude.{slice_get, IsSomeAnd, IsSome}
use Rattle.std.specs.List.{find, count_by}
use Rattle.std.proofs.lemmas.Bool.{eqb-true}
use Rattle.model_device.specs.Meaning.{Meaning}
use Rattle.gate_history.proofs.lemmas.Lists.{Each, both, Each-weaker}
use Rattle.gate_history.specs.client.Verdict.{goes_by_id}
use Rattle.gate_history.specs.client.Ends.{is_waiting}
use Rattle.direct_device.specs.Direct.{Live, Waiting, Ran, Direct, first_direct, number, is_number, is_at, normal_of}
use Rattle.direct_device.specs.Acting.{Deed, Perform, Answer, Gone, act}
use Rattle.direct_device.specs.Legal.{CanAnswerBy, IsAllowed, AreAllowed, acts}
use Rattle.direct_device.proofs.Counts.{count-cons, any-some, itself, Each-and}
use Rattle.direct_device.specs.Performed.{times_performed, NeverCancels, FitsPerform}
use Rattle.direct_device.proofs.Once.{was_performed, counted, counts-on, queued_number, done, by_id, live_number, ran_number, Idle, Once, Holds, found-zero, by-id-number}
use Rattle.direct_device.proofs.Taken.{weight, weight-true, find-passes, count-taken}
use Rattle.direct_device.proofs.OnceItems.{keep-item}

-- ---- a whole trace

keep-all : {S : Type 0} (m : Meaning S) (xs : List Deed) (d : Direct S) (c : ℕ → ℕ) → Holds m d c → AreAllowed m d xs → Holds m (acts m d xs) (λ n. times_performed n (c n) xs)
keep-all m [] d c inv ok = inv
keep-all m (x ∷ xs) d c inv ok =
    subst (λ (f : ℕ → ℕ). Holds m (acts m (act m d x) xs) f) (λ i n. counts-on c x xs n i) (keep-all m xs (act m d x) (counted c x) (keep-item m d c x inv ok.0) ok.1)

pub legal-once : {S : Type 0} (m : Meaning S) (s : S) (deeds : List Deed) → AreAllowed m (first_direct s) deeds → Holds m (acts m (first_direct s) deeds) (λ n. times_performed n 0 deeds)
legal-once m s deeds ok = keep-all m deeds (first_direct s) (λ n. 0) (record { once = λ i k. absurd (true≢false (sym i)); most = λ n. omega arith; out = λ i. (refl, refl); lost = λ k. refl }) ok

pub allowed-front : {S : Type 0} (m : Meaning S) (xs ys : List Deed) (d : Direct S) → AreAllowed m d (xs ++ ys) → AreAllowed m d xs
allowed-front m [] ys d h = tt
allowed-front m (x ∷ xs) ys d h = (h.0, allowed-front m xs ys (act m d x) h.1)

pub allowed-back : {S : Type 0} (m : Meaning S) (xs ys : List Deed) (d : Direct S) → AreAllowed m d (xs ++ ys) → AreAllowed m (acts m d xs) ys
allowed-back m [] ys d h = h
allowed-back m (x ∷ xs) ys d h = allowed-back m xs ys (act m d x) h.1

-- ---- what is answered

-- one that is live says that the device is there
there-of : {S : Type 0} (m : Meaning S) (d : Direct S) (c : ℕ → ℕ) (n : ℕ) (l : Live) → Holds m d c → find (live_number n) d.live ≡ Some l → d.gone ≡ false
there-of m d c n l inv found = go d.gone refl
  where
    go : (b : Bool) → d.gone ≡ b → b ≡ false
    go true e = absurd (let bad : None ≡ Some l = ap (find (live_number n)) (sym (inv.lost e)) ∙ found in cc)
    go false e = refl

pub answer-once : {S : Type 0} (m : Meaning S) → NeverCancels m → (d : Direct S) (c : ℕ → ℕ) (n : ℕ) (l : Live) → Holds m d c → find (live_number n) d.live ≡ Some l → is_waiting l.load.verdict ≡ false → IsAllowed m d (Answer n) →
    c n ≡ was_performed (slice_get d.ran 0)
answer-once m never d c n l inv found waits ok = go d.ran refl (subst (CanAnswerBy d l.load) waits (subst (λ (o : Option Live). IsSomeAnd o (λ l. CanAnswerBy d l.load (is_waiting l.load.verdict))) found ok.1))
  where
    is : number l.load ≡ n
    is = eqb-true (number l.load) n (find-passes (live_number n) d.live l found)

    go : (rs : List Ran) → d.ran ≡ rs → IsSomeAnd (slice_get d.ran 0) (λ r. is_number (number l.load) r.load ≡ true) → c n ≡ was_performed (slice_get d.ran 0)
    go [] e h = absurd (subst (λ (y : List Ran). IsSomeAnd (slice_get y 0) (λ r. is_number (number l.load) r.load ≡ true)) e h)
    go (r ∷ rs) e h =
        let same : number r.load ≡ n = eqb-true (number r.load) (number l.load) (subst (λ (y : List Ran). IsSomeAnd (slice_get y 0) (λ r. is_number (number l.load) r.load ≡ true)) e h) ∙ is in
        let o = inv.once ok.0 (there-of m d c n l inv found) in
        let came = subst (Each (λ (y : Ran). c (number y.load) ≡ done y.outcome.status)) e (o.came never) in
        ap c (sym same) ∙ came.0 ∙ ap (λ (y : List Ran). was_performed (slice_get y 0)) (sym e)

-- what is performed wasn't performed before, and in a session it is live
pub again-once : {S : Type 0} (m : Meaning S) (d : Direct S) (c : ℕ → ℕ) (ep n : ℕ) → Holds m d c → IsAllowed m d (Perform ep n) → FitsPerform d (c n) n
again-once m d c ep n inv ok = go (find (is_at ep) d.queue) refl ok.1
  where
    go : (o : Option Waiting) → find (is_at ep) d.queue ≡ o → IsSomeAnd o (λ q. (is_number n q.load ≡ true) × IsSome (m.perform d.gadget (normal_of q.load))) → FitsPerform d (c n) n
    go None first can = absurd can
    go (Some q) first can =
        let own = weight-true (queued_number n q) can.0 in
        let split = count-taken (queued_number n) (is_at ep) d.queue q first in
        record {
          first = omega (arith, own, split, inv.most n);
          live = λ inside. any-some (live_number n) d.live (let o = inv.once inside ok.0 in omega (arith, own, split, o.balance n, by-id-number n d.live));
        }

-- each that goes by an id counts as one
each-by_id : (xs : List Live) → Each (λ (l : Live). goes_by_id l.load.verdict ≡ true → 1 ≤ count_by (by_id (number l.load)) xs) xs
each-by_id [] = tt
each-by_id (x ∷ xs) = (
  (λ goes. let own = ap weight (ap (λ (b : Bool). both b (is_number (number x.load) x.load)) goes ∙ itself (number x.load)) in omega (arith, own, count-cons (by_id (number x.load)) x xs)),
  Each-weaker (λ (l : Live). goes_by_id l.load.verdict ≡ true → 1 ≤ count_by (by_id (number l.load)) xs) (λ (l : Live). goes_by_id l.load.verdict ≡ true → 1 ≤ count_by (by_id (number l.load)) (x ∷ xs)) (λ l h goes. let one = h goes in omega (arith, one, count-cons (by_id (number l.load)) x xs)) xs (each-by_id xs),
)

pub loss-once : {S : Type 0} (m : Meaning S) (d : Direct S) (c : ℕ → ℕ) → Holds m d c → IsAllowed m d Gone → Each (λ (l : Live). c (number l.load) ≡ 0) d.live
loss-once m d c inv ok =
    let o = inv.once ok.0 ok.1 in
    Each-and (λ (l : Live). goes_by_id l.load.verdict ≡ true → 1 ≤ count_by (by_id (number l.load)) d.live) (Idle c) (λ (l : Live). c (number l.load) ≡ 0) (λ l h w. go l o (goes_by_id l.load.verdict) refl h w) d.live (each-by_id d.live) o.idle
  where
    go : (l : Live) → Once (NeverCancels m) d.live d.queue d.ran c → (b : Bool) → goes_by_id l.load.verdict ≡ b → (goes_by_id l.load.verdict ≡ true → 1 ≤ count_by (by_id (number l.load)) d.live) → Idle c l → c (number l.load) ≡ 0
    go l o true goes h w =
        let some = h goes in
        let none : count_by (ran_number (number l.load)) d.ran ≡ 0 = ap (count_by (ran_number (number l.load))) ok.2 in
        found-zero (number l.load) c d.queue o.zero (omega (arith, some, none, o.balance (number l.load)))
    go l o false goes h w = w goes
