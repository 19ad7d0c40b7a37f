-- Unlinks, performs, cancels and answers keep what holds.
use Rattle.std.proofs.Common.{◌≡◌, ℕ, ◌+◌, ◌≤◌, ◌==◌, Bool, true, false, cond, not, List, [], ◌∷◌, ◌++◌, map, Some, length, take, unwrap_or, slice_index, refl, sym, ap, ◌∙◌, arith}
use Rattle.std.specs.Prelude.{filter}
use Rattle.std.specs.List.{find, count_by}
use Rattle.std.proofs.lemmas.Bool.{eqb-true, and_parts}
use Rattle.usb_base.specs.Status.{is_success}
use Rattle.usb_base.specs.declared.transfer.Outcome.{Outcome}
use Rattle.control_route.specs.declared.route.Route.{Route}
use Rattle.control_route.specs.declared.route.Route.TheVariants as route
use Rattle.usb_base.specs.declared.setup.Setup.{Setup}
use Rattle.chapter9.specs.Standard.{ended}
use Rattle.model_device.specs.Submit.{routed_outcome, byte_seen}
use Rattle.gate_history.proofs.lemmas.Lists.{Each, both, Each-append, Each-filter}
use Rattle.gate_history.specs.declared.request.Request.{Request}
use Rattle.gate_history.specs.declared.verdict.Verdict.{Verdict}
use Rattle.gate_history.specs.declared.verdict.Verdict.TheVariants.{Routed}
use Rattle.gate_history.specs.client.Verdict.{goes_by_id}
use Rattle.gate_history.specs.client.Ends.{is_waiting, is_cancelled}
use Rattle.gate_history.specs.write.Packets.{no_setup}
use Rattle.direct_device.specs.Direct.{Live, Waiting, Ran, number, is_number, is_at, without_first, cancelled, seen_by}
use Rattle.direct_device.specs.Acting.{Perform, is_taken, asked_back, marked, is_cancelled_by, without_number}
use Rattle.direct_device.proofs.Counts.{count-cons, count-append, count-map, zero-count, itself, Each-map, Each-and, count-parts}
use Rattle.direct_device.proofs.Taken.{weight, weight-true, weight-false, away, count-same, count-taken, find-passes, filter-only, Each-without, Each-find}
use Rattle.direct_device.proofs.Once.{counted, done, by_id, live_number, queued_number, ran_number, Idle, Once, without_id, by-id-number, wait-by_id, passed}

-- ---- an unlink

pub unlink-once : {never : Type 0} (live : List Live) (queue : List Waiting) (ran : List Ran) (c : ℕ → ℕ) (by target : ℕ) → Once never live queue ran c →
    Once never (map (asked_back by target) (filter (λ l. not (is_taken target l)) live)) (map (marked target) queue) ran c
unlink-once live queue ran c by target o = record {
  zero = Each-map (λ (q : Waiting). c (number q.load) ≡ 0) (marked target) queue o.zero;
  came = o.came;
  idle = Each-map (Idle c) (asked_back by target) left (Each-filter (Idle c) (λ l. not (is_taken target l)) live o.idle);
  balance = λ k. omega (arith, o.balance k, fewer k, count-map (queued_number k) (marked target) queue, count-map (by_id k) (asked_back by target) left);
  one = λ k. omega (arith, o.one k, count-map (live_number k) (asked_back by target) left, count-parts (live_number k) (is_taken target) live);
}
  where
    left : List Live
    left = filter (λ l. not (is_taken target l)) live

    fewer : (k : ℕ) → count_by (by_id k) left ≡ count_by (by_id k) live
    fewer k = count-same (by_id k) (is_taken target) (λ l h. wait-by_id k l (and_parts (is_waiting l.load.verdict) (is_number target l.load) h).0) live

-- ---- a perform

-- what is seen of an outcome has its status
byte-status : (len byte : ℕ) (o : Outcome) → (byte_seen len byte o).status ≡ o.status
byte-status len byte o = elim (is_success o.status) as (λ b. (cond b (record { status = o.status; done = length (take len (byte ∷ [])); body = take len (byte ∷ []) }) (ended o.status)).status ≡ o.status) [ true ↦ refl | false ↦ refl ]

route-status : (r : Route) (s : Setup) (configuration : ℕ) (o : Outcome) → (routed_outcome r s configuration o).status ≡ o.status
route-status route.GetConfig s configuration o = byte-status s.length configuration o
route-status (route.GetAlt interface) s configuration o = byte-status s.length (slice_index o.body 0) o
route-status _ s configuration o = refl

pub seen-status : (r : Request) (v : Verdict) (configuration : ℕ) (o : Outcome) → (seen_by r v configuration o).status ≡ o.status
seen-status r (Routed x) configuration o = route-status x (unwrap_or r.transfer.setup no_setup) configuration o
seen-status r _ configuration o = refl

pub performed-once : {never : Type 0} (live : List Live) (queue : List Waiting) (ran : List Ran) (c : ℕ → ℕ) (ep n : ℕ) (q : Waiting) (flushed : Waiting → Bool) (o : Outcome) → Once never live queue ran c → find (is_at ep) queue ≡ Some q →
    is_number n q.load ≡ true → (never → is_cancelled o.status ≡ false) →
    Once never live (filter (λ y. not (flushed y)) (without_first (is_at ep) queue))
    (ran ++ (map (λ (y : Waiting). cancelled y.load) (filter flushed (without_first (is_at ep) queue)) ++ record { load = q.load; outcome = o } ∷ [])) (counted c (Perform ep n))
performed-once live queue ran c ep n q flushed outcome o first same came =
    let is : number q.load ≡ n = eqb-true (number q.load) n same in
    let own = weight-true (is_number n q.load) same in
    let few : count_by (queued_number n) queue + count_by (ran_number n) ran ≤ 1 = omega (arith, o.balance n, o.one n, by-id-number n live) in
    let split = count-taken (queued_number n) (is_at ep) queue q first in
    let none_rest : Each (λ (y : Waiting). queued_number n y ≡ false) rest = zero-count (queued_number n) rest (omega (arith, few, split, own)) in
    let none_ran : Each (λ (r : Ran). ran_number n r ≡ false) ran = zero-count (ran_number n) ran (omega (arith, few, split, own)) in
    let none_idle : Each (λ (l : Live). without_id n l ≡ false) live = zero-count (without_id n) live (omega (arith, o.balance n, o.one n, by-id-number n live, split, own)) in
    let zero_rest = passed (λ (y : Waiting). number y.load) (λ y. 0) c ep n rest none_rest (Each-without (λ (y : Waiting). c (number y.load) ≡ 0) (is_at ep) queue o.zero) in
    let was : c n ≡ 0 = ap c (sym is) ∙ Each-find (λ (y : Waiting). c (number y.load) ≡ 0) (is_at ep) queue q o.zero first in
    let now : counted c (Perform ep n) (number q.load) ≡ 1 =
    ap (λ (k : ℕ). cond (n == k) (c k + 1) (c k)) is ∙ ap (λ (b : Bool). cond b (c n + 1) (c n)) (itself n) ∙ ap (λ (k : ℕ). k + 1) was in
    record {
      zero = Each-filter (λ (y : Waiting). counted c (Perform ep n) (number y.load) ≡ 0) (λ y. not (flushed y)) rest zero_rest;
      came = λ never. Each-append (λ (r : Ran). counted c (Perform ep n) (number r.load) ≡ done r.outcome.status) ran (map cancel (filter flushed rest) ++ one ∷ [])
          (passed (λ (r : Ran). number r.load) (λ r. done r.outcome.status) c ep n ran none_ran (o.came never))
          (Each-append (λ (r : Ran). counted c (Perform ep n) (number r.load) ≡ done r.outcome.status) (map cancel (filter flushed rest)) (one ∷ [])
          (Each-map (λ (r : Ran). counted c (Perform ep n) (number r.load) ≡ done r.outcome.status) cancel (filter flushed rest) (Each-filter (λ (y : Waiting). counted c (Perform ep n) (number y.load) ≡ 0) flushed rest zero_rest))
          (now ∙ sym (ap (λ (b : Bool). cond b 0 1) (came never)), tt));
      idle = Each-and (λ (l : Live). without_id n l ≡ false) (Idle c) (Idle (counted c (Perform ep n))) others live none_idle o.idle;
      balance = λ k. omega (
        arith,
        o.balance k,
        count-taken (queued_number k) (is_at ep) queue q first,
        count-parts (queued_number k) flushed rest,
        count-append (ran_number k) ran (map cancel (filter flushed rest) ++ one ∷ []),
        count-append (ran_number k) (map cancel (filter flushed rest)) (one ∷ []),
        count-map (ran_number k) cancel (filter flushed rest),
      );
      one = o.one;
    }
  where
    rest : List Waiting
    rest = without_first (is_at ep) queue

    cancel : Waiting → Ran
    cancel y = cancelled y.load

    one : Ran
    one = record { load = q.load; outcome = outcome }

    others : (l : Live) → without_id n l ≡ false → Idle c l → Idle (counted c (Perform ep n)) l
    others l e h w =
        let apart : is_number n l.load ≡ false = ap (λ (b : Bool). both (not b) (is_number n l.load)) (sym w) ∙ e in
        ap (λ (b : Bool). cond b (c (number l.load) + 1) (c (number l.load))) (away (number l.load) n apart) ∙ h w

-- it was queued once more than it is then
pub performed-most : (queue : List Waiting) (c : ℕ → ℕ) (ep n : ℕ) (q : Waiting) (flushed : Waiting → Bool) → find (is_at ep) queue ≡ Some q → is_number n q.load ≡ true → ((k : ℕ) → c k + count_by (queued_number k) queue ≤ 1) →
    (k : ℕ) → counted c (Perform ep n) k + count_by (queued_number k) (filter (λ y. not (flushed y)) (without_first (is_at ep) queue)) ≤ 1
performed-most queue c ep n q flushed first same most k =
    let own : weight (queued_number k q) ≡ weight (n == k) = ap (λ (i : ℕ). weight (i == k)) (eqb-true (number q.load) n same) in
    omega (arith, most k, own, more (n == k), count-taken (queued_number k) (is_at ep) queue q first, count-parts (queued_number k) flushed (without_first (is_at ep) queue))
  where
    more : (b : Bool) → cond b (c k + 1) (c k) ≡ c k + weight b
    more true = refl
    more false = omega arith

-- ---- a cancel

pub cancelled-once : {never : Type 0} (live : List Live) (queue : List Waiting) (ran : List Ran) (c : ℕ → ℕ) (n : ℕ) (q : Waiting) → Once never live queue ran c → find (is_cancelled_by n) queue ≡ Some q →
    Once never live (without_first (is_cancelled_by n) queue) (ran ++ cancelled q.load ∷ []) c
cancelled-once live queue ran c n q o first = record {
  zero = Each-without (λ (y : Waiting). c (number y.load) ≡ 0) (is_cancelled_by n) queue o.zero;
  came = λ never. Each-append (λ (r : Ran). c (number r.load) ≡ done r.outcome.status) ran (cancelled q.load ∷ []) (o.came never)
      (Each-find (λ (y : Waiting). c (number y.load) ≡ 0) (is_cancelled_by n) queue q o.zero first, tt);
  idle = o.idle;
  balance = λ k. omega (arith, o.balance k, count-taken (queued_number k) (is_cancelled_by n) queue q first, count-append (ran_number k) ran (cancelled q.load ∷ []));
  one = o.one;
}

-- ---- an answer

-- the live one that is answered is the only one of its number
answered-left : (live : List Live) (n : ℕ) (l : Live) → count_by (live_number n) live ≤ 1 → find (live_number n) live ≡ Some l → (t : Live → Bool) → weight (t l) + count_by t (without_number n live) ≡ count_by t live
answered-left live n l one found t =
    let only = ap (count_by t) (filter-only (live_number n) live l found one) in
    omega (arith, only, count-parts t (live_number n) live)

-- one whose answer came goes by an id
answered-goes : {never : Type 0} (live : List Live) (queue : List Waiting) (c : ℕ → ℕ) (n : ℕ) (l : Live) (r : Ran) (rs : List Ran) → Once never live queue (r ∷ rs) c → find (live_number n) live ≡ Some l → is_number n r.load ≡ true → goes_by_id l.load.verdict ≡ true
answered-goes live queue c n l r rs o found same =
    let own = weight-true (is_number n r.load) same in
    let is = weight-true (live_number n l) (find-passes (live_number n) live l found) in
    let ids = answered-left live n l (o.one n) found (by_id n) in
    let all = answered-left live n l (o.one n) found (live_number n) in
    goes (goes_by_id l.load.verdict) (omega (arith, own, is, ids, all, o.one n, o.balance n, count-cons (ran_number n) r rs, by-id-number n (without_number n live)))
  where
    goes : (b : Bool) → 1 ≤ weight (both b (is_number n l.load)) → b ≡ true
    goes true h = refl
    goes false h = absurd (omega (arith, h))

pub answered-once : {never : Type 0} (live : List Live) (queue : List Waiting) (c : ℕ → ℕ) (n : ℕ) (l : Live) (r : Ran) (rs : List Ran) → Once never live queue (r ∷ rs) c → find (live_number n) live ≡ Some l → is_number n r.load ≡ true →
    Once never (without_number n live) queue rs c
answered-once live queue c n l r rs o found same = record {
  zero = o.zero;
  came = λ never. (o.came never).1;
  idle = Each-filter (Idle c) (λ y. not (live_number n y)) live o.idle;
  balance = λ k. let left = answered-left live n l (o.one n) found (by_id k) in let w = ap weight (one-number k) in omega (arith, o.balance k, count-cons (ran_number k) r rs, left, w);
  one = λ k. omega (arith, o.one k, count-parts (live_number k) (live_number n) live);
}
  where
    one-number : (k : ℕ) → by_id k l ≡ is_number k r.load
    one-number k =
        ap (λ (b : Bool). both b (is_number k l.load)) (answered-goes live queue c n l r rs o found same)
        ∙ ap (λ (i : ℕ). i == k) (eqb-true (number l.load) n (find-passes (live_number n) live l found) ∙ sym (eqb-true (number r.load) n same))

pub filled-once : {never : Type 0} (live : List Live) (queue : List Waiting) (ran : List Ran) (c : ℕ → ℕ) (n : ℕ) (l : Live) → Once never live queue ran c → find (live_number n) live ≡ Some l → is_waiting l.load.verdict ≡ true →
    Once never (without_number n live) queue ran c
filled-once live queue ran c n l o found waits = record {
  zero = o.zero;
  came = o.came;
  idle = Each-filter (Idle c) (λ y. not (live_number n y)) live o.idle;
  balance = λ k. let left = answered-left live n l (o.one n) found (by_id k) in let w = weight-false (by_id k l) (wait-by_id k l waits) in omega (arith, o.balance k, left, w);
  one = λ k. omega (arith, o.one k, count-parts (live_number k) (live_number n) live);
}
