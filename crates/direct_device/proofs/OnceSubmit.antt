-- A submit keeps what holds.
use Rattle.std.proofs.Common.{◌≡◌, ℕ, ◌+◌, ◌≤◌, ◌==◌, Bool, true, false, cond, not, List, [], ◌∷◌, ◌++◌, Option, Some, None, refl, sym, ap, subst, ◌∙◌, arith, append-nil, true≢false}
use Rattle.std.specs.Prelude.{filter}
use Rattle.std.specs.List.{list_any, count_by}
use Rattle.std.proofs.lemmas.Bool.{eqb-true}
use Rattle.gate_history.proofs.lemmas.Lists.{Each, Each-append, Each-filter}
use Rattle.gate_history.specs.declared.request.Request.{Request}
use Rattle.usb_base.specs.declared.errno.TheConstants.{ESHUTDOWN}
use Rattle.gate_history.specs.declared.verdict.Verdict.{Verdict}
use Rattle.gate_history.specs.declared.verdict.Verdict.TheVariants.{Now, Wire, Routed, IsoOut, Stream}
use Rattle.gate_history.specs.client.Verdict.{goes_by_id}
use Rattle.gate_history.specs.client.Ends.{is_waiting, is_touched as ends_by_change}
use Rattle.gate_history.specs.state.Ups.{Up}
use Rattle.gate_history.specs.step.Meaning.{by_stream}
use Rattle.direct_device.specs.Direct.{Load, Live, Waiting, Ran, number}
use Rattle.direct_device.specs.Acting.{Submit, is_ended, joins_live, joins_queue}
use Rattle.direct_device.proofs.Counts.{count-append, any-none, count-zero, zero-count, itself, Each-and, count-parts}
use Rattle.direct_device.proofs.Taken.{weight, weight-true, weight-false, away, count-same}
use Rattle.direct_device.proofs.Once.{counted, done, by_id, live_number, queued_number, ran_number, Idle, Once, by-id-number, wait-by_id, reset}

-- ---- a submit

-- only one that waits is ended by another
ended-waits : (v w : Verdict) → ends_by_change v w ≡ true → is_waiting w ≡ true
ended-waits (Now status) w h = absurd (true≢false (sym h))
ended-waits (Wire pipe) w h = absurd (true≢false (sym h))
ended-waits (IsoOut row) w h = absurd (true≢false (sym h))
ended-waits (Stream row) w h = absurd (true≢false (sym h))
ended-waits (Routed route) (Now status) h = absurd (true≢false (sym h))
ended-waits (Routed route) (Wire pipe) h = absurd (true≢false (sym h))
ended-waits (Routed route) (Routed other) h = absurd (true≢false (sym h))
ended-waits (Routed route) (IsoOut row) h = absurd (true≢false (sym h))
ended-waits (Routed route) (Stream row) h = refl

joins-same : (m : ℕ) (r : Request) (v : Verdict) → count_by (queued_number m) (joins_queue (record { request = r; verdict = v })) ≡ count_by (by_id m) (joins_live (record { request = r; verdict = v }) v)
joins-same m r (Now status) = refl
joins-same m r _ = refl

joins-one : (m : ℕ) (r : Request) (v : Verdict) → count_by (live_number m) (joins_live (record { request = r; verdict = v }) v) ≤ weight (r.seqnum == m)
joins-one m r (Now status) = omega arith
joins-one m r _ = omega arith

fresh : (c : ℕ → ℕ) (r : Request) → counted c (Submit r) r.seqnum ≡ 0
fresh c r = ap (λ (b : Bool). cond b 0 (c r.seqnum)) (itself r.seqnum)

joins-zero : (c : ℕ → ℕ) (r : Request) (v : Verdict) → Each (λ (q : Waiting). counted c (Submit r) (number q.load) ≡ 0) (joins_queue (record { request = r; verdict = v }))
joins-zero c r (Wire pipe) = (fresh c r, tt)
joins-zero c r (Routed route) = (fresh c r, tt)
joins-zero c r _ = tt

joins-idle : (c : ℕ → ℕ) (r : Request) (v : Verdict) → Each (Idle (counted c (Submit r))) (joins_live (record { request = r; verdict = v }) v)
joins-idle c r (Now status) = tt
joins-idle c r (IsoOut row) = tt
joins-idle c r _ = ((λ h. fresh c r), tt)

pub submit-once : {never : Type 0} (live : List Live) (queue : List Waiting) (ran : List Ran) (c : ℕ → ℕ) (r : Request) (v : Verdict) → Once never live queue ran c → list_any (live_number r.seqnum) live ≡ false →
    Once never (filter (λ y. not (is_ended v y)) live ++ joins_live (record { request = r; verdict = v }) v) (queue ++ joins_queue (record { request = r; verdict = v })) ran (counted c (Submit r))
submit-once live queue ran c r v o free =
    let l : Load = record { request = r; verdict = v } in
    let left : List Live = filter (λ y. not (is_ended v y)) live in
    let new : Each (λ (y : Live). live_number r.seqnum y ≡ false) live = any-none (live_number r.seqnum) live free in
    let none : count_by (by_id r.seqnum) live ≡ 0 = (let z = count-zero (live_number r.seqnum) live new in omega (arith, z, by-id-number r.seqnum live)) in
    let none-queued = zero-count (queued_number r.seqnum) queue (omega (arith, none, o.balance r.seqnum)) in
    let none-ran = zero-count (ran_number r.seqnum) ran (omega (arith, none, o.balance r.seqnum)) in
    record {
      zero = Each-append (λ (q : Waiting). counted c (Submit r) (number q.load) ≡ 0) queue (joins_queue l) (reset (λ (q : Waiting). number q.load) (λ q. 0) c r queue none-queued o.zero) (joins-zero c r v);
      came = λ never. reset (λ (y : Ran). number y.load) (λ y. done y.outcome.status) c r ran none-ran (o.came never);
      idle = Each-append (Idle (counted c (Submit r))) left (joins_live l v)
          (Each-filter (Idle (counted c (Submit r))) (λ y. not (is_ended v y)) live
          (Each-and (λ (y : Live). live_number r.seqnum y ≡ false) (Idle c) (Idle (counted c (Submit r))) (λ y e h w. ap (λ (b : Bool). cond b 0 (c (number y.load))) (away (number y.load) r.seqnum e) ∙ h w) live new o.idle))
          (joins-idle c r v);
      balance = λ k.
          let same = count-same (by_id k) (is_ended v) (λ y h. wait-by_id k y (ended-waits v y.load.verdict h)) live in
          omega (arith, o.balance k, same, joins-same k r v, count-append (queued_number k) queue (joins_queue l), count-append (by_id k) left (joins_live l v));
      one = λ k. few k (r.seqnum == k) refl;
    }
  where
    few : (k : ℕ) (b : Bool) → (r.seqnum == k) ≡ b → count_by (live_number k) (filter (λ y. not (is_ended v y)) live ++ joins_live (record { request = r; verdict = v }) v) ≤ 1
    few k true e =
        let z : count_by (live_number k) live ≡ 0 = subst (λ (i : ℕ). count_by (live_number i) live ≡ 0) (eqb-true r.seqnum k e) (count-zero (live_number r.seqnum) live (any-none (live_number r.seqnum) live free)) in
        let w = weight-true (r.seqnum == k) e in
        omega (arith, z, w, joins-one k r v, count-parts (live_number k) (is_ended v) live, count-append (live_number k) (filter (λ y. not (is_ended v y)) live) (joins_live (record { request = r; verdict = v }) v))
    few k false e =
        let w = weight-false (r.seqnum == k) e in
        omega (arith, w, o.one k, joins-one k r v, count-parts (live_number k) (is_ended v) live, count-append (live_number k) (filter (λ y. not (is_ended v y)) live) (joins_live (record { request = r; verdict = v }) v))

-- one that joins the queue is new there
pub submit-most : (queue : List Waiting) (c : ℕ → ℕ) (r : Request) (v : Verdict) → ((k : ℕ) → c k + count_by (queued_number k) queue ≤ 1) → (goes_by_id v ≡ true → count_by (queued_number r.seqnum) queue ≡ 0) →
    (k : ℕ) → counted c (Submit r) k + count_by (queued_number k) (queue ++ joins_queue (record { request = r; verdict = v })) ≤ 1
submit-most queue c r v most free k = go v free (r.seqnum == k) refl
  where
    stays : (b : Bool) → cond b 0 (c k) + count_by (queued_number k) queue ≤ 1
    stays true = omega (arith, most k)
    stays false = most k

    same : (b : Bool) → count_by (queued_number k) (queue ++ []) ≡ count_by (queued_number k) queue
    same b = ap (count_by (queued_number k)) (append-nil queue)

    joined : (w : Waiting) → number w.load ≡ r.seqnum → (b : Bool) → (r.seqnum == k) ≡ b → count_by (queued_number r.seqnum) queue ≡ 0 → cond b 0 (c k) + count_by (queued_number k) (queue ++ w ∷ []) ≤ 1
    joined w is true e none =
        let z : count_by (queued_number k) queue ≡ 0 = subst (λ (i : ℕ). count_by (queued_number i) queue ≡ 0) (eqb-true r.seqnum k e) none in
        let one = weight-true (number w.load == k) (ap (λ (i : ℕ). i == k) is ∙ e) in
        omega (arith, z, one, count-append (queued_number k) queue (w ∷ []))
    joined w is false e none =
        let other = weight-false (number w.load == k) (ap (λ (i : ℕ). i == k) is ∙ e) in
        omega (arith, most k, other, count-append (queued_number k) queue (w ∷ []))

    go : (v : Verdict) → (goes_by_id v ≡ true → count_by (queued_number r.seqnum) queue ≡ 0) → (b : Bool) → (r.seqnum == k) ≡ b → cond b 0 (c k) + count_by (queued_number k) (queue ++ joins_queue (record { request = r; verdict = v })) ≤ 1
    go (Wire pipe) free b e = joined (record { load = record { request = r; verdict = Wire pipe }; asked = false }) refl b e (free refl)
    go (Routed route) free b e = joined (record { load = record { request = r; verdict = Routed route }; asked = false }) refl b e (free refl)
    go _ free b e = omega (arith, stays b, same b)

-- in a session nothing of a new number is queued
pub none-queued : {never : Type 0} (live : List Live) (queue : List Waiting) (ran : List Ran) (c : ℕ → ℕ) (n : ℕ) → Once never live queue ran c → list_any (live_number n) live ≡ false → count_by (queued_number n) queue ≡ 0
none-queued live queue ran c n o free =
    let z = count-zero (live_number n) live (any-none (live_number n) live free) in
    omega (arith, z, by-id-number n live, o.balance n)

-- where the device is gone, a submit is answered at once
pub gone-now : (o : Option Up) → by_stream o (Now ESHUTDOWN) ≡ Now ESHUTDOWN
gone-now None = refl
gone-now (Some up) = refl
