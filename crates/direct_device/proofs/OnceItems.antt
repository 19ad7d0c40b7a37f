-- Each item of a legal trace keeps what holds.
use Rattle.std.proofs.Common.{◌≡◌, ℕ, Bool, true, false, cond, not, List, [], ◌∷◌, ◌++◌, map, Option, Some, None, is_some, refl, sym, ap, subst, ◌∙◌, arith, true≢false}
use Rattle.std.specs.Prelude.{filter, slice_get, drop, IsSomeAnd, IsSome}
use Rattle.std.specs.List.{find}
use Rattle.std.proofs.lemmas.Bool.{eqb-true, both_ways}
use Rattle.usb_base.specs.Status.{is_success}
use Rattle.usb_base.specs.declared.transfer.Outcome.{Outcome}
use Rattle.usb_base.specs.declared.transfer.StreamPacket.{StreamPacket}
use Rattle.stream_buffers.specs.Cuts.{Cut}
use Rattle.model_device.specs.Meaning.{Meaning}
use Rattle.gate_history.specs.declared.request.Request.{Request}
use Rattle.usb_base.specs.declared.errno.TheConstants.{ESHUTDOWN}
use Rattle.gate_history.specs.host.Fillings.{Given}
use Rattle.gate_history.specs.declared.verdict.Verdict.TheVariants.{Now}
use Rattle.gate_history.specs.client.Verdict.{verdict, goes_by_id}
use Rattle.gate_history.specs.client.Ends.{is_waiting, is_cancelled}
use Rattle.gate_history.specs.step.Meaning.{by_stream}
use Rattle.gate_history.specs.state.Ups.{Up, no_streams, stream_at, stream_of}
use Rattle.direct_device.specs.Direct.{Live, Waiting, Ran, Direct, no_way, number, is_number, normal_of, seen_of, is_at, without_first, change_in, cancelled}
use Rattle.direct_device.specs.Acting.{Deed, Import, Submit, Unlink, Perform, Cancel, Answer, Offer, Arrive, Gone, ClientGone, act, made_of, is_ended, joins_live, is_taken, asked_back, marked, is_cancelled_by, is_flushed, performed_by, performed_first, cancelled_by, answered_by, filled_by, cut_for, without_number, offered_by, arrived_by, situation}
use Rattle.direct_device.specs.Legal.{CanAnswerBy, IsAllowed}
use Rattle.direct_device.specs.Performed.{NeverCancels}
use Rattle.direct_device.proofs.Counts.{count-map}
use Rattle.direct_device.proofs.Taken.{find-passes, count-taken}
use Rattle.direct_device.proofs.Once.{counted, live_number, queued_number, Once, Inv, Holds}
use Rattle.direct_device.proofs.OnceSubmit.{submit-once, submit-most, none-queued, gone-now}
use Rattle.direct_device.proofs.OnceSteps.{unlink-once, performed-once, performed-most, seen-status, cancelled-once, answered-once, filled-once}

-- ---- each item

keep-submit : {S : Type 0} (m : Meaning S) (d : Direct S) (c : ℕ → ℕ) (r : Request) → Holds m d c → IsAllowed m d (Submit r) → Holds m (act m d (Submit r)) (counted c (Submit r))
keep-submit m d c r inv ok = record {
  once = λ h k. submit-once d.live d.queue d.ran c r (made_of m d r) (inv.once h k) ok.1;
  most = submit-most d.queue c r (made_of m d r) inv.most (λ goes. none-queued d.live d.queue d.ran c r.seqnum (inv.once ok.0 (there goes)) ok.1);
  out = λ h. absurd (both_ways d.imported h ok.0);
  lost = λ h i. filter (λ y. not (is_ended (made_of m d r) y)) (inv.lost h i) ++ joins_live (record { request = r; verdict = made_of m d r }) (now h i);
}
  where
    now : d.gone ≡ true → made_of m d r ≡ Now ESHUTDOWN
    now h = ap (λ (b : Bool). by_stream (stream_at d.streams r.transfer.ep) (verdict (record (situation m d r) { lost = b }) r)) h ∙ gone-now (stream_at d.streams r.transfer.ep)

    there : goes_by_id (made_of m d r) ≡ true → d.gone ≡ false
    there goes = go d.gone refl
      where
        go : (b : Bool) → d.gone ≡ b → b ≡ false
        go true e = absurd (both_ways (goes_by_id (made_of m d r)) (ap goes_by_id (now e)) goes)
        go false e = refl

keep-perform : {S : Type 0} (m : Meaning S) (d : Direct S) (c : ℕ → ℕ) (ep n : ℕ) → Holds m d c → IsAllowed m d (Perform ep n) → Holds m (act m d (Perform ep n)) (counted c (Perform ep n))
keep-perform {S = S} m d c ep n inv ok = go (find (is_at ep) d.queue) refl ok.1
  where
    by : (q : Waiting) → find (is_at ep) d.queue ≡ Some q → is_number n q.load ≡ true → (o : Option (S × Outcome)) → m.perform d.gadget (normal_of q.load) ≡ o → is_some o ≡ true →
        Holds m (performed_by m d q (without_first (is_at ep) d.queue) o) (counted c (Perform ep n))
    by q first same None is some = absurd (true≢false (sym some))
    by q first same (Some out) is some = record {
      once = λ i k. subst (λ (b : Bool). Once (NeverCancels m) d.live (filter (λ y. not (flushed y)) rest) (cond b (d.ran ++ new) d.ran) (counted c (Perform ep n))) (sym i)
          (performed-once d.live d.queue d.ran c ep n q flushed (seen_of q.load (m.configuration out.0) out.1) (inv.once i k) first same
          (λ never. ap is_cancelled (seen-status q.load.request q.load.verdict (m.configuration out.0) out.1) ∙ never d.gadget (normal_of q.load) out is));
      most = performed-most d.queue c ep n q flushed first same inv.most;
      out = λ i. (ap (λ (b : Bool). cond b (d.ran ++ new) d.ran) i ∙ (inv.out i).0, (inv.out i).1);
      lost = inv.lost;
    }
      where
        rest : List Waiting
        rest = without_first (is_at ep) d.queue

        flushed : Waiting → Bool
        flushed = is_flushed (change_in q.load.verdict) (is_success out.1.status) (m.table d.gadget)

        new : List Ran
        new = map (λ (y : Waiting). cancelled y.load) (filter flushed rest) ++ record { load = q.load; outcome = seen_of q.load (m.configuration out.0) out.1 } ∷ []

    go : (o : Option Waiting) → find (is_at ep) d.queue ≡ o → IsSomeAnd o (λ q. (is_number n q.load ≡ true) × IsSome (m.perform d.gadget (normal_of q.load))) → Holds m (performed_first m d ep o) (counted c (Perform ep n))
    go None first can = absurd can
    go (Some q) first can = by q first can.0 (m.perform d.gadget (normal_of q.load)) refl can.1

keep-cancel : {S : Type 0} (m : Meaning S) (d : Direct S) (c : ℕ → ℕ) (n : ℕ) → Holds m d c → IsAllowed m d (Cancel n) → Holds m (act m d (Cancel n)) c
keep-cancel m d c n inv ok = go (find (is_cancelled_by n) d.queue) refl ok.1
  where
    go : (o : Option Waiting) → find (is_cancelled_by n) d.queue ≡ o → IsSomeAnd o (λ q. q.asked ≡ true) → Holds m (cancelled_by d n o) c
    go None first can = absurd can
    go (Some q) first can = record {
      once = λ i k. subst (λ (b : Bool). Once (NeverCancels m) d.live (without_first (is_cancelled_by n) d.queue) (cond b (d.ran ++ cancelled q.load ∷ []) d.ran) c) (sym i) (cancelled-once d.live d.queue d.ran c n q (inv.once i k) first);
      most = λ k. omega (arith, inv.most k, count-taken (queued_number k) (is_cancelled_by n) d.queue q first);
      out = λ i. (ap (λ (b : Bool). cond b (d.ran ++ cancelled q.load ∷ []) d.ran) i ∙ (inv.out i).0, (inv.out i).1);
      lost = inv.lost;
    }

keep-answer : {S : Type 0} (m : Meaning S) (d : Direct S) (c : ℕ → ℕ) (n : ℕ) → Holds m d c → IsAllowed m d (Answer n) → Holds m (act m d (Answer n)) c
keep-answer m d c n inv ok = go (find (live_number n) d.live) refl ok.1
  where
    number-is : (l : Live) → find (live_number n) d.live ≡ Some l → n ≡ number l.load
    number-is l found = sym (eqb-true (number l.load) n (find-passes (live_number n) d.live l found))

    filled : (l : Live) → find (live_number n) d.live ≡ Some l → is_waiting l.load.verdict ≡ true → (cut : Option (Cut Given)) → Holds m (filled_by d l.load cut) c
    filled l found waits None = inv
    filled l found waits (Some cut) = record {
      once = λ i k. subst (λ (j : ℕ). Once (NeverCancels m) (without_number j d.live) d.queue d.ran c) (number-is l found) (filled-once d.live d.queue d.ran c n l (inv.once i k) found waits);
      most = inv.most;
      out = λ i. absurd (both_ways d.imported i ok.0);
      lost = λ k. ap (without_number (number l.load)) (inv.lost k);
    }

    ran : (l : Live) → find (live_number n) d.live ≡ Some l → (rs : List Ran) → d.ran ≡ rs → IsSomeAnd (slice_get rs 0) (λ r. is_number (number l.load) r.load ≡ true) →
        Inv (NeverCancels m) d.imported d.gone (without_number (number l.load) d.live) d.queue (drop 1 rs) c
    ran l found [] is can = absurd can
    ran l found (r ∷ rs) is can = record {
      once = λ i k.
          let o : Once (NeverCancels m) d.live d.queue (r ∷ rs) c = subst (λ (y : List Ran). Once (NeverCancels m) d.live d.queue y c) is (inv.once i k) in
          subst (λ (j : ℕ). Once (NeverCancels m) (without_number j d.live) d.queue rs c) (number-is l found)
          (answered-once d.live d.queue c n l r rs o found (subst (λ (j : ℕ). is_number j r.load ≡ true) (sym (number-is l found)) can));
      most = inv.most;
      out = λ i. absurd (both_ways d.imported i ok.0);
      lost = λ k. ap (without_number (number l.load)) (inv.lost k);
    }

    by : (l : Live) → find (live_number n) d.live ≡ Some l → (b : Bool) → is_waiting l.load.verdict ≡ b → CanAnswerBy d l.load b →
        Holds m (cond b (filled_by d l.load (cut_for d l.load)) (record d { live = without_number (number l.load) d.live; ran = drop 1 d.ran })) c
    by l found true waits can = filled l found waits (cut_for d l.load)
    by l found false waits can = ran l found d.ran refl can

    go : (o : Option Live) → find (live_number n) d.live ≡ o → IsSomeAnd o (λ l. CanAnswerBy d l.load (is_waiting l.load.verdict)) → Holds m (answered_by d o) c
    go None found can = absurd can
    go (Some l) found can = by l found (is_waiting l.load.verdict) refl can

-- what its stream has, what it sends and what comes of it leave all else alone
keep-offer : {S : Type 0} (m : Meaning S) (d : Direct S) (c : ℕ → ℕ) (ep : ℕ) (o : Option (S × StreamPacket)) → Holds m d c → Holds m (offered_by d ep o) c
keep-offer m d c ep None inv = inv
keep-offer m d c ep (Some sent) inv = inv

keep-arrive : {S : Type 0} (m : Meaning S) (d : Direct S) (c : ℕ → ℕ) (ep : ℕ) (o : Option Up) (packets : List StreamPacket) → Holds m d c → Holds m (arrived_by d ep o packets) c
keep-arrive m d c ep None packets inv = inv
keep-arrive m d c ep (Some up) [] inv = inv
keep-arrive m d c ep (Some up) (p ∷ packets) inv = inv

keep-import : {S : Type 0} (m : Meaning S) (d : Direct S) (c : ℕ → ℕ) → Holds m d c → IsAllowed m d Import → Holds m (act m d Import) c
keep-import m d c inv ok =
    let empty = inv.out ok.0 in
    record {
      once = λ h k. subst (λ (q : List Waiting). Once (NeverCancels m) d.live q d.ran c) (sym ok.2) (subst (λ (r : List Ran). Once (NeverCancels m) d.live [] r c) (sym empty.0)
          (subst (λ (l : List Live). Once (NeverCancels m) l [] [] c) (sym empty.1) (record { zero = tt; came = λ never. tt; idle = tt; balance = λ n. refl; one = λ n. omega arith })));
      most = inv.most;
      out = λ h. absurd (true≢false h);
      lost = inv.lost;
    }

keep-left : {S : Type 0} (m : Meaning S) (d : Direct S) (c : ℕ → ℕ) → Holds m d c → Holds m (act m d ClientGone) c
keep-left {S = S} m d c inv = go d.imported refl
  where
    ask_all : Waiting → Waiting
    ask_all q = record q { asked = true }

    left : Direct S
    left = record d { live = []; queue = map ask_all d.queue; ran = []; streams = no_streams; way = no_way; imported = false }

    go : (b : Bool) → d.imported ≡ b → Holds m (cond b left d) c
    go true e = record { once = λ i k. absurd (true≢false (sym i)); most = λ n. omega (arith, inv.most n, count-map (queued_number n) ask_all d.queue); out = λ i. (refl, refl); lost = λ k. refl }
    go false e = inv

pub keep-item : {S : Type 0} (m : Meaning S) (d : Direct S) (c : ℕ → ℕ) (x : Deed) → Holds m d c → IsAllowed m d x → Holds m (act m d x) (counted c x)
keep-item m d c Import inv ok = keep-import m d c inv ok
keep-item m d c (Submit r) inv ok = keep-submit m d c r inv ok
keep-item m d c (Unlink by target) inv ok = record {
  once = λ h k. unlink-once d.live d.queue d.ran c by target (inv.once h k);
  most = λ n. omega (arith, inv.most n, count-map (queued_number n) (marked target) d.queue);
  out = λ h. absurd (both_ways d.imported h ok);
  lost = λ h. ap (λ (l : List Live). map (asked_back by target) (filter (λ y. not (is_taken target y)) l)) (inv.lost h);
}
keep-item m d c (Perform ep n) inv ok = keep-perform m d c ep n inv ok
keep-item m d c (Cancel n) inv ok = keep-cancel m d c n inv ok
keep-item m d c (Answer n) inv ok = keep-answer m d c n inv ok
keep-item m d c (Offer ep) inv ok = keep-offer m d c ep (m.offer d.gadget ep) inv
keep-item m d c (Arrive ep) inv ok = keep-arrive m d c ep (stream_of d.streams ep) (d.way ep) inv
keep-item m d c Gone inv ok = record { once = λ i k. absurd (true≢false k); most = inv.most; out = λ i. absurd (both_ways d.imported i ok.0); lost = λ k. refl }
keep-item m d c ClientGone inv ok = keep-left m d c inv
