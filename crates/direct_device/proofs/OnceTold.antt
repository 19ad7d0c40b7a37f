-- What the answers of a legal trace say of its performs.
use Rattle.usbip_urb.specs.Errors.{is_failed}
use Rattle.std.proofs.Common.{◌≡◌, ℕ, ◌&&◌, ◌||◌, Bool, true, false, cond, List, [], ◌∷◌, Option, Some, None, refl, sym, ap, subst, ◌∙◌, true≢false}
use Rattle.std.specs.Prelude.{pos, not, nat_lt, slice_get}
use Rattle.std.specs.List.{find, list_any}
use Rattle.std.proofs.lemmas.Bool.{eqb-true, both_ways, and_parts}
use Rattle.usb_base.specs.declared.status.UsbStatus.{UsbStatus}
use Rattle.usb_base.specs.declared.status.UsbStatus.TheVariants.{Cancelled}
use Rattle.usb_base.specs.declared.transfer.Outcome.{Outcome}
use Rattle.stream_buffers.specs.Cuts.{Cut}
use Rattle.model_device.specs.Meaning.{Meaning}
use Rattle.gate_history.proofs.lemmas.Lists.{Each}
use Rattle.usb_base.specs.declared.errno.TheConstants.{ECONNRESET, EREMOTEIO}
use Rattle.usb_base.specs.Lists.{is_empty}
use Rattle.gate_history.specs.step.Marks.{Submission}
use Rattle.gate_history.specs.declared.request.Request.{Request}
use Rattle.gate_history.specs.client.Verdict.{is_wire, goes_by_id}
use Rattle.gate_history.specs.host.Fillings.{Given, Transferred, Isochronous}
use Rattle.gate_history.specs.client.Ends.{is_waiting, is_cancelled, answers_by}
use Rattle.gate_history.specs.write.Answers.{fails_if_short, ret_unlink, with_outcome, with_given}
use Rattle.direct_device.specs.Direct.{Load, Live, Ran, Direct, first_direct, as_submission, number, is_number}
use Rattle.direct_device.specs.Acting.{Deed, Import, Submit, Unlink, Perform, Cancel, Answer, Offer, Arrive, Gone, ClientGone, answers_of, is_taken, is_target, unlink_answers, filled_answers, ran_answers, cut_for}
use Rattle.direct_device.specs.Legal.{IsAllowed, acts}
use Rattle.direct_device.specs.Performed.{times_performed, NeverCancels, is_won, is_good, FitsEnd, Fits, ItemsFit}
use Rattle.direct_device.proofs.Once.{was_performed, live_number, Idle, Holds, waits-no_id, id-no_wait}
use Rattle.direct_device.proofs.OnceLegal.{legal-once, allowed-front, allowed-back, answer-once, again-once, loss-once}

-- ---- an unlink that takes a submit back at once

any-each : {X : Type 0} (P : X → Type 0) (p : X → Bool) (Q : Type 0) → ((x : X) → P x → p x ≡ true → Q) → (xs : List X) → Each P xs → list_any p xs ≡ true → Q
any-each P p Q h [] e some = absurd (true≢false (sym some))
any-each P p Q h (x ∷ xs) e some = go (p x) refl (any-each P p Q h xs e.1) some
  where
    go : (b : Bool) → p x ≡ b → (list_any p xs ≡ true → Q) → (b || list_any p xs) ≡ true → Q
    go true is rest more = h x e.0 is
    go false is rest more = rest more

all-idle : {S : Type 0} (m : Meaning S) (d : Direct S) (c : ℕ → ℕ) → Holds m d c → d.imported ≡ true → Each (Idle c) d.live
all-idle m d c inv inside = go d.gone refl
  where
    go : (b : Bool) → d.gone ≡ b → Each (Idle c) d.live
    go true e = subst (Each (Idle c)) (sym (inv.lost e)) tt
    go false e = (inv.once inside e).idle

taken-once : {S : Type 0} (m : Meaning S) (d : Direct S) (c : ℕ → ℕ) (by n : ℕ) → Holds m d c → d.imported ≡ true → list_any is_won (unlink_answers d by n) ≡ true → c n ≡ 0
taken-once m d c by n inv inside told = any-each (Idle c) (is_taken n) (c n ≡ 0) zero d.live (all-idle m d c inv inside) (taken (list_any (is_taken n) d.live) (list_any (is_target n) d.live) told)
  where
    zero : (l : Live) → Idle c l → is_taken n l ≡ true → c n ≡ 0
    zero l idle is =
        let parts = and_parts (is_waiting l.load.verdict) (is_number n l.load) is in
        ap c (sym (eqb-true (number l.load) n parts.1)) ∙ idle (waits-no_id l.load.verdict parts.0)

    taken : (a b : Bool) → list_any is_won (cond a (ret_unlink by ECONNRESET ∷ []) (cond b [] (ret_unlink by (pos 0) ∷ []))) ≡ true → a ≡ true
    taken true b e = refl
    taken false true e = e
    taken false false e = e

-- ---- a submit's own end

-- packets win no unlink
filled-alone : (l : Load) (cut : Option (Cut Given)) → list_any is_won (filled_answers l cut) ≡ false
filled-alone l None = refl
filled-alone l (Some cut) = go cut.gives
  where
    go : (given : Given) → list_any is_won (with_given l.request given ∷ []) ≡ false
    go (Transferred outcome) = refl
    go (Isochronous outcome) = refl

-- only of one that was cancelled it is told that its unlink won
won-cancelled : (s : Submission) (o : Outcome) (unlinker : Option ℕ) → list_any is_won (answers_by s o unlinker) ≡ true → is_cancelled o.status ≡ true
won-cancelled s o None e = absurd (true≢false (sym e))
won-cancelled s o (Some own) e = go (is_wire s.verdict && is_cancelled o.status) refl e
  where
    go : (b : Bool) → (is_wire s.verdict && is_cancelled o.status) ≡ b → list_any is_won (cond b (ret_unlink own ECONNRESET ∷ []) (with_outcome s.request o ∷ ret_unlink own (pos 0) ∷ [])) ≡ true → is_cancelled o.status ≡ true
    go true is k = (and_parts (is_wire s.verdict) (is_cancelled o.status) is).1
    go false is k = absurd (true≢false (sym k))

-- and of no such one, that it was done
good-done : (r : Request) (o : Outcome) → is_good (with_outcome r o) ≡ true → is_cancelled o.status ≡ false
good-done r o = go o.status
  where
    short : (b : Bool) → not (is_failed (cond b EREMOTEIO ECONNRESET)) ≡ true → ⊥
    short true e = true≢false (sym e)
    short false e = true≢false (sym e)

    go : (status : UsbStatus) → is_good (with_outcome r (record { status = status; done = o.done; body = o.body })) ≡ true → is_cancelled status ≡ false
    go Cancelled e = absurd (short (r.is_in && is_empty r.descs && not (is_failed ECONNRESET) && nat_lt o.done r.transfer.wanted && fails_if_short r.flags) e)
    go _ e = refl

good-done_by : (s : Submission) (o : Outcome) (unlinker : Option ℕ) → list_any is_good (answers_by s o unlinker) ≡ true → is_cancelled o.status ≡ false
good-done_by s o None e = good-done s.request o (alone (is_good (with_outcome s.request o)) e)
  where
    alone : (b : Bool) → (b || false) ≡ true → b ≡ true
    alone true h = refl
    alone false h = h
good-done_by s o (Some own) e = go (is_wire s.verdict && is_cancelled o.status) e
  where
    alone : (b : Bool) → (b || (false || false)) ≡ true → b ≡ true
    alone true h = refl
    alone false h = h

    go : (b : Bool) → list_any is_good (cond b (ret_unlink own ECONNRESET ∷ []) (with_outcome s.request o ∷ ret_unlink own (pos 0) ∷ [])) ≡ true → is_cancelled o.status ≡ false
    go true k = absurd (true≢false (sym k))
    go false k = good-done s.request o (alone (is_good (with_outcome s.request o)) k)

-- the answers of one that doesn't wait
own-answers : {S : Type 0} (d : Direct S) (l : Live) → is_waiting l.load.verdict ≡ false → answers_of d (Some l) ≡ ran_answers l (slice_get d.ran 0)
own-answers d l waits = ap (λ (b : Bool). cond b (filled_answers l.load (cut_for d l.load)) (ran_answers l (slice_get d.ran 0))) waits

won-once : {S : Type 0} (m : Meaning S) → NeverCancels m → (d : Direct S) (c : ℕ → ℕ) (n : ℕ) (l : Live) → Holds m d c → IsAllowed m d (Answer n) → find (live_number n) d.live ≡ Some l → list_any is_won (answers_of d (Some l)) ≡ true → c n ≡ 0
won-once m never d c n l inv ok found told = go (is_waiting l.load.verdict) refl told
  where
    ran : (r : Option Ran) → list_any is_won (ran_answers l r) ≡ true → was_performed r ≡ 0
    ran None e = refl
    ran (Some r) e = ap (λ (b : Bool). cond b 0 1) (won-cancelled (as_submission l.load) r.outcome l.unlinker e)

    go : (b : Bool) → is_waiting l.load.verdict ≡ b → list_any is_won (cond b (filled_answers l.load (cut_for d l.load)) (ran_answers l (slice_get d.ran 0))) ≡ true → c n ≡ 0
    go true waits e = absurd (both_ways (list_any is_won (filled_answers l.load (cut_for d l.load))) (filled-alone l.load (cut_for d l.load)) e)
    go false waits e = answer-once m never d c n l inv found waits ok ∙ ran (slice_get d.ran 0) e

good-once : {S : Type 0} (m : Meaning S) → NeverCancels m → (d : Direct S) (c : ℕ → ℕ) (n : ℕ) (l : Live) → Holds m d c → IsAllowed m d (Answer n) → find (live_number n) d.live ≡ Some l → goes_by_id l.load.verdict ≡ true → list_any is_good (answers_of d (Some l)) ≡ true → c n ≡ 1
good-once m never d c n l inv ok found goes told =
    answer-once m never d c n l inv found waits ok ∙ ran (slice_get d.ran 0) (ap (list_any is_good) (sym (own-answers d l waits)) ∙ told)
  where
    waits : is_waiting l.load.verdict ≡ false
    waits = id-no_wait l.load.verdict goes

    ran : (r : Option Ran) → list_any is_good (ran_answers l r) ≡ true → was_performed r ≡ 1
    ran None e = absurd (true≢false (sym e))
    ran (Some r) e = ap (λ (b : Bool). cond b 0 1) (good-done_by (as_submission l.load) r.outcome l.unlinker e)

-- ---- each item

fits : {S : Type 0} (m : Meaning S) (d : Direct S) (c : ℕ → ℕ) (x : Deed) → Holds m d c → IsAllowed m d x → Fits m d c x
fits m d c (Unlink by target) inv ok = λ told. taken-once m d c by target inv ok told
fits m d c (Answer n) inv ok = λ never. go never (find (live_number n) d.live) refl
  where
    go : NeverCancels m → (o : Option Live) → find (live_number n) d.live ≡ o → FitsEnd (answers_of d o) (c n) o
    go never None found = tt
    go never (Some l) found = record { won = won-once m never d c n l inv ok found; good = good-once m never d c n l inv ok found }
fits m d c Gone inv ok = loss-once m d c inv ok
fits m d c Import inv ok = tt
fits m d c (Submit r) inv ok = tt
fits m d c (Perform ep n) inv ok = again-once m d c ep n inv ok
fits m d c (Cancel n) inv ok = tt
fits m d c (Offer ep) inv ok = tt
fits m d c (Arrive ep) inv ok = tt
fits m d c ClientGone inv ok = tt

pub items-fit : {S : Type 0} (m : Meaning S) → ItemsFit m
items-fit m s before after x legal =
    fits m (acts m (first_direct s) before) (λ n. times_performed n 0 before) x (legal-once m s before (allowed-front m before (x ∷ after) (first_direct s) legal))
    (allowed-back m before (x ∷ after) (first_direct s) legal).0
