-- Performed at most once: what holds along a legal trace of the device attached directly.
use Rattle.std.proofs.Common.{◌≡◌, ℕ, ◌+◌, ◌≤◌, ◌==◌, Bool, true, false, cond, not, List, [], ◌∷◌, Option, Some, None, refl, sym, ap, ◌∙◌, arith, true≢false}
use Rattle.std.specs.List.{count_by}
use Rattle.std.proofs.lemmas.Bool.{eqb-true}
use Rattle.usb_base.specs.declared.status.UsbStatus.{UsbStatus}
use Rattle.model_device.specs.Meaning.{Meaning}
use Rattle.gate_history.proofs.lemmas.Lists.{Each, both}
use Rattle.gate_history.specs.declared.request.Request.{Request}
use Rattle.gate_history.specs.declared.verdict.Verdict.{Verdict}
use Rattle.gate_history.specs.declared.verdict.Verdict.TheVariants.{Wire, Routed, Stream}
use Rattle.gate_history.specs.client.Verdict.{goes_by_id}
use Rattle.gate_history.specs.client.Ends.{is_waiting, is_cancelled}
use Rattle.direct_device.specs.Direct.{Live, Waiting, Ran, Direct, number, is_number}
use Rattle.direct_device.specs.Acting.{Deed, Import, Submit, Perform}
use Rattle.direct_device.proofs.Counts.{count-cons}
use Rattle.direct_device.specs.Performed.{times_performed, NeverCancels}
use Rattle.direct_device.proofs.Taken.{weight, away, count-apart}

-- ---- the performs of each number since it was last submitted, after one item more

abbrev pub counted : (ℕ → ℕ) → Deed → ℕ → ℕ
counted c (Submit r) n = cond (r.seqnum == n) 0 (c n)
counted c (Perform ep k) n = cond (k == n) (c n + 1) (c n)
counted c _ n = c n

pub counts-on : (c : ℕ → ℕ) (x : Deed) (xs : List Deed) (n : ℕ) → times_performed n (counted c x n) xs ≡ times_performed n (c n) (x ∷ xs)
counts-on c Import xs n = refl
counts-on c _ xs n = refl

-- ---- what holds

-- one that was cancelled wasn't performed
abbrev pub done : UsbStatus → ℕ
done status = cond (is_cancelled status) 0 1

abbrev pub was_performed : Option Ran → ℕ
was_performed None = 0
was_performed (Some r) = done r.outcome.status

abbrev pub by_id : ℕ → Live → Bool
by_id n l = both (goes_by_id l.load.verdict) (is_number n l.load)

abbrev pub live_number : ℕ → Live → Bool
live_number n l = is_number n l.load

abbrev pub queued_number : ℕ → Waiting → Bool
queued_number n q = is_number n q.load

abbrev pub ran_number : ℕ → Ran → Bool
ran_number n r = is_number n r.load

-- one that the host isn't asked for by an id is never performed
abbrev pub Idle : (ℕ → ℕ) → Live → Type 0
Idle c l = goes_by_id l.load.verdict ≡ false → c (number l.load) ≡ 0

-- in a session with the device there: what is queued wasn't performed, and of what ran it is known, where the device
-- never answers cancelled; each that goes by an id is in one of the two, once
pub record Once (never : Type 0) (live : List Live) (queue : List Waiting) (ran : List Ran) (c : ℕ → ℕ) : Type 0 where
  pub zero : Each (λ (q : Waiting). c (number q.load) ≡ 0) queue
  pub came : never → Each (λ (r : Ran). c (number r.load) ≡ done r.outcome.status) ran
  pub idle : Each (Idle c) live
  pub balance : (n : ℕ) → count_by (queued_number n) queue + count_by (ran_number n) ran ≡ count_by (by_id n) live
  pub one : (n : ℕ) → count_by (live_number n) live ≤ 1

-- and whoever is imported, what is queued is performed once at most
pub record Inv (never : Type 0) (imported gone : Bool) (live : List Live) (queue : List Waiting) (ran : List Ran) (c : ℕ → ℕ) : Type 0 where
  pub once : imported ≡ true → gone ≡ false → Once never live queue ran c
  pub most : (n : ℕ) → c n + count_by (queued_number n) queue ≤ 1
  pub out : imported ≡ false → (ran ≡ []) × (live ≡ [])
  pub lost : gone ≡ true → live ≡ []

abbrev pub Holds : {S : Type 0} → Meaning S → Direct S → (ℕ → ℕ) → Type 0
Holds m d c = Inv (NeverCancels m) d.imported d.gone d.live d.queue d.ran c

-- ---- of one that goes by an id, or waits

abbrev pub without_id : ℕ → Live → Bool
without_id n l = both (not (goes_by_id l.load.verdict)) (is_number n l.load)

pub by-id-number : (n : ℕ) (xs : List Live) → count_by (by_id n) xs + count_by (without_id n) xs ≤ count_by (live_number n) xs
by-id-number n xs = count-apart (by_id n) (without_id n) (live_number n) (λ l. parts (goes_by_id l.load.verdict) (is_number n l.load)) xs
  where
    parts : (a b : Bool) → weight (both a b) + weight (both (not a) b) ≤ weight b
    parts true b = omega arith
    parts false b = omega arith

pub waits-no_id : (v : Verdict) → is_waiting v ≡ true → goes_by_id v ≡ false
waits-no_id (Wire pipe) h = absurd (true≢false (sym h))
waits-no_id (Routed route) h = absurd (true≢false (sym h))
waits-no_id _ h = refl

pub id-no_wait : (v : Verdict) → goes_by_id v ≡ true → is_waiting v ≡ false
id-no_wait (Stream row) h = absurd (true≢false (sym h))
id-no_wait _ h = refl

pub wait-by_id : (n : ℕ) (l : Live) → is_waiting l.load.verdict ≡ true → by_id n l ≡ false
wait-by_id n l h = ap (λ (b : Bool). both b (is_number n l.load)) (waits-no_id l.load.verdict h)

-- ---- a number that is live is no number of a new one, nor of one that is performed

pub reset : {X : Type 0} (num value : X → ℕ) (c : ℕ → ℕ) (r : Request) (xs : List X) → Each (λ x. (num x == r.seqnum) ≡ false) xs → Each (λ x. c (num x) ≡ value x) xs → Each (λ x. counted c (Submit r) (num x) ≡ value x) xs
reset num value c r [] h k = tt
reset num value c r (x ∷ xs) h k = (ap (λ (b : Bool). cond b 0 (c (num x))) (away (num x) r.seqnum h.0) ∙ k.0, reset num value c r xs h.1 k.1)

pub passed : {X : Type 0} (num value : X → ℕ) (c : ℕ → ℕ) (ep n : ℕ) (xs : List X) → Each (λ x. (num x == n) ≡ false) xs → Each (λ x. c (num x) ≡ value x) xs → Each (λ x. counted c (Perform ep n) (num x) ≡ value x) xs
passed num value c ep n [] h k = tt
passed num value c ep n (x ∷ xs) h k = (ap (λ (b : Bool). cond b (c (num x) + 1) (c (num x))) (away (num x) n h.0) ∙ k.0, passed num value c ep n xs h.1 k.1)

pub found-zero : (n : ℕ) (c : ℕ → ℕ) (qs : List Waiting) → Each (λ (q : Waiting). c (number q.load) ≡ 0) qs → 1 ≤ count_by (queued_number n) qs → c n ≡ 0
found-zero n c [] h k = absurd (omega (arith, k))
found-zero n c (q ∷ qs) h k0 = go (is_number n q.load) refl (omega (arith, k0, count-cons (queued_number n) q qs)) (found-zero n c qs h.1)
  where
    go : (b : Bool) → is_number n q.load ≡ b → 1 ≤ weight b + count_by (queued_number n) qs → (1 ≤ count_by (queued_number n) qs → c n ≡ 0) → c n ≡ 0
    go true e k rest = ap c (sym (eqb-true (number q.load) n e)) ∙ h.0
    go false e k rest = rest (omega (arith, k))
