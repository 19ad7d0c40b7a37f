-- Calls of a connection behind other calls.
use Rattle.std.proofs.Common.{◌≡◌, sym, refl, ap, subst, ◌∙◌, Bool, true, false, ℕ, zero, suc, ◌+◌, ◌<◌, ◌≤◌, ◌⊎◌, List, [], ◌∷◌, ◌++◌, length, take, Option, Some, Result, is_some, arith, inl, inr, zero-lt-suc, le_refl}
use Rattle.std.specs.declared.io.Error.{Error}
use Rattle.gate_sockets.specs.declared.step.Step.{Step}
use Rattle.gate_sockets.specs.declared.step.Step.TheVariants.{Moved, Blocked, Cut, Broken}
use Rattle.gate_sockets.specs.Ahead.{ReadsAhead}
use Rattle.gate_sockets.specs.Calls.{Call, Calls, came, came_by, went, went_by, tries, tries_by, broken, broken_by}
use Rattle.gate_sockets.specs.State.{State, untold, broke, faulted}
use Rattle.gate_sockets.specs.Step.{step_for, moved_of, IsStepWithin}
use Rattle.gate_sockets.specs.Writing.{most_tries, Called, Waited, Sent, WritesFront, WroteOnce, GivesUp, TakesFront}

calls-join : {S : Type 0} (r w : S → List ℕ → Result ℕ Error → S → Type 0) (later earlier : List Call) (a b c : Option S) → Calls r w earlier a b → Calls r w later b c → Calls r w (later ++ earlier) a c
calls-join r w [] earlier a b c x y = subst (λ s. Calls r w earlier a s) (sym y) x
calls-join r w (call ∷ later) earlier a b c x y = (y.0, (calls-join r w later earlier a b y.0 x y.1.0, y.1.1))

came-join : (later earlier : List Call) (bytes : List ℕ) → came (later ++ earlier) bytes ≡ came later (came earlier bytes)
came-join [] earlier bytes = refl
came-join (call ∷ later) earlier bytes = ap (λ b. came_by call.reads call b) (came-join later earlier bytes)

went-join : (later earlier : List Call) (bytes : List ℕ) → went (later ++ earlier) bytes ≡ went later (went earlier bytes)
went-join [] earlier bytes = refl
went-join (call ∷ later) earlier bytes = ap (λ b. went_by call.reads call b) (went-join later earlier bytes)

broken-join : (later earlier : List Call) (before : Bool) → broken (later ++ earlier) before ≡ broken later (broken earlier before)
broken-join [] earlier before = refl
broken-join (call ∷ later) earlier before = ap (λ b. broken_by (step_for call.answer) b) (broken-join later earlier before)

tries-by : (reads : Bool) (n k : ℕ) → tries_by reads (n + k) ≡ tries_by reads n + k
tries-by true n k = refl
tries-by false n k = omega arith

tries-join : (later earlier : List Call) → tries (later ++ earlier) 0 ≡ tries later 0 + tries earlier 0
tries-join [] earlier = omega arith
tries-join (call ∷ later) earlier = ap (λ n. tries_by call.reads n) (tries-join later earlier) ∙ tries-by call.reads (tries later 0) (tries earlier 0)

pub called-join : {S : Type 0} (r w : S → List ℕ → Result ℕ Error → S → Type 0) (later earlier : List Call) (a b c : State S) → Called r w earlier a b → Called r w later b c → Called r w (later ++ earlier) a c
called-join r w later earlier a b c x y =
    let step = subst (λ s. c ≡ record s { stream = c.stream; ahead = came later s.ahead; broken = broken later s.broken }) x.rest y.rest in
    record {
      chain = calls-join r w later earlier a.stream b.stream c.stream x.chain y.chain;
      rest = step
          ∙ ap (λ m. record a { stream = c.stream; ahead = m; broken = broken later (broken earlier a.broken) }) (sym (came-join later earlier a.ahead))
          ∙ ap (λ m. record a { stream = c.stream; ahead = came (later ++ earlier) a.ahead; broken = m }) (sym (broken-join later earlier a.broken));
    }

went-none : (later earlier : List Call) → went earlier [] ≡ [] → went (later ++ earlier) [] ≡ went later []
went-none later earlier none = went-join later earlier [] ∙ ap (λ bytes. went later bytes) none

pub waited-join : {S : Type 0} {r w : S → List ℕ → Result ℕ Error → S → Type 0} {n m : ℕ} {a b c : State S} → Waited r w n a b → Waited r w m b c → Waited r w (m + n) a c
waited-join {m = m} x y = record {
  calls = y.calls ++ x.calls;
  called = called-join _ _ y.calls x.calls _ _ _ x.called y.called;
  none = went-none y.calls x.calls x.none ∙ y.none;
  count = tries-join y.calls x.calls ∙ ap (λ k. k + tries x.calls 0) y.count ∙ ap (λ k. m + k) x.count;
}

pub sends-join : {S : Type 0} {r w : S → List ℕ → Result ℕ Error → S → Type 0} {n k : ℕ} {piece : List ℕ} {a b c : State S} → Waited r w n a b → WritesFront r w k piece b c → WritesFront r w k piece a c
sends-join {k = k} {piece = piece} {c = c} x y = record {
  some = y.some;
  within = y.within;
  calls = y.calls ++ x.calls;
  called = called-join _ _ y.calls x.calls _ _ _ x.called y.called;
  sent = subst (λ bytes. Sent k piece bytes c.broken) (sym (went-none y.calls x.calls x.none)) y.sent;
}

pub waited-none : {S : Type 0} (r w : S → List ℕ → Result ℕ Error → S → Type 0) (a : State S) → Waited r w 0 a a
waited-none r w a = record { calls = []; called = record { chain = refl; rest = refl }; none = refl; count = refl }

-- the link was read once
pub read-once : {S : Type 0} (r w : S → List ℕ → Result ℕ Error → S → Type 0) (buf : List ℕ) (answer : Result ℕ Error) (s t : S) (a b : State S) →
    a.stream ≡ Some s → b.stream ≡ Some t → r s buf answer t →
    b ≡ record a { stream = b.stream; ahead = a.ahead ++ moved_of (step_for answer) buf; broken = broken_by (step_for answer) a.broken } → Waited r w 0 a b
read-once r w buf answer s t a b is-s is-t gives rest =
    let call : Call = record { reads = true; bytes = buf; answer = answer } in
    record {
      calls = call ∷ [];
      called = record { chain = (a.stream, (refl, (s, (t, (is-s, is-t, gives))))); rest = rest };
      none = refl;
      count = refl;
    }

-- the link was written to once
pub written-once : {S : Type 0} (r w : S → List ℕ → Result ℕ Error → S → Type 0) (piece : List ℕ) (answer : Result ℕ Error) (s t : S) (a b : State S) →
    a.stream ≡ Some s → b.stream ≡ Some t → w s piece answer t →
    b ≡ record a { stream = b.stream; broken = broken_by (step_for answer) a.broken } → Called r w (record { reads = false; bytes = piece; answer = answer } ∷ []) a b
written-once r w piece answer s t a b is-s is-t gives rest =
    record { chain = (a.stream, (refl, (s, (t, (is-s, is-t, gives))))); rest = rest }

calls-up : {S : Type 0} (r w : S → List ℕ → Result ℕ Error → S → Type 0) (calls : List Call) (a b : Option S) → Calls r w calls a b → is_some b ≡ is_some a
calls-up r w [] a b x = ap (λ s. is_some s) x
calls-up r w (call ∷ calls) a b x =
    let did = x.1.1.1.1 in
    ap (λ s. is_some s) did.1 ∙ sym (ap (λ s. is_some s) did.0) ∙ calls-up r w calls a x.0 x.1.0

-- calls tell nothing of what is to come
pub called-untold : {S : Type 0} {r w : S → List ℕ → Result ℕ Error → S → Type 0} {calls : List Call} {a b : State S} → Called r w calls a b → untold b ≡ untold a
called-untold {a = a} x =
    ap (λ s. untold s) x.rest ∙ ap (λ up. record (untold a) { up = up }) (calls-up _ _ _ _ _ x.chain)

pub waited-untold : {S : Type 0} {r w : S → List ℕ → Result ℕ Error → S → Type 0} {n : ℕ} {a b : State S} → Waited r w n a b → untold b ≡ untold a
waited-untold x = called-untold x.called

-- one try more, and what is read on behind it
pub tried-again : {S : Type 0} {r w : S → List ℕ → Result ℕ Error → S → Type 0} {n : ℕ} {a b c d : State S} → Waited r w n a b → Waited r w 1 b c → Waited r w 0 c d → Waited r w (n + 1) a d
tried-again {r = r} {w = w} {n = n} {a = a} {d = d} x y z =
    let count : 0 + (1 + n) ≡ n + 1 = omega arith in
    subst (λ k. Waited r w k a d) count (waited-join {n = 1 + n} {m = 0} (waited-join x y) z)

-- a write was tried so often, and once more, and then given up
pub given-up : {S : Type 0} {r w : S → List ℕ → Result ℕ Error → S → Type 0} {n : ℕ} {a b over new : State S} → Waited r w n a b → Waited r w 1 b over → 1 + n ≡ most_tries → over.broken ≡ false → new ≡ faulted over → GivesUp r w a new
given-up {r = r} {w = w} {a = a} {over = over} x y all whole rest =
    record { over = over; waited = subst (λ k. Waited r w k a over) all (waited-join x y); whole = whole; rest = rest }

-- ---- one call

-- the link was read ahead once, or left as it was
pub read-ahead : {S : Type 0} (r w : S → List ℕ → Result ℕ Error → S → Type 0) (step : Step) (s t : S) (bytes : List ℕ) (old new : State S) →
    ReadsAhead r step s t old.ahead bytes → old.stream ≡ Some s →
    new ≡ record old { stream = Some t; ahead = bytes; broken = broken_by step old.broken } → Waited r w 0 old new
read-ahead {S = S} r w step s t bytes old new (inl (buf, (answer, (gives, is, behind)))) up e =
    let f : Option S → List ℕ → Bool → State S = λ x y z. record old { stream = x; ahead = y; broken = z } in
    let there : new.stream ≡ Some t = ap (λ (z : State S). z.stream) e in
    read-once r w buf answer s t old new up there gives
    (e ∙ ap (λ x. f x bytes (broken_by step old.broken)) (sym there) ∙ ap (λ y. f new.stream y (broken_by step old.broken)) behind
    ∙ ap (λ z. f new.stream (old.ahead ++ moved_of (step_for answer) buf) (broken_by z old.broken)) is)
read-ahead {S = S} r w step s t bytes old new (inr (is, same, none)) up e =
    let f : Option S → List ℕ → Bool → State S = λ x y z. record old { stream = x; ahead = y; broken = z } in
    let stands : new ≡ old =
    e ∙ ap (λ x. f (Some x) bytes (broken_by step old.broken)) same ∙ ap (λ x. f x bytes (broken_by step old.broken)) (sym up)
    ∙ ap (λ y. f old.stream y (broken_by step old.broken)) none ∙ ap (λ z. f old.stream old.ahead (broken_by z old.broken)) is in
    subst (λ z. Waited r w 0 old z) (sym stands) (waited-none r w old)

-- the same of a link that is seen so, where no error came
pub read-whole : {S : Type 0} {r w : S → List ℕ → Result ℕ Error → S → Type 0} {step : Step} {s t : S} {bytes : List ℕ} {old seen : State S} →
    old ≡ seen → ReadsAhead r step s t old.ahead bytes → old.stream ≡ Some s → broken_by step old.broken ≡ old.broken →
    Waited r w 0 seen (record old { stream = Some t; ahead = bytes })
read-whole {S = S} {r = r} {w = w} {step = step} {s = s} {t = t} {bytes = bytes} {old = old} seen reads up whole =
    let new : State S = record old { stream = Some t; ahead = bytes } in
    subst (λ (o : State S). Waited r w 0 o new) seen (read-ahead r w step s t bytes old new reads up (ap (λ b. record new { broken = b }) (sym whole)))

-- the link was written to once
called-once : {S : Type 0} (r w : S → List ℕ → Result ℕ Error → S → Type 0) (step : Step) (piece : List ℕ) (answer : Result ℕ Error) (s t : S) (old new : State S) →
    old.stream ≡ Some s → w s piece answer t → step ≡ step_for answer →
    new ≡ record old { stream = Some t; broken = broken_by step old.broken } → Called r w (record { reads = false; bytes = piece; answer = answer } ∷ []) old new
called-once {S = S} r w step piece answer s t old new up gives is e =
    let f : Option S → Bool → State S = λ x z. record old { stream = x; broken = z } in
    let there : new.stream ≡ Some t = ap (λ (z : State S). z.stream) e in
    written-once r w piece answer s t old new up there gives
    (e ∙ ap (λ x. f x (broken_by step old.broken)) (sym there) ∙ ap (λ z. f new.stream (broken_by z old.broken)) is)

waits-once : {S : Type 0} (r w : S → List ℕ → Result ℕ Error → S → Type 0) (step : Step) (piece : List ℕ) (answer : Result ℕ Error) (s t : S) (old new : State S) →
    old.stream ≡ Some s → w s piece answer t → step ≡ step_for answer → moved_of step piece ≡ [] →
    new ≡ record old { stream = Some t; broken = broken_by step old.broken } → Waited r w 1 old new
waits-once r w step piece answer s t old new up gives is none e = record {
  calls = record { reads = false; bytes = piece; answer = answer } ∷ [];
  called = called-once r w step piece answer s t old new up gives is e;
  none = ap (λ z. moved_of z piece) (sym is) ∙ none;
  count = refl;
}

sends-once : {S : Type 0} (r w : S → List ℕ → Result ℕ Error → S → Type 0) (step : Step) (n : ℕ) (piece : List ℕ) (answer : Result ℕ Error) (s t : S) (old new : State S) →
    0 < n → n ≤ length piece → old.stream ≡ Some s → w s piece answer t → step ≡ step_for answer → Sent n piece (moved_of step piece) new.broken →
    new ≡ record old { stream = Some t; broken = broken_by step old.broken } → WritesFront r w n piece old new
sends-once r w step n piece answer s t old new some within up gives is sent e = record {
  some = some;
  within = within;
  calls = record { reads = false; bytes = piece; answer = answer } ∷ [];
  called = called-once r w step piece answer s t old new up gives is e;
  sent = subst (λ z. Sent n piece (moved_of z piece) new.broken) is sent;
}

pub wrote-once : {S : Type 0} (r w : S → List ℕ → Result ℕ Error → S → Type 0) (step : Step) (taken : Option ℕ) (piece : List ℕ) (answer : Result ℕ Error) (s t : S) (old mid new : State S) →
    0 < length piece → old.broken ≡ false → IsStepWithin (length piece) step → old.stream ≡ Some s → w s piece answer t → step ≡ step_for answer →
    mid ≡ record old { stream = Some t } → TakesFront step (length piece) taken mid new → WroteOnce r w taken piece old new
wrote-once {S = S} r w (Moved zero) taken piece answer s t old mid new some whole within up gives is e takes =
    let stands : new ≡ record old { stream = Some t } = takes.2 ∙ e in
    subst (λ k. WroteOnce r w k piece old new) (sym (takes.0 refl))
    (waits-once r w (Moved zero) piece answer s t old new up gives is refl stands, ap (λ (z : State S). z.broken) stands ∙ whole)
wrote-once {S = S} r w (Moved (suc n)) taken piece answer s t old mid new some whole within up gives is e takes =
    let stands : new ≡ record old { stream = Some t } = takes.2 ∙ e in
    let sound : new.broken ≡ false = ap (λ (z : State S). z.broken) stands ∙ whole in
    let here : Sent (suc n) piece (take (suc n) piece) false = refl in
    subst (λ k. WroteOnce r w k piece old new) (sym (takes.1 (zero-lt-suc n)))
    (sends-once r w (Moved (suc n)) (suc n) piece answer s t old new (zero-lt-suc n) within up gives is (subst (λ b. Sent (suc n) piece (take (suc n) piece) b) (sym sound) here) stands)
wrote-once {S = S} r w Blocked taken piece answer s t old mid new some whole within up gives is e takes =
    let stands : new ≡ record old { stream = Some t } = takes.1 ∙ e in
    subst (λ k. WroteOnce r w k piece old new) (sym takes.0)
    (waits-once r w Blocked piece answer s t old new up gives is refl stands, ap (λ (z : State S). z.broken) stands ∙ whole)
wrote-once {S = S} r w Cut taken piece answer s t old mid new some whole within up gives is e takes =
    let stands : new ≡ record old { stream = Some t } = takes.1 ∙ e in
    subst (λ k. WroteOnce r w k piece old new) (sym takes.0)
    (waits-once r w Cut piece answer s t old new up gives is refl stands, ap (λ (z : State S). z.broken) stands ∙ whole)
wrote-once {S = S} r w (Broken error) taken piece answer s t old mid new some whole within up gives is e takes =
    let stands : new ≡ record old { stream = Some t; broken = true } = takes.1 ∙ ap (λ z. broke z) e in
    let lost : new.broken ≡ true = ap (λ (z : State S). z.broken) stands in
    let here : Sent (length piece) piece [] true = (refl, refl) in
    subst (λ k. WroteOnce r w k piece old new) (sym takes.0)
    (sends-once r w (Broken error) (length piece) piece answer s t old new some (le_refl (length piece)) up gives is (subst (λ b. Sent (length piece) piece [] b) (sym lost) here) stands)

pub still-whole : (step : Step) (b : Bool) → (step ≡ Blocked) ⊎ (step ≡ Cut) → b ≡ broken_by step b
still-whole step b (inl is) = ap (λ z. broken_by z b) (sym is)
still-whole step b (inr is) = ap (λ z. broken_by z b) (sym is)
