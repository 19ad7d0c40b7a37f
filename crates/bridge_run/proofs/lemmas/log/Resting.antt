-- A session's log, as a round ends.
use Rattle.std.proofs.Common.{◌≡◌, ℕ, ◌+◌, ◌-◌, ◌<◌, ◌≤◌, not, Bool, true, false, List, is_some, Result, Ok, Err, refl, sym, ap, ◌∙◌, subst, inr, arith}
use Rattle.std.proofs.lemmas.Bool.{false≢true, not-true}
use Rattle.gate_outside.specs.Calls.{Call}
use Rattle.bridge_run.specs.events.Events.{PastLinkEvent}
use Rattle.bridge_run.specs.declared.course.rounds.Rounds.{Rounds}
use Rattle.bridge_run.specs.declared.course.serve_end.ServeEnd.{ServeEnd}
use Rattle.bridge_run.specs.declared.course.serve_end.ServeEnd.TheVariants as end
use Rattle.bridge_run.specs.events.Prescribed.{Prescribed}
use Rattle.bridge_run.specs.written.Ups.{host_since}
use Rattle.bridge_run.specs.log.Asks.{Ask, asks_of, quiet_rounds, is_behind_host}
use Rattle.bridge_run.specs.log.Log.{Terms, events_of, BeginsRound, Logged}
use Rattle.bridge_run.specs.inner.Keeping.{RestsBusy, Rests}
use Rattle.bridge_run.specs.course.Course.{AtDoor, AtEnd}
use Rattle.bridge_run.specs.inner.Logging.{IsOn, IsAsking, Logs}
use Rattle.bridge_run.proofs.lemmas.log.Log.{lines-fault}

-- what was kept of the links is the same
at-kept : {D : Type 0} → (gives : D → Call → D → Type 0) (stands : List PastLinkEvent → Type 0) (tells : List ℕ → Type 0) (terms : Terms) (p : Prescribed) (asks : List Ask) (k k' : Rounds) (begun now : D) → k'.left ≡ k.left → k'.client_up ≡ k.client_up → k'.host_up ≡ k.host_up → k'.refused ≡ k.refused
    → IsOn gives stands tells terms p asks k begun now → IsOn gives stands tells terms p asks k' begun now
at-kept gives stands tells terms p asks k k' begun now left client host refused a = record {
  at = record {
    calls = a.at.calls;
    called = a.at.called;
    settled = a.at.settled;
    asks-are = a.at.asks-are;
    stands_for = a.at.stands_for;
    written = a.at.written;
    told = a.at.told;
    told_before = a.at.told_before;
    left = left ∙ a.at.left;
    client_up = client ∙ a.at.client_up;
    host_up = host ∙ a.at.host_up;
    links = a.at.links;
    refused = refused ∙ a.at.refused;
  };
  goes_on = a.goes_on;
}

more-waits : (w q i w' : ℕ) → w + q ≡ i + 1 → w' ≡ w - 1 → 0 < w → w' + q ≡ i + 0
more-waits w q i w' is less some = omega arith

fresh-waits : (w q i : ℕ) → w ≡ i → q ≡ 0 → w + q ≡ i + 0
fresh-waits w q i is none = omega arith

whole-wait : (w i : ℕ) → w ≡ i → w ≤ i
whole-wait w i is = omega arith

less-wait : (w i w' : ℕ) → w' ≡ w - 1 → w ≤ i → w' ≤ i
less-wait w i w' less within = omega arith

rested-busy : {D : Type 0} → (busy : Bool) (gives : D → Call → D → Type 0) (stands : List PastLinkEvent → Type 0) (tells : List ℕ → Type 0) (terms : Terms) (p : Prescribed) (k k' : Rounds) (begun now : D) → k.busy ≡ busy → RestsBusy busy k k'
    → IsAsking AtEnd gives stands tells terms p k begun now → IsAsking AtDoor gives stands tells terms p k' begun now
rested-busy true gives stands tells terms p k k' begun now is r a =
    let waits : k'.waits ≡ terms.idle = ap (λ (q : Rounds). q.waits) r ∙ a.patient.idle in
    record {
      asks = a.asks;
      on = at-kept gives stands tells terms p a.asks k k' begun now (ap (λ (q : Rounds). q.left) r) (ap (λ (q : Rounds). q.client_up) r) (ap (λ (q : Rounds). q.host_up) r) (ap (λ (q : Rounds). q.refused) r) a.on;
      patient = record { idle = ap (λ (q : Rounds). q.idle) r ∙ a.patient.idle; some = a.patient.some; waits = subst (λ (n : ℕ). 0 < n) (sym waits) a.patient.some; within = whole-wait k'.waits terms.idle waits };
      waited = (
        ap (λ (q : Rounds). q.busy) r,
        record {
          came = λ up. a.waited.came (sym (ap (λ (q : Rounds). q.client_up) r) ∙ up);
          busy = λ b. absurd (false≢true (sym (ap (λ (q : Rounds). q.busy) r) ∙ b));
          quiet = λ f. fresh-waits k'.waits (quiet_rounds a.asks) terms.idle waits (a.waited.busy is);
        },
      );
      turn = λ up. a.turn (sym (ap (λ (q : Rounds). q.host_up) r) ∙ up);
    }
rested-busy false gives stands tells terms p k k' begun now is r a =
    let quiet = ap (λ (q : Rounds). q.busy) r.0 ∙ is in
    record {
      asks = a.asks;
      on = at-kept gives stands tells terms p a.asks k k' begun now (ap (λ (q : Rounds). q.left) r.0) (ap (λ (q : Rounds). q.client_up) r.0) (ap (λ (q : Rounds). q.host_up) r.0) (ap (λ (q : Rounds). q.refused) r.0) a.on;
      patient = record { idle = ap (λ (q : Rounds). q.idle) r.0 ∙ a.patient.idle; some = a.patient.some; waits = r.1; within = less-wait k.waits terms.idle k'.waits (ap (λ (q : Rounds). q.waits) r.0) a.patient.within };
      waited = (
        quiet,
        record {
          came = λ up. a.waited.came (sym (ap (λ (q : Rounds). q.client_up) r.0) ∙ up);
          busy = λ b. absurd (false≢true (sym quiet ∙ b));
          quiet = λ f. more-waits k.waits (quiet_rounds a.asks) terms.idle k'.waits (a.waited.quiet is) (ap (λ (q : Rounds). q.waits) r.0) a.patient.waits;
        },
      );
      turn = λ up. a.turn (sym (ap (λ (q : Rounds). q.host_up) r.0) ∙ up);
    }

-- the host was asked last, where it is up
pub begins-of : (terms : Terms) (p : Prescribed) (k : Rounds) (asks : List Ask) (calls : List Call) → k.host_up ≡ host_since (is_some terms.host) p (events_of calls) → asks_of calls ≡ asks → (k.host_up ≡ true → is_behind_host asks ≡ true) → BeginsRound terms p calls
begins-of terms p k asks calls host is turn = λ up. ap is_behind_host is ∙ turn (host ∙ up)

last-wait : (w q i w' : ℕ) → w + q ≡ i + 1 → w' ≡ w - 1 → w' ≡ 0 → 0 < w → q ≡ i
last-wait w q i w' is less none some = omega arith

pub rested-logs : {D : Type 0} → (result : Result (Unit {0}) ServeEnd) (gives : D → Call → D → Type 0) (stands : List PastLinkEvent → Type 0) (runs_out : List PastLinkEvent → PastLinkEvent → List ℕ → List ℕ → Type 0) (tells : List ℕ → Type 0) (terms : Terms) (p : Prescribed) (k k' : Rounds) (begun now : D) → Rests result k k'
    → IsAsking AtEnd gives stands tells terms p k begun now → Logs result AtDoor gives stands runs_out tells terms p k' begun now
rested-logs (Ok x) gives stands runs_out tells terms p k k' begun now r a = rested-busy k.busy gives stands tells terms p k k' begun now refl r a
rested-logs (Err end.Idle) gives stands runs_out tells terms p k k' begun now r a = record {
  calls = a.on.at.calls;
  called = a.on.at.called;
  settled = a.on.at.settled;
  written = record { links = a.on.at.written; told = a.on.at.told };
  ended = (a.on.goes_on, ap quiet_rounds a.on.at.asks-are ∙ last-wait k.waits (quiet_rounds a.asks) terms.idle k'.waits (a.waited.quiet r.0) (ap (λ (q : Rounds). q.waits) r.1) r.2 a.patient.waits, begins-of terms p k a.asks a.on.at.calls a.on.at.host_up a.on.at.asks-are a.turn);
}
rested-logs (Err (end.Ended refused)) gives stands runs_out tells terms p k k' begun now r a = absurd r
rested-logs (Err end.Spent) gives stands runs_out tells terms p k k' begun now r a = absurd r
rested-logs (Err (end.LinkFault side)) gives stands runs_out tells terms p k k' begun now r a = absurd r
rested-logs (Err end.WriteFault) gives stands runs_out tells terms p k k' begun now r a = absurd r
rested-logs (Err end.Memory) gives stands runs_out tells terms p k k' begun now r a = absurd r

-- the lines that wait couldn't be written
pub rest-fault : {D : Type 0} → (gives : D → Call → D → Type 0) (stands : List PastLinkEvent → Type 0) (runs_out : List PastLinkEvent → PastLinkEvent → List ℕ → List ℕ → Type 0) (tells : List ℕ → Type 0) (terms : Terms) (p : Prescribed) (k : Rounds) (begun now : D) → IsAsking AtEnd gives stands tells terms p k begun now → not k.busy ≡ true → terms.taped ≡ true
    → Logged end.WriteFault gives runs_out tells terms p begun now
rest-fault gives stands runs_out tells terms p k begun now a due taped =
    lines-fault gives stands runs_out tells terms p a.asks k begun now a.on.at
    (inr (record {
      written = a.on.at.written;
      goes_on = a.on.goes_on;
      begins = begins-of terms p k a.asks a.on.at.calls a.on.at.host_up a.on.at.asks-are a.turn;
      quiet = subst (λ (l : List Ask). 0 < quiet_rounds l) (sym a.on.at.asks-are) (some-quiet (quiet_rounds a.asks) terms.idle k.waits (a.waited.quiet (not-true k.busy due)) a.patient.within);
      is_taped = taped;
    }))
  where
    some-quiet : (q i w : ℕ) → w + q ≡ i + 1 → w ≤ i → 0 < q
    some-quiet q i w is within = omega arith
