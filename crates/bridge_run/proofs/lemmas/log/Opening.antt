-- A session's log, as it begins.
use Rattle.std.proofs.Common.{◌≡◌, ℕ, ◌+◌, ◌-◌, ◌<◌, ◌≤◌, Bool, true, false, List, [], ◌∷◌, ◌++◌, Some, None, is_some, Result, Ok, Err, refl, sym, ap, ◌∙◌, subst, arith}
use Rattle.std.specs.Result.{IsErrAnd}
use Rattle.usb_base.specs.declared.side.Side.{Side}
use Rattle.usb_base.specs.declared.side.Side.TheVariants.{Client, Host}
use Rattle.gate_outside.specs.declared.fault.Failed.{Failed as Fault}
use Rattle.gate_outside.specs.Calls.{Call, Dial, Listen, Called, went}
use Rattle.bridge_run.specs.events.Events.{PastLinkEvent}
use Rattle.bridge_run.specs.declared.course.rounds.Rounds.{Rounds}
use Rattle.bridge_run.specs.declared.course.serve_end.ServeEnd.{ServeEnd}
use Rattle.bridge_run.specs.declared.course.serve_end.ServeEnd.TheVariants as end
use Rattle.bridge_run.specs.events.Prescribed.{Prescribed, first_of}
use Rattle.bridge_run.specs.written.Ups.{client_behind, host_since, told_of, up_by}
use Rattle.bridge_run.specs.log.Asks.{Ask, asks_of, taken}
use Rattle.bridge_run.specs.log.Log.{Terms, events_of, events_before, IsWritten, is_up, is_over, Settled, WroteInPart, Logged}
use Rattle.bridge_run.specs.inner.Keeping.{begun as fresh}
use Rattle.bridge_run.specs.course.Course.{AtDoor}
use Rattle.bridge_run.specs.inner.Logging.{IsAsking, WroteMore, FailedBehind, HasOpened, OpenFailed, OpenLogs}
use Rattle.bridge_run.proofs.lemmas.log.Log.{front-whole}
use Rattle.bridge_run.proofs.lemmas.log.Sink.{told-all}

-- whom it dials, its door, whether there is a tape, and how long it goes on
abbrev pub with_host : (host door : List ℕ) (taped : Bool) (idle budget : ℕ) → Terms
with_host host door taped idle budget = record { host = Some host; door = door; taped = taped; idle = idle; budget = budget }

abbrev pub no_host : (door : List ℕ) (idle budget : ℕ) → Terms
no_host door idle budget = record { host = None; door = door; taped = false; idle = idle; budget = budget }

pub nothing-before : {D : Type 0} → (gives : D → Call → D → Type 0) (runs_out : List PastLinkEvent → PastLinkEvent → List ℕ → List ℕ → Type 0) (tells : List ℕ → Type 0) (terms : Terms) (p : Prescribed) (now : D) → tells [] → Logged end.Memory gives runs_out tells terms p now now
nothing-before gives runs_out tells terms p now none = record { calls = []; called = refl; settled = tt; written = (refl, none); ended = tt }

pub dial-failed : {D : Type 0} → (gives : D → Call → D → Type 0) (p : Prescribed) (host door : List ℕ) (taped : Bool) (idle budget : ℕ) (failed : Fault) (begun now : D) → gives begun (Dial host (Err failed)) now → OpenFailed Host gives (with_host host door taped idle budget) p begun now
dial-failed gives p host door taped idle budget failed begun now g = record { calls = Dial host (Err failed) ∷ []; called = (begun, (refl, g)); settled = (tt, (refl, refl)); none = refl; none_before = refl; written = record { client = front-whole [] [] refl; host = record { more = _; is = refl } }; failed = refl }

-- the host was dialled, and the door is asked for
abbrev pub asked : (host door : List ℕ) → Result (Unit {0}) Fault → List Call
asked host door answer = Listen door answer ∷ Dial host (Ok tt) ∷ []

asked-settled : (host door : List ℕ) (taped : Bool) (idle budget : ℕ) (p : Prescribed) (answer : Result (Unit {0}) Fault) → Settled (with_host host door taped idle budget) p (asked host door answer)
asked-settled host door taped idle budget p answer = ((tt, (refl, refl)), (refl, refl))

-- the host's link is up then, and no client's is
asked-links : (of : Side) (host door : List ℕ) (taped : Bool) (idle budget : ℕ) (p : Prescribed) → up_by of (asked host door (Ok tt)) ≡ is_up of (with_host host door taped idle budget) p []
asked-links Client host door taped idle budget p = refl
asked-links Host host door taped idle budget p = refl

-- with no host none is
door-links : (of : Side) (door : List ℕ) (answer : Result (Unit {0}) Fault) (idle budget : ℕ) (p : Prescribed) → up_by of (Listen door answer ∷ []) ≡ is_up of (no_host door idle budget) p []
door-links Client door answer idle budget p = refl
door-links Host door answer idle budget p = refl

pub was-asked : {D : Type 0} → (gives : D → Call → D → Type 0) (host door : List ℕ) (answer : Result (Unit {0}) Fault) (begun mid now : D) → gives begun (Dial host (Ok tt)) mid → gives mid (Listen door answer) now
    → Called gives (asked host door answer) begun now
was-asked gives host door answer begun mid now g g2 = (mid, ((begun, (refl, g)), g2))

pub listen-failed : {D : Type 0} → (gives : D → Call → D → Type 0) (p : Prescribed) (host door : List ℕ) (taped : Bool) (idle budget : ℕ) (failed : Fault) (begun mid now : D) → gives begun (Dial host (Ok tt)) mid → gives mid (Listen door (Err failed)) now
    → OpenFailed Client gives (with_host host door taped idle budget) p begun now
listen-failed gives p host door taped idle budget failed begun mid now g g2 = record {
  calls = asked host door (Err failed);
  called = was-asked gives host door (Err failed) begun mid now g g2;
  settled = asked-settled host door taped idle budget p (Err failed);
  none = refl;
  none_before = refl;
  written = record { client = front-whole [] [] refl; host = record { more = _; is = refl } };
  failed = refl;
}

pub hello-failed : {D : Type 0} → (gives : D → Call → D → Type 0) (p : Prescribed) (host door : List ℕ) (taped : Bool) (idle budget : ℕ) (up : Bool) (hello : List ℕ) (begun now : D) → hello ≡ p.to_host []
    → FailedBehind gives Host up hello (asked host door (Ok tt)) begun now → OpenFailed Host gives (with_host host door taped idle budget) p begun now
hello-failed gives p host door taped idle budget up hello begun now is f = record {
  calls = f.wrote.behind;
  called = f.wrote.called;
  settled = f.wrote.settled (with_host host door taped idle budget) p (asked-settled host door taped idle budget p (Ok tt));
  none = f.wrote.events-are;
  none_before = f.wrote.before-are;
  written = record {
    client = front-whole [] (went Client f.wrote.behind) f.wrote.other-is;
    host = record { more = f.back; is = sym is ∙ f.parts ∙ ap (λ (l : List ℕ). l ++ f.back) (sym f.wrote.side-is) };
  };
  failed = f.failed;
}

pub hello-sent : {D : Type 0} → (gives : D → Call → D → Type 0) (p : Prescribed) (host door : List ℕ) (taped : Bool) (idle budget : ℕ) (hello : List ℕ) (begun now : D) → hello ≡ p.to_host [] → WroteMore gives Host hello (asked host door (Ok tt)) begun now
    → HasOpened gives (with_host host door taped idle budget) p begun now
hello-sent gives p host door taped idle budget hello begun now is w = record {
  calls = w.behind;
  called = w.called;
  settled = w.settled (with_host host door taped idle budget) p (asked-settled host door taped idle budget p (Ok tt));
  asked = w.asks-are;
  none = w.events-are;
  none_before = w.before-are;
  links = λ of. w.links of ∙ asked-links of host door taped idle budget p;
  written = record { client = w.other-is; host = w.side-is ∙ is };
}

-- an error that a `?` hands on
pub open-err : {D : Type 0} → (Q : ServeEnd → Type 0) (result : Result (Unit {0}) ServeEnd) (gives : D → Call → D → Type 0) (terms : Terms) (p : Prescribed) (begun now : D) → IsErrAnd result Q
    → ((x : ServeEnd) → Q x → OpenLogs {T = Unit {0}} (Err x) gives terms p begun now) → OpenLogs result gives terms p begun now
open-err Q (Ok x) gives terms p begun now is logs = absurd is
open-err Q (Err x) gives terms p begun now is logs = logs x is

-- it ends at the opening, and no line was told
pub open-logged : {D : Type 0} → (x : ServeEnd) (gives : D → Call → D → Type 0) (runs_out : List PastLinkEvent → PastLinkEvent → List ℕ → List ℕ → Type 0) (tells : List ℕ → Type 0) (terms : Terms) (p : Prescribed) (begun now : D) → tells [] → OpenLogs {T = Unit {0}} (Err x) gives terms p begun now → Logged x gives runs_out tells terms p begun now
open-logged (end.LinkFault side) gives runs_out tells terms p begun now none o = record {
  calls = o.calls;
  called = o.called;
  settled = o.settled;
  written = subst (λ (es : List PastLinkEvent). WroteInPart tells terms p es o.calls) (sym o.none) (record { links = o.written; told = told-all tells (told_of p (events_before o.calls)) [] (front-whole [] _ (ap (told_of p) o.none_before)) none });
  ended = o.failed;
}
open-logged (end.Ended refused) gives runs_out tells terms p begun now none o = absurd o
open-logged end.WriteFault gives runs_out tells terms p begun now none o = absurd o
open-logged end.Idle gives runs_out tells terms p begun now none o = absurd o
open-logged end.Spent gives runs_out tells terms p begun now none o = absurd o
open-logged end.Memory gives runs_out tells terms p begun now none o = absurd o

all-left : (budget left : ℕ) → left ≡ budget → left ≡ budget - 0
all-left budget left is = omega arith

all-waits : (idle waits : ℕ) → waits ≡ idle → waits + 0 ≡ idle + 0
all-waits idle waits is = omega arith

same-waits : (idle waits : ℕ) → waits ≡ idle → waits ≤ idle
same-waits idle waits is = omega arith

-- nothing has come
begun-asking : {D : Type 0} → (gives : D → Call → D → Type 0) (stands : List PastLinkEvent → Type 0) (tells : List ℕ → Type 0) (terms : Terms) (p : Prescribed) (up : Bool) (k : Rounds) (begun now : D) (calls : List Call) → Called gives calls begun now → Settled terms p calls → asks_of calls ≡ [] → events_of calls ≡ [] → events_before calls ≡ []
    → ((of : Side) → up_by of calls ≡ is_up of terms p []) → IsWritten terms p [] calls → stands [] → tells [] → p.refusals [] ≡ [] → up ≡ is_some terms.host → 0 < terms.idle → 0 < terms.budget → k ≡ record (fresh terms.idle terms.budget) { host_up = up } → IsAsking AtDoor gives stands tells terms p k begun now
begun-asking gives stands tells terms p up k begun now calls called settled asks none before links w st told refusals host idle budget kept = record {
  asks = [];
  on = record {
    at = record {
      calls = calls;
      called = called;
      settled = settled;
      asks-are = asks;
      stands_for = subst stands (sym none) st;
      written = subst (λ (es : List PastLinkEvent). IsWritten terms p es calls) (sym none) w;
      told = subst (λ (es : List PastLinkEvent). tells (told_of p es)) (sym none) told;
      told_before = front-whole (told_of p (events_of calls)) _ (ap (told_of p) (before ∙ sym none));
      left = all-left terms.budget k.left (ap (λ (q : Rounds). q.left) kept);
      client_up = ap (λ (q : Rounds). q.client_up) kept ∙ ap (client_behind p) (sym none);
      host_up = ap (λ (q : Rounds). q.host_up) kept ∙ host ∙ ap (host_since (is_some terms.host) p) (sym none);
      links = λ of. links of ∙ ap (is_up of terms p) (sym none);
      refused = ap (λ (q : Rounds). q.refused) kept ∙ ap first_of (sym refusals) ∙ ap (λ (es : List PastLinkEvent). first_of (p.refusals es)) (sym none);
    };
    goes_on = record { links = ap (is_over terms p) none; left = subst (λ (l : List Ask). taken l < terms.budget) (sym asks) budget };
  };
  patient = record { idle = ap (λ (q : Rounds). q.idle) kept; some = idle; waits = subst (λ (n : ℕ). 0 < n) (sym (ap (λ (q : Rounds). q.waits) kept)) idle; within = same-waits terms.idle k.waits (ap (λ (q : Rounds). q.waits) kept) };
  waited = (ap (λ (q : Rounds). q.busy) kept, record { came = λ there. refl; busy = λ b. refl; quiet = λ f. all-waits terms.idle k.waits (ap (λ (q : Rounds). q.waits) kept) });
  turn = λ up. refl;
}

pub opened-at : {D : Type 0} → (gives : D → Call → D → Type 0) (stands : List PastLinkEvent → Type 0) (tells : List ℕ → Type 0) (host door : List ℕ) (taped : Bool) (idle budget : ℕ) (p : Prescribed) (k : Rounds) (begun now : D) → HasOpened gives (with_host host door taped idle budget) p begun now → stands [] → tells []
    → p.refusals [] ≡ [] → 0 < idle → 0 < budget → k ≡ record (fresh idle budget) { host_up = true } → IsAsking AtDoor gives stands tells (with_host host door taped idle budget) p k begun now
opened-at gives stands tells host door taped idle budget p k begun now o st told refusals some much kept =
    begun-asking gives stands tells (with_host host door taped idle budget) p true k begun now o.calls o.called o.settled o.asked o.none o.none_before o.links o.written st told refusals refl some much kept

-- with no host the door is made, and that is all
pub door-failed : {D : Type 0} → (gives : D → Call → D → Type 0) (runs_out : List PastLinkEvent → PastLinkEvent → List ℕ → List ℕ → Type 0) (tells : List ℕ → Type 0) (p : Prescribed) (door : List ℕ) (idle budget : ℕ) (failed : Fault) (begun now : D) → gives begun (Listen door (Err failed)) now → tells []
    → Logged (end.LinkFault Client) gives runs_out tells (no_host door idle budget) p begun now
door-failed gives runs_out tells p door idle budget failed begun now g none = record {
  calls = Listen door (Err failed) ∷ [];
  called = (begun, (refl, g));
  settled = (tt, (refl, refl));
  written = record { links = record { client = front-whole [] [] refl; host = front-whole [] [] refl }; told = told-all tells [] [] (front-whole [] [] refl) none };
  ended = refl;
}

pub door-at : {D : Type 0} → (gives : D → Call → D → Type 0) (stands : List PastLinkEvent → Type 0) (tells : List ℕ → Type 0) (p : Prescribed) (k : Rounds) (idle budget : ℕ) (door : List ℕ) (answer : Result (Unit {0}) Fault) (begun now : D) → gives begun (Listen door answer) now → stands [] → tells []
    → p.refusals [] ≡ [] → 0 < idle → 0 < budget → k ≡ fresh idle budget → IsAsking AtDoor gives stands tells (no_host door idle budget) p k begun now
door-at gives stands tells p k idle budget door answer begun now g st told refusals some much kept =
    begun-asking gives stands tells (no_host door idle budget) p false k begun now (Listen door answer ∷ []) (begun, (refl, g)) (tt, (refl, refl)) refl refl refl (λ of. door-links of door answer idle budget p) (record { client = refl; host = refl }) st told refusals refl some much kept
