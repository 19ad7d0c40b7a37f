-- A session's log, as bytes are written to a link, and links are closed.
use Rattle.std.proofs.Common.{◌≡◌, ℕ, ◌&&◌, not, Bool, true, false, List, [], ◌∷◌, ◌++◌, Result, Err, refl, sym, ap, ◌∙◌, append-nil, append_assoc}
use Rattle.std.proofs.Math.Bool.{and-false, and-true}
use Rattle.usb_base.specs.declared.side.Side.{Side}
use Rattle.usb_base.specs.declared.side.Side.TheVariants.{Client, Host}
use Rattle.gate_outside.specs.declared.fault.Failed.{Failed as Fault}
use Rattle.gate_outside.specs.Link.{other}
use Rattle.gate_outside.specs.Calls.{Call, Write, Close, Called, front_of, went}
use Rattle.bridge_run.specs.events.Prescribed.{Prescribed}
use Rattle.bridge_run.specs.log.Asks.{asks_of}
use Rattle.bridge_run.specs.written.Ups.{up_by}
use Rattle.bridge_run.specs.log.Log.{Terms, events_of, events_before, is_up, Settled, JustCame}
use Rattle.bridge_run.specs.inner.Logging.{WroteMore, FailedBehind, closing}

-- ---- writes to a link

pub wrote-none : {D : Type 0} → (gives : D → Call → D → Type 0) (side : Side) (calls : List Call) (begun now : D) → Called gives calls begun now → WroteMore gives side [] calls begun now
wrote-none gives side calls begun now called = record {
  behind = calls;
  called = called;
  settled = λ terms p settled. settled;
  asks-are = refl;
  events-are = refl;
  before-are = refl;
  just_came = λ j. j;
  links = λ of. refl;
  side-is = sym (append-nil (went side calls));
  other-is = refl;
}

-- what a write says of its own side, and of the other
went-side : (side : Side) (sent : List ℕ) (answer : Result ℕ Fault) (calls : List Call) → went side (Write side sent answer ∷ calls) ≡ went side calls ++ front_of answer sent
went-side Client sent answer calls = refl
went-side Host sent answer calls = refl

went-other : (side : Side) (sent : List ℕ) (answer : Result ℕ Fault) (calls : List Call) → went (other side) (Write side sent answer ∷ calls) ≡ went (other side) calls
went-other Client sent answer calls = append-nil (went Host calls)
went-other Host sent answer calls = append-nil (went Client calls)

pub wrote-call : {D : Type 0} → (gives : D → Call → D → Type 0) (side : Side) (bytes sent all : List ℕ) (answer : Result ℕ Fault) (calls : List Call) (begun mid now : D) → bytes ++ front_of answer sent ≡ all → WroteMore gives side bytes calls begun mid
    → gives mid (Write side sent answer) now → WroteMore gives side all calls begun now
wrote-call gives side bytes sent all answer calls begun mid now is w g = record {
  behind = Write side sent answer ∷ w.behind;
  called = (mid, (w.called, g));
  settled = λ terms p settled. (w.settled terms p settled, tt);
  asks-are = w.asks-are;
  events-are = w.events-are;
  before-are = w.before-are;
  just_came = w.just_came;
  links = w.links;
  side-is = went-side side sent answer w.behind ∙ ap (λ (l : List ℕ). l ++ front_of answer sent) w.side-is ∙ append_assoc (went side calls) bytes (front_of answer sent)
      ∙ ap (λ (l : List ℕ). went side calls ++ l) is;
  other-is = went-other side sent answer w.behind ∙ w.other-is;
}

-- a write failed, which wrote nothing
pub failed-behind : {D : Type 0} → (gives : D → Call → D → Type 0) (side : Side) (up : Bool) (bytes front back sent : List ℕ) (failed : Fault) (calls : List Call) (begun mid now : D) → up ≡ true → bytes ≡ front ++ back
    → WroteMore gives side front calls begun mid → gives mid (Write side sent (Err failed)) now → FailedBehind gives side up bytes calls begun now
unfolding wrote-call
failed-behind gives side up bytes front back sent failed calls begun mid now is parts w g = record {
  front = front;
  back = back;
  is_up = is;
  parts = parts;
  wrote = wrote-call gives side front sent front (Err failed) calls begun mid now (append-nil front) w g;
  failed = refl;
}

-- ---- links that are closed

pub went-closing : (r : Bool) (of side : Side) (calls : List Call) → went side (closing r of calls) ≡ went side calls
went-closing true of Client calls = append-nil (went Client calls)
went-closing true of Host calls = append-nil (went Host calls)
went-closing false of side calls = refl

pub settled-closing : (r : Bool) (of : Side) (terms : Terms) (p : Prescribed) (calls : List Call) → (r ≡ true → is_up of terms p (events_of calls) ≡ false) → Settled terms p calls → Settled terms p (closing r of calls)
settled-closing true of terms p calls down s = (s, down refl)
settled-closing false of terms p calls down s = s

-- which links are up behind that
pub client-closing : (refused dropped : Bool) (calls : List Call) → up_by Client (closing refused Host (closing dropped Client calls)) ≡ (up_by Client calls && not dropped)
client-closing true true calls = sym (and-false (up_by Client calls))
client-closing false true calls = sym (and-false (up_by Client calls))
client-closing true false calls = sym (and-true (up_by Client calls))
client-closing false false calls = sym (and-true (up_by Client calls))

pub host-closing : (refused dropped : Bool) (calls : List Call) → up_by Host (closing refused Host (closing dropped Client calls)) ≡ (up_by Host calls && not refused)
host-closing true true calls = sym (and-false (up_by Host calls))
host-closing true false calls = sym (and-false (up_by Host calls))
host-closing false true calls = sym (and-true (up_by Host calls))
host-closing false false calls = sym (and-true (up_by Host calls))

pub events-closing : (r : Bool) (calls : List Call) → events_of (closing r Host calls) ≡ events_of calls
events-closing true calls = refl
events-closing false calls = refl

pub before-closing : (r : Bool) (of : Side) (calls : List Call) → events_before (closing r of calls) ≡ events_before calls
before-closing true of calls = refl
before-closing false of calls = refl

pub asks-closing : (r : Bool) (of : Side) (calls : List Call) → asks_of (closing r of calls) ≡ asks_of calls
asks-closing true of calls = refl
asks-closing false of calls = refl

pub just-host : (r : Bool) (calls : List Call) → JustCame calls → JustCame (closing r Host calls)
just-host true calls j = j
just-host false calls j = j

pub closed : {D : Type 0} → (gives : D → Call → D → Type 0) (side : Side) (calls : List Call) (begun mid now : D) → Called gives calls begun mid → gives mid (Close side) now → Called gives (closing true side calls) begun now
closed gives side calls begun mid now called g = (mid, (called, g))
