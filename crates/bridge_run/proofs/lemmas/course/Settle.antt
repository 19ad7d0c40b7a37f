-- What an event comes to.
use Rattle.std.proofs.Common.{◌≡◌, ℕ, ◌<◌, ◌==◌, ◌&&◌, not, Bool, true, false, cond, List, Option, Result, Ok, Err, refl, sym, ap, ◌∙◌, arith}
use Rattle.std.specs.Result.{OnOk}
use Rattle.std.proofs.lemmas.Bool.Decides.{nat_tests}
use Rattle.usb_base.specs.declared.refusal.Refusal.{Refusal}
use Rattle.usb_base.specs.declared.side.Side.TheVariants.{Client, Host}
use Rattle.bridge_run.specs.events.Events.{PastLinkEvent, ClientComes, SidePiece, ClientQuiet, SideEnd}
use Rattle.bridge_run.specs.declared.course.serve_end.ServeEnd.{ServeEnd}
use Rattle.bridge_run.specs.declared.course.serve_end.ServeEnd.TheVariants.{Ended, LinkFault, WriteFault, Idle, Spent, Memory}
use Rattle.bridge_run.specs.declared.course.rounds.Rounds.{Rounds}
use Rattle.bridge_run.specs.events.Prescribed.{Prescribed, drops, first_of}
use Rattle.bridge_run.specs.course.Course.{Setting, Course, Next, Takes}
use Rattle.bridge_run.specs.course.Calls.{Outcome, Goes, Stops, put, settle, ends_next, call, course_of}
use Rattle.bridge_run.specs.course.Outside.{Outside, Written}
use Rattle.bridge_run.specs.course.Serves.{Reaches}
use Rattle.bridge_run.specs.inner.Keeping.{is_over, Settles}
use Rattle.bridge_run.specs.inner.Follows.{IsServing, RunsOn}
use Rattle.bridge_run.proofs.lemmas.course.Course.{reaches-call}

course-choice : (b : Bool) (x y : Outcome) (c : Course) → course_of x ≡ c → course_of y ≡ c → course_of (cond b x y) ≡ c
course-choice true x y c p q = p
course-choice false x y c p q = q

pub settle-course : (s : Setting) (next : Next) (c : Course) → course_of (settle s next c) ≡ c
settle-course s next c =
    course-choice (not c.client_up && not c.host_up) (Stops (Ended (first_of (s.served.refusals c.events))) c) (cond (c.left == 0) (Stops Spent c) (Goes next c)) c refl
    (course-choice (c.left == 0) (Stops Spent c) (Goes next c) c refl refl)

pub take-course : (s : Setting) (e : PastLinkEvent) (next : Next) (c : Course) → course_of (call s (Takes e next) c) ≡ put s.served e c
take-course s e next c =
    course-choice (ends_next e (drops s.served c.events e)) (Goes (Takes (SideEnd Client) next) (put s.served e c)) (settle s next (put s.served e c)) (put s.served e c) refl
    (settle-course s next (put s.served e c))

-- ---- going on or ending

pub positive-not_zero : (n : ℕ) → 0 < n → (n == 0) ≡ false
positive-not_zero n h = grind (arith, nat_tests)

pub choice : (a b : Bool) (u v : Bool) (x y z : Outcome) → a ≡ u → b ≡ v → cond a x (cond b y z) ≡ cond u x (cond v y z)
choice a b u v x y z p q = ap (λ (k : Bool). cond k x (cond b y z)) p ∙ ap (λ (k : Bool). cond u x (cond k y z)) q

over-is : (k : Rounds) (c : Course) (b : Bool) → k.client_up ≡ c.client_up → k.host_up ≡ c.host_up → is_over k ≡ b → (not c.client_up && not c.host_up) ≡ b
over-is k c b p q is = ap (λ (u : Bool). not u && not c.host_up) (sym p) ∙ ap (λ (u : Bool). not k.client_up && not u) (sym q) ∙ is

pub settled : (result : Result (Unit {0}) ServeEnd) (stands : List PastLinkEvent → Type 0) (runs_out : List PastLinkEvent → PastLinkEvent → List ℕ → List ℕ → Type 0) (p : Prescribed) (idle : ℕ) (k : Rounds) (w : Outside) (out : Written) (from : Outcome) (now : Next) (b : Course) (next : Next) (c : Course)
    → Settles result k → IsServing stands p k w out c → Reaches (record { served = p; idle = idle }) from (Goes now b) → call (record { served = p; idle = idle }) now b ≡ settle (record { served = p; idle = idle }) next c
    → RunsOn result stands runs_out (record { served = p; idle = idle }) k w out from next
settled (Ok x) stands runs_out p idle k w out from now b next c is f r e =
    let s : Setting = record { served = p; idle = idle } in
    record {
      course = c;
      reaches = reaches-call s from now b (Goes next c) r (e ∙ choice _ _ false false (Stops (Ended (first_of (p.refusals c.events))) c) (Stops Spent c) (Goes next c)
          (over-is k c false f.client_up f.host_up is.0) (ap (λ (n : ℕ). n == 0) (sym f.left) ∙ positive-not_zero k.left is.1));
      follows = f;
    }
settled (Err (Ended refused)) stands runs_out p idle k w out from now b next c is f r e =
    let s : Setting = record { served = p; idle = idle } in
    record {
      course = c;
      reaches = reaches-call s from now b (Stops (Ended refused) c) r (e ∙ choice _ _ true (c.left == 0) (Stops (Ended (first_of (p.refusals c.events))) c) (Stops Spent c) (Goes next c)
          (over-is k c true f.client_up f.host_up is.0) refl ∙ ap (λ (o : Option Refusal). Stops (Ended o) c) (sym (is.1 ∙ f.refused)));
      tells = f.tells;
    }
settled (Err Spent) stands runs_out p idle k w out from now b next c is f r e =
    let s : Setting = record { served = p; idle = idle } in
    record {
      course = c;
      reaches = reaches-call s from now b (Stops Spent c) r (e ∙ choice _ _ false true (Stops (Ended (first_of (p.refusals c.events))) c) (Stops Spent c) (Goes next c)
          (over-is k c false f.client_up f.host_up is.0) (ap (λ (n : ℕ). n == 0) (sym f.left ∙ is.1)));
      tells = f.tells;
    }
settled (Err Idle) stands runs_out p idle k w out from now b next c is f r e = absurd is
settled (Err Memory) stands runs_out p idle k w out from now b next c is f r e = absurd is
settled (Err WriteFault) stands runs_out p idle k w out from now b next c is f r e = absurd is
settled (Err (LinkFault side)) stands runs_out p idle k w out from now b next c is f r e = absurd is

-- what a taken event comes to where no end of the client is next, and where one is
pub take-settles : (s : Setting) (e : PastLinkEvent) (next : Next) (c : Course) (refused : Bool) → refused ≡ drops s.served c.events e → ends_next e refused ≡ false
    → call s (Takes e next) c ≡ settle s next (put s.served e c)
take-settles s e next c refused is none = ap (λ (b : Bool). cond b (Goes (Takes (SideEnd Client) next) (put s.served e c)) (settle s next (put s.served e c))) (ap (λ (b : Bool). ends_next e b) (sym is) ∙ none)

pub take-ends : (s : Setting) (e : PastLinkEvent) (next : Next) (c : Course) (refused : Bool) → refused ≡ drops s.served c.events e → ends_next e refused ≡ true
    → call s (Takes e next) c ≡ Goes (Takes (SideEnd Client) next) (put s.served e c)
take-ends s e next c refused is some = ap (λ (b : Bool). cond b (Goes (Takes (SideEnd Client) next) (put s.served e c)) (settle s next (put s.served e c))) (ap (λ (b : Bool). ends_next e b) (sym is) ∙ some)

-- ---- a quiet client

pub quiet-on : (e : PastLinkEvent) (refused : Bool) → refused ≡ false → ends_next e refused ≡ false
quiet-on ClientComes refused r = r
quiet-on ClientQuiet refused r = r
quiet-on (SidePiece side b) refused r = r
quiet-on (SideEnd Client) refused r = refl
quiet-on (SideEnd Host) refused r = r

pub on-all : {T E : Type 0} (r : Result T E) (P : Type 0) → P → OnOk r P
on-all (Ok x) P p = p
on-all (Err e) P p = tt
