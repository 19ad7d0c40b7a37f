-- Where a tape ends whose lines are a front of those of some events: behind the lines of the first of these, within
-- those of the next one.
use Rattle.std.proofs.Common.{◌≡◌, ◌⊎◌, ℕ, ◌-◌, ◌==◌, Bool, false, cond, List, [], ◌∷◌, ◌++◌, refl, sym, ap, ◌∙◌, subst, inl, inr, append_assoc, append-nil}
use Rattle.std.proofs.lemmas.Bool.{cond_both}
use Rattle.std.proofs.lemmas.List.{append_cancel_left}
use Rattle.usb_base.specs.Writes.{Begins}
use Rattle.usb_base.specs.declared.side.Side.{Side}
use Rattle.usb_base.specs.declared.side.Side.TheVariants.{Client, Host}
use Rattle.gate_outside.specs.declared.turn.Turn.{Turn}
use Rattle.gate_outside.specs.declared.turn.Polled.{Polled}
use Rattle.gate_outside.specs.declared.turn.Polled.TheVariants.{Took, NotYet, Ended, Failed}
use Rattle.gate_outside.specs.Turns.{pending, answer, given}
use Rattle.bridge_run.specs.declared.course.serve_end.ServeEnd.TheVariants as end
use Rattle.bridge_run.specs.events.Events.{PastLinkEvent}
use Rattle.bridge_run.specs.events.Prescribed.{Prescribed, gained}
use Rattle.bridge_run.specs.written.Recorded.{lines_of}
use Rattle.bridge_run.specs.course.Course.{Setting, Course, Next, Making, AtDoor, AtClient, AtHost, AtEnd, Takes}
use Rattle.bridge_run.specs.declared.course.polling.TheConstants.{POLL_LIMIT}
use Rattle.bridge_run.specs.course.Calls.{Outcome, Goes, Stops, come, turned, heard, poll, gathered, call, course_of}
use Rattle.bridge_run.specs.written.Ups.{client_at, host_at, client_behind, to_clients}
use Rattle.bridge_run.proofs.lemmas.course.Settle.{take-course}
use Rattle.usbgate_commands.specs.words.Serving.{ServeSettings}
use Rattle.tape_laws.specs.Recordings.{recorded, served}
use Rattle.tape_laws.specs.Plays.{EndsTape, AreLines}
use Rattle.tape_laws.specs.Ups.{host_behind, to_host}
use Rattle.tape_laws.proofs.Events.{AllFit}

-- ---- two splittings of a list

same-head : (a b : ℕ) (xs ys : List ℕ) → (a ∷ xs) ≡ (b ∷ ys) → a ≡ b
same-head a b xs ys is = cc

same-tail : (a b : ℕ) (xs ys : List ℕ) → (a ∷ xs) ≡ (b ∷ ys) → xs ≡ ys
same-tail a b xs ys is = cc

-- the first ends behind the second
pub record Exceeds (xs ys : List ℕ) : Type 0 where
  pub next : ℕ
  pub more : List ℕ
  pub is : xs ≡ ys ++ (next ∷ more)

-- or not, and has more behind it
pub record IsWithin (xs ys more rest : List ℕ) : Type 0 where
  pub between : List ℕ
  pub is : ys ≡ xs ++ between
  pub parts : more ≡ between ++ rest

with-head : (a : ℕ) (xs more ys rest : List ℕ) → Exceeds xs ys ⊎ IsWithin xs ys more rest → Exceeds (a ∷ xs) (a ∷ ys) ⊎ IsWithin (a ∷ xs) (a ∷ ys) more rest
with-head a xs more ys rest (inl x) = inl (record { next = x.next; more = x.more; is = ap (λ (l : List ℕ). a ∷ l) x.is })
with-head a xs more ys rest (inr x) = inr (record { between = x.between; is = ap (λ (l : List ℕ). a ∷ l) x.is; parts = x.parts })

splits : (xs more ys rest : List ℕ) → xs ++ more ≡ ys ++ rest → Exceeds xs ys ⊎ IsWithin xs ys more rest
splits [] more ys rest is = inr (record { between = ys; is = refl; parts = is })
splits (x ∷ xs) more [] rest is = inl (record { next = x; more = xs; is = refl })
splits (x ∷ xs) more (y ∷ ys) rest is =
    subst (λ (z : ℕ). Exceeds (x ∷ xs) (z ∷ ys) ⊎ IsWithin (x ∷ xs) (z ∷ ys) more rest) (same-head x y (xs ++ more) (ys ++ rest) is)
    (with-head x xs more ys rest (splits xs more ys rest (same-tail x y (xs ++ more) (ys ++ rest) is)))

nothing-behind : (xs : List ℕ) (next : ℕ) (more : List ℕ) → xs ≡ xs ++ (next ∷ more) → ⊥
nothing-behind xs next more is = absurd (never (append_cancel_left xs [] (next ∷ more) (append-nil xs ∙ is)))
  where
    never : [] ≡ (next ∷ more) → ⊥
    never none = cc

no-bytes : (xs ys : List ℕ) → xs ++ ys ≡ [] → xs ≡ []
no-bytes [] ys is = refl
no-bytes (x ∷ xs) ys is = cc

-- ---- where a tape ends

-- behind these lines are those of some more of the events, and then less than those of the next one
pub record CutAt (asked : ServeSettings) (taped later : List PastLinkEvent) (more : List ℕ) : Type 0 where
  pub first : List PastLinkEvent
  pub rest : List ℕ
  pub parts : recorded (served asked) taped ++ more ≡ recorded (served asked) (first ++ taped) ++ rest
  pub ends : EndsTape asked (first ++ taped) (later ++ taped) rest

one-more : (asked : ServeSettings) (taped : List PastLinkEvent) (e : PastLinkEvent) (later : List PastLinkEvent) (more : List ℕ) (b : ℕ) (behind : List ℕ) → recorded (served asked) (later ++ taped) ≡ recorded (served asked) taped ++ more ++ (b ∷ behind)
    → CutAt asked taped later more → CutAt asked taped (e ∷ later) more
one-more asked taped e later more b behind is c = record { first = c.first; rest = c.rest; parts = c.parts; ends = go c.ends }
  where
    go : EndsTape asked (c.first ++ taped) (later ++ taped) c.rest → EndsTape asked (c.first ++ taped) (e ∷ (later ++ taped)) c.rest
    go (inl x) =
        absurd (nothing-behind (recorded (served asked) taped ++ more) b behind
        (c.parts ∙ ap (λ (l : List ℕ). recorded (served asked) (c.first ++ taped) ++ l) x.1 ∙ append-nil (recorded (served asked) (c.first ++ taped))
        ∙ ap (λ (l : List PastLinkEvent). recorded (served asked) l) (sym x.0) ∙ is))
    go (inr x) = inr (record { event = x.event; after = e ∷ x.after; taken-are = ap (λ (l : List PastLinkEvent). e ∷ l) x.taken-are; missing = x.missing; lost = x.lost; lines-are = x.lines-are })

-- within the lines of the latest event, or behind all of them
at-latest : (asked : ServeSettings) (taped : List PastLinkEvent) (e : PastLinkEvent) (later : List PastLinkEvent) (more lost : List ℕ) → IsWithin (recorded (served asked) (later ++ taped)) (recorded (served asked) taped ++ more) (lines_of e (gained (served asked).refusals (later ++ taped) e)) lost
    → CutAt asked taped (e ∷ later) more
at-latest asked taped e later more [] x = record {
  first = e ∷ later;
  rest = [];
  parts = x.is ∙ ap (λ (l : List ℕ). recorded (served asked) (later ++ taped) ++ l) (sym (append-nil x.between) ∙ sym x.parts) ∙ sym (append-nil (recorded (served asked) ((e ∷ later) ++ taped)));
  ends = inl (refl, refl);
}
at-latest asked taped e later more (b ∷ lost) x = record {
  first = later;
  rest = x.between;
  parts = x.is;
  ends = inr (record { event = e; after = []; taken-are = refl; missing = b; lost = lost; lines-are = x.parts });
}

behind-latest : (asked : ServeSettings) (taped : List PastLinkEvent) (e : PastLinkEvent) (later : List PastLinkEvent) (more lost : List ℕ) → ((left : List ℕ) → recorded (served asked) (later ++ taped) ≡ recorded (served asked) taped ++ more ++ left → CutAt asked taped later more)
    → Exceeds (recorded (served asked) (later ++ taped)) (recorded (served asked) taped ++ more) ⊎ IsWithin (recorded (served asked) (later ++ taped)) (recorded (served asked) taped ++ more) (lines_of e (gained (served asked).refusals (later ++ taped) e)) lost
    → CutAt asked taped (e ∷ later) more
behind-latest asked taped e later more lost before (inl x) = one-more asked taped e later more x.next x.more x.is (before (x.next ∷ x.more) x.is)
behind-latest asked taped e later more lost before (inr x) = at-latest asked taped e later more lost x

pub cut-at : (asked : ServeSettings) (taped later : List PastLinkEvent) (more lost : List ℕ) → recorded (served asked) (later ++ taped) ≡ recorded (served asked) taped ++ more ++ lost → CutAt asked taped later more
cut-at asked taped [] more lost is =
    let none : more ≡ [] =
    no-bytes more lost (sym (append_cancel_left (recorded (served asked) taped) [] (more ++ lost) (append-nil (recorded (served asked) taped) ∙ is ∙ append_assoc (recorded (served asked) taped) more lost))) in
    record {
      first = [];
      rest = [];
      parts = ap (λ (l : List ℕ). recorded (served asked) taped ++ l) none;
      ends = inl (refl, refl);
    }
cut-at asked taped (e ∷ later) more lost is =
    behind-latest asked taped e later more lost (λ left so. cut-at asked taped later more left so)
    (splits (recorded (served asked) (later ++ taped)) (lines_of e (gained (served asked).refusals (later ++ taped) e)) (recorded (served asked) taped ++ more) lost is)

-- ---- what the first of some events record and send

pub are-lines : (asked : ServeSettings) (events : List PastLinkEvent) → AreLines asked events (recorded (served asked) events)
are-lines asked [] = refl
are-lines asked (e ∷ events) = inl refl

fit-behind : (xs ys : List PastLinkEvent) → AllFit (xs ++ ys) → AllFit ys
fit-behind [] ys fit = fit
fit-behind (x ∷ xs) ys fit = fit-behind xs ys fit.1

pub ends-fit : (asked : ServeSettings) (events taken : List PastLinkEvent) (more : List ℕ) → EndsTape asked events taken more → AllFit taken → AllFit events
ends-fit asked events taken more (inl x) fit = subst AllFit x.0 fit
ends-fit asked events taken more (inr x) fit = (fit-behind x.after (x.event ∷ events) (subst AllFit x.taken-are fit)).1

front-more : (front all more whole : List ℕ) → Begins front all → whole ≡ all ++ more → Begins front whole
front-more front all more whole f is = record { more = f.more ++ more; is = is ∙ ap (λ (l : List ℕ). l ++ more) f.is ∙ append_assoc front f.more more }

pub client-front : (p : Prescribed) (first taped : List PastLinkEvent) → Begins (to_clients p taped) (to_clients p (first ++ taped))
client-front p [] taped = record { more = []; is = sym (append-nil (to_clients p taped)) }
client-front p (e ∷ first) taped =
    front-more (to_clients p taped) (to_clients p (first ++ taped)) (cond (client_at e (client_behind p (first ++ taped))) (gained p.to_client (first ++ taped) e) []) (to_clients p (e ∷ (first ++ taped))) (client-front p first taped) refl

pub host-front : (p : Prescribed) (first taped : List PastLinkEvent) → Begins (to_host p taped) (to_host p (first ++ taped))
host-front p [] taped = record { more = []; is = sym (append-nil (to_host p taped)) }
host-front p (e ∷ first) taped =
    front-more (to_host p taped) (to_host p (first ++ taped)) (cond (host_at e (host_behind p (first ++ taped))) (gained p.to_host (first ++ taped) e) []) (to_host p (e ∷ (first ++ taped))) (host-front p first taped) refl

-- ---- a call takes one event at most

abbrev IsSame : Course → Outcome → Type 0
IsSame c o = (course_of o).events ≡ c.events

if-same : (b : Bool) (x y : Outcome) (c : Course) → IsSame c x → IsSame c y → IsSame c (cond b x y)
if-same b x y c f g = cond_both b x y (IsSame c) (λ is. f) (λ is. g)

come-same : (clients : List (List Turn)) (c : Course) → IsSame c (come clients c)
come-same [] c = refl
come-same (turns ∷ clients) c = refl

heard-same : (side : Side) (next : Next) (polled : Polled) (bytes : List ℕ) (c : Course) → IsSame c (heard side next polled bytes c)
heard-same side next (Took n) bytes c = refl
heard-same side next NotYet bytes c = refl
heard-same Client next Ended bytes c = refl
heard-same Host next Ended bytes c = refl
heard-same side next Failed bytes c = refl

-- the events behind a call are those before it, or one more
pub call-takes : (s : Setting) (next : Next) (c : Course) → (new : List PastLinkEvent) × ((course_of (call s next c)).events ≡ new ++ c.events)
call-takes s Making c = ([], refl)
call-takes s AtDoor c = ([], if-same c.client_up (Goes AtClient c) (come c.clients c) c refl (come-same c.clients c))
call-takes s AtClient c = ([], if-same c.client_up (poll Client c.client AtHost c) (Goes AtHost c) c (heard-same Client AtHost (answer POLL_LIMIT (pending c.client)) (given POLL_LIMIT (pending c.client)) (turned Client c)) refl)
call-takes s AtHost c = ([], if-same c.host_up (poll Host c.host AtEnd c) (Goes AtEnd c) c (heard-same Host AtEnd (answer POLL_LIMIT (pending c.host)) (given POLL_LIMIT (pending c.host)) (turned Host c)) refl)
call-takes s AtEnd c = (
  [],
  if-same c.busy (Goes AtDoor (record c { busy = false; waits = s.idle })) (cond (c.waits - 1 == 0) (Stops end.Idle (record (gathered c) { waits = c.waits - 1 })) (Goes AtDoor (record (gathered c) { waits = c.waits - 1 }))) c refl
      (if-same (c.waits - 1 == 0) (Stops end.Idle (record (gathered c) { waits = c.waits - 1 })) (Goes AtDoor (record (gathered c) { waits = c.waits - 1 })) c refl refl),
)
call-takes s (Takes e next) c = (e ∷ [], ap (λ (d : Course). d.events) (take-course s e next c))
