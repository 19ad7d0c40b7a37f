-- What waits to be written to the tape: little, and nothing at each end that is no fault.
use Rattle.std.proofs.Common.{◌≡◌, ℕ, zero, suc, ◌-◌, ◌==◌, ◌<◌, ltb, ◌&&◌, ◌||◌, not, Bool, true, false, cond, List, [], ◌∷◌, length, Option, Some, None, IfSome, refl, sym, ap, ◌∙◌, subst, lit<}
use Rattle.std.proofs.lemmas.Bool.{false≢true, cond_both, ltb-true, not-false}
use Rattle.usb_base.specs.declared.side.Side.{Side}
use Rattle.usb_base.specs.declared.side.Side.TheVariants.{Client, Host}
use Rattle.usb_base.specs.declared.refusal.Refusal.{Refusal}
use Rattle.usb_base.specs.Lists.{is_empty}
use Rattle.gate_outside.specs.declared.turn.Turn.{Turn}
use Rattle.gate_outside.specs.declared.turn.Polled.{Polled}
use Rattle.gate_outside.specs.declared.turn.Polled.TheVariants.{Took, NotYet, Ended, Failed}
use Rattle.gate_outside.specs.Turns.{pending, answer, given}
use Rattle.bridge_run.specs.declared.course.serve_end.ServeEnd.{ServeEnd}
use Rattle.bridge_run.specs.declared.course.serve_end.ServeEnd.TheVariants as end
use Rattle.bridge_run.specs.events.Events.{PastLinkEvent, SideEnd}
use Rattle.bridge_run.specs.events.Prescribed.{Prescribed, gained, refuses, drops, first_of}
use Rattle.bridge_run.specs.declared.written.recording.TheConstants.{WAITING_LIMIT}
use Rattle.bridge_run.specs.written.Recorded.{sends_any, is_last, is_full, waiting_if}
use Rattle.bridge_run.specs.course.Course.{Setting, Course, Next, Making, AtDoor, AtClient, AtHost, AtEnd, Takes}
use Rattle.bridge_run.specs.declared.course.polling.TheConstants.{POLL_LIMIT}
use Rattle.bridge_run.specs.course.Calls.{Outcome, Goes, Stops, course_of, sends_now, is_due, lines_with, put, settle, ends_next, take_event, come, turned, heard, poll, gathered, rest, call, and_then, calls}
use Rattle.bridge_run.specs.course.Outside.{Outside, gathering, written}
use Rattle.bridge_run.specs.course.Serves.{Reaches, NoneWaits, EndsSo, CutShort, Leaves}

-- ---- an event behind which it ends

refuses-any : (side : Side) (refused : List Refusal) → refuses side refused ≡ true → not (is_empty refused) ≡ true
refuses-any side [] is = absurd (false≢true is)
refuses-any side (r ∷ refused) is = refl

-- links that go down with an event do so for something that it sends
last-due : (client host a b any go by_client by_host z full : Bool) → (by_client ≡ true → any ≡ true) → (by_host ≡ true → any ≡ true) → (not (client && not (by_client || go)) && not (host && not by_host)) ≡ true
    → (((a || (b || (any || go))) || ((not client && not host) || z)) || full) ≡ true
last-due client host true b any go by_client by_host z full f g is = refl
last-due client host false true any go by_client by_host z full f g is = refl
last-due client host false false true go by_client by_host z full f g is = refl
last-due client host false false false true by_client by_host z full f g is = refl
last-due true host false false false false true by_host z full f g is = absurd (false≢true (f refl))
last-due true host false false false false false by_host z full f g is = absurd (false≢true is)
last-due false true false false false false by_client true z full f g is = absurd (false≢true (g refl))
last-due false true false false false false by_client false z full f g is = absurd (false≢true is)
last-due false false false false false false by_client by_host z full f g is = refl

over-due : (p : Prescribed) (e : PastLinkEvent) (c : Course) → (not (put p e c).client_up && not (put p e c).host_up) ≡ true → is_due p e c ≡ true
over-due p e c is =
    let refused = gained p.refusals c.events e in
    last-due c.client_up c.host_up (not (is_empty (gained p.to_client c.events e))) (not (is_empty (gained p.to_host c.events e))) (not (is_empty refused)) (p.lets_go (e ∷ c.events)) (refuses Client refused) (refuses Host refused) (c.left == 0) (is_full (lines_with p e c))
    (refuses-any Client refused) (refuses-any Host refused) is

spent : (sends down z full : Bool) → z ≡ true → ((sends || (down || z)) || full) ≡ true
spent true down z full is = refl
spent false true z full is = refl
spent false false true full is = refl
spent false false false full is = absurd (false≢true is)

spent-due : (p : Prescribed) (e : PastLinkEvent) (c : Course) → (c.left == 0) ≡ true → is_due p e c ≡ true
spent-due p e c is =
    let refused = gained p.refusals c.events e in
    spent (not (is_empty (gained p.to_client c.events e)) || (not (is_empty (gained p.to_host c.events e)) || (not (is_empty refused) || p.lets_go (e ∷ c.events)))) (not c.client_up && not c.host_up) (c.left == 0) (is_full (lines_with p e c)) is

-- behind lines that are due nothing waits
due-none : (p : Prescribed) (e : PastLinkEvent) (c : Course) → is_due p e c ≡ true → (put p e c).waiting ≡ []
due-none p e c is = ap (λ (b : Bool). waiting_if b (lines_with p e c)) is

-- ---- any call

abbrev IsWritten : Outcome → Type 0
IsWritten (Goes next c) = Unit {0}
IsWritten (Stops e c) = NoneWaits e c

if-written : (b : Bool) (x y : Outcome) → (b ≡ true → IsWritten x) → (b ≡ false → IsWritten y) → IsWritten (cond b x y)
if-written b x y f g = cond_both b x y IsWritten f g

settle-written : (s : Setting) (e : PastLinkEvent) (next : Next) (c : Course) → IsWritten (settle s next (put s.served e c))
settle-written s e next c =
    let d = put s.served e c in
    if-written (not d.client_up && not d.host_up) (Stops (end.Ended (first_of (s.served.refusals d.events))) d) (cond (d.left == 0) (Stops end.Spent d) (Goes next d)) (λ over. due-none s.served e c (over-due s.served e c over))
    (λ up. if-written (d.left == 0) (Stops end.Spent d) (Goes next d) (λ none. due-none s.served e c (spent-due s.served e c none)) (λ some. tt))

take-written : (s : Setting) (e : PastLinkEvent) (next : Next) (c : Course) → IsWritten (take_event s e next c)
take-written s e next c =
    if-written (ends_next e (drops s.served c.events e)) (Goes (Takes (SideEnd Client) next) (put s.served e c)) (settle s next (put s.served e c)) (λ dropped. tt) (λ stays. settle-written s e next c)

come-written : (clients : List (List Turn)) (c : Course) → IsWritten (come clients c)
come-written [] c = tt
come-written (turns ∷ clients) c = tt

heard-written : (side : Side) (next : Next) (polled : Polled) (bytes : List ℕ) (c : Course) → IsWritten (heard side next polled bytes c)
heard-written side next (Took n) bytes c = tt
heard-written side next NotYet bytes c = tt
heard-written side next Ended bytes c = tt
heard-written side next Failed bytes c = tt

rest-written : (s : Setting) (c : Course) → IsWritten (rest s c)
rest-written s c =
    if-written c.busy (Goes AtDoor (record c { busy = false; waits = s.idle })) (cond (c.waits - 1 == 0) (Stops end.Idle (record (gathered c) { waits = c.waits - 1 })) (Goes AtDoor (record (gathered c) { waits = c.waits - 1 }))) (λ busy. tt)
    (λ quiet. if-written (c.waits - 1 == 0) (Stops end.Idle (record (gathered c) { waits = c.waits - 1 })) (Goes AtDoor (record (gathered c) { waits = c.waits - 1 })) (λ last. refl) (λ more. tt))

call-written : (s : Setting) (next : Next) (c : Course) → IsWritten (call s next c)
call-written s Making c = tt
call-written s AtDoor c = if-written c.client_up (Goes AtClient c) (come c.clients c) (λ up. tt) (λ down. come-written c.clients c)
call-written s AtClient c =
    if-written c.client_up (poll Client c.client AtHost c) (Goes AtHost c) (λ up. heard-written Client AtHost (answer POLL_LIMIT (pending c.client)) (given POLL_LIMIT (pending c.client)) (turned Client c)) (λ down. tt)
call-written s AtHost c =
    if-written c.host_up (poll Host c.host AtEnd c) (Goes AtEnd c) (λ up. heard-written Host AtEnd (answer POLL_LIMIT (pending c.host)) (given POLL_LIMIT (pending c.host)) (turned Host c)) (λ down. tt)
call-written s AtEnd c = rest-written s c
call-written s (Takes e next) c = take-written s e next c

then-written : (s : Setting) (o : Outcome) → IsWritten o → IsWritten (and_then o (call s))
then-written s (Goes next c) h = call-written s next c
then-written s (Stops e c) h = h

calls-written : (s : Setting) (n : ℕ) (o : Outcome) → IsWritten o → IsWritten (calls s n o)
calls-written s zero o h = h
calls-written s (suc n) o h = then-written s (calls s n o) (calls-written s n o h)

reached-written : (s : Setting) (next : Next) (c : Course) (to : Outcome) → Reaches s (Goes next c) to → IsWritten to
reached-written s next c to r = subst IsWritten r.is (calls-written s r.count (Goes next c) tt)

pub ended-waiting : (s : Setting) (next : Next) (c : Course) (e : ServeEnd) (d : Course) → Reaches s (Goes next c) (Stops e d) → NoneWaits e d
ended-waiting s next c e d r = reached-written s next c (Stops e d) r

sent-due : (sends last full : Bool) → sends ≡ true → ((sends || last) || full) ≡ true
sent-due true last full is = refl
sent-due false last full is = absurd (false≢true is)

pub sent-none : (p : Prescribed) (e : PastLinkEvent) (c : Course) → sends_any (gained p.to_client c.events e) (gained p.to_host c.events e) (gained p.refusals c.events e) (p.lets_go (e ∷ c.events)) ≡ true → (put p e c).waiting ≡ []
sent-none p e c is =
    due-none p e c (sent-due (sends_any (gained p.to_client c.events e) (gained p.to_host c.events e) (gained p.refusals c.events e) (p.lets_go (e ∷ c.events))) (is_last c) (is_full (lines_with p e c)) is)

quiet-if : (last : Bool) (s : Setting) (c : Course) → (course_of (cond last (Stops end.Idle (record (gathered c) { waits = c.waits - 1 })) (Goes AtDoor (record (gathered c) { waits = c.waits - 1 })))).waiting ≡ []
quiet-if true s c = refl
quiet-if false s c = refl

pub quiet-none : (s : Setting) (c : Course) → c.busy ≡ false → (course_of (rest s c)).waiting ≡ []
quiet-none s c is =
    ap (λ (b : Bool). (course_of (cond b (Goes AtDoor (record c { busy = false; waits = s.idle })) (cond (c.waits - 1 == 0) (Stops end.Idle (record (gathered c) { waits = c.waits - 1 })) (Goes AtDoor (record (gathered c) { waits = c.waits - 1 }))))).waiting) is
    ∙ quiet-if (c.waits - 1 == 0) s c

-- ---- little waits

none-few : 0 < WAITING_LIMIT
none-few = lit< tt

few-if : (now full : Bool) (lines : List ℕ) → is_full lines ≡ full → length (waiting_if (now || full) lines) < WAITING_LIMIT
few-if true full lines is = none-few
few-if false true lines is = none-few
few-if false false lines is = ltb-true (length lines) WAITING_LIMIT (not-false (ltb (length lines) WAITING_LIMIT) is)

put-few : (p : Prescribed) (e : PastLinkEvent) (c : Course) → length (put p e c).waiting < WAITING_LIMIT
put-few p e c = few-if (sends_now p e c) (is_full (lines_with p e c)) (lines_with p e c) refl

abbrev IsFew : Outcome → Type 0
IsFew o = length (course_of o).waiting < WAITING_LIMIT

if-few : (b : Bool) (x y : Outcome) → IsFew x → IsFew y → IsFew (cond b x y)
if-few b x y f g = cond_both b x y IsFew (λ is. f) (λ is. g)

come-few : (clients : List (List Turn)) (c : Course) → length c.waiting < WAITING_LIMIT → IsFew (come clients c)
come-few [] c h = h
come-few (turns ∷ clients) c h = h

heard-few : (side : Side) (next : Next) (polled : Polled) (bytes : List ℕ) (c : Course) → length c.waiting < WAITING_LIMIT → IsFew (heard side next polled bytes c)
heard-few side next (Took n) bytes c h = h
heard-few side next NotYet bytes c h = h
heard-few Client next Ended bytes c h = h
heard-few Host next Ended bytes c h = h
heard-few side next Failed bytes c h = h

settle-few : (s : Setting) (next : Next) (c : Course) → length c.waiting < WAITING_LIMIT → IsFew (settle s next c)
settle-few s next c h =
    if-few (not c.client_up && not c.host_up) (Stops (end.Ended (first_of (s.served.refusals c.events))) c) (cond (c.left == 0) (Stops end.Spent c) (Goes next c)) h (if-few (c.left == 0) (Stops end.Spent c) (Goes next c) h h)

call-few : (s : Setting) (next : Next) (c : Course) → length c.waiting < WAITING_LIMIT → IsFew (call s next c)
call-few s Making c h = h
call-few s AtDoor c h = if-few c.client_up (Goes AtClient c) (come c.clients c) h (come-few c.clients c h)
call-few s AtClient c h =
    if-few c.client_up (poll Client c.client AtHost c) (Goes AtHost c) (heard-few Client AtHost (answer POLL_LIMIT (pending c.client)) (given POLL_LIMIT (pending c.client)) (turned Client c) h) h
call-few s AtHost c h = if-few c.host_up (poll Host c.host AtEnd c) (Goes AtEnd c) (heard-few Host AtEnd (answer POLL_LIMIT (pending c.host)) (given POLL_LIMIT (pending c.host)) (turned Host c) h) h
call-few s AtEnd c h =
    if-few c.busy (Goes AtDoor (record c { busy = false; waits = s.idle })) (cond (c.waits - 1 == 0) (Stops end.Idle (record (gathered c) { waits = c.waits - 1 })) (Goes AtDoor (record (gathered c) { waits = c.waits - 1 }))) h
    (if-few (c.waits - 1 == 0) (Stops end.Idle (record (gathered c) { waits = c.waits - 1 })) (Goes AtDoor (record (gathered c) { waits = c.waits - 1 })) none-few none-few)
call-few s (Takes e next) c h =
    if-few (ends_next e (drops s.served c.events e)) (Goes (Takes (SideEnd Client) next) (put s.served e c)) (settle s next (put s.served e c)) (put-few s.served e c) (settle-few s next (put s.served e c) (put-few s.served e c))

then-few : (s : Setting) (o : Outcome) → IsFew o → IsFew (and_then o (call s))
then-few s (Goes next c) h = call-few s next c h
then-few s (Stops e c) h = h

calls-few : (s : Setting) (n : ℕ) (o : Outcome) → IsFew o → IsFew (calls s n o)
calls-few s zero o h = h
calls-few s (suc n) o h = then-few s (calls s n o) (calls-few s n o h)

pub reached-few : (s : Setting) (next : Next) (c : Course) (to : Outcome) → c.waiting ≡ [] → Reaches s (Goes next c) to → length (course_of to).waiting < WAITING_LIMIT
reached-few s next c to none r = subst IsFew r.is (calls-few s r.count (Goes next c) (subst (λ (l : List ℕ). length l < WAITING_LIMIT) (sym none) none-few))

-- ---- what is left at an end

none-waits : (known : Option (List ℕ)) (waiting : List ℕ) (c : Course) → IfSome known (λ held. (held ≡ c.recorded) × (waiting ≡ c.waiting)) → c.waiting ≡ [] → IfSome known (λ held. (held ≡ c.recorded) × ([] ≡ c.waiting))
none-waits None waiting c is none = tt
none-waits (Some held) waiting c is none = (is.0, sym none)

ends-so : (s : Setting) (next : Next) (c : Course) (e : ServeEnd) (w : Outside) (begun told tape : Option (List ℕ)) (waiting : List ℕ) → ((d : Course) → NoneWaits e d → d.waiting ≡ [])
    → EndsSo s (Goes next c) e w (gathering begun told tape waiting) → EndsSo s (Goes next c) e w (written begun told tape)
ends-so s next c e w begun told tape waiting none x = record {
  course = x.course;
  reaches = x.reaches;
  tells = record {
    client = x.tells.client;
    host = x.tells.host;
    clients = x.tells.clients;
    told = x.tells.told;
    tape = none-waits tape waiting x.course x.tells.tape (none x.course (ended-waiting s next c e x.course x.reaches));
  };
}

cut-short : {e : ServeEnd} {runs_out : List PastLinkEvent → PastLinkEvent → List ℕ → List ℕ → Type 0} → (s : Setting) (next : Next) (c : Course) (w : Outside) (begun told tape : Option (List ℕ)) (waiting : List ℕ) → CutShort e runs_out s (Goes next c) w (gathering begun told tape waiting) → CutShort e runs_out s (Goes next c) w (written begun told tape)
cut-short {e = e} {runs_out = runs_out} s next c w begun told tape waiting x = record {
  next = x.next;
  course = x.course;
  reaches = x.reaches;
  cut = record {
    client = x.cut.client;
    host = x.cut.host;
    clients = x.cut.clients;
    to_client = x.cut.to_client;
    to_host = x.cut.to_host;
    told = x.cut.told;
    tape = x.cut.tape;
  };
}

-- at an end that is no fault nothing waits, and at any other what waits is on no tape
pub leaves-written : (e : ServeEnd) (runs_out : List PastLinkEvent → PastLinkEvent → List ℕ → List ℕ → Type 0) (s : Setting) (next : Next) (c : Course) (w : Outside) (begun told tape : Option (List ℕ)) (waiting : List ℕ) → Leaves e runs_out s (Goes next c) w (gathering begun told tape waiting) → Leaves e runs_out s (Goes next c) w (written begun told tape)
leaves-written (end.Ended refused) runs_out s next c w begun told tape waiting x = ends-so s next c (end.Ended refused) w begun told tape waiting (λ d h. h) x
leaves-written end.Idle runs_out s next c w begun told tape waiting x = ends-so s next c end.Idle w begun told tape waiting (λ d h. h) x
leaves-written end.Spent runs_out s next c w begun told tape waiting x = ends-so s next c end.Spent w begun told tape waiting (λ d h. h) x
leaves-written (end.LinkFault side) runs_out s next c w begun told tape waiting x = cut-short s next c w begun told tape waiting x
leaves-written end.WriteFault runs_out s next c w begun told tape waiting x = cut-short s next c w begun told tape waiting x
leaves-written end.Memory runs_out s next c w begun told tape waiting x = cut-short s next c w begun told tape waiting x
