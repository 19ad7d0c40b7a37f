-- What one event makes of the links and of what they tell.
use Rattle.std.specs.Option.{option_or}
use Rattle.std.proofs.Common.{◌≡◌, ℕ, ◌==◌, ◌&&◌, ◌||◌, not, Bool, true, false, cond, List, [], ◌∷◌, ◌++◌, Option, Some, None, IfSome, Result, Ok, Err, refl, sym, ap, ◌∙◌, subst, inl, inr, append-nil, append_assoc}
use Rattle.std.proofs.lemmas.Bool.{false≢true}
use Rattle.std.specs.Io.KnownBytes.{append_known, Appends}
use Rattle.std.specs.List.{flat_map}
use Rattle.std.specs.Result.{IsErrAnd}
use Rattle.std.proofs.Math.Bool.{and-true}
use Rattle.usb_base.specs.Refusal.{refusal_line}
use Rattle.usb_base.specs.declared.side.Side.TheVariants.{Client, Host}
use Rattle.usb_base.specs.declared.refusal.Refusal.{Refusal}
use Rattle.gate_outside.specs.declared.turn.Turn.{Turn}
use Rattle.gate_outside.specs.Link.{Link, Door}
use Rattle.gate_outside.specs.Doors.{closes}
use Rattle.gate_outside.specs.Front.{AppendsFront}
use Rattle.bridge_run.specs.events.Events.{PastLinkEvent}
use Rattle.bridge_run.specs.declared.course.rounds.Rounds.{Rounds}
use Rattle.bridge_run.specs.declared.events.sent.Sent.{Sent}
use Rattle.bridge_run.specs.declared.course.serve_end.ServeEnd.{ServeEnd}
use Rattle.bridge_run.specs.declared.course.serve_end.ServeEnd.TheVariants.{Ended, LinkFault, WriteFault, Idle, Spent, Memory}
use Rattle.bridge_run.specs.inner.Recording.{TapeFaults}
use Rattle.bridge_run.specs.events.Prescribed.{Prescribed, gained, refuses, drops, first_of}
use Rattle.bridge_run.specs.course.Course.{Course}
use Rattle.session_tape.specs.Tapes.{Counts, GrowsInPart}
use Rattle.bridge_run.specs.written.Recorded.{lines_of, sends_any, is_last, is_full, written_if, waiting_if}
use Rattle.bridge_run.specs.course.Calls.{put, sends_now}
use Rattle.bridge_run.specs.course.Outside.{Outside, Shows, Tells, IsTold, IsBetween, IsOneOf, HasLines, IsTaped, Cut, Written, HasCause, faults}
use Rattle.bridge_run.specs.course.Serves.{MayRunOut}
use Rattle.bridge_run.specs.inner.Links.{wrote_if, WritesFront, closed_if}
use Rattle.bridge_run.specs.inner.Keeping.{refusing, is_last as last_kept}
use Rattle.bridge_run.specs.inner.Follows.{Prepared, IsServing, Puts}
use Rattle.bridge_run.proofs.lemmas.written.Links.{append_known-nil}

-- ---- a link

pub wrote-shows : (u : Bool) (b : List ℕ) (l : Link) (t : List Turn) (x : List ℕ) → Shows l u t x → Shows (wrote_if u b l) u t (cond u (x ++ b) x)
wrote-shows true b l t x s = record { up-is = s.up-is; turns-is = s.turns-is; written-is = ap (λ (k : Option (List ℕ)). append_known k b) s.written-is }
wrote-shows false b l t x s = s

closed-client : (r u : Bool) (l : Link) (t : List Turn) (x : List ℕ) → Shows l u t x → Shows (closed_if r Client l) (u && not r) (cond r [] t) x
closed-client true true l t x s = record { up-is = refl; turns-is = ap (λ (k : Option (List Turn)). (closes Client (record l { turns = k })).turns) s.turns-is; written-is = s.written-is }
closed-client true false l t x s = record { up-is = refl; turns-is = ap (λ (k : Option (List Turn)). (closes Client (record l { turns = k })).turns) s.turns-is; written-is = s.written-is }
closed-client false true l t x s = s
closed-client false false l t x s = s

closed-host : (r u : Bool) (l : Link) (t : List Turn) (x : List ℕ) → Shows l u t x → Shows (closed_if r Host l) (u && not r) t x
closed-host true true l t x s = record { up-is = refl; turns-is = s.turns-is; written-is = s.written-is }
closed-host true false l t x s = record { up-is = refl; turns-is = s.turns-is; written-is = s.written-is }
closed-host false true l t x s = s
closed-host false false l t x s = s

-- ---- what is written in part

pub between-all : (x : List ℕ) (known : Option (List ℕ)) (y more : List ℕ) → known ≡ Some y → y ≡ x ++ more → IsBetween x known y
between-all x known y more e f = record { more = more; lost = []; known-is = e ∙ ap Some f; most-is = f ∙ sym (append-nil (x ++ more)) }

pub between-none : (x : List ℕ) (known : Option (List ℕ)) (y more : List ℕ) → known ≡ Some x → y ≡ x ++ more → IsBetween x known y
between-none x known y more e f = record { more = []; lost = more; known-is = e ∙ ap Some (sym (append-nil x)); most-is = f ∙ ap (λ (l : List ℕ). l ++ more) (sym (append-nil x)) }

pub more_if : (u : Bool) (x b : List ℕ) → cond u (x ++ b) x ≡ x ++ cond u b []
more_if true x b = refl
more_if false x b = sym (append-nil x)

pub between-front : (u : Bool) (x b : List ℕ) (old new : Link) (t : List Turn) → Shows old u t x → WritesFront u b old new → IsBetween x new.written (cond u (x ++ b) x)
between-front true x b old new t s w = record {
  more = w.front;
  lost = w.back;
  known-is = ap (λ (l : Link). l.written) w.link ∙ ap (λ (k : Option (List ℕ)). append_known k w.front) s.written-is;
  most-is = ap (λ (l : List ℕ). x ++ l) w.parts ∙ sym (append_assoc x w.front w.back);
}
between-front false x b old new t s w = absurd (false≢true w.is_up)

-- ---- the course behind it

-- whether the client's link is closed
pub dropped-is : (p : Prescribed) (events : List PastLinkEvent) (e : PastLinkEvent) (sent : Sent) (lines : List ℕ) → Prepared p events e sent lines → (refuses Client sent.refusals || sent.lets_go) ≡ drops p events e
dropped-is p events e sent lines prepared =
    ap (λ (rs : List Refusal). refuses Client rs || sent.lets_go) prepared.refusals ∙ ap (λ (b : Bool). refuses Client (gained p.refusals events e) || b) prepared.lets_go

put-client : (p : Prescribed) (c : Course) (e : PastLinkEvent) (sent : Sent) (lines : List ℕ) (old new : Link) (up : Bool) → Prepared p c.events e sent lines
    → Shows old c.client_up c.client c.to_client → up ≡ c.client_up → new ≡ closed_if (refuses Client sent.refusals || sent.lets_go) Client (wrote_if up sent.to_client old)
    → Shows new (put p e c).client_up (put p e c).client (put p e c).to_client
put-client p c e sent lines old new up prepared s u is =
    let dropped : Bool = refuses Client sent.refusals || sent.lets_go in
    let closed = closed-client dropped c.client_up (wrote_if c.client_up sent.to_client old) c.client (cond c.client_up (c.to_client ++ sent.to_client) c.to_client)
    (wrote-shows c.client_up sent.to_client old c.client c.to_client s) in
    let there = subst (λ (l : Link). Shows l (c.client_up && not dropped) (cond dropped [] c.client) (cond c.client_up (c.to_client ++ sent.to_client) c.to_client))
    (sym (is ∙ ap (λ (v : Bool). closed_if dropped Client (wrote_if v sent.to_client old)) u)) closed in
    let first = subst (λ (d : Bool). Shows new (c.client_up && not d) (cond d [] c.client) (cond c.client_up (c.to_client ++ sent.to_client) c.to_client)) (dropped-is p c.events e sent lines prepared) there in
    subst (λ (b : List ℕ). Shows new (c.client_up && not (drops p c.events e)) (cond (drops p c.events e) [] c.client) (cond c.client_up (c.to_client ++ b) c.to_client)) prepared.client first

put-host : (p : Prescribed) (c : Course) (e : PastLinkEvent) (sent : Sent) (lines : List ℕ) (old new : Link) (up : Bool) → Prepared p c.events e sent lines
    → Shows old c.host_up c.host c.to_host → up ≡ c.host_up → new ≡ closed_if (refuses Host sent.refusals) Host (wrote_if up sent.to_host old)
    → Shows new (put p e c).host_up (put p e c).host (put p e c).to_host
put-host p c e sent lines old new up prepared s u is =
    let closed = closed-host (refuses Host sent.refusals) c.host_up (wrote_if c.host_up sent.to_host old) c.host (cond c.host_up (c.to_host ++ sent.to_host) c.to_host)
    (wrote-shows c.host_up sent.to_host old c.host c.to_host s) in
    let there = subst (λ (l : Link). Shows l (c.host_up && not (refuses Host sent.refusals)) c.host (cond c.host_up (c.to_host ++ sent.to_host) c.to_host))
    (sym (is ∙ ap (λ (v : Bool). closed_if (refuses Host sent.refusals) Host (wrote_if v sent.to_host old)) u)) closed in
    let first = subst (λ (rs : List Refusal). Shows new (c.host_up && not (refuses Host rs)) c.host (cond c.host_up (c.to_host ++ sent.to_host) c.to_host)) prepared.refusals there in
    subst (λ (b : List ℕ). Shows new (c.host_up && not (refuses Host (gained p.refusals c.events e))) c.host (cond c.host_up (c.to_host ++ b) c.to_host)) prepared.host first

-- ---- what is kept

pub first_of-append : (xs ys : List Refusal) → first_of (xs ++ ys) ≡ option_or (first_of xs) (first_of ys)
first_of-append [] ys = refl
first_of-append (x ∷ xs) ys = refl

appended : (known new : Option (List ℕ)) (x b : List ℕ) → known ≡ Some x → Appends known new b → new ≡ Some (x ++ b)
appended (Some y) (Some z) x b e a = let same : y ≡ x = cc in ap Some (a ∙ ap (λ (l : List ℕ). l ++ b) same)
appended (Some y) None x b e a = absurd a
appended None new x b e a = cc

-- of a sink that told its bytes as serving began
pub if-told : {A B : Type 0} → (begun : Option (List ℕ)) → (A → B) → IfSome begun (λ (first : List ℕ). A) → IfSome begun (λ (first : List ℕ). B)
if-told None f is = tt
if-told (Some first) f is = f is

pub tells-more : (begun known new : Option (List ℕ)) (x b : List ℕ) → IfSome begun (λ (first : List ℕ). known ≡ Some x) → Appends known new b → IfSome begun (λ (first : List ℕ). new ≡ Some (x ++ b))
tells-more begun known new x b is a = if-told begun (λ (e : known ≡ Some x). appended known new x b e a) is

-- ---- the tape

-- recording has no cause but the tape's own
pub tape-faults : (e : ServeEnd) (w : Outside) (sink : ℕ) (old new : Counts) → TapeFaults {T = Unit {0}} (Err e) old new → HasCause e w w (faults sink old) (faults sink new)
tape-faults WriteFault w sink old new is = record { client = refl; host = refl; sink = inr (refl, is) }
tape-faults Memory w sink old new is = record { client = refl; host = refl; sink = ap (faults sink) is }
tape-faults (LinkFault side) w sink old new is = absurd is
tape-faults (Ended refused) w sink old new is = absurd is
tape-faults Idle w sink old new is = absurd is
tape-faults Spent w sink old new is = absurd is

-- a part of what waits is written behind what the tape has, and the rest waits
pub moved : (writes leaves : List ℕ → List ℕ) (known known' : Option (List ℕ)) (waiting waiting' x ws : List ℕ) → IfSome known (λ held. (held ≡ x) × (waiting ≡ ws)) → known' ≡ append_known known (writes waiting)
    → IfSome known' (λ held. waiting' ≡ leaves waiting) → IfSome known' (λ held. (held ≡ x ++ writes ws) × (waiting' ≡ leaves ws))
moved writes leaves None known' waiting waiting' x ws has is rest = subst (λ (k : Option (List ℕ)). IfSome k (λ held. (held ≡ x ++ writes ws) × (waiting' ≡ leaves ws))) (sym is) tt
moved writes leaves (Some held) known' waiting waiting' x ws has is rest =
    let left : waiting' ≡ leaves waiting = subst (λ (k : Option (List ℕ)). IfSome k (λ (l : List ℕ). waiting' ≡ leaves waiting)) is rest in
    subst (λ (k : Option (List ℕ)). IfSome k (λ (l : List ℕ). (l ≡ x ++ writes ws) × (waiting' ≡ leaves ws))) (sym is)
    (ap (λ (l : List ℕ). l ++ writes waiting) has.0 ∙ ap (λ (l : List ℕ). x ++ writes l) has.1, left ∙ ap leaves has.1)

-- the event's lines are put behind those that wait, and all are written where they are due
pub record IsRecorded (p : Prescribed) (c : Course) (e : PastLinkEvent) (sent : Sent) (due : Bool) (out out' : Written) : Type 0 where
  pub due-is : due ≡ sends_now p e c
  pub tape-is : out'.tape ≡ append_known out.tape (written_if (due || is_full (out.waiting ++ lines_of e sent.refusals)) (out.waiting ++ lines_of e sent.refusals))
  pub waits : IfSome out'.tape (λ held. out'.waiting ≡ waiting_if (due || is_full (out.waiting ++ lines_of e sent.refusals)) (out.waiting ++ lines_of e sent.refusals))

last-of : (k : Rounds) (c : Course) → k.client_up ≡ c.client_up → k.host_up ≡ c.host_up → k.left ≡ c.left → last_kept k ≡ is_last c
last-of k c client host left =
    ap (λ (b : Bool). (not b && not k.host_up) || (k.left == 0)) client
    ∙ ap (λ (b : Bool). (not c.client_up && not b) || (k.left == 0)) host
    ∙ ap (λ (n : ℕ). (not c.client_up && not c.host_up) || (n == 0)) left

-- whether they are due is known of what is kept
due-of : (p : Prescribed) (c : Course) (e : PastLinkEvent) (sent : Sent) (lines : List ℕ) (k : Rounds) (due : Bool) → Prepared p c.events e sent lines → k.client_up ≡ c.client_up → k.host_up ≡ c.host_up → k.left ≡ c.left
    → due ≡ (sends_any sent.to_client sent.to_host sent.refusals sent.lets_go || last_kept k) → due ≡ sends_now p e c
due-of p c e sent lines k due prepared client host left is =
    is
    ∙ ap (λ (l : List ℕ). sends_any l sent.to_host sent.refusals sent.lets_go || last_kept k) prepared.client
    ∙ ap (λ (l : List ℕ). sends_any (gained p.to_client c.events e) l sent.refusals sent.lets_go || last_kept k) prepared.host
    ∙ ap (λ (rs : List Refusal). sends_any (gained p.to_client c.events e) (gained p.to_host c.events e) rs sent.lets_go || last_kept k) prepared.refusals
    ∙ ap (λ (b : Bool). sends_any (gained p.to_client c.events e) (gained p.to_host c.events e) (gained p.refusals c.events e) b || last_kept k) prepared.lets_go
    ∙ ap (λ (b : Bool). sends_any (gained p.to_client c.events e) (gained p.to_host c.events e) (gained p.refusals c.events e) (p.lets_go (e ∷ c.events)) || b) (last-of k c client host left)

pub recorded-by : (p : Prescribed) (c : Course) (e : PastLinkEvent) (sent : Sent) (due : Bool) (out out' : Written) (waiting : List ℕ) → waiting ≡ out.waiting → due ≡ sends_now p e c
    → out'.tape ≡ append_known out.tape (written_if (due || is_full (waiting ++ lines_of e sent.refusals)) (waiting ++ lines_of e sent.refusals))
    → IfSome out'.tape (λ held. out'.waiting ≡ waiting_if (due || is_full (waiting ++ lines_of e sent.refusals)) (waiting ++ lines_of e sent.refusals)) → IsRecorded p c e sent due out out'
recorded-by p c e sent due out out' waiting same due-is tape waits = record {
  due-is = due-is;
  tape-is = subst (λ (l : List ℕ). out'.tape ≡ append_known out.tape (written_if (due || is_full (l ++ lines_of e sent.refusals)) (l ++ lines_of e sent.refusals))) same tape;
  waits = subst (λ (l : List ℕ). IfSome out'.tape (λ held. out'.waiting ≡ waiting_if (due || is_full (l ++ lines_of e sent.refusals)) (l ++ lines_of e sent.refusals))) same waits;
}

-- and so where what is kept follows the course
pub due-now : {stands : List PastLinkEvent → Type 0} {p : Prescribed} {k : Rounds} {w : Outside} {out : Written} {c : Course} → (e : PastLinkEvent) (sent : Sent) (lines : List ℕ) (k1 : Rounds) (due : Bool) → IsServing stands p k w out c → k1 ≡ k → Prepared p c.events e sent lines
    → due ≡ (sends_any sent.to_client sent.to_host sent.refusals sent.lets_go || last_kept k1) → due ≡ sends_now p e c
due-now {p = p} {c = c} e sent lines k1 due f same prepared is =
    due-of p c e sent lines k1 due prepared (ap (λ (q : Rounds). q.client_up) same ∙ f.client_up) (ap (λ (q : Rounds). q.host_up) same ∙ f.host_up) (ap (λ (q : Rounds). q.left) same ∙ f.left) is

-- what the tape has behind lines that are due or not, and what waits
abbrev Gathers : Written → Course → Bool → List ℕ → Type 0
Gathers out c due lines = IfSome out.tape (λ held. (held ≡ c.recorded ++ written_if (due || is_full (c.waiting ++ lines)) (c.waiting ++ lines)) × (out.waiting ≡ waiting_if (due || is_full (c.waiting ++ lines)) (c.waiting ++ lines)))

-- the lines of the event are recorded, or wait
taped : (p : Prescribed) (c : Course) (e : PastLinkEvent) (sent : Sent) (lines : List ℕ) (due : Bool) (out out' : Written) → Prepared p c.events e sent lines → IsTaped out c → IsRecorded p c e sent due out out' → IsTaped out' (put p e c)
taped p c e sent lines due out out' prepared is recorded =
    subst (λ (d : Bool). Gathers out' c d (lines_of e (gained p.refusals c.events e))) recorded.due-is
    (subst (λ (rs : List Refusal). Gathers out' c due (lines_of e rs)) prepared.refusals
    (moved (λ (l : List ℕ). written_if (due || is_full (l ++ lines_of e sent.refusals)) (l ++ lines_of e sent.refusals)) (λ (l : List ℕ). waiting_if (due || is_full (l ++ lines_of e sent.refusals)) (l ++ lines_of e sent.refusals))
    out.tape out'.tape out.waiting out'.waiting c.recorded c.waiting is recorded.tape-is recorded.waits))

pub all-recorded : (ran_out : List PastLinkEvent → PastLinkEvent → List ℕ → List ℕ → Type 0) (P : Type 0) (w : Outside) (out : Written) (c d : Course) (known : Option (List ℕ)) → IfSome known (λ held. (held ≡ d.recorded) × P) → IfSome known (λ held. HasLines ran_out w out c d held)
all-recorded ran_out P w out c d None is = tt
all-recorded ran_out P w out c d (Some held) is = inl is.0

-- a front of them is recorded, and nothing is sent
recorded-front : (ran_out : List PastLinkEvent → PastLinkEvent → List ℕ → List ℕ → Type 0) (P : Type 0) (w : Outside) (out : Written) (c d : Course) (front back : List ℕ) → d.recorded ≡ c.recorded ++ (front ++ back) → w.client.written ≡ Some c.to_client → w.host.written ≡ Some c.to_host → IsTold out c.told
    → (known : Option (List ℕ)) → IfSome known (λ held. (held ≡ c.recorded) × P) → IfSome (append_known known front) (λ held. HasLines ran_out w out c d held)
recorded-front ran_out P w out c d front back all client host told None is = tt
recorded-front ran_out P w out c d front back all client host told (Some held) is = inr (
  told,
  inl (record {
    more = front;
    lost = back;
    held-is = ap (λ (l : List ℕ). l ++ front) is.0;
    all-is = all ∙ sym (append_assoc c.recorded front back);
    to_client = client;
    to_host = host;
  }),
)

-- of what a call writes of those that wait a front is written
pub written-front : (ran_out : List PastLinkEvent → PastLinkEvent → List ℕ → List ℕ → Type 0) (writes : List ℕ → List ℕ) (w : Outside) (out : Written) (c d : Course) (known known' : Option (List ℕ)) (waiting : List ℕ) → GrowsInPart known known' (writes waiting) → IfSome known (λ held. (held ≡ c.recorded) × (waiting ≡ c.waiting))
    → d.recorded ≡ c.recorded ++ writes c.waiting → w.client.written ≡ Some c.to_client → w.host.written ≡ Some c.to_host → IsTold out c.told → IfSome known' (λ held. HasLines ran_out w out c d held)
written-front ran_out writes w out c d None known' waiting grows has all client host told = subst (λ (k : Option (List ℕ)). IfSome k (λ held. HasLines ran_out w out c d held)) (sym grows.grows) tt
written-front ran_out writes w out c d (Some held) known' waiting grows has all client host told =
    let whole : d.recorded ≡ c.recorded ++ (grows.front ++ grows.back) = all ∙ ap (λ (l : List ℕ). c.recorded ++ writes l) (sym has.1) ∙ ap (λ (l : List ℕ). c.recorded ++ l) grows.parts in
    subst (λ (k : Option (List ℕ)). IfSome k (λ (l : List ℕ). HasLines ran_out w out c d l)) (sym grows.grows) (recorded-front ran_out _ w out c d grows.front grows.back whole client host told (Some held) has)

-- a course of which only the turns, the lines on the tape and those that wait have become others
pub retold : (stands : List PastLinkEvent → Type 0) (p : Prescribed) (k : Rounds) (w w' : Outside) (out out' : Written) (c : Course) (client host : List Turn) (recorded waiting : List ℕ) → IsServing stands p k w out c
    → Tells w' out' (record c { client = client; host = host; recorded = recorded; waiting = waiting }) → IsServing stands p k w' out' (record c { client = client; host = host; recorded = recorded; waiting = waiting })
retold stands p k w w' out out' c client host recorded waiting f t =
    record { stands_for = f.stands_for; tells = t; client_up = f.client_up; host_up = f.host_up; busy = f.busy; waits = f.waits; left = f.left; refused = f.refused }

pub put-follows : (stands : List PastLinkEvent → Type 0) (p : Prescribed) (k k' : Rounds) (w w' : Outside) (out out' : Written) (c : Course) (e : PastLinkEvent) (sent : Sent) (lines : List ℕ) (due : Bool)
    (old-stands : List PastLinkEvent → Type 0) → IsServing old-stands p k w out c → Prepared p c.events e sent lines → stands (e ∷ c.events) → k' ≡ refusing sent.refusals sent.lets_go k
    → Shows w'.client (put p e c).client_up (put p e c).client (put p e c).to_client → Shows w'.host (put p e c).host_up (put p e c).host (put p e c).to_host
    → w'.door ≡ w.door → IsTold out' (c.told ++ lines) → IsRecorded p c e sent due out out' → IsServing stands p k' w' out' (put p e c)
put-follows stands p k k' w w' out out' c e sent lines due old-stands f prepared now kept client host door written recorded =
    let refusals = prepared.refusals in
    record {
      stands_for = now;
      tells = record {
        client = client;
        host = host;
        clients = ap (λ (d : Door). d.to_come) door ∙ f.tells.clients;
        tape = taped p c e sent lines due out out' prepared f.tells.tape recorded;
        told = subst (λ (l : List ℕ). IsTold out' (c.told ++ l)) (prepared.lines-is ∙ ap (flat_map refusal_line) refusals) written;
      };
      client_up = ap (λ (k : Rounds). k.client_up) kept ∙ ap (λ (u : Bool). u && not (refuses Client sent.refusals || sent.lets_go)) f.client_up ∙ ap (λ (d : Bool). c.client_up && not d) (dropped-is p c.events e sent lines prepared);
      host_up = ap (λ (k : Rounds). k.host_up) kept ∙ ap (λ (u : Bool). u && not (refuses Host sent.refusals)) f.host_up ∙ ap (λ (rs : List Refusal). c.host_up && not (refuses Host rs)) refusals;
      busy = ap (λ (k : Rounds). k.busy) kept ∙ f.busy;
      waits = ap (λ (k : Rounds). k.waits) kept ∙ f.waits;
      left = ap (λ (k : Rounds). k.left) kept ∙ f.left;
      refused = ap (λ (k : Rounds). k.refused) kept
          ∙ ap (λ (r : Option Refusal). option_or r (first_of sent.refusals)) f.refused
          ∙ ap (λ (rs : List Refusal). option_or (first_of (p.refusals c.events)) (first_of rs)) refusals
          ∙ sym (first_of-append (p.refusals c.events) (gained p.refusals c.events e))
          ∙ ap first_of (sym prepared.grows);
    }

-- what both links tell once all is written that an event sends, and each side that it refuses is closed
pub sides-put : (p : Prescribed) (c : Course) (e : PastLinkEvent) (sent : Sent) (lines : List ℕ) {up_client up_host dropped refused : Bool} {client host client1 host1 client2 host2 client3 host3 client4 host4 : Link} {to_client to_host : List ℕ} → Prepared p c.events e sent lines
    → Shows client c.client_up c.client c.to_client → Shows host c.host_up c.host c.to_host → up_client ≡ c.client_up → up_host ≡ c.host_up
    → to_client ≡ sent.to_client → client1 ≡ wrote_if up_client to_client client → host1 ≡ host → to_host ≡ sent.to_host → host2 ≡ wrote_if up_host to_host host1 → client2 ≡ client1
    → dropped ≡ (refuses Client sent.refusals || sent.lets_go) → client3 ≡ closed_if dropped Client client2 → host3 ≡ host2 → refused ≡ refuses Host sent.refusals → host4 ≡ closed_if refused Host host3 → client4 ≡ client3
    → Shows client4 (put p e c).client_up (put p e c).client (put p e c).to_client × Shows host4 (put p e c).host_up (put p e c).host (put p e c).to_host
sides-put p c e sent lines {up_client = up_client} {up_host = up_host} {dropped = dropped} {refused = refused} {client = client} {host = host} {host1 = host1} {client2 = client2} {host3 = host3} {client4 = client4} {host4 = host4} prepared shows_client shows_host is_client is_host bytes_client wrote_client stays_host bytes_host wrote_host stays_client is_dropped closed_client left_host refuses_host closed_host left_client = (
  put-client p c e sent lines client client4 up_client prepared shows_client is_client
      (left_client ∙ closed_client ∙ ap (λ (r : Bool). closed_if r Client client2) is_dropped ∙ ap (λ (l : Link). closed_if (refuses Client sent.refusals || sent.lets_go) Client l) (stays_client ∙ wrote_client ∙ ap (λ (b : List ℕ). wrote_if up_client b client) bytes_client)),
  put-host p c e sent lines host host4 up_host prepared shows_host is_host
      (closed_host ∙ ap (λ (r : Bool). closed_if r Host host3) refuses_host ∙ ap (λ (l : Link). closed_if (refuses Host sent.refusals) Host l) (left_host ∙ wrote_host ∙ ap (λ (b : List ℕ). wrote_if up_host b host1) bytes_host ∙ ap (λ (l : Link). wrote_if up_host sent.to_host l) stays_host)),
)

-- ---- cuts

client-before : (p : Prescribed) (c : Course) (e : PastLinkEvent) (l : Link) → Shows l c.client_up c.client c.to_client → IsOneOf c.client l.turns (put p e c).client × IsBetween c.to_client l.written (put p e c).to_client
client-before p c e l s = (inl s.turns-is, between-none c.to_client l.written (put p e c).to_client _ s.written-is (more_if c.client_up c.to_client (gained p.to_client c.events e)))

host-before : (p : Prescribed) (c : Course) (e : PastLinkEvent) (l : Link) → Shows l c.host_up c.host c.to_host → IsOneOf c.host l.turns (put p e c).host × IsBetween c.to_host l.written (put p e c).to_host
host-before p c e l s = (inl s.turns-is, between-none c.to_host l.written (put p e c).to_host _ s.written-is (more_if c.host_up c.to_host (gained p.to_host c.events e)))

pub told-before : (p : Prescribed) (c : Course) (e : PastLinkEvent) (out : Written) → IsTold out c.told → IfSome out.begun (λ first. IsBetween c.told out.told (put p e c).told)
told-before p c e out s = if-told out.begun (λ (is : out.told ≡ Some c.told). between-none c.told out.told (put p e c).told _ is refl) s

-- nothing of it is written to the links yet
put-cut : {ran_out : List PastLinkEvent → PastLinkEvent → List ℕ → List ℕ → Type 0} → (p : Prescribed) (c : Course) (e : PastLinkEvent) (w : Outside) (out out' : Written) → Tells w out c → IfSome out'.begun (λ first. IsBetween c.told out'.told (put p e c).told)
    → IfSome out'.tape (λ held. HasLines ran_out w out' c (put p e c) held) → Cut ran_out w out' c (put p e c)
put-cut p c e w out out' t told tape =
    let client = client-before p c e w.client t.client in
    let host = host-before p c e w.host t.host in
    record { client = client.0; host = host.0; clients = inl t.clients; to_client = client.1; to_host = host.1; told = told; tape = tape }

-- while its lines are recorded
pub put-in_entry : {ran_out : List PastLinkEvent → PastLinkEvent → List ℕ → List ℕ → Type 0} → (p : Prescribed) (c : Course) (e : PastLinkEvent) (sent : Sent) (lines : List ℕ) (due : Bool) (w : Outside) (out out' : Written) (waiting : List ℕ) → Prepared p c.events e sent lines → Tells w out c → IsTold out' c.told → due ≡ sends_now p e c
    → waiting ≡ out.waiting → GrowsInPart out.tape out'.tape (written_if (due || is_full (waiting ++ lines_of e sent.refusals)) (waiting ++ lines_of e sent.refusals)) → Cut ran_out w out' c (put p e c)
put-in_entry {ran_out = ran_out} p c e sent lines due w out out' waiting prepared t told due-is same grows =
    let all : (put p e c).recorded ≡ c.recorded ++ written_if (due || is_full (c.waiting ++ lines_of e sent.refusals)) (c.waiting ++ lines_of e sent.refusals) =
    ap (λ (rs : List Refusal). c.recorded ++ written_if (sends_now p e c || is_full (c.waiting ++ lines_of e rs)) (c.waiting ++ lines_of e rs)) (sym prepared.refusals)
    ∙ ap (λ (d : Bool). c.recorded ++ written_if (d || is_full (c.waiting ++ lines_of e sent.refusals)) (c.waiting ++ lines_of e sent.refusals)) (sym due-is) in
    put-cut p c e w out out' t (told-before p c e out' told)
    (written-front ran_out (λ (l : List ℕ). written_if (due || is_full (l ++ lines_of e sent.refusals)) (l ++ lines_of e sent.refusals)) w out' c (put p e c) out.tape out'.tape out.waiting
    (subst (λ (l : List ℕ). GrowsInPart out.tape out'.tape (written_if (due || is_full (l ++ lines_of e sent.refusals)) (l ++ lines_of e sent.refusals))) same grows) t.tape all t.client.written-is t.host.written-is told)

-- before anything is written
pub put-before : {ran_out : List PastLinkEvent → PastLinkEvent → List ℕ → List ℕ → Type 0} → (p : Prescribed) (c : Course) (e : PastLinkEvent) (w : Outside) (out : Written) → Tells w out c → Cut ran_out w out c (put p e c)
put-before {ran_out = ran_out} p c e w out t =
    put-cut p c e w out out t (told-before p c e out t.told)
    (subst (λ (known : Option (List ℕ)). IfSome known (λ held. HasLines ran_out w out c (put p e c) held)) (append_known-nil out.tape)
    (recorded-front ran_out _ w out c (put p e c) [] _ refl t.client.written-is t.host.written-is t.told out.tape t.tape))

-- within what goes to the client
pub put-in_client : {ran_out : List PastLinkEvent → PastLinkEvent → List ℕ → List ℕ → Type 0} → (p : Prescribed) (c : Course) (e : PastLinkEvent) (sent : Sent) (lines : List ℕ) (due : Bool) (w w' : Outside) (out out' : Written) (up : Bool) → Prepared p c.events e sent lines → Tells w out c → IsTold out' c.told → IsRecorded p c e sent due out out'
    → up ≡ c.client_up → WritesFront up sent.to_client w.client w'.client → w'.host ≡ w.host → w'.door ≡ w.door → Cut ran_out w' out' c (put p e c)
put-in_client {ran_out = ran_out} p c e sent lines due w w' out out' up prepared t told recorded u front host door =
    let h = host-before p c e w'.host (subst (λ (l : Link). Shows l c.host_up c.host c.to_host) (sym host) t.host) in
    record {
      client = inl (ap (λ (l : Link). l.turns) front.link ∙ t.client.turns-is);
      host = h.0;
      clients = inl (ap (λ (d : Door). d.to_come) door ∙ t.clients);
      to_client = subst (λ (b : List ℕ). IsBetween c.to_client w'.client.written (cond c.client_up (c.to_client ++ b) c.to_client)) prepared.client
          (between-front c.client_up c.to_client sent.to_client w.client w'.client c.client t.client (subst (λ (v : Bool). WritesFront v sent.to_client w.client w'.client) u front));
      to_host = h.1;
      told = told-before p c e out' told;
      tape = all-recorded ran_out _ w' out' c (put p e c) out'.tape (taped p c e sent lines due out out' prepared t.tape recorded);
    }

-- within what goes to the host, behind all that goes to the client
pub put-in_host : {ran_out : List PastLinkEvent → PastLinkEvent → List ℕ → List ℕ → Type 0} → (p : Prescribed) (c : Course) (e : PastLinkEvent) (sent : Sent) (lines : List ℕ) (due : Bool) (w w' : Outside) (out out' : Written) (uc uh : Bool) → Prepared p c.events e sent lines → Tells w out c → IsTold out' c.told → IsRecorded p c e sent due out out'
    → uc ≡ c.client_up → uh ≡ c.host_up
    → w'.client ≡ wrote_if uc sent.to_client w.client → WritesFront uh sent.to_host w.host w'.host → w'.door ≡ w.door → Cut ran_out w' out' c (put p e c)
put-in_host {ran_out = ran_out} p c e sent lines due w w' out out' uc uh prepared t told recorded vc vh client front door =
    let all = subst (λ (b : List ℕ). Shows (wrote_if c.client_up sent.to_client w.client) c.client_up c.client (cond c.client_up (c.to_client ++ b) c.to_client)) prepared.client
    (wrote-shows c.client_up sent.to_client w.client c.client c.to_client t.client) in
    let is = client ∙ ap (λ (v : Bool). wrote_if v sent.to_client w.client) vc in
    record {
      client = inl (ap (λ (l : Link). l.turns) is ∙ all.turns-is);
      host = inl (ap (λ (l : Link). l.turns) front.link ∙ t.host.turns-is);
      clients = inl (ap (λ (d : Door). d.to_come) door ∙ t.clients);
      to_client = between-all c.to_client w'.client.written (put p e c).to_client _ (ap (λ (l : Link). l.written) is ∙ all.written-is) (more_if c.client_up c.to_client (gained p.to_client c.events e));
      to_host = subst (λ (b : List ℕ). IsBetween c.to_host w'.host.written (cond c.host_up (c.to_host ++ b) c.to_host)) prepared.host
          (between-front c.host_up c.to_host sent.to_host w.host w'.host c.host t.host (subst (λ (v : Bool). WritesFront v sent.to_host w.host w'.host) vh front));
      told = told-before p c e out' told;
      tape = all-recorded ran_out _ w' out' c (put p e c) out'.tape (taped p c e sent lines due out out' prepared t.tape recorded);
    }

appended-front : (known new : Option (List ℕ)) (x b : List ℕ) → known ≡ Some x → AppendsFront known new b → IsBetween x new (x ++ b)
appended-front known new x b e a = record {
  more = a.front;
  lost = a.back;
  known-is = appended known new x a.front e a.appends;
  most-is = ap (λ (l : List ℕ). x ++ l) a.parts ∙ sym (append_assoc x a.front a.back);
}

pub tells-front : (begun known new : Option (List ℕ)) (x b : List ℕ) → IfSome begun (λ (first : List ℕ). known ≡ Some x) → AppendsFront known new b → IfSome begun (λ (first : List ℕ). IsBetween x new (x ++ b))
tells-front begun known new x b is a = if-told begun (λ (e : known ≡ Some x). appended-front known new x b e a) is

-- within the lines of refusals, behind all that goes to both sides
pub put-in_lines : {ran_out : List PastLinkEvent → PastLinkEvent → List ℕ → List ℕ → Type 0} → (p : Prescribed) (c : Course) (e : PastLinkEvent) (sent : Sent) (lines : List ℕ) (due : Bool) (w w' : Outside) (out out' : Written) → Prepared p c.events e sent lines → Tells w out c
    → Shows w'.client (put p e c).client_up (put p e c).client (put p e c).to_client → Shows w'.host (put p e c).host_up (put p e c).host (put p e c).to_host
    → w'.door ≡ w.door → IfSome out'.begun (λ first. IsBetween c.told out'.told (c.told ++ lines)) → IsRecorded p c e sent due out out' → Cut ran_out w' out' c (put p e c)
put-in_lines {ran_out = ran_out} p c e sent lines due w w' out out' prepared t client host door front recorded = record {
  client = inr client.turns-is;
  host = inr host.turns-is;
  clients = inl (ap (λ (d : Door). d.to_come) door ∙ t.clients);
  to_client = between-all c.to_client w'.client.written (put p e c).to_client _ client.written-is (more_if c.client_up c.to_client (gained p.to_client c.events e));
  to_host = between-all c.to_host w'.host.written (put p e c).to_host _ host.written-is (more_if c.host_up c.to_host (gained p.to_host c.events e));
  told = subst (λ (l : List ℕ). IfSome out'.begun (λ first. IsBetween c.told out'.told (c.told ++ l))) (prepared.lines-is ∙ ap (flat_map refusal_line) prepared.refusals) front;
  tape = all-recorded ran_out _ w' out' c (put p e c) out'.tape (taped p c e sent lines due out out' prepared t.tape recorded);
}

-- ---- a side that isn't refused

or_else-none : (o : Option Refusal) → option_or o None ≡ o
or_else-none None = refl
or_else-none (Some r) = refl

pub refusing-none : (refusals : List Refusal) (go : Bool) (k k' : Rounds) → refusals ≡ [] → go ≡ false → k' ≡ refusing refusals go k → k' ≡ k
refusing-none refusals go k k' none stays is =
    is ∙ ap (λ (rs : List Refusal). refusing rs go k) none ∙ ap (λ (b : Bool). refusing [] b k) stays
    ∙ ap (λ (u : Bool). record k { client_up = u; host_up = k.host_up && not false; refused = option_or k.refused None }) (and-true k.client_up)
    ∙ ap (λ (u : Bool). record k { host_up = u; refused = option_or k.refused None }) (and-true k.host_up)
    ∙ ap (λ (r : Option Refusal). record k { refused = r }) (or_else-none k.refused)

-- an error that a `?` hands on
pub cut-puts : (Q : ServeEnd → Type 0) (result : Result Bool ServeEnd) (stands : List PastLinkEvent → Type 0) (runs_out : List PastLinkEvent → PastLinkEvent → List ℕ → List ℕ → Type 0) (p : Prescribed) (e : PastLinkEvent) (k : Rounds) (w : Outside) (out : Written) (c : Course) → IsErrAnd result Q → ((end : ServeEnd) → Cut (MayRunOut end runs_out p) w out c (put p e c))
    → Puts result stands runs_out p e k w out c
cut-puts Q (Ok x) stands runs_out p e k w out c is cut = absurd is
cut-puts Q (Err x) stands runs_out p e k w out c is cut = cut x
