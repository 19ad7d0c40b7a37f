-- What holds of every course that serving comes to: what it recorded and wrote follows from its events.
use Rattle.std.proofs.Common.{◌≡◌, ℕ, zero, suc, ◌-◌, ◌<◌, ◌==◌, Bool, true, false, cond, not, ◌&&◌, ◌||◌, List, [], ◌∷◌, ◌++◌, take, drop, refl, sym, ap, ◌∙◌, subst, append_assoc, append-nil, lit<, arith}
use Rattle.std.proofs.lemmas.Bool.{cond_both, and_parts}
use Rattle.std.proofs.Math.Bool.{and-false}
use Rattle.usb_base.specs.Number.{AreBytes}
use Rattle.usb_base.proofs.Numbers.{AreBytes-take, AreBytes-drop}
use Rattle.usb_base.specs.declared.side.Side.TheVariants.{Client, Host}
use Rattle.usb_base.specs.Lists.{is_empty}
use Rattle.gate_outside.specs.declared.turn.Turn.{Turn}
use Rattle.gate_outside.specs.declared.turn.Turn.TheVariants.{Piece, Wait, Fail}
use Rattle.gate_outside.specs.Turns.{pending, answer, given, after}
use Rattle.bridge_run.specs.declared.course.serve_end.ServeEnd.TheVariants as end
use Rattle.bridge_run.specs.events.Events.{PastLinkEvent, ClientComes, ClientQuiet, SidePiece, SideEnd}
use Rattle.bridge_run.specs.events.Prescribed.{Prescribed, gained, refuses, drops, first_of}
use Rattle.bridge_run.specs.written.Recorded.{lines_of, is_last, is_full, written_if, waiting_if}
use Rattle.bridge_run.specs.course.Course.{Setting, Course, Next, Making, AtDoor, AtClient, AtHost, AtEnd, Takes}
use Rattle.bridge_run.specs.declared.course.polling.TheConstants.{POLL_LIMIT}
use Rattle.bridge_run.specs.course.Calls.{Outcome, Goes, Stops, is_due, lines_with, put, settle, ends_next, take_event, come, heard, poll, gathered, make, call, and_then, calls}
use Rattle.bridge_serve.specs.served.Gate.{gate_events}
use Rattle.tape_run.specs.tape.Tape.{host_ended}
use Rattle.bridge_run.specs.written.Ups.{client_at, host_at, client_behind, to_clients}
use Rattle.tape_laws.specs.Ups.{host_behind, to_host}
use Rattle.tape_laws.specs.Recordings.{recorded}
use Rattle.tape_laws.specs.Begun.{SendBytes, AllSendBytes}
use Rattle.tape_laws.proofs.Events.{IsPiece, Fits, AllFit}

-- ---- what holds

-- a course without what rounds count
abbrev pub seen : Course → Course
seen c = record c { busy = false; waits = 0; left = 0; told = [] }

-- the first of the events have their lines behind the first line, and the lines of the later ones wait, which send
-- nothing
pub record Gathers (p : Prescribed) (first : List ℕ) (events : List PastLinkEvent) (written waiting : List ℕ) : Type 0 where
  pub taped : List PastLinkEvent
  pub later : List PastLinkEvent
  pub events-are : events ≡ later ++ taped
  pub written-is : written ≡ first ++ recorded p taped
  pub all-is : first ++ recorded p events ≡ written ++ waiting
  pub to_client-is : to_clients p events ≡ to_clients p taped
  pub to_host-is : to_host p events ≡ to_host p taped
  pub fit : AllFit taped

-- what it recorded behind the first line and what it wrote are those of its events; these links are up
pub record Holds (p : Prescribed) (first : List ℕ) (client_up host_up : Bool) (c : Course) : Type 0 where
  pub client_up-is : c.client_up ≡ client_up
  pub host_up-is : c.host_up ≡ host_up
  pub gathers : Gathers p first c.events c.recorded c.waiting
  pub to_client-is : c.to_client ≡ to_clients p c.events
  pub to_host-is : c.to_host ≡ to_host p c.events
  pub fit : AllFit c.events
  pub client : SendBytes c.client
  pub clients : AllSendBytes c.clients
  pub host : SendBytes c.host

-- between events
abbrev pub Stands : Prescribed → List ℕ → Course → Type 0
Stands p first c = Holds p first (client_behind p c.events) (host_behind p c.events) (seen c)

-- before the host is dialled
pub record IsMaking (p : Prescribed) (first : List ℕ) (c : Course) : Type 0 where
  pub events-are : c.events ≡ []
  pub client_up-is : c.client_up ≡ false
  pub recorded-is : c.recorded ≡ first
  pub none_waits : c.waiting ≡ []
  pub to_client-is : c.to_client ≡ []
  pub to_host-is : c.to_host ≡ []
  pub client : SendBytes c.client
  pub clients : AllSendBytes c.clients
  pub host : SendBytes c.host

-- what is done behind an event
abbrev pub IsBehind : Next → Type 0
IsBehind Making = ⊥
IsBehind AtDoor = Unit {0}
IsBehind AtClient = Unit {0}
IsBehind AtHost = Unit {0}
IsBehind AtEnd = Unit {0}
IsBehind (Takes e next) = ⊥

-- as an event is taken
pub record IsTaking (p : Prescribed) (first : List ℕ) (e : PastLinkEvent) (next : Next) (c : Course) : Type 0 where
  pub holds : Holds p first (client_at e (client_behind p c.events)) (host_at e (host_behind p c.events)) (seen c)
  pub fits : Fits e c.events
  pub behind : IsBehind next

abbrev pub At : Prescribed → List ℕ → Next → Course → Type 0
At p first Making c = IsMaking p first c
At p first AtDoor c = Stands p first c
At p first AtClient c = Stands p first c
At p first AtHost c = Stands p first c
At p first AtEnd c = Stands p first c
At p first (Takes e next) c = IsTaking p first e next c

abbrev pub Comes : Prescribed → List ℕ → Outcome → Type 0
Comes p first (Goes next c) = At p first next c
Comes p first (Stops e c) = Stands p first c

at-behind : (p : Prescribed) (first : List ℕ) (next : Next) (c : Course) → IsBehind next → Stands p first c → At p first next c
at-behind p first Making c behind s = absurd behind
at-behind p first AtDoor c behind s = s
at-behind p first AtClient c behind s = s
at-behind p first AtHost c behind s = s
at-behind p first AtEnd c behind s = s
at-behind p first (Takes e next) c behind s = absurd behind

if-comes : (p : Prescribed) (first : List ℕ) (t : Bool) (x y : Outcome) → (t ≡ true → Comes p first x) → (t ≡ false → Comes p first y) → Comes p first (cond t x y)
if-comes p first t x y f g = cond_both t x y (Comes p first) f g

-- ---- an event is taken

written-if : (up there : Bool) (old more all : List ℕ) → up ≡ there → old ≡ all → cond up (old ++ more) old ≡ all ++ cond there more []
written-if true there old more all is same = ap (λ (l : List ℕ). l ++ more) same ∙ ap (λ (t : Bool). all ++ cond t more []) is
written-if false there old more all is same = same ∙ sym (append-nil all) ∙ ap (λ (t : Bool). all ++ cond t more []) is

bytes-if : (t : Bool) (turns : List Turn) → SendBytes turns → SendBytes (cond t [] turns)
bytes-if true turns h = tt
bytes-if false turns h = h

any-none : {X : Type 0} → (xs : List X) → not (is_empty xs) ≡ false → xs ≡ []
any-none [] is = refl
any-none (x ∷ xs) is = cc

neither : (a b more last full : Bool) → (((a || (b || more)) || last) || full) ≡ false → (a ≡ false) × (b ≡ false)
neither true b more last full is = cc
neither false true more last full is = cc
neither false false more last full is = (refl, refl)

nothing-more : (t : Bool) (old more all : List ℕ) → more ≡ [] → old ≡ all → old ++ cond t more [] ≡ all
nothing-more true old more all none is = ap (λ (l : List ℕ). old ++ l) none ∙ append-nil old ∙ is
nothing-more false old more all none is = append-nil old ∙ is

-- an event's lines are written behind those that wait, or wait behind them where it sends nothing
put-gathers : (p : Prescribed) (first : List ℕ) (e : PastLinkEvent) (c : Course) (due : Bool) → is_due p e c ≡ due → Gathers p first c.events c.recorded c.waiting → AllFit c.events → Fits e c.events
    → Gathers p first (e ∷ c.events) (c.recorded ++ written_if due (lines_with p e c)) (waiting_if due (lines_with p e c))
put-gathers p first e c true is g fit fits =
    let lines = lines_of e (gained p.refusals c.events e) in
    let all : first ++ recorded p (e ∷ c.events) ≡ c.recorded ++ (c.waiting ++ lines) =
    sym (append_assoc first (recorded p c.events) lines) ∙ ap (λ (l : List ℕ). l ++ lines) g.all-is ∙ append_assoc c.recorded c.waiting lines in
    record {
      taped = e ∷ c.events;
      later = [];
      events-are = refl;
      written-is = sym all;
      all-is = all ∙ sym (append-nil (c.recorded ++ (c.waiting ++ lines)));
      to_client-is = refl;
      to_host-is = refl;
      fit = (fits, fit);
    }
put-gathers p first e c false is g fit fits =
    let refused = gained p.refusals c.events e in
    let lines = lines_of e refused in
    let for_client = gained p.to_client c.events e in
    let for_host = gained p.to_host c.events e in
    let none = neither (not (is_empty for_client)) (not (is_empty for_host)) (not (is_empty refused) || p.lets_go (e ∷ c.events)) (is_last c) (is_full (lines_with p e c)) is in
    record {
      taped = g.taped;
      later = e ∷ g.later;
      events-are = ap (λ (events : List PastLinkEvent). e ∷ events) g.events-are;
      written-is = append-nil c.recorded ∙ g.written-is;
      all-is = sym (append_assoc first (recorded p c.events) lines) ∙ ap (λ (l : List ℕ). l ++ lines) g.all-is ∙ append_assoc c.recorded c.waiting lines
          ∙ ap (λ (l : List ℕ). l ++ (c.waiting ++ lines)) (sym (append-nil c.recorded));
      to_client-is = nothing-more (client_at e (client_behind p c.events)) (to_clients p c.events) for_client (to_clients p g.taped) (any-none for_client none.0) g.to_client-is;
      to_host-is = nothing-more (host_at e (host_behind p c.events)) (to_host p c.events) for_host (to_host p g.taped) (any-none for_host none.1) g.to_host-is;
      fit = g.fit;
    }

put-stands : (p : Prescribed) (first : List ℕ) (e : PastLinkEvent) (c : Course) → Holds p first (client_at e (client_behind p c.events)) (host_at e (host_behind p c.events)) (seen c) → Fits e c.events → Stands p first (put p e c)
put-stands p first e c h fits =
    let refusals = gained p.refusals c.events e in
    let up = client_at e (client_behind p c.events) in
    let host_up = host_at e (host_behind p c.events) in
    record {
      client_up-is = ap (λ (t : Bool). t && not (drops p c.events e)) h.client_up-is;
      host_up-is = ap (λ (t : Bool). t && not (refuses Host refusals)) h.host_up-is;
      gathers = put-gathers p first e c (is_due p e c) refl h.gathers h.fit fits;
      to_client-is = written-if c.client_up up c.to_client (gained p.to_client c.events e) (to_clients p c.events) h.client_up-is h.to_client-is;
      to_host-is = written-if c.host_up host_up c.to_host (gained p.to_host c.events e) (to_host p c.events) h.host_up-is h.to_host-is;
      fit = (fits, h.fit);
      client = bytes-if (drops p c.events e) c.client h.client;
      clients = h.clients;
      host = h.host;
    }

dropped-is : (e : PastLinkEvent) (dropped : Bool) → ends_next e dropped ≡ true → dropped ≡ true
dropped-is ClientComes dropped is = is
dropped-is ClientQuiet dropped is = is
dropped-is (SidePiece side b) dropped is = is
dropped-is (SideEnd Client) dropped is = cc
dropped-is (SideEnd Host) dropped is = is

-- a client that is dropped has its end next
ends : (p : Prescribed) (first : List ℕ) (e : PastLinkEvent) (next : Next) (c : Course) → drops p c.events e ≡ true → IsBehind next → Stands p first (put p e c) → IsTaking p first (SideEnd Client) next (put p e c)
ends p first e next c dropped behind s = record {
  holds = subst (λ (t : Bool). Holds p first t (host_behind p (e ∷ c.events)) (seen (put p e c)))
      (ap (λ (t : Bool). client_at e (client_behind p c.events) && not t) dropped ∙ and-false (client_at e (client_behind p c.events))) s;
  fits = tt;
  behind = behind;
}

settle-comes : (s : Setting) (first : List ℕ) (next : Next) (c : Course) → IsBehind next → Stands s.served first c → Comes s.served first (settle s next c)
settle-comes s first next c behind h =
    if-comes s.served first (not c.client_up && not c.host_up) (Stops (end.Ended (first_of (s.served.refusals c.events))) c) (cond (c.left == 0) (Stops end.Spent c) (Goes next c)) (λ down. h)
    (λ up. if-comes s.served first (c.left == 0) (Stops end.Spent c) (Goes next c) (λ none. h) (λ some. at-behind s.served first next c behind h))

take-comes : (s : Setting) (first : List ℕ) (e : PastLinkEvent) (next : Next) (c : Course) → IsTaking s.served first e next c → Comes s.served first (take_event s e next c)
take-comes s first e next c h =
    let behind = put-stands s.served first e c h.holds h.fits in
    if-comes s.served first (ends_next e (drops s.served c.events e)) (Goes (Takes (SideEnd Client) next) (put s.served e c)) (settle s next (put s.served e c))
    (λ dropped. ends s.served first e next c (dropped-is e (drops s.served c.events e) dropped) h.behind behind)
    (λ stays. settle-comes s first next (put s.served e c) h.behind behind)

-- ---- a round

come-comes : (p : Prescribed) (first : List ℕ) (clients : List (List Turn)) (c : Course) → AllSendBytes clients → Stands p first c → Comes p first (come clients c)
come-comes p first [] c bytes h = h
come-comes p first (turns ∷ clients) c bytes h = record {
  holds = record {
    client_up-is = refl;
    host_up-is = h.host_up-is;
    gathers = h.gathers;
    to_client-is = h.to_client-is;
    to_host-is = h.to_host-is;
    fit = h.fit;
    client = bytes.0;
    clients = bytes.1;
    host = h.host;
  };
  fits = tt;
  behind = tt;
}

-- no empty piece stands at the front
abbrev BeginsFull : List Turn → Type 0
BeginsFull [] = Unit {0}
BeginsFull (Piece [] ∷ turns) = ⊥
BeginsFull (Piece (b ∷ bs) ∷ turns) = Unit {0}
BeginsFull (Wait ∷ turns) = Unit {0}
BeginsFull (Fail ∷ turns) = Unit {0}

pending-full : (turns : List Turn) → BeginsFull (pending turns)
pending-full [] = tt
pending-full (Piece [] ∷ turns) = pending-full turns
pending-full (Piece (b ∷ bs) ∷ turns) = tt
pending-full (Wait ∷ turns) = tt
pending-full (Fail ∷ turns) = tt

pending-bytes : (turns : List Turn) → SendBytes turns → SendBytes (pending turns)
pending-bytes [] h = tt
pending-bytes (Piece [] ∷ turns) h = pending-bytes turns h.1
pending-bytes (Piece (b ∷ bs) ∷ turns) h = h
pending-bytes (Wait ∷ turns) h = h
pending-bytes (Fail ∷ turns) h = h

take-some : (n b : ℕ) (bs : List ℕ) → 0 < n → take n (b ∷ bs) ≡ [] → ⊥
take-some zero b bs some none = absurd (omega arith)
take-some (suc n) b bs some none = cc

piece-is : (b : ℕ) (bs : List ℕ) → AreBytes (b ∷ bs) → IsPiece (take POLL_LIMIT (b ∷ bs))
piece-is b bs h = record { some = take-some POLL_LIMIT b bs (lit< tt); bytes-are = AreBytes-take POLL_LIMIT (b ∷ bs) h }

-- with other turns of those that are there, and other links
with-links : (p : Prescribed) (first : List ℕ) {up host_up up' host_up' : Bool} (c : Course) (client host : List Turn) (client_link host_link : Bool) → client_link ≡ up' → host_link ≡ host_up' → SendBytes client → SendBytes host → Holds p first up host_up (seen c)
    → Holds p first up' host_up' (seen (record c { client_up = client_link; host_up = host_link; client = client; host = host }))
with-links p first c client host client_link host_link up-is host_up-is client-sends host-sends h = record {
  client_up-is = up-is;
  host_up-is = host_up-is;
  gathers = h.gathers;
  to_client-is = h.to_client-is;
  to_host-is = h.to_host-is;
  fit = h.fit;
  client = client-sends;
  clients = h.clients;
  host = host-sends;
}

with-client : (p : Prescribed) (first : List ℕ) (up host_up : Bool) (c : Course) (turns : List Turn) → SendBytes turns → Holds p first up host_up (seen c) → Holds p first up host_up (seen (record c { client = turns }))
with-client p first up host_up c turns bytes h = with-links p first c turns c.host c.client_up c.host_up h.client_up-is h.host_up-is bytes h.host h

with-host : (p : Prescribed) (first : List ℕ) (up host_up : Bool) (c : Course) (turns : List Turn) → SendBytes turns → Holds p first up host_up (seen c) → Holds p first up host_up (seen (record c { host = turns }))
with-host p first up host_up c turns bytes h = with-links p first c c.client turns c.client_up c.host_up h.client_up-is h.host_up-is h.client bytes h

without-client : (p : Prescribed) (first : List ℕ) (up host_up : Bool) (c : Course) → Holds p first up host_up (seen c) → Holds p first false host_up (seen (record c { client_up = false }))
without-client p first up host_up c h = with-links p first c c.client c.host false c.host_up refl h.host_up-is h.client h.host h

without-host : (p : Prescribed) (first : List ℕ) (up host_up : Bool) (c : Course) → Holds p first up host_up (seen c) → Holds p first up false (seen (record c { host_up = false }))
without-host p first up host_up c h = with-links p first c c.client c.host c.client_up false h.client_up-is refl h.client h.host h

client-heard : (p : Prescribed) (first : List ℕ) (turns : List Turn) (c : Course) → BeginsFull turns → SendBytes turns → Stands p first c
    → Comes p first (heard Client AtHost (answer POLL_LIMIT turns) (given POLL_LIMIT turns) (record c { client = after POLL_LIMIT turns }))
client-heard p first [] c full bytes h =
    record { holds = without-client p first (client_behind p c.events) (host_behind p c.events) (record c { client = [] }) (with-client p first (client_behind p c.events) (host_behind p c.events) c [] tt h); fits = tt; behind = tt }
client-heard p first (Piece [] ∷ turns) c full bytes h = absurd full
client-heard p first (Piece (b ∷ bs) ∷ turns) c full bytes h = record {
  holds = with-client p first (client_behind p c.events) (host_behind p c.events) c (Piece (drop POLL_LIMIT (b ∷ bs)) ∷ turns) (AreBytes-drop POLL_LIMIT (b ∷ bs) bytes.0, bytes.1) h;
  fits = piece-is b bs bytes.0;
  behind = tt;
}
client-heard p first (Wait ∷ turns) c full bytes h = record { holds = with-client p first (client_behind p c.events) (host_behind p c.events) c turns bytes h; fits = tt; behind = tt }
client-heard p first (Fail ∷ turns) c full bytes h = with-client p first (client_behind p c.events) (host_behind p c.events) c turns bytes h

-- a host whose link is up has not ended
not-ended : (p : Prescribed) (events : List PastLinkEvent) → host_behind p events ≡ true → host_ended (gate_events events) ≡ false
not-ended p [] up = refl
not-ended p (ClientComes ∷ events) up = not-ended p events (and_parts (host_behind p events) (not (refuses Host (gained p.refusals events ClientComes))) up).0
not-ended p (SidePiece Client b ∷ events) up = not-ended p events (and_parts (host_behind p events) (not (refuses Host (gained p.refusals events (SidePiece Client b)))) up).0
not-ended p (ClientQuiet ∷ events) up = not-ended p events (and_parts (host_behind p events) (not (refuses Host (gained p.refusals events ClientQuiet))) up).0
not-ended p (SideEnd Client ∷ events) up = not-ended p events (and_parts (host_behind p events) (not (refuses Host (gained p.refusals events (SideEnd Client)))) up).0
not-ended p (SidePiece Host b ∷ events) up = not-ended p events (and_parts (host_behind p events) (not (refuses Host (gained p.refusals events (SidePiece Host b)))) up).0
not-ended p (SideEnd Host ∷ events) up = absurd (no up)
  where
    no : false ≡ true → ⊥
    no e = cc

host-heard : (p : Prescribed) (first : List ℕ) (turns : List Turn) (c : Course) → BeginsFull turns → SendBytes turns → host_ended (gate_events c.events) ≡ false → Stands p first c
    → Comes p first (heard Host AtEnd (answer POLL_LIMIT turns) (given POLL_LIMIT turns) (record c { host = after POLL_LIMIT turns }))
host-heard p first [] c full bytes going h =
    record { holds = without-host p first (client_behind p c.events) (host_behind p c.events) (record c { host = [] }) (with-host p first (client_behind p c.events) (host_behind p c.events) c [] tt h); fits = going; behind = tt }
host-heard p first (Piece [] ∷ turns) c full bytes going h = absurd full
host-heard p first (Piece (b ∷ bs) ∷ turns) c full bytes going h = record {
  holds = with-host p first (client_behind p c.events) (host_behind p c.events) c (Piece (drop POLL_LIMIT (b ∷ bs)) ∷ turns) (AreBytes-drop POLL_LIMIT (b ∷ bs) bytes.0, bytes.1) h;
  fits = (piece-is b bs bytes.0, going);
  behind = tt;
}
host-heard p first (Wait ∷ turns) c full bytes going h = with-host p first (client_behind p c.events) (host_behind p c.events) c turns bytes h
host-heard p first (Fail ∷ turns) c full bytes going h = with-host p first (client_behind p c.events) (host_behind p c.events) c turns bytes h

-- what waits is written
gathered-stands : (p : Prescribed) (first : List ℕ) (c : Course) → Stands p first c → Stands p first (gathered c)
gathered-stands p first c h = record {
  client_up-is = h.client_up-is;
  host_up-is = h.host_up-is;
  gathers = record {
    taped = c.events;
    later = [];
    events-are = refl;
    written-is = sym h.gathers.all-is;
    all-is = h.gathers.all-is ∙ sym (append-nil (c.recorded ++ c.waiting));
    to_client-is = refl;
    to_host-is = refl;
    fit = h.fit;
  };
  to_client-is = h.to_client-is;
  to_host-is = h.to_host-is;
  fit = h.fit;
  client = h.client;
  clients = h.clients;
  host = h.host;
}

-- ---- one call

making-gathers : (p : Prescribed) (first : List ℕ) (c : Course) → IsMaking p first c → Gathers p first c.events c.recorded c.waiting
making-gathers p first c h =
    let written = h.recorded-is ∙ sym (append-nil first) ∙ sym (ap (λ (l : List PastLinkEvent). first ++ recorded p l) h.events-are) in
    record {
      taped = c.events;
      later = [];
      events-are = refl;
      written-is = written;
      all-is = sym written ∙ sym (append-nil c.recorded) ∙ ap (λ (l : List ℕ). c.recorded ++ l) (sym h.none_waits);
      to_client-is = refl;
      to_host-is = refl;
      fit = subst AllFit (sym h.events-are) tt;
    }

make-stands : (p : Prescribed) (first : List ℕ) (c : Course) → IsMaking p first c → Stands p first (make p c)
make-stands p first c h = record {
  client_up-is = h.client_up-is ∙ sym (ap (client_behind p) h.events-are);
  host_up-is = sym (ap (host_behind p) h.events-are);
  gathers = making-gathers p first c h;
  to_client-is = h.to_client-is ∙ sym (ap (to_clients p) h.events-are);
  to_host-is = ap (λ (l : List ℕ). l ++ p.to_host []) h.to_host-is ∙ sym (ap (to_host p) h.events-are);
  fit = subst AllFit (sym h.events-are) tt;
  client = h.client;
  clients = h.clients;
  host = h.host;
}

pub call-comes : (s : Setting) (first : List ℕ) (next : Next) (c : Course) → At s.served first next c → Comes s.served first (call s next c)
call-comes s first Making c h = make-stands s.served first c h
call-comes s first AtDoor c h = if-comes s.served first c.client_up (Goes AtClient c) (come c.clients c) (λ up. h) (λ down. come-comes s.served first c.clients c h.clients h)
call-comes s first AtClient c h =
    if-comes s.served first c.client_up (poll Client c.client AtHost c) (Goes AtHost c)
    (λ up. client-heard s.served first (pending c.client) c (pending-full c.client) (pending-bytes c.client h.client) h) (λ down. h)
call-comes s first AtHost c h =
    if-comes s.served first c.host_up (poll Host c.host AtEnd c) (Goes AtEnd c)
    (λ up. host-heard s.served first (pending c.host) c (pending-full c.host) (pending-bytes c.host h.host) (not-ended s.served c.events (sym h.host_up-is ∙ up)) h) (λ down. h)
call-comes s first AtEnd c h =
    if-comes s.served first c.busy (Goes AtDoor (record c { busy = false; waits = s.idle })) (cond (c.waits - 1 == 0) (Stops end.Idle (record (gathered c) { waits = c.waits - 1 })) (Goes AtDoor (record (gathered c) { waits = c.waits - 1 }))) (λ busy. h)
    (λ none. if-comes s.served first (c.waits - 1 == 0) (Stops end.Idle (record (gathered c) { waits = c.waits - 1 })) (Goes AtDoor (record (gathered c) { waits = c.waits - 1 })) (λ idle. gathered-stands s.served first c h) (λ waits. gathered-stands s.served first c h))
call-comes s first (Takes e next) c h = take-comes s first e next c h

and-then-comes : (s : Setting) (first : List ℕ) (o : Outcome) → Comes s.served first o → Comes s.served first (and_then o (call s))
and-then-comes s first (Goes next c) h = call-comes s first next c h
and-then-comes s first (Stops e c) h = h

pub calls-come : (s : Setting) (first : List ℕ) (count : ℕ) (o : Outcome) → Comes s.served first o → Comes s.served first (calls s count o)
calls-come s first zero o h = h
calls-come s first (suc count) o h = and-then-comes s first (calls s count o) (calls-come s first count o h)
