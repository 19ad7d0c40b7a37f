-- What the doors' answers make of a course.
use Rattle.std.proofs.Common.{◌≡◌, ◌⊎◌, ℕ, ◌-◌, ◌<◌, Bool, true, false, cond, List, [], ◌∷◌, length, take, drop, Option, Some, None, IfSome, option_map, Ok, refl, sym, ap, ◌∙◌, subst, inl, inr, append-nil, arith}
use Rattle.usb_base.specs.declared.side.Side.{Side}
use Rattle.usb_base.specs.declared.side.Side.TheVariants.{Client, Host}
use Rattle.gate_outside.specs.declared.fault.Failed.{Failed as Fault}
use Rattle.gate_outside.specs.declared.turn.Turn.{Turn}
use Rattle.gate_outside.specs.declared.turn.Polled.{Polled}
use Rattle.gate_outside.specs.declared.turn.Polled.TheVariants.{Took, NotYet, Ended, Failed}
use Rattle.gate_outside.specs.Link.{Link, Door, other}
use Rattle.gate_outside.specs.Turns.{pending, answer, given, after, taken}
use Rattle.gate_outside.specs.Doors.{faulted, first, Accepts, GivesTurns, PollFails, FailTaken}
use Rattle.bridge_run.specs.events.Events.{PastLinkEvent, ClientComes}
use Rattle.bridge_run.specs.declared.course.rounds.Rounds.{Rounds}
use Rattle.bridge_run.specs.events.Prescribed.{Prescribed}
use Rattle.bridge_run.specs.course.Course.{Setting, Course, Next, AtDoor, AtClient, AtHost, AtEnd, Takes}
use Rattle.bridge_run.specs.declared.course.polling.TheConstants.{POLL_LIMIT}
use Rattle.bridge_run.specs.course.Calls.{Goes, come, down, heard, poll, call, course_of}
use Rattle.bridge_run.specs.course.Calls.{turned as passed}
use Rattle.bridge_run.specs.course.Outside.{Outside, outside, NoFault, Shows, Tells, IsTold, IsBetween, IsOneOf, HasLines, IsTaped, Cut, Written, Faults}
use Rattle.bridge_run.specs.inner.Keeping.{up_of, with_down}
use Rattle.bridge_run.specs.inner.Follows.{IsServing, polls, behind}
use Rattle.bridge_run.proofs.lemmas.written.Put.{between-none, all-recorded, if-told, retold}

-- ---- the door

some-is : {X : Type 0} → (x y : X) → Some x ≡ Some y → x ≡ y
some-is x y e = cc

-- the next client's turns are there, and the others still to come
accepted-turns : (known : Option (List (List Turn))) (clients : List (List Turn)) → known ≡ Some clients → IfSome known (λ cs. 0 < length cs)
    → (turns : List Turn) × (later : List (List Turn)) × (clients ≡ turns ∷ later) × (option_map first known ≡ Some turns) × (option_map (λ cs. drop 1 cs) known ≡ Some later)
accepted-turns None clients e some = absurd (none-some e)
  where
    none-some : None ≡ Some clients → ⊥
    none-some e = cc
accepted-turns (Some []) clients e some = absurd (omega (arith, some))
accepted-turns (Some (turns ∷ later)) clients e some = (turns, later, sym (some-is (turns ∷ later) clients e), refl, refl)

-- the course behind the coming of a client that has these turns
abbrev pub come_course : List Turn → List (List Turn) → Course → Course
come_course turns later c = record c { client_up = true; client = turns; clients = later; busy = true; left = c.left - 1 }

come-is : (clients : List (List Turn)) (turns : List Turn) (later : List (List Turn)) (c : Course) → clients ≡ turns ∷ later → come clients c ≡ Goes (Takes ClientComes AtClient) (come_course turns later c)
come-is clients turns later c e = ap (λ (cs : List (List Turn)). come cs c) e

-- a client has come, whose coming is the next event
pub record HasCome (stands : List PastLinkEvent → Type 0) (p : Prescribed) (k : Rounds) (w : Outside) (out : Written) (c : Course) : Type 0 where
  pub course : Course
  pub is : come c.clients c ≡ Goes (Takes ClientComes AtClient) course
  pub follows : IsServing stands p k w out course

pub accepted : (stands : List PastLinkEvent → Type 0) (p : Prescribed) (k k' : Rounds) (w w' : Outside) (out : Written) (c : Course) → IsServing stands p k w out c
    → Accepts {E = Fault} (Ok true) w.door w'.door w.client w'.client → w'.host ≡ w.host → k' ≡ record k { client_up = true; busy = true; left = k.left - 1 }
    → HasCome stands p k' w' out c
accepted stands p k k' w w' out c f a host kept =
    let t = accepted-turns w.door.to_come c.clients f.tells.clients a.0 in
    record {
      course = come_course t.0 t.1 c;
      is = come-is c.clients t.0 t.1 c t.2;
      follows = subst (λ (q : Rounds). IsServing stands p q w' out (come_course t.0 t.1 c)) (sym kept) (record {
        stands_for = f.stands_for;
        tells = record {
          client = record {
            up-is = ap (λ (l : Link). l.up) a.1;
            turns-is = ap (λ (l : Link). l.turns) a.1 ∙ t.3;
            written-is = ap (λ (l : Link). l.written) a.1 ∙ f.tells.client.written-is;
          };
          host = subst (λ (l : Link). Shows l c.host_up c.host c.to_host) (sym host) f.tells.host;
          clients = ap (λ (d : Door). d.to_come) a.2 ∙ t.4;
          told = f.tells.told;
          tape = f.tells.tape;
        };
        client_up = refl;
        host_up = f.host_up;
        busy = refl;
        waits = f.waits;
        left = ap (λ (n : ℕ). n - 1) f.left;
        refused = f.refused;
      });
    }

none-come : (known : Option (List (List Turn))) (clients : List (List Turn)) → known ≡ Some clients → IfSome known (λ cs. cs ≡ []) → clients ≡ []
none-come None clients e none = absurd (none-some e)
  where
    none-some : None ≡ Some clients → ⊥
    none-some e = cc
none-come (Some cs) clients e none = sym (some-is cs clients e) ∙ none

-- a link that only counted shows what it did
same-shows : (old new : Link) (up : Bool) (turns : List Turn) (written : List ℕ) → new.up ≡ old.up → new.turns ≡ old.turns → new.written ≡ old.written → Shows old up turns written → Shows new up turns written
same-shows old new up turns written a b d s = record { up-is = a ∙ s.up-is; turns-is = b ∙ s.turns-is; written-is = d ∙ s.written-is }

pub waited : (stands : List PastLinkEvent → Type 0) (p : Prescribed) (k : Rounds) (w w' : Outside) (out : Written) (c : Course) → IsServing stands p k w out c
    → Accepts {E = Fault} (Ok false) w.door w'.door w.client w'.client → w'.host ≡ w.host → (come c.clients c ≡ Goes AtClient c) × IsServing stands p k w' out c
waited stands p k w w' out c f a host = (
  ap (λ (cs : List (List Turn)). come cs c) (none-come w.door.to_come c.clients f.tells.clients a.0),
  retold stands p k w w' out out c c.client c.host c.recorded c.waiting f (record {
    client = same-shows w.client w'.client c.client_up c.client c.to_client (ap (λ (l : Link). l.up) a.1) (ap (λ (l : Link). l.turns) a.1) (ap (λ (l : Link). l.written) a.1) f.tells.client;
    host = subst (λ (l : Link). Shows l c.host_up c.host c.to_host) (sym host) f.tells.host;
    clients = ap (λ (d : Door). d.to_come) a.2 ∙ f.tells.clients;
    told = f.tells.told;
    tape = f.tells.tape;
  }),
)

-- the course behind a call wrote nothing
pub record WroteNothing (c d : Course) : Type 0 where
  pub to_client : d.to_client ≡ c.to_client
  pub to_host : d.to_host ≡ c.to_host
  pub told : d.told ≡ c.told
  pub recorded : d.recorded ≡ c.recorded

pub between-same : (x : List ℕ) (known : Option (List ℕ)) (y : List ℕ) → known ≡ Some x → y ≡ x → IsBetween x known y
between-same x known y e f = between-none x known y [] e (f ∙ sym (append-nil x))

-- nothing was recorded either
pub same-recorded : (ran_out : List PastLinkEvent → PastLinkEvent → List ℕ → List ℕ → Type 0) (P : Type 0) (w : Outside) (out : Written) (c d : Course) (known : Option (List ℕ)) → IfSome known (λ held. (held ≡ c.recorded) × P) → d.recorded ≡ c.recorded → IfSome known (λ held. HasLines ran_out w out c d held)
same-recorded ran_out P w out c d known is same = all-recorded ran_out P w out c d known (subst (λ (r : List ℕ). IfSome known (λ held. (held ≡ r) × P)) (sym same) is)

come-writes : (clients : List (List Turn)) (c : Course) → WroteNothing c (course_of (come clients c))
come-writes [] c = record { to_client = refl; to_host = refl; told = refl; recorded = refl }
come-writes (turns ∷ later) c = record { to_client = refl; to_host = refl; told = refl; recorded = refl }

-- nobody has come, and the turns and all that was written are as they were
pub door-cut : {ran_out : List PastLinkEvent → PastLinkEvent → List ℕ → List ℕ → Type 0} → (w : Outside) (out : Written) (c : Course) → w.client.turns ≡ Some c.client → w.host.turns ≡ Some c.host → w.door.to_come ≡ Some c.clients
    → w.client.written ≡ Some c.to_client → w.host.written ≡ Some c.to_host → IsTold out c.told → IsTaped out c → Cut ran_out w out c (course_of (come c.clients c))
door-cut {ran_out = ran_out} w out c client host clients to_client to_host told tape =
    let d = course_of (come c.clients c) in
    let same = come-writes c.clients c in
    record {
      client = inl client;
      host = inl host;
      clients = inl clients;
      to_client = between-same c.to_client w.client.written d.to_client to_client same.to_client;
      to_host = between-same c.to_host w.host.written d.to_host to_host same.to_host;
      told = if-told out.begun (λ (is : out.told ≡ Some c.told). between-same c.told out.told d.told is same.told) told;
      tape = same-recorded ran_out _ w out c d out.tape tape same.recorded;
    }

pub not_accepted : {ran_out : List PastLinkEvent → PastLinkEvent → List ℕ → List ℕ → Type 0} → (w w' : Outside) (out : Written) (c : Course) → Tells w out c → w'.client ≡ faulted w.client → w'.host ≡ w.host → w'.door ≡ w.door → Cut ran_out w' out c (course_of (come c.clients c))
not_accepted w w' out c t client host door =
    door-cut w' out c (ap (λ (l : Link). l.turns) client ∙ t.client.turns-is) (ap (λ (l : Link). l.turns) host ∙ t.host.turns-is) (ap (λ (d : Door). d.to_come) door ∙ t.clients)
    (ap (λ (l : Link). l.written) client ∙ t.client.written-is) (ap (λ (l : Link). l.written) host ∙ t.host.written-is) t.told t.tape

-- ---- a side

abbrev pub turns_of : Side → Course → List Turn
turns_of Client c = c.client
turns_of Host c = c.host

abbrev pub is_up : Side → Course → Bool
is_up Client c = c.client_up
is_up Host c = c.host_up

pub call-poll : (s : Setting) (side : Side) (c : Course) → is_up side c ≡ true → call s (polls side) c ≡ poll side (turns_of side c) (behind side) c
call-poll s Client c up = ap (λ (b : Bool). cond b (poll Client c.client AtHost c) (Goes AtHost c)) up
call-poll s Host c up = ap (λ (b : Bool). cond b (poll Host c.host AtEnd c) (Goes AtEnd c)) up

-- a poll that gave what the turns have
poll-is : (side : Side) (turns : List Turn) (next : Next) (c : Course) (polled : Polled) (buf : List ℕ) → length buf ≡ POLL_LIMIT → GivesTurns polled buf turns
    → poll side turns next c ≡ heard side next polled (take (taken polled) buf) (passed side c)
poll-is side turns next c polled buf len gives =
    ap (λ (a : Polled). heard side next a (given POLL_LIMIT (pending turns)) (passed side c)) (ap (λ (n : ℕ). answer n (pending turns)) (sym len) ∙ sym gives.answers)
    ∙ ap (λ (bytes : List ℕ). heard side next polled bytes (passed side c)) (ap (λ (n : ℕ). given n (pending turns)) (sym len) ∙ sym gives.bytes)

gives-at : (polled : Polled) (buf : List ℕ) (known : Option (List Turn)) (turns : List Turn) → known ≡ Some turns → IfSome known (GivesTurns polled buf) → GivesTurns polled buf turns
gives-at polled buf None turns e g = absurd (none-some e)
  where
    none-some : None ≡ Some turns → ⊥
    none-some e = cc
gives-at polled buf (Some ts) turns e g = subst (λ (t : List Turn). GivesTurns polled buf t) (some-is ts turns e) g

shows-of : (side : Side) (links : Side → Link) (door : Door) (out : Written) (c : Course) → Tells (outside links door) out c → (links side).turns ≡ Some (turns_of side c)
shows-of Client links door out c t = t.client.turns-is
shows-of Host links door out c t = t.host.turns-is

-- what the poll of an up side comes to
pub poll-call : (s : Setting) (side : Side) (links : Side → Link) (door : Door) (out : Written) (c : Course) (polled : Polled) (buf : List ℕ) → Tells (outside links door) out c → is_up side c ≡ true → length buf ≡ POLL_LIMIT
    → IfSome (links side).turns (GivesTurns polled buf) → call s (polls side) c ≡ heard side (behind side) polled (take (taken polled) buf) (passed side c)
poll-call s side links door out c polled buf t up len gives =
    call-poll s side c up ∙ poll-is side (turns_of side c) (behind side) c polled buf len (gives-at polled buf (links side).turns (turns_of side c) (shows-of side links door out c t) gives)

-- ---- a side's link behind a poll

-- the link's turns behind a poll, with all else of it as it was
turned-shows : (old new : Link) (up down : Bool) (turns : List Turn) (written : List ℕ) (len : ℕ) → len ≡ POLL_LIMIT → new.up ≡ down → new.turns ≡ option_map (λ ts. after len (pending ts)) old.turns → new.written ≡ old.written
    → Shows old up turns written → Shows new down (after POLL_LIMIT (pending turns)) written
turned-shows old new up down turns written len is u t w s = record {
  up-is = u;
  turns-is = t ∙ ap (λ (k : Option (List Turn)). option_map (λ ts. after len (pending ts)) k) s.turns-is ∙ ap (λ (n : ℕ). Some (after n (pending turns))) is;
  written-is = w ∙ s.written-is;
}

-- a side's link has become another, and all else stands
pub record OneMoved (side : Side) (links links' : Side → Link) (door door' : Door) : Type 0 where
  pub other-is : links' (other side) ≡ links (other side)
  pub door-is : door' ≡ door

-- no fault was counted
pub moved-no_fault : (side : Side) (links links' : Side → Link) (door door' : Door) (sink : Faults) → OneMoved side links links' door door' → (links' side).faults ≡ (links side).faults → NoFault (outside links door) (outside links' door') sink sink
moved-no_fault Client links links' door door' sink moved same = record { client = same; host = ap (λ (l : Link). l.faults) moved.other-is; sink = refl }
moved-no_fault Host links links' door door' sink moved same = record { client = ap (λ (l : Link). l.faults) moved.other-is; host = same; sink = refl }

-- the course of which the polled side's link is up or not
abbrev pub held_up : Side → Bool → Course → Course
held_up Client b c = record c { client_up = b }
held_up Host b c = record c { host_up = b }

pub passed-tells : (side : Side) (up : Bool) (links links' : Side → Link) (door door' : Door) (out : Written) (c : Course) (len : ℕ) → Tells (outside links door) out c → len ≡ POLL_LIMIT
    → OneMoved side links links' door door' → (links' side).up ≡ up → (links' side).turns ≡ option_map (λ ts. after len (pending ts)) (links side).turns → (links' side).written ≡ (links side).written
    → Tells (outside links' door') out (held_up side up (passed side c))
passed-tells Client up links links' door door' out c len t is moved u turns written = record {
  client = turned-shows (links Client) (links' Client) c.client_up up c.client c.to_client len is u turns written t.client;
  host = subst (λ (l : Link). Shows l c.host_up c.host c.to_host) (sym moved.other-is) t.host;
  clients = ap (λ (d : Door). d.to_come) moved.door-is ∙ t.clients;
  told = t.told;
  tape = t.tape;
}
passed-tells Host up links links' door door' out c len t is moved u turns written = record {
  client = subst (λ (l : Link). Shows l c.client_up c.client c.to_client) (sym moved.other-is) t.client;
  host = turned-shows (links Host) (links' Host) c.host_up up c.host c.to_host len is u turns written t.host;
  clients = ap (λ (d : Door). d.to_come) moved.door-is ∙ t.clients;
  told = t.told;
  tape = t.tape;
}

-- the poll gave nothing that is an event
pub passed-follows : (side : Side) (stands : List PastLinkEvent → Type 0) (p : Prescribed) (k : Rounds) (links links' : Side → Link) (door door' : Door) (out : Written) (c : Course) (len : ℕ) → IsServing stands p k (outside links door) out c → len ≡ POLL_LIMIT
    → OneMoved side links links' door door' → (links' side).up ≡ (links side).up → (links' side).turns ≡ option_map (λ ts. after len (pending ts)) (links side).turns → (links' side).written ≡ (links side).written
    → IsServing stands p k (outside links' door') out (passed side c)
passed-follows Client stands p k links links' door door' out c len f is moved u turns written =
    retold stands p k (outside links door) (outside links' door') out out c (after POLL_LIMIT (pending c.client)) c.host c.recorded c.waiting f
    (passed-tells Client c.client_up links links' door door' out c len f.tells is moved (u ∙ f.tells.client.up-is) turns written)
passed-follows Host stands p k links links' door door' out c len f is moved u turns written =
    retold stands p k (outside links door) (outside links' door') out out c c.client (after POLL_LIMIT (pending c.host)) c.recorded c.waiting f
    (passed-tells Host c.host_up links links' door door' out c len f.tells is moved (u ∙ f.tells.host.up-is) turns written)

-- bytes have come
pub took-follows : (stands : List PastLinkEvent → Type 0) (p : Prescribed) (k k' : Rounds) (w : Outside) (out : Written) (c : Course) (n : ℕ) → IsServing stands p k w out c → k' ≡ record k { busy = true; left = k.left - n }
    → IsServing stands p k' w out (record c { busy = true; left = c.left - n })
took-follows stands p k k' w out c n f kept =
    subst (λ (q : Rounds). IsServing stands p q w out (record c { busy = true; left = c.left - n })) (sym kept) (record {
      stands_for = f.stands_for;
      tells = record { client = f.tells.client; host = f.tells.host; clients = f.tells.clients; told = f.tells.told; tape = f.tells.tape };
      client_up = f.client_up;
      host_up = f.host_up;
      busy = refl;
      waits = f.waits;
      left = ap (λ (m : ℕ). m - n) f.left;
      refused = f.refused;
    })

-- the link has ended
ended-as : (side : Side) (stands : List PastLinkEvent → Type 0) (p : Prescribed) (k : Rounds) (links links' : Side → Link) (door door' : Door) (out : Written) (c : Course) (len : ℕ) → IsServing stands p k (outside links door) out c → len ≡ POLL_LIMIT
    → OneMoved side links links' door door' → (links' side).up ≡ false → (links' side).turns ≡ option_map (λ ts. after len (pending ts)) (links side).turns → (links' side).written ≡ (links side).written
    → IsServing stands p (record (with_down side k) { busy = true }) (outside links' door') out (record (down side (passed side c)) { busy = true })
ended-as Client stands p k links links' door door' out c len f is moved u turns written =
    let t = passed-tells Client false links links' door door' out c len f.tells is moved u turns written in
    record { stands_for = f.stands_for; tells = record { client = t.client; host = t.host; clients = t.clients; told = t.told; tape = t.tape }; client_up = refl; host_up = f.host_up; busy = refl; waits = f.waits; left = f.left; refused = f.refused }
ended-as Host stands p k links links' door door' out c len f is moved u turns written =
    let t = passed-tells Host false links links' door door' out c len f.tells is moved u turns written in
    record { stands_for = f.stands_for; tells = record { client = t.client; host = t.host; clients = t.clients; told = t.told; tape = t.tape }; client_up = f.client_up; host_up = refl; busy = refl; waits = f.waits; left = f.left; refused = f.refused }

pub ended-follows : (side : Side) (stands : List PastLinkEvent → Type 0) (p : Prescribed) (k k' : Rounds) (links links' : Side → Link) (door door' : Door) (out : Written) (c : Course) (len : ℕ) → IsServing stands p k (outside links door) out c → len ≡ POLL_LIMIT
    → OneMoved side links links' door door' → (links' side).up ≡ false → (links' side).turns ≡ option_map (λ ts. after len (pending ts)) (links side).turns → (links' side).written ≡ (links side).written
    → k' ≡ record (with_down side k) { busy = true } → IsServing stands p k' (outside links' door') out (record (down side (passed side c)) { busy = true })
ended-follows side stands p k k' links links' door door' out c len f is moved u turns written kept =
    subst (λ (q : Rounds). IsServing stands p q (outside links' door') out (record (down side (passed side c)) { busy = true })) (sym kept) (ended-as side stands p k links links' door door' out c len f is moved u turns written)

-- ---- a poll that failed

-- a poll's answer moves no other turns, and writes nothing
pub record MovesNothing (c d : Course) : Type 0 where
  pub client : d.client ≡ c.client
  pub host : d.host ≡ c.host
  pub clients : d.clients ≡ c.clients
  pub writes : WroteNothing c d

heard-moves : (side : Side) (next : Next) (polled : Polled) (bytes : List ℕ) (c : Course) → MovesNothing c (course_of (heard side next polled bytes c))
heard-moves side next (Took n) bytes c = record { client = refl; host = refl; clients = refl; writes = record { to_client = refl; to_host = refl; told = refl; recorded = refl } }
heard-moves side next NotYet bytes c = record { client = refl; host = refl; clients = refl; writes = record { to_client = refl; to_host = refl; told = refl; recorded = refl } }
heard-moves Client next Ended bytes c = record { client = refl; host = refl; clients = refl; writes = record { to_client = refl; to_host = refl; told = refl; recorded = refl } }
heard-moves Host next Ended bytes c = record { client = refl; host = refl; clients = refl; writes = record { to_client = refl; to_host = refl; told = refl; recorded = refl } }
heard-moves side next Failed bytes c = record { client = refl; host = refl; clients = refl; writes = record { to_client = refl; to_host = refl; told = refl; recorded = refl } }

failed-turns : (old new : Link) (up : Bool) (turns : List Turn) (written : List ℕ) (behind : List Turn) → Shows old up turns written → PollFails old new → behind ≡ after POLL_LIMIT (pending turns) → IsOneOf turns new.turns behind
failed-turns old new up turns written behind s fails is = go fails.turns
  where
    go : (new.turns ≡ old.turns) ⊎ FailTaken old.turns new.turns → IsOneOf turns new.turns behind
    go (inl same) = inl (same ∙ s.turns-is)
    go (inr t) = inr (t.4 ∙ ap Some (sym (is ∙ ap (λ (ts : List Turn). after POLL_LIMIT (pending ts)) (some-is turns t.0 (sym s.turns-is ∙ t.2)) ∙ ap (λ (ts : List Turn). after POLL_LIMIT ts) t.3)))

pub failed-cut : {ran_out : List PastLinkEvent → PastLinkEvent → List ℕ → List ℕ → Type 0} → (side : Side) (s : Setting) (links links' : Side → Link) (door door' : Door) (out : Written) (c : Course) → Tells (outside links door) out c → is_up side c ≡ true → OneMoved side links links' door door'
    → PollFails (links side) (links' side) → Cut ran_out (outside links' door') out c (course_of (call s (polls side) c))
failed-cut {ran_out = ran_out} Client s links links' door door' out c t up moved fails =
    let m = heard-moves Client AtHost (answer POLL_LIMIT (pending c.client)) (given POLL_LIMIT (pending c.client)) (passed Client c) in
    subst (λ (d : Course). Cut ran_out (outside links' door') out c d) (ap course_of (sym (call-poll s Client c up))) (record {
      client = failed-turns (links Client) (links' Client) c.client_up c.client c.to_client _ t.client fails m.client;
      host = inl (ap (λ (l : Link). l.turns) moved.other-is ∙ t.host.turns-is);
      clients = inl (ap (λ (d : Door). d.to_come) moved.door-is ∙ t.clients);
      to_client = between-same c.to_client _ _ (ap (λ (l : Link). l.written) fails.same ∙ t.client.written-is) m.writes.to_client;
      to_host = between-same c.to_host _ _ (ap (λ (l : Link). l.written) moved.other-is ∙ t.host.written-is) m.writes.to_host;
      told = if-told out.begun (λ (is : out.told ≡ Some c.told). between-same c.told _ _ is m.writes.told) t.told;
      tape = same-recorded ran_out _ _ out c _ out.tape t.tape m.writes.recorded;
    })
failed-cut {ran_out = ran_out} Host s links links' door door' out c t up moved fails =
    let m = heard-moves Host AtEnd (answer POLL_LIMIT (pending c.host)) (given POLL_LIMIT (pending c.host)) (passed Host c) in
    subst (λ (d : Course). Cut ran_out (outside links' door') out c d) (ap course_of (sym (call-poll s Host c up))) (record {
      client = inl (ap (λ (l : Link). l.turns) moved.other-is ∙ t.client.turns-is);
      host = failed-turns (links Host) (links' Host) c.host_up c.host c.to_host _ t.host fails m.host;
      clients = inl (ap (λ (d : Door). d.to_come) moved.door-is ∙ t.clients);
      to_client = between-same c.to_client _ _ (ap (λ (l : Link). l.written) moved.other-is ∙ t.client.written-is) m.writes.to_client;
      to_host = between-same c.to_host _ _ (ap (λ (l : Link). l.written) fails.same ∙ t.host.written-is) m.writes.to_host;
      told = if-told out.begun (λ (is : out.told ≡ Some c.told). between-same c.told _ _ is m.writes.told) t.told;
      tape = same-recorded ran_out _ _ out c _ out.tape t.tape m.writes.recorded;
    })

pub up-is : (side : Side) (stands : List PastLinkEvent → Type 0) (p : Prescribed) (k : Rounds) (w : Outside) (out : Written) (c : Course) (b : Bool) → IsServing stands p k w out c → up_of side k ≡ b → is_up side c ≡ b
up-is Client stands p k w out c b f e = sym f.client_up ∙ e
up-is Host stands p k w out c b f e = sym f.host_up ∙ e

pub call-door : (s : Setting) (c : Course) → c.client_up ≡ false → call s AtDoor c ≡ come c.clients c
call-door s c up = ap (λ (b : Bool). cond b (Goes AtClient c) (come c.clients c)) up
