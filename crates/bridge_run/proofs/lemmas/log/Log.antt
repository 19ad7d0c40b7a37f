-- A session's log, as an event is taken.
use Rattle.std.specs.Option.{option_or}
use Rattle.std.proofs.Common.{◌≡◌, ℕ, ◌-◌, ◌<◌, ◌≤◌, ◌&&◌, ◌||◌, not, Bool, true, false, cond, inl, List, [], ◌∷◌, ◌++◌, Option, Some, is_some, Result, Ok, Err, refl, sym, ap, ◌∙◌, subst, arith, append-nil, append_assoc}
use Rattle.std.specs.Result.{IsErrAnd}
use Rattle.std.proofs.Math.Bool.{and-false}
use Rattle.usb_base.specs.Writes.{Begins}
use Rattle.usb_base.specs.declared.side.Side.{Side}
use Rattle.usb_base.specs.declared.side.Side.TheVariants.{Client, Host}
use Rattle.usb_base.specs.declared.refusal.Refusal.{Refusal}
use Rattle.gate_outside.specs.Calls.{Call, Close, Called, went}
use Rattle.bridge_run.specs.events.Events.{PastLinkEvent, ClientComes, SidePiece, ClientQuiet, SideEnd}
use Rattle.bridge_run.specs.declared.course.rounds.Rounds.{Rounds}
use Rattle.bridge_run.specs.declared.events.sent.Sent.{Sent}
use Rattle.bridge_run.specs.declared.course.serve_end.ServeEnd.{ServeEnd}
use Rattle.bridge_run.specs.declared.course.serve_end.ServeEnd.TheVariants as end
use Rattle.bridge_run.specs.events.Prescribed.{Prescribed, gained, refuses, drops, first_of}
use Rattle.bridge_run.specs.course.Calls.{ends_next}
use Rattle.bridge_run.specs.written.Recorded.{written_if}
use Rattle.bridge_run.specs.written.Ups.{client_at, client_behind, host_at, host_since, to_clients, sent_to_host, told_of, up_by}
use Rattle.bridge_run.specs.log.Asks.{Ask, asks_of, taken, last_fault}
use Rattle.bridge_run.specs.log.Log.{Terms, events_of, events_before, behind_call, IsWritten, IsWrittenInPart, InPart, is_up, is_over, Settled, JustCame, WroteInPart, HasEnded, Logged}
use Rattle.bridge_run.specs.inner.Follows.{Prepared}
use Rattle.bridge_run.specs.inner.Keeping.{refusing, Settles, is_over as none_up}
use Rattle.bridge_run.specs.inner.Logging.{IsAt, up_at, IsTaking, HasTaken, IsBehind, PutLogs, HappenLogs, WroteMore, FailedBehind, closing}
use Rattle.bridge_run.proofs.lemmas.log.Sink.{front-more, told-all, part-more, part-least}
use Rattle.bridge_run.proofs.lemmas.written.Put.{dropped-is, first_of-append}
use Rattle.bridge_run.proofs.lemmas.log.Writing.{went-closing, settled-closing, client-closing, host-closing, events-closing, before-closing, asks-closing, just-host}

-- ---- an event is taken

-- all is written that these events send, by these calls, behind which nothing was asked
pub record HasSent (terms : Terms) (p : Prescribed) (asks : List Ask) (calls : List Call) (e : PastLinkEvent) (events : List PastLinkEvent) : Type 0 where
  pub asks-are : asks_of calls ≡ asks
  pub settled : Settled terms p calls
  pub events-are : events_of calls ≡ e ∷ events
  pub just_came : JustCame calls
  pub links : (of : Side) → up_by of calls ≡ up_at of terms p e events
  pub written : IsWritten terms p (e ∷ events) calls
  pub told_before : Begins (told_of p (events_before calls)) (told_of p events)

-- so it is behind calls that brought nothing more
pub before-same : (p : Prescribed) (events : List PastLinkEvent) (calls calls' : List Call) → events_before calls' ≡ events_before calls → Begins (told_of p (events_before calls)) (told_of p events) → Begins (told_of p (events_before calls')) (told_of p events)
before-same p events calls calls' is before = subst (λ (es : List PastLinkEvent). Begins (told_of p es) (told_of p events)) (sym is) before

sent-closing : (r : Bool) (of : Side) (terms : Terms) (p : Prescribed) (calls : List Call) (events : List PastLinkEvent) → IsWritten terms p events calls → IsWritten terms p events (closing r of calls)
sent-closing r of terms p calls events w = record { client = went-closing r of Client calls ∙ w.client; host = went-closing r of Host calls ∙ w.host }

has-sent : {D : Type 0} → (gives : D → Call → D → Type 0) (stands : List PastLinkEvent → Type 0) (tells : List ℕ → Type 0) (terms : Terms) (p : Prescribed) (asks : List Ask) (e : PastLinkEvent) (k k1 : Rounds) (sent : Sent) (lines : List ℕ) (begun d0 d1 d2 : D)
    → (t : IsTaking gives stands tells terms p asks e k begun d0) → Prepared p t.events e sent lines → k1 ≡ k
    → (w1 : WroteMore gives Client (written_if k1.client_up sent.to_client) t.calls begun d1) → (w2 : WroteMore gives Host (written_if k1.host_up sent.to_host) w1.behind begun d2)
    → HasSent terms p asks w2.behind e t.events
has-sent gives stands tells terms p asks e k k1 sent lines begun d0 d1 d2 t prepared same w1 w2 = record {
  asks-are = w2.asks-are ∙ w1.asks-are ∙ t.asks-are;
  settled = w2.settled terms p (w1.settled terms p t.settled);
  events-are = w2.events-are ∙ w1.events-are ∙ t.events-are;
  just_came = w2.just_came (w1.just_came t.just_came);
  links = λ of. w2.links of ∙ w1.links of ∙ t.links of;
  told_before = before-same p t.events t.calls w2.behind (w2.before-are ∙ w1.before-are) t.told_before;
  written = record {
    client = w2.other-is ∙ w1.side-is ∙ ap (λ (l : List ℕ). l ++ written_if k1.client_up sent.to_client) t.written.client
        ∙ ap (λ (u : Bool). to_clients p t.events ++ written_if u sent.to_client) (ap (λ (q : Rounds). q.client_up) same ∙ t.client_up)
        ∙ ap (λ (b : List ℕ). to_clients p t.events ++ written_if (client_at e (client_behind p t.events)) b) prepared.client;
    host = w2.side-is ∙ ap (λ (l : List ℕ). l ++ written_if k1.host_up sent.to_host) (w1.other-is ∙ t.written.host)
        ∙ ap (λ (u : Bool). sent_to_host (is_some terms.host) p t.events ++ written_if u sent.to_host) (ap (λ (q : Rounds). q.host_up) same ∙ t.host_up)
        ∙ ap (λ (b : List ℕ). sent_to_host (is_some terms.host) p t.events ++ written_if (host_at e (host_since (is_some terms.host) p t.events)) b) prepared.host;
  };
}

ends-none : (e : PastLinkEvent) → ends_next e false ≡ false
ends-none ClientComes = refl
ends-none ClientQuiet = refl
ends-none (SidePiece side b) = refl
ends-none (SideEnd Client) = refl
ends-none (SideEnd Host) = refl

over-of : (terms : Terms) (p : Prescribed) (e : PastLinkEvent) (events es : List PastLinkEvent) (k : Rounds) → es ≡ e ∷ events → k.client_up ≡ client_behind p (e ∷ events) → k.host_up ≡ host_since (is_some terms.host) p (e ∷ events)
    → is_over terms p es ≡ none_up k
over-of terms p e events es k is client host = ap (is_over terms p) is ∙ ap (λ (u : Bool). not u && not (host_since (is_some terms.host) p (e ∷ events))) (sym client) ∙ ap (λ (u : Bool). not k.client_up && not u) (sym host)

-- what is the same behind the calls for an event
pub record TakenBy (stands : List PastLinkEvent → Type 0) (tells : List ℕ → Type 0) (terms : Terms) (p : Prescribed) (asks : List Ask) (k : Rounds) (events : List PastLinkEvent) : Type 0 where
  pub stands_for : stands events
  pub told : tells (told_of p events)
  pub left : k.left ≡ terms.budget - taken asks
  pub client_up : k.client_up ≡ client_behind p events
  pub host_up : k.host_up ≡ host_since (is_some terms.host) p events
  pub refused : k.refused ≡ first_of (p.refusals events)

-- an event was taken, by these calls
has-taken : {D : Type 0} → (gives : D → Call → D → Type 0) (stands : List PastLinkEvent → Type 0) (tells : List ℕ → Type 0) (terms : Terms) (p : Prescribed) (asks : List Ask) (k : Rounds) (begun now : D) (calls : List Call) (e : PastLinkEvent) (events : List PastLinkEvent) → events_of calls ≡ e ∷ events
    → JustCame calls → Called gives calls begun now → Settled terms p calls → asks_of calls ≡ asks → ((of : Side) → up_by of calls ≡ is_up of terms p (e ∷ events)) → IsWritten terms p (e ∷ events) calls → Begins (told_of p (events_before calls)) (told_of p (e ∷ events)) → TakenBy stands tells terms p asks k (e ∷ events) → HasTaken gives stands tells terms p asks k begun now
has-taken gives stands tells terms p asks k begun now calls e events is just called settled asked links w before t = record {
  at = record {
    calls = calls;
    called = called;
    settled = settled;
    asks-are = asked;
    stands_for = subst stands (sym is) t.stands_for;
    written = subst (λ (es : List PastLinkEvent). IsWritten terms p es calls) (sym is) w;
    told = subst (λ (es : List PastLinkEvent). tells (told_of p es)) (sym is) t.told;
    told_before = subst (λ (es : List PastLinkEvent). Begins (told_of p (events_before calls)) (told_of p es)) (sym is) before;
    left = t.left;
    client_up = t.client_up ∙ ap (client_behind p) (sym is);
    host_up = t.host_up ∙ ap (host_since (is_some terms.host) p) (sym is);
    links = λ of. links of ∙ ap (is_up of terms p) (sym is);
    refused = t.refused ∙ ap (λ (es : List PastLinkEvent). first_of (p.refusals es)) (sym is);
  };
  just_came = just;
  over = over-of terms p e events (events_of calls) k is t.client_up t.host_up;
}

host-down : (terms : Terms) (p : Prescribed) (e : PastLinkEvent) (events : List PastLinkEvent) (refused : Bool) → refused ≡ refuses Host (gained p.refusals events e) → refused ≡ true → is_up Host terms p (e ∷ events) ≡ false
host-down terms p e events refused is down = ap (λ (r : Bool). host_at e (host_since (is_some terms.host) p events) && not r) (sym is ∙ down) ∙ and-false (host_at e (host_since (is_some terms.host) p events))

-- which links are up behind the closing of those that the event takes down
links-behind : (terms : Terms) (p : Prescribed) (e : PastLinkEvent) (events : List PastLinkEvent) (calls : List Call) (refused dropped : Bool) (of : Side) → dropped ≡ drops p events e → refused ≡ refuses Host (gained p.refusals events e) → up_by of calls ≡ up_at of terms p e events
    → up_by of (closing refused Host (closing dropped Client calls)) ≡ is_up of terms p (e ∷ events)
links-behind terms p e events calls refused dropped Client drop refuse is = client-closing refused dropped calls ∙ ap (λ (u : Bool). u && not dropped) is ∙ ap (λ (d : Bool). client_at e (client_behind p events) && not d) drop
links-behind terms p e events calls refused dropped Host drop refuse is = host-closing refused dropped calls ∙ ap (λ (u : Bool). u && not refused) is ∙ ap (λ (r : Bool). host_at e (host_since (is_some terms.host) p events) && not r) refuse

-- behind the end of the client the host's link is as before
host-behind-end : (u : Bool) (terms : Terms) (p : Prescribed) (es : List PastLinkEvent) → u ≡ false → (u && not (refuses Host (gained p.refusals es (SideEnd Client)))) ≡ false
host-behind-end u terms p es down = ap (λ (v : Bool). v && not (refuses Host (gained p.refusals es (SideEnd Client)))) down

-- the host's link is down behind what closes the client's, too
host-closed : (terms : Terms) (p : Prescribed) (e : PastLinkEvent) (events : List PastLinkEvent) → is_up Host terms p (e ∷ events) ≡ false → is_up Host terms p (behind_call (Close Client) (e ∷ events)) ≡ false
host-closed terms p e events down = go (ends_next e true)
  where
    go : (b : Bool) → is_up Host terms p (cond b (SideEnd Client ∷ e ∷ events) (e ∷ events)) ≡ false
    go true = host-behind-end (is_up Host terms p (e ∷ events)) terms p (e ∷ events) down
    go false = down

client-down : (p : Prescribed) (e : PastLinkEvent) (events : List PastLinkEvent) (dropped : Bool) → dropped ≡ drops p events e → dropped ≡ true → client_behind p (e ∷ events) ≡ false
client-down p e events dropped is down = ap (λ (d : Bool). client_at e (client_behind p events) && not d) (sym is ∙ down) ∙ and-false (client_at e (client_behind p events))

-- the calls behind the closing of the links that the event takes down
abbrev closed-behind : Bool → Bool → List Call → List Call
closed-behind refused dropped calls = closing refused Host (closing dropped Client calls)

closed-settled : (terms : Terms) (p : Prescribed) (asks : List Ask) (e : PastLinkEvent) (events : List PastLinkEvent) (calls : List Call) (refused dropped : Bool) → HasSent terms p asks calls e events → dropped ≡ drops p events e → refused ≡ refuses Host (gained p.refusals events e)
    → Settled terms p (closed-behind refused dropped calls)
closed-settled terms p asks e events calls refused false h drop refuse = settled-closing refused Host terms p calls (λ r. ap (is_up Host terms p) h.events-are ∙ host-down terms p e events refused refuse r) h.settled
closed-settled terms p asks e events calls refused true h drop refuse =
    settled-closing refused Host terms p (closing true Client calls) (λ r. ap (λ (es : List PastLinkEvent). is_up Host terms p (behind_call (Close Client) es)) h.events-are ∙ host-closed terms p e events (host-down terms p e events refused refuse r))
    (settled-closing true Client terms p calls (λ r. ap (client_behind p) h.events-are ∙ client-down p e events true drop refl) h.settled)

closed-events : (refused dropped : Bool) (calls : List Call) (e : PastLinkEvent) (events : List PastLinkEvent) → events_of calls ≡ e ∷ events → events_of (closed-behind refused dropped calls) ≡ cond (dropped && ends_next e true) (SideEnd Client ∷ e ∷ events) (e ∷ events)
closed-events refused false calls e events is = events-closing refused calls ∙ is
closed-events refused true calls e events is = events-closing refused (closing true Client calls) ∙ ap (behind_call (Close Client)) is

closed-just : (refused dropped : Bool) (calls : List Call) → JustCame calls → JustCame (closed-behind refused dropped calls)
closed-just refused false calls j = just-host refused calls j
closed-just refused true calls j = just-host refused (closing true Client calls) tt

closed-asks : (refused dropped : Bool) (calls : List Call) → asks_of (closed-behind refused dropped calls) ≡ asks_of calls
closed-asks refused dropped calls = asks-closing refused Host (closing dropped Client calls) ∙ asks-closing dropped Client calls

closed-before : (refused dropped : Bool) (calls : List Call) → events_before (closed-behind refused dropped calls) ≡ events_before calls
closed-before refused dropped calls = before-closing refused Host (closing dropped Client calls) ∙ before-closing dropped Client calls

closed-written : (refused dropped : Bool) (terms : Terms) (p : Prescribed) (calls : List Call) (events : List PastLinkEvent) → IsWritten terms p events calls → IsWritten terms p events (closed-behind refused dropped calls)
closed-written refused dropped terms p calls events w = sent-closing refused Host terms p (closing dropped Client calls) events (sent-closing dropped Client terms p calls events w)

put-behind : {D : Type 0} → (gives : D → Call → D → Type 0) (stands : List PastLinkEvent → Type 0) (tells : List ℕ → Type 0) (terms : Terms) (p : Prescribed) (asks : List Ask) (e : PastLinkEvent) (events : List PastLinkEvent) (k : Rounds) (begun now : D) (calls : List Call) (refused dropped : Bool)
    → HasSent terms p asks calls e events → Called gives (closed-behind refused dropped calls) begun now → TakenBy stands tells terms p asks k (e ∷ events)
    → (dropped ≡ true → k.client_up ≡ false) → dropped ≡ drops p events e → refused ≡ refuses Host (gained p.refusals events e) → IsBehind (ends_next e dropped) gives stands tells terms p asks k begun now
put-behind gives stands tells terms p asks e events k begun now calls refused dropped h called t down drop refuse = go dropped refl
  where
    all : List Call
    all = closed-behind refused dropped calls

    settled : Settled terms p all
    settled = closed-settled terms p asks e events calls refused dropped h drop refuse

    asked : asks_of all ≡ asks
    asked = closed-asks refused dropped calls ∙ h.asks-are

    written : IsWritten terms p (e ∷ events) all
    written = closed-written refused dropped terms p calls (e ∷ events) h.written

    behind : events_of all ≡ cond (dropped && ends_next e true) (SideEnd Client ∷ e ∷ events) (e ∷ events)
    behind = closed-events refused dropped calls e events h.events-are

    just : JustCame all
    just = closed-just refused dropped calls h.just_came

    links : (of : Side) → up_by of all ≡ is_up of terms p (e ∷ events)
    links of = links-behind terms p e events calls refused dropped of drop refuse (h.links of)

    before : Begins (told_of p (events_before all)) (told_of p (e ∷ events))
    before = front-more (told_of p (events_before all)) (told_of p events) _ (before-same p events calls all (closed-before refused dropped calls) h.told_before)

    taken : (dropped && ends_next e true) ≡ false → HasTaken gives stands tells terms p asks k begun now
    taken none = has-taken gives stands tells terms p asks k begun now all e events (behind ∙ ap (λ (b : Bool). cond b (SideEnd Client ∷ e ∷ events) (e ∷ events)) none) just called settled asked links written before t

    ended : dropped ≡ true → (of : Side) → up_by of all ≡ up_at of terms p (SideEnd Client) (e ∷ events)
    ended is Client = client-closing refused dropped calls ∙ ap (λ (d : Bool). up_by Client calls && not d) is ∙ and-false (up_by Client calls)
    ended is Host = links Host

    ends : dropped ≡ true → (b : Bool) → ends_next e true ≡ b → IsBehind (ends_next e true) gives stands tells terms p asks k begun now
    ends is true next = subst (λ (b : Bool). IsBehind b gives stands tells terms p asks k begun now) (sym next) (record {
      calls = all;
      called = called;
      settled = settled;
      asks-are = asked;
      events = e ∷ events;
      just_came = just;
      events-are = behind ∙ ap (λ (b : Bool). cond (b && ends_next e true) (SideEnd Client ∷ e ∷ events) (e ∷ events)) is ∙ ap (λ (b : Bool). cond b (SideEnd Client ∷ e ∷ events) (e ∷ events)) next;
      stands_for = t.stands_for;
      written = written;
      told = t.told;
      told_before = before;
      left = t.left;
      client_up = down is;
      host_up = t.host_up;
      links = ended is;
      refused = t.refused;
    })
    ends is false next = subst (λ (b : Bool). IsBehind b gives stands tells terms p asks k begun now) (sym next) (taken (ap (λ (b : Bool). b && ends_next e true) is ∙ next))

    go : (d : Bool) → dropped ≡ d → IsBehind (ends_next e dropped) gives stands tells terms p asks k begun now
    go false is = subst (λ (b : Bool). IsBehind b gives stands tells terms p asks k begun now) (sym (ap (ends_next e) is ∙ ends-none e)) (taken (ap (λ (b : Bool). b && ends_next e true) is))
    go true is = subst (λ (d : Bool). IsBehind (ends_next e d) gives stands tells terms p asks k begun now) (sym is) (ends is (ends_next e true) refl)

-- the links that are up behind it
client-kept : (p : Prescribed) (e : PastLinkEvent) (events : List PastLinkEvent) (k k' : Rounds) (sent : Sent) (lines : List ℕ) → Prepared p events e sent lines → k' ≡ refusing sent.refusals sent.lets_go k
    → k.client_up ≡ client_at e (client_behind p events) → k'.client_up ≡ client_behind p (e ∷ events)
client-kept p e events k k' sent lines prepared kept up =
    ap (λ (q : Rounds). q.client_up) kept ∙ ap (λ (u : Bool). u && not (refuses Client sent.refusals || sent.lets_go)) up ∙ ap (λ (d : Bool). client_at e (client_behind p events) && not d) (dropped-is p events e sent lines prepared)

host-kept : (terms : Terms) (p : Prescribed) (e : PastLinkEvent) (events : List PastLinkEvent) (k k' : Rounds) (sent : Sent) (lines : List ℕ) → Prepared p events e sent lines → k' ≡ refusing sent.refusals sent.lets_go k
    → k.host_up ≡ host_at e (host_since (is_some terms.host) p events) → k'.host_up ≡ host_since (is_some terms.host) p (e ∷ events)
host-kept terms p e events k k' sent lines prepared kept up =
    ap (λ (q : Rounds). q.host_up) kept ∙ ap (λ (u : Bool). u && not (refuses Host sent.refusals)) up ∙ ap (λ (rs : List Refusal). host_at e (host_since (is_some terms.host) p events) && not (refuses Host rs)) prepared.refusals

dropped-down : (k k' : Rounds) (sent : Sent) (dropped : Bool) → k' ≡ refusing sent.refusals sent.lets_go k → dropped ≡ (refuses Client sent.refusals || sent.lets_go) → dropped ≡ true → k'.client_up ≡ false
dropped-down k k' sent dropped kept is down = ap (λ (q : Rounds). q.client_up) kept ∙ ap (λ (d : Bool). k.client_up && not d) (sym is ∙ down) ∙ and-false k.client_up

-- the first refusal of all
refused-kept : (p : Prescribed) (e : PastLinkEvent) (events : List PastLinkEvent) (k k' : Rounds) (sent : Sent) (lines : List ℕ) → Prepared p events e sent lines → k' ≡ refusing sent.refusals sent.lets_go k
    → k.refused ≡ first_of (p.refusals events) → k'.refused ≡ first_of (p.refusals (e ∷ events))
refused-kept p e events k k' sent lines prepared kept is =
    ap (λ (q : Rounds). q.refused) kept ∙ ap (λ (r : Option Refusal). option_or r (first_of sent.refusals)) is ∙ ap (λ (rs : List Refusal). option_or (first_of (p.refusals events)) (first_of rs)) prepared.refusals
    ∙ sym (first_of-append (p.refusals events) (gained p.refusals events e)) ∙ ap first_of (sym prepared.grows)

-- all is sent, each side that is refused is closed, and a client that is let go
pub behind-sent : {D : Type 0} → (gives : D → Call → D → Type 0) (stands stands' : List PastLinkEvent → Type 0) (before tells : List ℕ → Type 0) (terms : Terms) (p : Prescribed) (asks : List Ask) (e : PastLinkEvent) (k k1 k2 : Rounds) (sent : Sent) (lines : List ℕ) (begun d0 d1 d2 now : D) (dropped refused : Bool)
    → (t : IsTaking gives stands before terms p asks e k begun d0) → Prepared p t.events e sent lines → k1 ≡ k → (w1 : WroteMore gives Client (written_if k1.client_up sent.to_client) t.calls begun d1) → (w2 : WroteMore gives Host (written_if k1.host_up sent.to_host) w1.behind begun d2)
    → Called gives (closed-behind refused dropped w2.behind) begun now → k2 ≡ refusing sent.refusals sent.lets_go k1 → dropped ≡ (refuses Client sent.refusals || sent.lets_go) → refused ≡ refuses Host sent.refusals → stands' (e ∷ t.events) → tells (told_of p (e ∷ t.events))
    → IsBehind (ends_next e dropped) gives stands' tells terms p asks k2 begun now
behind-sent gives stands stands' before tells terms p asks e k k1 k2 sent lines begun d0 d1 d2 now dropped refused t prepared same w1 w2 called new drop refuse now_stands told =
    let kept = new ∙ ap (refusing sent.refusals sent.lets_go) same in
    put-behind gives stands' tells terms p asks e t.events k2 begun now w2.behind refused dropped (has-sent gives stands before terms p asks e k k1 sent lines begun d0 d1 d2 t prepared same w1 w2) called
    (record {
      stands_for = now_stands;
      told = told;
      left = ap (λ (q : Rounds). q.left) kept ∙ t.left;
      client_up = client-kept p e t.events k k2 sent lines prepared kept t.client_up;
      host_up = host-kept terms p e t.events k k2 sent lines prepared kept t.host_up;
      refused = refused-kept p e t.events k k2 sent lines prepared kept t.refused;
    })
    (dropped-down k k2 sent dropped kept drop) (drop ∙ dropped-is p t.events e sent lines prepared) (refuse ∙ ap (refuses Host) prepared.refusals)

-- ---- in part

pub front-whole : (all written : List ℕ) → written ≡ all → Begins written all
front-whole all written is = record { more = []; is = sym is ∙ sym (append-nil written) }

pub front-of-more : (all more written : List ℕ) → written ≡ all → Begins written (all ++ more)
front-of-more all more written is = record { more = more; is = ap (λ (l : List ℕ). l ++ more) (sym is) }

whole-part : (terms : Terms) (p : Prescribed) (events : List PastLinkEvent) (calls : List Call) → IsWritten terms p events calls → IsWrittenInPart terms p events calls
whole-part terms p events calls w = record { client = front-whole _ _ w.client; host = front-whole _ _ w.host }

-- all is written, and the last call failed
pub failed-logs : {D : Type 0} → (gives : D → Call → D → Type 0) (stands : List PastLinkEvent → Type 0) (runs_out : List PastLinkEvent → PastLinkEvent → List ℕ → List ℕ → Type 0) (tells : List ℕ → Type 0) (terms : Terms) (p : Prescribed) (asks : List Ask) (side : Side) (call : Call) (k : Rounds) (begun d0 d1 : D)
    → (a : IsAt gives stands tells terms p asks k begun d0) → Called gives (call ∷ a.calls) begun d1 → Settled terms p (call ∷ a.calls) → events_of (call ∷ a.calls) ≡ events_of a.calls → events_before (call ∷ a.calls) ≡ events_of a.calls → IsWritten terms p (events_of a.calls) (call ∷ a.calls) → last_fault (call ∷ a.calls) ≡ Some side
    → Logged (end.LinkFault side) gives runs_out tells terms p begun d1
failed-logs gives stands runs_out tells terms p asks side call k begun d0 d1 a called settled same before w failed = record {
  calls = call ∷ a.calls;
  called = called;
  settled = settled;
  written = subst (λ (es : List PastLinkEvent). WroteInPart tells terms p es (call ∷ a.calls)) (sym same) (record { links = whole-part terms p (events_of a.calls) (call ∷ a.calls) w; told = told-all tells (told_of p (events_before (call ∷ a.calls))) (told_of p (events_of a.calls)) (front-whole (told_of p (events_of a.calls)) _ (ap (told_of p) before)) a.told });
  ended = failed;
}

-- all is written, but for lines to the tape
pub lines-fault : {D : Type 0} → (gives : D → Call → D → Type 0) (stands : List PastLinkEvent → Type 0) (runs_out : List PastLinkEvent → PastLinkEvent → List ℕ → List ℕ → Type 0) (tells : List ℕ → Type 0) (terms : Terms) (p : Prescribed) (asks : List Ask) (k : Rounds) (begun now : D) → (a : IsAt gives stands tells terms p asks k begun now) → HasEnded end.WriteFault terms p a.calls
    → Logged end.WriteFault gives runs_out tells terms p begun now
lines-fault gives stands runs_out tells terms p asks k begun now a ended = record {
  calls = a.calls;
  called = a.called;
  settled = a.settled;
  written = record { links = whole-part terms p (events_of a.calls) a.calls a.written; told = told-all tells (told_of p (events_before a.calls)) (told_of p (events_of a.calls)) a.told_before a.told };
  ended = ended;
}

-- of the last event nothing is sent yet
pub taking-fault : {D : Type 0} → (gives : D → Call → D → Type 0) (stands : List PastLinkEvent → Type 0) (runs_out : List PastLinkEvent → PastLinkEvent → List ℕ → List ℕ → Type 0) (tells : List ℕ → Type 0) (terms : Terms) (p : Prescribed) (asks : List Ask) (e : PastLinkEvent) (k : Rounds) (begun now : D)
    → IsTaking gives stands tells terms p asks e k begun now → Logged end.WriteFault gives runs_out tells terms p begun now
taking-fault gives stands runs_out tells terms p asks e k begun now t = record {
  calls = t.calls;
  called = t.called;
  settled = t.settled;
  written = subst (λ (es : List PastLinkEvent). WroteInPart tells terms p es t.calls) (sym t.events-are) (record {
    links = record {
      client = front-of-more (to_clients p t.events) _ (went Client t.calls) t.written.client;
      host = front-of-more (sent_to_host (is_some terms.host) p t.events) _ (went Host t.calls) t.written.host;
    };
    told = part-more tells (told_of p (events_before t.calls)) (told_of p t.events) _ (told-all tells (told_of p (events_before t.calls)) (told_of p t.events) t.told_before t.told);
  });
  ended = inl t.just_came;
}

-- the links were closed, and a front of the event's lines was told
closed-part : (terms : Terms) (p : Prescribed) (tells : List ℕ → Type 0) (e : PastLinkEvent) (events : List PastLinkEvent) (all : List Call) (b : Bool) → IsWritten terms p (e ∷ events) all → InPart tells (told_of p (events_before all)) (told_of p (e ∷ events))
    → WroteInPart tells terms p (cond b (SideEnd Client ∷ e ∷ events) (e ∷ events)) all
closed-part terms p tells e events all true w told = record {
  links = record { client = front-of-more (to_clients p (e ∷ events)) _ (went Client all) w.client; host = front-of-more (sent_to_host (is_some terms.host) p (e ∷ events)) _ (went Host all) w.host };
  told = part-more tells (told_of p (events_before all)) (told_of p (e ∷ events)) _ told;
}
closed-part terms p tells e events all false w told = record { links = whole-part terms p (e ∷ events) all w; told = told }

pub lines-part : {D : Type 0} → (gives : D → Call → D → Type 0) (stands : List PastLinkEvent → Type 0) (runs_out : List PastLinkEvent → PastLinkEvent → List ℕ → List ℕ → Type 0) (before tells : List ℕ → Type 0) (terms : Terms) (p : Prescribed) (asks : List Ask) (e : PastLinkEvent) (k k1 : Rounds) (sent : Sent) (lines : List ℕ) (begun d0 d1 d2 now : D) (dropped refused : Bool)
    → (t : IsTaking gives stands before terms p asks e k begun d0) → Prepared p t.events e sent lines → k1 ≡ k → (w1 : WroteMore gives Client (written_if k1.client_up sent.to_client) t.calls begun d1) → (w2 : WroteMore gives Host (written_if k1.host_up sent.to_host) w1.behind begun d2)
    → Called gives (closed-behind refused dropped w2.behind) begun now → dropped ≡ (refuses Client sent.refusals || sent.lets_go) → refused ≡ refuses Host sent.refusals → InPart tells (told_of p t.events) (told_of p (e ∷ t.events))
    → Logged end.WriteFault gives runs_out tells terms p begun now
lines-part gives stands runs_out before tells terms p asks e k k1 sent lines begun d0 d1 d2 now dropped refused t prepared same w1 w2 called drop refuse told =
    let h = has-sent gives stands before terms p asks e k k1 sent lines begun d0 d1 d2 t prepared same w1 w2 in
    let all = closed-behind refused dropped w2.behind in
    record {
      calls = all;
      called = called;
      settled = closed-settled terms p asks e t.events w2.behind refused dropped h (drop ∙ dropped-is p t.events e sent lines prepared) (refuse ∙ ap (refuses Host) prepared.refusals);
      written = subst (λ (es : List PastLinkEvent). WroteInPart tells terms p es all) (sym (closed-events refused dropped w2.behind e t.events h.events-are))
          (closed-part terms p tells e t.events all (dropped && ends_next e true) (closed-written refused dropped terms p w2.behind (e ∷ t.events) h.written)
          (part-least tells (told_of p (events_before all)) (told_of p t.events) (told_of p (e ∷ t.events)) (before-same p t.events w2.behind all (closed-before refused dropped w2.behind) h.told_before) told));
      ended = inl (closed-just refused dropped w2.behind h.just_came);
    }

-- a front of what it sends was written to a side that is up
pub front-in : (all front back more written : List ℕ) → written ≡ all ++ front → more ≡ front ++ back → Begins written (all ++ more)
front-in all front back more written is parts = record { more = back; is = ap (λ (l : List ℕ). all ++ l) parts ∙ sym (append_assoc all front back) ∙ ap (λ (l : List ℕ). l ++ back) (sym is) }

pub client-part : {D : Type 0} {gives : D → Call → D → Type 0} {stands : List PastLinkEvent → Type 0} {runs_out : List PastLinkEvent → PastLinkEvent → List ℕ → List ℕ → Type 0} {tells : List ℕ → Type 0} {terms : Terms} {p : Prescribed} {asks : List Ask} {e : PastLinkEvent} {k k1 : Rounds} {sent : Sent} {lines bytes : List ℕ} {begun d0 d1 : D}
    → (t : IsTaking gives stands tells terms p asks e k begun d0) → Prepared p t.events e sent lines → k1 ≡ k → bytes ≡ sent.to_client
    → FailedBehind gives Client k1.client_up bytes t.calls begun d1 → Logged (end.LinkFault Client) gives runs_out tells terms p begun d1
client-part {tells = tells} {terms = terms} {p = p} {e = e} t prepared same is f = record {
  calls = f.wrote.behind;
  called = f.wrote.called;
  settled = f.wrote.settled terms p t.settled;
  written = subst (λ (es : List PastLinkEvent). WroteInPart tells terms p es f.wrote.behind) (sym (f.wrote.events-are ∙ t.events-are)) (record {
    links = record {
      client = front-in (to_clients p t.events) f.front f.back _ (went Client f.wrote.behind) (f.wrote.side-is ∙ ap (λ (l : List ℕ). l ++ f.front) t.written.client)
          (ap (λ (u : Bool). cond u (gained p.to_client t.events e) []) (sym (ap (λ (q : Rounds). q.client_up) same ∙ t.client_up) ∙ f.is_up) ∙ sym prepared.client ∙ sym is ∙ f.parts);
      host = front-of-more (sent_to_host (is_some terms.host) p t.events) _ (went Host f.wrote.behind) (f.wrote.other-is ∙ t.written.host);
    };
    told = part-more tells (told_of p (events_before f.wrote.behind)) (told_of p t.events) _ (told-all tells (told_of p (events_before f.wrote.behind)) (told_of p t.events) (before-same p t.events t.calls f.wrote.behind f.wrote.before-are t.told_before) t.told);
  });
  ended = f.failed;
}

pub host-part : {D : Type 0} {gives : D → Call → D → Type 0} {stands : List PastLinkEvent → Type 0} {runs_out : List PastLinkEvent → PastLinkEvent → List ℕ → List ℕ → Type 0} {tells : List ℕ → Type 0} {terms : Terms} {p : Prescribed} {asks : List Ask} {e : PastLinkEvent} {k k1 : Rounds} {sent : Sent} {lines bytes : List ℕ} {begun d0 d1 d2 : D}
    → (t : IsTaking gives stands tells terms p asks e k begun d0) → Prepared p t.events e sent lines → k1 ≡ k → bytes ≡ sent.to_host
    → (w1 : WroteMore gives Client (written_if k1.client_up sent.to_client) t.calls begun d1) → FailedBehind gives Host k1.host_up bytes w1.behind begun d2 → Logged (end.LinkFault Host) gives runs_out tells terms p begun d2
host-part {tells = tells} {terms = terms} {p = p} {e = e} {k1 = k1} {sent = sent} t prepared same is w1 f = record {
  calls = f.wrote.behind;
  called = f.wrote.called;
  settled = f.wrote.settled terms p (w1.settled terms p t.settled);
  written = subst (λ (es : List PastLinkEvent). WroteInPart tells terms p es f.wrote.behind) (sym (f.wrote.events-are ∙ w1.events-are ∙ t.events-are)) (record {
    links = record {
      client = front-whole (to_clients p (e ∷ t.events)) (went Client f.wrote.behind) (
          f.wrote.other-is ∙ w1.side-is ∙ ap (λ (l : List ℕ). l ++ written_if k1.client_up sent.to_client) t.written.client
          ∙ ap (λ (u : Bool). to_clients p t.events ++ written_if u sent.to_client) (ap (λ (q : Rounds). q.client_up) same ∙ t.client_up)
          ∙ ap (λ (b : List ℕ). to_clients p t.events ++ written_if (client_at e (client_behind p t.events)) b) prepared.client
          );
      host = front-in (sent_to_host (is_some terms.host) p t.events) f.front f.back _ (went Host f.wrote.behind) (f.wrote.side-is ∙ ap (λ (l : List ℕ). l ++ f.front) (w1.other-is ∙ t.written.host))
          (ap (λ (u : Bool). cond u (gained p.to_host t.events e) []) (sym (ap (λ (q : Rounds). q.host_up) same ∙ t.host_up) ∙ f.is_up) ∙ sym prepared.host ∙ sym is ∙ f.parts);
    };
    told = part-more tells (told_of p (events_before f.wrote.behind)) (told_of p t.events) _ (told-all tells (told_of p (events_before f.wrote.behind)) (told_of p t.events) (before-same p t.events t.calls f.wrote.behind (f.wrote.before-are ∙ w1.before-are) t.told_before) t.told);
  });
  ended = f.failed;
}

-- ---- ends

some-left : (b t l : ℕ) → l ≡ b - t → 0 < l → t < b
some-left b t l is some = omega arith

none-left : (b t l : ℕ) → l ≡ b - t → l ≡ 0 → b ≤ t
none-left b t l is none = omega arith

-- an error that a `?` hands on
pub put-err : {D : Type 0} → (Q : ServeEnd → Type 0) (result : Result Bool ServeEnd) (gives : D → Call → D → Type 0) (stands : List PastLinkEvent → Type 0) (runs_out : List PastLinkEvent → PastLinkEvent → List ℕ → List ℕ → Type 0) (tells : List ℕ → Type 0) (terms : Terms) (p : Prescribed) (asks : List Ask) (e : PastLinkEvent) (k : Rounds) (begun now : D) → IsErrAnd result Q
    → ((x : ServeEnd) → Q x → Logged x gives runs_out tells terms p begun now) → PutLogs result gives stands runs_out tells terms p asks e k begun now
put-err Q (Ok x) gives stands runs_out tells terms p asks e k begun now is logs = absurd is
put-err Q (Err x) gives stands runs_out tells terms p asks e k begun now is logs = logs x is

pub settled-logs : {D : Type 0} → (result : Result (Unit {0}) ServeEnd) (gives : D → Call → D → Type 0) (stands : List PastLinkEvent → Type 0) (runs_out : List PastLinkEvent → PastLinkEvent → List ℕ → List ℕ → Type 0) (tells : List ℕ → Type 0) (terms : Terms) (p : Prescribed) (asks : List Ask) (k : Rounds) (begun now : D) → Settles result k
    → HasTaken gives stands tells terms p asks k begun now → HappenLogs result gives stands runs_out tells terms p asks k begun now
settled-logs (Ok x) gives stands runs_out tells terms p asks k begun now s h = record {
  at = h.at;
  goes_on = record { links = h.over ∙ s.0; left = subst (λ (l : List Ask). taken l < terms.budget) (sym h.at.asks-are) (some-left terms.budget (taken asks) k.left h.at.left s.1) };
}
settled-logs (Err (end.Ended refused)) gives stands runs_out tells terms p asks k begun now s h = record {
  calls = h.at.calls;
  called = h.at.called;
  settled = h.at.settled;
  written = record { links = h.at.written; told = h.at.told };
  ended = (h.over ∙ s.0, s.1 ∙ h.at.refused);
}
settled-logs (Err end.Spent) gives stands runs_out tells terms p asks k begun now s h = record {
  calls = h.at.calls;
  called = h.at.called;
  settled = h.at.settled;
  written = record { links = h.at.written; told = h.at.told };
  ended = (h.over ∙ s.0, subst (λ (l : List Ask). terms.budget ≤ taken l) (sym h.at.asks-are) (none-left terms.budget (taken asks) k.left h.at.left s.1));
}
settled-logs (Err (end.LinkFault side)) gives stands runs_out tells terms p asks k begun now s h = absurd s
settled-logs (Err end.WriteFault) gives stands runs_out tells terms p asks k begun now s h = absurd s
settled-logs (Err end.Idle) gives stands runs_out tells terms p asks k begun now s h = absurd s
settled-logs (Err end.Memory) gives stands runs_out tells terms p asks k begun now s h = absurd s
