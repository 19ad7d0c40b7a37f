-- A session's log, as a round asks its questions.
use Rattle.std.proofs.Common.{◌≡◌, ◌⊎◌, ℕ, ◌+◌, ◌-◌, ◌<◌, ◌≤◌, not, Bool, true, false, cond, List, [], ◌∷◌, ◌++◌, take, is_some, Result, Ok, Err, refl, sym, ap, ◌∙◌, subst, inl, inr, arith, append-nil}
use Rattle.std.proofs.lemmas.Bool.{false≢true}
use Rattle.std.specs.Result.{OnOk}
use Rattle.usb_base.specs.declared.side.Side.{Side}
use Rattle.usb_base.specs.declared.side.Side.TheVariants.{Client, Host}
use Rattle.gate_outside.specs.declared.fault.Failed.{Failed as Fault}
use Rattle.gate_outside.specs.declared.turn.Polled.{Polled}
use Rattle.gate_outside.specs.declared.turn.Polled.TheVariants.{Took, NotYet, Ended, Failed}
use Rattle.gate_outside.specs.Calls.{Call, Accept, Poll, written_by, went}
use Rattle.bridge_run.specs.events.Events.{PastLinkEvent, ClientComes, ClientQuiet, SidePiece, SideEnd}
use Rattle.bridge_run.specs.declared.course.rounds.Rounds.{Rounds}
use Rattle.bridge_run.specs.declared.course.serve_end.ServeEnd.{ServeEnd}
use Rattle.bridge_run.specs.declared.course.serve_end.ServeEnd.TheVariants as end
use Rattle.bridge_run.specs.events.Prescribed.{Prescribed, first_of}
use Rattle.bridge_run.specs.written.Ups.{client_at, client_behind, host_at, host_since, told_of, up_by}
use Rattle.bridge_run.specs.log.Asks.{Ask, ForClient, OfSide, asks_of, taken, taken_by, has_just_come, quiet_rounds, is_behind_host}
use Rattle.bridge_run.specs.log.Log.{Terms, events_of, events_before, IsWritten, is_up, is_over, AsksSettled, JustCame, MayBegin, MayAsk, BeginsRound, IsTurnOf, Logged}
use Rattle.bridge_run.specs.inner.Keeping.{up_of, with_down, chances_of, Wears, one_if}
use Rattle.bridge_run.specs.course.Course.{AtClient, AtDoor}
use Rattle.bridge_run.specs.inner.Follows.{behind, polls}
use Rattle.bridge_run.specs.inner.Logging.{IsAt, up_at, IsOn, IsTaking, HappenLogs, IsResting, IsPatient, HasWaited, Waits, DoorTurn, HasTurn, IsAsking, Logs}
use Rattle.bridge_run.proofs.lemmas.log.Log.{front-whole, failed-logs}
use Rattle.bridge_run.proofs.lemmas.log.Resting.{begins-of}

-- ---- whom a round asks

-- where it is asked for a client fewer rounds than may have brought nothing
door-begins : (terms : Terms) (k : Rounds) (asks : List Ask) → IsPatient terms k → Waits AtDoor terms k asks → quiet_rounds asks < terms.idle
door-begins terms k asks patient w = fewer (quiet_rounds asks) terms.idle k.waits (w.1.quiet w.0) patient.waits
  where
    fewer : (q i w : ℕ) → w + q ≡ i + 0 → 0 < w → q < i
    fewer q i w is some = omega arith

-- and so where the client is polled
client-begins : (terms : Terms) (k : Rounds) (asks : List Ask) → IsPatient terms k → Waits AtClient terms k asks → k.client_up ≡ true → quiet_rounds asks < terms.idle
client-begins terms k asks patient w up = go k.busy refl
  where
    fewer : (q i w : ℕ) → w + q ≡ i + 0 → 0 < w → q < i
    fewer q i w is some = omega arith

    none : (q i : ℕ) → q ≡ 0 → 0 < i → q < i
    none q i is some = omega arith

    go : (b : Bool) → k.busy ≡ b → quiet_rounds asks < terms.idle
    go true is = none (quiet_rounds asks) terms.idle (w.busy is) patient.some
    go false is = fewer (quiet_rounds asks) terms.idle k.waits (w.quiet is ∙ ap (λ (u : Bool). terms.idle + one_if (not u)) up) patient.waits

may-begin : (side : Side) (terms : Terms) (k : Rounds) (asks : List Ask) (calls : List Call) → asks_of calls ≡ asks → IsPatient terms k → Waits (polls side) terms k asks → up_of side k ≡ true → MayBegin side terms calls
may-begin Client terms k asks calls is patient w up = subst (λ (l : List Ask). quiet_rounds l < terms.idle) (sym is) (client-begins terms k asks patient w up)
may-begin Host terms k asks calls is patient w up = tt

-- it is the side's turn
turn-of : (side : Side) (terms : Terms) (p : Prescribed) (k : Rounds) (asks : List Ask) (calls : List Call) → k.client_up ≡ client_behind p (events_of calls) → k.host_up ≡ host_since (is_some terms.host) p (events_of calls) → asks_of calls ≡ asks → Waits (polls side) terms k asks → HasTurn (polls side) k asks → up_of side k ≡ true → IsTurnOf side terms p calls
turn-of Client terms p k asks calls client host is waited turn up = go (subst (λ (b : Bool). DoorTurn b k asks) up turn)
  where
    go : (has_just_come asks ≡ true) ⊎ (k.host_up ≡ true → is_behind_host asks ≡ true) → IsTurnOf Client terms p calls
    go (inl came) = inl (ap has_just_come is ∙ came)
    go (inr behind) = inr (begins-of terms p k asks calls host is behind)
turn-of Host terms p k asks calls client host is waited turn up = (ap is_behind_host is ∙ turn, λ just. sym client ∙ gone k.client_up refl (sym (ap has_just_come is) ∙ just))
  where
    gone : (b : Bool) → k.client_up ≡ b → has_just_come asks ≡ true → k.client_up ≡ false
    gone true there just = absurd (false≢true (sym (waited.came there) ∙ just))
    gone false down just = down

-- a side is up as is kept
kept-up : {D : Type 0} → (side : Side) (gives : D → Call → D → Type 0) (stands : List PastLinkEvent → Type 0) (tells : List ℕ → Type 0) (terms : Terms) (p : Prescribed) (asks : List Ask) (k : Rounds) (begun now : D) → (at : IsAt gives stands tells terms p asks k begun now) → is_up side terms p (events_of at.calls) ≡ up_of side k
kept-up Client gives stands tells terms p asks k begun now at = sym at.client_up
kept-up Host gives stands tells terms p asks k begun now at = sym at.host_up

-- a side is polled
pub may-poll : {D : Type 0} → (side : Side) (gives : D → Call → D → Type 0) (stands : List PastLinkEvent → Type 0) (tells : List ℕ → Type 0) (terms : Terms) (p : Prescribed) (k : Rounds) (begun now : D) → up_of side k ≡ true
    → (a : IsAsking (polls side) gives stands tells terms p k begun now) → MayAsk side terms p a.on.at.calls × IsTurnOf side terms p a.on.at.calls × (is_up side terms p (events_of a.on.at.calls) ≡ true)
may-poll side gives stands tells terms p k begun now up a = (record { written = a.on.at.written; goes_on = a.on.goes_on; round = may-begin side terms k a.asks a.on.at.calls a.on.at.asks-are a.patient a.waited up; links = a.on.at.links }, turn-of side terms p k a.asks a.on.at.calls a.on.at.client_up a.on.at.host_up a.on.at.asks-are a.waited a.turn up, kept-up side gives stands tells terms p a.asks k begun now a.on.at ∙ up)

pub may-accept : {D : Type 0} → (gives : D → Call → D → Type 0) (stands : List PastLinkEvent → Type 0) (tells : List ℕ → Type 0) (terms : Terms) (p : Prescribed) (k : Rounds) (begun now : D) → k.client_up ≡ false → (a : IsAsking AtDoor gives stands tells terms p k begun now) → MayAsk Client terms p a.on.at.calls × BeginsRound terms p a.on.at.calls × (is_up Client terms p (events_of a.on.at.calls) ≡ false)
may-accept gives stands tells terms p k begun now down a =
    (record { written = a.on.at.written; goes_on = a.on.goes_on; round = subst (λ (l : List Ask). quiet_rounds l < terms.idle) (sym a.on.at.asks-are) (door-begins terms k a.asks a.patient a.waited); links = a.on.at.links }, begins-of terms p k a.asks a.on.at.calls a.on.at.host_up a.on.at.asks-are a.turn, sym a.on.at.client_up ∙ down)

-- ---- what the doors answered

-- a call that wrote nothing behind these
quiet-written : (terms : Terms) (p : Prescribed) (events : List PastLinkEvent) (calls : List Call) (call : Call) → written_by Client call ≡ [] → written_by Host call ≡ [] → IsWritten terms p events calls → IsWritten terms p events (call ∷ calls)
quiet-written terms p events calls call client host w = record {
  client = ap (λ (l : List ℕ). went Client calls ++ l) client ∙ append-nil (went Client calls) ∙ w.client;
  host = ap (λ (l : List ℕ). went Host calls ++ l) host ∙ append-nil (went Host calls) ∙ w.host;
}

less-left : (b t n l : ℕ) → l ≡ b - t → l - n ≡ b - (t + n)
less-left b t n l is = omega arith

same-left : (b t l : ℕ) → l ≡ b - t → l ≡ b - (t + 0)
same-left b t l is = omega arith

all-left : (b t n l : ℕ) → n ≡ 0 → l ≡ b - t → l ≡ b - (t + n)
all-left b t n l none is = omega arith

some-left : (b t n : ℕ) → n ≡ 0 → t < b → t + n < b
some-left b t n none is = omega arith

-- a call whose answer is an event, which is still to be taken
brings-taking : {D : Type 0} → (gives : D → Call → D → Type 0) (stands : List PastLinkEvent → Type 0) (tells : List ℕ → Type 0) (terms : Terms) (p : Prescribed) (asks : List Ask) (ask : Ask) (call : Call) (e : PastLinkEvent) (k k' : Rounds) (begun d0 d1 : D) → (at : IsAt gives stands tells terms p asks k begun d0) → gives d0 call d1
    → AsksSettled terms p call at.calls → asks_of (call ∷ at.calls) ≡ ask ∷ asks_of at.calls → events_of (call ∷ at.calls) ≡ e ∷ events_of at.calls → events_before (call ∷ at.calls) ≡ events_of at.calls → JustCame (call ∷ at.calls) → IsWritten terms p (events_of at.calls) (call ∷ at.calls)
    → k'.left ≡ terms.budget - taken (ask ∷ asks) → k'.client_up ≡ client_at e (client_behind p (events_of at.calls)) → k'.host_up ≡ host_at e (host_since (is_some terms.host) p (events_of at.calls)) → ((of : Side) → up_by of (call ∷ at.calls) ≡ up_at of terms p e (events_of at.calls)) → k'.refused ≡ k.refused
    → IsTaking gives stands tells terms p (ask ∷ asks) e k' begun d1
brings-taking gives stands tells terms p asks ask call e k k' begun d0 d1 at g may asked brings before came written left client host links refused = record {
  calls = call ∷ at.calls;
  called = (d0, (at.called, g));
  settled = (at.settled, may);
  asks-are = asked ∙ ap (λ (l : List Ask). ask ∷ l) at.asks-are;
  events = events_of at.calls;
  events-are = brings;
  just_came = came;
  stands_for = at.stands_for;
  written = written;
  told = at.told;
  told_before = front-whole (told_of p (events_of at.calls)) _ (ap (told_of p) before);
  left = left;
  client_up = client;
  host_up = host;
  links = links;
  refused = refused ∙ at.refused;
}

-- a call whose answer is no event, and brings nothing
quiet-on : {D : Type 0} → (gives : D → Call → D → Type 0) (stands : List PastLinkEvent → Type 0) (tells : List ℕ → Type 0) (terms : Terms) (p : Prescribed) (asks : List Ask) (ask : Ask) (call : Call) (k : Rounds) (begun d0 d1 : D) → (on : IsOn gives stands tells terms p asks k begun d0) → gives d0 call d1
    → AsksSettled terms p call on.at.calls → written_by Client call ≡ [] → written_by Host call ≡ [] → asks_of (call ∷ on.at.calls) ≡ ask ∷ asks_of on.at.calls → events_of (call ∷ on.at.calls) ≡ events_of on.at.calls → events_before (call ∷ on.at.calls) ≡ events_of on.at.calls → ((of : Side) → up_by of (call ∷ on.at.calls) ≡ up_by of on.at.calls) → taken_by ask ≡ 0
    → IsOn gives stands tells terms p (ask ∷ asks) k begun d1
quiet-on gives stands tells terms p asks ask call k begun d0 d1 on g may client host asked same before links none =
    let at = on.at in
    let same' = sym same in
    record {
      at = record {
        calls = call ∷ at.calls;
        called = (d0, (at.called, g));
        settled = (at.settled, may);
        asks-are = asked ∙ ap (λ (l : List Ask). ask ∷ l) at.asks-are;
        stands_for = subst stands same' at.stands_for;
        written = subst (λ (events : List PastLinkEvent). IsWritten terms p events (call ∷ at.calls)) same' (quiet-written terms p (events_of at.calls) at.calls call client host at.written);
        told = subst (λ (events : List PastLinkEvent). tells (told_of p events)) same' at.told;
        told_before = front-whole (told_of p (events_of (call ∷ at.calls))) _ (ap (told_of p) (before ∙ same'));
        left = all-left terms.budget (taken asks) (taken_by ask) k.left none at.left;
        client_up = at.client_up ∙ ap (client_behind p) same';
        host_up = at.host_up ∙ ap (host_since (is_some terms.host) p) same';
        links = λ of. links of ∙ at.links of ∙ ap (is_up of terms p) same';
        refused = at.refused ∙ ap (λ (events : List PastLinkEvent). first_of (p.refusals events)) same';
      };
      goes_on = record {
        links = subst (λ (events : List PastLinkEvent). is_over terms p events ≡ false) same' on.goes_on.links;
        left = subst (λ (l : List Ask). taken l < terms.budget) (sym asked) (some-left terms.budget (taken (asks_of at.calls)) (taken_by ask) none on.goes_on.left);
      };
    }

-- a poll that isn't the end of its side leaves the links, and so does a door with nobody at it
piece-links : (side of : Side) (n : ℕ) (buf : List ℕ) (terms : Terms) (p : Prescribed) (calls : List Call) → up_by of calls ≡ is_up of terms p (events_of calls) → up_by of (Poll side (Took n) buf ∷ calls) ≡ up_at of terms p (SidePiece side (take n buf)) (events_of calls)
piece-links Client Client n buf terms p calls is = is
piece-links Client Host n buf terms p calls is = is
piece-links Host Client n buf terms p calls is = is
piece-links Host Host n buf terms p calls is = is

rest-links : (side of : Side) (buf : List ℕ) (calls : List Call) → up_by of (Poll side NotYet buf ∷ calls) ≡ up_by of calls
rest-links Client Client buf calls = refl
rest-links Client Host buf calls = refl
rest-links Host Client buf calls = refl
rest-links Host Host buf calls = refl

nobody-links : (of : Side) (calls : List Call) → up_by of (Accept (Ok false) ∷ calls) ≡ up_by of calls
nobody-links Client calls = refl
nobody-links Host calls = refl

quiet-links : (of : Side) (buf : List ℕ) (terms : Terms) (p : Prescribed) (calls : List Call) → up_by of calls ≡ is_up of terms p (events_of calls) → up_by of (Poll Client NotYet buf ∷ calls) ≡ up_at of terms p ClientQuiet (events_of calls)
quiet-links Client buf terms p calls is = is
quiet-links Host buf terms p calls is = is

end-links : (side of : Side) (buf : List ℕ) (terms : Terms) (p : Prescribed) (calls : List Call) → up_by of calls ≡ is_up of terms p (events_of calls) → up_by of (Poll side Ended buf ∷ calls) ≡ up_at of terms p (SideEnd side) (events_of calls)
end-links Client Client buf terms p calls is = refl
end-links Client Host buf terms p calls is = is
end-links Host Client buf terms p calls is = is
end-links Host Host buf terms p calls is = refl

client-links : (of : Side) (terms : Terms) (p : Prescribed) (calls : List Call) → up_by of calls ≡ is_up of terms p (events_of calls) → up_by of (Accept (Ok true) ∷ calls) ≡ up_at of terms p ClientComes (events_of calls)
client-links Client terms p calls is = refl
client-links Host terms p calls is = is

pub took-taking : {D : Type 0} → (gives : D → Call → D → Type 0) (stands : List PastLinkEvent → Type 0) (tells : List ℕ → Type 0) (terms : Terms) (p : Prescribed) (side : Side) (n : ℕ) (buf : List ℕ) (k k' : Rounds) (begun d0 d1 : D) → (a : IsAsking (polls side) gives stands tells terms p k begun d0)
    → up_of side k ≡ true → gives d0 (Poll side (Took n) buf) d1 → k' ≡ record k { busy = true; left = k.left - n } → IsTaking gives stands tells terms p (OfSide side (Took n) ∷ a.asks) (SidePiece side (take n buf)) k' begun d1
took-taking gives stands tells terms p side n buf k k' begun d0 d1 a up g kept =
    let at = a.on.at in
    let events = events_of at.calls in
    brings-taking gives stands tells terms p a.asks (OfSide side (Took n)) (Poll side (Took n) buf) (SidePiece side (take n buf)) k k' begun d0 d1 at g (may-poll side gives stands tells terms p k begun d0 up a) refl refl refl tt
    (quiet-written terms p events at.calls (Poll side (Took n) buf) refl refl at.written) (ap (λ (q : Rounds). q.left) kept ∙ less-left terms.budget (taken a.asks) n k.left at.left)
    (ap (λ (q : Rounds). q.client_up) kept ∙ at.client_up)
    (ap (λ (q : Rounds). q.host_up) kept ∙ at.host_up)
    (λ of. piece-links side of n buf terms p at.calls (at.links of))
    (ap (λ (q : Rounds). q.refused) kept)

pub rest-resting : {D : Type 0} → (gives : D → Call → D → Type 0) (stands : List PastLinkEvent → Type 0) (tells : List ℕ → Type 0) (terms : Terms) (p : Prescribed) (side : Side) (buf : List ℕ) (k : Rounds) (begun d0 d1 : D) → (a : IsAsking (polls side) gives stands tells terms p k begun d0)
    → up_of side k ≡ true → gives d0 (Poll side NotYet buf) d1 → IsResting side gives stands tells terms p (OfSide side NotYet ∷ a.asks) k begun d1
rest-resting gives stands tells terms p Client buf k begun d0 d1 a up g =
    let at = a.on.at in
    brings-taking gives stands tells terms p a.asks (OfSide Client NotYet) (Poll Client NotYet buf) ClientQuiet k k begun d0 d1 at g (may-poll Client gives stands tells terms p k begun d0 up a) refl refl refl tt
    (quiet-written terms p (events_of at.calls) at.calls (Poll Client NotYet buf) refl refl at.written) (same-left terms.budget (taken a.asks) k.left at.left) at.client_up at.host_up (λ of. quiet-links of buf terms p at.calls (at.links of)) refl
rest-resting gives stands tells terms p Host buf k begun d0 d1 a up g =
    quiet-on gives stands tells terms p a.asks (OfSide Host NotYet) (Poll Host NotYet buf) k begun d0 d1 a.on g (may-poll Host gives stands tells terms p k begun d0 up a) refl refl refl refl refl (λ of. rest-links Host of buf a.on.at.calls) refl

-- a side's end takes its link down, and leaves the other's, what may still come, and the first refusal
down-left : (side : Side) (k k' : Rounds) → k' ≡ record (with_down side k) { busy = true } → k'.left ≡ k.left
down-left Client k k' is = ap (λ (q : Rounds). q.left) is
down-left Host k k' is = ap (λ (q : Rounds). q.left) is

down-refused : (side : Side) (k k' : Rounds) → k' ≡ record (with_down side k) { busy = true } → k'.refused ≡ k.refused
down-refused Client k k' is = ap (λ (q : Rounds). q.refused) is
down-refused Host k k' is = ap (λ (q : Rounds). q.refused) is

down-client : (side : Side) (k k' : Rounds) (up : Bool) → k' ≡ record (with_down side k) { busy = true } → k.client_up ≡ up → k'.client_up ≡ client_at (SideEnd side) up
down-client Client k k' up is was = ap (λ (q : Rounds). q.client_up) is
down-client Host k k' up is was = ap (λ (q : Rounds). q.client_up) is ∙ was

down-host : (side : Side) (k k' : Rounds) (up : Bool) → k' ≡ record (with_down side k) { busy = true } → k.host_up ≡ up → k'.host_up ≡ host_at (SideEnd side) up
down-host Client k k' up is was = ap (λ (q : Rounds). q.host_up) is ∙ was
down-host Host k k' up is was = ap (λ (q : Rounds). q.host_up) is

pub end-taking : {D : Type 0} → (gives : D → Call → D → Type 0) (stands : List PastLinkEvent → Type 0) (tells : List ℕ → Type 0) (terms : Terms) (p : Prescribed) (side : Side) (buf : List ℕ) (k k' : Rounds) (begun d0 d1 : D) → (a : IsAsking (polls side) gives stands tells terms p k begun d0)
    → up_of side k ≡ true → gives d0 (Poll side Ended buf) d1 → k' ≡ record (with_down side k) { busy = true } → IsTaking gives stands tells terms p (OfSide side Ended ∷ a.asks) (SideEnd side) k' begun d1
end-taking gives stands tells terms p side buf k k' begun d0 d1 a up g kept =
    let at = a.on.at in
    let events = events_of at.calls in
    brings-taking gives stands tells terms p a.asks (OfSide side Ended) (Poll side Ended buf) (SideEnd side) k k' begun d0 d1 at g (may-poll side gives stands tells terms p k begun d0 up a) refl refl refl tt
    (quiet-written terms p events at.calls (Poll side Ended buf) refl refl at.written) (down-left side k k' kept ∙ same-left terms.budget (taken a.asks) k.left at.left)
    (down-client side k k' (client_behind p events) kept at.client_up) (down-host side k k' (host_since (is_some terms.host) p events) kept at.host_up) (λ of. end-links side of buf terms p at.calls (at.links of)) (down-refused side k k' kept)

pub poll-failed : {D : Type 0} → (gives : D → Call → D → Type 0) (stands : List PastLinkEvent → Type 0) (runs_out : List PastLinkEvent → PastLinkEvent → List ℕ → List ℕ → Type 0) (tells : List ℕ → Type 0) (terms : Terms) (p : Prescribed) (side : Side) (buf : List ℕ) (k : Rounds) (begun d0 d1 : D) → IsAsking (polls side) gives stands tells terms p k begun d0
    → up_of side k ≡ true → gives d0 (Poll side Failed buf) d1 → Logged (end.LinkFault side) gives runs_out tells terms p begun d1
poll-failed gives stands runs_out tells terms p side buf k begun d0 d1 a up g =
    failed-logs gives stands runs_out tells terms p a.asks side (Poll side Failed buf) k begun d0 d1 a.on.at (d0, (a.on.at.called, g)) (a.on.at.settled, may-poll side gives stands tells terms p k begun d0 up a) refl refl
    (quiet-written terms p (events_of a.on.at.calls) a.on.at.calls (Poll side Failed buf) refl refl a.on.at.written) refl

pub came-taking : {D : Type 0} → (gives : D → Call → D → Type 0) (stands : List PastLinkEvent → Type 0) (tells : List ℕ → Type 0) (terms : Terms) (p : Prescribed) (k k' : Rounds) (begun d0 d1 : D) → k.client_up ≡ false → (a : IsAsking AtDoor gives stands tells terms p k begun d0) → gives d0 (Accept (Ok true)) d1
    → k' ≡ record k { client_up = true; busy = true; left = k.left - 1 } → IsTaking gives stands tells terms p (ForClient (Ok true) ∷ a.asks) ClientComes k' begun d1
came-taking gives stands tells terms p k k' begun d0 d1 down a g kept =
    let at = a.on.at in
    brings-taking gives stands tells terms p a.asks (ForClient (Ok true)) (Accept (Ok true)) ClientComes k k' begun d0 d1 at g (may-accept gives stands tells terms p k begun d0 down a) refl refl refl tt
    (quiet-written terms p (events_of at.calls) at.calls (Accept (Ok true)) refl refl at.written) (ap (λ (q : Rounds). q.left) kept ∙ less-left terms.budget (taken a.asks) 1 k.left at.left)
    (ap (λ (q : Rounds). q.client_up) kept) (ap (λ (q : Rounds). q.host_up) kept ∙ at.host_up) (λ of. client-links of terms p at.calls (at.links of)) (ap (λ (q : Rounds). q.refused) kept)

asked-more : (w q i o : ℕ) → w + q ≡ i + 0 → o ≡ 1 → w + (q + 1) ≡ i + o
asked-more w q i o is one = omega arith

pub nobody-at : {D : Type 0} → (gives : D → Call → D → Type 0) (stands : List PastLinkEvent → Type 0) (tells : List ℕ → Type 0) (terms : Terms) (p : Prescribed) (k : Rounds) (begun d0 d1 : D) → IsAsking AtDoor gives stands tells terms p k begun d0 → k.client_up ≡ false → gives d0 (Accept (Ok false)) d1
    → IsAsking AtClient gives stands tells terms p k begun d1
nobody-at gives stands tells terms p k begun d0 d1 a down g = record {
  asks = ForClient (Ok false) ∷ a.asks;
  on = quiet-on gives stands tells terms p a.asks (ForClient (Ok false)) (Accept (Ok false)) k begun d0 d1 a.on g (may-accept gives stands tells terms p k begun d0 down a) refl refl refl refl refl (λ of. nobody-links of a.on.at.calls) refl;
  patient = a.patient;
  waited = record {
    came = λ up. absurd (false≢true (sym down ∙ up));
    busy = λ b. absurd (false≢true (sym a.waited.0 ∙ b));
    quiet = λ f. asked-more k.waits (quiet_rounds a.asks) terms.idle (one_if (not k.client_up)) (a.waited.1.quiet f) (ap (λ (u : Bool). one_if (not u)) down);
  };
  turn = subst (λ (b : Bool). DoorTurn b k (ForClient (Ok false) ∷ a.asks)) (sym down) refl;
}

pub accept-failed : {D : Type 0} → (gives : D → Call → D → Type 0) (stands : List PastLinkEvent → Type 0) (runs_out : List PastLinkEvent → PastLinkEvent → List ℕ → List ℕ → Type 0) (tells : List ℕ → Type 0) (terms : Terms) (p : Prescribed) (failed : Fault) (k : Rounds) (begun d0 d1 : D) → k.client_up ≡ false → IsAsking AtDoor gives stands tells terms p k begun d0
    → gives d0 (Accept (Err failed)) d1 → Logged (end.LinkFault Client) gives runs_out tells terms p begun d1
accept-failed gives stands runs_out tells terms p failed k begun d0 d1 down a g =
    failed-logs gives stands runs_out tells terms p a.asks Client (Accept (Err failed)) k begun d0 d1 a.on.at (d0, (a.on.at.called, g)) (a.on.at.settled, may-accept gives stands tells terms p k begun d0 down a) refl refl
    (quiet-written terms p (events_of a.on.at.calls) a.on.at.calls (Accept (Err failed)) refl refl a.on.at.written) refl

-- ---- behind an answer

-- the client is there, and is polled next
pub there-asking : {D : Type 0} → (gives : D → Call → D → Type 0) (stands : List PastLinkEvent → Type 0) (tells : List ℕ → Type 0) (terms : Terms) (p : Prescribed) (k : Rounds) (begun now : D) → k.client_up ≡ true → IsAsking AtDoor gives stands tells terms p k begun now
    → IsAsking AtClient gives stands tells terms p k begun now
there-asking gives stands tells terms p k begun now there a = record {
  asks = a.asks;
  on = a.on;
  patient = a.patient;
  waited = record {
    came = λ up. a.waited.1.came up ∙ sym a.waited.0;
    busy = λ b. absurd (false≢true (sym a.waited.0 ∙ b));
    quiet = λ f. a.waited.1.quiet f ∙ sym (ap (λ (u : Bool). terms.idle + one_if (not u)) there);
  };
  turn = subst (λ (b : Bool). DoorTurn b k a.asks) (sym there) (inr a.turn);
}

-- the side isn't there, and isn't polled
pub gone-asking : {D : Type 0} → (side : Side) (gives : D → Call → D → Type 0) (stands : List PastLinkEvent → Type 0) (tells : List ℕ → Type 0) (terms : Terms) (p : Prescribed) (k : Rounds) (begun now : D) → up_of side k ≡ false → IsAsking (polls side) gives stands tells terms p k begun now
    → IsAsking (behind side) gives stands tells terms p k begun now
gone-asking Client gives stands tells terms p k begun now down a = record {
  asks = a.asks;
  on = a.on;
  patient = a.patient;
  waited = record {
    came = λ up. absurd (false≢true (sym down ∙ up));
    busy = a.waited.busy;
    quiet = λ f. a.waited.quiet f ∙ ap (λ (u : Bool). terms.idle + one_if (not u)) down;
  };
  turn = subst (λ (b : Bool). DoorTurn b k a.asks) down a.turn;
}
gone-asking Host gives stands tells terms p k begun now down a = record { asks = a.asks; on = a.on; patient = a.patient; waited = a.waited; turn = λ up. absurd (false≢true (sym down ∙ up)) }

-- a side's end leaves how long it waits
pub down-idle : (side : Side) (k k' : Rounds) → k' ≡ record (with_down side k) { busy = true } → k'.idle ≡ k.idle
down-idle Client k k' is = ap (λ (q : Rounds). q.idle) is
down-idle Host k k' is = ap (λ (q : Rounds). q.idle) is

pub down-waits : (side : Side) (k k' : Rounds) → k' ≡ record (with_down side k) { busy = true } → k'.waits ≡ k.waits
down-waits Client k k' is = ap (λ (q : Rounds). q.waits) is
down-waits Host k k' is = ap (λ (q : Rounds). q.waits) is

still-busy : (k k' : Rounds) → k.busy ≡ true → Wears k k' → k'.busy ≡ true
still-busy k k' is w = go w.fewer
  where
    go : (k'.busy ≡ true) × (chances_of k' < chances_of k) ⊎ (k'.busy ≡ k.busy) × (chances_of k' ≤ chances_of k) → k'.busy ≡ true
    go (inl x) = x.0
    go (inr x) = x.0 ∙ is

worn-patient : (terms : Terms) (k k1 k2 : Rounds) → IsPatient terms k → k1.idle ≡ k.idle → k1.waits ≡ k.waits → Wears k1 k2 → IsPatient terms k2
worn-patient terms k k1 k2 patient idle waits w = record { idle = w.idle ∙ idle ∙ patient.idle; some = patient.some; waits = subst (λ (n : ℕ). 0 < n) (sym (w.waits ∙ waits)) patient.waits; within = subst (λ (n : ℕ). n ≤ terms.idle) (sym (w.waits ∙ waits)) patient.within }

waits-behind : (side : Side) (terms : Terms) (k : Rounds) (asks : List Ask) → HasWaited true false terms k asks → Waits (behind side) terms k asks
waits-behind Client terms k asks w = w
waits-behind Host terms k asks w = w

asked-turn : (side : Side) (polled : Polled) (k : Rounds) (asks : List Ask) → HasTurn (behind side) k (OfSide side polled ∷ asks)
asked-turn Client polled k asks = refl
asked-turn Host polled k asks = λ up. refl

came-turn : (b : Bool) (k : Rounds) (asks : List Ask) → DoorTurn b k (ForClient (Ok true) ∷ asks)
came-turn true k asks = inl refl
came-turn false k asks = refl

-- something has come of a side
pub came-logs : {D : Type 0} → (result : Result (Unit {0}) ServeEnd) (gives : D → Call → D → Type 0) (stands : List PastLinkEvent → Type 0) (runs_out : List PastLinkEvent → PastLinkEvent → List ℕ → List ℕ → Type 0) (tells : List ℕ → Type 0) (terms : Terms) (p : Prescribed) (side : Side) (polled : Polled) (asks : List Ask) (k k1 k2 : Rounds) (begun now : D)
    → HappenLogs result gives stands runs_out tells terms p (OfSide side polled ∷ asks) k2 begun now → quiet_rounds (OfSide side polled ∷ asks) ≡ 0 → IsPatient terms k → k1.busy ≡ true → k1.idle ≡ k.idle → k1.waits ≡ k.waits → Wears k1 k2
    → Logs result (behind side) gives stands runs_out tells terms p k2 begun now
came-logs (Ok x) gives stands runs_out tells terms p side polled asks k k1 k2 begun now h none patient busy idle waits w = record {
  asks = OfSide side polled ∷ asks;
  on = h;
  patient = worn-patient terms k k1 k2 patient idle waits w;
  waited = waits-behind side terms k2 (OfSide side polled ∷ asks) (record { came = λ up. refl; busy = λ b. none; quiet = λ f. absurd (false≢true (sym f ∙ still-busy k1 k2 busy w)) });
  turn = asked-turn side polled k2 asks;
}
came-logs (Err e) gives stands runs_out tells terms p side polled asks k k1 k2 begun now h none patient busy idle waits w = h

-- a client has come
pub client-logs : {D : Type 0} → (result : Result (Unit {0}) ServeEnd) (gives : D → Call → D → Type 0) (stands : List PastLinkEvent → Type 0) (runs_out : List PastLinkEvent → PastLinkEvent → List ℕ → List ℕ → Type 0) (tells : List ℕ → Type 0) (terms : Terms) (p : Prescribed) (asks : List Ask) (k k1 k2 : Rounds) (begun now : D)
    → HappenLogs result gives stands runs_out tells terms p (ForClient (Ok true) ∷ asks) k2 begun now → IsPatient terms k → k1.busy ≡ true → k1.idle ≡ k.idle → k1.waits ≡ k.waits → Wears k1 k2
    → Logs result AtClient gives stands runs_out tells terms p k2 begun now
client-logs (Ok x) gives stands runs_out tells terms p asks k k1 k2 begun now h patient busy idle waits w = record {
  asks = ForClient (Ok true) ∷ asks;
  on = h;
  patient = worn-patient terms k k1 k2 patient idle waits w;
  waited = record { came = λ up. sym (still-busy k1 k2 busy w); busy = λ b. refl; quiet = λ f. absurd (false≢true (sym f ∙ still-busy k1 k2 busy w)) };
  turn = came-turn k2.client_up k2 asks;
}
client-logs (Err e) gives stands runs_out tells terms p asks k k1 k2 begun now h patient busy idle waits w = h

-- a side had nothing
quiet-waited : (side : Side) (terms : Terms) (k : Rounds) (asks : List Ask) → Waits (polls side) terms k asks → up_of side k ≡ true → HasWaited true false terms k (OfSide side NotYet ∷ asks)
quiet-waited Client terms k asks w up = record {
  came = λ there. refl;
  busy = λ b. ap (λ (j : Bool). cond j (quiet_rounds asks) (quiet_rounds asks + 1)) (w.came up ∙ b) ∙ w.busy b;
  quiet = λ f. ap (λ (j : Bool). k.waits + cond j (quiet_rounds asks) (quiet_rounds asks + 1)) (w.came up ∙ f)
      ∙ asked-more k.waits (quiet_rounds asks) terms.idle 1 (w.quiet f ∙ ap (λ (u : Bool). terms.idle + one_if (not u)) up) refl;
}
quiet-waited Host terms k asks w up = record { came = λ there. refl; busy = w.busy; quiet = w.quiet }

pub quiet-logs : {D : Type 0} → (result : Result (Unit {0}) ServeEnd) (gives : D → Call → D → Type 0) (stands : List PastLinkEvent → Type 0) (runs_out : List PastLinkEvent → PastLinkEvent → List ℕ → List ℕ → Type 0) (tells : List ℕ → Type 0) (terms : Terms) (p : Prescribed) (side : Side) (asks : List Ask) (k k1 : Rounds) (begun now : D)
    → HappenLogs result gives stands runs_out tells terms p (OfSide side NotYet ∷ asks) k1 begun now → IsPatient terms k → Waits (polls side) terms k asks → up_of side k ≡ true → OnOk result (k1 ≡ k)
    → Logs result (behind side) gives stands runs_out tells terms p k1 begun now
quiet-logs (Ok x) gives stands runs_out tells terms p side asks k k1 begun now h patient w up same = record {
  asks = OfSide side NotYet ∷ asks;
  on = h;
  patient = subst (λ (q : Rounds). IsPatient terms q) (sym same) patient;
  waited = waits-behind side terms k1 (OfSide side NotYet ∷ asks) (subst (λ (q : Rounds). HasWaited true false terms q (OfSide side NotYet ∷ asks)) (sym same) (quiet-waited side terms k asks w up));
  turn = asked-turn side NotYet k1 asks;
}
quiet-logs (Err e) gives stands runs_out tells terms p side asks k k1 begun now h patient w up same = h
