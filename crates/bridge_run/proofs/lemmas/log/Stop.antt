-- A session's log, as memory runs out.
use Rattle.std.proofs.Common.{◌≡◌, ◌⊎◌, ℕ, ◌||◌, not, Bool, true, false, cond, List, [], ◌∷◌, ◌++◌, is_some, Err, refl, sym, ap, ◌∙◌, subst, inl, inr, append-nil, append_assoc}
use Rattle.std.proofs.lemmas.Bool.{false≢true, or_parts, or_left}
use Rattle.usb_base.specs.Writes.{Begins}
use Rattle.usb_base.specs.declared.side.Side.TheVariants.{Client, Host}
use Rattle.usb_base.specs.declared.refusal.Refusal.{Refusal}
use Rattle.usb_base.specs.Lists.{is_empty}
use Rattle.gate_outside.specs.Calls.{Call, went}
use Rattle.session_tape.specs.Tapes.{Counts}
use Rattle.bridge_run.specs.events.Events.{PastLinkEvent}
use Rattle.bridge_run.specs.declared.course.rounds.Rounds.{Rounds}
use Rattle.bridge_run.specs.declared.events.sent.Sent.{Sent}
use Rattle.bridge_run.specs.declared.course.serve_end.ServeEnd.{ServeEnd}
use Rattle.bridge_run.specs.declared.course.serve_end.ServeEnd.TheVariants as end
use Rattle.bridge_run.specs.events.Prescribed.{Prescribed, gained}
use Rattle.bridge_run.specs.written.Recorded.{written_if}
use Rattle.bridge_run.specs.written.Ups.{client_at, client_behind, host_at, host_since, to_clients, sent_to_host, told_of}
use Rattle.bridge_run.specs.log.Asks.{Ask}
use Rattle.bridge_run.specs.events.RanOut.{Untold, is_recorded, RanOut}
use Rattle.bridge_run.specs.log.Log.{Terms, events_before, JustCame, WroteInPart, HasWritten, HasEnded, Logged}
use Rattle.bridge_run.specs.inner.Follows.{Prepared}
use Rattle.bridge_run.specs.inner.Logging.{IsTaking, WroteMore, FailedBehind}
use Rattle.bridge_run.specs.inner.Recording.{TapeFaults}
use Rattle.bridge_run.specs.served.Sends.{IsPart}
use Rattle.bridge_run.specs.inner.Stopping.{IsStopping, HasStopped, StopFailed, StopLogs}
use Rattle.bridge_run.proofs.lemmas.log.Log.{before-same, taking-fault, front-whole, front-of-more, front-in}
use Rattle.bridge_run.proofs.lemmas.log.Sink.{told-all, part-more}

has-none : (xs : List ℕ) → not (is_empty xs) ≡ false → xs ≡ []
has-none [] is = refl
has-none (x ∷ xs) is = absurd (false≢true (sym is))

unsent : (u : Bool) (all written bytes : List ℕ) → written ≡ all → bytes ≡ [] → written ≡ all ++ cond u bytes []
unsent true all written bytes is none = is ∙ sym (append-nil all) ∙ ap (λ (l : List ℕ). all ++ l) (sym none)
unsent false all written bytes is none = is ∙ sym (append-nil all)

-- what was sent of it says where memory ran out
why : (runs_out : List PastLinkEvent → PastLinkEvent → List ℕ → List ℕ → Type 0) (taped : Bool) (p : Prescribed) (events : List PastLinkEvent) (e : PastLinkEvent) (client host : List ℕ) → runs_out events e client host ⊎ Untold p events e client host → RanOut runs_out taped p events e client host
why runs_out taped p events e client host (inl is) = inl is
why runs_out taped p events e client host (inr is) = inr (inl is)

-- ---- before an event is taken

pub stopping : {D : Type 0} → (gives : D → Call → D → Type 0) (stands : List PastLinkEvent → Type 0) (tells : List ℕ → Type 0) (terms : Terms) (p : Prescribed) (asks : List Ask) (e : PastLinkEvent) (k k1 : Rounds) (begun now : D) → k1 ≡ k → (t : IsTaking gives stands tells terms p asks e k begun now)
    → IsStopping gives terms p e t.events k1 begun now
stopping gives stands tells terms p asks e k k1 begun now same t = record {
  calls = t.calls;
  called = t.called;
  settled = t.settled;
  events-are = t.events-are;
  just_came = t.just_came;
  written = t.written;
  told_before = t.told_before;
  client_up = ap (λ (q : Rounds). q.client_up) same ∙ t.client_up;
  host_up = ap (λ (q : Rounds). q.host_up) same ∙ t.host_up;
}

-- nothing is written of it
none-written : {D : Type 0} → (gives : D → Call → D → Type 0) (runs_out : List PastLinkEvent → PastLinkEvent → List ℕ → List ℕ → Type 0) (terms : Terms) (p : Prescribed) (e : PastLinkEvent) (events : List PastLinkEvent) (k : Rounds) (client host : List ℕ) (begun now : D) → client ≡ [] → host ≡ []
    → RanOut runs_out terms.taped p events e client host → IsStopping gives terms p e events k begun now → HasStopped gives runs_out terms p e events begun now
none-written gives runs_out terms p e events k client host begun now none-client none-host why s = record {
  calls = s.calls;
  called = s.called;
  settled = s.settled;
  events-are = s.events-are;
  just_came = s.just_came;
  to_client = client;
  to_host = host;
  ran_out = why;
  client = unsent (client_at e (client_behind p events)) (to_clients p events) (went Client s.calls) client s.written.client none-client;
  host = unsent (host_at e (host_since (is_some terms.host) p events)) (sent_to_host (is_some terms.host) p events) (went Host s.calls) host s.written.host none-host;
}

pub stop-none : {D : Type 0} → (gives : D → Call → D → Type 0) (runs_out : List PastLinkEvent → PastLinkEvent → List ℕ → List ℕ → Type 0) (terms : Terms) (p : Prescribed) (e : PastLinkEvent) (events : List PastLinkEvent) (k : Rounds) (client host : List ℕ) (begun now : D) → (not (is_empty client) || not (is_empty host)) ≡ false
    → IsPart runs_out p events e client host → IsStopping gives terms p e events k begun now → HasStopped gives runs_out terms p e events begun now
stop-none gives runs_out terms p e events k client host begun now none part s =
    none-written gives runs_out terms p e events k client host begun now (has-none client (or_parts (not (is_empty client)) (not (is_empty host)) none).0) (has-none host (or_parts (not (is_empty client)) (not (is_empty host)) none).1)
    (why runs_out terms.taped p events e client host part.ran_out) s

-- its line couldn't be recorded
stop-failed : {D : Type 0} → (gives : D → Call → D → Type 0) (terms : Terms) (p : Prescribed) (e : PastLinkEvent) (events : List PastLinkEvent) (k : Rounds) (begun now : D) → IsStopping gives terms p e events k begun now → StopFailed gives terms p e events begun now
stop-failed gives terms p e events k begun now s = record {
  calls = s.calls;
  called = s.called;
  settled = s.settled;
  events-are = s.events-are;
  just_came = s.just_came;
  written = record {
    client = front-of-more (to_clients p events) _ (went Client s.calls) s.written.client;
    host = front-of-more (sent_to_host (is_some terms.host) p events) _ (went Host s.calls) s.written.host;
  };
  told_before = s.told_before;
}

pub stop-tape : {D : Type 0} → (x : ServeEnd) (old new : Counts) (gives : D → Call → D → Type 0) (runs_out : List PastLinkEvent → PastLinkEvent → List ℕ → List ℕ → Type 0) (terms : Terms) (p : Prescribed) (e : PastLinkEvent) (events : List PastLinkEvent) (k : Rounds) (made : Bool) (refusals : List Refusal) (begun now : D)
    → TapeFaults {T = Unit {0}} (Err x) old new → (x ≡ end.Memory → (made ≡ true) × ((is_recorded e || not (is_empty refusals)) ≡ true)) → refusals ≡ [] → terms.taped ≡ made → IsStopping gives terms p e events k begun now
    → StopLogs x gives runs_out terms p e events begun now
stop-tape (end.Ended refused) old new gives runs_out terms p e events k made refusals begun now is wants none taped s = absurd is
stop-tape end.Idle old new gives runs_out terms p e events k made refusals begun now is wants none taped s = absurd is
stop-tape end.Spent old new gives runs_out terms p e events k made refusals begun now is wants none taped s = absurd is
stop-tape (end.LinkFault side) old new gives runs_out terms p e events k made refusals begun now is wants none taped s = absurd is
stop-tape end.WriteFault old new gives runs_out terms p e events k made refusals begun now is wants none taped s = stop-failed gives terms p e events k begun now s
stop-tape end.Memory old new gives runs_out terms p e events k made refusals begun now is wants none taped s =
    none-written gives runs_out terms p e events k [] [] begun now refl refl
    (inr (inr (record {
      is_taped = taped ∙ (wants refl).0;
      has_lines = or_left (is_recorded e) (not (is_empty (gained p.refusals events e))) (alone (is_recorded e) (ap (λ (rs : List Refusal). is_recorded e || not (is_empty rs)) (sym none) ∙ (wants refl).1));
      client-is = refl;
      host-is = refl;
    }))) s
  where
    alone : (a : Bool) → (a || false) ≡ true → a ≡ true
    alone true is = refl
    alone false is = is

-- ---- what it sent is written

-- a front of what went to the client
pub stop-client : {D : Type 0} → (gives : D → Call → D → Type 0) (runs_out : List PastLinkEvent → PastLinkEvent → List ℕ → List ℕ → Type 0) (terms : Terms) (p : Prescribed) (e : PastLinkEvent) (events : List PastLinkEvent) (k : Rounds) (client host bytes : List ℕ) (begun d0 d1 : D)
    → IsPart runs_out p events e client host → (s : IsStopping gives terms p e events k begun d0) → bytes ≡ client → FailedBehind gives Client k.client_up bytes s.calls begun d1 → StopLogs (end.LinkFault Client) gives runs_out terms p e events begun d1
stop-client gives runs_out terms p e events k client host bytes begun d0 d1 part s is f = record {
  part = record {
    calls = f.wrote.behind;
    called = f.wrote.called;
    settled = f.wrote.settled terms p s.settled;
    events-are = f.wrote.events-are ∙ s.events-are;
    just_came = f.wrote.just_came s.just_came;
    written = record {
      client = front-in (to_clients p events) f.front (f.back ++ part.to_client.more) _ (went Client f.wrote.behind) (f.wrote.side-is ∙ ap (λ (l : List ℕ). l ++ f.front) s.written.client)
          (ap (λ (u : Bool). cond u (gained p.to_client events e) []) (sym s.client_up ∙ f.is_up) ∙ part.to_client.is ∙ ap (λ (l : List ℕ). l ++ part.to_client.more) (sym is ∙ f.parts) ∙ append_assoc f.front f.back part.to_client.more);
      host = front-of-more (sent_to_host (is_some terms.host) p events) _ (went Host f.wrote.behind) (f.wrote.other-is ∙ s.written.host);
    };
    told_before = before-same p events s.calls f.wrote.behind f.wrote.before-are s.told_before;
  };
  failed = f.failed;
}

sent-in : (u v : Bool) (all written bytes client : List ℕ) → written ≡ all ++ written_if v bytes → v ≡ u → bytes ≡ client → written ≡ all ++ cond u client []
sent-in u v all written bytes client is same alike = is ∙ ap (λ (y : Bool). all ++ written_if y bytes) same ∙ ap (λ (l : List ℕ). all ++ written_if u l) alike

longer-front : (u : Bool) (all written client more rest : List ℕ) → written ≡ all ++ cond u client [] → more ≡ client ++ rest → Begins written (all ++ cond u more [])
longer-front true all written client more rest is alike = record { more = rest; is = ap (λ (l : List ℕ). all ++ l) alike ∙ sym (append_assoc all client rest) ∙ ap (λ (l : List ℕ). l ++ rest) (sym is) }
longer-front false all written client more rest is alike = front-whole (all ++ []) written is

-- all of that, and a front of what went to the host
pub stop-host : {D : Type 0} → (gives : D → Call → D → Type 0) (runs_out : List PastLinkEvent → PastLinkEvent → List ℕ → List ℕ → Type 0) (terms : Terms) (p : Prescribed) (e : PastLinkEvent) (events : List PastLinkEvent) (k : Rounds) (client host bytes1 bytes2 : List ℕ) (begun d0 d1 d2 : D)
    → IsPart runs_out p events e client host → (s : IsStopping gives terms p e events k begun d0) → bytes1 ≡ client → bytes2 ≡ host → (w1 : WroteMore gives Client (written_if k.client_up bytes1) s.calls begun d1) → FailedBehind gives Host k.host_up bytes2 w1.behind begun d2
    → StopLogs (end.LinkFault Host) gives runs_out terms p e events begun d2
stop-host gives runs_out terms p e events k client host bytes1 bytes2 begun d0 d1 d2 part s is1 is2 w1 f = record {
  part = record {
    calls = f.wrote.behind;
    called = f.wrote.called;
    settled = f.wrote.settled terms p (w1.settled terms p s.settled);
    events-are = f.wrote.events-are ∙ w1.events-are ∙ s.events-are;
    just_came = f.wrote.just_came (w1.just_came s.just_came);
    written = record {
      client = longer-front (client_at e (client_behind p events)) (to_clients p events) (went Client f.wrote.behind) client (gained p.to_client events e) part.to_client.more
          (sent-in (client_at e (client_behind p events)) k.client_up (to_clients p events) (went Client f.wrote.behind) bytes1 client (f.wrote.other-is ∙ w1.side-is ∙ ap (λ (l : List ℕ). l ++ written_if k.client_up bytes1) s.written.client) s.client_up is1) part.to_client.is;
      host = front-in (sent_to_host (is_some terms.host) p events) f.front (f.back ++ part.to_host.more) _ (went Host f.wrote.behind) (f.wrote.side-is ∙ ap (λ (l : List ℕ). l ++ f.front) (w1.other-is ∙ s.written.host))
          (ap (λ (u : Bool). cond u (gained p.to_host events e) []) (sym s.host_up ∙ f.is_up) ∙ part.to_host.is ∙ ap (λ (l : List ℕ). l ++ part.to_host.more) (sym is2 ∙ f.parts) ∙ append_assoc f.front f.back part.to_host.more);
    };
    told_before = before-same p events s.calls f.wrote.behind (f.wrote.before-are ∙ w1.before-are) s.told_before;
  };
  failed = f.failed;
}

-- all of both
pub stop-all : {D : Type 0} → (gives : D → Call → D → Type 0) (runs_out : List PastLinkEvent → PastLinkEvent → List ℕ → List ℕ → Type 0) (terms : Terms) (p : Prescribed) (e : PastLinkEvent) (events : List PastLinkEvent) (k : Rounds) (client host bytes1 bytes2 : List ℕ) (begun d0 d1 d2 : D)
    → IsPart runs_out p events e client host → (s : IsStopping gives terms p e events k begun d0) → bytes1 ≡ client → bytes2 ≡ host → (w1 : WroteMore gives Client (written_if k.client_up bytes1) s.calls begun d1) → (w2 : WroteMore gives Host (written_if k.host_up bytes2) w1.behind begun d2)
    → HasStopped gives runs_out terms p e events begun d2
stop-all gives runs_out terms p e events k client host bytes1 bytes2 begun d0 d1 d2 part s is1 is2 w1 w2 = record {
  calls = w2.behind;
  called = w2.called;
  settled = w2.settled terms p (w1.settled terms p s.settled);
  events-are = w2.events-are ∙ w1.events-are ∙ s.events-are;
  just_came = w2.just_came (w1.just_came s.just_came);
  to_client = client;
  to_host = host;
  ran_out = why runs_out terms.taped p events e client host part.ran_out;
  client = sent-in (client_at e (client_behind p events)) k.client_up (to_clients p events) (went Client w2.behind) bytes1 client (w2.other-is ∙ w1.side-is ∙ ap (λ (l : List ℕ). l ++ written_if k.client_up bytes1) s.written.client) s.client_up is1;
  host = sent-in (host_at e (host_since (is_some terms.host) p events)) k.host_up (sent_to_host (is_some terms.host) p events) (went Host w2.behind) bytes2 host
      (w2.side-is ∙ ap (λ (l : List ℕ). l ++ written_if k.host_up bytes2) (w1.other-is ∙ s.written.host)) s.host_up is2;
}

-- ---- the end

came-or-none : (terms : Terms) (p : Prescribed) (calls : List Call) → JustCame calls → HasEnded end.Memory terms p calls
came-or-none terms p [] j = tt
came-or-none terms p (call ∷ calls) j = j

pub stop-logs : {D : Type 0} → (x : ServeEnd) (gives : D → Call → D → Type 0) (runs_out : List PastLinkEvent → PastLinkEvent → List ℕ → List ℕ → Type 0) (tells : List ℕ → Type 0) (terms : Terms) (p : Prescribed) (e : PastLinkEvent) (events : List PastLinkEvent) (begun now : D) → tells (told_of p events)
    → StopLogs x gives runs_out terms p e events begun now → Logged x gives runs_out tells terms p begun now
stop-logs (end.Ended refused) gives runs_out tells terms p e events begun now told s = absurd s
stop-logs end.Idle gives runs_out tells terms p e events begun now told s = absurd s
stop-logs end.Spent gives runs_out tells terms p e events begun now told s = absurd s
stop-logs end.Memory gives runs_out tells terms p e events begun now told s = record {
  calls = s.calls;
  called = s.called;
  settled = s.settled;
  written = subst (λ (es : List PastLinkEvent). HasWritten end.Memory runs_out tells terms p es s.calls) (sym s.events-are) (record { to_client = s.to_client; to_host = s.to_host; ran_out = s.ran_out; client = s.client; host = s.host; told = told });
  ended = came-or-none terms p s.calls s.just_came;
}
stop-logs end.WriteFault gives runs_out tells terms p e events begun now told s = record {
  calls = s.calls;
  called = s.called;
  settled = s.settled;
  written = subst (λ (es : List PastLinkEvent). WroteInPart tells terms p es s.calls) (sym s.events-are) (record { links = s.written; told = part-more tells (told_of p (events_before s.calls)) (told_of p events) _ (told-all tells (told_of p (events_before s.calls)) (told_of p events) s.told_before told) });
  ended = inl s.just_came;
}
stop-logs (end.LinkFault side) gives runs_out tells terms p e events begun now told s = record {
  calls = s.part.calls;
  called = s.part.called;
  settled = s.part.settled;
  written = subst (λ (es : List PastLinkEvent). WroteInPart tells terms p es s.part.calls) (sym s.part.events-are) (record { links = s.part.written; told = part-more tells (told_of p (events_before s.part.calls)) (told_of p events) _ (told-all tells (told_of p (events_before s.part.calls)) (told_of p events) s.part.told_before told) });
  ended = s.failed;
}

-- all was sent, and its lines couldn't be recorded, before anything is written
pub tape-logs : {D : Type 0} → (x : ServeEnd) (old new : Counts) (gives : D → Call → D → Type 0) (stands : List PastLinkEvent → Type 0) (runs_out : List PastLinkEvent → PastLinkEvent → List ℕ → List ℕ → Type 0) (tells : List ℕ → Type 0) (terms : Terms) (p : Prescribed) (asks : List Ask) (e : PastLinkEvent) (k : Rounds) (sent : Sent) (lines : List ℕ) (made : Bool) (begun now : D)
    → TapeFaults {T = Unit {0}} (Err x) old new → (x ≡ end.Memory → (made ≡ true) × ((is_recorded e || not (is_empty sent.refusals)) ≡ true)) → terms.taped ≡ made → (t : IsTaking gives stands tells terms p asks e k begun now) → Prepared p t.events e sent lines
    → Logged x gives runs_out tells terms p begun now
tape-logs (end.Ended refused) old new gives stands runs_out tells terms p asks e k sent lines made begun now is wants taped t prepared = absurd is
tape-logs end.Idle old new gives stands runs_out tells terms p asks e k sent lines made begun now is wants taped t prepared = absurd is
tape-logs end.Spent old new gives stands runs_out tells terms p asks e k sent lines made begun now is wants taped t prepared = absurd is
tape-logs (end.LinkFault side) old new gives stands runs_out tells terms p asks e k sent lines made begun now is wants taped t prepared = absurd is
tape-logs end.WriteFault old new gives stands runs_out tells terms p asks e k sent lines made begun now is wants taped t prepared = taking-fault gives stands runs_out tells terms p asks e k begun now t
tape-logs end.Memory old new gives stands runs_out tells terms p asks e k sent lines made begun now is wants taped t prepared =
    stop-logs end.Memory gives runs_out tells terms p e t.events begun now t.told
    (none-written gives runs_out terms p e t.events k [] [] begun now refl refl
    (inr (inr (record {
      is_taped = taped ∙ (wants refl).0;
      has_lines = ap (λ (rs : List Refusal). is_recorded e || not (is_empty rs)) (sym prepared.refusals) ∙ (wants refl).1;
      client-is = refl;
      host-is = refl;
    })))
    (stopping gives stands tells terms p asks e k k begun now refl t))
