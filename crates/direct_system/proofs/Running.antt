-- What the gateway's code makes of an event, and the host's of an act, is what the definitions say: the bytes on the
-- wires and what is told are those of the gateway's history and of the host's.
use Rattle.std.proofs.Common.{◌≡◌, ℕ, ◌≤◌, List, [], ◌∷◌, ◌++◌, length, drop, refl, sym, ap, ◌∙◌, subst, arith}
use Rattle.std.specs.List.{flat_map}
use Rattle.std.proofs.lemmas.List.{append_cancel_left, drop-append-le, length-append}
use Rattle.std.proofs.lemmas.Grind.{flat_map-append}
use Rattle.usb_base.specs.declared.refusal.Refusal.{Refusal}
use Rattle.gate_history.specs.declared.note.Note.{Note}
use Rattle.gate_history.specs.step.Events.{PastEvent, host_bytes}
use Rattle.gate_history.specs.step.History.{history}
use Rattle.gate_core.specs.state.Kept.{GateKept}
use Rattle.gate_history.specs.write.Notes.{notes_of}
use Rattle.gate_history.specs.write.All.{all_of}
use Rattle.gate_history.specs.write.Bytes.{client_bytes_of, host_bytes_of, out_client, out_host}
use Rattle.gate_history.specs.Headline.{Gains}
use Rattle.gate_core.specs.step.Stands.{TakesEvent as GateTakes, GateStands}
use Rattle.gate_history.proofs.lemmas.step.Events.{event-gives}
use Rattle.model_device.specs.Meaning.{Meaning}
use Rattle.redir_host.specs.step.Acts.{Act, guest_bytes}
use Rattle.redir_host.specs.write.Output.{act_bytes}
use Rattle.redir_host.specs.step.Stands.{HostStands}
use Rattle.redir_host.proofs.lemmas.step.Acts.{act-out}
use Rattle.direct_run.specs.declared.item.Item.{Item}
use Rattle.direct_run.specs.declared.submitted.Submitted.{Submitted}
use Rattle.direct_run.specs.declared.told.Told.{Told}
use Rattle.direct_system.specs.Kept.{SystemKept}
use Rattle.direct_run.specs.World.{Course, first_id, happened, acted, sent_to_host, sent_to_gate}
use Rattle.gate_history.specs.write.Refusals.{refusal_in}
use Rattle.direct_run.specs.Noted.{item_of, named}
use Rattle.direct_run.specs.Trace.{given_of, untold}
use Rattle.direct_run.proofs.Wires.{host-gives}
use Rattle.direct_system.specs.Stands.{SystemRuns}
use Rattle.direct_system.specs.inner.Doing.{DoesEvent, DoesAct}

-- ---- an event of the gateway

gained : {A : Type 0} (old new before after given : List A) → Gains old new before after → old ≡ [] → after ≡ before ++ given → new ≡ given
gained {A = A} old new before after given g none is =
    g.new-is ∙ ap (λ (l : List A). l ++ g.more) none ∙ append_cancel_left before g.more given (sym g.after-is ∙ is)

pub event-done : {S : Type 0} (old : SystemKept S) (gate : GateKept) (events : List PastEvent) (e : PastEvent) (c0 c1 h0 h1 from wire : List ℕ) (i0 items trace : List Item) (r0 refusals : List Refusal) (submits : List Submitted) (notes : List Note) →
    GateTakes first_id gate events e c0 c1 h0 h1 notes → c0 ≡ [] → h0 ≡ [] → from ≡ [] → i0 ≡ [] → r0 ≡ [] →
    wire ≡ old.to_host ++ h1 → items ≡ i0 ++ flat_map item_of notes → refusals ≡ r0 ++ flat_map refusal_in notes → submits ≡ old.submits ++ flat_map named notes → trace ≡ old.trace ++ items →
    DoesEvent old (record { gate = gate; host = old.host; to_host = wire; to_gate = old.to_gate; trace = trace; submits = submits; failed = old.failed }) events e
    (record { to_client = c1; to_host = h1; from_host = from; items = items; refusals = refusals })
event-done old gate events e c0 c1 h0 h1 from wire i0 items trace r0 refusals submits notes t c-none h-none f-none i-none r-none wire-is items-is refusals-is submits-is trace-is = record {
  gate = t.stands;
  told-is = λ i. record {
    to_client = gained c0 c1 (out_client first_id (history first_id events)) (out_client first_id (history first_id (e ∷ events))) (given_of client_bytes_of events e) t.sends.client c-none (event-gives client_bytes_of first_id events e) i;
    to_host = gained h0 h1 (out_host first_id (history first_id events)) (out_host first_id (history first_id (e ∷ events))) (given_of host_bytes_of events e) t.sends.host h-none (host-gives events e) i;
    from_host = f-none i;
    items = (items-is ∙ (λ j. i-none j ++ flat_map item_of (notes-are j))) i;
    refusals = (refusals-is ∙ (λ j. r-none j ++ flat_map refusal_in (notes-are j))) i;
  };
  new-is = λ i. record {
    gate = gate;
    host = old.host;
    to_host = wire-is i;
    to_gate = old.to_gate;
    trace = trace-is i;
    submits = (submits-is ∙ ap (λ (l : List Note). old.submits ++ flat_map named l) notes-are) i;
    failed = old.failed;
  };
}
  where
    notes-are : notes ≡ given_of notes_of events e
    notes-are = append_cancel_left (all_of notes_of first_id (history first_id events)) notes (given_of notes_of events e) (sym t.sends.notes-are ∙ event-gives notes_of first_id events e)

-- the same of what was told before and is told now
pub event-told : {S : Type 0} (old new : SystemKept S) (gate : GateKept) (events : List PastEvent) (e : PastEvent) (c1 h1 wire : List ℕ) (before now : Told) (notes : List Note) →
    GateTakes first_id gate events e before.to_client c1 before.to_host h1 notes → before ≡ untold → wire ≡ old.to_host ++ h1 →
    now ≡ record before { to_client = c1; to_host = h1; items = before.items ++ flat_map item_of notes; refusals = before.refusals ++ flat_map refusal_in notes } →
    new ≡ record old { gate = gate; to_host = wire; trace = old.trace ++ now.items; submits = old.submits ++ flat_map named notes } →
    DoesEvent old new events e now
event-told {S} old new gate events e c1 h1 wire before now notes takes none wire-is now-is new-is =
    subst (λ (k : SystemKept S). DoesEvent old k events e now) (sym new-is)
    (subst (λ (t : Told). DoesEvent old (record old { gate = gate; to_host = wire; trace = old.trace ++ t.items; submits = old.submits ++ flat_map named notes }) events e t) (sym now-is)
    (event-done old gate events e before.to_client c1 before.to_host h1 before.from_host wire before.items (before.items ++ flat_map item_of notes) (old.trace ++ (before.items ++ flat_map item_of notes))
    before.refusals (before.refusals ++ flat_map refusal_in notes) (old.submits ++ flat_map named notes) notes takes
    (ap (λ (t : Told). t.to_client) none) (ap (λ (t : Told). t.to_host) none) (ap (λ (t : Told). t.from_host) none) (ap (λ (t : Told). t.items) none) (ap (λ (t : Told). t.refusals) none)
    wire-is refl refl refl refl))

-- ---- what they make of the wires

more-fits : (n : ℕ) (xs ys : List ℕ) → n ≤ length xs → n ≤ length (xs ++ ys)
more-fits n xs ys h = omega (arith, h, length-append xs ys)

-- the event's bytes were taken off the wire to the gateway
pub event-runs : {S : Type 0} (m : Meaning S) (s : S) (old new : SystemKept S) (c : Course) (e : PastEvent) (told : Told) (rest : List ℕ) →
    SystemRuns m s old c → DoesEvent (record old { to_gate = rest }) new c.events e told →
    rest ≡ drop (length (host_bytes (e ∷ c.events))) (sent_to_gate m s c) → length (host_bytes (e ∷ c.events)) ≤ length (sent_to_gate m s c) → SystemRuns m s new (happened c e)
event-runs {S = S} m s old new c e told rest r d rest-is fits = record {
  gate = d.gate;
  host = subst (λ (k : SystemKept S). HostStands m s k.host c.acts) (sym d.new-is) r.host;
  to_host = ap (λ (k : SystemKept S). k.to_host) d.new-is
      ∙ (λ i. r.to_host i ++ (ap (λ (t : Told). t.to_host) d.told-is) i)
      ∙ sym (drop-append-le (length (guest_bytes c.acts)) (sent_to_host c) (given_of host_bytes_of c.events e) r.host_had)
      ∙ ap (drop (length (guest_bytes c.acts))) (sym (host-gives c.events e));
  to_gate = ap (λ (k : SystemKept S). k.to_gate) d.new-is ∙ rest-is;
  host_had = subst (λ (b : List ℕ). length (guest_bytes c.acts) ≤ length b) (sym (host-gives c.events e)) (more-fits (length (guest_bytes c.acts)) (sent_to_host c) (given_of host_bytes_of c.events e) r.host_had);
  gate_had = fits;
  submits = ap (λ (k : SystemKept S). k.submits) d.new-is
      ∙ ap (λ (l : List Submitted). l ++ flat_map named (given_of notes_of c.events e)) r.submits
      ∙ sym (flat_map-append named (all_of notes_of first_id (history first_id c.events)) (given_of notes_of c.events e))
      ∙ ap (flat_map named) (sym (event-gives notes_of first_id c.events e));
}

-- the act's bytes were taken off the wire to the host
pub act-runs : {S : Type 0} (m : Meaning S) (s : S) (old new : SystemKept S) (c : Course) (a : Act) (told : Told) (rest : List ℕ) →
    SystemRuns m s old c → DoesAct m s (record old { to_host = rest }) new c.acts a told →
    rest ≡ drop (length (guest_bytes (a ∷ c.acts))) (sent_to_host c) → length (guest_bytes (a ∷ c.acts)) ≤ length (sent_to_host c) → SystemRuns m s new (acted c a)
act-runs {S = S} m s old new c a told rest r d rest-is fits = record {
  gate = subst (λ (k : SystemKept S). GateStands first_id k.gate c.events) (sym d.new-is) r.gate;
  host = d.host;
  to_host = ap (λ (k : SystemKept S). k.to_host) d.new-is ∙ rest-is;
  to_gate = ap (λ (k : SystemKept S). k.to_gate) d.new-is
      ∙ (λ i. r.to_gate i ++ (ap (λ (t : Told). t.from_host) d.told-is) i)
      ∙ sym (drop-append-le (length (host_bytes c.events)) (sent_to_gate m s c) (act_bytes m s c.acts a) r.gate_had)
      ∙ ap (drop (length (host_bytes c.events))) (sym (act-out m s c.acts a));
  host_had = fits;
  gate_had = subst (λ (b : List ℕ). length (host_bytes c.events) ≤ length b) (sym (act-out m s c.acts a)) (more-fits (length (host_bytes c.events)) (sent_to_gate m s c) (act_bytes m s c.acts a) r.gate_had);
  submits = ap (λ (k : SystemKept S). k.submits) d.new-is ∙ r.submits;
}
