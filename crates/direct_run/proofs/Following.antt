-- A list of moves that follows a course: both sides, the packets that are on the wires, those to the client, and what
-- is told are the same.
use Rattle.std.proofs.Common.{◌≡◌, ℕ, Bool, true, false, cond, List, [], ◌∷◌, ◌++◌, refl, sym, ap, ◌∙◌, append-nil, append_assoc}
use Rattle.std.specs.List.{flat_map}
use Rattle.std.proofs.lemmas.Grind.{flat_map-append}
use Rattle.redir_data.specs.declared.packet.RedirPacket.{RedirPacket}
use Rattle.model_device.specs.Meaning.{Meaning}
use Rattle.redir_host.specs.declared.state.host.Host.{Host}
use Rattle.redir_host.specs.step.Acts.{Act}
use Rattle.redir_host.specs.step.History.{brought as act_brought}
use Rattle.redir_host.specs.step.Machine.{given_by as host_given}
use Rattle.redir_host.specs.write.Output.{first_packet, host_of}
use Rattle.redir_host.proofs.lemmas.step.Acts.{act-gives}
use Rattle.gate_history.specs.write.Bytes.{gateway_hello}
use Rattle.gate_history.specs.step.Events.{PastEvent}
use Rattle.gate_history.specs.step.History.{brought, history}
use Rattle.gate_history.specs.step.Marks.{Submission, Mark}
use Rattle.gate_history.specs.client.Submits.{opened, accepted}
use Rattle.gate_history.specs.state.State.{State, state_of}
use Rattle.gate_history.specs.write.Output.{to_client, to_host}
use Rattle.gate_history.specs.write.Notes.{notes_of}
use Rattle.gate_history.specs.write.All.{all_of}
use Rattle.gate_history.specs.declared.item.Item.{Item as GateItem}
use Rattle.gate_history.specs.step.Machine.{step, steps, given, given_by}
use Rattle.gate_history.specs.step.Meaning.{mark_of}
use Rattle.gate_history.specs.step.Past.{is_left_out}
use Rattle.gate_history.proofs.lemmas.step.Events.{event-state, event-gives}
use Rattle.direct_run.specs.declared.item.Item.{Item}
use Rattle.direct_run.specs.World.{Course, first_id, nothing_yet, happened, acted}
use Rattle.direct_run.specs.Noted.{item_of, named}
use Rattle.direct_run.specs.Trace.{given_of}
use Rattle.direct_run.specs.Follows.{FollowsCourse}
use Rattle.direct_run.specs.Moves.{World, Made, as_items, as_submits, first_world, quiet, then_made}
use Rattle.direct_run.specs.Packets.{bares, sent_by_gate, sent_by_host, read_by_host, read_by_gate}
use Rattle.direct_run.proofs.Several.{gate_all}
use Rattle.direct_run.proofs.Flowing.{Split, nothing-asked, nothing-told}

pub accepted-all : (first : ℕ) (ms : List Mark) → accepted ms ≡ all_of as_submits.by_gate first ms
accepted-all first [] = refl
accepted-all first (m ∷ ms) = ap (λ (l : List Submission). l ++ opened m.what) (accepted-all first ms)

pub follows-first : {S : Type 0} (m : Meaning S) (s : S) → FollowsCourse m s nothing_yet [] (quiet (first_world s)) []
follows-first m s = record {
  gate = refl;
  host = refl;
  submits = refl;
  to_host = ap (λ (x : Split). bares x.packets ++ (0, gateway_hello) ∷ []) (sym nothing-asked);
  to_gate = ap (λ (x : Split). bares x.packets ++ first_packet ∷ []) (sym nothing-told);
  outs = refl;
  items-are = refl;
  accepted-are = refl;
}

-- what an event more opens
accepted-more : (events : List PastEvent) (e : PastEvent) → accepted (history first_id (e ∷ events)) ≡ accepted (history first_id events) ++ given_by as_submits.by_gate (state_of first_id (history first_id events)) (brought events e)
accepted-more events e =
    accepted-all first_id (history first_id (e ∷ events))
    ∙ event-gives as_submits.by_gate first_id events e
    ∙ ap (λ (l : List Submission). l ++ given_by as_submits.by_gate (state_of first_id (history first_id events)) (brought events e)) (sym (accepted-all first_id (history first_id events)))

-- the items of several are those of their notes
items-given : (st : State) (xs : List GateItem) → given_by as_items.by_gate st xs ≡ flat_map item_of (given_by notes_of st xs)
items-given st [] = refl
items-given st (x ∷ xs) = (λ i. one (is_left_out st x) i ++ items-given (step st x) xs i) ∙ sym (flat_map-append item_of (given notes_of st x) (given_by notes_of (step st x) xs))
  where
    one : (b : Bool) → cond b [] (as_items.by_gate st (mark_of st x)) ≡ flat_map item_of (cond b [] (notes_of st (mark_of st x)))
    one true = refl
    one false = refl

pub follows-event : {S : Type 0} (m : Meaning S) (s : S) (c : Course) (items : List Item) (r : Made S Item) (submitted : List Submission) (e : PastEvent) (later : List (ℕ × RedirPacket)) → FollowsCourse m s c items r submitted →
    first_packet ∷ sent_by_host m s c ≡ bares (read_by_gate (happened c e)) ++ later →
    FollowsCourse m s (happened c e) (items ++ flat_map item_of (given_of notes_of c.events e)) (then_made r (gate_all as_items (record r.world { to_gate = later }) (brought c.events e))) (submitted ++ given_by as_submits.by_gate r.world.gate (brought c.events e))
follows-event m s c items r submitted e later f rest =
    let xs = brought c.events e in
    let st = state_of first_id (history first_id c.events) in
    record {
      gate = ap (λ (x : State). steps x xs) f.gate ∙ sym (event-state first_id c.events e);
      host = f.host;
      submits = (λ i. f.submits i ++ flat_map named (given_by notes_of (f.gate i) xs))
          ∙ sym (flat_map-append named (all_of notes_of first_id (history first_id c.events)) (given_by notes_of st xs))
          ∙ ap (flat_map named) (sym (event-gives notes_of first_id c.events e));
      to_host = ap (λ (l : List (ℕ × RedirPacket)). (0, gateway_hello) ∷ l) (event-gives to_host first_id c.events e)
          ∙ (λ i. f.to_host i ++ given_by to_host (sym f.gate i) xs)
          ∙ append_assoc (bares (read_by_host c)) r.world.to_host (given_by to_host r.world.gate xs);
      to_gate = rest;
      outs = (λ i. f.outs i ++ given_by to_client (f.gate i) xs) ∙ sym (event-gives to_client first_id c.events e);
      items-are = λ i. f.items-are i ++ items-given (f.gate i) xs i;
      accepted-are = (λ i. f.accepted-are i ++ given_by as_submits.by_gate (f.gate i) xs) ∙ sym (accepted-more c.events e);
    }

-- what the host makes of an act
abbrev pub host_gives : {S : Type 0} → World S → Host S → List (ℕ × RedirPacket) → List (ℕ × RedirPacket) → List Item → Made S Item
host_gives w new sent later items = record { world = record w { host = new; to_gate = w.to_gate ++ sent; to_host = later }; outs = []; told = items }

pub follows-act : {S : Type 0} (m : Meaning S) (s : S) (c : Course) (items more : List Item) (r : Made S Item) (submitted : List Submission) (a : Act) (new : Host S) (sent later : List (ℕ × RedirPacket)) (told : List Item) → FollowsCourse m s c items r submitted →
    new ≡ host_of m s (a ∷ c.acts) → sent ≡ host_given (λ v. v.sent) m (host_of m s c.acts) (act_brought c.acts a) →
    (0, gateway_hello) ∷ sent_by_gate c ≡ bares (read_by_host (acted c a)) ++ later → told ≡ more →
    FollowsCourse m s (acted c a) (items ++ more) (then_made r (host_gives r.world new sent later told)) (submitted ++ [])
follows-act m s c items more r submitted a new sent later told f host gives rest same = record {
  gate = f.gate;
  host = host;
  submits = f.submits;
  to_host = rest;
  to_gate = ap (λ (l : List (ℕ × RedirPacket)). first_packet ∷ l) (act-gives (λ v. v.sent) m s c.acts a)
      ∙ (λ i. f.to_gate i ++ sym gives i)
      ∙ append_assoc (bares (read_by_gate c)) r.world.to_gate sent;
  outs = append-nil r.outs ∙ f.outs;
  items-are = λ i. f.items-are i ++ same i;
  accepted-are = append-nil submitted ∙ f.accepted-are;
}
