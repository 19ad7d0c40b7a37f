-- What flows on the wires after each list of steps.
use Rattle.std.proofs.Common.{ℕ, List, [], ◌∷◌, ◌++◌, take, refl, sym, subst}
use Rattle.std.specs.List.{flat_map}
use Rattle.usb_base.specs.Number.{AreBytes}
use Rattle.redir_wire.specs.declared.packet.Way.TheVariants.{ToHost as ByGate}
use Rattle.redir_data.specs.Sent.{CanBeRead}
use Rattle.model_device.specs.Meaning.{Meaning}
use Rattle.redir_host.specs.step.Acts.{Piece, Perform as PerformAct, Offer as OfferAct, Unplug as UnplugAct, guest_bytes}
use Rattle.redir_host.specs.step.Items.{Performs as PerformsItem, Offers as OffersItem, Unplugs as UnplugsItem}
use Rattle.gate_history.specs.step.Events.{ClientPiece, ClientEnd as ClientEnds, HostPiece}
use Rattle.gate_history.specs.step.History.{arrivals, history}
use Rattle.gate_history.specs.step.Machine.{all_given}
use Rattle.gate_history.specs.write.Output.{to_host}
use Rattle.gate_history.specs.write.Readable.{piece_bytes, SentCanBeRead}
use Rattle.gate_history.specs.state.State.{State, state_of}
use Rattle.gate_history.proofs.lemmas.step.Comings.{comes}
use Rattle.gate_history.proofs.lemmas.Lists.{Each}
use Rattle.gate_history.proofs.lemmas.step.Runs.{state-run, all-run}
use Rattle.gate_history.proofs.lemmas.write.EventsRead.{goes}
use Rattle.direct_run.specs.Known.{IsKnown}
use Rattle.direct_run.specs.Packets.{read_by_gate}
use Rattle.direct_run.specs.Steps.{PastStep, Client, ClientEnd, ToHost, ToGate, Perform, Offer, Unplug}
use Rattle.direct_run.specs.World.{Course, first_id, after_step, course, wire_to_host, wire_to_gate}
use Rattle.direct_run.proofs.Flows.{Flows, later-sent, known-event, known-act, told-bytes}
use Rattle.direct_run.proofs.Flowing.{flows-first, flows-piece, flows-end, GetsToGate, gets-to-gate, flows-told, GetsToHost, gets-to-host, flows-asked, flows-own}

-- the host can read what the gateway sends
gate-sends : SentCanBeRead
gate-sends = λ first events are.
    let xs = arrivals events in
    subst (Each (CanBeRead ByGate (state_of first (history first events)).sides.agreed)) (sym (all-run to_host first xs))
    (subst (λ (st : State). Each (CanBeRead ByGate st.sides.agreed) (all_given to_host first xs)) (sym (state-run first xs)) (goes first xs (comes events are).0).read)

-- ---- what the next piece on a wire brings

pub next-to-host : {S : Type 0} (m : Meaning S) (s : S) (c : Course) (n : ℕ) → Flows m s c → IsKnown m s c → AreBytes (guest_bytes c.acts ++ take n (wire_to_host c)) → GetsToHost c n
next-to-host m s c n f k heard = gets-to-host m s c n f (later-sent (read_by_gate c) c f.meets (gate-sends first_id c.events k.bytes)) k.heard heard

pub next-to-gate : {S : Type 0} (m : Meaning S) (s : S) (c : Course) (n : ℕ) → Flows m s c → IsKnown m s c → AreBytes (flat_map piece_bytes (HostPiece (take n (wire_to_gate m s c)) ∷ c.events)) → GetsToGate m s c n
next-to-gate m s c n f k bytes = gets-to-gate m s c n f k.read (told-bytes c.events k.bytes) (told-bytes (HostPiece (take n (wire_to_gate m s c)) ∷ c.events) bytes)

-- ---- steps

pub flows-step : {S : Type 0} (m : Meaning S) (s : S) (c : Course) (x : PastStep) → Flows m s c → IsKnown m s c → AreBytes (flat_map piece_bytes (after_step m s c x).events) → AreBytes (guest_bytes (after_step m s c x).acts) →
    Flows m s (after_step m s c x)
flows-step m s c (Client b) f k bytes heard = flows-piece m s c b f
flows-step m s c ClientEnd f k bytes heard = flows-end m s c f
flows-step m s c (ToHost n) f k bytes heard = flows-asked m s c n f (next-to-host m s c n f k heard)
flows-step m s c (ToGate n) f k bytes heard = flows-told m s c n f (next-to-gate m s c n f k bytes)
flows-step m s c (Perform ep) f k bytes heard = flows-own m s c (PerformAct ep) (PerformsItem ep) refl refl tt f
flows-step m s c (Offer ep) f k bytes heard = flows-own m s c (OfferAct ep) (OffersItem ep) refl refl tt f
flows-step m s c Unplug f k bytes heard = flows-own m s c UnplugAct UnplugsItem refl refl tt f

pub known-before : {S : Type 0} (m : Meaning S) (s : S) (c : Course) (x : PastStep) → IsKnown m s (after_step m s c x) → IsKnown m s c
known-before m s c (Client b) k = known-event m s c (ClientPiece b) k
known-before m s c ClientEnd k = known-event m s c ClientEnds k
known-before m s c (ToHost n) k = known-act m s c (Piece (take n (wire_to_host c))) k
known-before m s c (ToGate n) k = known-event m s c (HostPiece (take n (wire_to_gate m s c))) k
known-before m s c (Perform ep) k = known-act m s c (PerformAct ep) k
known-before m s c (Offer ep) k = known-act m s c (OfferAct ep) k
known-before m s c Unplug k = known-act m s c UnplugAct k

pub flows-steps : {S : Type 0} (m : Meaning S) (s : S) (steps : List PastStep) → IsKnown m s (course m s steps) → Flows m s (course m s steps)
flows-steps m s [] k = flows-first m s
flows-steps m s (x ∷ steps) k =
    let was = known-before m s (course m s steps) x k in
    flows-step m s (course m s steps) x (flows-steps m s steps was) was k.bytes k.heard
