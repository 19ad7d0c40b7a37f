-- What the steps of a run put on each wire, one after another.
use Rattle.std.proofs.Common.{◌≡◌, ℕ, List, [], ◌∷◌, ◌++◌, take, refl, sym, ap, ◌∙◌, append-nil, append_assoc}
use Rattle.gate_history.specs.step.Events.{ClientPiece, ClientEnd as ClientEnds, HostPiece}
use Rattle.gate_history.specs.step.History.{history}
use Rattle.gate_history.specs.write.Bytes.{client_bytes_of, out_client}
use Rattle.gate_history.proofs.lemmas.step.Events.{event-gives}
use Rattle.model_device.specs.Meaning.{Meaning}
use Rattle.redir_host.specs.step.Acts.{Piece, Perform as Performs, Offer as Offers, Unplug as Unplugs}
use Rattle.redir_host.proofs.lemmas.step.Acts.{act-out}
use Rattle.direct_run.specs.declared.told.Told.{Told}
use Rattle.direct_run.specs.Steps.{PastStep, Client, ClientEnd, ToHost, ToGate, Perform, Offer, Unplug}
use Rattle.direct_run.specs.World.{Course, first_id, nothing_yet, course, after_step, sent_to_host, sent_to_gate}
use Rattle.direct_run.specs.Trace.{all_told, told_by}
use Rattle.direct_run.proofs.Wires.{host-gives}

step-client : {S : Type 0} (m : Meaning S) (s : S) (c : Course) (x : PastStep) → out_client first_id (history first_id (after_step m s c x).events) ≡ out_client first_id (history first_id c.events) ++ (told_by m s c x).to_client
step-client m s c (Client b) = event-gives client_bytes_of first_id c.events (ClientPiece b)
step-client m s c ClientEnd = event-gives client_bytes_of first_id c.events ClientEnds
step-client m s c (ToGate n) = event-gives client_bytes_of first_id c.events (HostPiece (take n _))
step-client m s c _ = sym (append-nil (out_client first_id (history first_id c.events)))

step-host : {S : Type 0} (m : Meaning S) (s : S) (c : Course) (x : PastStep) → sent_to_host (after_step m s c x) ≡ sent_to_host c ++ (told_by m s c x).to_host
step-host m s c (Client b) = host-gives c.events (ClientPiece b)
step-host m s c ClientEnd = host-gives c.events ClientEnds
step-host m s c (ToGate n) = host-gives c.events (HostPiece (take n _))
step-host m s c _ = sym (append-nil (sent_to_host c))

step-gate : {S : Type 0} (m : Meaning S) (s : S) (c : Course) (x : PastStep) → sent_to_gate m s (after_step m s c x) ≡ sent_to_gate m s c ++ (told_by m s c x).from_host
step-gate m s c (ToHost n) = act-out m s c.acts (Piece (take n _))
step-gate m s c (Perform ep) = act-out m s c.acts (Performs ep)
step-gate m s c (Offer ep) = act-out m s c.acts (Offers ep)
step-gate m s c Unplug = act-out m s c.acts Unplugs
step-gate m s c _ = sym (append-nil (sent_to_gate m s c))

pub all-client : {S : Type 0} (m : Meaning S) (s : S) (steps : List PastStep) → all_told (λ (t : Told). t.to_client) m s steps ≡ out_client first_id (history first_id (course m s steps).events)
all-client m s [] = refl
all-client m s (x ∷ steps) = ap (λ (b : List ℕ). b ++ (told_by m s (course m s steps) x).to_client) (all-client m s steps) ∙ sym (step-client m s (course m s steps) x)

pub all-host : {S : Type 0} (m : Meaning S) (s : S) (steps : List PastStep) → sent_to_host nothing_yet ++ all_told (λ (t : Told). t.to_host) m s steps ≡ sent_to_host (course m s steps)
all-host m s [] = append-nil (sent_to_host nothing_yet)
all-host m s (x ∷ steps) =
    sym (append_assoc (sent_to_host nothing_yet) (all_told (λ (t : Told). t.to_host) m s steps) (told_by m s (course m s steps) x).to_host)
    ∙ ap (λ (b : List ℕ). b ++ (told_by m s (course m s steps) x).to_host) (all-host m s steps) ∙ sym (step-host m s (course m s steps) x)

pub all-gate : {S : Type 0} (m : Meaning S) (s : S) (steps : List PastStep) → sent_to_gate m s nothing_yet ++ all_told (λ (t : Told). t.from_host) m s steps ≡ sent_to_gate m s (course m s steps)
all-gate m s [] = append-nil (sent_to_gate m s nothing_yet)
all-gate m s (x ∷ steps) =
    sym (append_assoc (sent_to_gate m s nothing_yet) (all_told (λ (t : Told). t.from_host) m s steps) (told_by m s (course m s steps) x).from_host)
    ∙ ap (λ (b : List ℕ). b ++ (told_by m s (course m s steps) x).from_host) (all-gate m s steps) ∙ sym (step-gate m s (course m s steps) x)
