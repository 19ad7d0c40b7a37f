-- What has got to a side, and then what is on the wire to it, is what was sent.
use Rattle.std.proofs.Common.{◌≡◌, ℕ, ◌≤◌, List, [], ◌∷◌, ◌++◌, length, take, drop, refl, sym, ap, ◌∙◌, subst, append_assoc, arith}
use Rattle.std.proofs.lemmas.List.{drop-append-le, length-append, take-append-drop}
use Rattle.gate_history.specs.write.Bytes.{host_bytes_of}
use Rattle.gate_history.specs.step.Events.{ClientPiece, ClientEnd as ClientEnds, HostPiece, host_bytes}
use Rattle.model_device.specs.Meaning.{Meaning}
use Rattle.redir_host.proofs.lemmas.step.Acts.{act-out}
use Rattle.redir_host.specs.step.Acts.{Piece, Perform as Performs, Offer as Offers, Unplug as Unplugs, guest_bytes}
use Rattle.redir_host.specs.write.Output.{act_bytes}
use Rattle.direct_run.specs.Steps.{PastStep, Client, ClientEnd, ToHost, ToGate, Perform, Offer, Unplug}
use Rattle.direct_run.specs.Trace.{given_of}
use Rattle.direct_run.specs.World.{Course, course, after_step, sent_to_host, sent_to_gate, wire_to_host, wire_to_gate}
use Rattle.direct_run.proofs.Wires.{host-gives, front-left}

-- ---- bytes on a wire

had-fits : (had sent : List ℕ) → had ++ drop (length had) sent ≡ sent → length had ≤ length sent
had-fits had sent whole = let a = length-append had (drop (length had) sent) in let b = ap length whole in omega (arith, a, b)

-- more was sent
sent-more : (had sent more : List ℕ) → had ++ drop (length had) sent ≡ sent → had ++ drop (length had) (sent ++ more) ≡ sent ++ more
sent-more had sent more whole =
    ap (λ (b : List ℕ). had ++ b) (drop-append-le (length had) sent more (had-fits had sent whole)) ∙ sym (append_assoc had (drop (length had) sent) more) ∙ ap (λ (b : List ℕ). b ++ more) whole

sent-as : (had sent more after : List ℕ) → after ≡ sent ++ more → had ++ drop (length had) sent ≡ sent → had ++ drop (length had) after ≡ after
sent-as had sent more after is whole = subst (λ (b : List ℕ). had ++ drop (length had) b ≡ b) (sym is) (sent-more had sent more whole)

-- the next of them got there
got-more : (n : ℕ) (had sent : List ℕ) → had ++ drop (length had) sent ≡ sent → (had ++ take n (drop (length had) sent)) ++ drop (length (had ++ take n (drop (length had) sent))) sent ≡ sent
got-more n had sent whole =
    append_assoc had (take n (drop (length had) sent)) (drop (length (had ++ take n (drop (length had) sent))) sent)
    ∙ ap (λ (b : List ℕ). had ++ (take n (drop (length had) sent) ++ b)) (sym (front-left n 0 had sent (had-fits had sent whole)))
    ∙ ap (λ (b : List ℕ). had ++ b) (take-append-drop n (drop (length had) sent)) ∙ whole

-- ---- steps

abbrev HostGets : Course → Type 0
HostGets c = guest_bytes c.acts ++ wire_to_host c ≡ sent_to_host c

abbrev GateGets : {S : Type 0} → Meaning S → S → Course → Type 0
GateGets m s c = host_bytes c.events ++ wire_to_gate m s c ≡ sent_to_gate m s c

host-step : {S : Type 0} (m : Meaning S) (s : S) (c : Course) (x : PastStep) → HostGets c → HostGets (after_step m s c x)
host-step m s c (Client b) h = sent-as (guest_bytes c.acts) (sent_to_host c) (given_of host_bytes_of c.events (ClientPiece b)) _ (host-gives c.events (ClientPiece b)) h
host-step m s c ClientEnd h = sent-as (guest_bytes c.acts) (sent_to_host c) (given_of host_bytes_of c.events ClientEnds) _ (host-gives c.events ClientEnds) h
host-step m s c (ToHost n) h = got-more n (guest_bytes c.acts) (sent_to_host c) h
host-step m s c (ToGate n) h =
    sent-as (guest_bytes c.acts) (sent_to_host c) (given_of host_bytes_of c.events (HostPiece (take n (wire_to_gate m s c)))) _ (host-gives c.events (HostPiece (take n (wire_to_gate m s c)))) h
host-step m s c (Perform ep) h = h
host-step m s c (Offer ep) h = h
host-step m s c Unplug h = h

gate-step : {S : Type 0} (m : Meaning S) (s : S) (c : Course) (x : PastStep) → GateGets m s c → GateGets m s (after_step m s c x)
gate-step m s c (Client b) h = h
gate-step m s c ClientEnd h = h
gate-step m s c (ToHost n) h =
    sent-as (host_bytes c.events) (sent_to_gate m s c) (act_bytes m s c.acts (Piece (take n (wire_to_host c)))) _ (act-out m s c.acts (Piece (take n (wire_to_host c)))) h
gate-step m s c (ToGate n) h = got-more n (host_bytes c.events) (sent_to_gate m s c) h
gate-step m s c (Perform ep) h = sent-as (host_bytes c.events) (sent_to_gate m s c) (act_bytes m s c.acts (Performs ep)) _ (act-out m s c.acts (Performs ep)) h
gate-step m s c (Offer ep) h = sent-as (host_bytes c.events) (sent_to_gate m s c) (act_bytes m s c.acts (Offers ep)) _ (act-out m s c.acts (Offers ep)) h
gate-step m s c Unplug h = sent-as (host_bytes c.events) (sent_to_gate m s c) (act_bytes m s c.acts Unplugs) _ (act-out m s c.acts Unplugs) h

pub host-gets : {S : Type 0} (m : Meaning S) (s : S) (steps : List PastStep) → HostGets (course m s steps)
host-gets m s [] = refl
host-gets m s (x ∷ steps) = host-step m s (course m s steps) x (host-gets m s steps)

pub gate-gets : {S : Type 0} (m : Meaning S) (s : S) (steps : List PastStep) → GateGets m s (course m s steps)
gate-gets m s [] = refl
gate-gets m s (x ∷ steps) = gate-step m s (course m s steps) x (gate-gets m s steps)
