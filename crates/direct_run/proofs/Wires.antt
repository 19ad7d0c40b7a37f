-- The bytes on the wires: what an event more sends to the host, and what is left of a wire whose front was taken.
use Rattle.std.proofs.Common.{◌≡◌, ℕ, zero, suc, ◌≤◌, List, [], ◌∷◌, ◌++◌, length, take, drop, refl, sym, ap, ◌∙◌, append_assoc, arith}
use Rattle.std.proofs.lemmas.List.{length-append, length-drop, drop-drop, take-append-drop}
use Rattle.redir_data.specs.Sent.{sent_packet_bytes}
use Rattle.redir_wire.specs.Capability.{no_caps}
use Rattle.gate_history.specs.step.Events.{PastEvent}
use Rattle.gate_history.specs.step.History.{history}
use Rattle.gate_history.specs.write.All.{all_of}
use Rattle.gate_history.specs.write.Bytes.{host_bytes_of, gateway_hello, out_host}
use Rattle.gate_history.proofs.lemmas.step.Events.{event-gives}
use Rattle.direct_run.specs.World.{first_id}
use Rattle.direct_run.specs.Trace.{given_of}

pub host-gives : (events : List PastEvent) (e : PastEvent) → out_host first_id (history first_id (e ∷ events)) ≡ out_host first_id (history first_id events) ++ given_of host_bytes_of events e
host-gives events e =
    ap (λ (b : List ℕ). sent_packet_bytes no_caps (0, gateway_hello) ++ b) (event-gives host_bytes_of first_id events e)
    ∙ sym (append_assoc (sent_packet_bytes no_caps (0, gateway_hello)) (all_of host_bytes_of first_id (history first_id events)) (given_of host_bytes_of events e))

-- what is left of a wire whose front was taken
pub front-left : (n k : ℕ) (had sent : List ℕ) → length had ≤ length sent → drop n (drop (length had) sent) ≡ drop (length (had ++ take n (drop (length had) sent))) sent
front-left n k had sent h =
    rest-of n (drop (length had) sent)
    ∙ drop-drop (length (take n (drop (length had) sent))) (length had) sent
    ∙ ap (λ (i : ℕ). drop i sent) (sym (length-append had (take n (drop (length had) sent))))
  where
    rest-of : (i : ℕ) (xs : List ℕ) → drop i xs ≡ drop (length (take i xs)) xs
    rest-of zero xs = refl
    rest-of (suc i) [] = refl
    rest-of (suc i) (x ∷ xs) = rest-of i xs

pub front-fits : (n : ℕ) (had sent : List ℕ) → length had ≤ length sent → length (had ++ take n (drop (length had) sent)) ≤ length sent
front-fits n had sent h =
    let a = length-append had (take n (drop (length had) sent)) in
    let b = length-append (take n (drop (length had) sent)) (drop n (drop (length had) sent)) in
    let d = ap length (take-append-drop n (drop (length had) sent)) in
    let e = length-drop (length had) sent in
    omega (arith, h, a, b, d, e)
