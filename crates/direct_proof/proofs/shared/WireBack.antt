-- What has run, and the packets of streams, on a wire back that grows.
use Rattle.std.proofs.Common.{◌≡◌, ℕ, Bool, true, false, cond, List, [], ◌∷◌, ◌++◌, map, Option, Some, None, refl, sym, ap, ◌∙◌, append-nil}
use Rattle.std.proofs.lemmas.List.{map-append}
use Rattle.gate_history.specs.state.Ups.{Up}
use Rattle.usb_base.specs.declared.endpoint.EpKind.{EpKind}
use Rattle.direct_proof.specs.Requests.{Coming, ran_of}
use Rattle.direct_proof.specs.Tagged.{Tagged, Answered, ran_in, runs_in, packets_in, packet_in}
use Rattle.direct_proof.specs.Shared.{way_of}
use Rattle.direct_proof.proofs.shared.Folds.{gathers-append}

pub runs_in-append : (bs cs : List Tagged) → runs_in (bs ++ cs) ≡ runs_in bs ++ runs_in cs
runs_in-append = gathers-append ran_in runs_in refl (λ b bs. refl)

pub packets_in-append : (kind : EpKind) (ep : ℕ) (bs cs : List Tagged) → packets_in kind ep (bs ++ cs) ≡ packets_in kind ep bs ++ packets_in kind ep cs
packets_in-append kind ep = gathers-append (packet_in kind ep) (packets_in kind ep) refl (λ b bs. refl)

-- an answer is no packet of a stream
pub way-answer : (up : Option Up) (ep : ℕ) (bs : List Tagged) (c : Coming) → way_of up ep (bs ++ Answered c ∷ []) ≡ way_of up ep bs
way-answer None ep bs c = refl
way-answer (Some up) ep bs c = packets_in-append up.row.kind ep bs (Answered c ∷ []) ∙ append-nil (packets_in up.row.kind ep bs)

pub ran-answer : (b : Bool) (bs : List Tagged) (c : Coming) → cond b (cond b (map ran_of (runs_in bs)) [] ++ ran_of c ∷ []) (cond b (map ran_of (runs_in bs)) []) ≡ cond b (map ran_of (runs_in (bs ++ Answered c ∷ []))) []
ran-answer true bs c = sym (ap (map ran_of) (runs_in-append bs (Answered c ∷ [])) ∙ map-append ran_of (runs_in bs) (c ∷ []))
ran-answer false bs c = refl
