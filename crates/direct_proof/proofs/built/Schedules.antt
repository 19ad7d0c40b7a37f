-- Any schedule of moves that bytes can make keeps what is shared, and does as the device attached directly does.
use Rattle.std.proofs.Common.{◌≡◌, ℕ, List, [], ◌∷◌, Option, Some, None, refl, ap, ◌∙◌, subst}
use Rattle.std.specs.List.{AllByRecursion, flat_map}
use Rattle.model_device.specs.Gadget.{IsGadget}
use Rattle.model_device.specs.Meaning.{Meaning}
use Rattle.gate_history.specs.state.Ups.{Up, no_streams, stream_of}
use Rattle.direct_run.specs.Clients.{IsMove}
use Rattle.direct_run.specs.Moves.{World, Move, first_world, move, runs_from}
use Rattle.direct_device.specs.Direct.{Direct, first_direct}
use Rattle.direct_device.specs.Legal.{AreAllowed, all_answers}
use Rattle.direct_proof.specs.Deeds.{as_deeds}
use Rattle.direct_proof.specs.Related.{Related}
use Rattle.direct_proof.specs.Runs.{AreDirectly, IsRun, urb_in}
use Rattle.direct_proof.specs.Shared.{Shared, view, way_of}
use Rattle.direct_proof.specs.Tagged.{Greeted}
use Rattle.direct_proof.proofs.built.Built.{keep-any}
use Rattle.direct_proof.proofs.meeting.First.{first_shared, first-related}
use Rattle.direct_proof.proofs.races.Gates.{runs-run}
use Rattle.direct_proof.proofs.shared.Keeps.{Keeps, keeps-then}

all-kept : {S : Type 0} (m : Meaning S) → IsGadget m → (w : World S) (j : Shared) → Related m w j → IsRun w.gate → (xs : List Move) → AllByRecursion IsMove xs → Keeps m w j (runs_from as_deeds m w xs)
all-kept m laws w j rel run [] are = record { later = j; related = rel; same = refl; legal = tt; outs = refl }
all-kept m laws w j rel run (x ∷ xs) are =
    let k = all-kept m laws w j rel run xs are.1 in
    keeps-then m w j (runs_from as_deeds m w xs) (move as_deeds m (runs_from as_deeds m w xs).world x) k (keep-any m laws (runs_from as_deeds m w xs).world k.later (runs-run m w run xs) k.related x are.0)

pub directly : {S : Type 0} (m : Meaning S) → IsGadget m → (w : World S) (j : Shared) → Related m w j → IsRun w.gate → (xs : List Move) → AllByRecursion IsMove xs → AreDirectly m w j xs
directly m laws w j rel run xs are = let k = all-kept m laws w j rel run xs are in record { later = k.later; related = k.related; same = k.same; legal = k.legal; given = k.outs }

-- ---- from the first world on

pub first-view : {S : Type 0} (s : S) → view (first_world s) first_shared ≡ first_direct s
first-view s = λ i. record (first_direct s) { way = λ ep. none (stream_of no_streams ep) ep i }
  where
    none : (up : Option Up) (ep : ℕ) → way_of up ep (Greeted ∷ []) ≡ []
    none None ep = refl
    none (Some up) ep = refl

pub first-direct : {S : Type 0} (m : Meaning S) → IsGadget m → (s : S) (xs : List Move) → AllByRecursion IsMove xs →
    AreAllowed m (first_direct s) (runs_from as_deeds m (first_world s) xs).told × (flat_map urb_in (runs_from as_deeds m (first_world s) xs).outs ≡ all_answers m (first_direct s) (runs_from as_deeds m (first_world s) xs).told)
first-direct {S = S} m laws s xs are =
    let k = directly m laws (first_world s) first_shared (first-related m s) ([], refl) xs are in
    (subst (λ (d : Direct S). AreAllowed m d (runs_from as_deeds m (first_world s) xs).told) (first-view s) k.legal, k.given ∙ ap (λ (d : Direct S). all_answers m d (runs_from as_deeds m (first_world s) xs).told) (first-view s))
