-- What the lemmas of streams take of a gateway is true of each that has taken items.
use Rattle.std.proofs.Common.{◌≡◌, true, false, cond, List, [], ◌∷◌, length, refl, sym, subst}
use Rattle.control_route.specs.declared.route.Route.{Route}
use Rattle.gate_history.specs.state.StreamIds.{no_stream_ids}
use Rattle.gate_history.specs.declared.item.Item.{Item}
use Rattle.gate_history.specs.step.Machine.{with_mark, run as gate_run}
use Rattle.gate_history.specs.step.Meaning.{mark_of, meaning, told_by}
use Rattle.gate_history.specs.step.Past.{is_left_out}
use Rattle.gate_history.specs.state.State.{State}
use Rattle.gate_history.proofs.lemmas.state.StreamIds.{AreLong}
use Rattle.direct_run.specs.World.{first_id}
use Rattle.direct_proof.specs.Runs.{IsRun}
use Rattle.direct_proof.proofs.races.Gates.{run-sound}
use Rattle.direct_proof.proofs.streams.submits.Accepted.{IsGate}
use Rattle.direct_proof.proofs.streams.changes.ChangeWire.{IsChanging}
use Rattle.direct_proof.proofs.streams.gates.Unstopped.{Unstopped}
use Rattle.direct_proof.proofs.streams.gates.UnstoppedLaw.{unstopped-none, unstopped-after}
use Rattle.direct_proof.proofs.streams.gates.Gates.{is-gate, is-changing, long-after}

long-run : (xs : List Item) → AreLong (gate_run first_id xs).stream_ids
long-run [] = record { started = refl; stopped = refl }
long-run (x ∷ xs) =
    elim (is_left_out (gate_run first_id xs) x) as (λ b. AreLong (cond b (gate_run first_id xs) (with_mark (gate_run first_id xs) (mark_of (gate_run first_id xs) x))).stream_ids)
    [ true ↦ long-run xs | false ↦ long-after (gate_run first_id xs) (mark_of (gate_run first_id xs) x) (long-run xs) ]

unstopped-run : (xs : List Item) → Unstopped (gate_run first_id xs).streams (gate_run first_id xs).stream_ids
unstopped-run [] = unstopped-none no_stream_ids
unstopped-run (x ∷ xs) =
    elim (is_left_out (gate_run first_id xs) x) as (λ b. Unstopped (cond b (gate_run first_id xs) (with_mark (gate_run first_id xs) (mark_of (gate_run first_id xs) x))).streams (cond b (gate_run first_id xs) (with_mark (gate_run first_id xs) (mark_of (gate_run first_id xs) x))).stream_ids)
    [ true ↦ unstopped-run xs | false ↦ unstopped-after (gate_run first_id xs) (meaning (gate_run first_id xs) x) (told_by x) (unstopped-run xs) ]

pub run-long : (st : State) → IsRun st → AreLong st.stream_ids
run-long st r = subst (λ (s : State). AreLong s.stream_ids) (sym r.1) (long-run r.0)

pub run-unstopped : (st : State) → IsRun st → Unstopped st.streams st.stream_ids
run-unstopped st r = subst (λ (s : State). Unstopped s.streams s.stream_ids) (sym r.1) (unstopped-run r.0)

pub run-gate : (st : State) → IsRun st → IsGate st
run-gate st r = is-gate st (run-sound st r) (run-long st r)

pub run-changing : (st : State) (x : Route) → IsRun st → length st.streams ≡ 32 → IsChanging st x
run-changing st x r places = is-changing st x (run-sound st r) (run-long st r) places (run-unstopped st r)
