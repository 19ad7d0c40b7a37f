-- What the stops of a client's end take of a gateway is true of each that has taken items.
use Rattle.std.proofs.Common.{◌≡◌, length, None, arith}
use Rattle.gate_history.specs.state.Flight.{wide_ids}
use Rattle.gate_history.specs.state.Ids.{greatest}
use Rattle.gate_history.specs.write.Packets.{stops}
use Rattle.gate_history.specs.state.State.{State, flying}
use Rattle.gate_history.specs.state.Ups.{is_ended}
use Rattle.gate_history.proofs.lemmas.state.StreamIds.{few-stops}
use Rattle.gate_history.proofs.lemmas.state.Draws.{draws-fresh}
use Rattle.direct_proof.specs.Runs.{IsRun}
use Rattle.direct_proof.proofs.races.Gates.{run-sound}
use Rattle.direct_proof.proofs.streams.gates.Gates.{few-flying, many}
use Rattle.direct_proof.proofs.streams.gates.GateRuns.{run-long, run-unstopped}
use Rattle.direct_proof.proofs.leaving.LeftWire.{IsStopping}

pub run-stopping : (st : State) → IsRun st → length st.streams ≡ 32 → IsStopping st
run-stopping st r places =
    let sound = run-sound st r in
    let long = run-long st r in record {
      long = long;
      fresh =
          let a = few-flying st sound long in
          let b = many (wide_ids st.sides.agreed) in
          let c = few-stops (is_ended None) st.streams in
          draws-fresh (greatest (wide_ids st.sides.agreed)) (flying st) st.last (length (stops (is_ended None) st.streams)) (omega (arith, a, b, c, places));
      unstopped = (run-unstopped st r).fresh;
    }
