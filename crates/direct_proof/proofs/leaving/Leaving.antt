-- A client that has imported leaves, whatever of streams and requests is under way.
use Rattle.std.proofs.Common.{◌≡◌, true, false, None, sym, subst}
use Rattle.model_device.specs.Meaning.{Meaning}
use Rattle.gate_history.specs.step.Marks.{Effect}
use Rattle.gate_history.specs.step.Meaning.{mark_as}
use Rattle.gate_history.specs.write.Output.{cancels}
use Rattle.gate_history.specs.state.Sides.{ends_client, refuses_client, turned}
use Rattle.direct_run.specs.Moves.{World, gate_made}
use Rattle.direct_proof.specs.Deeds.{as_deeds}
use Rattle.direct_proof.specs.Related.{Related}
use Rattle.direct_proof.specs.Runs.{IsRun}
use Rattle.direct_proof.specs.Shared.{Shared}
use Rattle.direct_proof.proofs.clients.Leaves.{ClientGoes}
use Rattle.direct_proof.proofs.leaving.Left.{leaving-made}
use Rattle.direct_proof.proofs.leaving.LeftKept.{keep-left}
use Rattle.direct_proof.proofs.leaving.Stopping.{run-stopping}
use Rattle.direct_proof.proofs.shared.Keeps.{Keeps}

pub keep-gone : {S : Type 0} (m : Meaning S) (w : World S) (j : Shared) → Related m w j → IsRun w.gate → (e : Effect) → ClientGoes w.gate e → w.gate.sides.imported ≡ true → w.gate.sides.client_over ≡ false → Keeps m w j (gate_made as_deeds w (mark_as w.gate e None))
keep-gone m w j rel run e l inside there = subst (Keeps m w j) (sym (leaving-made w e l)) (keep-left m w j rel (run-stopping w.gate run rel.ups.count_is) inside (cancels e) (turned refuses_client ends_client e w.gate.sides.client_over) there)
