use Rattle.gate_history.proofs.lemmas.step.Refusals.{refusals-are, client-wrongs, host-wrongs}
use Rattle.gate_history.proofs.laws.refusals_have_causes.Goals as goal

pub returns : goal.returns
returns c = record { told = refusals-are; client = client-wrongs; host = host-wrongs }
