use Rattle.gate_history.proofs.lemmas.host.Losses.{ends-all}
use Rattle.gate_history.proofs.laws.losses_end_all.Goals as goal

pub returns : goal.returns
returns c = ends-all
