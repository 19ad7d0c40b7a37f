use Rattle.gate_history.specs.step.Past.{past}
use Rattle.gate_history.proofs.lemmas.step.Runs.{well}
use Rattle.gate_history.proofs.lemmas.client.Once.{alternate, answers-ends}
use Rattle.gate_history.proofs.laws.submits_end_once.Goals as goal

pub returns-clause-alternate : goal.returns-clause-alternate
returns-clause-alternate c = alternate

pub returns-clause-answered : goal.returns-clause-answered
returns-clause-answered c = λ first items. answers-ends first (past first items) (well first items)
