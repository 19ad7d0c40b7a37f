use Rattle.redir_host.proofs.lemmas.step.Replied.{run-in-line}
use Rattle.redir_host.proofs.laws.queues_are_lines.Goals as goal

pub returns-clause-queue : goal.returns-clause-queue
returns-clause-queue g c first items = (run-in-line g.G.Gadget.meaning first items).queue

pub returns-clause-reset : goal.returns-clause-reset
returns-clause-reset g c first items = (run-in-line g.G.Gadget.meaning first items).reset
