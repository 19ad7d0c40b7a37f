use Rattle.redir_host.proofs.lemmas.step.Acts.{act-host, act-out}
use Rattle.redir_host.proofs.laws.acts_add_items.Goals as goal

pub returns-clause-host : goal.returns-clause-host
returns-clause-host g c = act-host g.G.Gadget.meaning

pub returns-clause-out : goal.returns-clause-out
returns-clause-out g c = act-out g.G.Gadget.meaning
