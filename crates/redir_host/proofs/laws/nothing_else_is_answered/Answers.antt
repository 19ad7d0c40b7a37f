use Rattle.redir_host.proofs.lemmas.step.Others.{all-known}
use Rattle.redir_host.proofs.laws.nothing_else_is_answered.Goals as goal

pub returns : goal.returns
returns g c first items = all-known g.G.Gadget.meaning first items
