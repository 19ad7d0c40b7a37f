use Rattle.redir_host.proofs.lemmas.step.InOrder.{all-in-order}
use Rattle.redir_host.proofs.laws.performed_in_order.Goals as goal

pub returns : goal.returns
returns g c first items ep = all-in-order g.G.Gadget.meaning first items ep
