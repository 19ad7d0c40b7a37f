use Rattle.redir_host.proofs.lemmas.step.Statuses.{all-statuses}
use Rattle.redir_host.proofs.laws.streams_answered_at_once.Goals as goal

pub returns : goal.returns
returns g c first items = all-statuses g.G.Gadget.meaning first items
