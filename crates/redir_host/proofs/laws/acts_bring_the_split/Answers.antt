use Rattle.redir_host.proofs.lemmas.guest.Arrivals.{guest-arrives}
use Rattle.redir_host.proofs.laws.acts_bring_the_split.Goals as goal

pub returns : goal.returns
returns c = guest-arrives
