use Rattle.bridge_run.proofs.lemmas.log.Shared.{got-joined, got-sent, earlier-sent}
use Rattle.bridge_run.proofs.laws.clients_get_their_own.Goals as goal

pub returns : goal.returns
returns c = record { joined = got-joined; each = got-sent; earlier = earlier-sent }
