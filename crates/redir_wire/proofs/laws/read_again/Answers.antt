use Rattle.redir_wire.proofs.Plain.{written_again}
use Rattle.redir_wire.proofs.laws.read_again.Goals as goal

pub returns : goal.returns
returns c = written_again
