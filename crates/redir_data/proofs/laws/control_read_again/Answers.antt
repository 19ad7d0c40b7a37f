use Rattle.redir_data.proofs.Written.{control_again}
use Rattle.redir_data.proofs.laws.control_read_again.Goals as goal

pub returns : goal.returns
returns c = control_again
