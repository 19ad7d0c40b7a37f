use Rattle.redir_data.proofs.Written.{data_again}
use Rattle.redir_data.proofs.laws.data_read_again.Goals as goal

pub returns : goal.returns
returns c = data_again
