use Rattle.redir_data.proofs.Back.{data_back}
use Rattle.redir_data.proofs.laws.data_writes_back.Goals as goal

pub returns : goal.returns
returns c = data_back
