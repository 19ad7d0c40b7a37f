use Rattle.redir_data.proofs.Back.{control_back}
use Rattle.redir_data.proofs.laws.control_writes_back.Goals as goal

pub returns : goal.returns
returns c = control_back
