use Rattle.redir_wire.proofs.Heads.{headers_sound}
use Rattle.redir_wire.proofs.laws.headers_sound.Goals as goal

pub returns : goal.returns
returns c = headers_sound
