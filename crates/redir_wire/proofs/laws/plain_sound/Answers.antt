use Rattle.redir_wire.proofs.Plain.{plain_sound}
use Rattle.redir_wire.proofs.laws.plain_sound.Goals as goal

pub returns : goal.returns
returns c = plain_sound
