use Rattle.redir_data.specs.sound.Joined.{redir_sound}
use Rattle.redir_data.proofs.laws.packets_sound.Goals as goal

pub returns : goal.returns
returns c = redir_sound
