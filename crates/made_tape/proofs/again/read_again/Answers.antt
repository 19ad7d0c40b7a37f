use Rattle.made_tape.proofs.Rounds.{tape-again}
use Rattle.made_tape.proofs.again.read_again.Goals as goal

pub returns : goal.returns
returns c = tape-again c.args.count c.requires
