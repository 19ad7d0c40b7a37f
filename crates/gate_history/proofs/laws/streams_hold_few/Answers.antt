use Rattle.gate_history.proofs.lemmas.state.StreamRoom.{few-held}
use Rattle.gate_history.proofs.laws.streams_hold_few.Goals as goal

pub returns : goal.returns
returns c = few-held
