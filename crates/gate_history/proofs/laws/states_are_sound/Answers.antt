use Rattle.gate_history.proofs.lemmas.state.Sound.{state-sound}
use Rattle.gate_history.proofs.laws.states_are_sound.Goals as goal

pub returns : goal.returns
returns c = state-sound
