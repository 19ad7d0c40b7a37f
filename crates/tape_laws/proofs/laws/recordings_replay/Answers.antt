use Rattle.tape_laws.proofs.Ends.{replays}
use Rattle.tape_laws.proofs.laws.recordings_replay.Goals as goal

pub returns : goal.returns
returns c = replays
