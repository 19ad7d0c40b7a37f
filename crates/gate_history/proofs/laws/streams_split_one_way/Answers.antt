-- src/laws.rt: `splits_well` says it of every format.
use Rattle.redir_data.specs.Streams.{stream_start}
use Rattle.gate_history.proofs.laws.streams_split_one_way.Goals as goal

pub returns-clause-host : goal.returns-clause-host
returns-clause-host c = c.splits_well-2.ensures stream_start
