-- The lines that are still to come.
use Rattle.std.specs.Prelude.{◌-◌, List, ◌++◌, map}
use Rattle.packet_show.specs.declared.tape.ModelLine.{ModelLine}
use Rattle.made_tape.specs.declared.progress.Progress.{Progress}
use Rattle.made_tape.specs.Rounds.{said, rounds}

-- those of this round, and those of the rounds behind it
abbrev pub lines_left : Progress → List ModelLine
lines_left p = map (said p.round p.number) p.tasks.now ++ rounds (p.count - p.round) p.round p.number
