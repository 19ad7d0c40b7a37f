use Rattle.redir_wire.specs.Plain.{controls}
use Rattle.redir_wire.proofs.Past.{read_behind}
use Rattle.redir_wire.proofs.laws.read_by_parts.Goals as goal

pub returns : goal.returns
returns c = λ s way h b header plain. read_behind (controls s.caps) s way h b header plain
