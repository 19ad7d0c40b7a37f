use Rattle.packet_stream.proofs.Awaiting.{awaited_least, stays_short}
use Rattle.redir_wire.specs.Plain.{plain}
use Rattle.redir_wire.proofs.Awaits.{plain_patient}
use Rattle.redir_wire.proofs.next.next_control.Goals as goal

pub returns-clause-least : goal.returns-clause-least
returns-clause-least c =
    let a = c.args in
    awaited_least (plain a.state a.way) (plain_patient a.state a.way) a.bytes.now c.requires c.next_plain.result (c.next_plain.ensures a.way)

pub returns-clause-quiet : goal.returns-clause-quiet
returns-clause-quiet c =
    let a = c.args in
    stays_short (plain a.state a.way) (plain_patient a.state a.way) a.bytes.now c.requires c.next_plain.result (c.next_plain.ensures a.way)
