use Rattle.std.proofs.Common.{arith}
use Rattle.redir_wire.proofs.Told.{told_stands}
use Rattle.redir_data.specs.Packets.{redir_packets, takes_memory}
use Rattle.redir_data.specs.sound.Joined.{redir_sound}
use Rattle.redir_data.proofs.redir.read_redir.Goals as goal

pub returns-clause-stands : goal.returns-clause-stands
returns-clause-stands c =
    let a = c.args in
    told_stands (redir_packets a.state a.way) (redir_sound a.state a.way) takes_memory a.bytes.now (λ i. omega (arith, c.type_inv.bytes i)) c.take_redir.result c.take_redir.ensures.exact
