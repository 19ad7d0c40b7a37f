use Rattle.std.proofs.Common.{drop, sym, ◌∙◌, arith}
use Rattle.std.proofs.lemmas.List.{take_all}
use Rattle.redir_wire.proofs.Words.{halves_at}
use Rattle.redir_wire.proofs.read.max_packet_at.Goals as goal

pub returns : goal.returns
returns c =
    let sizes = c.read_u16_into.new.dst in
    let read = halves_at (drop 96 c.args.bytes.now) sizes 64 32 (omega arith) (omega (arith, c.read_u16_into.auto.dst)) c.read_u16_into.ensures in
    sym (take_all 32 sizes (omega (arith, c.read_u16_into.auto.dst))) ∙ read
