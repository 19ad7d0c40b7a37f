use Rattle.std.proofs.Common.{ap, sym, subst, ◌∙◌, Some}
use Rattle.gate_sockets.specs.Calls.{broken_by}
use Rattle.gate_sockets.specs.State.{State}
use Rattle.gate_sockets.specs.Writing.{ReadOn}
use Rattle.gate_sockets.proofs.Calling.{read-ahead, read-whole, still-whole}
use Rattle.gate_sockets.proofs.socket.Socket.read_ahead.Goals as goal

pub returns-in-Moved : goal.returns-in-Moved
returns-in-Moved g c =
    read-whole c.self.view_is c.read_on.ensures c.in-Some.is (ap (λ z. broken_by z c.self.inside.broken) c.in-Moved.is)

pub returns-in-Blocked : goal.returns-in-Blocked
returns-in-Blocked g c =
    read-whole c.self.view_is c.read_on.ensures c.in-Some.is (sym (still-whole c.read_on.result c.self.inside.broken c.in-Blocked.is))

pub returns-in-Broken : goal.returns-in-Broken
returns-in-Broken g c =
    let i = c.self.inside in
    let r = g.S.Connection.read_gives in
    let w = g.S.Connection.write_gives in
    let old : State _ = record { stream = i.stream; ahead = i.ahead; broken = i.broken; rests = i.rests; faults = i.faults; idle = i.idle } in
    subst (λ s. ReadOn r w s c.break_off.new.self) c.self.view_is
    (read-ahead r w c.read_on.result c.in-Some.stream c.read_on.new.stream c.read_on.new.self old c.break_off.new.self c.read_on.ensures c.in-Some.is
    (c.break_off.ensures ∙ ap (λ z. record old { stream = Some c.read_on.new.stream; ahead = c.read_on.new.self; broken = broken_by z i.broken }) (sym c.in-Broken.is)))
