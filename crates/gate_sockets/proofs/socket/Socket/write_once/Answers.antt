use Rattle.std.proofs.Common.{◌≡◌, false, Some, ap, subst, sym, ◌∙◌}
use Rattle.gate_sockets.specs.State.{State}
use Rattle.gate_sockets.proofs.Calling.{wrote-once}
use Rattle.gate_sockets.proofs.socket.Socket.write_once.Goals as goal

pub returns : goal.returns
returns g c =
    let stream = c.in-Some.stream in
    let after = c.write_once.new.self in
    let up = ap (λ (s : State _). s.stream) (sym c.self.view_is) ∙ c.in-Some.is in
    let whole = subst (λ (s : State _). s.broken ≡ false) c.self.view_is c.if-self.false in
    let stands = ap (λ (s : State _). record s { stream = Some after }) c.self.view_is in
    wrote-once g.S.Connection.read_gives g.S.Connection.write_gives c.step_of-step.result c.take.result c.args.piece.now c.write_once.result stream after c.args.self.now _ c.take.new.self
    c.requires.some whole c.step_of-step.ensures.within up c.write_once.ensures.gives c.step_of-step.ensures.value stands c.take.ensures
