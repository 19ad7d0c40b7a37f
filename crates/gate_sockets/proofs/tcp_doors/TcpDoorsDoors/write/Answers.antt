use Rattle.std.proofs.Common.{◌≡◌, ◌+◌, IsTrue, ap, sym, subst, ◌∙◌, arith}
use Rattle.gate_outside.specs.Doors.{faulted}
use Rattle.gate_outside.specs.Link.{Link, other}
use Rattle.gate_sockets.specs.State.{State, States, state_of, link_of, untold}
use Rattle.gate_sockets.specs.Writing.{Waited, WritesFront}
use Rattle.gate_sockets.proofs.Calling.{sends-join, tried-again, given-up, called-untold, waited-untold}
use Rattle.gate_sockets.proofs.Sides.{read-both, read-further, read-same}
use Rattle.gate_sockets.proofs.tcp_doors.TcpDoorsDoors.write.Goals as goal

pub write_once-requires-clause-up : goal.write_once-requires-clause-up
write_once-requires-clause-up g c = subst (λ (l : Link). IsTrue l.up) (sym (waited-untold c.loop-tried.invariant.0)) c.requires.up

pub write_once-requires-2-clause-up : goal.write_once-requires-2-clause-up
write_once-requires-2-clause-up g c = subst (λ (l : Link). IsTrue l.up) (sym (waited-untold c.loop-tried.invariant.0)) c.requires.up

pub returns-in-Some-clause-side : goal.returns-in-Some-clause-side
returns-in-Some-clause-side g c =
    let side = c.args.side in
    let sends = sends-join c.loop-tried.invariant.0 c.in-Some.ensures.side in
    subst (λ (x : States _ _). WritesFront g.N.Stream.Connection.read_gives g.N.Stream.Connection.write_gives c.in-Some.count c.args.piece.now (state_of c.args.self.now side) (state_of x side)) (sym c.self.view_is) sends

pub returns-in-Some-clause-link : goal.returns-in-Some-clause-link
returns-in-Some-clause-link g c =
    let side = c.args.side in
    let sends = c.in-Some.ensures.side in
    let stands = called-untold sends.called ∙ waited-untold c.loop-tried.invariant.0 in
    (sends.some, sends.within, subst (λ (x : States _ _). link_of x side ≡ untold (state_of c.args.self.now side)) (sym c.self.view_is) stands)

pub returns-in-Some-clause-other : goal.returns-in-Some-clause-other
returns-in-Some-clause-other g c =
    let o = other c.args.side in
    let stands = ap (λ (s : State _). untold s) c.in-Some.ensures.other ∙ waited-untold c.loop-tried.invariant.1 in
    subst (λ (x : States _ _). link_of x o ≡ link_of c.args.self.now o) (sym c.self.view_is) stands

pub loop-tried-preserved : goal.loop-tried-preserved
loop-tried-preserved g c =
    let side = c.args.side in
    let on = read-both g.N.Stream.Connection.read_gives g.N.Stream.Connection.write_gives c.write_once.new.self c.wait_to_write.new.self c.wait_to_write.ensures.client c.wait_to_write.ensures.host in (
      tried-again c.loop-tried.invariant.0 c.in_default.ensures.side.0 (on side),
      read-further c.loop-tried.invariant.1 c.in_default.ensures.other (on (other side)),
      c.wait_to_write.ensures.door ∙ c.in_default.ensures.door ∙ c.loop-tried.invariant.2,
    )

pub returns-in-Some-write_once-clause-side : goal.returns-in-Some-write_once-clause-side
returns-in-Some-write_once-clause-side g c = sends-join c.loop-tried.invariant.0 c.in-Some-write_once.ensures.side

pub returns-in-Some-write_once-clause-link : goal.returns-in-Some-write_once-clause-link
returns-in-Some-write_once-clause-link g c =
    let sends = c.in-Some-write_once.ensures.side in
    (sends.some, sends.within, called-untold sends.called ∙ waited-untold c.loop-tried.invariant.0)

pub returns-in-Some-write_once-clause-other : goal.returns-in-Some-write_once-clause-other
returns-in-Some-write_once-clause-other g c = ap (λ (s : State _). untold s) c.in-Some-write_once.ensures.other ∙ waited-untold c.loop-tried.invariant.1

pub returns-in-None-clause-side : goal.returns-in-None-clause-side
returns-in-None-clause-side g c =
    let all : 1 + c.loop-tried.tried ≡ 1000001 = omega (arith, c.loop-tried-test.false, c.loop-tried.auto.tried-end) in
    given-up c.loop-tried.invariant.0 c.in-None.ensures.side.0 all c.in-None.ensures.side.1 c.fail.ensures.side

pub returns-in-None-clause-link : goal.returns-in-None-clause-link
returns-in-None-clause-link g c =
    ap (λ (s : State _). untold s) c.fail.ensures.side ∙ ap (λ (l : Link). faulted l) (waited-untold c.in-None.ensures.side.0 ∙ waited-untold c.loop-tried.invariant.0)

pub returns-in-None-clause-other : goal.returns-in-None-clause-other
returns-in-None-clause-other g c =
    ap (λ (s : State _). untold s) c.fail.ensures.other ∙ ap (λ (s : State _). untold s) c.in-None.ensures.other ∙ waited-untold c.loop-tried.invariant.1

pub returns-in-Some-clause-gives : goal.returns-in-Some-clause-gives
returns-in-Some-clause-gives g c =
    let r = g.N.Stream.Connection.read_gives in
    let w = g.N.Stream.Connection.write_gives in
    let side = c.args.side in
    let a = c.args.self.now in
    subst (λ (x : States _ _). WritesFront r w c.in-Some.count c.args.piece.now (state_of a side) (state_of x side) × Waited r w 0 (state_of a (other side)) (state_of x (other side)) × (x.door ≡ a.door))
    (sym c.self.view_is) (sends-join c.loop-tried.invariant.0 c.in-Some.ensures.side, read-same c.loop-tried.invariant.1 c.in-Some.ensures.other, c.in-Some.ensures.door ∙ c.loop-tried.invariant.2)

pub returns-in-Some-write_once-clause-gives : goal.returns-in-Some-write_once-clause-gives
returns-in-Some-write_once-clause-gives g c = (
  sends-join c.loop-tried.invariant.0 c.in-Some-write_once.ensures.side,
  read-same c.loop-tried.invariant.1 c.in-Some-write_once.ensures.other,
  c.in-Some-write_once.ensures.door ∙ c.loop-tried.invariant.2,
)

pub returns-in-None-clause-gives : goal.returns-in-None-clause-gives
returns-in-None-clause-gives g c =
    let all : 1 + c.loop-tried.tried ≡ 1000001 = omega (arith, c.loop-tried-test.false, c.loop-tried.auto.tried-end) in (
      given-up c.loop-tried.invariant.0 c.in-None.ensures.side.0 all c.in-None.ensures.side.1 c.fail.ensures.side,
      read-same c.loop-tried.invariant.1 (c.fail.ensures.other ∙ c.in-None.ensures.other),
      c.fail.ensures.door ∙ c.in-None.ensures.door ∙ c.loop-tried.invariant.2,
    )
