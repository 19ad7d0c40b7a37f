use Rattle.std.proofs.Common.{refl, suc}
use Rattle.packet_stream.proofs.Takers.{stops-there}
use Rattle.packet_stream.proofs.taker.take_whole.Goals as goal

pub packets-init : goal.packets-init
packets-init g c = (0, refl)

pub take_next-requires : goal.take_next-requires
take_next-requires g c = c.requires c.packets.invariant.0 _ c.packets.invariant.1

pub packets-preserved : goal.packets-preserved
packets-preserved g c = (suc c.packets.invariant.0, (_, (c.packets.invariant.1, rw c.if-branch.true at c.in_ok-take_next.ensures)))

pub returns-in_err-take_next : goal.returns-in_err-take_next
returns-in_err-take_next g c =
    stops-there _ c.from_residual.result c.packets.invariant.0 _ _ _ c.from_residual.ensures.1 c.packets.invariant.1 c.in_err-take_next.ensures

pub returns : goal.returns
returns g c = (c.packets.invariant.0, (_, (c.packets.invariant.1, rw c.if-branch.false at c.in_ok-take_next.ensures)))
