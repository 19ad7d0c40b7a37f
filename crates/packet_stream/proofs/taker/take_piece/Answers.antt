use Rattle.packet_stream.proofs.Takers.{can-take-whole, takes-piece}
use Rattle.packet_stream.proofs.taker.take_piece.Goals as goal

pub take_whole-requires : goal.take_whole-requires
take_whole-requires g c = can-take-whole _ _ _ c.put.new.self c.args.piece.now c.in_ok-put.ensures.ok c.in_ok-put.ensures.follows c.requires

pub returns : goal.returns
returns g c = takes-piece _ c.take_whole.result _ c.put.new.self _ c.args.piece.now c.in_ok-put.ensures.ok c.in_ok-put.ensures.follows c.take_whole.ensures
