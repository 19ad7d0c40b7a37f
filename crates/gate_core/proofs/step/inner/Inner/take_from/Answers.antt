use Rattle.std.proofs.Common.{rules, refl, sym}
use Rattle.std.proofs.lemmas.Option.{IfSome_then}
use Rattle.gate_core.proofs.lemmas.step.Sides.{client_side, host_side}
use Rattle.gate_core.proofs.lemmas.step.Streams.{asked-fits, told-fits-next}
use Rattle.gate_core.proofs.lemmas.step.Pieces.{can-take}
use Rattle.gate_core.proofs.lemmas.step.Event.{asked-past, told-past}
use Rattle.gate_core.proofs.lemmas.step.Received.{client_way, host_way, borrows-come, takes-come}
use Rattle.gate_core.proofs.step.inner.Inner.take_from.Goals as goal

pub take_piece_from-requires-clause-takes : goal.take_piece_from-requires-clause-takes
take_piece_from-requires-clause-takes g c piece bytes now reaches new i changes nexts =
    can-take client_side asked-fits _ now piece (asked-past c.args.self.now c.requires.past) bytes reaches new i changes nexts

pub take_piece_from-requires-in-Host-clause-takes : goal.take_piece_from-requires-in-Host-clause-takes
take_piece_from-requires-in-Host-clause-takes g c piece bytes now reaches new i changes nexts =
    can-take host_side told-fits-next _ now piece (told-past c.args.self.now c.requires.past) bytes reaches new i changes nexts

-- the translator is lent to the taker until the end
pub shape_of-self-in-Client : goal.shape_of-self-in-Client
shape_of-self-in-Client g c =
    let p = c.take_piece_from in
    sym (borrows-come client_side _ c.args.limit p.result _ (record { stream = p.new.stream; taker = p.new.taker }) _ _ p.ensures.came p.ensures.none).translator

pub shape_of-self-in-Host : goal.shape_of-self-in-Host
shape_of-self-in-Host g c =
    let p = c.take_piece_from-in-Host in
    sym (borrows-come host_side _ c.args.limit p.result _ (record { stream = p.new.stream; taker = p.new.taker }) _ _ p.ensures.came p.ensures.none).translator

pub returns-in-Client-clause-came : goal.returns-in-Client-clause-came
returns-in-Client-clause-came g c =
    let p = c.take_piece_from in
    let borrows = borrows-come client_side _ c.args.limit p.result _ (record { stream = p.new.stream; taker = p.new.taker }) _ _ p.ensures.came p.ensures.none in
    rw c.in-Client.is (IfSome_then p.result p.ensures.came (λ taken come. takes-come client_way c.args.self.now _ p.new.taker p.new.stream _ c.args.limit taken _ _ _ _ refl (search rules) (search rules) come))

pub returns-in-Host-clause-came : goal.returns-in-Host-clause-came
returns-in-Host-clause-came g c =
    let p = c.take_piece_from-in-Host in
    let borrows = borrows-come host_side _ c.args.limit p.result _ (record { stream = p.new.stream; taker = p.new.taker }) _ _ p.ensures.came p.ensures.none in
    rw c.in-Host.is (IfSome_then p.result p.ensures.came (λ taken come. takes-come host_way c.args.self.now _ p.new.taker p.new.stream _ c.args.limit taken _ _ _ _ refl (search rules) (search rules) come))
