use Rattle.std.proofs.Common.{rules, refl, sym, arith}
use Rattle.gate_core.proofs.lemmas.step.Sides.{client_side, host_side}
use Rattle.gate_core.proofs.lemmas.step.Streams.{asked-fits, told-fits-next}
use Rattle.gate_core.proofs.lemmas.step.Pieces.{can-take, borrows-piece}
use Rattle.gate_core.proofs.lemmas.step.Event.{asked-past, told-past}
use Rattle.gate_core.proofs.lemmas.step.Received.{client_way, host_way, takes-way}
use Rattle.gate_core.proofs.step.inner.Inner.take.Goals as goal

pub take_piece-requires : goal.take_piece-requires
take_piece-requires c now reaches new i changes nexts =
    can-take client_side asked-fits _ now c.args.piece.now (asked-past c.args.self.now c.requires) (λ i. omega (arith, c.type_inv.piece i)) reaches new i changes nexts

pub take_piece-requires-in-Host : goal.take_piece-requires-in-Host
take_piece-requires-in-Host c now reaches new i changes nexts =
    can-take host_side told-fits-next _ now c.args.piece.now (told-past c.args.self.now c.requires) (λ i. omega (arith, c.type_inv.piece i)) reaches new i changes nexts

-- the translator is lent to the taker until the end
pub shape_of-self-in-Client : goal.shape_of-self-in-Client
shape_of-self-in-Client c =
    let p = c.take_piece in
    sym (borrows-piece client_side p.result _ (record { stream = p.new.stream; taker = p.new.taker }) c.args.piece.now p.ensures).translator

pub shape_of-self-in-Host : goal.shape_of-self-in-Host
shape_of-self-in-Host c =
    let p = c.take_piece-in-Host in
    sym (borrows-piece host_side p.result _ (record { stream = p.new.stream; taker = p.new.taker }) c.args.piece.now p.ensures).translator

pub returns-in-Client : goal.returns-in-Client
returns-in-Client c =
    let p = c.take_piece in
    let borrows = borrows-piece client_side p.result _ (record { stream = p.new.stream; taker = p.new.taker }) c.args.piece.now p.ensures in
    rw c.in-Client.is (takes-way client_way c.args.self.now _ p.new.taker p.new.stream p.result _ c.args.piece.now _ (λ i. omega (arith, c.type_inv.piece i)) refl (search rules) (search rules) p.ensures)

pub returns-in-Host : goal.returns-in-Host
returns-in-Host c =
    let p = c.take_piece-in-Host in
    let borrows = borrows-piece host_side p.result _ (record { stream = p.new.stream; taker = p.new.taker }) c.args.piece.now p.ensures in
    rw c.in-Host.is (takes-way host_way c.args.self.now _ p.new.taker p.new.stream p.result _ c.args.piece.now _ (λ i. omega (arith, c.type_inv.piece i)) refl (search rules) (search rules) p.ensures)
