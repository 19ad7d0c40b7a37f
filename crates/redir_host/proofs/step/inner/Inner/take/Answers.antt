use Rattle.std.proofs.Common.{rules, sym, is_some, arith}
use Rattle.redir_host.specs.inner.Views.{kept_of}
use Rattle.redir_host.specs.step.Acts.{guest_bytes}
use Rattle.redir_host.proofs.lemmas.guest.PieceEnds.{before, piece-ok, piece-err}
use Rattle.redir_host.proofs.lemmas.guest.Pieces.{borrows-piece, can-take, within}
use Rattle.redir_host.proofs.step.inner.Inner.take.Goals as goal

pub take_piece-requires : goal.take_piece-requires
take_piece-requires g c now reaches new i changes nexts =
    let m = g.G.Gadget.meaning in
    let acts = c.requires.1.0 in
    let piece = c.args.piece.now in
    let before = before m c.requires.0 (kept_of c.args.self.now) acts c.requires.1.1 in
    can-take m (guest_bytes acts) piece _ now new i (within m g.met.G.Gadget.lawful c.args.self.now.stream _ now (guest_bytes acts) piece (λ i. omega (arith, c.type_inv.piece i)) before reaches) changes nexts

-- the host is lent to the taker until the end
pub shape_of-self : goal.shape_of-self
shape_of-self g c =
    let p = c.take_piece in
    sym (borrows-piece g.G.Gadget.meaning p.result _ (record { stream = p.new.stream; taker = p.new.taker }) c.args.piece.now p.ensures).host

pub returns-clause-ok : goal.returns-clause-ok
returns-clause-ok g c =
    let m = g.G.Gadget.meaning in
    let p = c.take_piece in
    let borrows = borrows-piece m p.result _ (record { stream = p.new.stream; taker = p.new.taker }) c.args.piece.now p.ensures in
    piece-ok m g.met.G.Gadget.lawful (is_some c.args.self.now.want) p.result _ (record { stream = p.new.stream; taker = p.new.taker }) _ c.args.piece.now _ _ (λ i. omega (arith, c.type_inv.piece i))
    (search rules) (search rules) (search rules) p.ensures

pub returns-clause-err : goal.returns-clause-err
returns-clause-err g c =
    let m = g.G.Gadget.meaning in
    let p = c.take_piece in
    let borrows = borrows-piece m p.result _ (record { stream = p.new.stream; taker = p.new.taker }) c.args.piece.now p.ensures in
    piece-err m g.met.G.Gadget.lawful (is_some c.args.self.now.want) p.result _ (record { stream = p.new.stream; taker = p.new.taker }) c.args.piece.now _ (λ i. omega (arith, c.type_inv.piece i)) (search rules) p.ensures
