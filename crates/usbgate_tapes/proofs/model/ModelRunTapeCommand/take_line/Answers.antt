use Rattle.usbgate_tapes.proofs.lemmas.model.Modelled.{line-told}
use Rattle.usbgate_tapes.proofs.model.ModelRunTapeCommand.take_line.Goals as goal

pub returns-clause-goes : goal.returns-clause-goes
returns-clause-goes g c = λ first kept h.
    line-told g.G.Gadget.meaning first c.args.self.now c.print.new.self kept c.args.line.now c.in_ok-said.said c.do_line.new.system c.in_ok-told.field-0 c.in-Some.told c.args.text.now c.print.new.text
    c.in_ok-said.ensures.ok (λ stands. c.in_ok-told.ensures.takes first kept stands) c.in-Some.is c.in_ok-print.ensures.system c.in_ok-print.ensures.text c.in_ok-print.ensures.refused h
