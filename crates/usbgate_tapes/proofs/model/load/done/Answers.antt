use Rattle.std.proofs.Common.{◌≡◌, ◌∷◌, [], Option, MatchOption, subst}
use Rattle.packet_show.specs.declared.tape.ModelLine.{ModelLine}
use Rattle.made_tape.specs.Rounds.{made_lines}
use Rattle.usbgate_tapes.proofs.lemmas.model.Doing.{one-more}
use Rattle.usbgate_tapes.proofs.model.load.done.Goals as goal

pub lines-preserved-in_ok-do_line : goal.lines-preserved-in_ok-do_line
lines-preserved-in_ok-do_line g c =
    let next : c.lines.tape ≡ c.in-Some.line ∷ c.next_line.new.self =
    subst (λ (o : Option ModelLine). MatchOption o (c.lines.tape ≡ []) (λ said. c.lines.tape ≡ said ∷ c.next_line.new.self)) c.in-Some.is c.in_ok-line.ensures.line in
    one-more g.G.Gadget.meaning c.args.gadget c.lines.system c.do_line.new.system c.lines.tape c.next_line.new.self (made_lines c.args.count) c.in-Some.line c.in_ok-do_line.field-0 next c.in_ok-do_line.ensures.takes c.lines.invariant

pub lines-preserved : goal.lines-preserved
lines-preserved g c =
    let next : c.lines.tape ≡ c.in-Some.line ∷ c.next_line.new.self =
    subst (λ (o : Option ModelLine). MatchOption o (c.lines.tape ≡ []) (λ said. c.lines.tape ≡ said ∷ c.next_line.new.self)) c.in-Some.is c.in_ok-line.ensures.line in
    one-more g.G.Gadget.meaning c.args.gadget c.lines.system c.do_line.new.system c.lines.tape c.next_line.new.self (made_lines c.args.count) c.in-Some.line c.in_ok-do_line.field-0 next c.in_ok-do_line.ensures.takes c.lines.invariant
