use Rattle.std.specs.Prelude.{OnOk}
use Rattle.std.proofs.lemmas.Result.{on_ok_weaker}
use Rattle.usb_base.specs.Status.{is_success}
use Rattle.redir_host.proofs.lemmas.step.Makes.{changed_request, tells_done}
use Rattle.redir_host.proofs.state.host.Host.finish.Goals as goal

pub answer-requires-clause-request : goal.answer-requires-clause-request
answer-requires-clause-request g c =
    changed_request g.G.Gadget.meaning c.args.change c.args.table.now (is_success c.args.outcome.status) c.args.self.now c.change.new.self c.args.out.now c.change.new.out c.args.request.now c.requires.request c.in_ok-change.ensures.ok.makes

pub returns-clause-ok : goal.returns-clause-ok
returns-clause-ok g c =
    on_ok_weaker c.answer.result
    (λ e. tells_done g.G.Gadget.meaning c.args.table.now c.args.self.now c.change.new.self c.args.request.now c.args.change c.args.outcome c.args.out.now c.change.new.out c.answer.new.out c.in_ok-change.ensures.ok e)
    c.answer.ensures.ok
