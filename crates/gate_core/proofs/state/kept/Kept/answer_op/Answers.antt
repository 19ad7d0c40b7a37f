use Rattle.std.proofs.Common.{◌∙◌, ap}
use Rattle.usbip_op.specs.Asked.{request_of}
use Rattle.gate_core.proofs.state.kept.Kept.answer_op.Goals as goal

pub returns-in-None-clause-ok : goal.returns-in-None-clause-ok
returns-in-None-clause-ok c st at place h going =
    let asked = c.busid.ensures in
    rw (asked.1 ∙ ap (request_of asked.0) c.in-None.is) (c.answer_list.ensures.ok st at asked.0 place h going)

pub returns-in-Some-clause-ok : goal.returns-in-Some-clause-ok
returns-in-Some-clause-ok c st at place h going =
    let asked = c.busid.ensures in
    rw (asked.1 ∙ ap (request_of asked.0) c.in-Some.is) (c.answer_import.ensures.ok st at asked.0 place h going)
