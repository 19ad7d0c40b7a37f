use Rattle.std.proofs.Common.{rules, sym, subst}
use Rattle.gate_history.specs.client.Carried.{IsRequest}
use Rattle.gate_history.proofs.lemmas.client.Carried.{is_request}
use Rattle.gate_history.proofs.request.Request.of.Goals as goal

pub returns-clause-whole : goal.returns-clause-whole
returns-clause-whole c = subst IsRequest (sym (search rules)) (is_request c.args.submit c.requires)
