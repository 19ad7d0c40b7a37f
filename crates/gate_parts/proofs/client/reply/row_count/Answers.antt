use Rattle.std.proofs.Common.{rules, ◌∙◌}
use Rattle.gate_parts.proofs.lemmas.client.Interfaces.{count-rows}
use Rattle.gate_parts.proofs.client.reply.row_count.Goals as goal

pub returns : goal.returns
returns c =
    let info = c.args.info.now in
    c.min.ensures ∙ count-rows info.count info.class info.subclass info.protocol (search rules) (search rules) (search rules)
