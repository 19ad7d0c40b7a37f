use Rattle.std.proofs.Common.{◌||◌, sym, ◌∙◌}
use Rattle.gate_history.specs.state.Ids.{holds}
use Rattle.gate_history.specs.state.StreamIds.{ids_of_streams}
use Rattle.gate_parts.proofs.lemmas.state.Ids.{holds-all}
use Rattle.gate_parts.proofs.state.id.is_held.Goals as goal

pub returns-then-holds_id : goal.returns-then-holds_id
returns-then-holds_id c =
    c.if-holds_id.true ∙ (λ i. sym (sym c.holds_id.ensures ∙ c.if-holds_id.true) i || holds (ids_of_streams c.args.stream_ids.now) c.args.id) ∙ holds-all c.args.id c.args.lives.now c.args.stream_ids.now

pub returns-else-holds_id : goal.returns-else-holds_id
returns-else-holds_id c =
    c.holds.ensures ∙ (λ i. sym (sym c.holds_id.ensures ∙ c.if-holds_id.false) i || holds (ids_of_streams c.args.stream_ids.now) c.args.id) ∙ holds-all c.args.id c.args.lives.now c.args.stream_ids.now
