use Rattle.std.proofs.Common.{◌||◌, sym, ap, ◌∙◌}
use Rattle.std.specs.List.{list_any}
use Rattle.gate_history.specs.state.StreamIds.{StreamIds, ids_of_streams}
use Rattle.gate_history.specs.state.Ids.{holds}
use Rattle.gate_parts.specs.state.Ids.{is_id}
use Rattle.gate_parts.proofs.lemmas.state.Ids.{holds-stream_ids, none-held}
use Rattle.gate_parts.proofs.state.stream_ids.StreamIds.holds.Goals as goal

pub returns-then-any_is : goal.returns-then-any_is
returns-then-any_is c =
    let its : StreamIds = record { started = c.self.inside.started; stopped = c.self.inside.stopped } in
    c.if-any_is.true ∙ (λ i. sym (sym c.any_is.ensures ∙ c.if-any_is.true) i || list_any (is_id c.args.id) its.stopped) ∙ holds-stream_ids c.args.id its
    ∙ ap (λ (k : StreamIds). holds (ids_of_streams k) c.args.id) c.self.view_is

pub returns-else-any_is : goal.returns-else-any_is
returns-else-any_is c =
    let its : StreamIds = record { started = c.self.inside.started; stopped = c.self.inside.stopped } in
    c.any_is-else-any_is.ensures ∙ (λ i. sym (sym c.any_is.ensures ∙ c.if-any_is.false) i || list_any (is_id c.args.id) its.stopped) ∙ holds-stream_ids c.args.id its
    ∙ ap (λ (k : StreamIds). holds (ids_of_streams k) c.args.id) c.self.view_is

pub returns-else-id-self : goal.returns-else-id-self
returns-else-id-self c =
    let its : StreamIds = record { started = c.self.inside.started; stopped = c.self.inside.stopped } in
    none-held c.args.id c.self.inside.greatest its c.self.invariant c.if-id-self.false ∙ ap (λ (k : StreamIds). holds (ids_of_streams k) c.args.id) c.self.view_is
