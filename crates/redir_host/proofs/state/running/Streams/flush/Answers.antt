use Rattle.std.proofs.Common.{◌∙◌, ap, filter, rules}
use Rattle.std.proofs.lemmas.Fn.{filter_same}
use Rattle.redir_host.specs.device.Changes.{runs_on}
use Rattle.redir_host.proofs.state.running.Streams.flush.Goals as goal

pub returns : goal.returns
returns c =
    filter_same _ (runs_on c.args.route.now c.args.table.now) _ (λ x b f' k. search rules) _ _ c.retain.ensures.filtered ∙ ap (filter (runs_on c.args.route.now c.args.table.now)) c.self.view_is
