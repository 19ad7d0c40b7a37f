use Rattle.std.proofs.Common.{◌∙◌, ap, not, rules}
use Rattle.std.proofs.lemmas.Fn.{filter_same}
use Rattle.redir_host.specs.guest.Packets.{runs_at, stopped}
use Rattle.redir_host.proofs.state.running.Streams.stop.Goals as goal

pub returns : goal.returns
returns c =
    filter_same _ (λ s. not (runs_at c.args.ep s)) _ (λ x b f' k. search rules) _ _ c.retain.ensures.filtered ∙ ap (stopped c.args.ep) c.self.view_is
