use Rattle.std.proofs.Common.{◌∙◌, ap, not, List, ◌++◌, ◌∷◌, [], rules}
use Rattle.std.proofs.lemmas.Fn.{filter_same}
use Rattle.redir_host.specs.declared.state.running.Running.{Running}
use Rattle.redir_host.specs.guest.Packets.{runs_at, stopped}
use Rattle.redir_host.proofs.state.running.Streams.start.Goals as goal

pub returns-clause-ok : goal.returns-clause-ok
returns-clause-ok c =
    let others = filter_same _ (λ s. not (runs_at c.args.ep s)) _ (λ x b f' k. search rules) _ _ c.retain.ensures.filtered in
    let here : List Running = record { ep = c.args.ep; kind = c.args.kind } ∷ [] in
    c.push_reserved.ensures.items ∙ ap (λ (l : List Running). l ++ here) (others ∙ ap (stopped c.args.ep) (c.in_ok-reserve.ensures.items ∙ c.self.view_is))
