use Rattle.std.proofs.Common.{◌∙◌, ◌==◌, ℕ, ap, filter, not, rules}
use Rattle.std.proofs.lemmas.Fn.{filter_same}
use Rattle.redir_host.proofs.state.keys.Keys.remove.Goals as goal

pub returns : goal.returns
returns c =
    let test = λ (e : ℕ × ℕ). not (e.0 == c.args.number) in
    filter_same _ test _ (λ x b f' k. search rules) _ _ c.retain.ensures.filtered ∙ ap (filter test) c.self.view_is
