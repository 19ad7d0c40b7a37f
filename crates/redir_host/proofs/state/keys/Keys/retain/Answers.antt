use Rattle.std.proofs.Common.{◌∙◌, ℕ, ap, filter, is_some, rules}
use Rattle.std.proofs.lemmas.Fn.{filter_same}
use Rattle.slab.specs.Slab.{get}
use Rattle.redir_host.proofs.state.keys.Keys.retain.Goals as goal

pub returns : goal.returns
returns c =
    let test = λ (e : ℕ × ℕ). is_some (get c.args.requests.now e.1) in
    filter_same _ test _ (λ x b f' k. search rules) _ _ c.retain.ensures.filtered ∙ ap (filter test) c.self.view_is
