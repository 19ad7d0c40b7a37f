use Rattle.std.proofs.Common.{◌∙◌, ap, filter}
use Rattle.std.specs.Map.{values_of}
use Rattle.redir_host.specs.device.Changes.{stays}
use Rattle.redir_host.specs.inner.Waiting.{numbered}
use Rattle.redir_host.proofs.lemmas.state.Numbered.{filter_values}
use Rattle.redir_host.proofs.state.queue.Queue.flush.Goals as goal

pub returns : goal.returns
returns c =
    let s = stays c.args.route.now c.args.table.now in
    ap values_of c.flush.ensures.rest ∙ filter_values s (numbered c.self.inside.waiting) ∙ ap (filter s) c.self.view_is
