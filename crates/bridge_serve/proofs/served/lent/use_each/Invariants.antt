use Rattle.std.proofs.Common.{List, drop}
use Rattle.redir_host.specs.step.Acts.{Act}
use Rattle.redir_host.specs.step.Stands.{HostStands}
use Rattle.bridge_serve.specs.inner.Lending.{act_of}
use Rattle.bridge_serve.proofs.lemmas.served.Acts.{Midway}
use Rattle.bridge_serve.proofs.served.lent.use_each.Given as goal

abbrev pub invariant-loop-ep : goal.invariant-loop-ep
invariant-loop-ep g l = (first : g.row.G.Denot) (past : List Act) → HostStands g.G.Gadget.meaning first l.initial.core past
    → Midway (act_of l.initial.how) g.G.Gadget.meaning first l.core past l.eps (drop l.ep-index l.eps) l.initial.out l.out
