use Rattle.redir_host.proofs.lemmas.step.Counted.{all-counted, answered-once, none-dropped, none-waiting, placed-once}
use Rattle.redir_host.proofs.lemmas.step.Replied.{all-sent, all-told}
use Rattle.redir_host.proofs.laws.answered_at_most_once.Goals as goal

pub returns-clause-placed : goal.returns-clause-placed
returns-clause-placed g c items place = placed-once items place

pub returns-clause-once : goal.returns-clause-once
returns-clause-once g c first items place = answered-once g.G.Gadget.meaning first items place

pub returns-clause-counted : goal.returns-clause-counted
returns-clause-counted g c first items test = all-counted g.G.Gadget.meaning first items test

pub returns-clause-kept : goal.returns-clause-kept
returns-clause-kept g c first items there = none-dropped g.G.Gadget.meaning first items there

pub returns-clause-gone : goal.returns-clause-gone
returns-clause-gone g c first items out = none-waiting g.G.Gadget.meaning first items out

pub returns-clause-sent : goal.returns-clause-sent
returns-clause-sent g c first items = all-sent g.G.Gadget.meaning first items

pub returns-clause-queue : goal.returns-clause-queue
returns-clause-queue g c first items = all-told g.G.Gadget.meaning first items
