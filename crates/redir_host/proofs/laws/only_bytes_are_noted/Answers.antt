use Rattle.std.proofs.Common.{[], List, ◌++◌, ap}
use Rattle.redir_host.specs.declared.write.note.HostNote.{HostNote}
use Rattle.redir_host.specs.write.Output.{host_of}
use Rattle.redir_host.proofs.lemmas.device.Silent.{perform-silent, offer-silent, unplug-silent}
use Rattle.redir_host.proofs.laws.only_bytes_are_noted.Goals as goal

pub returns-clause-perform : goal.returns-clause-perform
returns-clause-perform g c first acts ep = let m = g.G.Gadget.meaning in ap (λ (ns : List HostNote). ns ++ []) (perform-silent m (host_of m first acts) ep)

pub returns-clause-offer : goal.returns-clause-offer
returns-clause-offer g c first acts ep = let m = g.G.Gadget.meaning in ap (λ (ns : List HostNote). ns ++ []) (offer-silent m (host_of m first acts) ep)

pub returns-clause-unplug : goal.returns-clause-unplug
returns-clause-unplug g c first acts = let m = g.G.Gadget.meaning in ap (λ (ns : List HostNote). ns ++ []) (unplug-silent (host_of m first acts))
