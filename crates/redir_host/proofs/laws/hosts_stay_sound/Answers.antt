use Rattle.redir_host.proofs.lemmas.guest.Sound.{keeps-packet}
use Rattle.redir_host.proofs.lemmas.state.Sound.{keeps-perform, keeps-offer, keeps-unplug}
use Rattle.redir_host.proofs.laws.hosts_stay_sound.Goals as goal

pub returns-clause-take : goal.returns-clause-take
returns-clause-take g c host header packet sound taken = (keeps-packet g.G.Gadget.meaning host header packet sound taken).sound

pub returns-clause-perform : goal.returns-clause-perform
returns-clause-perform g c host ep sound = (keeps-perform g.G.Gadget.meaning host ep sound).sound

pub returns-clause-offer : goal.returns-clause-offer
returns-clause-offer g c host ep sound = (keeps-offer g.G.Gadget.meaning host ep sound).sound

pub returns-clause-unplug : goal.returns-clause-unplug
returns-clause-unplug g c host sound = (keeps-unplug host sound).sound
