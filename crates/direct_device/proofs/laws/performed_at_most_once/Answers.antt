use Rattle.direct_device.proofs.OnceTold.{items-fit}
use Rattle.direct_device.proofs.laws.performed_at_most_once.Goals as goal

pub returns : goal.returns
returns g c = items-fit g.G.Gadget.meaning
