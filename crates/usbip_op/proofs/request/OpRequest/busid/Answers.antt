use Rattle.std.proofs.Common.{sym}
use Rattle.usbip_op.proofs.request.OpRequest.busid.Goals as goal

pub returns : goal.returns
returns c = (c.self.inside.status, sym c.self.view_is)
