use Rattle.packet_stream.proofs.Awaiting.{awaited_least, stays_short}
use Rattle.usbip_urb.specs.Requests.{requests}
use Rattle.usbip_urb.proofs.Awaits.{requests_patient}
use Rattle.usbip_urb.proofs.next.next_urb.Goals as goal

pub returns-clause-least : goal.returns-clause-least
returns-clause-least c = awaited_least requests requests_patient c.args.bytes.now c.requires c.next_request.result c.next_request.ensures

pub returns-clause-quiet : goal.returns-clause-quiet
returns-clause-quiet c = stays_short requests requests_patient c.args.bytes.now c.requires c.next_request.result c.next_request.ensures
