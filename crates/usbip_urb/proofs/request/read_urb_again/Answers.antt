use Rattle.packet_stream.proofs.Formats.{read_again}
use Rattle.usbip_urb.specs.Requests.{requests}
use Rattle.usbip_urb.specs.Sound.Requests.{requests_sound}
use Rattle.usbip_urb.proofs.request.read_urb_again.Goals as goal

pub returns : goal.returns
returns c = λ p more fits. read_again requests requests_sound p more fits
