use Rattle.usbip_urb.specs.Sound.Requests.{requests_sound}
use Rattle.usbip_urb.proofs.request.requests_sound.Goals as goal

pub returns : goal.returns
returns c = requests_sound
