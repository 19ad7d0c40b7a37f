use Rattle.usbip_urb.proofs.Answers.{answers_sound}
use Rattle.usbip_urb.proofs.answer.answers_sound.Goals as goal

pub returns : goal.returns
returns c = answers_sound
