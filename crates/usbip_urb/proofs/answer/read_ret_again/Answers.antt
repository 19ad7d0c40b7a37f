use Rattle.packet_stream.proofs.Formats.{read_again}
use Rattle.usbip_urb.specs.Answers.{answers}
use Rattle.usbip_urb.proofs.Answers.{answers_sound}
use Rattle.usbip_urb.proofs.answer.read_ret_again.Goals as goal

pub returns : goal.returns
returns c = λ is_in p more fits. read_again (answers is_in) (answers_sound is_in) p more fits
