use Rattle.std.proofs.Common.{arith, rules, ◌≡◌, subst, Bool, ℕ, List}
use Rattle.std.proofs.lemmas.Grind.{common_steps}
use Rattle.usb_base.specs.Number.{AreBytes}
use Rattle.usb_base.specs.declared.reason.Reason.{Reason}
use Rattle.packet_stream.specs.Format.{Found, StandsAtFront, reading}
use Rattle.packet_stream.proofs.Formats.{stands}
use Rattle.packet_stream.proofs.Told.{answers_stands}
use Rattle.usbip_urb.specs.declared.packet.UrbPacket.{UrbPacket}
use Rattle.usbip_urb.specs.Heap.{takes_memory}
use Rattle.usbip_urb.specs.Answers.{answers}
use Rattle.usbip_urb.proofs.Answers.{answers_sound}
use Rattle.usbip_urb.proofs.answer.read_ret.Goals as goal

stands-so : (is_in : Bool) {found : Found UrbPacket Reason} (b : List ℕ) → AreBytes b → reading (answers is_in) b ≡ found → StandsAtFront (answers is_in) b found
stands-so is_in b bytes e = subst (StandsAtFront (answers is_in) b) e (stands (answers is_in) (answers_sound is_in) b bytes)

pub returns-then-bytes-lt-HEAD_SIZE-clause-exact : goal.returns-then-bytes-lt-HEAD_SIZE-clause-exact
returns-then-bytes-lt-HEAD_SIZE-clause-exact c = grind (arith, common_steps)

pub returns-then-bytes-lt-HEAD_SIZE-clause-stands : goal.returns-then-bytes-lt-HEAD_SIZE-clause-stands
returns-then-bytes-lt-HEAD_SIZE-clause-stands c = stands-so c.args.is_in c.args.bytes.now (λ i. omega (arith, c.type_inv.bytes i)) (returns-then-bytes-lt-HEAD_SIZE-clause-exact c)

pub returns-then-be_u32_at-eq-USBIP_RET_SUBMIT-clause-exact : goal.returns-then-be_u32_at-eq-USBIP_RET_SUBMIT-clause-exact
returns-then-be_u32_at-eq-USBIP_RET_SUBMIT-clause-exact c = search rules

pub returns-then-be_u32_at-eq-USBIP_RET_SUBMIT-clause-stands : goal.returns-then-be_u32_at-eq-USBIP_RET_SUBMIT-clause-stands
returns-then-be_u32_at-eq-USBIP_RET_SUBMIT-clause-stands c =
    let is_in = c.args.is_in in
    answers_stands takes_memory (answers is_in) (answers_sound is_in) c.args.bytes.now (λ i. omega (arith, c.type_inv.bytes i)) c.read_ret_submit.result (returns-then-be_u32_at-eq-USBIP_RET_SUBMIT-clause-exact c)

pub returns-clause-exact : goal.returns-clause-exact
returns-clause-exact c = search rules

pub returns-clause-stands : goal.returns-clause-stands
returns-clause-stands c = stands-so c.args.is_in c.args.bytes.now (λ i. omega (arith, c.type_inv.bytes i)) (returns-clause-exact c)
