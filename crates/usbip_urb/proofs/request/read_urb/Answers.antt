use Rattle.std.proofs.Common.{Ok, arith, rules}
use Rattle.packet_stream.specs.declared.read.Read.TheVariants.{Whole, Short}
use Rattle.packet_stream.proofs.Told.{answers_stands}
use Rattle.usbip_urb.specs.Heap.{takes_memory}
use Rattle.usbip_urb.specs.Requests.{requests}
use Rattle.usbip_urb.specs.Sound.Requests.{requests_sound}
use Rattle.usbip_urb.proofs.request.read_urb.Goals as goal

pub returns-in-Whole-clause-exact : goal.returns-in-Whole-clause-exact
returns-in-Whole-clause-exact c = search rules

pub returns-in-Whole-clause-stands : goal.returns-in-Whole-clause-stands
returns-in-Whole-clause-stands c = answers_stands takes_memory requests requests_sound c.args.bytes.now (λ i. omega (arith, c.type_inv.bytes i)) (Ok (Whole c.into_packet.result c.in-Whole.size)) (returns-in-Whole-clause-exact c)

pub returns-in-Short-clause-exact : goal.returns-in-Short-clause-exact
returns-in-Short-clause-exact c = search rules

pub returns-in-Short-clause-stands : goal.returns-in-Short-clause-stands
returns-in-Short-clause-stands c = answers_stands takes_memory requests requests_sound c.args.bytes.now (λ i. omega (arith, c.type_inv.bytes i)) (Ok Short) (returns-in-Short-clause-exact c)

pub returns-in_err-request-clause-exact : goal.returns-in_err-request-clause-exact
returns-in_err-request-clause-exact c = search rules

pub returns-in_err-request-clause-stands : goal.returns-in_err-request-clause-stands
returns-in_err-request-clause-stands c = answers_stands takes_memory requests requests_sound c.args.bytes.now (λ i. omega (arith, c.type_inv.bytes i)) _ (returns-in_err-request-clause-exact c)
