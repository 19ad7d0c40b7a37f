use Rattle.std.proofs.Common.{arith, rules, ◌≡◌, subst, Some, ℕ, List}
use Rattle.usb_base.specs.Number.{AreBytes}
use Rattle.usb_base.specs.declared.reason.Reason.{Reason}
use Rattle.packet_stream.specs.Format.{Found, StandsAtFront, reading}
use Rattle.packet_stream.proofs.Formats.{stands}
use Rattle.usbip_op.specs.declared.packet.OpPacket.{OpPacket}
use Rattle.usbip_op.specs.Requests.{requests}
use Rattle.usbip_op.proofs.Requests.{requests_sound}
use Rattle.usbip_op.proofs.read.read_request.Goals as goal

some-is : {X : Type 0} (x y : X) → Some x ≡ Some y → y ≡ x
some-is x y e = cc

stands-so : {found : Found OpPacket Reason} (b : List ℕ) → AreBytes b → Some found ≡ Some (reading requests b) → StandsAtFront requests b found
stands-so {found = found} b bytes e = subst (StandsAtFront requests b) (some-is found (reading requests b) e) (stands requests requests_sound b bytes)

pub returns-then-bytes-lt4-clause-exact : goal.returns-then-bytes-lt4-clause-exact
returns-then-bytes-lt4-clause-exact c = search rules

pub returns-then-bytes-lt4-clause-stands : goal.returns-then-bytes-lt4-clause-stands
returns-then-bytes-lt4-clause-stands c = stands-so c.args.bytes.now (λ i. omega (arith, c.type_inv.bytes i)) (returns-then-bytes-lt4-clause-exact c)

pub returns-then-bytes-lt-HEADER_SIZE-clause-exact : goal.returns-then-bytes-lt-HEADER_SIZE-clause-exact
returns-then-bytes-lt-HEADER_SIZE-clause-exact c = search rules

pub returns-then-bytes-lt-HEADER_SIZE-clause-stands : goal.returns-then-bytes-lt-HEADER_SIZE-clause-stands
returns-then-bytes-lt-HEADER_SIZE-clause-stands c = stands-so c.args.bytes.now (λ i. omega (arith, c.type_inv.bytes i)) (returns-then-bytes-lt-HEADER_SIZE-clause-exact c)

pub returns-then-be_u16_at-eq-OP_REQ_DEVLIST-clause-exact : goal.returns-then-be_u16_at-eq-OP_REQ_DEVLIST-clause-exact
returns-then-be_u16_at-eq-OP_REQ_DEVLIST-clause-exact c = search rules

pub returns-then-be_u16_at-eq-OP_REQ_DEVLIST-clause-stands : goal.returns-then-be_u16_at-eq-OP_REQ_DEVLIST-clause-stands
returns-then-be_u16_at-eq-OP_REQ_DEVLIST-clause-stands c = stands-so c.args.bytes.now (λ i. omega (arith, c.type_inv.bytes i)) (returns-then-be_u16_at-eq-OP_REQ_DEVLIST-clause-exact c)

pub returns-then-bytes-size-clause-exact : goal.returns-then-bytes-size-clause-exact
returns-then-bytes-size-clause-exact c = search rules

pub returns-then-bytes-size-clause-stands : goal.returns-then-bytes-size-clause-stands
returns-then-bytes-size-clause-stands c = stands-so c.args.bytes.now (λ i. omega (arith, c.type_inv.bytes i)) (returns-then-bytes-size-clause-exact c)

pub returns-clause-exact : goal.returns-clause-exact
returns-clause-exact c = search rules

pub returns-clause-stands : goal.returns-clause-stands
returns-clause-stands c = stands-so c.args.bytes.now (λ i. omega (arith, c.type_inv.bytes i)) (returns-clause-exact c)
