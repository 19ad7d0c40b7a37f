use Rattle.std.proofs.Common.{arith, rules, ◌≡◌, subst, ℕ, List}
use Rattle.usb_base.specs.Number.{AreBytes}
use Rattle.usb_base.specs.declared.reason.Reason.{Reason}
use Rattle.packet_stream.specs.Format.{Found, StandsAtFront, reading}
use Rattle.packet_stream.proofs.Formats.{stands}
use Rattle.redir_wire.specs.declared.packet.Header.{Header}
use Rattle.redir_wire.specs.declared.state.RedirState.{RedirState}
use Rattle.redir_wire.specs.declared.packet.Way.{Way}
use Rattle.redir_wire.specs.Header.{headers}
use Rattle.redir_wire.proofs.Heads.{headers_sound}
use Rattle.redir_wire.proofs.header.read_header.Goals as goal

stands-so : (s : RedirState) (way : Way) {found : Found Header Reason} (b : List ℕ) → AreBytes b → reading (headers s way) b ≡ found → StandsAtFront (headers s way) b found
stands-so s way b bytes e = subst (StandsAtFront (headers s way) b) e (stands (headers s way) (headers_sound s way) b bytes)

pub returns-then-bytes-lt4-clause-exact : goal.returns-then-bytes-lt4-clause-exact
returns-then-bytes-lt4-clause-exact c = search rules

pub returns-then-bytes-lt4-clause-stands : goal.returns-then-bytes-lt4-clause-stands
returns-then-bytes-lt4-clause-stands c = stands-so c.args.state c.args.way c.args.bytes.now (λ i. omega (arith, c.type_inv.bytes i)) (returns-then-bytes-lt4-clause-exact c)

pub returns-then-bytes-lt8-clause-exact : goal.returns-then-bytes-lt8-clause-exact
returns-then-bytes-lt8-clause-exact c = search rules

pub returns-then-bytes-lt8-clause-stands : goal.returns-then-bytes-lt8-clause-stands
returns-then-bytes-lt8-clause-stands c = stands-so c.args.state c.args.way c.args.bytes.now (λ i. omega (arith, c.type_inv.bytes i)) (returns-then-bytes-lt8-clause-exact c)

pub returns-then-bytes-size-clause-exact : goal.returns-then-bytes-size-clause-exact
returns-then-bytes-size-clause-exact c = search rules

pub returns-then-bytes-size-clause-stands : goal.returns-then-bytes-size-clause-stands
returns-then-bytes-size-clause-stands c = stands-so c.args.state c.args.way c.args.bytes.now (λ i. omega (arith, c.type_inv.bytes i)) (returns-then-bytes-size-clause-exact c)

pub returns-clause-exact : goal.returns-clause-exact
returns-clause-exact c = search rules

pub returns-clause-stands : goal.returns-clause-stands
returns-clause-stands c = stands-so c.args.state c.args.way c.args.bytes.now (λ i. omega (arith, c.type_inv.bytes i)) (returns-clause-exact c)
