use Rattle.std.proofs.Common.{false, [], refl, ap, ◌∙◌}
use Rattle.packet_stream.specs.Streams.{StreamView as Stream}
use Rattle.redir_host.proofs.lemmas.step.Stands.{stands-first}
use Rattle.redir_wire.specs.declared.state.RedirState.{RedirState}
use Rattle.redir_host.proofs.step.inner.Inner.new.Goals as goal

pub returns : goal.returns
returns g c =
    let fresh : RedirState → Stream RedirState = λ s. record { state = s; rest = []; place = 0; held = []; at = 0; over = false } in
    stands-first g.G.Gadget.meaning c.args.gadget _ refl (c.new.ensures.kept ∙ ap fresh c.start.ensures) c.new-2.ensures.host
