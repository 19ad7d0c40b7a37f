use Rattle.std.proofs.Common.{false, [], refl, ap, ◌∙◌}
use Rattle.packet_stream.specs.Streams.{StreamView}
use Rattle.gate_core.proofs.lemmas.step.Ends.{stands-first}
use Rattle.redir_wire.specs.declared.state.RedirState.{RedirState}
use Rattle.gate_core.proofs.step.inner.Inner.make.Goals as goal

pub returns : goal.returns
returns c =
    let fresh : RedirState → StreamView RedirState = λ s. record { state = s; rest = []; place = 0; held = []; at = 0; over = false } in
    stands-first c.args.first_id _ refl c.in_ok-make.ensures c.new.ensures.kept (c.new-2.ensures.kept ∙ ap fresh c.start.ensures)
