use Rattle.std.proofs.Common.{ℕ, List, Err, drop, ap, ◌∙◌, sym, subst}
use Rattle.packet_stream.specs.Format.{reading}
use Rattle.packet_stream.specs.Reads.{Answers}
use Rattle.redir_wire.proofs.Says.{header_says}
use Rattle.redir_data.specs.Packets.{redir_packets, takes_memory}
use Rattle.redir_data.specs.inner.Past.{past_found}
use Rattle.redir_data.proofs.Front.{short, error_same, past}
use Rattle.redir_data.proofs.redir.take_redir.Goals as goal

pub returns-in-Err-clause-exact : goal.returns-in-Err-clause-exact
returns-in-Err-clause-exact g c =
    let a = c.args in
    subst (λ (b : List ℕ). Answers takes_memory (Err c.in-Err.error) (reading (redir_packets a.state a.way) b)) c.as_slice.ensures
    (error_same a.state a.way c.as_slice.result.now takes_memory c.in-Err.error c.in-Err.ensures.exact)

pub returns-in-Ok-Short-clause-exact : goal.returns-in-Ok-Short-clause-exact
returns-in-Ok-Short-clause-exact g c =
    let a = c.args in
    ap (reading (redir_packets a.state a.way)) (sym c.as_slice.ensures)
    ∙ short a.state a.way c.as_slice.result.now (rw c.in-Ok-Short.field-0-is at c.in-Ok-Short.ensures.exact)

pub returns-in-Ok-Whole-clause-exact : goal.returns-in-Ok-Whole-clause-exact
returns-in-Ok-Whole-clause-exact g c =
    let a = c.args in
    let w = c.in-Ok-Whole in
    let b = c.as_slice.result.now in
    let same = c.as_slice.ensures in
    let p = past a.state a.way b w.head w.size (rw w.field-0-is at w.ensures.stands).fits (rw w.field-0-is at w.ensures.exact) in
    subst (Answers takes_memory c.take_behind.result)
    (ap (λ (x : List ℕ). past_found a.state.caps a.way w.size w.head (drop w.size x)) (sym same) ∙ sym p ∙ ap (reading (redir_packets a.state a.way)) same)
    c.take_behind.ensures.exact

pub take_behind-requires-clause-its_length : goal.take_behind-requires-clause-its_length
take_behind-requires-clause-its_length g c =
    let w = c.in-Ok-Whole in
    (header_says (rw w.field-0-is at w.ensures.stands).fits).its_length
