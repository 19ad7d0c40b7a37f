use Rattle.std.proofs.Common.{arith}
use Rattle.unlink_race.specs.Searches.{waits_for}
use Rattle.gate_parts.specs.state.Rows.{IsFine}
use Rattle.gate_core.specs.inner.state.Holds.{IsRow}
use Rattle.gate_history.proofs.lemmas.Lists.{Each-weaker}
use Rattle.gate_core.proofs.lemmas.host.Fill.{kept-filled}
use Rattle.gate_core.proofs.state.kept.Kept.fill.Goals as goal

pub write_fillings-requires : goal.write_fillings-requires
write_fillings-requires c =
    let t = c.args.self.now in
    (t.sides.agreed, Each-weaker (IsRow t.sides.agreed) (IsFine t.sides.agreed) (λ l r. r.fine) t.lives.live c.requires.kept.rows)

pub returns-clause-kept : goal.returns-clause-kept
returns-clause-kept c =
    kept-filled c.args.self.now c.in_ok-filled.filled.requests (waits_for c.args.ep) c.finish_fronts.new.lives c.saturating_add-self.result c.requires.kept c.finish_fronts.ensures
    (omega (arith, c.saturating_add-self.ensures))
