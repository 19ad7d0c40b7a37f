use Rattle.std.proofs.Common.{arith}
use Rattle.gate_history.proofs.lemmas.state.StreamIds.{few-ids}
use Rattle.gate_core.proofs.state.kept.Kept.draw.Goals as goal

pub draw-requires : goal.draw-requires
draw-requires c = omega (arith, c.requires.few, c.requires.left, few-ids c.args.self.now.stream_ids (record { started = c.requires.started; stopped = c.requires.stopped }))
