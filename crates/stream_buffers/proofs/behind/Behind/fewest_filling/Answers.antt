use Rattle.stream_buffers.proofs.Fillings.{seen_too_few}
use Rattle.stream_buffers.proofs.behind.Behind.fewest_filling.Goals as goal

pub filling_behind-requires-clause-too_few : goal.filling_behind-requires-clause-too_few
filling_behind-requires-clause-too_few c = seen_too_few c.args.max_packet c.args.wanted c.args.self.now c.args.seen c.requires c.if-seen-wanted.true
