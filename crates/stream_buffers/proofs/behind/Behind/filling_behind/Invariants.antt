use Rattle.std.proofs.Common.{◌≡◌, None, drop}
use Rattle.std.specs.VecDeque.Iter.{deque_iter_rest}
use Rattle.stream_buffers.specs.Interrupt.{fills}
use Rattle.stream_buffers.specs.Least.{least_below}
use Rattle.stream_buffers.specs.inner.Seen.{IsSeen}
use Rattle.stream_buffers.proofs.behind.Behind.filling_behind.Given as goal

abbrev pub invariant-loop-packet : goal.invariant-loop-packet
invariant-loop-packet l = record {
  is_seen : IsSeen l.max_packet l.self l.seen;
  left : deque_iter_rest l.packet-iterator ≡ drop l.seen.count l.self;
  none : least_below (fills l.max_packet l.wanted l.self) l.seen.count ≡ None;
}
