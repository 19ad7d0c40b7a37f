use Rattle.std.proofs.Common.{◌≡◌, ◌++◌, take}
use Rattle.std.specs.Iterator.Adapters.{take_source, take_count}
use Rattle.std.specs.VecDeque.Iter.{deque_iter_rest}
use Rattle.usb_base.specs.Writes.{Begins}
use Rattle.stream_buffers.specs.Interrupt.{bodies}
use Rattle.stream_buffers.specs.Fillings.{filling_body}
use Rattle.stream_buffers.proofs.behind.Behind.append_bodies.Given as goal

-- with what fits of the packets that are left
abbrev pub invariant-loop-packet : goal.invariant-loop-packet
invariant-loop-packet l = record {
  begins : Begins l.fn.out l.out;
  sent : l.out ++ take l.room (bodies (take (take_count l.packet-iterator) (deque_iter_rest (take_source l.packet-iterator)))) ≡ l.fn.out ++ filling_body l.self l.fn.filling;
}
