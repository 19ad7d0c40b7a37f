use Rattle.std.specs.Prelude.{ℕ}
use Rattle.packet_stream.specs.Takers.{taken_by, TakesMany}
use Rattle.packet_stream.proofs.Takers.{left_of}
use Rattle.packet_stream.proofs.taker.take_whole.Given as goal

abbrev pub invariant-packets : goal.invariant-packets
invariant-packets g l =
    let f = g.F.PacketFormat in
    let t = g.T.PacketTaker in
    (n : ℕ) × TakesMany (taken_by f.format f.after f.takes_memory t.Takes t.over_in) n (record { stream = l.fn.stream; taker = l.fn.taker }) (record { stream = l.stream; taker = l.taker })

abbrev pub decreases-packets : goal.decreases-packets
decreases-packets g l = left_of l.stream
