use Rattle.std.proofs.Common.{◌≡◌, length}
use Rattle.tape_run.specs.inner.show.Show.{shown_by, ShowsSoFar}
use Rattle.tape_run.proofs.show.show_packets.Given as goal

abbrev pub invariant-packets : goal.invariant-packets
invariant-packets g l = record {
  over : l.stream.over ≡ l.initial.stream.over;
  goes : ShowsSoFar (shown_by g.F.ShownFormat.the_side g.F.PacketFormat.format g.F.PacketFormat.after g.F.ShownFormat.first_state g.F.ShownFormat.bytes g.F.ShownFormat.line) l.initial.stream l.stream l.initial.text l.text;
}

abbrev pub decreases-packets : goal.decreases-packets
decreases-packets g l = length l.stream.rest
