use Rattle.std.proofs.Common.{◌≡◌, ◌++◌, length}
use Rattle.gate_history.specs.state.Flight.{wide_ids}
use Rattle.gate_history.specs.state.Ids.{free_from, draw, greatest, Fits}
use Rattle.gate_history.specs.state.StreamIds.{ids_of_streams}
use Rattle.gate_parts.specs.state.Ids.{ids_in}
use Rattle.gate_history.proofs.lemmas.state.Search.{passes}
use Rattle.gate_parts.proofs.state.id.draw.Given as goal

-- the rest of the search finds what the whole does
abbrev pub invariant-loop-id : goal.invariant-loop-id
invariant-loop-id l = record {
  most : l.greatest ≡ greatest (wide_ids l.fn.caps);
  fits : Fits l.greatest l.id;
  same : free_from l.greatest (ids_in l.lives ++ ids_of_streams l.stream_ids) (length (ids_in l.lives ++ ids_of_streams l.stream_ids)) l.id ≡ draw (greatest (wide_ids l.fn.caps)) (ids_in l.lives ++ ids_of_streams l.stream_ids) l.last;
}

abbrev pub decreases-loop-id : goal.decreases-loop-id
decreases-loop-id l = passes l.greatest (ids_in l.lives ++ ids_of_streams l.stream_ids) (length (ids_in l.lives ++ ids_of_streams l.stream_ids)) l.id
