use Rattle.std.proofs.Common.{rules, ◌≡◌, ◌∷◌, w32, to_z, of_z}
use Rattle.unlink_race.specs.Searches.{ended_by}
use Rattle.gate_parts.specs.state.Rows.{ended_bytes}
use Rattle.gate_core.proofs.lemmas.write.Left.{begins-on, sent-left, fewer-left}
use Rattle.gate_core.proofs.state.kept.Kept.write_ends.Goals as goal

pub loop-live-preserved : goal.loop-live-preserved
loop-live-preserved c =
    let is : c.loop-live.live-iterator ≡ c.in-Some.live.now ∷ c.next.new.self = search rules in
    let was = c.loop-live.invariant in
    let more = c.in_ok-write_end_of.ensures.ok in (
      tt,
      tt,
      search rules,
      begins-on _ _ _ _ was.3 more,
      sent-left (ended_bytes c.args.end.now (to_z w32 (of_z w32 c.args.status))) _ _ _ _ _ _ is was.4 more,
      fewer-left (ended_by c.args.end.now) _ _ _ _ is was.5,
    )
