use Rattle.std.proofs.Common.{◌<◌, ◌++◌, length, refl, sym, subst, ◌∙◌, arith}
use Rattle.gate_history.specs.state.Flight.{wide_ids}
use Rattle.gate_history.specs.state.Ids.{Fits}
use Rattle.gate_history.specs.state.StreamIds.{ids_of_streams}
use Rattle.gate_parts.specs.state.Ids.{ids_in}
use Rattle.gate_history.proofs.lemmas.state.Cycle.{after-fits}
use Rattle.gate_parts.proofs.lemmas.state.Ids.{large, few-all, fits-wide}
use Rattle.gate_history.proofs.lemmas.state.Search.{pass, stop}
use Rattle.gate_parts.proofs.state.id.draw.Goals as goal
use Rattle.gate_parts.proofs.state.id.draw.Goals.{After-id_after-id-in-loop-id}

-- more ids than are in flight
room : (c : After-id_after-id-in-loop-id) → length (ids_in c.args.lives.now ++ ids_of_streams c.args.stream_ids.now) < c.greatest-greatest.result
room c = let few = few-all c.args.lives.now c.args.stream_ids.now in omega (arith, large (wide_ids c.args.caps), c.loop-id.invariant.most, c.requires)

pub loop-id-smaller : goal.loop-id-smaller
loop-id-smaller c =
    let p = pass c.greatest-greatest.result (ids_in c.args.lives.now ++ ids_of_streams c.args.stream_ids.now) c.loop-id.id c.loop-id.invariant.fits (room c) (sym c.is_held.ensures ∙ c.loop-id-test.true) in
    rw c.id_after-id-in-loop-id.ensures p.1

pub loop-id-preserved : goal.loop-id-preserved
loop-id-preserved c =
    let p = pass c.greatest-greatest.result (ids_in c.args.lives.now ++ ids_of_streams c.args.stream_ids.now) c.loop-id.id c.loop-id.invariant.fits (room c) (sym c.is_held.ensures ∙ c.loop-id-test.true) in
    record {
      most = c.loop-id.invariant.most;
      fits = rw c.id_after-id-in-loop-id.ensures (after-fits c.greatest-greatest.result c.loop-id.id (omega (arith, room c)));
      same = rw c.id_after-id-in-loop-id.ensures (p.0 ∙ c.loop-id.invariant.same);
    }

pub loop-id-init : goal.loop-id-init
loop-id-init c =
    let some = large (wide_ids c.args.caps) in
    record {
      most = c.greatest-greatest.ensures;
      fits = rw c.id_after-id.ensures (after-fits c.greatest-greatest.result c.args.last (omega (arith, some, c.greatest-greatest.ensures)));
      same = rw (c.id_after-id.ensures, c.greatest-greatest.ensures) refl;
    }

pub returns-clause-value : goal.returns-clause-value
returns-clause-value c =
    sym (stop c.greatest-greatest.result (ids_in c.args.lives.now ++ ids_of_streams c.args.stream_ids.now) (length (ids_in c.args.lives.now ++ ids_of_streams c.args.stream_ids.now)) c.loop-id.id (sym c.is_held.ensures ∙ c.loop-id-test.false))
    ∙ c.loop-id.invariant.same

pub returns-clause-free : goal.returns-clause-free
returns-clause-free c = sym c.is_held.ensures ∙ c.loop-id-test.false

pub returns-clause-fits : goal.returns-clause-fits
returns-clause-fits c = fits-wide (wide_ids c.args.caps) c.loop-id.id (subst (λ m. Fits m c.loop-id.id) c.loop-id.invariant.most c.loop-id.invariant.fits)
