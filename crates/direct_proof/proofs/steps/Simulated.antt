-- What is shown of moves, of the steps that they follow.
use Rattle.std.proofs.Common.{◌≡◌, false, List, sym, ap, ◌∙◌, subst, [], refl, map}
use Rattle.model_device.specs.Gadget.{IsGadget}
use Rattle.model_device.specs.Meaning.{Meaning}
use Rattle.gate_history.specs.step.History.{history}
use Rattle.gate_history.specs.state.Sides.{host_over}
use Rattle.gate_history.specs.state.State.{State}
use Rattle.direct_run.specs.Follows.{AreMoves}
use Rattle.direct_run.specs.Known.{IsKnown}
use Rattle.direct_run.specs.Moves.{World, first_world, run, runs_from, as_items, as_submits}
use Rattle.direct_run.proofs.Tellings.{Alike, runs-alike}
use Rattle.direct_run.specs.Steps.{PastStep}
use Rattle.direct_run.specs.Trace.{trace}
use Rattle.direct_run.specs.World.{course, first_id}
use Rattle.direct_run.proofs.Courses.{steps-move}
use Rattle.direct_proof.specs.Deeds.{as_deeds}
use Rattle.direct_proof.specs.Runs.{AreDirectly, urb_in}
use Rattle.direct_proof.specs.Simulates.{RepliesFirst, Simulates}
use Rattle.direct_proof.proofs.built.Schedules.{directly, first-direct}
use Rattle.direct_proof.proofs.deeds.Same.{items-agree, unchanged, requests-agree}
use Rattle.direct_proof.proofs.meeting.First.{first_shared, first-related}
use Rattle.direct_proof.proofs.steps.Presented.{replies-first}
use Rattle.direct_proof.proofs.steps.Refusals.{never-refused}
use Rattle.direct_proof.proofs.steps.Unplugged.{quiet-behind}
use Rattle.direct_proof.proofs.deeds.Carried.{request}
use Rattle.std.specs.List.{flat_map}
use Rattle.direct_device.specs.Direct.{first_direct}
use Rattle.direct_device.specs.Legal.{AreAllowed, all_answers, item_of, request_in}

pub simulated : {S : Type 0} (m : Meaning S) → IsGadget m → (s : S) (steps : List PastStep) → IsKnown m s (course m s steps) → Simulates m s steps
simulated {S = S} m laws s steps known = record {
  direct = record {
    deeds = (runs_from as_deeds m (first_world s) h.moves).told;
    items-are = sym h.follows.items-are ∙ sym told.told;
    requests-are = ap (map request) (sym h.follows.accepted-are) ∙ sym (runs-alike (flat_map request_in) (map request) as_deeds as_submits requests-agree m (first_world s) h.moves).told;
    legal = legal.0;
    answers-are = ap (flat_map urb_in) (sym h.follows.outs ∙ sym told.outs) ∙ legal.1;
  };
  replies_first = subst (RepliesFirst m s (runs_from as_deeds m (first_world s) h.moves).told) (sym h.present-is) (replies-first m laws s h.moves h.legal);
  host_refuses = h.unrefused;
  gate_refuses = never-refused first_id (history first_id (course m s steps).events) still;
  unplugged = quiet-behind m s steps;
}
  where
    h : AreMoves m s (course m s steps) (trace m s steps)
    h = steps-move m s steps known

    end : AreDirectly m (first_world s) first_shared h.moves
    end = directly m laws (first_world s) first_shared (first-related m s) ([], refl) h.moves h.legal

    told : Alike (map item_of) unchanged (runs_from as_deeds m (first_world s) h.moves) (run as_items m s h.moves)
    told = runs-alike (map item_of) unchanged as_deeds as_items items-agree m (first_world s) h.moves

    legal : AreAllowed m (first_direct s) (runs_from as_deeds m (first_world s) h.moves).told × (flat_map urb_in (runs_from as_deeds m (first_world s) h.moves).outs ≡ all_answers m (first_direct s) (runs_from as_deeds m (first_world s) h.moves).told)
    legal = first-direct m laws s h.moves h.legal

    -- the host is read still
    still : host_over (history first_id (course m s steps).events) ≡ false
    still = sym (ap (λ (st : State). st.sides.host_over) h.follows.gate) ∙ ap (λ (w : World S). w.gate.sides.host_over) (sym told.world) ∙ end.related.sides.reads
