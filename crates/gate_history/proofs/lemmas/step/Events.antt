-- One event more is its items, one after another.
use Rattle.std.proofs.Common.{◌≡◌, ℕ, List, ◌∷◌, ◌++◌, sym, ap, ◌∙◌}
use Rattle.gate_history.specs.step.Events.{PastEvent}
use Rattle.gate_history.specs.step.Marks.{Mark}
use Rattle.gate_history.specs.state.State.{State, state_of}
use Rattle.gate_history.specs.step.History.{brought, arrivals, history}
use Rattle.gate_history.specs.write.All.{all_of}
use Rattle.gate_history.specs.step.Machine.{start, step, given, steps, given_by}
use Rattle.packet_stream.proofs.Outputs.{fold-onto, outputs-onto}
use Rattle.gate_history.proofs.lemmas.step.Runs.{state-run, all-run}

pub event-state : (first : ℕ) (events : List PastEvent) (e : PastEvent) → state_of first (history first (e ∷ events)) ≡ steps (state_of first (history first events)) (brought events e)
event-state first events e =
    state-run first (arrivals (e ∷ events))
    ∙ fold-onto step (start first) (brought events e) (arrivals events)
    ∙ ap (λ (st : State). steps st (brought events e)) (sym (state-run first (arrivals events)))

pub event-gives : {A : Type 0} (gives : State → Mark → List A) (first : ℕ) (events : List PastEvent) (e : PastEvent) →
    all_of gives first (history first (e ∷ events)) ≡ all_of gives first (history first events) ++ given_by gives (state_of first (history first events)) (brought events e)
event-gives gives first events e =
    all-run gives first (arrivals (e ∷ events))
    ∙ outputs-onto step (given gives) (start first) (brought events e) (arrivals events)
    ∙ (λ i. sym (all-run gives first (arrivals events)) i ++ given_by gives (sym (state-run first (arrivals events)) i) (brought events e))
