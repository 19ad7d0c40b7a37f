-- What a step makes of a system: it stands for it too, knows of it what it has to know, and told what it sends and
-- tells.
use Rattle.std.proofs.Common.{◌≡◌, ℕ, ◌≤◌, List, ◌∷◌, ◌++◌, length, drop, sym, ap, ◌∙◌, subst}
use Rattle.gate_history.specs.step.Events.{PastEvent, host_bytes}
use Rattle.model_device.specs.Meaning.{Meaning}
use Rattle.redir_host.specs.step.Acts.{Act, guest_bytes}
use Rattle.redir_host.specs.write.Output.{act_bytes}
use Rattle.direct_run.specs.declared.submitted.Submitted.{Submitted}
use Rattle.direct_run.specs.declared.told.Told.{Told}
use Rattle.direct_system.specs.Kept.{SystemKept}
use Rattle.direct_run.specs.Known.{IsKnown}
use Rattle.direct_run.specs.declared.step.Step.{Step as RawStep}
use Rattle.direct_run.specs.Steps.{PastStep, step_of}
use Rattle.direct_run.specs.World.{happened, acted, sent_to_host, sent_to_gate, after_step, course}
use Rattle.direct_run.specs.Trace.{untold, told_of_event, act_items, told_of, told_by}
use Rattle.direct_system.specs.Stands.{SystemRuns, SystemStands, TakesStep}
use Rattle.direct_system.specs.inner.Doing.{DoesEvent, DoesAct}
use Rattle.direct_run.proofs.Knowing.{knows-event, knows-act}
use Rattle.direct_system.proofs.Running.{event-runs, act-runs}

pub event-takes : {S : Type 0} (m : Meaning S) (s : S) (old new : SystemKept S) (steps : List PastStep) (x : PastStep) (e : PastEvent) (told : Told) (rest : List ℕ) →
    SystemStands m s old steps → DoesEvent (record old { to_gate = rest }) new (course m s steps).events e told →
    rest ≡ drop (length (host_bytes (e ∷ (course m s steps).events))) (sent_to_gate m s (course m s steps)) → length (host_bytes (e ∷ (course m s steps).events)) ≤ length (sent_to_gate m s (course m s steps)) →
    after_step m s (course m s steps) x ≡ happened (course m s steps) e → told_by m s (course m s steps) x ≡ told_of_event (course m s steps).events e → TakesStep m s new steps x told
event-takes {S = S} m s old new steps x e told rest h d rest-is fits same same-told = record {
  stands = record {
    works = ap (λ (k : SystemKept S). k.failed) d.new-is ∙ h.works;
    runs = subst (SystemRuns m s new) (sym same) (event-runs m s old new (course m s steps) e told rest h.runs d rest-is fits);
    known = subst (IsKnown m s) (sym same) (knows-event m s (course m s steps) e d.gate.client.fits d.gate.host.fits h.known);
    trace-is = ap (λ (k : SystemKept S). k.trace) d.new-is ∙ (λ i. h.trace-is i ++ (ap (λ (t : Told). t.items) (d.told-is ∙ sym same-told)) i);
  };
  told-is = d.told-is ∙ sym same-told;
}

pub act-takes : {S : Type 0} (m : Meaning S) (s : S) (old new : SystemKept S) (steps : List PastStep) (x : PastStep) (a : Act) (told : Told) (rest : List ℕ) →
    SystemStands m s old steps → DoesAct m s (record old { to_host = rest }) new (course m s steps).acts a told →
    rest ≡ drop (length (guest_bytes (a ∷ (course m s steps).acts))) (sent_to_host (course m s steps)) → length (guest_bytes (a ∷ (course m s steps).acts)) ≤ length (sent_to_host (course m s steps)) →
    after_step m s (course m s steps) x ≡ acted (course m s steps) a → told_by m s (course m s steps) x ≡ told_of m s (course m s steps) a → TakesStep m s new steps x told
act-takes {S = S} m s old new steps x a told rest h d rest-is fits same same-told = record {
  stands = record {
    works = ap (λ (k : SystemKept S). k.failed) d.new-is ∙ h.works;
    runs = subst (SystemRuns m s new) (sym same) (act-runs m s old new (course m s steps) a told rest h.runs d rest-is fits);
    known = subst (IsKnown m s) (sym same) (knows-act m s steps x a new.host same d.host h.known);
    trace-is = ap (λ (k : SystemKept S). k.trace) d.new-is ∙ (λ i. h.trace-is i ++ (ap (λ (t : Told). t.items) told-is) i);
  };
  told-is = told-is;
}
  where
    told-is : told ≡ told_by m s (course m s steps) x
    told-is = d.told-is ∙ ap (λ (l : List Submitted). record untold { from_host = act_bytes m s (course m s steps).acts a; items = act_items m s (course m s steps).acts l a }) h.runs.submits ∙ sym same-told

-- ---- a step that takes none of the bytes on their way

pub event-step : {S : Type 0} (m : Meaning S) (s : S) (old new : SystemKept S) (steps : List PastStep) (x x' : RawStep) (e : PastEvent) (told : Told) → (h : SystemStands m s old steps) → DoesEvent old new (course m s steps).events e told → x ≡ x' → host_bytes (e ∷ (course m s steps).events) ≡ host_bytes (course m s steps).events
    → after_step m s (course m s steps) (step_of x') ≡ happened (course m s steps) e → told_by m s (course m s steps) (step_of x') ≡ told_of_event (course m s steps).events e → TakesStep m s new steps (step_of x) told
event-step m s old new steps x x' e told h d is none after tells =
    let run = course m s steps in
    event-takes m s old new steps (step_of x) e told old.to_gate h d (h.runs.to_gate ∙ ap (λ (b : List ℕ). drop (length b) (sent_to_gate m s run)) (sym none)) (subst (λ (b : List ℕ). length b ≤ length (sent_to_gate m s run)) (sym none) h.runs.gate_had)
    (ap (λ (y : RawStep). after_step m s run (step_of y)) is ∙ after) (ap (λ (y : RawStep). told_by m s run (step_of y)) is ∙ tells)

pub act-step : {S : Type 0} (m : Meaning S) (s : S) (old new : SystemKept S) (steps : List PastStep) (x x' : RawStep) (a : Act) (told : Told) → (h : SystemStands m s old steps) → DoesAct m s old new (course m s steps).acts a told → x ≡ x' → guest_bytes (a ∷ (course m s steps).acts) ≡ guest_bytes (course m s steps).acts
    → after_step m s (course m s steps) (step_of x') ≡ acted (course m s steps) a → told_by m s (course m s steps) (step_of x') ≡ told_of m s (course m s steps) a → TakesStep m s new steps (step_of x) told
act-step m s old new steps x x' a told h d is none after tells =
    let run = course m s steps in
    act-takes m s old new steps (step_of x) a told old.to_host h d (h.runs.to_host ∙ ap (λ (b : List ℕ). drop (length b) (sent_to_host run)) (sym none)) (subst (λ (b : List ℕ). length b ≤ length (sent_to_host run)) (sym none) h.runs.host_had)
    (ap (λ (y : RawStep). after_step m s run (step_of y)) is ∙ after) (ap (λ (y : RawStep). told_by m s run (step_of y)) is ∙ tells)
