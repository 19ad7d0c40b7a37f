use Rattle.std.proofs.Common.{refl, ap, sym, ◌≡◌, ◌∙◌, subst, ℕ, List, take, drop, length, ◌∷◌, ◌≤◌}
use Rattle.std.proofs.lemmas.Result.{on_ok_weaker}
use Rattle.gate_history.specs.step.Events.{ClientPiece, ClientEnd, HostPiece, host_bytes}
use Rattle.redir_host.specs.step.Acts.{Piece, Perform, Offer, Unplug, guest_bytes}
use Rattle.direct_run.specs.Steps.{step_of}
use Rattle.direct_run.specs.World.{course, after_step, sent_to_host, sent_to_gate, wire_to_host, wire_to_gate, happened, acted}
use Rattle.direct_run.specs.Trace.{told_by, told_of_event, told_of}
use Rattle.direct_system.specs.inner.Views.{kept_of}
use Rattle.direct_run.specs.declared.step.Step.{Step as RawStep}
use Rattle.direct_system.proofs.Taking.{act-step, act-takes, event-step, event-takes}
use Rattle.direct_run.proofs.Wires.{front-left, front-fits}
use Rattle.direct_system.proofs.inner.Inner.take.Goals as goal

pub returns-in-Client : goal.returns-in-Client
returns-in-Client g c = on_ok_weaker c.event.result (λ does first past stands.
    event-step g.G.Gadget.meaning first (kept_of c.args.self.now) (kept_of c.event.new.self) past c.args.step.now _ (ClientPiece c.in-Client.bytes.now) c.event.new.told stands (does (course g.G.Gadget.meaning first past).events stands.runs.gate) c.in-Client.is refl refl refl) c.event.ensures

pub returns-in-ClientEnd : goal.returns-in-ClientEnd
returns-in-ClientEnd g c = on_ok_weaker c.event-in-ClientEnd.result (λ does first past stands.
    event-step g.G.Gadget.meaning first (kept_of c.args.self.now) (kept_of c.event-in-ClientEnd.new.self) past c.args.step.now _ ClientEnd c.event-in-ClientEnd.new.told stands (does (course g.G.Gadget.meaning first past).events stands.runs.gate) c.in-ClientEnd.is refl refl refl) c.event-in-ClientEnd.ensures

pub returns-in-ToHost : goal.returns-in-ToHost
returns-in-ToHost g c = on_ok_weaker c.carry_to_host.result (λ does first past stands.
    let m = g.G.Gadget.meaning in
    let run = course m first past in
    let old = kept_of c.args.self.now in
    let n = c.in-ToHost.count in
    let piece-is : take n old.to_host ≡ take n (wire_to_host run) = ap (take n) stands.runs.to_host in
    act-takes m first old (kept_of c.carry_to_host.new.self) past (step_of c.args.step.now) (Piece (take n old.to_host)) c.carry_to_host.new.told (drop n old.to_host) stands (does first run.acts stands.runs.host)
    (ap (drop n) stands.runs.to_host ∙ front-left n 0 (guest_bytes run.acts) (sent_to_host run) stands.runs.host_had ∙ ap (λ (b : List ℕ). drop (length (guest_bytes (Piece b ∷ run.acts))) (sent_to_host run)) (sym piece-is))
    (subst (λ (b : List ℕ). length (guest_bytes (Piece b ∷ run.acts)) ≤ length (sent_to_host run)) (sym piece-is) (front-fits n (guest_bytes run.acts) (sent_to_host run) stands.runs.host_had))
    (ap (λ (x : RawStep). after_step m first run (step_of x)) c.in-ToHost.is ∙ ap (λ (b : List ℕ). acted run (Piece b)) (sym piece-is))
    (ap (λ (x : RawStep). told_by m first run (step_of x)) c.in-ToHost.is ∙ ap (λ (b : List ℕ). told_of m first run (Piece b)) (sym piece-is))) c.carry_to_host.ensures

pub returns-in-ToGate : goal.returns-in-ToGate
returns-in-ToGate g c = on_ok_weaker c.carry_to_gate.result (λ does first past stands.
    let m = g.G.Gadget.meaning in
    let run = course m first past in
    let old = kept_of c.args.self.now in
    let n = c.in-ToGate.count in
    let piece-is : take n old.to_gate ≡ take n (wire_to_gate m first run) = ap (take n) stands.runs.to_gate in
    event-takes m first old (kept_of c.carry_to_gate.new.self) past (step_of c.args.step.now) (HostPiece (take n old.to_gate)) c.carry_to_gate.new.told (drop n old.to_gate) stands (does run.events stands.runs.gate)
    (ap (drop n) stands.runs.to_gate ∙ front-left n 0 (host_bytes run.events) (sent_to_gate m first run) stands.runs.gate_had ∙ ap (λ (b : List ℕ). drop (length (host_bytes (HostPiece b ∷ run.events))) (sent_to_gate m first run)) (sym piece-is))
    (subst (λ (b : List ℕ). length (host_bytes (HostPiece b ∷ run.events)) ≤ length (sent_to_gate m first run)) (sym piece-is) (front-fits n (host_bytes run.events) (sent_to_gate m first run) stands.runs.gate_had))
    (ap (λ (x : RawStep). after_step m first run (step_of x)) c.in-ToGate.is ∙ ap (λ (b : List ℕ). happened run (HostPiece b)) (sym piece-is))
    (ap (λ (x : RawStep). told_by m first run (step_of x)) c.in-ToGate.is ∙ ap (λ (b : List ℕ). told_of_event run.events (HostPiece b)) (sym piece-is))) c.carry_to_gate.ensures

pub returns-in-Perform : goal.returns-in-Perform
returns-in-Perform g c = on_ok_weaker c.perform.result (λ does first past stands.
    act-step g.G.Gadget.meaning first (kept_of c.args.self.now) (kept_of c.perform.new.self) past c.args.step.now _ (Perform c.in-Perform.ep) c.perform.new.told stands (does first (course g.G.Gadget.meaning first past).acts stands.runs.host) c.in-Perform.is refl refl refl) c.perform.ensures

pub returns-in-Offer : goal.returns-in-Offer
returns-in-Offer g c = on_ok_weaker c.offer.result (λ does first past stands.
    act-step g.G.Gadget.meaning first (kept_of c.args.self.now) (kept_of c.offer.new.self) past c.args.step.now _ (Offer c.in-Offer.ep) c.offer.new.told stands (does first (course g.G.Gadget.meaning first past).acts stands.runs.host) c.in-Offer.is refl refl refl) c.offer.ensures

pub returns-in-Unplug : goal.returns-in-Unplug
returns-in-Unplug g c = on_ok_weaker c.unplug.result (λ does first past stands.
    act-step g.G.Gadget.meaning first (kept_of c.args.self.now) (kept_of c.unplug.new.self) past c.args.step.now _ Unplug c.unplug.new.told stands (does first (course g.G.Gadget.meaning first past).acts stands.runs.host) c.in-Unplug.is refl refl refl) c.unplug.ensures
