use Rattle.std.proofs.Common.{◌≡◌, ◌∙◌, ◌∷◌, ℕ, List, Option, Some, None, ap, sym, subst, refl, arith}
use Rattle.std.specs.Prelude.{slice_set}
use Rattle.std.proofs.lemmas.Bool.{false≢true}
use Rattle.usb_base.specs.Endpoint.{endpoint_index}
use Rattle.gate_history.specs.declared.note.Note.TheVariants as note
use Rattle.gate_history.specs.step.Marks.{Idle}
use Rattle.gate_parts.specs.write.Outputs.{with_answers}
use Rattle.gate_core.specs.inner.host.Fill.{HasReceived, received_bytes, received_notes}
use Rattle.gate_core.specs.declared.state.kept.Kept.{Kept}
use Rattle.gate_history.specs.state.Ups.{Up, stream_at, stream_of}
use Rattle.gate_history.specs.step.Meaning.{mark_as, arrives}
use Rattle.gate_core.specs.inner.state.Holds.{Does}
use Rattle.gate_core.proofs.lemmas.step.Steady.{does-idle}
use Rattle.gate_parts.proofs.lemmas.state.Places.{set-back}
use Rattle.gate_core.proofs.lemmas.host.Arrive.{of-address, of-none, on-ok, puts-back, does-receive}
use Rattle.gate_history.specs.step.Wants.{GivesSome}
use Rattle.gate_core.proofs.lemmas.write.Gives.{by-coming}
use Rattle.gate_core.proofs.lemmas.write.InTurn as stopping
use Rattle.gate_core.proofs.state.kept.Kept.arrive.Goals as goal

pub returns-in_default-clause-ok : goal.returns-in_default-clause-ok
returns-in_default-clause-ok c st h sound =
    let k = c.requires.kept in
    subst (λ (o : Option Up). Does st (mark_as st (arrives st c.args.stream.endpoint c.args.stream.kind c.args.packet o) None) c.args.self.now c.args.self.now c.args.out.now c.args.out.now)
    (sym (of-none st.streams c.args.stream.endpoint (λ e. false≢true (c.in_default.ensures.is_some.1 e))))
    (does-idle st c.args.self.now c.args.out.now h k.answered_fits k.unlinked_fits k.dropped_fits)

pub returns-in_default-take-clause-ok : goal.returns-in_default-take-clause-ok
returns-in_default-take-clause-ok c st h sound =
    let k = c.requires.kept in
    let old = c.args.self.now in
    let at : stream_at old.streams c.args.stream.endpoint ≡ None = ap (stream_at old.streams) (sym c.in-Some.ensures.byte) ∙ sym c.in_default-take.ensures.up in
    let same : c.take.new.self ≡ old.streams =
    c.in_default-take.ensures.rest ∙ (λ i. slice_set old.streams (endpoint_index (c.in-Some.ensures.byte i)) (sym at i)) ∙ set-back old.streams (endpoint_index c.args.stream.endpoint) None in
    let there : stream_of st.streams c.args.stream.endpoint ≡ None =
    of-address st.streams c.args.stream.endpoint (c.in-Some.ensures.is_some.0 refl) ∙ ap (λ (ups : List (Option Up)). stream_at ups c.args.stream.endpoint) (sym h.streams) ∙ at in
    subst (λ (o : Option Up). Does st (mark_as st (arrives st c.args.stream.endpoint c.args.stream.kind c.args.packet o) None) old (record old { streams = c.take.new.self }) c.args.out.now c.args.out.now)
    (sym there)
    (subst (λ (ups : List (Option Up)). Does st (mark_as st Idle None) old (record old { streams = ups }) c.args.out.now c.args.out.now) (sym same)
    (does-idle st old c.args.out.now h k.answered_fits k.unlinked_fits k.dropped_fits))

pub returns-clause-ok : goal.returns-clause-ok
returns-clause-ok c st h sound =
    let old = c.args.self.now in
    let byte = c.in-Some.ensures.byte in
    let e = c.args.stream.endpoint in
    let between : Kept = record old { streams = c.take.new.self } in
    let at : stream_at old.streams e ≡ Some c.in-Some-take.up = ap (stream_at old.streams) (sym byte) ∙ sym c.in-Some-take.ensures.up in
    on-ok c.receive-received.result
    (λ r s.
    does-receive st sound e c.args.stream.kind c.args.packet c.in-Some-take.up c.receive-received.new.up old between c.receive-received.new.self _ c.args.out.now c.receive-received.new.out h
    c.requires.kept (c.in-Some.ensures.is_some.0 refl) at
    (ap (λ (ups : List (Option Up)). record old { streams = ups }) (c.in-Some-take.ensures.rest ∙ ap (λ (n : ℕ). slice_set old.streams (endpoint_index n) None) byte))
    (ap (λ (ups : List (Option Up)). record c.receive-received.new.self { streams = ups }) (c.put.ensures ∙ ap (λ (n : ℕ). slice_set c.receive-received.new.self.streams (endpoint_index n) (Some c.receive-received.new.up)) byte))
    (subst (λ (n : ℕ). HasReceived n c.args.stream.kind c.args.packet c.in-Some-take.up c.receive-received.new.up between c.receive-received.new.self) byte r)
    (s ∙ ap (λ (n : ℕ). with_answers c.args.out.now (received_bytes n c.args.stream.kind c.args.packet c.in-Some-take.up between.lives.live) (note.Arrived n ∷ received_notes n c.args.stream.kind c.args.packet c.in-Some-take.up between.lives.live)) byte))
    c.receive-received.ensures.received c.receive-received.ensures.sent

pub returns-clause-err : goal.returns-clause-err
returns-clause-err c =
    puts-back c.receive-received.result c.args.self.now c.receive-received.new.self c.in-Some-take.up c.receive-received.new.up (endpoint_index c.in-Some.ep) c.take.new.self c.put.new.self c.args.out.now c.receive-received.new.out
    c.in-Some-take.ensures.rest c.in-Some-take.ensures.up c.put.ensures c.receive-received.ensures.same c.receive-received.ensures.same_up c.receive-received.ensures.err

pub returns-clause-wants : goal.returns-clause-wants
returns-clause-wants c st h =
    let old = c.args.self.now in
    let e = c.args.stream.endpoint in
    let up = c.in-Some-take.up in
    let at : stream_at old.streams e ≡ Some up = ap (stream_at old.streams) (sym c.in-Some.ensures.byte) ∙ sym c.in-Some-take.ensures.up in
    let there : stream_of st.streams e ≡ Some up = of-address st.streams e (c.in-Some.ensures.is_some.0 refl) ∙ ap (λ (ups : List (Option Up)). stream_at ups e) (sym h.streams) ∙ at in
    stopping.on-err c.receive-received.result _
    (subst (λ (o : Option Up). GivesSome st (mark_as st (arrives st e c.args.stream.kind c.args.packet o) None)) (sym there) (by-coming st (arrives st e c.args.stream.kind c.args.packet (Some up)) None (omega arith)))
