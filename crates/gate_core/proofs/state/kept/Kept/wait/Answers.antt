use Rattle.std.proofs.Common.{◌≡◌, ◌∙◌, ℕ, List, Option, Some, None, OnOk, ap, sym, subst}
use Rattle.std.specs.Prelude.{slice_set}
use Rattle.usb_base.specs.Endpoint.{endpoint_index}
use Rattle.gate_core.specs.declared.state.kept.Kept.{Kept}
use Rattle.gate_history.specs.state.Ups.{Up, stream_at}
use Rattle.gate_history.specs.declared.verdict.Verdict.TheVariants.{Stream}
use Rattle.gate_history.specs.step.Meaning.{mark_as, accepts}
use Rattle.gate_core.specs.inner.state.Holds.{Holds, Does}
use Rattle.gate_parts.proofs.lemmas.state.Places.{set-back}
use Rattle.gate_core.proofs.lemmas.host.Arrive.{on-ok, puts-back}
use Rattle.gate_core.proofs.lemmas.client.Wait.{does-join}
use Rattle.gate_core.proofs.state.kept.Kept.wait.Goals as goal

pub returns-in_default-clause-ok : goal.returns-in_default-clause-ok
returns-in_default-clause-ok c st h sound =
    let old = c.args.self.now in
    let r = c.args.request in
    let at : stream_at old.streams r.transfer.ep ≡ None = ap (stream_at old.streams) (sym c.ep-ep.ensures) ∙ sym c.in_default.ensures.up in
    let same : c.take.new.self ≡ old.streams =
    c.in_default.ensures.rest ∙ (λ i. slice_set old.streams (endpoint_index (c.ep-ep.ensures i)) (sym at i)) ∙ set-back old.streams (endpoint_index r.transfer.ep) None in
    subst
    (λ (ups : List (Option Up)). Holds (record old { streams = ups }) st → OnOk c.start.result (Does st (mark_as st (accepts st r (Stream c.args.row)) None) (record old { streams = ups }) c.start.new.self c.args.out.now c.start.new.out))
    same (λ k. c.start.ensures.ok st k sound) h

pub returns-clause-ok : goal.returns-clause-ok
returns-clause-ok c st h sound =
    let old = c.args.self.now in
    let r = c.args.request in
    let ep = c.ep-ep.ensures in
    let emptied : Kept = record old { streams = c.take.new.self } in
    let up = c.in-Some.up in
    let at : stream_at old.streams r.transfer.ep ≡ Some up = ap (stream_at old.streams) (sym ep) ∙ sym c.in-Some.ensures.up in
    on-ok c.join-joined.result
    (λ j s.
    does-join st sound r c.args.row up c.join-joined.new.up old emptied c.join-joined.new.self _ c.args.out.now c.join-joined.new.out h c.requires.kept
    c.requires.free.number_free at
    (ap (λ (ups : List (Option Up)). record old { streams = ups }) (c.in-Some.ensures.rest ∙ ap (λ (n : ℕ). slice_set old.streams (endpoint_index n) None) ep))
    j
    (ap (λ (ups : List (Option Up)). record c.join-joined.new.self { streams = ups }) (c.put.ensures ∙ ap (λ (n : ℕ). slice_set c.join-joined.new.self.streams (endpoint_index n) (Some c.join-joined.new.up)) ep))
    s)
    c.join-joined.ensures.joined c.join-joined.ensures.sent

pub returns-clause-err : goal.returns-clause-err
returns-clause-err c =
    puts-back c.join-joined.result c.args.self.now c.join-joined.new.self c.in-Some.up c.join-joined.new.up (endpoint_index c.ep-ep.result) c.take.new.self c.put.new.self c.args.out.now c.join-joined.new.out
    c.in-Some.ensures.rest c.in-Some.ensures.up c.put.ensures c.join-joined.ensures.same c.join-joined.ensures.same_up c.join-joined.ensures.err
