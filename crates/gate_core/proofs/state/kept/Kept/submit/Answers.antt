use Rattle.std.proofs.Common.{◌≡◌, ◌+◌, ℕ, not, cond, true, false, refl, sym, ap, subst, ◌∙◌, arith, w32}
use Rattle.std.specs.List.{list_any}
use Rattle.usb_base.specs.declared.reason.Reason.TheVariants.{NotImported, DuplicateSeq}
use Rattle.usb_base.specs.declared.side.Side.TheVariants.{Client}
use Rattle.unlink_race.specs.Searches.{has_number}
use Rattle.usbip_urb.specs.declared.client.ClientPacket.TheVariants.{Urb}
use Rattle.usb_base.specs.Number.{capped}
use Rattle.gate_history.specs.declared.request.Request.{Request}
use Rattle.gate_history.specs.client.Requests.{request_of}
use Rattle.gate_history.specs.step.Marks.{Effect, Refuses}
use Rattle.gate_history.specs.state.State.{State, is_number, submits}
use Rattle.gate_history.specs.step.Meaning.{mark_as, refused, accepts, situation, verdict_of, asked_meaning}
use Rattle.gate_core.specs.declared.state.kept.Kept.{Kept}
use Rattle.gate_parts.specs.declared.write.outputs.Outputs.{Outputs}
use Rattle.gate_core.specs.inner.state.Holds.{Holds, Does}
use Rattle.gate_core.proofs.lemmas.state.Ids.{number-rows}
use Rattle.std.specs.Prelude.{FitsSigned, Result, OnOk, None}
use Rattle.std.proofs.lemmas.Int.{to_z-of_z}
use Rattle.gate_history.specs.declared.verdict.Verdict.{Verdict}
use Rattle.gate_history.specs.declared.verdict.Verdict.TheVariants.{Now, Wire, Routed, IsoOut}
use Rattle.gate_parts.proofs.lemmas.client.Directions.{StatusFits, verdict-fits}
use Rattle.gate_core.proofs.lemmas.client.Accept.{opens}
use Rattle.gate_core.proofs.lemmas.step.Quiet.{as-effect}
use Rattle.usbip_urb.specs.declared.packet.Submit.{Submit}
use Rattle.usbip_urb.specs.declared.packet.UrbPacket.TheVariants.{Submit as SubmitPacket}
use Rattle.gate_core.proofs.state.kept.Kept.submit.Goals as goal

further : (at place : ℕ) → place ≡ capped at → capped (place + 4) ≡ capped (at + 4)
further at place e = omega (arith, e)

-- one of a client that has imported the device, whose number is free, is accepted
is-accepted : (old : Kept) (st : State) (at : ℕ) (s : Submit) (r : Request) → Holds old st → r ≡ request_of s → old.sides.imported ≡ true → list_any (has_number s.head.seqnum) old.lives.live ≡ false →
    accepts st r (verdict_of st r) ≡ asked_meaning st at (Urb (SubmitPacket s))
is-accepted old st at s r h is imported free =
    let here = (λ j. (sym h.sides j).imported) ∙ imported in
    let none = sym (ap (list_any (has_number s.head.seqnum)) h.live ∙ number-rows s.head.seqnum st.live) ∙ free in
    ap (λ (q : Request). accepts st q (verdict_of st q)) is
    ∙ (λ i. cond (not (sym here i)) (refused Client at NotImported) (cond (sym none i) (refused Client (at + 4) DuplicateSeq) (accepts st (request_of s) (verdict_of st (request_of s)))))

-- and goes on by its verdict
goes-on : {T E : Type 0} (result : Result T E) (old new : Kept) (st : State) (at : ℕ) (s : Submit) (r : Request) (v : Verdict) (e : Effect) (out_old out_new : Outputs) →
    Holds old st → r ≡ request_of s → old.sides.imported ≡ true → list_any (has_number s.head.seqnum) old.lives.live ≡ false → e ≡ accepts st r v → v ≡ verdict_of st r →
    OnOk result (Does st (mark_as st e None) old new out_old out_new) → OnOk result (Does st (mark_as st (asked_meaning st at (Urb (SubmitPacket s))) None) old new out_old out_new)
goes-on result old new st at s r v e out_old out_new h is imported free does is-so =
    as-effect result st e (asked_meaning st at (Urb (SubmitPacket s))) old new out_old out_new (does ∙ ap (accepts st r) is-so ∙ is-accepted old st at s r h is imported free)

pub returns-then-has-clause-ok : goal.returns-then-has-clause-ok
returns-then-has-clause-ok c st at place h sound going =
    let s = c.args.submit in
    let here = (λ j. (sym h.sides j).imported) ∙ c.if-not-self.false in
    let live = ap (list_any (has_number s.head.seqnum)) h.live ∙ number-rows s.head.seqnum st.live in
    as-effect c.refuse_client-then-has.result st _ _ c.args.self.now c.refuse_client-then-has.new.self c.args.out.now c.refuse_client-then-has.new.out
    (ap (λ r. Refuses r) (c.client_refusal-then-has.ensures.value (at + 4) (c.saturating_add-place.ensures ∙ further at c.args.place place))
    ∙ (λ i. cond (not (sym here i)) (refused Client at NotImported) (cond (sym (sym live ∙ sym c.has.ensures ∙ c.if-has.true) i) (refused Client (at + 4) DuplicateSeq) (accepts st (request_of s) (verdict_of st (request_of s))))))
    (c.refuse_client-then-has.ensures.ok st h going)

pub returns-then-not-self-clause-ok : goal.returns-then-not-self-clause-ok
returns-then-not-self-clause-ok c st at place h sound going =
    let s = c.args.submit in
    as-effect c.refuse_client.result st _ _ c.args.self.now c.refuse_client.new.self c.args.out.now c.refuse_client.new.out
    (ap (λ r. Refuses r) (c.client_refusal.ensures.value at place)
    ∙ (λ i. cond (not (sym ((λ j. (sym h.sides j).imported) ∙ c.if-not-self.true) i)) (refused Client at NotImported) (cond (list_any (is_number s.head.seqnum) (submits st)) (refused Client (at + 4) DuplicateSeq) (accepts st (request_of s) (verdict_of st (request_of s))))))
    (c.refuse_client.ensures.ok st h going)

pub send_route-requires-clause-some : goal.send_route-requires-clause-some
send_route-requires-clause-some c = c.in-Routed.ensures.answered.sends

pub returns-in-Now-clause-ok : goal.returns-in-Now-clause-ok
returns-in-Now-clause-ok c st at place h sound going =
    let r = c.of-request.result in
    let now : Now c.in-Now.status ≡ verdict_of st r = sym (c.in-Now.is) ∙ c.verdict.ensures.value st h in
    let fits : FitsSigned w32 c.in-Now.status = subst StatusFits (sym now) (verdict-fits (situation st r) r) in
    goes-on c.answer_now.result c.args.self.now c.answer_now.new.self st at c.args.submit r _ _ c.args.out.now c.answer_now.new.out h c.of-request.ensures.value c.if-not-self.false (sym c.has.ensures ∙ c.if-has.false)
    (opens st r (Now _) refl) (ap (λ s. Now s) (to_z-of_z w32 c.in-Now.status fits) ∙ now) (c.answer_now.ensures.ok st h sound)

pub returns-in-Wire-clause-ok : goal.returns-in-Wire-clause-ok
returns-in-Wire-clause-ok c st at place h sound going =
    goes-on c.send.result c.args.self.now c.send.new.self st at c.args.submit c.of-request.result _ _ c.args.out.now c.send.new.out h c.of-request.ensures.value c.if-not-self.false (sym c.has.ensures ∙ c.if-has.false)
    (opens st c.of-request.result (Wire _) refl) (sym (c.in-Wire.is) ∙ c.verdict.ensures.value st h) (c.send.ensures.ok st h sound)

pub returns-in-Routed-clause-ok : goal.returns-in-Routed-clause-ok
returns-in-Routed-clause-ok c st at place h sound going =
    goes-on c.send_route.result c.args.self.now c.send_route.new.self st at c.args.submit c.of-request.result _ _ c.args.out.now c.send_route.new.out h c.of-request.ensures.value c.if-not-self.false (sym c.has.ensures ∙ c.if-has.false)
    (opens st c.of-request.result (Routed _) refl) (sym (c.in-Routed.is) ∙ c.verdict.ensures.value st h) (c.send_route.ensures.ok st h sound)

pub returns-in-IsoOut-clause-ok : goal.returns-in-IsoOut-clause-ok
returns-in-IsoOut-clause-ok c st at place h sound going =
    goes-on c.send_iso.result c.args.self.now c.send_iso.new.self st at c.args.submit c.of-request.result _ _ c.args.out.now c.send_iso.new.out h c.of-request.ensures.value c.if-not-self.false (sym c.has.ensures ∙ c.if-has.false)
    (opens st c.of-request.result (IsoOut _) refl) (sym (c.in-IsoOut.is) ∙ c.verdict.ensures.value st h) (c.send_iso.ensures.ok st h sound)

pub returns-in-Stream-clause-ok : goal.returns-in-Stream-clause-ok
returns-in-Stream-clause-ok c st at place h sound going =
    goes-on c.wait.result c.args.self.now c.wait.new.self st at c.args.submit c.of-request.result _ _ c.args.out.now c.wait.new.out h c.of-request.ensures.value c.if-not-self.false (sym c.has.ensures ∙ c.if-has.false)
    refl (sym (c.in-Stream.is) ∙ c.verdict.ensures.value st h) (c.wait.ensures.ok st h sound)
