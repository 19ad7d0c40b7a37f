use Rattle.std.proofs.Common.{◌≡◌, ◌∙◌, ℕ, false, None, Result, OnOk, OnErr, sym, ap, subst, rules}
use Rattle.usb_base.specs.declared.memory.Memory.{Memory}
use Rattle.usb_base.specs.declared.refusal.Refusal.{Refusal}
use Rattle.usb_base.specs.declared.side.Side.TheVariants.{Client, Host}
use Rattle.usb_base.specs.Number.{capped}
use Rattle.usbip_urb.specs.declared.client.ClientPacket.{ClientPacket}
use Rattle.usbip_urb.specs.declared.client.ClientPacket.TheVariants.{Op, Urb}
use Rattle.usbip_urb.specs.declared.packet.UrbPacket.TheVariants as urb
use Rattle.usbip_urb.specs.Commands.{packet_of}
use Rattle.redir_data.specs.declared.packet.RedirPacket.TheVariants.{Plain, Carrying}
use Rattle.gate_history.specs.declared.item.Item.{Item}
use Rattle.gate_history.specs.declared.item.Item.TheVariants.{Asked, ClientWrong, ClientLeft, Told, HostWrong, HostLeft}
use Rattle.gate_history.specs.state.State.{State}
use Rattle.gate_history.specs.state.Sides.{refusal}
use Rattle.gate_history.specs.state.Sound.{IsSound}
use Rattle.gate_history.specs.step.Marks.{Refuses}
use Rattle.gate_history.specs.step.Meaning.{mark_as, mark_of, asked_meaning}
use Rattle.gate_history.specs.step.Past.{is_left_out}
use Rattle.gate_history.specs.step.Fits.{IsItem, ItemFits}
use Rattle.gate_history.specs.step.Wants.{GivesSome}
use Rattle.gate_parts.specs.declared.write.outputs.Outputs.{Outputs}
use Rattle.gate_core.specs.declared.state.kept.Kept.{Kept}
use Rattle.gate_core.specs.inner.state.Holds.{Holds, Does}
use Rattle.gate_core.proofs.lemmas.write.Gives.{asked-gives, refusal-gives}
use Rattle.gate_core.proofs.lemmas.write.InTurn.{on-err}
use Rattle.gate_core.proofs.step.translator.Translator.take.Goals.{in-Asked+in-Op, in-Asked+in-Urb+in-Submit, in-Asked+in-Urb+in-Unlink, in-ClientWrong, in-ClientLeft, in-Told+in-Plain, in-Told+in-Carrying, in-HostWrong, in-HostLeft, Joined-item}
use Rattle.gate_core.proofs.step.translator.Translator.take.Goals as goal

-- what the function that knows its kind does with an item
record Took (item : Item) (old : Kept) (out : Outputs) (result : Result (Unit {0}) Memory) (new : Kept) (out_new : Outputs) : Type 0 where
  ok : (st : State) (x : Item) → IsItem item x → Holds old st → IsSound st → is_left_out st x ≡ false → OnOk result (Does st (mark_of st x) old new out out_new)
  wants : (st : State) (x : Item) → IsItem item x → Holds old st → IsSound st → OnErr result (GivesSome st (mark_of st x))

module _ (item : Item) (old : Kept) (out : Outputs) (result : Result (Unit {0}) Memory) (new : Kept) (out_new : Outputs) where
  -- an end of a side
  took-end : (end : Item) → ((x : Item) → IsItem item x → x ≡ end) →
      ((st : State) → Holds old st → OnOk result (Does st (mark_of st end) old new out out_new)) →
      ((st : State) → Holds old st → OnErr result (GivesSome st (mark_of st end))) → Took item old out result new out_new
  took-end end is does gives = record {
    ok = λ st x i h sound comes. subst (λ (y : Item). OnOk result (Does st (mark_of st y) old new out out_new)) (sym (is x i)) (does st h);
    wants = λ st x i h sound. subst (λ (y : Item). OnErr result (GivesSome st (mark_of st y))) (sym (is x i)) (gives st h);
  }

  -- what stands at a place of a stream
  took-at : (place : ℕ) (at : ℕ → Item) → ((x : Item) → IsItem item x → (n : ℕ) × (place ≡ capped n) × (x ≡ at n)) →
      ((st : State) (n : ℕ) → place ≡ capped n → Holds old st → IsSound st → is_left_out st (at n) ≡ false → OnOk result (Does st (mark_of st (at n)) old new out out_new)) →
      ((st : State) (n : ℕ) → place ≡ capped n → Holds old st → IsSound st → OnErr result (GivesSome st (mark_of st (at n)))) → Took item old out result new out_new
  took-at place at is does gives = record {
    ok = λ st x i h sound comes.
        let w = is x i in
        subst (λ (y : Item). OnOk result (Does st (mark_of st y) old new out out_new)) (sym w.2) (does st w.0 w.1 h sound (subst (λ (y : Item). is_left_out st y ≡ false) w.2 comes));
    wants = λ st x i h sound. let w = is x i in subst (λ (y : Item). OnErr result (GivesSome st (mark_of st y))) (sym w.2) (gives st w.0 w.1 h sound);
  }

  -- a packet of the client
  took-asked : (place : ℕ) (packet : ClientPacket) → item ≡ Asked place packet → ItemFits old.sides.agreed item →
      ((st : State) (n : ℕ) → place ≡ capped n → Holds old st → IsSound st → st.sides.client_over ≡ false → OnOk result (Does st (mark_as st (asked_meaning st n packet) None) old new out out_new)) → Took item old out result new out_new
  took-asked place packet is fits does =
      took-at place (λ n. Asked n packet) (λ x i. subst (λ (r : Item). IsItem r x) is i) does
      (λ st n e h sound. on-err result _ (asked-gives st n packet (subst (λ (r : Item). ItemFits old.sides.agreed r) is fits)))

took : (c : Joined-item) → Took c.args.item c.args.self.now c.args.out.now c.match-item.taken c.match-item.self c.match-item.out
took c =
    let item = c.args.item in
    let old = c.self.inside.kept in
    let out = c.args.out.now in
    let fits : ItemFits old.sides.agreed item = subst (λ (k : Kept). ItemFits k.sides.agreed item) (sym c.self.view_is) c.requires in
    subst (λ (k : Kept). Took item k out c.match-item.taken c.match-item.self c.match-item.out) c.self.view_is (elim c.match-item.branch [
      | in-Asked+in-Op w ↦
          -- the packet is dropped behind the call
          let self-is : c.match-item.self ≡ w.answer_op.new.self = search rules in
          rw (w.taken-is, self-is, w.out-is)
          (took-asked item old out w.answer_op.result w.answer_op.new.self w.answer_op.new.out w.in-Asked.place (Op w.in-Op.request)
          (w.in-Asked.is ∙ ap (Asked w.in-Asked.place) w.in-Op.is) fits (λ st n e h sound over. w.answer_op.ensures.ok st n e h over))
      | in-Asked+in-Urb+in-Submit w ↦ rw (w.taken-is, w.self-is, w.out-is)
          (took-asked item old out w.submit.result w.submit.new.self w.submit.new.out w.in-Asked.place (Urb (urb.Submit w.in-Submit.submit))
          (w.in-Asked.is ∙ ap (Asked w.in-Asked.place) (w.in-Urb.is ∙ ap Urb (w.into_command.ensures ∙ ap packet_of w.in-Submit.is))) fits w.submit.ensures.ok)
      | in-Asked+in-Urb+in-Unlink w ↦ rw (w.taken-is, w.self-is, w.out-is)
          (took-asked item old out w.unlink.result w.unlink.new.self w.unlink.new.out w.in-Asked.place (Urb (urb.Unlink w.in-Unlink.unlink))
          (w.in-Asked.is ∙ ap (Asked w.in-Asked.place) (w.in-Urb.is ∙ ap Urb (w.into_command.ensures ∙ ap packet_of w.in-Unlink.is))) fits w.unlink.ensures.ok)
      | in-ClientWrong w ↦
          let reason = w.in-ClientWrong.reason in
          let call = w.refuse_client-taken in
          rw (w.taken-is, w.self-is, w.out-is)
          (took-at item old out call.result call.new.self call.new.out w.in-ClientWrong.place (λ n. ClientWrong n reason) (λ x i. subst (λ (r : Item). IsItem r x) w.in-ClientWrong.is i)
          (λ st n e h sound over. subst (λ (r : Refusal). OnOk call.result (Does st (mark_as st (Refuses r) None) old call.new.self out call.new.out)) (w.client_refusal.ensures.value n e) (call.ensures.ok st h over))
          (λ st n e h sound. on-err call.result _ (refusal-gives st (refusal Client n reason) None)))
      | in-ClientLeft w ↦
          let call = w.client_left-taken in
          rw (w.taken-is, w.self-is, w.out-is)
          (took-end item old out call.result call.new.self call.new.out ClientLeft (λ x i. subst (λ (r : Item). IsItem r x) w.in-ClientLeft.is i) call.ensures.ok call.ensures.wants)
      | in-Told+in-Plain w ↦
          let self-is : c.match-item.self ≡ w.told_control.new.self = search rules in
          rw (w.taken-is, self-is, w.out-is)
          (took-at item old out w.told_control.result w.told_control.new.self w.told_control.new.out w.in-Told.place (λ n. Told n w.in-Told.header (Plain w.in-Plain.packet))
          (λ x i. subst (λ (r : Item). IsItem r x) (w.in-Told.is ∙ ap (Told w.in-Told.place w.in-Told.header) w.in-Plain.is) i) w.told_control.ensures.ok w.told_control.ensures.wants)
      | in-Told+in-Carrying w ↦
          rw (w.taken-is, w.self-is, w.out-is)
          (took-at item old out w.told_data.result w.told_data.new.self w.told_data.new.out w.in-Told.place (λ n. Told n w.in-Told.header (Carrying w.in-Carrying.packet))
          (λ x i. subst (λ (r : Item). IsItem r x) (w.in-Told.is ∙ ap (Told w.in-Told.place w.in-Told.header) w.in-Carrying.is) i)
          (λ st n e h sound over. w.told_data.ensures.ok st n e h sound) w.told_data.ensures.wants)
      | in-HostWrong w ↦
          let reason = w.in-HostWrong.reason in
          let call = w.refuse_host-taken in
          rw (w.taken-is, w.self-is, w.out-is)
          (took-at item old out call.result call.new.self call.new.out w.in-HostWrong.place (λ n. HostWrong n reason) (λ x i. subst (λ (r : Item). IsItem r x) w.in-HostWrong.is i)
          (λ st n e h sound over. subst (λ (r : Refusal). OnOk call.result (Does st (mark_as st (Refuses r) None) old call.new.self out call.new.out)) (w.host_refusal.ensures.value n e) (call.ensures.ok st h))
          (λ st n e h sound. on-err call.result _ (refusal-gives st (refusal Host n reason) None)))
      | in-HostLeft w ↦
          let call = w.host_left-taken in
          rw (w.taken-is, w.self-is, w.out-is)
          (took-end item old out call.result call.new.self call.new.out HostLeft (λ x i. subst (λ (r : Item). IsItem r x) w.in-HostLeft.is i) call.ensures.ok call.ensures.wants)
    ])

pub returns-in-Ok-clause-ok : goal.returns-in-Ok-clause-ok
returns-in-Ok-clause-ok c st x is h sound comes = rw c.in-Ok.is at (took (goal.at.returns-in-Ok-clause-ok c).Joined-item).ok st x is h sound comes

pub returns-in-Err-clause-wants : goal.returns-in-Err-clause-wants
returns-in-Err-clause-wants c st x is h sound = rw c.in-Err.is at (took (goal.at.returns-in-Err-clause-wants c).Joined-item).wants st x is h sound
