use Rattle.std.proofs.Common.{◌≡◌, ◌⊎◌, ℕ, None, OnOk, OnErr, sym, ap, subst, inl, inr}
use Rattle.usb_base.specs.Status.{status_of}
use Rattle.redir_wire.specs.declared.packet.Header.{Header}
use Rattle.redir_wire.specs.declared.packet.Hello.{Hello}
use Rattle.redir_wire.specs.declared.packet.RedirControl.{RedirControl}
use Rattle.redir_wire.specs.declared.packet.RedirControl.TheVariants as plain
use Rattle.redir_wire.specs.Capability.{announced, caps_of, agreed}
use Rattle.redir_data.specs.declared.packet.RedirPacket.TheVariants.{Plain}
use Rattle.gate_core.specs.declared.state.kept.Kept.{Kept}
use Rattle.gate_history.specs.step.Marks.{Mark, Effect, Agrees, StreamTold}
use Rattle.gate_history.specs.state.State.{State}
use Rattle.gate_history.specs.step.Meaning.{mark_as, fact_of, told_meaning}
use Rattle.gate_history.specs.step.Wants.{GivesSome}
use Rattle.gate_core.specs.inner.state.Holds.{Does}
use Rattle.gate_core.proofs.lemmas.host.Answer.{does-agree, told-other}
use Rattle.gate_core.proofs.state.kept.Kept.told_control.Goals as goal

pub returns-in-Hello-clause-ok : goal.returns-in-Hello-clause-ok
returns-in-Hello-clause-ok c st at place h sound going =
    let caps = agreed (caps_of c.get.result.now) announced in
    let k = c.requires.kept in
    rw c.in-Hello.is
    (subst (λ (hello : Hello). Does st (mark_as st (Agrees (agreed (caps_of hello) announced)) None) c.args.self.now c.agree.new.self c.args.out.now c.args.out.now) c.get.ensures
    (subst (λ (new : Kept). Does st (mark_as st (Agrees caps) None) c.args.self.now new c.args.out.now c.args.out.now) (sym c.agree.ensures.agreed)
    (does-agree st c.args.self.now caps c.args.out.now h k.answered_fits k.unlinked_fits k.dropped_fits)))

pub returns-in_default : goal.returns-in_default
returns-in_default c =
    record {
      kept = c.told_fact.ensures.kept;
      ok = λ st at place h sound going.
          subst (λ (e : Effect). OnOk c.told_fact.result (Does st (mark_as st e (fact_of (Plain c.args.packet.now))) c.args.self.now c.told_fact.new.self c.args.out.now c.told_fact.new.out))
          (sym (told-other st at c.args.header.now c.args.packet.now c.in_default.not-Hello c.in_default.not-Disconnect c.in_default.not-IsoStatus c.in_default.not-InterruptStatus))
          (c.told_fact.ensures.ok st at place h sound going);
      err = c.told_fact.ensures.err;
      wants = λ st at place h sound.
          subst (λ (e : Effect). OnErr c.told_fact.result (GivesSome st (mark_as st e (fact_of (Plain c.args.packet.now)))))
          (sym (told-other st at c.args.header.now c.args.packet.now c.in_default.not-Hello c.in_default.not-Disconnect c.in_default.not-IsoStatus c.in_default.not-InterruptStatus))
          (c.told_fact.ensures.wants st at place h sound);
    }

-- a status of a stream means the same of either kind, and tells no fact
told-status : (st : State) (at : ℕ) (h : Header) (p : RedirControl) (status endpoint : ℕ) → (p ≡ plain.IsoStatus status endpoint) ⊎ (p ≡ plain.InterruptStatus status endpoint) →
    mark_as st (told_meaning st at h (Plain p)) (fact_of (Plain p)) ≡ mark_as st (StreamTold h.id endpoint (status_of status)) None
told-status st at h p status endpoint (inl is) = ap (λ (q : RedirControl). mark_as st (told_meaning st at h (Plain q)) (fact_of (Plain q))) is
told-status st at h p status endpoint (inr is) = ap (λ (q : RedirControl). mark_as st (told_meaning st at h (Plain q)) (fact_of (Plain q))) is

pub returns-in-IsoStatus-clause-ok : goal.returns-in-IsoStatus-clause-ok
returns-in-IsoStatus-clause-ok c st at place h sound going =
    rw (told-status st at c.args.header.now c.args.packet.now c.in-IsoStatus.status c.in-IsoStatus.endpoint c.in-IsoStatus.is) (c.told_stream.ensures.ok st h sound)

pub returns-in-IsoStatus-clause-err : goal.returns-in-IsoStatus-clause-err
returns-in-IsoStatus-clause-err c = c.told_stream.ensures.err

pub returns-in-IsoStatus-clause-wants : goal.returns-in-IsoStatus-clause-wants
returns-in-IsoStatus-clause-wants c st at place h sound =
    subst (λ (m : Mark). OnErr c.told_stream.result (GivesSome st m)) (sym (told-status st at c.args.header.now c.args.packet.now c.in-IsoStatus.status c.in-IsoStatus.endpoint c.in-IsoStatus.is)) (c.told_stream.ensures.wants st h sound)
