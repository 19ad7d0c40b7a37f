use Rattle.std.proofs.Common.{[], ◌++◌, refl, sym, ◌∙◌, w32}
use Rattle.std.proofs.lemmas.Int.{to_z-of_z}
use Rattle.std.proofs.lemmas.List.{append-nil}
use Rattle.usbip_urb.specs.Spelling.{spelling}
use Rattle.usbip_urb.specs.declared.client.ClientPacket.TheVariants.{Urb}
use Rattle.gate_history.specs.write.Answers.{without_packets}
use Rattle.gate_history.specs.declared.verdict.Verdict.TheVariants.{Now}
use Rattle.gate_history.specs.step.Meaning.{submission}
use Rattle.gate_core.proofs.lemmas.step.Steady.{one-reply}
use Rattle.gate_core.proofs.lemmas.client.Submit.{does-open}
use Rattle.gate_core.proofs.state.kept.Kept.answer_now.Goals as goal

pub returns-clause-ok : goal.returns-clause-ok
returns-clause-ok c st h sound =
    let old = c.args.self.now in
    does-open st (submission st c.args.request.now (Now c.args.status) []) refl sound (λ v. refl) old _ [] _ _ h c.requires.kept.unlinked_fits c.requires.kept.dropped_fits refl refl refl refl
    (λ i. record old { lives = record { live = sym (append-nil old.lives.live) i; abandoned = old.lives.abandoned }; answered = c.saturating_add-self.ensures i })
    (one-reply c.args.out.now.to_client c.write_without_packets.new.out (Urb (without_packets c.args.request.now c.args.status))
    (c.in_ok-write_without_packets.ensures.ok ∙ (λ i. c.args.out.now.to_client ++ spelling (without_packets (c.asked.ensures i) (to_z-of_z w32 c.args.status c.ranges.status i)))))
    (sym (append-nil c.args.out.now.to_host)) c.in_ok-push.ensures.ok
