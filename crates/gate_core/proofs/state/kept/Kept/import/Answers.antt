use Rattle.std.proofs.Common.{◌++◌, refl, ap, ◌∙◌}
use Rattle.usbip_op.specs.declared.packet.OpPacket.{OpPacket}
use Rattle.usbip_urb.specs.declared.client.ClientPacket.TheVariants.{Op}
use Rattle.usbip_urb.specs.ClientPackets.{client_spelling}
use Rattle.gate_history.specs.declared.facts.Facts.{Facts}
use Rattle.gate_history.specs.client.Replies.{import_reply}
use Rattle.gate_history.specs.step.Marks.{Imports}
use Rattle.gate_core.proofs.lemmas.step.Quiet.{silent-is}
use Rattle.gate_core.proofs.lemmas.step.Steady.{does-steady, rows-same, host-same, one-reply}
use Rattle.gate_history.proofs.lemmas.step.NoCancel.{stays-uncancelled}
use Rattle.gate_core.proofs.state.kept.Kept.import.Goals as goal

pub returns-clause-ok : goal.returns-clause-ok
returns-clause-ok c st h =
    let old = c.args.self.now in
    let e = Imports (import_reply st.facts c.args.connect.now) in
    does-steady st e refl (silent-is st e refl) (λ s. refl) old _ old.lives.live _ _ h c.requires.kept.answered_fits c.requires.kept.unlinked_fits c.requires.kept.dropped_fits
    (rows-same e old.lives.live st.live (λ s. refl) h.live) refl (one-reply c.args.out.now.to_client c.write_op.new.out (Op (import_reply st.facts c.args.connect.now)) (c.in_ok-write_op.ensures ∙ ap (λ (r : OpPacket). c.args.out.now.to_client ++ client_spelling (Op r)) (c.import_reply.ensures.value ∙ ap (λ (f : Facts). import_reply f c.args.connect.now) h.facts)))
    (host-same st.sides.agreed e c.args.out.now.to_host st.live stays-uncancelled) c.in_ok-push.ensures.ok
