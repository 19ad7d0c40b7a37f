use Rattle.std.proofs.Common.{refl, sym}
use Rattle.std.proofs.lemmas.List.{append-nil}
use Rattle.gate_history.specs.step.Marks.{Replies}
use Rattle.usbip_urb.specs.declared.client.ClientPacket.TheVariants.{Op}
use Rattle.gate_core.proofs.lemmas.step.Quiet.{silent-is}
use Rattle.gate_core.proofs.lemmas.step.Steady.{does-steady, rows-same, host-same, one-reply}
use Rattle.gate_history.proofs.lemmas.step.NoCancel.{stays-uncancelled}
use Rattle.gate_core.proofs.state.kept.Kept.reply.Goals as goal

pub returns-clause-ok : goal.returns-clause-ok
returns-clause-ok c st h =
    let old = c.args.self.now in
    let e = Replies c.args.reply.now in
    does-steady st e refl (silent-is st e refl) (λ s. refl) old old old.lives.live _ _ h c.requires.kept.answered_fits c.requires.kept.unlinked_fits c.requires.kept.dropped_fits
    (rows-same e old.lives.live st.live (λ s. refl) h.live) refl (one-reply c.args.out.now.to_client c.write_op.new.out (Op c.args.reply.now) c.in_ok-write_op.ensures) (host-same st.sides.agreed e c.args.out.now.to_host st.live stays-uncancelled) (sym (append-nil c.args.out.now.notes))
