use Rattle.std.proofs.Common.{List, subst}
use Rattle.std.specs.List.{find}
use Rattle.redir_host.specs.declared.write.note.Performed.TheVariants.{Done}
use Rattle.redir_host.specs.declared.state.request.Request.{Request}
use Rattle.redir_host.specs.step.Makes.{TellsPerformed}
use Rattle.redir_host.specs.device.Performing.{performs_marked, with_id}
use Rattle.redir_host.specs.device.Resets.{PerformsNow}
use Rattle.usb_base.specs.Firsts.{without_first}
use Rattle.redir_host.specs.state.Queues.{is_at}
use Rattle.redir_host.proofs.lemmas.state.Sound.{sound-first, sound-without}
use Rattle.redir_host.proofs.lemmas.step.Makes.{performs_now, some_same}
use Rattle.redir_host.proofs.state.host.Host.perform_marked.Goals as goal

pub perform_after_reset-requires-clause-sound : goal.perform_after_reset-requires-clause-sound
perform_after_reset-requires-clause-sound g c = sound-without c.args.self.now c.args.ep _ _ c.requires.sound c.remove_first-request.ensures.rest

pub perform_after_reset-requires-clause-request : goal.perform_after_reset-requires-clause-request
perform_after_reset-requires-clause-request g c = sound-first c.args.self.now c.args.ep c.remove_first-request.result c.requires.sound c.remove_first-request.ensures.request

pub returns-clause-ok : goal.returns-clause-ok
returns-clause-ok g c q is =
    let h = c.args.self.now in
    let own = c.remove_first-request.result in
    let m = g.G.Gadget.meaning in
    let new = c.perform_after_reset.new.self in
    let rest = without_first (is_at c.args.ep) h.queue in
    let Says : Request → Type 0 = λ x. TellsPerformed (with_id x (performs_marked m (record h { queue = rest }) x x.form)) h new (Done own.id) c.args.out.now c.perform_after_reset.new.out in
    subst Says (some_same (find (is_at c.args.ep) h.queue) own q c.remove_first-request.ensures.request is)
    (performs_now h new own (performs_marked m (record h { queue = rest }) own own.form) c.args.out.now c.perform_after_reset.new.out
    (subst (λ (ys : List Request). PerformsNow (performs_marked m (record h { queue = ys }) own own.form) new c.args.out.now c.perform_after_reset.new.out) c.remove_first-request.ensures.rest c.in_ok-perform_after_reset.ensures.ok))
