use Rattle.std.proofs.Common.{◌==◌, ℕ, sym, subst}
use Rattle.std.proofs.lemmas.Bool.{and_parts, eqb-true}
use Rattle.redir_wire.specs.State.{wide_ids}
use Rattle.redir_wire.specs.Header.{IdFits}
use Rattle.redir_host.specs.state.Queues.{is_cancelled_by, is_data}
use Rattle.redir_host.proofs.lemmas.state.Each.{found_passes}
use Rattle.redir_host.proofs.state.host.Host.cancel.Goals as goal

pub write_cancelled-requires : goal.write_cancelled-requires
write_cancelled-requires g c =
    let h = c.args.self.now in
    let q = c.in-Some.cancelled.request in
    let passes = found_passes (is_cancelled_by c.args.id) h.queue q c.in-Some.ensures.request in
    let same = eqb-true q.id c.args.id (and_parts (is_data q.form) (q.id == c.args.id) passes).1 in
    subst (λ (n : ℕ). IdFits (wide_ids h.guest.caps) n) (sym same) c.requires
