use Rattle.tape_run.specs.inner.show.Show.{shown_by}
use Rattle.tape_run.proofs.lemmas.show.Showing.{sees-other}
use Rattle.tape_run.proofs.show.Show.pass.Goals as goal

pub returns : goal.returns
returns g c = λ events e text same.
    let side = g.F.ShownFormat in
    let format = g.F.PacketFormat in
    sees-other (shown_by side.the_side format.format format.after side.first_state side.bytes side.line) events e c.args.self.now.refused c.args.self.now.stream text same
