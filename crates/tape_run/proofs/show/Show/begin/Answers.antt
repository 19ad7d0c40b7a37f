use Rattle.std.proofs.Common.{[], ap, subst}
use Rattle.packet_stream.specs.Split.{reads}
use Rattle.packet_stream.specs.Streams.{StreamView, Follows}
use Rattle.tape_run.specs.inner.show.Show.{shown_by}
use Rattle.tape_run.proofs.lemmas.show.Showing.{sees-end}
use Rattle.tape_run.proofs.show.Show.begin.Goals as goal

pub returns : goal.returns
returns g c = λ events e text is.
    let side = g.F.ShownFormat in
    let format = g.F.PacketFormat in
    let laws = g.met.F.ShownFormat in
    sees-end (shown_by side.the_side format.format format.after side.first_state side.bytes side.line) events e c.args.self.now.refused c.args.self.now.stream c.new.result text laws.none is
    (ap (λ (k : StreamView g.row.F-State.Denot). k.over) c.new.ensures.kept)
    (subst (λ (s : g.row.F-State.Denot). Follows (reads format.format format.after) (record { state = s; place = 0 }) c.new.result [] []) c.first_state.ensures c.new.ensures.follows)
