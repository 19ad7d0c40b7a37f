use Rattle.std.proofs.Common.{refl}
use Rattle.tape_run.specs.Show.{show_side}
use Rattle.tape_run.specs.inner.show.Show.{shown_by}
use Rattle.tape_run.proofs.runs.show_stream.Goals as goal

pub over_tape-requires : goal.over_tape-requires
over_tape-requires g c =
    let side = g.F.ShownFormat in
    let format = g.F.PacketFormat in
    let command = show_side (shown_by side.the_side format.format format.after side.first_state side.bytes side.line) in
    (command, c.start.ensures command (record { command-is = refl; has_shown = c.start-show.ensures }), c.new.ensures)

pub returns-clause-leaves : goal.returns-clause-leaves
returns-clause-leaves g c =
    let side = g.F.ShownFormat in
    let format = g.F.PacketFormat in
    let command = show_side (shown_by side.the_side format.format format.after side.first_state side.bytes side.line) in
    (c.over_tape.ensures.runs command (c.start.ensures command (record { command-is = refl; has_shown = c.start-show.ensures })) c.new.ensures).leaves
