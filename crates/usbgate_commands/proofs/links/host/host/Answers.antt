use Rattle.std.proofs.Common.{rules}
use Rattle.usbgate_commands.proofs.lemmas.links.Logs.{run-unlent}
use Rattle.usbgate_commands.proofs.links.host.host.Goals as goal

pub returns-in-Err : goal.returns-in-Err
returns-in-Err g c =
    let none = run-unlent g.D.Doors.call_gives g.D.Doors.link g.D.Doors.door g.K.Sink.write_gives g.K.Sink.faults g.K.Sink.contents c.args.lending.now c.args.doors.now c.args.out.now in search rules
