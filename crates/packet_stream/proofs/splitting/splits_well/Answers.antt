use Rattle.packet_stream.proofs.Splits.{splits_well}
use Rattle.packet_stream.proofs.splitting.splits_well.Goals as goal

pub returns : goal.returns
returns g c = λ start. splits_well g.F.PacketFormat.format g.F.PacketFormat.after g.met.F.PacketFormat.sound start
