use Rattle.std.proofs.Common.{◌≡◌, map, take}
use Rattle.usbip_op.specs.Devices.{interface_at}
use Rattle.usbip_op.proofs.reply.interface_rows.Given as goal

abbrev pub invariant-loop-class : goal.invariant-loop-class
invariant-loop-class l = l.rows ≡ map interface_at (take l.class-index l.chunks)
