use Rattle.std.proofs.Common.{◌≡◌, ◌++◌, flat_map, take}
use Rattle.usbip_op.specs.Spelling.{listed_bytes}
use Rattle.usbip_op.proofs.write.push_devices.Given as goal

abbrev pub invariant-loop-listed : goal.invariant-loop-listed
invariant-loop-listed l = l.out ≡ l.fn.out ++ flat_map listed_bytes (take l.listed-index l.devices)
