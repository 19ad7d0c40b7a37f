use Rattle.std.proofs.Common.{◌≡◌, ◌++◌, flat_map, take}
use Rattle.usbip_op.specs.Spelling.{interface_bytes}
use Rattle.usbip_op.proofs.write.push_interfaces.Given as goal

abbrev pub invariant-loop-interface : goal.invariant-loop-interface
invariant-loop-interface l = l.out ≡ l.fn.out ++ flat_map interface_bytes (take l.interface-index l.interfaces)
