use Rattle.std.proofs.Common.{◌≡◌, ◌++◌, take}
use Rattle.usbip_urb.specs.Spelling.{descs_bytes}
use Rattle.usbip_urb.proofs.write.push_descs.Given as goal

abbrev pub invariant-loop-desc : goal.invariant-loop-desc
invariant-loop-desc l = l.out ≡ l.fn.out ++ descs_bytes (take l.desc-index l.descs)
