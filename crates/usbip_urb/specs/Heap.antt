-- Which packets take memory.
use Rattle.std.specs.Prelude.{◌||◌, nat_lt, Bool, false, length}
use Rattle.usbip_urb.specs.declared.packet.UrbPacket.{UrbPacket}
use Rattle.usbip_urb.specs.declared.packet.UrbPacket.TheVariants as urb

-- whether a packet has a body or descriptors, which are all that it keeps on the heap
abbrev pub takes_memory : UrbPacket → Bool
takes_memory (urb.Submit s) = nat_lt 0 (length s.body) || nat_lt 0 (length s.descs)
takes_memory (urb.RetSubmit r) = nat_lt 0 (length r.body) || nat_lt 0 (length r.descs)
takes_memory _ = false
