use Rattle.std.proofs.Common.{◌∙◌, length}
use Rattle.usbip_urb.proofs.Buffers.{stretch_within, stretch_is}
use Rattle.usbip_urb.proofs.buffer.part.Goals as goal

pub piece_at-requires : goal.piece_at-requires
piece_at-requires c = rw (c.as_slice.ensures) (stretch_within 0 c.args.descs.now (length c.args.body.now) c.args.k _ c.requires.laid c.requires.in_range)

pub returns : goal.returns
returns c = c.piece_at.ensures ∙ rw (c.as_slice.ensures) (stretch_is c.args.descs.now c.args.body.now c.args.k _ c.requires.in_range)
