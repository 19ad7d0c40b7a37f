use Rattle.stream_buffers.proofs.Buffers.{iso_fits}
use Rattle.stream_buffers.proofs.laws.iso_fits.Goals as goal

pub returns : goal.returns
returns c = iso_fits
