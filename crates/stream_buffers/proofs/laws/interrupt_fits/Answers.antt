use Rattle.stream_buffers.proofs.Joining.{interrupt_fits}
use Rattle.stream_buffers.proofs.laws.interrupt_fits.Goals as goal

pub returns : goal.returns
returns c = interrupt_fits
