use Rattle.disk_gadget.proofs.Writing.{reads_what_was_written}
use Rattle.disk_gadget.proofs.laws.disk_reads_what_was_written.Goals as goal

pub returns : goal.returns
returns c = reads_what_was_written
