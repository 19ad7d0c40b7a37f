use Rattle.usb_base.proofs.Setups.{spells_read, reads_spelled}
use Rattle.usb_base.proofs.setup.setups_spell_again.Goals as goal

pub returns-clause-spelled : goal.returns-clause-spelled
returns-clause-spelled c = spells_read

pub returns-clause-read : goal.returns-clause-read
returns-clause-read c = reads_spelled
