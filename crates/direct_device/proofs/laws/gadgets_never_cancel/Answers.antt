use Rattle.direct_device.proofs.Never.{keyboard-never, loopback-never, tone-never, disk-never}
use Rattle.direct_device.proofs.laws.gadgets_never_cancel.Goals as goal

pub returns : goal.returns
returns c = record { keyboard = keyboard-never; loopback = loopback-never; tone = tone-never; disk = disk-never }
