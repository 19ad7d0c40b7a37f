use Rattle.model_device.proofs.Submits.{asks_transfer}
use Rattle.model_device.proofs.submit.submits_ask_transfers.Goals as goal

pub returns : goal.returns
returns c = asks_transfer
