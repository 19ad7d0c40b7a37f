-- What a modelled host is asked.
use Rattle.std.specs.Prelude.{ℕ, List}
use Rattle.tape_run.specs.declared.model.device.Device.{Device}

pub record AskedLent : Type 0 where
  pub device : Device
  -- the address of the guest's door
  pub listen : List ℕ
  -- after how many rounds in a row in which nothing comes it ends
  pub idle : ℕ
