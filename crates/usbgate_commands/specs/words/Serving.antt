-- What the gateway between sockets is asked.
use Rattle.std.specs.Prelude.{ℕ, List, Option}
use Rattle.bridge_serve.specs.declared.served.after_loss.AfterLoss.{AfterLoss}

pub record ServeSettings : Type 0 where
  -- the addresses of the host and of the clients' door
  pub host : List ℕ
  pub listen : List ℕ
  -- after how many rounds in a row in which nothing comes it ends
  pub idle : ℕ
  pub first_id : ℕ
  -- what becomes of a client whose device is lost
  pub after_loss : AfterLoss
  -- the file in which the session is recorded, if any
  pub recording : Option (List ℕ)
