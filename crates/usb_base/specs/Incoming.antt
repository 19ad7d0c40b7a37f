-- What has come straight into the room that it was lent.
use Rattle.std.specs.Prelude.{◌≡◌, ◌≤◌, ℕ, List, length}
use Rattle.usb_base.specs.Number.{AreBytes}

-- so many bytes, into a room of this length
pub record HasCome {I : Type 0} (gives : I → ℕ → List ℕ → I → Type 0) (limit count : ℕ) (old new : I) : Type 0 where
  pub room : List ℕ
  pub long : length room ≡ limit
  pub bytes : AreBytes room
  pub within : count ≤ limit
  pub given : gives old count room new
