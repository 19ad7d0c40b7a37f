-- What is done with a host, and the bytes of its guest so far. Lists of acts have the latest first.
use Rattle.std.specs.Prelude.{ℕ, List, [], ◌∷◌, ◌++◌}

pub data Act : Type 0 where
  -- a piece of the guest's bytes
  Piece : List ℕ → Act
  -- the first request of an endpoint is performed
  Perform : ℕ → Act
  -- the device may send a packet of an endpoint
  Offer : ℕ → Act
  -- the device is taken away
  Unplug : Act

-- all that the guest has sent
abbrev pub guest_bytes : List Act → List ℕ
guest_bytes [] = []
guest_bytes (Piece b ∷ acts) = guest_bytes acts ++ b
guest_bytes (_ ∷ acts) = guest_bytes acts
