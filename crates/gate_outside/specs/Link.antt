-- What is known of a side's link, and of the door that clients come to.
use Rattle.std.specs.Prelude.{ℕ, Bool, List, Option}
use Rattle.usb_base.specs.declared.side.Side.{Side}
use Rattle.usb_base.specs.declared.side.Side.TheVariants.{Client, Host}
use Rattle.gate_outside.specs.declared.turn.Turn.{Turn}

pub record Link : Type 0 where
  pub up : Bool
  -- the turns still to come, where they are told
  pub turns : Option (List Turn)
  -- the bytes written, where they are told
  pub written : Option (List ℕ)
  -- how often a call on this side failed
  pub faults : ℕ
  -- how often there was nothing yet
  pub idle : ℕ

pub record Door : Type 0 where
  pub made : Bool
  -- the turns of each client that is still to come, where they are told
  pub to_come : Option (List (List Turn))

abbrev pub other : Side → Side
other Client = Host
other Host = Client
