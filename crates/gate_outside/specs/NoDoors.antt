-- Doors that open nothing: each call but `close` fails, and counts as a fault of its side.
use Rattle.std.specs.Prelude.{◌≡◌, ℕ, false, None, IsErr}
use Rattle.usb_base.specs.declared.side.Side.{Side}
use Rattle.usb_base.specs.declared.side.Side.TheVariants.{Client, Host}
use Rattle.gate_outside.specs.declared.turn.Polled.TheVariants.{Failed}
use Rattle.gate_outside.specs.Calls.{Call, Dial, Listen, Accept, Poll, Write, Close}
use Rattle.gate_outside.specs.Faults.{one_more}
use Rattle.gate_outside.specs.Link.{Link, Door}

pub record SideFaults : Type 0 where
  pub client : ℕ
  pub host : ℕ

abbrev pub side_faults : SideFaults → Side → ℕ
side_faults faults Client = faults.client
side_faults faults Host = faults.host

-- no link is up, and none tells anything but its faults
abbrev pub no_link : SideFaults → Side → Link
no_link faults side = record { up = false; turns = None; written = None; faults = side_faults faults side; idle = 0 }

-- a call for this side failed
abbrev pub failed_at : Side → SideFaults → SideFaults
failed_at Client faults = record faults { client = one_more faults.client }
failed_at Host faults = record faults { host = one_more faults.host }

abbrev pub no_door : Door
no_door = record { made = false; to_come = None }

-- what a call does
abbrev pub NoneGives : SideFaults → Call → SideFaults → Type 0
NoneGives old (Dial addr answer) new = IsErr answer × (new ≡ failed_at Host old)
NoneGives old (Listen addr answer) new = IsErr answer × (new ≡ failed_at Client old)
NoneGives old (Accept answer) new = IsErr answer × (new ≡ failed_at Client old)
NoneGives old (Poll side polled buf) new = (polled ≡ Failed) × (new ≡ failed_at side old)
NoneGives old (Write side piece answer) new = IsErr answer × (new ≡ failed_at side old)
NoneGives old (Close side) new = new ≡ old
