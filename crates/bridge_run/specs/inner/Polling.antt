-- What a poll of a side's link brings: into a buffer, or straight to what is served.
use Rattle.std.specs.Prelude.{◌≡◌, ℕ, Bool, false, List, length, Option, None, IfSome, Result}
use Rattle.usb_base.specs.declared.side.Side.{Side}
use Rattle.gate_outside.specs.declared.turn.Polled.{Polled}
use Rattle.gate_outside.specs.Link.{Link, Door, other}
use Rattle.gate_outside.specs.Calls.{Call, Poll}
use Rattle.gate_outside.specs.Doors.{TookWithin, Polls}
use Rattle.gate_outside.specs.Turns.{taken as count_of}
use Rattle.bridge_run.specs.declared.events.sent.Sent.{Sent}
use Rattle.bridge_run.specs.events.Events.{PastLinkEvent}
use Rattle.bridge_run.specs.events.Prescribed.{Prescribed}
use Rattle.bridge_run.specs.served.Taking.{TakesCome}

-- the side was polled, with so much room
pub record IsPolled {D : Type 0} (link : D → Side → Link) (door : D → Door) (gives : D → Call → D → Type 0) (side : Side) (limit : ℕ) (polled : Polled) (room : List ℕ) (old new : D) : Type 0 where
  pub long : length room ≡ limit
  pub bound : TookWithin polled room
  pub turns : Polls polled room (link old side) (link new side)
  pub other-is : link new (other side) ≡ link old (other side)
  pub door-is : door new ≡ door old
  pub given : gives old (Poll side polled room) new

-- a poll's bytes, which are as many as it says of this room, stand in the buffer, or what is served has taken them, and
-- then nothing is recorded
pub record Brings {F C E : Type 0} (stands : F → C → List PastLinkEvent → Type 0) (runs_out : F → List PastLinkEvent → PastLinkEvent → List ℕ → List ℕ → Type 0) (sends : F → Prescribed) (side : Side) (taped : Bool) (polled : Polled) (taken : Option (Result (Unit {0}) E)) (room buf : List ℕ) (old new : C) (old_sent new_sent : Sent) : Type 0 where
  pub put : taken ≡ None → buf ≡ room
  pub still : taken ≡ None → new ≡ old
  pub untaped : IfSome taken (λ t. taped ≡ false)
  pub took : IfSome taken (λ t. TakesCome stands runs_out sends side t (count_of polled) room old new old_sent new_sent)
  pub nothing : count_of polled ≡ 0 → new ≡ old
