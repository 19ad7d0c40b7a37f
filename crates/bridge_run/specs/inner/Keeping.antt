-- What is kept, and how it changes.
use Rattle.std.specs.Option.{option_or}
use Rattle.std.specs.Prelude.{◌≡◌, ◌⊎◌, ◌<◌, ◌≤◌, ◌+◌, ◌*◌, ◌-◌, ◌==◌, ℕ, ◌&&◌, ◌||◌, not, Bool, true, false, List, None, Result, Ok, Err}
use Rattle.usb_base.specs.declared.side.Side.{Side}
use Rattle.usb_base.specs.declared.side.Side.TheVariants.{Client, Host}
use Rattle.usb_base.specs.declared.refusal.Refusal.{Refusal}
use Rattle.bridge_run.specs.declared.course.serve_end.ServeEnd.{ServeEnd}
use Rattle.bridge_run.specs.declared.course.serve_end.ServeEnd.TheVariants.{Ended, Idle, Spent}
use Rattle.bridge_run.specs.declared.course.rounds.Rounds.{Rounds}
use Rattle.bridge_run.specs.events.Prescribed.{refuses, first_of}
use Rattle.bridge_run.specs.course.Outside.{Outside}

-- nothing has come, and no link is up
abbrev pub begun : ℕ → ℕ → Rounds
begun idle budget = record {
  client_up = false;
  host_up = false;
  busy = false;
  waits = idle;
  idle = idle;
  left = budget;
  refused = None;
}

abbrev pub up_of : Side → Rounds → Bool
up_of Client k = k.client_up
up_of Host k = k.host_up

-- the side's link has gone down
abbrev pub with_down : Side → Rounds → Rounds
with_down Client k = record k { client_up = false }
with_down Host k = record k { host_up = false }

-- sides are refused, and the client is let go or isn't
abbrev pub refusing : List Refusal → Bool → Rounds → Rounds
refusing refusals go k = record k {
  client_up = k.client_up && not (refuses Client refusals || go);
  host_up = k.host_up && not (refuses Host refusals);
  refused = option_or k.refused (first_of refusals);
}

-- no side is there any more
abbrev pub is_over : Rounds → Bool
is_over k = not k.client_up && not k.host_up

-- or all is taken that may be
abbrev pub is_last : Rounds → Bool
is_last k = is_over k || (k.left == 0)

abbrev pub Settles : Result (Unit {0}) ServeEnd → Rounds → Type 0
Settles (Ok _) k = (is_over k ≡ false) × (0 < k.left)
Settles (Err (Ended refused)) k = (is_over k ≡ true) × (refused ≡ k.refused)
Settles (Err Spent) k = (is_over k ≡ false) × (k.left ≡ 0)
Settles (Err _) k = ⊥

abbrev pub RestsBusy : Bool → Rounds → Rounds → Type 0
RestsBusy true old new = new ≡ record old { busy = false; waits = old.idle }
RestsBusy false old new = (new ≡ record old { waits = old.waits - 1 }) × (0 < new.waits)

abbrev pub Rests : Result (Unit {0}) ServeEnd → Rounds → Rounds → Type 0
Rests (Ok _) old new = RestsBusy old.busy old new
Rests (Err Idle) old new = (old.busy ≡ false) × (new ≡ record old { waits = old.waits - 1 }) × (new.waits ≡ 0)
Rests (Err _) old new = ⊥

-- ---- what is always so

-- the links are up as is kept, and the door is made
pub record Agrees (k : Rounds) (w : Outside) : Type 0 where
  pub client : k.client_up ≡ w.client.up
  pub host : k.host_up ≡ w.host.up
  pub door : w.door.made ≡ true

-- ---- how much can still come

abbrev pub one_if : Bool → ℕ
one_if true = 1
one_if false = 0

-- how many more rounds may bring something
abbrev pub chances_of : Rounds → ℕ
chances_of k = 2 * k.left + one_if k.client_up + one_if k.host_up

-- nothing has come, or a chance is gone
pub record Wears (old new : Rounds) : Type 0 where
  pub idle : new.idle ≡ old.idle
  pub waits : new.waits ≡ old.waits
  pub fewer : (new.busy ≡ true) × (chances_of new < chances_of old) ⊎ (new.busy ≡ old.busy) × (chances_of new ≤ chances_of old)

-- how many more rounds there may be
abbrev pub rounds_of : Rounds → ℕ
rounds_of k = chances_of k * k.idle + k.waits

-- as it is between rounds
pub record IsLive (k : Rounds) : Type 0 where
  pub rests : k.busy ≡ false
  pub left : 0 < k.left
  pub waits : 0 < k.waits
  pub within : k.waits ≤ k.idle
