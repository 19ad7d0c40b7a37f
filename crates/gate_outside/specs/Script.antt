-- Doors whose every answer is known: each side plays a script.
use Rattle.std.specs.Prelude.{◌≡◌, ◌⊎◌, ◌<◌, ◌-◌, ℕ, min, Bool, true, false, List, [], ◌∷◌, ◌++◌, length, take, drop, Some, Result, Ok, Err}
use Rattle.usb_base.specs.declared.side.Side.{Side}
use Rattle.usb_base.specs.declared.side.Side.TheVariants.{Client, Host}
use Rattle.gate_outside.specs.declared.turn.Turn.{Turn}
use Rattle.gate_outside.specs.declared.turn.Polled.{Polled}
use Rattle.gate_outside.specs.declared.turn.Polled.TheVariants.{Took, NotYet, Ended, Failed}
use Rattle.gate_outside.specs.Calls.{Call, Dial, Listen, Accept, Poll, Write, Close}
use Rattle.gate_outside.specs.Faults.{one_more}
use Rattle.gate_outside.specs.Link.{Link, Door, other}
use Rattle.gate_outside.specs.Turns.{pending, after}
use Rattle.gate_outside.specs.Doors.{GivesTurns, first}
use Rattle.gate_outside.specs.Plan.{Plan, fails_now, passed, failed, fresh}

pub record Scripted : Type 0 where
  pub up : Bool
  -- the turns still to come on the link
  pub turns : List Turn
  -- the scripts that haven't begun
  pub to_come : List (List Turn)
  pub written : List ℕ
  -- for how many more bytes there is room
  pub free : ℕ
  -- how often there was nothing yet
  pub idle : ℕ
  -- which calls on this side fail
  pub plan : Plan

pub record ScriptSides : Type 0 where
  pub client : Scripted
  pub host : Scripted
  -- whether the client's door is made
  pub made : Bool

abbrev pub side_of : ScriptSides → Side → Scripted
side_of sides Client = sides.client
side_of sides Host = sides.host

-- all that a script's side has is told
abbrev pub shown : Scripted → Link
shown side = record { up = side.up; turns = Some side.turns; written = Some side.written; faults = side.plan.faults; idle = side.idle }

abbrev pub shown_door : ScriptSides → Door
shown_door sides = record { made = sides.made; to_come = Some sides.client.to_come }

-- a side as it is made
abbrev pub idle_side : List Turn → List (List Turn) → ℕ → List ℕ → Scripted
idle_side turns to_come room fails =
    record { up = false; turns = turns; to_come = to_come; written = []; free = room; idle = 0; plan = fresh fails }

-- the first script begins, if there is one
abbrev pub begun_by : List (List Turn) → Scripted → Scripted
begun_by [] side = side
begun_by (turns ∷ to_come) side = record side { turns = turns; to_come = to_come }

abbrev pub begun : Scripted → Scripted
begun side = begun_by side.to_come side

-- a call fails as planned, and takes nothing
abbrev pub FailsAsPlanned : Scripted → Scripted → Type 0
FailsAsPlanned old new = (fails_now old.plan ≡ true) × (new ≡ record old { plan = failed old.plan })

-- a call that does nothing else
abbrev pub Counted : {T E : Type 0} → Result T E → Scripted → Scripted → Type 0
Counted (Ok _) old new = (fails_now old.plan ≡ false) × (new ≡ record old { plan = passed old.plan })
Counted (Err _) old new = FailsAsPlanned old new

abbrev pub Opened : {T E : Type 0} → Result T E → Scripted → Scripted → Type 0
Opened (Ok _) old new = (fails_now old.plan ≡ false) × (new ≡ record old { up = true; plan = passed old.plan })
Opened (Err _) old new = FailsAsPlanned old new

-- the next script begins, while one is left
abbrev pub Began : {E : Type 0} → Result Bool E → Scripted → Scripted → Type 0
Began (Ok true) old new = (fails_now old.plan ≡ false) × (0 < length old.to_come)
    × (new ≡ record old { up = true; turns = first old.to_come; to_come = drop 1 old.to_come; plan = passed old.plan })
Began (Ok false) old new = (fails_now old.plan ≡ false) × (old.to_come ≡ []) × (new ≡ record old { idle = one_more old.idle; plan = passed old.plan })
Began (Err _) old new = FailsAsPlanned old new

-- what a poll that isn't planned to fail does beside taking its turn
abbrev pub polled_side : Polled → Scripted → Scripted
polled_side (Took n) side = record side { plan = passed side.plan }
polled_side NotYet side = record side { idle = one_more side.idle; plan = passed side.plan }
polled_side Ended side = record side { up = false; plan = passed side.plan }
polled_side Failed side = record side { plan = failed side.plan }

abbrev pub PolledAs : Bool → Polled → List ℕ → Scripted → Scripted → Type 0
PolledAs true polled buf old new = (polled ≡ Failed) × (new ≡ record old { plan = failed old.plan })
PolledAs false polled buf old new = GivesTurns polled buf old.turns × (new ≡ polled_side polled (record old { turns = after (length buf) (pending old.turns) }))

-- a poll fails as planned, and otherwise takes the front turn
abbrev pub PolledScript : Polled → List ℕ → Scripted → Scripted → Type 0
PolledScript polled buf old new = PolledAs (fails_now old.plan) polled buf old new

-- a write fails as planned or where no room is free, and otherwise takes as many bytes as it may
abbrev pub WroteScript : {E : Type 0} → Result ℕ E → List ℕ → Scripted → Scripted → Type 0
WroteScript (Ok n) piece old new = (fails_now old.plan ≡ false) × (0 < old.free) × (n ≡ min (length piece) old.free)
    × (new ≡ record old { written = old.written ++ take n piece; free = old.free - n; plan = passed old.plan })
WroteScript (Err _) piece old new = ((fails_now old.plan ≡ true) ⊎ (old.free ≡ 0)) × (new ≡ record old { plan = failed old.plan })

-- a client's turns end with its link
abbrev pub closed_side : Side → Scripted → Scripted
closed_side Client side = record side { up = false; turns = [] }
closed_side Host side = record side { up = false }

-- a side's script does so, and the other side's and the door stand
pub record OneMoves (side : Side) (does : Scripted → Scripted → Type 0) (old new : ScriptSides) : Type 0 where
  pub does-so : does (side_of old side) (side_of new side)
  pub other-is : side_of new (other side) ≡ side_of old (other side)
  pub door-is : new.made ≡ old.made

-- what a call does
abbrev pub ScriptGives : ScriptSides → Call → ScriptSides → Type 0
ScriptGives old (Dial addr answer) new = OneMoves Host (Opened answer) old new
ScriptGives old (Listen addr answer) new = Counted answer old.client new.client × (new.host ≡ old.host)
ScriptGives old (Accept answer) new = OneMoves Client (Began answer) old new
ScriptGives old (Poll side polled buf) new = OneMoves side (PolledScript polled buf) old new
ScriptGives old (Write side piece answer) new = OneMoves side (WroteScript answer piece) old new
ScriptGives old (Close side) new = OneMoves side (λ before behind. behind ≡ closed_side side before) old new
