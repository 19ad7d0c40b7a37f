-- What doors were asked, call by call, and what they answered. Lists of calls have the latest first.
use Rattle.std.specs.Prelude.{◌≡◌, ℕ, Bool, List, [], ◌∷◌, ◌++◌, take, Result, Ok, Err}
use Rattle.usb_base.specs.declared.side.Side.{Side}
use Rattle.usb_base.specs.declared.side.Side.TheVariants.{Client, Host}
use Rattle.gate_outside.specs.declared.fault.Failed.{Failed}
use Rattle.gate_outside.specs.declared.turn.Polled.{Polled}

pub data Call : Type 0 where
  -- the address, and the answer
  Dial : List ℕ → Result (Unit {0}) Failed → Call
  Listen : List ℕ → Result (Unit {0}) Failed → Call
  -- whether a client has come
  Accept : Result Bool Failed → Call
  -- the answer, and the buffer after it
  Poll : Side → Polled → List ℕ → Call
  -- the piece, and how many bytes of it were taken
  Write : Side → List ℕ → Result ℕ Failed → Call
  Close : Side → Call

-- these calls were made, one after the other, and each was answered so: by what each of them does
abbrev pub Called : {C D : Type 0} → (D → C → D → Type 0) → List C → D → D → Type 0
Called gives [] old new = new ≡ old
Called {D = D} gives (call ∷ calls) old new = (mid : D) × (Called gives calls old mid × gives mid call new)

abbrev pub front_of : Result ℕ Failed → List ℕ → List ℕ
front_of (Ok n) piece = take n piece
front_of (Err _) piece = []

-- what a call wrote to a side's link
abbrev pub written_by : Side → Call → List ℕ
written_by Client (Write Client piece answer) = front_of answer piece
written_by Host (Write Host piece answer) = front_of answer piece
written_by side call = []

-- all that these calls wrote to a side's link, in order
abbrev pub went : Side → List Call → List ℕ
went side [] = []
went side (call ∷ calls) = went side calls ++ written_by side call
