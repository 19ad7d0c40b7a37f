-- What was asked, by the log of the doors' calls: how much has come, how long nothing has, and which call failed.
use Rattle.std.specs.Prelude.{ℕ, ◌+◌, Bool, true, false, if◌then◌else◌, List, [], ◌∷◌, Option, Some, None, Result, Ok, Err}
use Rattle.std.specs.List.{filter_map}
use Rattle.usb_base.specs.declared.side.Side.{Side}
use Rattle.usb_base.specs.declared.side.Side.TheVariants.{Client, Host}
use Rattle.gate_outside.specs.declared.fault.Failed.{Failed as Fault}
use Rattle.gate_outside.specs.declared.turn.Polled.{Polled}
use Rattle.gate_outside.specs.declared.turn.Polled.TheVariants.{Took, NotYet, Ended, Failed}
use Rattle.gate_outside.specs.Calls.{Call, Dial, Listen, Accept, Poll, Write}
use Rattle.gate_outside.specs.Turns.{taken as bytes_in}

-- a question to the outside, and the answer: whether a client has come, or what has come of a side
pub data Ask : Type 0 where
  ForClient : Result Bool Fault → Ask
  OfSide : Side → Polled → Ask

abbrev pub ask_of : Call → Option Ask
ask_of (Accept answer) = Some (ForClient answer)
ask_of (Poll side polled buf) = Some (OfSide side polled)
ask_of call = None

-- the questions among these calls, the latest first
abbrev pub asks_of : List Call → List Ask
asks_of calls = filter_map ask_of calls

-- ---- how much has come

abbrev pub is_client : Result Bool Fault → Bool
is_client (Ok came) = came
is_client (Err _) = false

abbrev pub taken_by : Ask → ℕ
taken_by (ForClient answer) = if is_client answer then 1 else 0
taken_by (OfSide side polled) = bytes_in polled

-- how many bytes have come, where each client counts as one
abbrev pub taken : List Ask → ℕ
taken [] = 0
taken (ask ∷ asks) = taken asks + taken_by ask

-- ---- how long nothing has come

-- a client has just come
abbrev pub has_just_come : List Ask → Bool
has_just_come (ForClient answer ∷ asks) = is_client answer
has_just_come asks = false

-- How many rounds in a row have brought nothing, with the one that goes on. A round begins with the client's side: it
-- asks for a client, or polls the one that is there, as it polls one that has just come. Then the host is polled.
abbrev pub quiet_rounds : List Ask → ℕ
quiet_rounds [] = 0
quiet_rounds (ForClient (Ok came) ∷ asks) = if came then 0 else quiet_rounds asks + 1
quiet_rounds (OfSide side (Took n) ∷ asks) = 0
quiet_rounds (OfSide side Ended ∷ asks) = 0
quiet_rounds (OfSide Client NotYet ∷ asks) = if has_just_come asks then quiet_rounds asks else quiet_rounds asks + 1
quiet_rounds (ask ∷ asks) = quiet_rounds asks

-- ---- whose turn it is

-- the host was asked last, or nobody yet: else the client's side was, which is polled or asked for a client
abbrev pub is_behind_host : List Ask → Bool
is_behind_host [] = true
is_behind_host (OfSide Host polled ∷ asks) = true
is_behind_host asks = false

-- ---- which call has failed

abbrev pub failing : {T : Type 0} → Side → Result T Fault → Option Side
failing side (Ok _) = None
failing side (Err _) = Some side

-- whose side a call that failed was for: the host is dialled, and the door is the clients'
abbrev pub fault_of : Call → Option Side
fault_of (Dial addr answer) = failing Host answer
fault_of (Listen addr answer) = failing Client answer
fault_of (Accept answer) = failing Client answer
fault_of (Poll side Failed buf) = Some side
fault_of (Write side bytes answer) = failing side answer
fault_of call = None

abbrev pub last_fault : List Call → Option Side
last_fault [] = None
last_fault (call ∷ calls) = fault_of call
