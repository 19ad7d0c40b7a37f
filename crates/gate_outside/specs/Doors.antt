-- What each call does to a side's link. An equation says too that the rest stands.
use Rattle.std.specs.Prelude.{◌≡◌, ◌⊎◌, ◌<◌, ◌≤◌, ℕ, Bool, true, false, List, [], ◌∷◌, length, take, drop, get_or, Option, Some, IfSome, option_map, Result, Ok, Err}
use Rattle.std.specs.Io.KnownBytes.{append_known}
use Rattle.usb_base.specs.declared.side.Side.{Side}
use Rattle.usb_base.specs.declared.side.Side.TheVariants.{Client, Host}
use Rattle.gate_outside.specs.declared.turn.Turn.{Turn}
use Rattle.gate_outside.specs.declared.turn.Turn.TheVariants.{Fail}
use Rattle.gate_outside.specs.declared.turn.Polled.{Polled}
use Rattle.gate_outside.specs.declared.turn.Polled.TheVariants.{Took, NotYet, Ended, Failed}
use Rattle.gate_outside.specs.Faults.{one_more}
use Rattle.gate_outside.specs.Link.{Link, Door}
use Rattle.gate_outside.specs.Turns.{pending, answer, given, after, taken}

-- one fault more
abbrev pub faulted : Link → Link
faulted link = record link { faults = one_more link.faults }

abbrev pub opened : Link → Link
opened link = record link { up = true }

abbrev pub closed : Link → Link
closed link = record link { up = false }

abbrev pub idled : Link → Link
idled link = record link { idle = one_more link.idle }

-- the host's link comes up
abbrev pub Dials : {T E : Type 0} → Result T E → Link → Link → Type 0
Dials (Ok _) old new = new ≡ opened old
Dials (Err _) old new = new ≡ faulted old

-- the door is made
abbrev pub Listens : {T E : Type 0} → Result T E → Door → Door → Link → Link → Type 0
Listens (Ok _) door door_new old new = (door_new ≡ record door { made = true }) × (new ≡ old)
Listens (Err _) door door_new old new = (door_new ≡ door) × (new ≡ faulted old)

-- the turns of the client that comes next
abbrev pub first : List (List Turn) → List Turn
first clients = get_or clients 0 []

-- the next client comes, exactly where one is still to come if that is told, or none has come yet
abbrev pub Accepts : {E : Type 0} → Result Bool E → Door → Door → Link → Link → Type 0
Accepts (Ok true) door door_new old new =
    IfSome door.to_come (λ clients. 0 < length clients) × (new ≡ record (opened old) { turns = option_map first door.to_come })
    × (door_new ≡ record door { to_come = option_map (λ clients. drop 1 clients) door.to_come })
Accepts (Ok false) door door_new old new = IfSome door.to_come (λ clients. clients ≡ []) × (new ≡ idled old) × (door_new ≡ door)
Accepts (Err _) door door_new old new = (new ≡ faulted old) × (door_new ≡ door)

-- a front of the piece, at least one byte of it, is written
abbrev pub Writes : {E : Type 0} → Result ℕ E → List ℕ → Link → Link → Type 0
Writes (Ok n) piece old new = (0 < n) × (n ≤ length piece) × (new ≡ record old { written = append_known old.written (take n piece) })
Writes (Err _) piece old new = new ≡ faulted old

-- `Took n` has n from 1 to the buffer's length
abbrev pub TookWithin : Polled → List ℕ → Type 0
TookWithin (Took n) buf = (0 < n) × (n ≤ length buf)
TookWithin _ buf = Unit {0}

-- a poll gives what these turns have
pub record GivesTurns (polled : Polled) (buf : List ℕ) (turns : List Turn) : Type 0 where
  pub answers : polled ≡ answer (length buf) (pending turns)
  pub bytes : take (taken polled) buf ≡ given (length buf) (pending turns)

-- the link after a poll with so much room that gave what the turns have
abbrev pub turned : ℕ → Link → Link
turned room link = record link { turns = option_map (λ turns. after room (pending turns)) link.turns }

-- these turns begin with a `Fail`, and are then those behind it
abbrev pub FailTaken : Option (List Turn) → Option (List Turn) → Type 0
FailTaken old new = (turns : List Turn) × (rest : List Turn) × (old ≡ Some turns) × (pending turns ≡ Fail ∷ rest) × (new ≡ Some rest)

-- a poll failed: the side's count rose, and a `Fail` may be taken
pub record PollFails (old new : Link) : Type 0 where
  pub turns : (new.turns ≡ old.turns) ⊎ FailTaken old.turns new.turns
  pub same : new ≡ record (faulted old) { turns = new.turns }

-- an answer other than `Failed` is that of the front turn, where the turns are told
abbrev pub Polls : Polled → List ℕ → Link → Link → Type 0
Polls (Took n) buf old new = IfSome old.turns (GivesTurns (Took n) buf) × (new ≡ turned (length buf) old)
Polls NotYet buf old new = IfSome old.turns (GivesTurns NotYet buf) × (new ≡ turned (length buf) (idled old))
Polls Ended buf old new = IfSome old.turns (GivesTurns Ended buf) × (new ≡ turned (length buf) (closed old))
Polls Failed buf old new = PollFails old new

-- the link goes down. The rest of a client's turns goes with it, and the host's stay.
abbrev pub closes : Side → Link → Link
closes Client link = record (closed link) { turns = option_map (λ _. []) link.turns }
closes Host link = closed link
