-- What a piece that what is served takes as it comes makes of it, and of what is sent.
use Rattle.std.specs.Prelude.{◌≡◌, ◌<◌, ◌∷◌, ℕ, List, Result, Ok, Err, take}
use Rattle.usb_base.specs.declared.side.Side.{Side}
use Rattle.bridge_run.specs.declared.events.sent.Sent.{Sent}
use Rattle.bridge_run.specs.events.Events.{PastLinkEvent, SidePiece}
use Rattle.bridge_run.specs.events.Prescribed.{Prescribed}
use Rattle.bridge_run.specs.served.Sends.{SendsAll, SendsPart}

-- what is served stands for the event, too, and what that sends is there
pub record TakesAll (stands : List PastLinkEvent → Type 0) (p : Prescribed) (events : List PastLinkEvent) (e : PastLinkEvent) (old new : Sent) : Type 0 where
  pub stands_for : stands (e ∷ events)
  pub sends : SendsAll p events e old new

-- it was taken, or memory ran out within it
abbrev pub IsTaken : {T E : Type 0} → Result T E → (List PastLinkEvent → Type 0) → (List PastLinkEvent → PastLinkEvent → List ℕ → List ℕ → Type 0) → Prescribed → List PastLinkEvent → PastLinkEvent → Sent → Sent → Type 0
IsTaken (Ok _) stands runs_out p events e old new = TakesAll stands p events e old new
IsTaken (Err _) stands runs_out p events e old new = SendsPart runs_out p events e old new

-- as many bytes as came at the front of this room were taken, and where none came nothing has changed
pub record TakesCome {F C E : Type 0} (stands : F → C → List PastLinkEvent → Type 0) (runs_out : F → List PastLinkEvent → PastLinkEvent → List ℕ → List ℕ → Type 0) (sends : F → Prescribed) (side : Side) (taken : Result (Unit {0}) E) (count : ℕ) (room : List ℕ) (old new : C) (old_sent new_sent : Sent) : Type 0 where
  pub some : 0 < count → (first : F) (past : List PastLinkEvent) → stands first old past → IsTaken taken (stands first new) (runs_out first) (sends first) past (SidePiece side (take count room)) old_sent new_sent
  pub none : count ≡ 0 → (new ≡ old) × (new_sent ≡ old_sent) × (taken ≡ Ok tt)
