-- What becomes of a piece of a stream whose packets a taker takes one by one.
use Rattle.std.specs.Prelude.{◌≡◌, ◌⊎◌, ◌<◌, ℕ, zero, suc, Bool, true, false, if◌then◌else◌, List, length, take, Option, Some, None, Result, Ok, Err}
use Rattle.usb_base.specs.Number.{AreBytes}
use Rattle.usb_base.specs.Incoming.{HasCome}
use Rattle.usb_base.specs.declared.memory.Memory.{Memory as NoMemory}
use Rattle.usb_base.specs.declared.reason.Reason.{Reason}
use Rattle.packet_stream.specs.declared.read.ReadError.{ReadError}
use Rattle.packet_stream.specs.declared.read.ReadError.TheVariants.{Refused, Memory}
use Rattle.packet_stream.specs.Format.{Format}
use Rattle.packet_stream.specs.Split.{Reader, reads}
use Rattle.packet_stream.specs.Streams.{StreamView, passed, ended, after_piece, Nexts, Puts, Changes}

-- how the stream is read, which of its packets take memory, what a packet or a wrong place makes of the taker, and
-- whether that takes nothing more
pub record Taking (S P T : Type 0) : Type 1 where
  pub reader : Reader S P Reason
  pub takes_memory : P → Bool
  pub Takes : ℕ → Result P Reason → Result (Unit {0}) NoMemory → T → T → Type 0
  pub is_over : T → Bool

abbrev pub taken_by : {S P T : Type 0} → (S → Format P Reason) → (S → P → S) → (P → Bool) → (ℕ → Result P Reason → Result (Unit {0}) NoMemory → T → T → Type 0) → (T → Bool) → Taking S P T
taken_by format after takes_memory Takes is_over = record { reader = reads format after; takes_memory = takes_memory; Takes = Takes; is_over = is_over }

-- a stream with its taker
pub record TakenStream (S T : Type 0) : Type 0 where
  pub stream : StreamView S
  pub taker : T

-- ---- what comes next

-- the taker was handed what the stream has answered
abbrev pub TakesAnswer : {S P T : Type 0} → Taking S P T → Result (Option (ℕ × P)) ReadError → Result (Unit {0}) NoMemory → T → T → Type 0
TakesAnswer k (Ok None) result t u = ⊥
TakesAnswer k (Ok (Some i)) result t u = k.Takes i.0 (Ok i.1) result t u
TakesAnswer k (Err (Refused place reason)) result t u = k.Takes place (Err reason) result t u
TakesAnswer k (Err (Memory memory)) result t u = (result ≡ Err memory) × (u ≡ t)

pub record Took {S P T : Type 0} (k : Taking S P T) (result : Result (Unit {0}) NoMemory) (old : TakenStream S T) (answered : StreamView S) (taker : T) : Type 0 where
  pub answer : Result (Option (ℕ × P)) ReadError
  pub changes : Changes answer old.stream answered
  pub nexts : Nexts k.reader k.takes_memory answer old.stream answered
  pub takes : TakesAnswer k answer result old.taker taker

abbrev pub ended_if : {S : Type 0} → Bool → StreamView S → StreamView S
ended_if over kept = if over then ended kept else kept

-- a packet was taken, or the wrong place; where the taker takes nothing more, the stream is ended
pub record TakesOne {S P T : Type 0} (k : Taking S P T) (old new : TakenStream S T) : Type 0 where
  pub answered : StreamView S
  pub took : Took k (Ok tt) old answered new.taker
  pub stream : new.stream ≡ ended_if (k.is_over new.taker) answered

-- nothing more is there to be taken
pub record Finishes {S P T : Type 0} (k : Taking S P T) (old new : TakenStream S T) : Type 0 where
  pub changes : Changes {P = P} (Ok None) old.stream new.stream
  pub nexts : Nexts {P = P} k.reader k.takes_memory (Ok None) old.stream new.stream
  pub taker : new.taker ≡ old.taker

abbrev pub TakesNext : {S P T : Type 0} → Taking S P T → Result Bool NoMemory → TakenStream S T → TakenStream S T → Type 0
TakesNext k (Ok true) old new = TakesOne k old new
TakesNext k (Ok false) old new = Finishes k old new
TakesNext k (Err memory) old new = Took k (Err memory) old new.stream new.taker

-- the packet that comes next, where one does, can be taken
abbrev pub CanTakeNext : {S P T : Type 0} → Taking S P T → (T → ℕ → P → Type 0) → TakenStream S T → Type 0
CanTakeNext {S = S} {P = P} k CanTake now =
    (new : StreamView S) (i : ℕ × P) → Changes (Ok (Some i)) now.stream new → Nexts k.reader k.takes_memory (Ok (Some i)) now.stream new → CanTake now.taker i.0 i.1

-- ---- a piece

-- so many were taken
abbrev pub TakesMany : {S P T : Type 0} → Taking S P T → ℕ → TakenStream S T → TakenStream S T → Type 0
TakesMany k zero old new = new ≡ old
TakesMany {S = S} {T = T} k (suc n) old new = (mid : TakenStream S T) × (TakesMany k n old mid × TakesOne k mid new)

-- whatever is taken, the packet that comes next can be
abbrev pub CanTakeWhole : {S P T : Type 0} → Taking S P T → (T → ℕ → P → Type 0) → TakenStream S T → Type 0
CanTakeWhole {S = S} {T = T} k CanTake old = (n : ℕ) (now : TakenStream S T) → TakesMany k n old now → CanTakeNext k CanTake now

-- all that is whole was taken, or memory ran out for what was next
abbrev pub TakesWhole : {S P T : Type 0} → Taking S P T → Result (Unit {0}) NoMemory → TakenStream S T → TakenStream S T → Type 0
TakesWhole {S = S} {T = T} k (Ok v) old new = (n : ℕ) × ((last : TakenStream S T) × (TakesMany k n old last × Finishes k last new))
TakesWhole {S = S} {T = T} k (Err memory) old new = (n : ℕ) × ((last : TakenStream S T) × (TakesMany k n old last × Took k (Err memory) last new.stream new.taker))

-- the piece has come, and some were taken
pub record Reaches {S P T : Type 0} (k : Taking S P T) (old : TakenStream S T) (piece : List ℕ) (new : TakenStream S T) : Type 0 where
  pub stream : StreamView S
  pub is : stream ≡ after_piece old.stream piece
  pub puts : Puts k.reader piece old.stream stream
  pub count : ℕ
  pub takes : TakesMany k count (record { stream = stream; taker = old.taker }) new

abbrev pub CanTakePiece : {S P T : Type 0} → Taking S P T → (T → ℕ → P → Type 0) → TakenStream S T → List ℕ → Type 0
CanTakePiece {S = S} {T = T} k CanTake old piece = (now : TakenStream S T) → Reaches k old piece now → CanTakeNext k CanTake now

-- memory ran out for the piece itself, which hasn't come
pub record IsUnput {S T : Type 0} (old new : TakenStream S T) (piece : List ℕ) : Type 0 where
  pub stream : new.stream ≡ passed old.stream
  pub taker : new.taker ≡ old.taker
  pub some : (0 < length piece) × (old.stream.over ≡ false)

-- all that it brought was taken, or memory ran out: for it, or for what was next
abbrev pub TakesPiece : {S P T : Type 0} → Taking S P T → Result (Unit {0}) NoMemory → TakenStream S T → List ℕ → TakenStream S T → Type 0
TakesPiece {S = S} {T = T} k (Ok v) old piece new = (last : TakenStream S T) × (Reaches k old piece last × Finishes k last new)
TakesPiece {S = S} {T = T} k (Err memory) old piece new = IsUnput old new piece ⊎ ((last : TakenStream S T) × (Reaches k old piece last × Took k (Err memory) last new.stream new.taker))

-- ---- what comes straight into the stream's memory

-- whatever comes can be taken
abbrev pub CanTakeAny : {S P T : Type 0} → Taking S P T → (T → ℕ → P → Type 0) → TakenStream S T → Type 0
CanTakeAny k CanTake old = (piece : List ℕ) → AreBytes piece → CanTakePiece k CanTake old piece

-- so many bytes came, and were taken as a piece; where none came nothing has changed
pub record TakesCome {S P T I : Type 0} (k : Taking S P T) (gives : I → ℕ → List ℕ → I → Type 0) (limit : ℕ) (result : Result (Unit {0}) NoMemory) (old : TakenStream S T) (from : I) (new : TakenStream S T) (left : I) : Type 0 where
  pub count : ℕ
  pub came : HasCome gives limit count from left
  pub some : 0 < count → TakesPiece k result old (take count came.room) new
  pub nothing : count ≡ 0 → (result ≡ Ok tt) × (new ≡ old)
