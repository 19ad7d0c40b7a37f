-- What a connection was asked, call by call, and what it answered.
use Rattle.std.specs.Prelude.{◌≡◌, ℕ, suc, Bool, true, false, List, [], ◌∷◌, ◌++◌, Option, Some, Result}
use Rattle.std.specs.declared.io.Error.{Error}
use Rattle.gate_sockets.specs.declared.step.Step.{Step}
use Rattle.gate_sockets.specs.declared.step.Step.TheVariants.{Broken}
use Rattle.gate_sockets.specs.Step.{step_for, moved_of}

pub record Call : Type 0 where
  -- it read, or it wrote
  pub reads : Bool
  -- the buffer after a read, or the piece of a write
  pub bytes : List ℕ
  pub answer : Result ℕ Error

-- what a read does, and what a write does: the connection before it, the bytes, the answer, and the connection after it
abbrev pub DidBy : {S : Type 0} → (S → List ℕ → Result ℕ Error → S → Type 0) → (S → List ℕ → Result ℕ Error → S → Type 0) → Bool → List ℕ → Result ℕ Error → S → S → Type 0
DidBy reads writes true bytes answer old new = reads old bytes answer new
DidBy reads writes false bytes answer old new = writes old bytes answer new

-- the connection that is there took this call, and is there
abbrev pub Did : {S : Type 0} → (S → List ℕ → Result ℕ Error → S → Type 0) → (S → List ℕ → Result ℕ Error → S → Type 0) → Call → Option S → Option S → Type 0
Did {S = S} reads writes call old new = (a : S) × ((b : S) × ((old ≡ Some a) × (new ≡ Some b) × DidBy reads writes call.reads call.bytes call.answer a b))

-- one call after the other, the latest first
abbrev pub Calls : {S : Type 0} → (S → List ℕ → Result ℕ Error → S → Type 0) → (S → List ℕ → Result ℕ Error → S → Type 0) → List Call → Option S → Option S → Type 0
Calls reads writes [] old new = new ≡ old
Calls {S = S} reads writes (call ∷ calls) old new = (mid : Option S) × (Calls reads writes calls old mid × Did reads writes call mid new)

abbrev pub moved : Call → List ℕ
moved call = moved_of (step_for call.answer) call.bytes

-- these bytes, and behind them what a read gave
abbrev pub came_by : Bool → Call → List ℕ → List ℕ
came_by true call bytes = bytes ++ moved call
came_by false call bytes = bytes

-- these bytes, and behind them all that the reads gave, in order
abbrev pub came : List Call → List ℕ → List ℕ
came [] bytes = bytes
came (call ∷ calls) bytes = came_by call.reads call (came calls bytes)

abbrev pub went_by : Bool → Call → List ℕ → List ℕ
went_by true call bytes = bytes
went_by false call bytes = bytes ++ moved call

-- these bytes, and behind them all that the writes took, in order
abbrev pub went : List Call → List ℕ → List ℕ
went [] bytes = bytes
went (call ∷ calls) bytes = went_by call.reads call (went calls bytes)

abbrev pub tries_by : Bool → ℕ → ℕ
tries_by true n = n
tries_by false n = suc n

-- so many, and the writes
abbrev pub tries : List Call → ℕ → ℕ
tries [] n = n
tries (call ∷ calls) n = tries_by call.reads (tries calls n)

abbrev pub broken_by : Step → Bool → Bool
broken_by (Broken e) before = true
broken_by _ before = before

-- it had broken before, or one of these calls told so
abbrev pub broken : List Call → Bool → Bool
broken [] before = before
broken (call ∷ calls) before = broken_by (step_for call.answer) (broken calls before)
