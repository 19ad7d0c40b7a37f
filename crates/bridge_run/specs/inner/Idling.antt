-- What a part of a round makes of the idle answers.
use Rattle.std.specs.Prelude.{◌≡◌, ◌⊎◌, ◌≤◌, ◌-◌, ℕ, Bool, true, false, Result, Ok, Err}
use Rattle.gate_outside.specs.Faults.{one_more}
use Rattle.bridge_run.specs.declared.course.serve_end.ServeEnd.{ServeEnd}
use Rattle.bridge_run.specs.declared.course.serve_end.ServeEnd.TheVariants.{Ended, Idle}
use Rattle.bridge_run.specs.declared.course.rounds.Rounds.{Rounds}
use Rattle.bridge_run.specs.course.Outside.{Outside, IsDown}

-- the counts of idle answers stand
pub record NotIdle (old new : Outside) : Type 0 where
  pub client : new.client.idle ≡ old.client.idle
  pub host : new.host.idle ≡ old.host.idle

-- a part of a round asks a side or doesn't: if it does, and nothing comes, that side was idle once
abbrev pub IdledOnce : Bool → Rounds → Rounds → ℕ → ℕ → Type 0
IdledOnce true k k' old new = (k'.busy ≡ true) × (old ≤ new) ⊎ (k' ≡ k) × (new ≡ one_more old)
IdledOnce false k k' old new = (k' ≡ k) × (new ≡ old)

-- an end within a round: with `Ended` no link is up, and `Idle` doesn't come
abbrev pub EndsWithin : {T : Type 0} → Result T ServeEnd → Outside → Type 0
EndsWithin (Err (Ended refused)) w = IsDown w
EndsWithin (Err Idle) w = ⊥
EndsWithin _ w = Unit {0}

-- in a round that brought nothing each side that it asks was idle once
pub record QuietRound (old new : Outside) : Type 0 where
  pub client : new.client.idle ≡ one_more old.client.idle
  pub host : new.host.up ≡ true → (old.host.up ≡ true) × (new.host.idle ≡ one_more old.host.idle)

-- no count falls
pub record AnyRound (old new : Outside) : Type 0 where
  pub client : old.client.idle ≤ new.client.idle
  pub host : old.host.idle ≤ new.host.idle

abbrev pub RoundIdles : Result (Unit {0}) ServeEnd → Rounds → Rounds → Outside → Outside → Type 0
RoundIdles (Ok _) k k' old new = AnyRound old new × ((k'.waits ≡ k.idle) ⊎ (k'.waits ≡ k.waits - 1) × QuietRound old new)
RoundIdles (Err Idle) k k' old new = (k.waits ≡ 1) × QuietRound old new
RoundIdles (Err (Ended refused)) k k' old new = IsDown new
RoundIdles (Err _) k k' old new = Unit {0}
