-- Sources and sinks in memory, whose every answer is known.
use Rattle.std.specs.Prelude.{◌≡◌, ◌⊎◌, ◌<◌, ◌-◌, ℕ, min, true, false, List, ◌++◌, length, take, drop, Result, Ok, Err}
use Rattle.gate_outside.specs.Plan.{Plan, fails_now, passed, failed}

pub record Text : Type 0 where
  -- the bytes left
  pub left : List ℕ
  -- how many a read gives at most
  pub piece : ℕ
  pub plan : Plan

pub record Room : Type 0 where
  -- the bytes held
  pub held : List ℕ
  -- for how many more there is room
  pub free : ℕ
  -- how many a write takes at most
  pub piece : ℕ
  pub plan : Plan

-- a read into `room` bytes fails as planned, and otherwise gives as many bytes as it may
abbrev pub TextReads : {E : Type 0} → Result ℕ E → ℕ → Text → Text → Type 0
TextReads (Ok n) room old new =
    (fails_now old.plan ≡ false) × (n ≡ min (min (length old.left) old.piece) room) × (new ≡ record old { left = drop n old.left; plan = passed old.plan })
TextReads (Err _) room old new = (fails_now old.plan ≡ true) × (new ≡ record old { plan = failed old.plan })

-- a write fails as planned or where no room is free, and otherwise takes as many bytes as it may
abbrev pub RoomWrites : {E : Type 0} → Result ℕ E → List ℕ → Room → Room → Type 0
RoomWrites (Ok n) piece old new = (fails_now old.plan ≡ false) × (0 < old.free) × (n ≡ min (min (length piece) old.piece) old.free)
    × (new ≡ record old { held = old.held ++ take n piece; free = old.free - n; plan = passed old.plan })
RoomWrites (Err _) piece old new = ((fails_now old.plan ≡ true) ⊎ (old.free ≡ 0)) × (new ≡ record old { plan = failed old.plan })
