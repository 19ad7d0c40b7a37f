-- What an unlink makes of what is kept.
use Rattle.std.specs.Prelude.{◌≡◌, ℕ, ◌+◌}
use Rattle.unlink_race.specs.Searches.{has_number}
use Rattle.unlink_race.specs.Firsts.{without_first, change_first}
use Rattle.unlink_race.specs.Unlinking.{unlinked_by}
use Rattle.gate_core.specs.declared.state.kept.Kept.{Kept}
use Rattle.usb_base.specs.Number.{capped}

-- the first unlink is kept
pub record HasMarked (target by : ℕ) (old new : Kept) : Type 0 where
  pub is : new ≡ record old { lives = record { live = change_first (has_number target) (unlinked_by by) old.lives.live; abandoned = old.lives.abandoned } }

-- the target is gone, and counted
pub record HasTakenBack (target : ℕ) (old new : Kept) : Type 0 where
  pub is : new ≡ record old {
    lives = record { live = without_first (has_number target) old.lives.live; abandoned = old.lives.abandoned };
    unlinked = capped (old.unlinked + 1);
  }
