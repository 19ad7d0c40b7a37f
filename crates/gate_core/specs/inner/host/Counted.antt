-- How a request that has ended by its answer is counted.
use Rattle.std.specs.Prelude.{◌+◌}
use Rattle.unlink_race.specs.declared.ending.Ending.{Ending}
use Rattle.unlink_race.specs.declared.ending.Ending.TheVariants.{Unlinked}
use Rattle.gate_core.specs.declared.state.kept.Kept.{Kept}
use Rattle.usb_base.specs.Number.{capped}

-- its unlink has won, or it was answered itself
abbrev pub counted : Ending → Kept → Kept
counted (Unlinked by) old = record old { unlinked = capped (old.unlinked + 1) }
counted _ old = record old { answered = capped (old.answered + 1) }
