-- How a request ends by the host's answer: by its unlinker, its kind and the answer's status.
use Rattle.std.specs.Prelude.{ℕ, Option, Some, None}
use Rattle.usb_base.specs.declared.status.UsbStatus.{UsbStatus}
use Rattle.usb_base.specs.declared.status.UsbStatus.TheVariants.{Cancelled}
use Rattle.unlink_race.specs.declared.live.LiveKind.{LiveKind}
use Rattle.unlink_race.specs.declared.live.LiveKind.TheVariants.{Wire}
use Rattle.unlink_race.specs.declared.ending.Ending.{Ending}
use Rattle.unlink_race.specs.declared.ending.Ending.TheVariants.{Completed, Unlinked, CompletedThenLate}

-- only what was cancelled on the wire was taken back
abbrev pub ending_of : Option ℕ → LiveKind → UsbStatus → Ending
ending_of None _ _ = Completed
ending_of (Some by) (Wire ep kind) Cancelled = Unlinked by
ending_of (Some by) _ _ = CompletedThenLate by
