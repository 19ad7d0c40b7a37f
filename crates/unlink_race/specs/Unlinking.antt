-- What becomes of a request that an unlink asks for, and how the unlink marks it.
use Rattle.std.specs.Prelude.{ℕ, Option, Some, None}
use Rattle.unlink_race.specs.declared.live.Live.{Live}
use Rattle.unlink_race.specs.declared.live.LiveKind.{LiveKind}
use Rattle.unlink_race.specs.declared.live.LiveKind.TheVariants.{Wire, Routed, Stream}
use Rattle.unlink_race.specs.declared.unlink.AskedBack.{AskedBack}
use Rattle.unlink_race.specs.declared.unlink.AskedBack.TheVariants as asked

-- by its unlinker, its kind and its id: the first unlink decides
abbrev pub asked_as : Option ℕ → LiveKind → ℕ → AskedBack
asked_as (Some by) _ _ = asked.Already by
asked_as None (Wire ep kind) id = asked.Cancel id
asked_as None (Routed route) _ = asked.Waits
asked_as None (Stream ep interface) _ = asked.Taken

abbrev pub asked_back : Live → AskedBack
asked_back live = asked_as live.unlinker live.kind live.id

-- one that the host answers is marked
abbrev pub unlinked_by : ℕ → Live → Live
unlinked_by by live = record live { unlinker = Some by }
