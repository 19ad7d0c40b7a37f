-- The requests that end with their stream, by their rows: what goes out for them, and what is left.
use Rattle.std.specs.Prelude.{◌≡◌, ◌+◌, ◌&&◌, ℕ, not, Bool, if◌then◌else◌, List, [], length, filter}
use Rattle.usb_base.specs.declared.status.UsbStatus.{UsbStatus}
use Rattle.usb_base.specs.Status.{errno_of, is_success}
use Rattle.usbip_urb.specs.Spelling.{spelling}
use Rattle.unlink_race.specs.declared.live.Live.{Live}
use Rattle.unlink_race.specs.declared.live.StreamEnd.{StreamEnd}
use Rattle.unlink_race.specs.Searches.{ended_by, waits_for}
use Rattle.gate_core.specs.declared.state.kept.Kept.{Kept}
use Rattle.usb_base.specs.Number.{capped}
use Rattle.gate_history.specs.state.Ups.{lower_at}
use Rattle.gate_history.specs.write.Answers.{without_packets}
use Rattle.gate_parts.specs.state.Rows.{row_request}

-- ---- by what ends its stream

-- they are gone, and counted
pub record HasDropped (end : StreamEnd) (old new : Kept) : Type 0 where
  pub is : new ≡ record old {
    lives = record { live = filter (λ l. not (ended_by end l)) old.lives.live; abandoned = old.lives.abandoned };
    answered = capped (old.answered + length (filter (ended_by end) old.lives.live));
  }

-- ---- by what the host tells of the stream of an endpoint

abbrev pub is_told : ℕ → UsbStatus → Live → Bool
is_told ep status l = waits_for ep l && not (is_success status)

abbrev pub status_bytes : ℕ → UsbStatus → Live → List ℕ
status_bytes ep status l = if is_told ep status l then spelling (without_packets (row_request l) (errno_of status)) else []

-- the stream is down where it has ended
pub record HasStreamEnd (ep : ℕ) (status : UsbStatus) (old new : Kept) : Type 0 where
  pub is : new ≡ record old {
    lives = record { live = filter (λ l. not (is_told ep status l)) old.lives.live; abandoned = old.lives.abandoned };
    streams = if is_success status then old.streams else lower_at ep old.streams;
    answered = capped (old.answered + length (filter (is_told ep status) old.lives.live));
  }
