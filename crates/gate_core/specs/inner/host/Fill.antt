-- What becomes of a stream that is up as a request joins it or a packet comes, and what is kept behind that.
use Rattle.std.specs.Prelude.{◌≡◌, ◌+◌, ◌∷◌, ℕ, Bool, true, false, if◌then◌else◌, List, [], ◌++◌, length}
use Rattle.usb_base.specs.declared.transfer.StreamPacket.{StreamPacket}
use Rattle.redir_data.specs.declared.stream_kind.StreamKind.{StreamKind}
use Rattle.unlink_race.specs.declared.live.Live.{Live}
use Rattle.unlink_race.specs.declared.live.LiveKind.TheVariants as live_kind
use Rattle.unlink_race.specs.Searches.{waits_for}
use Rattle.gate_history.specs.declared.note.Note.{Note}
use Rattle.gate_core.specs.declared.state.kept.Kept.{Kept}
use Rattle.usb_base.specs.Number.{capped}
use Rattle.gate_history.specs.state.Ups.{Up}
use Rattle.gate_history.specs.step.Meaning.{is_held}
use Rattle.gate_history.specs.declared.request.Request.{Request}
use Rattle.gate_parts.specs.state.Rows.{row_for}
use Rattle.gate_parts.specs.host.Fill.{filled_notes, without_firsts, up_fill, up_bytes}

-- ---- of all rows

-- the requests that this stream fills have ended, and the packets that they took are gone
pub record HasEnded (ep : ℕ) (up up_new : Up) (old new : Kept) : Type 0 where
  pub left : up_new ≡ record up { held = (up_fill ep up old.lives.live).left }
  pub is : new ≡ record old {
    lives = record { live = without_firsts (length (up_fill ep up old.lives.live).fillings) (waits_for ep) old.lives.live; abandoned = old.lives.abandoned };
    answered = capped (old.answered + length (up_fill ep up old.lives.live).fillings);
  }

-- ---- of a packet that came, of a stream that is up

-- with the packet, where it is held
abbrev pub with_packet : StreamPacket → Up → Up
with_packet packet up = record up { held = up.held ++ packet ∷ [] }

abbrev pub received_bytes : ℕ → StreamKind → StreamPacket → Up → List Live → List ℕ
received_bytes ep kind packet up rows = if is_held kind up then up_bytes ep (with_packet packet up) rows else []

abbrev pub received_notes : ℕ → StreamKind → StreamPacket → Up → List Live → List Note
received_notes ep kind packet up rows = if is_held kind up then filled_notes (up_fill ep (with_packet packet up) rows) else []

-- nothing has changed
pub record Stays (up up_new : Up) (old new : Kept) : Type 0 where
  pub up_same : up_new ≡ up
  pub same : new ≡ old

abbrev pub HasReceivedIf : ℕ → (held : Bool) → StreamPacket → (up up_new : Up) → (old new : Kept) → Type 0
HasReceivedIf ep true packet up up_new old new = HasEnded ep (with_packet packet up) up_new old new
HasReceivedIf ep false packet up up_new old new = Stays up up_new old new

-- it is held and may fill requests, or is lost
abbrev pub HasReceived : ℕ → StreamKind → StreamPacket → (up up_new : Up) → (old new : Kept) → Type 0
HasReceived ep kind packet up up_new old new = HasReceivedIf ep (is_held kind up) packet up up_new old new

-- ---- of a request that waits for a stream that is up

abbrev pub joining_row : Up → Request → Live
joining_row up r = row_for r (live_kind.Stream r.transfer.ep up.row.interface) 0

abbrev pub joined_rows : Up → Request → Kept → List Live
joined_rows up r t = t.lives.live ++ joining_row up r ∷ []

abbrev pub with_row : Live → Kept → Kept
with_row l t = record t { lives = record { live = t.lives.live ++ l ∷ []; abandoned = t.lives.abandoned } }

-- it is taken in, and then requests are filled
abbrev pub HasJoined : (up up_new : Up) → Request → (old new : Kept) → Type 0
HasJoined up up_new r old new = HasEnded r.transfer.ep up up_new (with_row (joining_row up r) old) new
