-- When what is kept stands for a state of the machine, and what it does with an item.
use Rattle.std.specs.Prelude.{◌≡◌, ◌⊎◌, ◌∷◌, ◌<◌, not, ◌+◌, ◌-◌, ◌^◌, [], ◌++◌, ◌≤◌, ℕ, true, false, length, filter, IsTrue, None}
use Rattle.std.specs.List.{AllByRecursion, list_any}
use Rattle.usb_base.specs.declared.limits.TheConstants.{MAX_TRANSFER}
use Rattle.usbip_urb.specs.declared.code.TheConstants.{MAX_LIVE}
use Rattle.usbip_urb.specs.Buffers.{laid}
use Rattle.redir_wire.specs.declared.packet.Caps.{Caps}
use Rattle.unlink_race.specs.Requests.{no_requests}
use Rattle.unlink_race.specs.declared.live.Live.{Live}
use Rattle.unlink_race.specs.declared.live.LiveKind.{LiveKind}
use Rattle.unlink_race.specs.Searches.{goes_by_id, has_number, is_stream}
use Rattle.gate_parts.specs.declared.write.outputs.Outputs.{Outputs}
use Rattle.gate_core.specs.declared.state.kept.Kept.{Kept}
use Rattle.gate_parts.specs.declared.state.stream_ids.SentIds.{SentIds}
use Rattle.usb_base.specs.Number.{capped}
use Rattle.usb_base.specs.declared.endpoint.TheConstants.{ENDPOINTS}
use Rattle.gate_history.specs.step.Marks.{Mark}
use Rattle.gate_history.specs.state.Facts.{no_facts}
use Rattle.gate_history.specs.state.Ups.{no_streams}
use Rattle.gate_history.specs.declared.verdict.Verdict.{Verdict}
use Rattle.gate_history.specs.client.Verdict.{goes_by_id as goes_by_id_of}
use Rattle.gate_history.specs.write.Packets.{HasRoute}
use Rattle.gate_history.specs.client.Ends.{is_waiting}
use Rattle.gate_history.specs.state.State.{State}
use Rattle.gate_history.specs.write.Output.{to_client}
use Rattle.gate_history.specs.write.Notes.{notes_of, dropped}
use Rattle.gate_history.specs.write.All.{is_ret_submit, is_won_unlink}
use Rattle.gate_history.specs.write.Bytes.{client_bytes_of, host_bytes_of}
use Rattle.gate_history.specs.step.Machine.{start, with_mark}
use Rattle.gate_history.specs.declared.request.Request.{Request}
pub use Rattle.gate_core.specs.step.Stands.{Holds}
use Rattle.gate_history.specs.write.Asked.{HasItsPackets}
use Rattle.gate_parts.specs.state.Rows.{kind_of, IsFine, IsRead}
use Rattle.usb_base.specs.Writes.{Begins}

-- ---- standing for a state

-- what holds of each row
pub record IsRow (caps : Caps) (l : Live) : Type 0 where
  pub fine : IsFine caps l
  -- one that waits and is asked back is taken out, and never marked
  pub unasked : is_stream l.kind ≡ true → l.unlinker ≡ None

-- whatever came
pub record IsKept (t : Kept) : Type 0 where
  pub rows : AllByRecursion (IsRow t.sides.agreed) t.lives.live
  -- a client has requests only once it has imported the device, and imports it only once nothing is left of the former
  pub apart : t.sides.imported ≡ true → t.lives.abandoned ≡ []
  pub few : length t.lives.live ≤ MAX_LIVE
  pub left : length t.lives.abandoned ≤ MAX_LIVE
  -- each endpoint has its place
  pub places : length t.streams ≡ ENDPOINTS
  pub started : length t.stream_ids.started ≡ ENDPOINTS
  pub stopped : length t.stream_ids.stopped ≡ ENDPOINTS
  pub answered_fits : t.answered ≤ 2 ^ 64 - 1
  pub unlinked_fits : t.unlinked ≤ 2 ^ 64 - 1
  pub dropped_fits : t.dropped ≤ 2 ^ 64 - 1

-- nothing came yet
pub record IsFirst (t : Kept) (first : ℕ) : Type 0 where
  pub holds : Holds t (start first)
  pub answered : t.answered ≡ 0
  pub unlinked : t.unlinked ≡ 0
  pub dropped : t.dropped ≡ 0

-- ---- what is done with a mark, and so with an item

pub record Does (st : State) (m : Mark) (old new : Kept) (out_old out_new : Outputs) : Type 0 where
  pub holds : Holds new (with_mark st m)
  pub client : out_new.to_client ≡ out_old.to_client ++ client_bytes_of st m
  pub host : out_new.to_host ≡ out_old.to_host ++ host_bytes_of st m
  pub notes : out_new.notes ≡ out_old.notes ++ notes_of st m
  pub answered : new.answered ≡ capped (old.answered + length (filter is_ret_submit (to_client st m)))
  pub unlinked : new.unlinked ≡ capped (old.unlinked + length (filter is_won_unlink (to_client st m)))
  pub dropped : new.dropped ≡ capped (old.dropped + length (dropped st m))

-- for want of memory nothing has changed
pub record DoesNothing (old new : Kept) (out_old out_new : Outputs) : Type 0 where
  pub same : new ≡ old
  pub outputs : out_new ≡ out_old

-- for want of memory what is kept stands, and the outputs may have the first of what was to be sent and told
pub record StopsShort (old new : Kept) (out_old out_new : Outputs) : Type 0 where
  pub same : new ≡ old
  pub client : Begins out_old.to_client out_new.to_client
  pub host : Begins out_old.to_host out_new.to_host
  pub notes : Begins out_old.notes out_new.notes

-- ---- all requests ended

-- with the loss of the device, so many of them asked back
abbrev pub lost_by : ℕ → Kept → Kept
lost_by unlinked old = record old {
  lives = no_requests;
  facts = no_facts;
  sides = record old.sides { lost = true };
  streams = no_streams;
  fence = None;
  answered = capped (old.answered + (length old.lives.live - unlinked));
  unlinked = capped (old.unlinked + unlinked);
}

pub record HasLost (unlinked : ℕ) (old new : Kept) : Type 0 where
  pub is : new ≡ lost_by unlinked old

-- with their client, whose streams are stopped
abbrev pub left_by : SentIds → Kept → Kept
left_by sent_ids old = record old {
  lives = record { live = []; abandoned = old.lives.abandoned ++ filter goes_by_id old.lives.live };
  sides = record old.sides { imported = false };
  streams = no_streams;
  stream_ids = sent_ids.stream_ids;
  fence = sent_ids.fence;
  last = sent_ids.last;
  dropped = capped (old.dropped + length old.lives.live);
}

pub record HasLeft (sent_ids : SentIds) (old new : Kept) : Type 0 where
  pub is : new ≡ left_by sent_ids old

-- ---- a submit is taken in

-- its number is free, and there is room for it
pub record IsFree (t : Kept) (number : ℕ) : Type 0 where
  pub imported : t.sides.imported ≡ true
  pub number_free : list_any (has_number number) t.lives.live ≡ false
  pub room : length t.lives.live < MAX_LIVE

-- it is the last of the live ones, and this is the last id that was drawn
pub record HasOpened (live : Live) (last : ℕ) (old new : Kept) : Type 0 where
  pub is : new ≡ record old { lives = record { live = old.lives.live ++ live ∷ []; abandoned = old.lives.abandoned }; last = last }

-- such a request can be answered
pub record CanAnswer (r : Request) (kind : LiveKind) : Type 0 where
  pub packets : HasItsPackets r.packets r.descs
  pub few_bytes : r.transfer.wanted ≤ MAX_TRANSFER
  pub read : (r.transfer.wanted ≡ 0) ⊎ IsRead r.is_in kind
  pub by_id : not (is_stream kind) ≡ true

-- such a request can wait for a stream's packets
pub record CanWait (r : Request) : Type 0 where
  pub packets : HasItsPackets r.packets r.descs
  pub few_bytes : r.transfer.wanted ≤ MAX_TRANSFER
  pub lies : IsTrue (laid r.descs r.transfer.wanted)

-- one that goes by an id can be answered, one that waits can do so, and both find room
pub record CanGo (t : Kept) (r : Request) (v : Verdict) : Type 0 where
  pub answered : goes_by_id_of v ≡ true → CanAnswer r (kind_of v r.transfer.ep)
  pub room : goes_by_id_of v ≡ true → length t.lives.live < MAX_LIVE
  pub waits : is_waiting v ≡ true → CanWait r × (length t.lives.live < MAX_LIVE)
  pub sends : HasRoute v
