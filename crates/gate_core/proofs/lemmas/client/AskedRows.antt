-- What an unlink makes of the rows, and what is sent and counted for it.
use Rattle.std.specs.Option.{option_or}
use Rattle.std.specs.Prelude.{ℕ, ◌==◌, ◌&&◌, not, Bool, true, false, if◌then◌else◌, List, [], map, filter, Option, Some, None, is_none}
use Rattle.redir_wire.specs.declared.packet.Caps.{Caps}
use Rattle.redir_wire.specs.declared.packet.RedirControl.TheVariants as plain
use Rattle.redir_data.specs.declared.packet.RedirPacket.TheVariants.{Plain}
use Rattle.unlink_race.specs.declared.live.Live.{Live}
use Rattle.unlink_race.specs.Firsts.{without_first, change_first}
use Rattle.unlink_race.specs.Searches.{is_stream, goes_by_id, has_number}
use Rattle.unlink_race.specs.Unlinking.{unlinked_by}
use Rattle.unlink_race.specs.declared.unlink.AskedBack.{AskedBack}
use Rattle.unlink_race.specs.declared.unlink.AskedBack.TheVariants.{Already, Cancel, Waits, Taken}
use Rattle.usbip_urb.specs.Spelling.{spelling}
use Rattle.usb_base.specs.declared.errno.TheConstants.{ECONNRESET}
use Rattle.gate_history.specs.write.Answers.{ret_unlink}
use Rattle.redir_data.specs.Sent.{sent_packet_bytes}
use Rattle.gate_parts.specs.state.Rows.{is_wire_row}

-- ---- of every row

abbrev pub asked_row : ℕ → ℕ → Live → Live
asked_row target by l = record l { unlinker = option_or l.unlinker (if goes_by_id l && (l.seqnum == target) then Some by else None) }

abbrev pub is_target_row : ℕ → Live → Bool
is_target_row target l = goes_by_id l && (l.seqnum == target) && is_none l.unlinker

abbrev pub is_taken_row : ℕ → Live → Bool
is_taken_row target l = is_stream l.kind && (l.seqnum == target)

abbrev pub cancel_row : Caps → ℕ → Live → List ℕ
cancel_row caps target l = if is_wire_row l.kind && is_target_row target l then sent_packet_bytes caps (l.id, Plain plain.Cancel) else []

-- those that stay
abbrev pub asked_rows : ℕ → ℕ → List Live → List Live
asked_rows target by ls = map (asked_row target by) (filter (λ l. not (is_taken_row target l)) ls)

-- ---- by what becomes of the row that has the number, where one has it

-- one that is taken is gone, one that the host answers is marked, and else nothing changes
abbrev pub left_as : ℕ → ℕ → Option AskedBack → List Live → List Live
left_as target by (Some Taken) ls = without_first (has_number target) ls
left_as target by (Some (Cancel id)) ls = change_first (has_number target) (unlinked_by by) ls
left_as target by (Some Waits) ls = change_first (has_number target) (unlinked_by by) ls
left_as target by _ ls = ls

-- none has it, or another unlink was first
abbrev pub is_late : Option AskedBack → Bool
is_late None = true
is_late (Some (Already first)) = true
is_late _ = false

-- so many are taken back
abbrev pub taken_count : Option AskedBack → ℕ
taken_count (Some Taken) = 1
taken_count _ = 0

-- and answered so, where the unlink is the one with this number
abbrev pub taken_bytes : ℕ → Option AskedBack → List ℕ
taken_bytes by (Some Taken) = spelling (ret_unlink by ECONNRESET)
taken_bytes by _ = []

abbrev pub asked_bytes : Caps → Option AskedBack → List ℕ
asked_bytes caps (Some (Cancel id)) = sent_packet_bytes caps (id, Plain plain.Cancel)
asked_bytes caps _ = []
