-- What the packets that a stream holds give to the rows of the requests that wait for it.
use Rattle.std.specs.Prelude.{◌≡◌, ◌≤◌, ◌∷◌, ℕ, zero, suc, Bool, List, [], ◌++◌, length, map, filter, drop, Option, Some, None}
use Rattle.std.specs.Option.{option_map}
use Rattle.usb_base.specs.declared.transfer.StreamPacket.{StreamPacket}
use Rattle.usbip_urb.specs.Spelling.{spelling}
use Rattle.stream_buffers.specs.Cuts.{Cut}
use Rattle.unlink_race.specs.declared.live.Live.{Live}
use Rattle.unlink_race.specs.Firsts.{without_first}
use Rattle.unlink_race.specs.Searches.{waits_for}
use Rattle.gate_history.specs.declared.note.Note.{Note}
use Rattle.gate_history.specs.declared.note.Note.TheVariants as note
use Rattle.gate_parts.specs.declared.host.fill.Filled.{Filled}
use Rattle.gate_history.specs.host.Fillings.{Given, Filling, Fill, cut_of, fill}
use Rattle.gate_history.specs.state.Ups.{Up}
use Rattle.gate_history.specs.write.Answers.{with_given}
use Rattle.gate_parts.specs.state.Rows.{row_request}

abbrev pub row_cut : ℕ → Live → List StreamPacket → Option (Cut Given)
row_cut max_packet l packets = cut_of max_packet (row_request l) packets

abbrev pub cut_bytes : Live → Option (Cut Given) → List ℕ
cut_bytes l None = []
cut_bytes l (Some cut) = spelling (with_given (row_request l) cut.gives)

-- the first of these packets are taken, so many of them, or none where they don't fill it
abbrev pub HasTaken : Option ℕ → List StreamPacket → Option (Cut Given) → Type 0
HasTaken None packets cut = cut ≡ None
HasTaken (Some count) packets cut = (count ≤ length packets) × (option_map (λ (c : Cut Given). c.leaves) cut ≡ Some (drop count packets))

abbrev pub rows_fill : ℕ → List Live → List StreamPacket → Fill
rows_fill max_packet rows packets = fill max_packet (map row_request rows) packets

abbrev pub bytes_by : Live → Option (Cut Given) → (List StreamPacket → List ℕ) → List ℕ
bytes_by l None rest = []
bytes_by l (Some cut) rest = spelling (with_given (row_request l) cut.gives) ++ rest cut.leaves

abbrev pub filled_bytes : ℕ → List Live → List StreamPacket → List ℕ
filled_bytes max_packet [] packets = []
filled_bytes max_packet (l ∷ ls) packets = bytes_by l (row_cut max_packet l packets) (filled_bytes max_packet ls)

abbrev pub filled_notes : Fill → List Note
filled_notes f = map (λ (x : Filling). note.Answered x.seqnum) f.fillings

abbrev pub waiting_rows : ℕ → List Live → List Live
waiting_rows ep rows = filter (waits_for ep) rows

-- without the first so many that pass the test
abbrev pub without_firsts : ℕ → (Live → Bool) → List Live → List Live
without_firsts zero test rows = rows
without_firsts (suc n) test rows = without_first test (without_firsts n test rows)

-- what the packets of an endpoint's stream fill
abbrev pub up_fill : ℕ → Up → List Live → Fill
up_fill ep up rows = rows_fill up.row.max_packet (waiting_rows ep rows) up.held

abbrev pub up_bytes : ℕ → Up → List Live → List ℕ
up_bytes ep up rows = filled_bytes up.row.max_packet (waiting_rows ep rows) up.held

pub record HasFilled (ep : ℕ) (up : Up) (rows : List Live) (f : Filled) : Type 0 where
  pub requests : f.requests ≡ length (up_fill ep up rows).fillings
  pub few : f.packets ≤ length up.held
  pub left : drop f.packets up.held ≡ (up_fill ep up rows).left
