-- The rows of the requests in flight: what each keeps of its submit.
use Rattle.std.specs.Prelude.{ℕ, Option, None, ◌≡◌, ◌⊎◌, ◌&&◌, not, ◌≤◌, Bool, IsTrue, true, false, if◌then◌else◌, List, [], is_none, ℤ}
use Rattle.unlink_race.specs.declared.live.Live.{Live}
use Rattle.unlink_race.specs.declared.live.LiveKind.{LiveKind}
use Rattle.unlink_race.specs.declared.live.LiveKind.TheVariants as live_kind
use Rattle.gate_history.specs.declared.verdict.Verdict.{Verdict}
use Rattle.gate_history.specs.declared.verdict.Verdict.TheVariants.{Wire, Routed, Stream}
use Rattle.gate_history.specs.client.Verdict.{pipe_kind, is_wire}
use Rattle.gate_history.specs.step.Marks.{Submission}
use Rattle.gate_history.specs.client.Submits.{Pending}
use Rattle.gate_history.specs.client.Ends.{lost_answer}
use Rattle.usb_base.specs.Endpoint.{is_in_endpoint}
use Rattle.usb_base.specs.declared.limits.TheConstants.{MAX_TRANSFER}
use Rattle.usbip_urb.specs.Spelling.{spelling}
use Rattle.redir_wire.specs.declared.packet.Caps.{Caps}
use Rattle.redir_wire.specs.declared.packet.RedirControl.TheVariants as plain
use Rattle.redir_wire.specs.Header.{IdFits}
use Rattle.redir_data.specs.declared.packet.RedirPacket.TheVariants.{Plain}
use Rattle.usbip_urb.specs.Buffers.{laid}
use Rattle.unlink_race.specs.Searches.{is_stream, ended_by}
use Rattle.gate_history.specs.declared.request.Request.{Request}
use Rattle.gate_history.specs.state.Flight.{wide_ids}
use Rattle.gate_history.specs.host.Responses.{route_gets}
use Rattle.gate_history.specs.write.Answers.{without_packets}
use Rattle.redir_data.specs.Sent.{sent_packet_bytes}
use Rattle.gate_history.specs.write.Asked.{HasItsPackets, answered_transfer}
use Rattle.unlink_race.specs.declared.live.StreamEnd.{StreamEnd}

-- what is answered at once is never in flight
abbrev pub kind_of : Verdict → ℕ → LiveKind
kind_of (Wire pipe) ep = live_kind.Wire ep (pipe_kind pipe)
kind_of (Routed r) ep = live_kind.Routed r
kind_of (Stream row) ep = live_kind.Stream ep row.interface
kind_of _ ep = live_kind.Stream ep 0

-- the row of a request that goes as one of this kind, under this id
abbrev pub row_for : Request → LiveKind → ℕ → Live
row_for r kind id = record {
  seqnum = r.seqnum;
  id = id;
  kind = kind;
  is_in = r.is_in;
  wanted = r.transfer.wanted;
  flags = r.flags;
  packets = r.packets;
  descs = r.descs;
  unlinker = None;
}

abbrev pub row_of : Submission → Option ℕ → Live
row_of s by = record (row_for s.request (kind_of s.verdict s.request.transfer.ep) s.id) { unlinker = by }

abbrev pub row : Pending → Live
row p = row_of p.submit p.unlinker

-- of a client that has left it doesn't matter what it asked back
abbrev pub unmarked : Live → Live
unmarked l = record l { unlinker = None }

abbrev pub left_row : Submission → Live
left_row s = row_of s None

-- ---- what the answers of a submit have of it

abbrev pub is_wire_row : LiveKind → Bool
is_wire_row (live_kind.Wire ep kind) = true
is_wire_row _ = false

pub record IsRowOf (s : Submission) (l : Live) : Type 0 where
  pub seqnum : l.seqnum ≡ s.request.seqnum
  pub is_in : l.is_in ≡ s.request.is_in
  pub flags : l.flags ≡ s.request.flags
  pub packets : l.packets ≡ s.request.packets
  pub descs : l.descs ≡ s.request.descs
  pub wanted : l.wanted ≡ s.request.transfer.wanted
  pub wire : is_wire_row l.kind ≡ is_wire s.verdict

-- ---- what holds of each row

-- data come from the device only where the submit says so
abbrev pub IsRead : Bool → LiveKind → Type 0
IsRead is_in (live_kind.Wire ep kind) = is_in_endpoint ep ≡ is_in
IsRead is_in (live_kind.Routed r) = route_gets r ≡ true → is_in ≡ true
IsRead is_in (live_kind.Stream ep interface) = Unit {0}

pub record IsFine (caps : Caps) (l : Live) : Type 0 where
  pub packets : HasItsPackets l.packets l.descs
  pub few_bytes : l.wanted ≤ MAX_TRANSFER
  pub read : (l.wanted ≡ 0) ⊎ IsRead l.is_in l.kind
  pub id_fits : IdFits (wide_ids caps) l.id
  -- the isochronous packets of one that waits lie over its buffer
  pub lies : is_stream l.kind ≡ true → IsTrue (laid l.descs l.wanted)

-- ---- what goes out for a row

abbrev pub row_request : Live → Request
row_request l = record {
  seqnum = l.seqnum;
  is_in = l.is_in;
  flags = l.flags;
  packets = l.packets;
  descs = l.descs;
  transfer = answered_transfer l.wanted;
}

-- where the device is lost
abbrev pub lost_bytes : Live → List ℕ
lost_bytes l = spelling (lost_answer (row_request l) l.unlinker)

-- where the client is gone
abbrev pub is_cancelled_row : Live → Bool
is_cancelled_row l = is_wire_row l.kind && is_none l.unlinker

abbrev pub cancel_bytes : Caps → Live → List ℕ
cancel_bytes caps l = if is_cancelled_row l then sent_packet_bytes caps (l.id, Plain plain.Cancel) else []

abbrev pub is_asked_back : Live → Bool
is_asked_back l = not (is_none l.unlinker)

abbrev pub ended_bytes : StreamEnd → ℤ → Live → List ℕ
ended_bytes end status l = if ended_by end l then spelling (without_packets (row_request l) status) else []
