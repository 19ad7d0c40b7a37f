-- Small histories, computed: what some items send, tell and count.
use Rattle.std.proofs.Common.{◌≡◌, ℕ, true, false, List, [], ◌∷◌, ◌++◌, length, map, Some, None, refl}
use Rattle.std.specs.Prelude.{ℤ, pos, replicate, codes}
use Rattle.usb_base.specs.Number.{be_at, le_at}
use Rattle.usb_base.specs.declared.endpoint.EpRow.{EpRow}
use Rattle.usb_base.specs.declared.side.Side.TheVariants.{Client, Host}
use Rattle.usb_base.specs.declared.reason.Reason.TheVariants.{Version, AlreadyImported, NotImported, DuplicateSeq, Mismatch}
use Rattle.usbip_op.specs.declared.packet.OpPacket.TheVariants as op
use Rattle.usb_base.specs.declared.limits.TheConstants.{MAX_PACKETS}
use Rattle.usbip_urb.specs.declared.code.TheConstants.{MAX_LIVE}
use Rattle.usbip_urb.specs.declared.packet.UrbPacket.TheVariants as urb
use Rattle.redir_wire.specs.declared.packet.RedirControl.TheVariants as plain
use Rattle.redir_wire.specs.EpTable.{ep_rows}
use Rattle.redir_data.specs.declared.packet.RedirData.TheVariants as moving
use Rattle.redir_data.specs.declared.packet.RedirPacket.{RedirPacket}
use Rattle.redir_data.specs.declared.packet.RedirPacket.TheVariants.{Plain, Carrying}
use Rattle.control_route.specs.Routes.{route_of}
use Rattle.usbip_urb.specs.declared.client.ClientPacket.{ClientPacket}
use Rattle.usbip_urb.specs.declared.client.ClientPacket.TheVariants.{Op, Urb}
use Rattle.stream_buffers.specs.declared.up.TheConstants.{MAX_HELD}
use Rattle.gate_history.specs.declared.note.Note.{Note}
use Rattle.gate_history.specs.declared.note.Note.TheVariants as note
use Rattle.gate_history.specs.declared.item.Item.{Item}
use Rattle.gate_history.specs.declared.item.Item.TheVariants.{Asked, ClientWrong, ClientLeft, Told}
use Rattle.usb_base.specs.declared.errno.TheConstants.{ENOENT, EBUSY, EMSGSIZE, ECONNRESET, ESHUTDOWN, EREMOTEIO}
use Rattle.packet_stream.specs.Split.{split}
use Rattle.gate_history.specs.step.Events.{ClientPiece, ClientEnd}
use Rattle.gate_history.specs.declared.request.Request.{Request}
use Rattle.gate_history.specs.declared.verdict.Verdict.TheVariants.{Now}
use Rattle.gate_history.specs.client.Verdict.{verdict}
use Rattle.gate_history.specs.step.History.{arrivals}
use Rattle.gate_history.specs.state.State.{State, state_of}
use Rattle.gate_history.specs.step.Meaning.{mark_of}
use Rattle.gate_history.specs.step.Past.{past}
use Rattle.gate_history.specs.write.Output.{to_client, to_host}
use Rattle.gate_history.specs.write.Notes.{notes_of}
use Rattle.gate_history.specs.write.All.{counts_of}

-- ---- the items

abbrev told : ℕ → ℕ → ℕ → RedirPacket → Item
told place kind id p = Told place (record { kind = kind; length = 0; id = id }) p

-- the host announces the capabilities of this word
abbrev hello : ℕ → Item
hello word = told 0 0 0 (Plain (plain.Hello (record { version = []; words = word ∷ [] })))

-- in each direction endpoint 0, and one bulk, one interrupt and one isochronous endpoint
abbrev kinds : List ℕ
kinds = 0 ∷ 2 ∷ 3 ∷ 1 ∷ replicate 12 255

abbrev endpoints : Item
endpoints = told 80 5 0 (Plain (plain.EpInfo (record {
  kinds = kinds ++ kinds;
  interval = replicate 32 0;
  interface = replicate 32 0;
  max_packet = replicate 32 64;
})))

abbrev connect : Item
connect = told 404 1 0 (Plain (plain.Connect (record { speed = 2; class = 0; subclass = 0; protocol = 0; vendor = 0xfff0; product = 2; version = 0x0100 })))

abbrev device : ℕ → List Item
device word = connect ∷ endpoints ∷ hello word ∷ []

abbrev import_of : List ℕ → Item
import_of busid = Asked 0 (Op (op.ReqImport 0 (busid ++ replicate 29 0)))

abbrev imports : Item
imports = import_of (codes "1-1")

abbrev submit : (number direction ep flags length : ℕ) → List ℕ → List ℕ → Item
submit number direction ep flags length setup body = Asked 1000 (Urb (urb.Submit (record {
  head = record { seqnum = number; devid = 0x00010002; direction = direction; ep = ep };
  flags = flags;
  length = length;
  start_frame = 0;
  packets = 0;
  interval = 0;
  setup = setup;
  body = body;
  descs = [];
})))

abbrev bulk_in : ℕ → Item
bulk_in number = submit number 1 1 0 13 (replicate 8 0) []

abbrev bulk_answer : ℕ → ℕ → ℕ → List ℕ → Item
bulk_answer place id status body = told place 101 id (Carrying (moving.Bulk 0x81 status (length body) 0 body))

-- ---- what an item gives after these, the latest of them first

abbrev state_at : ℕ → List Item → State
state_at first items = state_of first (past first items)

abbrev client : List Item → Item → List ClientPacket
client items x = to_client (state_at 1 items) (mark_of (state_at 1 items) x)

abbrev host : ℕ → List Item → Item → List (ℕ × RedirPacket)
host first items x = to_host (state_at first items) (mark_of (state_at first items) x)

abbrev notes : List Item → Item → List Note
notes items x = notes_of (state_at 1 items) (mark_of (state_at 1 items) x)

-- the statuses, lengths and kinds of answers
abbrev brief : ClientPacket → List ℤ
brief (Op (op.RepImport status device)) = pos status ∷ []
brief (Op p) = []
brief (Urb (urb.RetSubmit r)) = pos r.head.seqnum ∷ r.status ∷ pos r.actual ∷ []
brief (Urb (urb.RetUnlink r)) = pos r.head.seqnum ∷ r.status ∷ []
brief (Urb p) = []

-- ---- an import of another bus id, an import, and a second one

another_bus : map brief (client (device 0x7A) (import_of (codes "1-2"))) ≡ (pos 1 ∷ []) ∷ []
unfolding ep_rows
another_bus = refl

imported : map brief (client (device 0x7A) imports) ≡ (pos 0 ∷ []) ∷ []
unfolding ep_rows
imported = refl

imported_twice : notes (imports ∷ device 0x7A) imports ≡ note.ClientGone ∷ note.Refused (record { side = Client; place = 0; reason = AlreadyImported; kept = None }) ∷ []
unfolding ep_rows
imported_twice = refl

-- ---- what goes to the host

abbrev get_descriptor : List ℕ
get_descriptor = 0x80 ∷ 0x06 ∷ 0x00 ∷ 0x01 ∷ 0x00 ∷ 0x00 ∷ 0x12 ∷ 0x00 ∷ []

control_packet : host 1 (imports ∷ device 0x7A) (submit 1 1 0 512 18 get_descriptor []) ≡ (1, Carrying (moving.Control 0x80 6 0x80 0 0x0100 0 18 [])) ∷ []
unfolding ep_rows route_of le_at
control_packet = refl

bulk_packet : host 1 (bulk_in 1 ∷ imports ∷ device 0x7A) (submit 2 0 1 0 3 (replicate 8 0) (1 ∷ 2 ∷ 3 ∷ [])) ≡ (2, Carrying (moving.Bulk 0x01 0 3 0 (1 ∷ 2 ∷ 3 ∷ []))) ∷ []
unfolding ep_rows
bulk_packet = refl

-- ---- answers by id

answered : map brief (client (bulk_in 1 ∷ imports ∷ device 0x7A) (bulk_answer 430 1 0 (0xa5 ∷ 0xa5 ∷ []))) ≡ (pos 1 ∷ pos 0 ∷ pos 2 ∷ []) ∷ []
unfolding ep_rows
answered = refl

answered_before : client (bulk_answer 430 1 0 [] ∷ bulk_in 1 ∷ imports ∷ device 0x7A) (bulk_answer 456 1 0 []) ≡ []
unfolding ep_rows
answered_before = refl

-- a short read that the client forbids
short_read : map brief (client (submit 1 1 1 1 13 (replicate 8 0) [] ∷ imports ∷ device 0x7A) (bulk_answer 430 1 0 (replicate 5 0xa5))) ≡ (pos 1 ∷ EREMOTEIO ∷ pos 5 ∷ []) ∷ []
unfolding ep_rows
short_read = refl

-- ---- an answer that isn't that of its request refuses the host, and so the device is lost

abbrev of_bulk_and_control : List Item
of_bulk_and_control = bulk_answer 430 1 0 [] ∷ bulk_in 2 ∷ bulk_in 1 ∷ imports ∷ device 0x7A

abbrev control_answer : Item
control_answer = told 482 100 2 (Carrying (moving.Control 0x80 0 0 0 0 0 0 []))

lost_by_mismatch : map brief (client of_bulk_and_control control_answer) ≡ (pos 2 ∷ ESHUTDOWN ∷ pos 0 ∷ []) ∷ []
unfolding ep_rows
lost_by_mismatch = refl

mismatched : notes of_bulk_and_control control_answer ≡ note.DeviceGone ∷ note.Refused (record { side = Host; place = 482; reason = Mismatch; kept = Some (101, 100) }) ∷ []
unfolding ep_rows
mismatched = refl

-- ---- statuses that the gateway makes itself

too_long : map brief (client (imports ∷ device 0) (submit 3 0 1 0 65536 (replicate 8 0) [])) ≡ (pos 3 ∷ EMSGSIZE ∷ pos 0 ∷ []) ∷ []
unfolding ep_rows
too_long = refl

limits : (MAX_LIVE ≡ 4096) × (MAX_HELD ≡ 1024) × (MAX_PACKETS ≡ 1024)
limits = (refl, refl, refl)

full : (row : EpRow) (r : Request) → verdict (record { lost = false; live = 4096; changing = false; row = row; wide = true }) r ≡ Now EBUSY
full row r = refl

-- ---- refusals of a client

not_imported : notes (device 0x7A) (bulk_in 1) ≡ note.ClientGone ∷ note.Refused (record { side = Client; place = 1000; reason = NotImported; kept = None }) ∷ []
unfolding ep_rows
not_imported = refl

in_flight_already : notes (bulk_in 1 ∷ imports ∷ device 0x7A) (bulk_in 1) ≡ note.ClientGone ∷ note.Refused (record { side = Client; place = 1004; reason = DuplicateSeq; kept = None }) ∷ []
unfolding ep_rows
in_flight_already = refl

cancelled_at_refusal : host 1 (bulk_in 1 ∷ imports ∷ device 0x7A) (bulk_in 1) ≡ (1, Plain plain.Cancel) ∷ []
unfolding ep_rows
cancelled_at_refusal = refl

-- ---- the next client waits for what the last one left at the host

abbrev left : List Item
left = ClientLeft ∷ bulk_in 1 ∷ imports ∷ device 0x7A

import_too_early : map brief (client left imports) ≡ (pos 1 ∷ []) ∷ []
unfolding ep_rows
import_too_early = refl

nobody_is_told : client (imports ∷ left) (bulk_answer 430 1 1 []) ≡ []
unfolding ep_rows
nobody_is_told = refl

abbrev next_client : List Item
next_client = imports ∷ bulk_answer 430 1 1 [] ∷ imports ∷ left

next_id : map (λ p. p.0) (host 1 next_client (bulk_in 1)) ≡ 2 ∷ []
unfolding ep_rows
next_id = refl

counted : counts_of 1 (past 1 (bulk_in 1 ∷ next_client)) ≡ record { answered = 0; unlinked = 0; left = 1; dropped = 1 }
unfolding ep_rows
counted = refl

-- ---- ids that wrap

last_id : map (λ p. p.0) (host 4294967295 (imports ∷ device 0) (bulk_in 1)) ≡ 4294967295 ∷ []
unfolding ep_rows
last_id = refl

first_again : map (λ p. p.0) (host 4294967295 (bulk_in 1 ∷ imports ∷ device 0) (bulk_in 2)) ≡ 1 ∷ []
unfolding ep_rows
first_again = refl

wrapped : counts_of 4294967295 (past 4294967295 (bulk_answer 430 4294967295 1 [] ∷ bulk_in 2 ∷ bulk_in 1 ∷ imports ∷ device 0)) ≡ record { answered = 1; unlinked = 0; left = 1; dropped = 0 }
unfolding ep_rows
wrapped = refl

-- ---- unlinks

abbrev unlink : (number target : ℕ) → Item
unlink number target = Asked 1000 (Urb (urb.Unlink (record { head = record { seqnum = number; devid = 0x00010002; direction = 0; ep = 0 }; target = target; pad = replicate 24 0 })))

abbrev asked_back : List Item
asked_back = unlink 2 1 ∷ bulk_in 1 ∷ imports ∷ device 0x7A

unlink_cancels : host 1 (bulk_in 1 ∷ imports ∷ device 0x7A) (unlink 2 1) ≡ (1, Plain plain.Cancel) ∷ []
unfolding ep_rows
unlink_cancels = refl

unlink_wins : map brief (client asked_back (bulk_answer 430 1 1 [])) ≡ (pos 2 ∷ ECONNRESET ∷ []) ∷ []
unfolding ep_rows
unlink_wins = refl

unlink_loses : map brief (client asked_back (bulk_answer 430 1 0 (replicate 13 0xa5))) ≡ (pos 1 ∷ pos 0 ∷ pos 13 ∷ []) ∷ (pos 2 ∷ pos 0 ∷ []) ∷ []
unfolding ep_rows
unlink_loses = refl

unlink_repeated : map brief (client asked_back (unlink 3 1)) ≡ (pos 3 ∷ pos 0 ∷ []) ∷ []
unfolding ep_rows
unlink_repeated = refl

unlink_of_nothing : map brief (client (imports ∷ device 0x7A) (unlink 5 9)) ≡ (pos 5 ∷ pos 0 ∷ []) ∷ []
unfolding ep_rows
unlink_of_nothing = refl

-- ---- a disconnect

abbrev disconnect : Item
disconnect = told 430 2 9 (Plain plain.Disconnect)

abbrev three : List Item
three = unlink 4 2 ∷ bulk_in 3 ∷ bulk_in 2 ∷ bulk_in 1 ∷ imports ∷ device 0x7A

all_end : map brief (client three disconnect) ≡ (pos 1 ∷ ESHUTDOWN ∷ pos 0 ∷ []) ∷ (pos 4 ∷ ECONNRESET ∷ []) ∷ (pos 3 ∷ ESHUTDOWN ∷ pos 0 ∷ []) ∷ []
unfolding ep_rows
all_end = refl

acknowledged : host 1 three disconnect ≡ (9, Plain plain.DisconnectAck) ∷ []
unfolding ep_rows
acknowledged = refl

lost_after : map brief (client (disconnect ∷ three) (bulk_in 5)) ≡ (pos 5 ∷ ESHUTDOWN ∷ pos 0 ∷ []) ∷ []
unfolding ep_rows
lost_after = refl

lost_counts : counts_of 1 (past 1 (bulk_in 5 ∷ disconnect ∷ three)) ≡ record { answered = 3; unlinked = 1; left = 0; dropped = 0 }
unfolding ep_rows
lost_counts = refl

-- ---- routes: a configuration, a port reset, and endpoints that are closed while a change is live

abbrev set_configuration : Item
set_configuration = submit 1 0 0 0 0 (0x00 ∷ 0x09 ∷ 0x01 ∷ 0 ∷ 0 ∷ 0 ∷ 0 ∷ 0 ∷ []) []

configuration_packet : host 1 (imports ∷ device 0x7A) set_configuration ≡ (1, Plain (plain.SetConfiguration 1)) ∷ []
unfolding ep_rows route_of le_at
configuration_packet = refl

configured : map brief (client (set_configuration ∷ imports ∷ device 0x7A) (told 430 8 1 (Plain (plain.ConfigurationStatus 0 1)))) ≡ (pos 1 ∷ pos 0 ∷ pos 0 ∷ []) ∷ []
unfolding ep_rows route_of le_at
configured = refl

closed : map brief (client (set_configuration ∷ imports ∷ device 0x7A) (bulk_in 2)) ≡ (pos 2 ∷ ENOENT ∷ pos 0 ∷ []) ∷ []
unfolding ep_rows route_of le_at
closed = refl

port_reset : host 1 (imports ∷ device 0x7A) (submit 1 0 0 0 0 (0x23 ∷ 0x03 ∷ 0x04 ∷ 0 ∷ 1 ∷ 0 ∷ 0 ∷ 0 ∷ []) []) ≡ (1, Plain plain.Reset) ∷ (2, Plain plain.GetConfiguration) ∷ []
unfolding ep_rows route_of le_at
port_reset = refl

-- ---- from bytes: a list request in two pieces, and then another client, whose first bytes are no version

pieces : arrivals (ClientPiece (0x01 ∷ 0x10 ∷ []) ∷ ClientEnd ∷ ClientPiece (0x05 ∷ 0 ∷ 0 ∷ 0 ∷ 0 ∷ []) ∷ ClientPiece (0x01 ∷ 0x11 ∷ 0x80 ∷ []) ∷ [])
    ≡ ClientWrong 0 Version ∷ ClientLeft ∷ Asked 0 (Op (op.ReqDevlist 0)) ∷ []
unfolding split be_at
pieces = refl
