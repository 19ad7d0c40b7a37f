-- A host as a machine: a state that steps with each item, what goes to the guest, and what is told. Lists of items have
-- the latest first.
use Rattle.std.specs.Prelude.{ℕ, Bool, true, false, List, [], ◌∷◌}
use Rattle.std.specs.List.{flat_map}
use Rattle.packet_stream.specs.Folds.{rfold}
use Rattle.packet_stream.specs.Outputs.{past_outputs, outputs}
use Rattle.redir_wire.specs.State.{start}
use Rattle.redir_data.specs.Sent.{sent_packet_bytes}
use Rattle.model_device.specs.Meaning.{Meaning}
use Rattle.redir_host.specs.declared.state.host.Host.{Host}
use Rattle.redir_host.specs.declared.write.note.HostNote.{HostNote}
use Rattle.redir_host.specs.declared.write.note.HostNote.TheVariants as note
use Rattle.redir_host.specs.step.Items.{Item, Asked, Wrong, Performs, Offers, Unplugs}
use Rattle.redir_host.specs.step.Moves.{Move}
use Rattle.redir_host.specs.guest.Packets.{packet_move}
use Rattle.redir_host.specs.device.Performing.{perform_move}
use Rattle.redir_host.specs.device.Offering.{offer_move, unplug_move}

-- nothing came yet, to the host of a device in this state
abbrev pub first_host : {S : Type 0} → S → Host S
first_host s = record { gadget = s; guest = start; queue = []; resets_next = false; running = []; unplugged = false }

abbrev pub move : {S : Type 0} → Meaning S → Host S → Item → Move S
move m h (Asked id packet) = packet_move m h id packet
move m h (Wrong place reason) = record { host = h; sent = []; notes = note.Refused place reason ∷ [] }
move m h (Performs ep) = perform_move m h ep
move m h (Offers ep) = offer_move m h ep
move m h Unplugs = unplug_move h

abbrev pub step : {S : Type 0} → Meaning S → Host S → Item → Host S
step m h x = (move m h x).host

abbrev pub run : {S : Type 0} → Meaning S → S → List Item → Host S
run m s = rfold (step m) (first_host s)

-- ---- bytes

-- by the capabilities that are agreed once the item has come
abbrev pub bytes_of : {S : Type 0} → Move S → List ℕ
bytes_of v = flat_map (sent_packet_bytes v.host.guest.caps) v.sent

abbrev pub notes_of : {S : Type 0} → Move S → List HostNote
notes_of v = v.notes

abbrev pub is_refusal : HostNote → Bool
is_refusal (note.Refused place reason) = true
is_refusal _ = false

-- ---- of several items

abbrev pub all_given : {S A : Type 0} → (Move S → List A) → Meaning S → S → List Item → List A
all_given gives m s = past_outputs (λ past x. gives (move m (run m s past) x))

abbrev pub given_by : {S A : Type 0} → (Move S → List A) → Meaning S → Host S → List Item → List A
given_by gives m = outputs (step m) (λ h x. gives (move m h x))
