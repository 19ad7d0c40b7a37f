-- Which refusals there are: a side is refused where its stream has a wrong place, and for four rules of the gate. There
-- is no other.
use Rattle.std.specs.Prelude.{ℕ, ◌+◌, not, Bool, true, false, if◌then◌else◌, List, [], ◌∷◌, ◌++◌, Option, Some, None}
use Rattle.std.specs.List.{find}
use Rattle.std.specs.Option.{option_and_then}
use Rattle.usb_base.specs.declared.side.Side.TheVariants.{Client, Host}
use Rattle.usb_base.specs.declared.reason.Reason.{Reason}
use Rattle.usb_base.specs.declared.reason.Reason.TheVariants.{NotImported, AlreadyImported, DuplicateSeq}
use Rattle.usb_base.specs.declared.refusal.Refusal.{Refusal}
use Rattle.usbip_op.specs.declared.packet.OpPacket.TheVariants as op
use Rattle.usbip_urb.specs.declared.packet.UrbPacket.TheVariants as urb
use Rattle.usbip_urb.specs.declared.client.ClientPacket.{ClientPacket}
use Rattle.usbip_urb.specs.declared.client.ClientPacket.TheVariants.{Op, Urb}
use Rattle.redir_wire.specs.Header.{head_size}
use Rattle.redir_wire.specs.declared.packet.Header.{Header}
use Rattle.redir_data.specs.declared.packet.RedirPacket.{RedirPacket}
use Rattle.gate_history.specs.declared.note.Note.{Note}
use Rattle.gate_history.specs.declared.note.Note.TheVariants as note
use Rattle.gate_history.specs.declared.item.Item.{Item}
use Rattle.gate_history.specs.declared.item.Item.TheVariants.{Asked, ClientWrong, ClientLeft, Told, HostWrong, HostLeft}
use Rattle.gate_history.specs.state.Sides.{refusal}
use Rattle.gate_history.specs.client.Ends.{has_id}
use Rattle.gate_history.specs.state.Flight.{wide_ids}
use Rattle.gate_history.specs.state.State.{State, state_of, submits, has_number}
use Rattle.gate_history.specs.step.Past.{is_left_out, past}
use Rattle.gate_history.specs.host.Responses.{response_of, expected_of, mismatch}
use Rattle.gate_history.specs.write.Notes.{refusal_notes}

-- ---- the rules of the gate

abbrev pub refused_if : Bool → ℕ → Reason → Option Refusal
refused_if broken place reason = if broken then Some (refusal Client place reason) else None

-- a client that has imported the device asks for no list and no import; one that hasn't sends no submit and no unlink;
-- and a submit's number, four bytes behind its beginning, is that of no submit in flight
abbrev pub client_rule : State → ℕ → ClientPacket → Option Refusal
client_rule st place (Op (op.ReqDevlist status)) = refused_if st.sides.imported place AlreadyImported
client_rule st place (Op (op.ReqImport status busid)) = refused_if st.sides.imported place AlreadyImported
client_rule st place (Op _) = None
client_rule st place (Urb (urb.Submit s)) =
    if not st.sides.imported then Some (refusal Client place NotImported) else refused_if (has_number st s.head.seqnum) (place + 4) DuplicateSeq
client_rule st place (Urb (urb.Unlink u)) = refused_if (not st.sides.imported) place NotImported
client_rule st place (Urb _) = None

-- what the host answers by an id is of the type, the endpoint and the length of the request that waits with it
abbrev pub host_rule : State → ℕ → Header → RedirPacket → Option Refusal
host_rule st place h p =
    option_and_then (λ response. option_and_then (λ s. mismatch place (head_size (wide_ids st.sides.agreed)) (expected_of s) h.kind response) (find (has_id h.id) (submits st ++ st.abandoned))) (response_of p)

-- ---- of an item, and of all

-- of a wrong place, or by a rule
abbrev pub cause : State → Item → Option Refusal
cause st (Asked place packet) = client_rule st place packet
cause st (ClientWrong place reason) = Some (refusal Client place reason)
cause st ClientLeft = None
cause st (Told place header packet) = host_rule st place header packet
cause st (HostWrong place reason) = Some (refusal Host place reason)
cause st HostLeft = None

-- those of items, of which what is left out has none
abbrev pub causes : ℕ → List Item → List Note
causes first [] = []
causes first (x ∷ xs) = causes first xs ++ (if is_left_out (state_of first (past first xs)) x then [] else refusal_notes (cause (state_of first (past first xs)) x))

-- ---- what is told

abbrev pub is_refusal : Note → Bool
is_refusal (note.Refused r) = true
is_refusal _ = false

-- ---- the wrong places among items

abbrev pub client_wrongs : List Item → List (ℕ × Reason)
client_wrongs [] = []
client_wrongs (ClientWrong place reason ∷ xs) = (place, reason) ∷ client_wrongs xs
client_wrongs (_ ∷ xs) = client_wrongs xs

abbrev pub host_wrongs : List Item → List (ℕ × Reason)
host_wrongs [] = []
host_wrongs (HostWrong place reason ∷ xs) = (place, reason) ∷ host_wrongs xs
host_wrongs (_ ∷ xs) = host_wrongs xs
