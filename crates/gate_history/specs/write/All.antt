-- All that a past has sent, told and counted: what each item gave after those before it, the earliest first.
use Rattle.usbip_urb.specs.Errors.{is_failed}
use Rattle.std.specs.Prelude.{ℕ, Bool, true, false, List, [], ◌∷◌, ◌++◌, length, filter}
use Rattle.usbip_urb.specs.declared.packet.UrbPacket.TheVariants as urb
use Rattle.usbip_urb.specs.declared.client.ClientPacket.{ClientPacket}
use Rattle.usbip_urb.specs.declared.client.ClientPacket.TheVariants.{Urb}
use Rattle.gate_history.specs.declared.note.Counts.{Counts}
use Rattle.usb_base.specs.Number.{capped}
use Rattle.gate_history.specs.step.Marks.{Submission, Mark}
use Rattle.gate_history.specs.client.Submits.{Pending}
use Rattle.gate_history.specs.state.State.{State, state_of}
use Rattle.gate_history.specs.write.Output.{to_client}
use Rattle.gate_history.specs.write.Notes.{dropped}

abbrev pub all_of : {A : Type 0} → (State → Mark → List A) → ℕ → List Mark → List A
all_of gives first [] = []
all_of gives first (m ∷ ms) = all_of gives first ms ++ gives (state_of first ms) m

-- ---- counts

abbrev pub is_ret_submit : ClientPacket → Bool
is_ret_submit (Urb (urb.RetSubmit r)) = true
is_ret_submit _ = false

-- an unlink that won: one that came too late is told 0
abbrev pub is_won_unlink : ClientPacket → Bool
is_won_unlink (Urb (urb.RetUnlink r)) = is_failed r.status
is_won_unlink _ = false

-- by all that went to clients, the submits that are live, and those that ended with their client
abbrev pub counted : List ClientPacket → List Pending → List Submission → Counts
counted sent live dropped = record {
  answered = capped (length (filter is_ret_submit sent));
  unlinked = capped (length (filter is_won_unlink sent));
  left = capped (length live);
  dropped = capped (length dropped);
}

abbrev pub counts_of : ℕ → List Mark → Counts
counts_of first ms = counted (all_of to_client first ms) (state_of first ms).live (all_of dropped first ms)
