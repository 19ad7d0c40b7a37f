-- What an item sends to each side, by what the past says.
use Rattle.std.specs.Prelude.{ℕ, ◌==◌, ◌&&◌, ◌||◌, Bool, if◌then◌else◌, List, [], ◌∷◌, ◌++◌, map, filter, None, is_none, pos}
use Rattle.std.specs.List.{list_any, flat_map}
use Rattle.redir_wire.specs.declared.packet.Caps.{Caps}
use Rattle.redir_wire.specs.declared.packet.RedirControl.TheVariants as plain
use Rattle.redir_wire.specs.declared.packet.TheConstants.Caps.{DISCONNECT_ACK}
use Rattle.redir_wire.specs.Capability.{has}
use Rattle.redir_data.specs.declared.packet.RedirPacket.{RedirPacket}
use Rattle.redir_data.specs.declared.packet.RedirPacket.TheVariants.{Plain}
use Rattle.usbip_urb.specs.declared.client.ClientPacket.{ClientPacket}
use Rattle.usbip_urb.specs.declared.client.ClientPacket.TheVariants.{Op, Urb}
use Rattle.gate_history.specs.client.Verdict.{goes_by_id, is_wire}
use Rattle.gate_history.specs.step.Marks.{Submission, Effect, Replies, Imports, Unlinks, Disconnects, Mark}
use Rattle.gate_history.specs.state.Sides.{leaves}
use Rattle.gate_history.specs.client.Submits.{Pending, opened}
use Rattle.gate_history.specs.client.Ends.{is_waiting, ends, answers_at}
use Rattle.gate_history.specs.state.State.{State}
use Rattle.gate_history.specs.state.StreamIds.{asking}
use Rattle.gate_history.specs.write.Answers.{ret_unlink}

-- ---- to the client

-- a submit that was just accepted was not asked back yet
abbrev pub fresh : Submission → Pending
fresh s = record { submit = s; unlinker = None }

-- those that an item may end: the live ones, and the one that it opens
abbrev pub present : State → Effect → List Pending
present st e = st.live ++ map fresh (opened e)

-- the answers of those that it ends, in order of submission
abbrev pub answered : State → Effect → List ClientPacket
answered st e = map Urb (flat_map (λ p. answers_at p.submit p.unlinker (ends e p.submit)) (present st e))

-- an unlink can still win where its target is live and no earlier one asks for it
abbrev pub is_target : ℕ → Pending → Bool
is_target target p = goes_by_id p.submit.verdict && (p.submit.request.seqnum == target) && is_none p.unlinker

-- a request that waits for a stream's packets is taken back at once
abbrev pub is_taken : ℕ → Pending → Bool
is_taken target p = is_waiting p.submit.verdict && (p.submit.request.seqnum == target)

abbrev pub replies : State → Effect → List ClientPacket
replies st (Replies reply) = Op reply ∷ []
replies st (Imports reply) = Op reply ∷ []
replies st (Unlinks by target) = if list_any (λ p. is_target target p || is_taken target p) st.live then [] else Urb (ret_unlink by (pos 0)) ∷ []
replies st _ = []

abbrev pub to_client : State → Mark → List ClientPacket
to_client st m = replies st m.what ++ answered st m.what

-- ---- to the host, packets with their ids

-- a transfer on the wire is cancelled for its unlink, and where its client is gone
abbrev pub cancels : Effect → Pending → Bool
cancels (Unlinks by target) p = is_wire p.submit.verdict && is_target target p
cancels e p = is_wire p.submit.verdict && is_none p.unlinker && leaves e

-- a cancel has the id of the packet that it cancels
abbrev pub cancel : Pending → ℕ × RedirPacket
cancel p = (p.submit.id, Plain plain.Cancel)

-- `usb_redir_cap_device_disconnect_ack`: a disconnect is acknowledged, with its id
abbrev pub acknowledgements : Caps → Effect → List (ℕ × RedirPacket)
acknowledgements caps (Disconnects id) = if has caps DISCONNECT_ACK then (id, Plain plain.DisconnectAck) ∷ [] else []
acknowledgements caps _ = []

abbrev pub to_host : State → Mark → List (ℕ × RedirPacket)
to_host st m = map cancel (filter (cancels m.what) st.live) ++ asking st.streams m ++ acknowledgements st.sides.agreed m.what
