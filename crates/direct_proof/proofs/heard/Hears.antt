-- What the host makes of each packet that it reads.
use Rattle.std.proofs.Common.{◌≡◌, ℕ, ◌||◌, ◌&&◌, not, Bool, true, false, cond, [], ◌∷◌, ◌++◌, Option, is_some, refl, sym, ap, ◌∙◌}
use Rattle.std.proofs.Math.Bool.{and-false}
use Rattle.usb_base.specs.declared.transfer.Transfer.{Transfer}
use Rattle.usb_base.specs.Endpoint.{is_control, is_in_endpoint}
use Rattle.redir_wire.specs.declared.packet.RedirControl.TheVariants as plain
use Rattle.redir_wire.specs.declared.state.RedirState.{RedirState}
use Rattle.redir_data.specs.declared.packet.RedirPacket.{RedirPacket}
use Rattle.redir_data.specs.declared.packet.RedirPacket.TheVariants.{Plain, Carrying}
use Rattle.redir_data.specs.Streams.{advanced}
use Rattle.redir_data.specs.declared.packet.RedirData.{RedirData}
use Rattle.redir_data.specs.declared.packet.RedirData.TheVariants as moving
use Rattle.control_route.specs.declared.route.Route.TheVariants as route
use Rattle.model_device.specs.Meaning.{Meaning}
use Rattle.redir_host.specs.declared.state.host.Host.{Host}
use Rattle.redir_host.specs.declared.state.request.Asking.{Asking}
use Rattle.redir_host.specs.declared.state.request.Asking.TheVariants.{Nothing, Refuses, Asks}
use Rattle.redir_host.specs.declared.state.request.Form.{Form}
use Rattle.redir_host.specs.declared.state.request.Form.TheVariants as form
use Rattle.redir_host.specs.guest.Asking.{asking_of, asked_if, routed}
use Rattle.redir_host.specs.guest.Line.{Waits, asked_line}
use Rattle.redir_host.specs.step.Moves.{quiet as host_quiet}
use Rattle.redir_host.specs.guest.Packets.{packet_move_by, data_move, joins, queued, request}
use Rattle.redir_host.specs.state.Queues.{is_first_queue}
use Rattle.gate_history.specs.declared.request.Request.{Request}
use Rattle.gate_history.specs.declared.verdict.Pipe.TheVariants.{Control, Bulk, InterruptOut}
use Rattle.gate_history.specs.declared.verdict.Verdict.{Verdict}
use Rattle.gate_history.specs.declared.verdict.Verdict.TheVariants.{Wire, Routed}
use Rattle.gate_history.specs.client.Verdict.{changes}
use Rattle.direct_device.specs.Direct.{normal_of}
use Rattle.direct_proof.specs.Requests.{Entry, at_queue, form_of, form_by, queued_transfer, resets}
use Rattle.direct_proof.specs.Shared.{in_line}
use Rattle.direct_proof.specs.Cancels.{begins, is_request, IsAsking, CanAsk}
use Rattle.direct_proof.specs.Stale.{asks}
use Rattle.direct_proof.specs.Running.{stream_endpoint}
use Rattle.direct_proof.proofs.shared.Streaming.{IsQuiet}

abbrev pub form_changes : Form → Bool
form_changes (form.SetConfiguration c) = true
form_changes (form.SetAlt i a) = true
form_changes _ = false

pub data Heard {S : Type 0} (m : Meaning S) (h : Host S) (p : ℕ × RedirPacket) : Type 0 where
  Joins : (f : Form) (t : Transfer) → in_line p ≡ Waits 0 p.0 f t ∷ [] → begins p.1 ≡ true → IsQuiet p → ((fence : Option ℕ) → asks fence p ≡ form_changes f) → packet_move_by m h p.0 p.1 ≡ joins h p.0 f t → Heard m h p
  Resetting : p.1 ≡ Plain plain.Reset → Heard m h p
  Cancelling : p.1 ≡ Plain plain.Cancel → Heard m h p
  Switching : is_some (stream_endpoint p.1) ≡ true → Heard m h p
  Ignored : in_line p ≡ [] → begins p.1 ≡ false → IsQuiet p → ((fence : Option ℕ) → asks fence p ≡ false) → packet_move_by m h p.0 p.1 ≡ host_quiet h → Heard m h p

by : (f : Form) (t : Transfer) (g : Form) (u : Transfer) → form_changes g ≡ false → (b : Bool) → asked_if b g u ≡ Asks f t → form_changes f ≡ false
by f t g u h true e = let same : g ≡ f = cc in ap form_changes (sym same) ∙ h
by f t g u h false e = absurd (cc)

inside : (f : Form) (t : Transfer) (c : Bool) (g : Form) (u : Transfer) → form_changes g ≡ false → (b : Bool) → cond c Nothing (asked_if b g u) ≡ Asks f t → form_changes f ≡ false
inside f t true g u h b e = absurd (cc)
inside f t false g u h b e = by f t g u h b e

data-form : (d : RedirData) (f : Form) (t : Transfer) → asking_of d ≡ Asks f t → form_changes f ≡ false
data-form (moving.Control ep request kind status value index told body) f t e = by f t _ _ refl _ e
data-form (moving.Bulk ep status told stream body) f t e = by f t _ _ refl _ e
data-form (moving.Iso ep status told body) f t e = absurd (cc)
data-form (moving.Interrupt ep status told body) f t e = inside f t (is_in_endpoint ep) _ _ refl _ e

pub heard : {S : Type 0} (m : Meaning S) (h : Host S) (p : ℕ × RedirPacket) → IsAsking p.1 → Heard m h p
heard m h (id, Plain (plain.Hello x)) k = absurd k
heard m h (id, Plain plain.Reset) k = Resetting refl
heard m h (id, Plain (plain.SetConfiguration c)) k = Joins (form.SetConfiguration c) (routed (route.SetConfig c)) refl refl (refl, refl, λ ep b. refl) (λ fence. refl) refl
heard m h (id, Plain plain.GetConfiguration) k = Joins form.GetConfiguration (routed route.GetConfig) refl refl (refl, refl, λ ep b. refl) (λ fence. refl) refl
heard m h (id, Plain (plain.SetAlt i a)) k = Joins (form.SetAlt i a) (routed (route.SetAlt i a)) refl refl (refl, refl, λ ep b. refl) (λ fence. refl) refl
heard m h (id, Plain (plain.GetAlt i)) k = Joins (form.GetAlt i) (routed (route.GetAlt i)) refl refl (refl, refl, λ ep b. refl) (λ fence. refl) refl
heard m h (id, Plain (plain.StartIso e n c)) k = Switching refl
heard m h (id, Plain (plain.StopIso e)) k = Switching refl
heard m h (id, Plain (plain.StartInterrupt e)) k = Switching refl
heard m h (id, Plain (plain.StopInterrupt e)) k = Switching refl
heard m h (id, Plain plain.Cancel) k = Cancelling refl
heard m h (id, Plain _) k = Ignored refl refl (refl, refl, λ ep b. refl) (λ fence. refl) refl
heard m h (id, Carrying d) k = go (asking_of d) refl k
  where
    go : (a : Asking) → asking_of d ≡ a → CanAsk a → Heard m h (id, Carrying d)
    go Nothing e z = Ignored (ap (asked_line 0 id) e) (ap is_request e) (refl, refl, λ ep b. refl) (λ fence. refl) (ap (data_move h id) e)
    go (Refuses f ep) e z = absurd z
    go (Asks f t) e z = Joins f t (ap (asked_line 0 id) e) (ap is_request e) (refl, refl, λ ep b. refl) (λ fence. sym (data-form d f t e)) (ap (data_move h id) e)

-- its packet isn't the hello
pub not-greeting : (s : RedirState) (p : RedirPacket) → IsAsking p → advanced s p ≡ s
not-greeting s (Plain (plain.Hello x)) k = absurd k
not-greeting s _ k = refl

-- a change goes by its form, and so does no other, but for a reset
pub change-form : (r : Request) (v : Verdict) → changes v ≡ (resets v || form_changes (form_by r v))
change-form r (Wire Control) = refl
change-form r (Wire Bulk) = refl
change-form r (Wire InterruptOut) = refl
change-form r (Routed (route.SetConfig c)) = refl
change-form r _ = refl

-- it joins as the entry stands at the queue, with the mark of a reset that was read before it
pub joined : {S : Type 0} (h : Host S) (e : Entry) (id : ℕ) (f : Form) (t : Transfer) → h.resets_next ≡ resets e.load.verdict → id ≡ e.id → f ≡ form_of e.load → t ≡ queued_transfer e.load →
    queued h (is_first_queue (request false id f t)) id f t ≡ record h { queue = h.queue ++ at_queue e ∷ []; resets_next = false }
joined h e id f t mark same_id same_form same_transfer = λ i. record h {
  queue = h.queue ++ record { id = same_id i; form = same_form i; transfer = same_transfer i; reset = (ap (λ (b : Bool). is_control t.ep && b) mark ∙ (parts (resets e.load.verdict) refl).0) i } ∷ [];
  resets_next = (ap (λ (b : Bool). not (is_control t.ep) && b) mark ∙ (parts (resets e.load.verdict) refl).1) i;
}
  where
    first : resets e.load.verdict ≡ true → is_control t.ep ≡ true
    first h = ap (λ (x : Transfer). is_control x.ep) same_transfer ∙ ap (λ (b : Bool). is_control (cond b (routed route.GetConfig) (normal_of e.load)).ep) h

    parts : (b : Bool) → resets e.load.verdict ≡ b → ((is_control t.ep && b) ≡ b) × ((not (is_control t.ep) && b) ≡ false)
    parts true h = (ap (λ (b : Bool). b && true) (first h), ap (λ (b : Bool). not b && true) (first h))
    parts false h = (and-false (is_control t.ep), and-false (not (is_control t.ep)))
