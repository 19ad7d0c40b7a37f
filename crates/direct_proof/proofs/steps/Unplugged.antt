-- Behind its end nothing is performed or sent by the device.
use Rattle.std.proofs.Common.{◌≡◌, Bool, true, false, cond, List, [], ◌∷◌, None, refl, ap, ◌∙◌, take, fold}
use Rattle.std.specs.List.{find, flat_map, list_any}
use Rattle.redir_data.specs.Streams.{advanced}
use Rattle.model_device.specs.Meaning.{Meaning}
use Rattle.redir_host.specs.declared.state.host.Host.{Host}
use Rattle.redir_host.specs.declared.write.note.HostNote.{HostNote}
use Rattle.redir_host.specs.declared.write.note.HostNote.TheVariants as host_note
use Rattle.redir_host.specs.declared.write.note.Offered.TheVariants as offered
use Rattle.redir_host.specs.step.Acts.{Piece, Perform as Performs, Offer as Offers, Unplug as Unplugs}
use Rattle.redir_host.specs.step.History.{brought}
use Rattle.redir_host.specs.step.Items.{Item as HostItem, Asked, Wrong, Performs as ItemPerforms, Offers as ItemOffers, Unplugs as ItemUnplugs}
use Rattle.redir_host.specs.step.Machine.{move, step as host_step}
use Rattle.redir_host.specs.step.Moves.{quiet}
use Rattle.redir_host.specs.device.Offering.{offered_on, told_offered_by, unplug_move}
use Rattle.redir_host.specs.write.Output.{act_notes, host_of}
use Rattle.redir_host.specs.guest.Packets.{packet_move_by, runs_at}
use Rattle.redir_host.specs.device.Performing.{first_performed, perform_move_by, told_performed_by}
use Rattle.redir_host.specs.state.Queues.{is_at}
use Rattle.redir_host.proofs.lemmas.step.Acts.{act-host}
use Rattle.gate_history.specs.declared.note.Note.{Note}
use Rattle.gate_history.specs.declared.note.Note.TheVariants as note
use Rattle.gate_history.specs.step.Events.{ClientPiece, ClientEnd as ClientEnds, HostPiece}
use Rattle.gate_history.specs.write.Notes.{notes_of}
use Rattle.direct_run.specs.declared.submitted.Submitted.{Submitted}
use Rattle.direct_run.specs.Noted.{item_of, item_of_host, performed_item, offered_item}
use Rattle.direct_run.specs.Steps.{PastStep, Client, ClientEnd, ToHost, ToGate, Perform, Offer, Unplug}
use Rattle.direct_run.specs.Trace.{given_of, submits_of, told_by}
use Rattle.direct_run.specs.World.{course, wire_to_gate, wire_to_host}
use Rattle.direct_proof.specs.Simulates.{is_unplug, is_of_device, QuietBehindUnplug}

-- ---- the host stays gone

goes-off : {S : Type 0} (h : Host S) → (unplug_move h).host.unplugged ≡ true
goes-off h = go h.unplugged refl
  where
    go : (b : Bool) → h.unplugged ≡ b → (unplug_move h).host.unplugged ≡ true
    go true e = ap (λ (b : Bool). (cond b (quiet h) (unplug_move (record h { unplugged = false }))).host.unplugged) e ∙ e
    go false e = ap (λ (b : Bool). (cond b (quiet h) (unplug_move (record h { unplugged = false }))).host.unplugged) e

stays : {S : Type 0} (m : Meaning S) (h : Host S) (x : HostItem) → h.unplugged ≡ true → (move m h x).host.unplugged ≡ true
stays {S = S} m h (Asked id p) off = ap (λ (b : Bool). (cond b (quiet g) (packet_move_by m g id p)).host.unplugged) off ∙ off
  where
    g : Host S
    g = record h { guest = advanced h.guest p }
stays m h (Wrong place reason) off = off
stays m h (ItemPerforms ep) off = ap (λ (b : Bool). (perform_move_by h (cond b None (first_performed m h ep (find (is_at ep) h.queue)))).host.unplugged) off ∙ off
stays m h (ItemOffers ep) off = ap (λ (b : Bool). (cond b (quiet h) (offered_on m h ep (find (runs_at ep) h.running))).host.unplugged) off ∙ off
stays m h ItemUnplugs off = goes-off h

stays-all : {S : Type 0} (m : Meaning S) (h : Host S) (xs : List HostItem) → h.unplugged ≡ true → (fold (host_step m) h xs).unplugged ≡ true
stays-all m h [] off = off
stays-all m h (x ∷ xs) off = stays-all m (move m h x).host xs (stays m h x off)

off-course : {S : Type 0} (m : Meaning S) (s : S) (steps : List PastStep) → list_any is_unplug steps ≡ true → (host_of m s (course m s steps).acts).unplugged ≡ true
off-course {S = S} m s [] h = absurd (cc)
off-course {S = S} m s (Client b ∷ steps) h = off-course m s steps h
off-course {S = S} m s (ClientEnd ∷ steps) h = off-course m s steps h
off-course {S = S} m s (ToGate n ∷ steps) h = off-course m s steps h
off-course {S = S} m s (ToHost n ∷ steps) h =
    let acts = (course m s steps).acts in
    ap (λ (k : Host S). k.unplugged) (act-host m s acts (Piece (take n (wire_to_host (course m s steps))))) ∙ stays-all m (host_of m s acts) (brought acts (Piece (take n (wire_to_host (course m s steps))))) (off-course m s steps h)
off-course {S = S} m s (Perform ep ∷ steps) h =
    let acts = (course m s steps).acts in
    ap (λ (k : Host S). k.unplugged) (act-host m s acts (Performs ep)) ∙ stays-all m (host_of m s acts) (brought acts (Performs ep)) (off-course m s steps h)
off-course {S = S} m s (Offer ep ∷ steps) h =
    let acts = (course m s steps).acts in
    ap (λ (k : Host S). k.unplugged) (act-host m s acts (Offers ep)) ∙ stays-all m (host_of m s acts) (brought acts (Offers ep)) (off-course m s steps h)
off-course {S = S} m s (Unplug ∷ steps) h = let acts = (course m s steps).acts in ap (λ (k : Host S). k.unplugged) (act-host m s acts Unplugs) ∙ goes-off (host_of m s acts)

-- ---- and nothing is told of it

gate-tells : (ns : List Note) → list_any is_of_device (flat_map item_of ns) ≡ false
gate-tells [] = refl
gate-tells (note.Imported ∷ ns) = gate-tells ns
gate-tells (_ ∷ ns) = gate-tells ns

host-tells : (submits : List Submitted) (ns : List HostNote) → list_any is_of_device (flat_map (item_of_host submits) ns) ≡ false
host-tells submits [] = refl
host-tells submits (host_note.Cancelled id ∷ ns) = host-tells submits ns
host-tells submits (host_note.Refused place reason ∷ ns) = host-tells submits ns

tells-none : {S : Type 0} (m : Meaning S) (s : S) (steps : List PastStep) (x : PastStep) → list_any is_unplug steps ≡ true → list_any is_of_device (told_by m s (course m s steps) x).items ≡ false
tells-none m s steps (Client b) h = gate-tells (given_of notes_of (course m s steps).events (ClientPiece b))
tells-none m s steps ClientEnd h = gate-tells (given_of notes_of (course m s steps).events ClientEnds)
tells-none m s steps (ToGate n) h = gate-tells (given_of notes_of (course m s steps).events (HostPiece (take n (wire_to_gate m s (course m s steps)))))
tells-none m s steps (ToHost n) h = host-tells (submits_of (course m s steps).events) (act_notes m s (course m s steps).acts (Piece (take n (wire_to_host (course m s steps)))))
tells-none {S = S} m s steps (Perform ep) h =
    let k : Host S = host_of m s (course m s steps).acts in
    ap (λ (b : Bool). list_any is_of_device (performed_item (submits_of (course m s steps).events) ep (told_performed_by b (cond b None (first_performed m k ep (find (is_at ep) k.queue)))))) (off-course m s steps h)
tells-none {S = S} m s steps (Offer ep) h =
    let k : Host S = host_of m s (course m s steps).acts in
    ap (λ (b : Bool). list_any is_of_device (offered_item ep (cond b offered.Unplugged (told_offered_by m k ep (find (runs_at ep) k.running))))) (off-course m s steps h)
tells-none m s steps Unplug h = refl

pub quiet-behind : {S : Type 0} (m : Meaning S) (s : S) (steps : List PastStep) → QuietBehindUnplug m s steps
quiet-behind m s [] = tt
quiet-behind m s (x ∷ steps) = (tells-none m s steps x, quiet-behind m s steps)
