-- What a host sends for a packet of its guest can be read, with all that it has sent before.
use Rattle.std.proofs.Common.{◌≡◌, ℕ, ◌&&◌, ◌==◌, Bool, true, false, cond, List, [], ◌∷◌, ◌++◌, Some, None, refl, sym, subst, lit<}
use Rattle.std.specs.Prelude.{Option, IfSome, nat_le}
use Rattle.std.specs.List.{find, AllByRecursion as Each}
use Rattle.std.proofs.lemmas.Bool.{true≢false}
use Rattle.usb_base.specs.Endpoint.{is_in_endpoint}
use Rattle.usb_base.specs.declared.setup.Setup.{Setup}
use Rattle.usb_base.specs.Status.{status_byte}
use Rattle.usb_base.specs.declared.status.UsbStatus.{UsbStatus}
use Rattle.usb_base.specs.declared.status.UsbStatus.TheVariants.{Success, Inval}
use Rattle.usb_base.specs.declared.transfer.Transfer.{Transfer}
use Rattle.redir_wire.specs.declared.packet.Caps.{Caps}
use Rattle.redir_wire.specs.declared.state.RedirState.{RedirState}
use Rattle.redir_wire.specs.declared.packet.Header.{Header}
use Rattle.redir_wire.specs.declared.packet.RedirControl.{RedirControl}
use Rattle.redir_wire.specs.declared.packet.RedirControl.TheVariants as plain
use Rattle.redir_wire.specs.declared.packet.Way.TheVariants.{ToGuest, ToHost}
use Rattle.redir_wire.specs.State.{is_wide, later, wide_ids}
use Rattle.redir_wire.specs.Header.{IdFits}
use Rattle.redir_wire.specs.Spelling.{is_hello}
use Rattle.redir_wire.proofs.Says.{header_says}
use Rattle.redir_data.specs.declared.packet.RedirData.{RedirData}
use Rattle.redir_data.specs.declared.packet.RedirData.TheVariants as moving
use Rattle.redir_data.specs.declared.packet.RedirPacket.{RedirPacket}
use Rattle.redir_data.specs.declared.packet.RedirPacket.TheVariants.{Plain, Carrying}
use Rattle.redir_data.specs.Ranges.{IsData}
use Rattle.redir_data.specs.Sent.{CanBeRead}
use Rattle.redir_data.specs.Streams.{advanced}
use Rattle.redir_data.proofs.Sent.{control_sent}
use Rattle.redir_data.specs.declared.stream_kind.StreamKind.{StreamKind}
use Rattle.redir_data.specs.declared.stream_kind.StreamKind.TheVariants.{Iso, Interrupt}
use Rattle.model_device.specs.Gadget.{IsGadget}
use Rattle.model_device.specs.Meaning.{Meaning}
use Rattle.redir_host.specs.declared.state.host.Host.{Host}
use Rattle.redir_host.specs.declared.state.request.Asking.TheVariants.{Nothing}
use Rattle.redir_host.specs.declared.state.request.Form.{Form}
use Rattle.redir_host.specs.declared.state.request.Form.TheVariants as form
use Rattle.redir_host.specs.declared.state.request.Request.{Request}
use Rattle.chapter9.specs.Standard.{ended}
use Rattle.usb_base.specs.declared.limits.TheConstants.{MAX_TRANSFER}
use Rattle.redir_host.specs.guest.Asking.{is_other, asked_if, asking_of}
use Rattle.redir_host.specs.device.Facts.{connect_of, facts_of}
use Rattle.redir_host.specs.step.Makes.{IsTaken}
use Rattle.redir_host.specs.step.Moves.{Move, quiet}
use Rattle.redir_host.specs.guest.Packets.{can_start, cancel_move, data_move, greets, packet_move, packet_move_by, start_move, status_of}
use Rattle.redir_host.specs.state.Queues.{is_cancelled_by}
use Rattle.redir_host.specs.write.Readable.{AreRead, InRange, TakesInRange, Unless}
use Rattle.redir_host.specs.state.Sound.{FormFits, IsGuestRequest, IsSound}
use Rattle.redir_host.proofs.lemmas.write.Answers.{ended_fits}
use Rattle.redir_host.proofs.lemmas.guest.Sound.{carried, earlier, has_come}
use Rattle.redir_host.proofs.lemmas.write.Readable.{answer-read, are-read, cancelled-read, facts-read, nothing-sent}
use Rattle.redir_host.proofs.lemmas.state.Each.{each_behind, each_front, each_joined, if_found}
use Rattle.redir_host.proofs.lemmas.write.Facts.{connect}

-- ---- what is sent for one

abbrev Reads : {S : Type 0} → Host S → Move S → Type 0
Reads h v = Each (CanBeRead ToGuest h.guest.caps) v.sent

status-read : (caps : Caps) (id : ℕ) (k : StreamKind) (status : UsbStatus) (ep : ℕ) → IdFits (wide_ids caps) id → CanBeRead ToGuest caps (id, status_of k status ep)
status-read caps id Iso status ep fits = control_sent ToGuest caps id (plain.IsoStatus (status_byte status) ep) refl tt (record { agreed = refl; id_fits = fits; writable = tt }) refl
status-read caps id Interrupt status ep fits = control_sent ToGuest caps id (plain.InterruptStatus (status_byte status) ep) refl tt (record { agreed = refl; id_fits = fits; writable = tt }) refl

start-read : {S : Type 0} (h : Host S) (id : ℕ) (k : StreamKind) (ep : ℕ) (b : Bool) → IdFits (wide_ids h.guest.caps) id → Reads h (start_move b h id k ep)
start-read h id k ep true fits = (status-read h.guest.caps id k Success ep fits, tt)
start-read h id k ep false fits = (status-read h.guest.caps id k Inval ep fits, tt)

cancel-read : {S : Type 0} (h : Host S) (id : ℕ) (o : Option Request) → IfSome o (λ q. IsGuestRequest h.guest q × (is_cancelled_by id q ≡ true)) → Reads h (cancel_move h id o)
cancel-read h id None is = tt
cancel-read h id (Some q) is = (cancelled-read h.guest q is.0, tt)

asked-read : {S : Type 0} (h : Host S) (id : ℕ) (b : Bool) (f : Form) (t : Transfer) → IdFits (wide_ids h.guest.caps) id → FormFits f → Reads h (data_move h id (asked_if b f t))
asked-read h id true f t fits own = tt
asked-read h id false f t fits own = (answer-read h.guest.caps 0 id f t.ep (ended Inval) fits (ended_fits h.guest.caps f t.ep Inval) own (lit< tt), tt)

interrupt-read : {S : Type 0} (h : Host S) (id : ℕ) (can into : Bool) (t : Transfer) → IdFits (wide_ids h.guest.caps) id → Reads h (data_move h id (cond into Nothing (asked_if can form.Interrupt t)))
interrupt-read h id can true t fits = tt
interrupt-read h id can false t fits = asked-read h id can form.Interrupt t fits tt

data-read : {S : Type 0} (h : Host S) (id : ℕ) (d : RedirData) → IdFits (wide_ids h.guest.caps) id → IsData h.guest.caps ToHost d → Reads h (data_move h id (asking_of d))
data-read h id (moving.Control ep asked kind status value index told body) fits is =
    let setup : Setup = record { kind = kind; request = asked; value = value; index = index; length = told } in
    asked-read h id _ (form.Control setup) (record { ep = ep; setup = Some setup; wanted = told; body = body }) fits (is.ranges.0.0, is.ranges.0.1.0)
data-read h id (moving.Bulk ep status told stream body) fits is =
    asked-read h id (is_other ep && nat_le told MAX_TRANSFER) (form.Bulk stream) (record { ep = ep; setup = None; wanted = told; body = body }) fits is.ranges.0.0
data-read h id (moving.Iso ep status told body) fits is = tt
data-read h id (moving.Interrupt ep status told body) fits is = interrupt-read h id (is_other ep) (is_in_endpoint ep) (record { ep = ep; setup = None; wanted = told; body = body }) fits

-- of one that is no hello
plain-read : {S : Type 0} (m : Meaning S) (h : Host S) (id : ℕ) (c : RedirControl) → is_hello c ≡ false → IsSound h → IdFits (wide_ids h.guest.caps) id → Reads h (packet_move_by m h id (Plain c))
plain-read m h id (plain.Hello x) other sound fits = absurd (true≢false other)
plain-read m h id (plain.StartIso ep pkts_per_urb no_urbs) other sound fits = start-read h id Iso ep (can_start (m.table h.gadget) Iso ep) fits
plain-read m h id (plain.StopIso ep) other sound fits = (status-read h.guest.caps id Iso Success ep fits, tt)
plain-read m h id (plain.StartInterrupt ep) other sound fits = start-read h id Interrupt ep (can_start (m.table h.gadget) Interrupt ep) fits
plain-read m h id (plain.StopInterrupt ep) other sound fits = (status-read h.guest.caps id Interrupt Success ep fits, tt)
plain-read m h id plain.Cancel other sound fits = cancel-read h id (find (is_cancelled_by id) h.queue) (if_found (IsGuestRequest h.guest) (is_cancelled_by id) h.queue sound.requests)
plain-read m h id _ other sound fits = tt

greeting-read : {S : Type 0} (m : Meaning S) → IsGadget m → (h : Host S) → Each InRange (greets m h).sent → Reads h (greets m h)
greeting-read m lawful h fit =
    let facts = facts_of h.guest.caps m h.gadget in
    let last : List (ℕ × RedirPacket) = (0, Plain (plain.Connect (connect_of h.guest.caps m.identity))) ∷ [] in
    each_joined (CanBeRead ToGuest h.guest.caps) facts last (facts-read m lawful h.guest.caps h.gadget (each_front InRange facts last fit))
    (control_sent ToGuest h.guest.caps 0 (plain.Connect (connect_of h.guest.caps m.identity)) refl (each_behind InRange facts last fit).0 (connect h.guest.caps m.identity) refl, tt)

-- ---- with what was sent before

pub read-more : (guest : RedirState) (xs ys : List (ℕ × RedirPacket)) → AreRead guest xs → AreRead guest ys → AreRead guest (xs ++ ys)
read-more guest xs ys a b = record {
  none = λ first i. a.none first i ++ b.none first i;
  read = each_joined (CanBeRead ToGuest guest.caps) xs ys a.read b.read;
}

read-all : {S : Type 0} (h : Host S) (v : Move S) (b : Bool) → h.guest.first ≡ false → Reads h v → AreRead h.guest (cond b (quiet h) v).sent
read-all h v true greeted read = nothing-sent h.guest
read-all h v false greeted read = are-read h.guest v.sent greeted read

-- the first packet: nothing was sent before
hello-read : {S : Type 0} (m : Meaning S) → IsGadget m → (h g : Host S) (xs : List (ℕ × RedirPacket)) → h.guest.first ≡ true → g.guest.first ≡ false → AreRead h.guest xs → (b : Bool) → Unless b (Each InRange (greets m g).sent) →
    AreRead g.guest (xs ++ (cond b (quiet g) (greets m g)).sent)
hello-read {S = S} m lawful h g xs first greeted before b fit = subst (λ (l : List (ℕ × RedirPacket)). AreRead g.guest (l ++ (cond b (quiet g) (greets m g)).sent)) (sym (before.none first)) (by b fit)
  where
    by : (b : Bool) → Unless b (Each InRange (greets m g).sent) → AreRead g.guest (cond b (quiet g) (greets m g)).sent
    by true fit = nothing-sent g.guest
    by false fit = are-read g.guest (greets m g).sent greeted (greeting-read m lawful g fit)

-- a later one
later-read : {S : Type 0} (m : Meaning S) (h : Host S) (header : Header) (c : RedirControl) (number : ℕ) (xs : List (ℕ × RedirPacket)) → IsSound h → IsTaken h.guest header (Plain c) → header.kind ≡ number → (number == 0) ≡ false → is_hello c ≡ false → AreRead h.guest xs →
    AreRead h.guest (xs ++ (cond h.unplugged (quiet h) (packet_move_by m h header.id (Plain c))).sent)
later-read m h header c number xs sound is kind other same before =
    let greeted = has_come h.guest.first header.kind number (header_says is.header).in_turn kind other in
    read-more h.guest xs (cond h.unplugged (quiet h) (packet_move_by m h header.id (Plain c))).sent before
    (read-all h (packet_move_by m h header.id (Plain c)) h.unplugged greeted (plain-read m h header.id c same sound (subst (λ (b : Bool). IdFits (is_wide (record { first = b; caps = h.guest.caps })) header.id) greeted is.header.id_fits)))

pub packet-read : {S : Type 0} (m : Meaning S) → IsGadget m → (h : Host S) (header : Header) (p : RedirPacket) (xs : List (ℕ × RedirPacket)) → IsSound h → IsTaken h.guest header p → TakesInRange m h p → AreRead h.guest xs →
    AreRead (advanced h.guest p) (xs ++ (packet_move m h header.id p).sent)
packet-read {S = S} m lawful h header (Plain (plain.Hello x)) xs sound is fit before =
    let g : Host S = record h { guest = advanced h.guest (Plain (plain.Hello x)) } in
    hello-read m lawful h g xs (earlier h.guest.first header.kind (header_says is.header).in_turn is.kind) refl before h.unplugged fit
packet-read m lawful h header (Plain (plain.Connect x)) xs sound is fit before = later-read m h header (plain.Connect x) 1 xs sound is is.kind refl refl before
packet-read m lawful h header (Plain plain.Disconnect) xs sound is fit before = later-read m h header plain.Disconnect 2 xs sound is is.kind refl refl before
packet-read m lawful h header (Plain plain.Reset) xs sound is fit before = later-read m h header plain.Reset 3 xs sound is is.kind refl refl before
packet-read m lawful h header (Plain (plain.InterfaceInfo x)) xs sound is fit before = later-read m h header (plain.InterfaceInfo x) 4 xs sound is is.kind refl refl before
packet-read m lawful h header (Plain (plain.EpInfo x)) xs sound is fit before = later-read m h header (plain.EpInfo x) 5 xs sound is is.kind refl refl before
packet-read m lawful h header (Plain (plain.SetConfiguration configuration)) xs sound is fit before = later-read m h header (plain.SetConfiguration configuration) 6 xs sound is is.kind refl refl before
packet-read m lawful h header (Plain plain.GetConfiguration) xs sound is fit before = later-read m h header plain.GetConfiguration 7 xs sound is is.kind refl refl before
packet-read m lawful h header (Plain (plain.ConfigurationStatus status configuration)) xs sound is fit before = later-read m h header (plain.ConfigurationStatus status configuration) 8 xs sound is is.kind refl refl before
packet-read m lawful h header (Plain (plain.SetAlt interface alt)) xs sound is fit before = later-read m h header (plain.SetAlt interface alt) 9 xs sound is is.kind refl refl before
packet-read m lawful h header (Plain (plain.GetAlt interface)) xs sound is fit before = later-read m h header (plain.GetAlt interface) 10 xs sound is is.kind refl refl before
packet-read m lawful h header (Plain (plain.AltStatus status interface alt)) xs sound is fit before = later-read m h header (plain.AltStatus status interface alt) 11 xs sound is is.kind refl refl before
packet-read m lawful h header (Plain (plain.StartIso ep pkts_per_urb no_urbs)) xs sound is fit before = later-read m h header (plain.StartIso ep pkts_per_urb no_urbs) 12 xs sound is is.kind refl refl before
packet-read m lawful h header (Plain (plain.StopIso ep)) xs sound is fit before = later-read m h header (plain.StopIso ep) 13 xs sound is is.kind refl refl before
packet-read m lawful h header (Plain (plain.IsoStatus status ep)) xs sound is fit before = later-read m h header (plain.IsoStatus status ep) 14 xs sound is is.kind refl refl before
packet-read m lawful h header (Plain (plain.StartInterrupt ep)) xs sound is fit before = later-read m h header (plain.StartInterrupt ep) 15 xs sound is is.kind refl refl before
packet-read m lawful h header (Plain (plain.StopInterrupt ep)) xs sound is fit before = later-read m h header (plain.StopInterrupt ep) 16 xs sound is is.kind refl refl before
packet-read m lawful h header (Plain (plain.InterruptStatus status ep)) xs sound is fit before = later-read m h header (plain.InterruptStatus status ep) 17 xs sound is is.kind refl refl before
packet-read m lawful h header (Plain plain.Cancel) xs sound is fit before = later-read m h header plain.Cancel 21 xs sound is is.kind refl refl before
packet-read m lawful h header (Plain plain.DisconnectAck) xs sound is fit before = later-read m h header plain.DisconnectAck 24 xs sound is is.kind refl refl before
packet-read m lawful h header (Carrying d) xs sound is fit before =
    let greeted = has_come h.guest.first header.kind header.kind (header_says is.header).in_turn refl (carried d header.kind is.kind) in
    read-more h.guest xs (cond h.unplugged (quiet h) (data_move h header.id (asking_of d))).sent before
    (read-all h (data_move h header.id (asking_of d)) h.unplugged greeted (data-read h header.id d (subst (λ (b : Bool). IdFits (is_wide (record { first = b; caps = h.guest.caps })) header.id) greeted is.header.id_fits) is.fits))
