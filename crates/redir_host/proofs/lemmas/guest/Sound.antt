-- What is known of a host stays known as packets come that its guest can send.
use Rattle.std.proofs.Common.{◌≡◌, ℕ, ◌<◌, ◌%◌, ◌^◌, Bool, true, false, cond, not, ◌&&◌, ◌==◌, List, [], ◌∷◌, length, Some, None, refl, sym, ap, subst, ◌∙◌, arith, lit<}
use Rattle.std.specs.Prelude.{Option, nat_lt, nat_le}
use Rattle.std.specs.List.{find, AllByRecursion as Each}
use Rattle.std.proofs.lemmas.Bool.{and_parts, eqb-true, not-true, ltb-true, leb-true, true≢false}
use Rattle.usb_base.specs.Endpoint.{is_control, is_in_endpoint, row_of}
use Rattle.usb_base.specs.declared.endpoint.EpTable.{EpTable}
use Rattle.usb_base.specs.declared.setup.Setup.{Setup}
use Rattle.usb_base.specs.declared.transfer.Transfer.{Transfer}
use Rattle.redir_wire.specs.declared.packet.Caps.{Caps}
use Rattle.redir_wire.specs.declared.state.RedirState.{RedirState}
use Rattle.redir_wire.specs.declared.packet.Header.{Header}
use Rattle.redir_wire.specs.declared.packet.RedirControl.{RedirControl}
use Rattle.redir_wire.specs.declared.packet.RedirControl.TheVariants as plain
use Rattle.redir_wire.specs.declared.packet.Way.TheVariants.{ToHost}
use Rattle.redir_wire.specs.State.{is_wide, wide_ids}
use Rattle.redir_wire.specs.Header.{IdFits}
use Rattle.redir_wire.proofs.Says.{is_in_turn, header_says}
use Rattle.redir_data.specs.declared.packet.RedirData.{RedirData}
use Rattle.redir_data.specs.declared.packet.RedirData.TheVariants as moving
use Rattle.redir_data.specs.declared.packet.RedirPacket.{RedirPacket}
use Rattle.redir_data.specs.declared.packet.RedirPacket.TheVariants.{Plain, Carrying}
use Rattle.redir_data.specs.Ranges.{IsData}
use Rattle.redir_data.specs.Spelling.{data_count, number_of as data_number}
use Rattle.redir_data.specs.Streams.{advanced}
use Rattle.redir_data.specs.declared.stream_kind.StreamKind.{StreamKind}
use Rattle.redir_data.specs.declared.stream_kind.StreamKind.TheVariants.{Iso, Interrupt}
use Rattle.redir_data.specs.StreamKinds.{is_kind_of}
use Rattle.control_route.specs.declared.route.Route.TheVariants as route
use Rattle.model_device.specs.Meaning.{Meaning}
use Rattle.model_device.specs.Transfer.{IsTransfer}
use Rattle.redir_host.specs.declared.state.host.Host.{Host}
use Rattle.redir_host.specs.declared.state.request.Asking.TheVariants.{Nothing}
use Rattle.redir_host.specs.declared.state.request.Form.{Form}
use Rattle.redir_host.specs.declared.state.request.Form.TheVariants as form
use Rattle.redir_host.specs.declared.state.request.Request.{Request}
use Rattle.usb_base.specs.declared.limits.TheConstants.{MAX_TRANSFER}
use Rattle.redir_host.specs.guest.Asking.{is_other, asked_if, asking_of, routed}
use Rattle.redir_host.specs.step.Makes.{IsTaken}
use Rattle.redir_host.specs.step.Moves.{Move, quiet}
use Rattle.redir_host.specs.guest.Packets.{can_start, cancel_move, data_move, packet_move, packet_move_by, queued, request, runs_at, start_move, stop_move, stopped}
use Rattle.redir_host.specs.state.Queues.{is_first_queue, is_cancelled_by, marked, with_first_marked, after_cancel}
use Rattle.redir_host.specs.state.Sound.{FormFits, IsGuestRequest, IsRunning, IsSound, WantedFits}
use Rattle.redir_host.proofs.lemmas.state.Sound.{Keeps}
use Rattle.redir_host.proofs.lemmas.state.Each.{each_appended, each_filtered, each_weaker}

-- ---- what is known of a request's transfer

-- the transfers of requests that have packets of their own
record IsRouted (t : Transfer) : Type 0 where
  pub transfer : IsTransfer t
  pub few : t.wanted < 2 ^ 16

routed-set : (configuration : ℕ) → IsRouted (routed (route.SetConfig configuration))
routed-set configuration = record {
  transfer = record { address = lit< tt; has_setup = refl; direction = refl; from_device = λ _. refl; to_device = λ _. refl };
  few = lit< tt;
}

routed-get : IsRouted (routed route.GetConfig)
routed-get = record {
  transfer = record { address = lit< tt; has_setup = refl; direction = refl; from_device = λ _. refl; to_device = λ out. absurd (let no : true ≡ false = out in cc) };
  few = lit< tt;
}

routed-set_alt : (interface alt : ℕ) → IsRouted (routed (route.SetAlt interface alt))
routed-set_alt interface alt = record {
  transfer = record { address = lit< tt; has_setup = refl; direction = refl; from_device = λ _. refl; to_device = λ _. refl };
  few = lit< tt;
}

routed-get_alt : (interface : ℕ) → IsRouted (routed (route.GetAlt interface))
routed-get_alt interface = record {
  transfer = record { address = lit< tt; has_setup = refl; direction = refl; from_device = λ _. refl; to_device = λ out. absurd (let no : true ≡ false = out in cc) };
  few = lit< tt;
}

none-there : (xs : List ℕ) → length xs ≡ 0 → xs ≡ []
none-there [] e = refl
none-there (x ∷ xs) e = absurd (omega (arith, e))

-- data stand where they go to the device
from-device : (ep told : ℕ) (body : List ℕ) → length body ≡ data_count ToHost ep told → is_in_endpoint ep ≡ true → body ≡ []
from-device ep told body there into = none-there body (there ∙ ap (λ (b : Bool). cond (not b) told 0) into)

to-device : (ep told : ℕ) (body : List ℕ) → length body ≡ data_count ToHost ep told → is_in_endpoint ep ≡ false → told ≡ length body
to-device ep told body there out = sym (there ∙ ap (λ (b : Bool). cond (not b) told 0) out)

control-by : (setup : Setup) (ep told : ℕ) (body : List ℕ) (b : Bool) → nat_lt setup.kind 128 ≡ b → ep ≡ cond b 0 128 → length body ≡ data_count ToHost ep told → IsTransfer (record { ep = ep; setup = Some setup; wanted = told; body = body })
control-by setup ep told body b kind is there =
    let Says : ℕ → Type 0 = λ e. length body ≡ data_count ToHost e told → IsTransfer (record { ep = e; setup = Some setup; wanted = told; body = body }) in
    subst Says (sym is) (go b kind) there
  where
    go : (b : Bool) → nat_lt setup.kind 128 ≡ b → length body ≡ data_count ToHost (cond b 0 128) told → IsTransfer (record { ep = cond b 0 128; setup = Some setup; wanted = told; body = body })
    go true kind there = record { address = lit< tt; has_setup = refl; direction = ap not kind; from_device = λ into. absurd (let no : false ≡ true = into in cc); to_device = λ _. sym there }
    go false kind there = record { address = lit< tt; has_setup = refl; direction = ap not kind; from_device = λ _. none-there body there; to_device = λ out. absurd (let no : true ≡ false = out in cc) }

other-transfer : (ep told : ℕ) (body : List ℕ) → is_other ep ≡ true → length body ≡ data_count ToHost ep told → IsTransfer (record { ep = ep; setup = None; wanted = told; body = body })
other-transfer ep told body other there = record {
  address = ltb-true (ep % 128) 16 (and_parts (nat_lt (ep % 128) 16) (not (is_control ep)) other).0;
  has_setup = sym (not-true (is_control ep) (and_parts (nat_lt (ep % 128) 16) (not (is_control ep)) other).1);
  direction = tt;
  from_device = from-device ep told body there;
  to_device = to-device ep told body there;
}

-- ---- requests join their queues

record CanJoin (caps : Caps) (id : ℕ) (f : Form) (t : Transfer) : Type 0 where
  pub transfer : IsTransfer t
  pub wanted_fits : WantedFits caps f t.wanted
  pub form_fits : FormFits f

joins-keeps : {S : Type 0} (h : Host S) (id : ℕ) (f : Form) (t : Transfer) → IsSound h → h.guest.first ≡ false → IdFits (wide_ids h.guest.caps) id → CanJoin h.guest.caps id f t → Keeps h (queued h (is_control t.ep) id f t)
joins-keeps h id f t sound greeted fits can = record {
  guest = refl;
  sound = record {
    requests = each_appended (IsGuestRequest h.guest) h.queue (request (is_control t.ep && h.resets_next) id f t) sound.requests (record {
      greeted = greeted;
      id_fits = fits;
      transfer = can.transfer;
      wanted_fits = can.wanted_fits;
      form_fits = can.form_fits;
      marked = λ is. (and_parts (is_control t.ep) h.resets_next is).0;
    });
    streams = sound.streams;
  };
}

asked-keeps : {S : Type 0} (h : Host S) (id : ℕ) (b : Bool) (f : Form) (t : Transfer) → IsSound h → h.guest.first ≡ false → IdFits (wide_ids h.guest.caps) id → (b ≡ true → CanJoin h.guest.caps id f t) → Keeps h (data_move h id (asked_if b f t)).host
asked-keeps h id true f t sound greeted fits can = joins-keeps h id f t sound greeted fits (can refl)
asked-keeps h id false f t sound greeted fits can = record { guest = refl; sound = sound }

interrupt-keeps : {S : Type 0} (h : Host S) (id ep told : ℕ) (body : List ℕ) (b : Bool) → IsSound h → h.guest.first ≡ false → IdFits (wide_ids h.guest.caps) id → told < 2 ^ 16 → length body ≡ data_count ToHost ep told →
    Keeps h (data_move h id (cond b Nothing (asked_if (is_other ep) form.Interrupt (record { ep = ep; setup = None; wanted = told; body = body })))).host
interrupt-keeps h id ep told body true sound greeted fits few there = record { guest = refl; sound = sound }
interrupt-keeps h id ep told body false sound greeted fits few there =
    asked-keeps h id (is_other ep) form.Interrupt (record { ep = ep; setup = None; wanted = told; body = body }) sound greeted fits
    (λ other. record { transfer = other-transfer ep told body other there; wanted_fits = few; form_fits = tt })

data-keeps : {S : Type 0} (h : Host S) (id : ℕ) (d : RedirData) → IsSound h → h.guest.first ≡ false → IdFits (wide_ids h.guest.caps) id → IsData h.guest.caps ToHost d → Keeps h (data_move h id (asking_of d)).host
data-keeps h id (moving.Control ep asked kind status value index told body) sound greeted fits is =
    let setup : Setup = record { kind = kind; request = asked; value = value; index = index; length = told } in
    asked-keeps h id (ep == cond (nat_lt kind 128) 0 128) (form.Control setup) (record { ep = ep; setup = Some setup; wanted = told; body = body }) sound greeted fits
    (λ its. record {
      transfer = control-by setup ep told body (nat_lt kind 128) refl (eqb-true ep (cond (nat_lt kind 128) 0 128) its) is.data_there;
      wanted_fits = is.ranges.0.1.1.0;
      form_fits = (is.ranges.0.0, is.ranges.0.1.0);
    })
data-keeps h id (moving.Bulk ep status told stream body) sound greeted fits is =
    asked-keeps h id (is_other ep && nat_le told MAX_TRANSFER) (form.Bulk stream) (record { ep = ep; setup = None; wanted = told; body = body }) sound greeted fits
    (λ can. record {
      transfer = other-transfer ep told body (and_parts (is_other ep) (nat_le told MAX_TRANSFER) can).0 is.data_there;
      wanted_fits = (leb-true told MAX_TRANSFER (and_parts (is_other ep) (nat_le told MAX_TRANSFER) can).1, is.length_fits);
      form_fits = is.ranges.0.0;
    })
data-keeps h id (moving.Iso ep status told body) sound greeted fits is = record { guest = refl; sound = sound }
data-keeps h id (moving.Interrupt ep status told body) sound greeted fits is =
    interrupt-keeps h id ep told body (is_in_endpoint ep) sound greeted fits is.ranges.0.0 is.data_there

-- ---- cancels

each-marked : (guest : RedirState) (qs : List Request) → Each (IsGuestRequest guest) qs → Each (IsGuestRequest guest) (with_first_marked qs)
each-marked guest [] each = tt
each-marked guest (q ∷ qs) each = by (is_first_queue q) refl (each-marked guest qs each.1)
  where
    by : (b : Bool) → is_first_queue q ≡ b → Each (IsGuestRequest guest) (with_first_marked qs) → Each (IsGuestRequest guest) (cond b (marked q ∷ qs) (q ∷ with_first_marked qs))
    by true first rest = (record { greeted = each.0.greeted; id_fits = each.0.id_fits; transfer = each.0.transfer; wanted_fits = each.0.wanted_fits; form_fits = each.0.form_fits; marked = λ _. first }, each.1)
    by false other rest = (each.0, rest)

each-cancelled : (guest : RedirState) (id : ℕ) (qs : List Request) → Each (IsGuestRequest guest) qs → Each (IsGuestRequest guest) (after_cancel id qs)
each-cancelled guest id [] each = tt
each-cancelled guest id (q ∷ qs) each =
    elim (is_cancelled_by id q) as (λ (b : Bool). Each (IsGuestRequest guest) (cond b (cond q.reset (with_first_marked qs) qs) (q ∷ after_cancel id qs))) [
      | true ↦ elim q.reset as (λ (b : Bool). Each (IsGuestRequest guest) (cond b (with_first_marked qs) qs)) [ true ↦ each-marked guest qs each.1 | false ↦ each.1 ]
      | false ↦ (each.0, each-cancelled guest id qs each.1)
    ]

cancel-keeps : {S : Type 0} (h : Host S) (id : ℕ) (o : Option Request) → IsSound h → Keeps h (cancel_move h id o).host
cancel-keeps h id None sound = record { guest = refl; sound = sound }
cancel-keeps h id (Some q) sound = record { guest = refl; sound = record { requests = each-cancelled h.guest id h.queue sound.requests; streams = sound.streams } }

-- ---- streams

start-keeps : {S : Type 0} (h : Host S) (id : ℕ) (k : StreamKind) (ep : ℕ) (b : Bool) → IsSound h → h.guest.first ≡ false → (b ≡ true → is_in_endpoint ep ≡ true) → Keeps h (start_move b h id k ep).host
start-keeps h id k ep true sound greeted into = record {
  guest = refl;
  sound = record {
    requests = sound.requests;
    streams = each_appended (IsRunning h.guest) (stopped ep h.running) (record { ep = ep; kind = k }) (each_filtered (IsRunning h.guest) (λ s. not (runs_at ep s)) h.running sound.streams)
        (record { greeted = greeted; in_endpoint = into refl });
  };
}
start-keeps h id k ep false sound greeted into = record { guest = refl; sound = sound }

stop-keeps : {S : Type 0} (h : Host S) (id : ℕ) (k : StreamKind) (ep : ℕ) → IsSound h → Keeps h (stop_move h id k ep).host
stop-keeps h id k ep sound = record { guest = refl; sound = record { requests = sound.requests; streams = each_filtered (IsRunning h.guest) (λ s. not (runs_at ep s)) h.running sound.streams } }

pub started-in : (table : EpTable) (k : StreamKind) (ep : ℕ) → can_start table k ep ≡ true → is_in_endpoint ep ≡ true
started-in table k ep can = (and_parts (is_in_endpoint ep) (is_kind_of k (row_of table ep).kind) (and_parts (nat_lt (ep % 128) 16) (is_in_endpoint ep && is_kind_of k (row_of table ep).kind) can).1).0

-- ---- packets that move no data

routed-keeps : {S : Type 0} (h : Host S) (id : ℕ) (f : Form) (t : Transfer) → IsSound h → h.guest.first ≡ false → IdFits (wide_ids h.guest.caps) id → IsRouted t → (t.wanted < 2 ^ 16 → WantedFits h.guest.caps f t.wanted) → FormFits f → Keeps h (queued h (is_control t.ep) id f t)
routed-keeps h id f t sound greeted fits is few form = joins-keeps h id f t sound greeted fits (record { transfer = is.transfer; wanted_fits = few is.few; form_fits = form })

plain-keeps : {S : Type 0} (m : Meaning S) (h : Host S) (id : ℕ) (c : RedirControl) → IsSound h → h.guest.first ≡ false → IdFits (wide_ids h.guest.caps) id → Keeps h (packet_move_by m h id (Plain c)).host
plain-keeps m h id plain.Reset sound greeted fits = record { guest = refl; sound = record { requests = sound.requests; streams = sound.streams } }
plain-keeps m h id (plain.SetConfiguration configuration) sound greeted fits =
    routed-keeps h id (form.SetConfiguration configuration) (routed (route.SetConfig configuration)) sound greeted fits (routed-set configuration) (λ few. few) tt
plain-keeps m h id plain.GetConfiguration sound greeted fits = routed-keeps h id form.GetConfiguration (routed route.GetConfig) sound greeted fits routed-get (λ few. few) tt
plain-keeps m h id (plain.SetAlt interface alt) sound greeted fits =
    routed-keeps h id (form.SetAlt interface alt) (routed (route.SetAlt interface alt)) sound greeted fits (routed-set_alt interface alt) (λ few. few) tt
plain-keeps m h id (plain.GetAlt interface) sound greeted fits = routed-keeps h id (form.GetAlt interface) (routed (route.GetAlt interface)) sound greeted fits (routed-get_alt interface) (λ few. few) tt
plain-keeps m h id (plain.StartIso ep pkts_per_urb no_urbs) sound greeted fits =
    start-keeps h id Iso ep (can_start (m.table h.gadget) Iso ep) sound greeted (started-in (m.table h.gadget) Iso ep)
plain-keeps m h id (plain.StopIso ep) sound greeted fits = stop-keeps h id Iso ep sound
plain-keeps m h id (plain.StartInterrupt ep) sound greeted fits =
    start-keeps h id Interrupt ep (can_start (m.table h.gadget) Interrupt ep) sound greeted (started-in (m.table h.gadget) Interrupt ep)
plain-keeps m h id (plain.StopInterrupt ep) sound greeted fits = stop-keeps h id Interrupt ep sound
plain-keeps m h id plain.Cancel sound greeted fits = cancel-keeps h id (find (is_cancelled_by id) h.queue) sound
plain-keeps m h id _ sound greeted fits = record { guest = refl; sound = sound }

-- ---- any packet

keeps-all : {S : Type 0} (h : Host S) (v : Move S) (b : Bool) → IsSound h → Keeps h v.host → Keeps h (cond b (quiet h) v).host
keeps-all h v true sound k = record { guest = refl; sound = sound }
keeps-all h v false sound k = k

-- a packet other than the hello comes behind it
pub has_come : (first : Bool) (kind number : ℕ) → is_in_turn first kind ≡ true → kind ≡ number → (number == 0) ≡ false → first ≡ false
has_come true kind number turn is other = absurd (true≢false (sym turn ∙ ap (λ (n : ℕ). n == 0) is ∙ other))
has_come false kind number turn is other = refl

pub earlier : (first : Bool) (kind : ℕ) → is_in_turn first kind ≡ true → kind ≡ 0 → first ≡ true
earlier true kind turn is = refl
earlier false kind turn is = absurd (true≢false (sym turn ∙ ap (λ (n : ℕ). not (n == 0)) is))

-- before the hello there is no request, and no stream
hello-sound : {S : Type 0} (h : Host S) (guest : RedirState) → IsSound h → h.guest.first ≡ true → IsSound (record h { guest = guest })
hello-sound h guest sound first = record {
  requests = each_weaker (IsGuestRequest h.guest) (IsGuestRequest guest) (λ q is. absurd (true≢false (sym first ∙ is.greeted))) h.queue sound.requests;
  streams = each_weaker (IsRunning h.guest) (IsRunning guest) (λ s is. absurd (true≢false (sym first ∙ is.greeted))) h.running sound.streams;
}

later-plain : {S : Type 0} (m : Meaning S) (h : Host S) (header : Header) (c : RedirControl) (number : ℕ) → IsSound h → IsTaken h.guest header (Plain c) → header.kind ≡ number → (number == 0) ≡ false → Keeps h (cond h.unplugged (quiet h) (packet_move_by m h header.id (Plain c))).host
later-plain m h header c number sound is kind other =
    let greeted = has_come h.guest.first header.kind number (header_says is.header).in_turn kind other in
    keeps-all h (packet_move_by m h header.id (Plain c)) h.unplugged sound
    (plain-keeps m h header.id c sound greeted (subst (λ (b : Bool). IdFits (is_wide (record { first = b; caps = h.guest.caps })) header.id) greeted is.header.id_fits))

-- a packet that moves data is no hello
pub carried : (d : RedirData) (number : ℕ) → number ≡ data_number d → (number == 0) ≡ false
carried (moving.Control ep asked kind status value index told body) number e = ap (λ (n : ℕ). n == 0) e
carried (moving.Bulk ep status told stream body) number e = ap (λ (n : ℕ). n == 0) e
carried (moving.Iso ep status told body) number e = ap (λ (n : ℕ). n == 0) e
carried (moving.Interrupt ep status told body) number e = ap (λ (n : ℕ). n == 0) e

pub keeps-packet : {S : Type 0} (m : Meaning S) (h : Host S) (header : Header) (p : RedirPacket) → IsSound h → IsTaken h.guest header p → Keeps (record h { guest = advanced h.guest p }) (packet_move m h header.id p).host
keeps-packet {S = S} m h header (Plain (plain.Hello x)) sound is =
    let g : Host S = record h { guest = advanced h.guest (Plain (plain.Hello x)) } in
    let known = hello-sound h (advanced h.guest (Plain (plain.Hello x))) sound (earlier h.guest.first header.kind (header_says is.header).in_turn is.kind) in
    keeps-all g (packet_move_by m g header.id (Plain (plain.Hello x))) h.unplugged known (record { guest = refl; sound = known })
keeps-packet m h header (Plain (plain.Connect x)) sound is = later-plain m h header (plain.Connect x) 1 sound is is.kind refl
keeps-packet m h header (Plain plain.Disconnect) sound is = later-plain m h header plain.Disconnect 2 sound is is.kind refl
keeps-packet m h header (Plain plain.Reset) sound is = later-plain m h header plain.Reset 3 sound is is.kind refl
keeps-packet m h header (Plain (plain.InterfaceInfo x)) sound is = later-plain m h header (plain.InterfaceInfo x) 4 sound is is.kind refl
keeps-packet m h header (Plain (plain.EpInfo x)) sound is = later-plain m h header (plain.EpInfo x) 5 sound is is.kind refl
keeps-packet m h header (Plain (plain.SetConfiguration configuration)) sound is = later-plain m h header (plain.SetConfiguration configuration) 6 sound is is.kind refl
keeps-packet m h header (Plain plain.GetConfiguration) sound is = later-plain m h header plain.GetConfiguration 7 sound is is.kind refl
keeps-packet m h header (Plain (plain.ConfigurationStatus status configuration)) sound is = later-plain m h header (plain.ConfigurationStatus status configuration) 8 sound is is.kind refl
keeps-packet m h header (Plain (plain.SetAlt interface alt)) sound is = later-plain m h header (plain.SetAlt interface alt) 9 sound is is.kind refl
keeps-packet m h header (Plain (plain.GetAlt interface)) sound is = later-plain m h header (plain.GetAlt interface) 10 sound is is.kind refl
keeps-packet m h header (Plain (plain.AltStatus status interface alt)) sound is = later-plain m h header (plain.AltStatus status interface alt) 11 sound is is.kind refl
keeps-packet m h header (Plain (plain.StartIso ep pkts_per_urb no_urbs)) sound is = later-plain m h header (plain.StartIso ep pkts_per_urb no_urbs) 12 sound is is.kind refl
keeps-packet m h header (Plain (plain.StopIso ep)) sound is = later-plain m h header (plain.StopIso ep) 13 sound is is.kind refl
keeps-packet m h header (Plain (plain.IsoStatus status ep)) sound is = later-plain m h header (plain.IsoStatus status ep) 14 sound is is.kind refl
keeps-packet m h header (Plain (plain.StartInterrupt ep)) sound is = later-plain m h header (plain.StartInterrupt ep) 15 sound is is.kind refl
keeps-packet m h header (Plain (plain.StopInterrupt ep)) sound is = later-plain m h header (plain.StopInterrupt ep) 16 sound is is.kind refl
keeps-packet m h header (Plain (plain.InterruptStatus status ep)) sound is = later-plain m h header (plain.InterruptStatus status ep) 17 sound is is.kind refl
keeps-packet m h header (Plain plain.Cancel) sound is = later-plain m h header plain.Cancel 21 sound is is.kind refl
keeps-packet m h header (Plain plain.DisconnectAck) sound is = later-plain m h header plain.DisconnectAck 24 sound is is.kind refl
keeps-packet m h header (Carrying d) sound is =
    let greeted = has_come h.guest.first header.kind header.kind (header_says is.header).in_turn refl (carried d header.kind is.kind) in
    keeps-all h (data_move h header.id (asking_of d)) h.unplugged sound
    (data-keeps h header.id d sound greeted (subst (λ (b : Bool). IdFits (is_wide (record { first = b; caps = h.guest.caps })) header.id) greeted is.header.id_fits) is.fits)
