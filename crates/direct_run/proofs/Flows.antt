-- A course on the wires of bytes: what has come to either side is a front of what was sent to it, and is read as a
-- front of the packets that were sent.
use Rattle.std.proofs.Common.{◌≡◌, ℕ, List, [], ◌∷◌, ◌++◌, length, take, drop, None, refl, sym, ap, ◌∙◌, subst, append_assoc}
use Rattle.std.specs.List.{flat_map}
use Rattle.std.proofs.lemmas.List.{drop_at, take-append-drop}
use Rattle.usb_base.specs.Number.{AreBytes}
use Rattle.usb_base.proofs.Numbers.{AreBytes-left, AreBytes-right, AreBytes-append}
use Rattle.redir_wire.specs.declared.packet.Caps.{Caps}
use Rattle.redir_wire.specs.declared.packet.Way.TheVariants.{ToGuest, ToHost}
use Rattle.redir_wire.specs.Capability.{no_caps}
use Rattle.redir_wire.specs.State.{start}
use Rattle.redir_data.specs.declared.packet.RedirPacket.TheVariants.{Plain}
use Rattle.redir_data.specs.Streams.{after, stream_format, stream_start}
use Rattle.model_device.specs.Meaning.{Meaning}
use Rattle.redir_host.specs.step.Acts.{Act, Piece, guest_bytes}
use Rattle.redir_host.specs.guest.Guest.{guest_split}
use Rattle.redir_host.specs.step.History.{history as host_history}
use Rattle.redir_host.specs.step.Machine.{all_given as host_all_given, bytes_of}
use Rattle.redir_host.specs.step.Items.{Item as HostItem}
use Rattle.redir_host.specs.write.Output.{host_hello, hello_bytes}
use Rattle.gate_history.proofs.lemmas.Lists.{Each}
use Rattle.redir_host.proofs.lemmas.step.Acts.{act-gives}
use Rattle.gate_history.specs.write.Bytes.{gateway_hello, host_bytes_of}
use Rattle.gate_history.specs.step.Events.{PastEvent, ClientPiece, ClientEnd, HostPiece, HostEnd, host_bytes}
use Rattle.gate_history.specs.step.History.{host_split, arrivals, history}
use Rattle.gate_history.specs.state.State.{State, state_of}
use Rattle.gate_history.specs.write.Output.{to_host}
use Rattle.gate_history.specs.write.All.{all_of}
use Rattle.gate_history.proofs.lemmas.step.Runs.{state-run, all-run}
use Rattle.direct_run.specs.World.{Course, first_id, happened, acted, sent_to_host, sent_to_gate, wire_to_host, wire_to_gate}
use Rattle.redir_data.specs.Sent.{CanBeRead, sent_packet_bytes}
use Rattle.direct_run.specs.Packets.{both_caps, Found, sent_by_gate, sent_by_host, read_by_host, read_by_gate}
use Rattle.direct_run.specs.Known.{IsKnown}
use Rattle.gate_history.specs.write.Readable.{piece_bytes}
use Rattle.packet_stream.proofs.Spelled.{IsCut, all_bytes, cut-at, placed}
use Rattle.direct_run.proofs.Headed.{sound, empty, on_wire, wire-fits, host-hello, gate-hello, to-gate-bytes, to-host-bytes}
use Rattle.direct_run.proofs.Comes.{Meets, Listens, each-front}

-- ---- a course

pub record Flows {S : Type 0} (m : Meaning S) (s : S) (c : Course) : Type 0 where
  -- what has come, and what is on the wire, is what was sent
  pub fed : guest_bytes c.acts ++ wire_to_host c ≡ sent_to_host c
  pub gate_fed : host_bytes c.events ++ wire_to_gate m s c ≡ sent_to_gate m s c
  -- so far have the sides met
  pub listens : Listens m s (read_by_host c) (host_history c.acts)
  pub meets : Meets first_id (read_by_gate c) (arrivals c.events)
  -- nothing that has come is wrong
  pub asked-right : (guest_split (guest_bytes c.acts)).wrong ≡ None
  pub told-right : (host_split (host_bytes c.events)).wrong ≡ None

-- ---- the bytes that were sent are the spellings of the packets

listened : {S : Type 0} (m : Meaning S) (s : S) (old : List Found) (xs : List HostItem) → Listens m s old xs → host_all_given bytes_of m s xs ≡ flat_map (sent_packet_bytes both_caps) (host_all_given (λ v. v.sent) m s xs)
listened m s [] xs k = k.no_bytes ∙ ap (flat_map (sent_packet_bytes both_caps)) (sym k.none)
listened m s (o ∷ os) xs k = k.bytes

pub to-gate-are : {S : Type 0} (m : Meaning S) (s : S) (c : Course) → Flows m s c → Each (CanBeRead ToGuest both_caps) (sent_by_host m s c) →
    sent_to_gate m s c ≡ all_bytes (stream_format ToGuest) after start (on_wire (Plain host_hello) (sent_by_host m s c))
to-gate-are m s c f h = ap (λ (b : List ℕ). hello_bytes ++ b) (listened m s (read_by_host c) (host_history c.acts) f.listens) ∙ sym (to-gate-bytes (sent_by_host m s c) h)

met-bytes : (old : List Found) (c : Course) → Meets first_id old (arrivals c.events) → all_of host_bytes_of first_id (history first_id c.events) ≡ flat_map (sent_packet_bytes both_caps) (sent_by_gate c)
met-bytes [] c k =
    all-run host_bytes_of first_id (arrivals c.events) ∙ k.no_bytes
    ∙ ap (flat_map (sent_packet_bytes both_caps)) (sym (all-run to_host first_id (arrivals c.events) ∙ k.none))
met-bytes (o ∷ os) c k =
    all-run host_bytes_of first_id (arrivals c.events) ∙ k.bytes ∙ ap (flat_map (sent_packet_bytes both_caps)) (sym (all-run to_host first_id (arrivals c.events)))

pub to-host-are : {S : Type 0} (m : Meaning S) (s : S) (c : Course) → Flows m s c → Each (CanBeRead ToHost both_caps) (sent_by_gate c) →
    sent_to_host c ≡ all_bytes (stream_format ToHost) after start (on_wire gateway_hello (sent_by_gate c))
to-host-are m s c f h = ap (λ (b : List ℕ). sent_packet_bytes no_caps (0, gateway_hello) ++ b) (met-bytes (read_by_gate c) c f.meets) ∙ sym (to-host-bytes (sent_by_gate c) h)

-- what the gateway sent can be read with the capabilities of both
pub later-sent : (old : List Found) (c : Course) → Meets first_id old (arrivals c.events) → Each (CanBeRead ToHost (state_of first_id (history first_id c.events)).sides.agreed) (sent_by_gate c) → Each (CanBeRead ToHost both_caps) (sent_by_gate c)
later-sent [] c k h = subst (Each (CanBeRead ToHost both_caps)) (sym (all-run to_host first_id (arrivals c.events) ∙ k.none)) tt
later-sent (o ∷ os) c k h = subst (λ (caps : Caps). Each (CanBeRead ToHost caps) (sent_by_gate c)) (ap (λ (st : State). st.sides.agreed) (state-run first_id (arrivals c.events)) ∙ k.agreed) h

-- ---- what a piece brings

-- all of a wire again
pub fed-by : (had rest sent : List ℕ) → had ++ rest ≡ sent → had ++ drop (length had) sent ≡ sent
fed-by had rest sent e = ap (λ (b : List ℕ). had ++ b) (ap (drop (length had)) (sym e) ∙ drop_at had rest (length had) refl) ∙ e

pub cut-fed : (n : ℕ) (had wire sent : List ℕ) → had ++ wire ≡ sent → (had ++ take n wire) ++ drop n wire ≡ sent
cut-fed n had wire sent e = append_assoc had (take n wire) (drop n wire) ∙ ap (λ (b : List ℕ). had ++ b) (take-append-drop n wire) ∙ e

pub cut-asked : {S : Type 0} (m : Meaning S) (s : S) (c : Course) (n : ℕ) → Flows m s c → Each (CanBeRead ToHost both_caps) (sent_by_gate c) → AreBytes (guest_bytes c.acts) → AreBytes (guest_bytes c.acts ++ take n (wire_to_host c)) →
    IsCut (guest_split (guest_bytes c.acts)) (guest_split (guest_bytes c.acts ++ take n (wire_to_host c))) (placed (stream_format ToHost) after stream_start (on_wire gateway_hello (sent_by_gate c)))
cut-asked m s c n f h had all =
    cut-at (stream_format ToHost) after (sound ToHost) (empty ToHost) (on_wire gateway_hello (sent_by_gate c)) stream_start (wire-fits ToHost gateway_hello (sent_by_gate c) gate-hello h)
    (guest_bytes c.acts) (take n (wire_to_host c)) (drop n (wire_to_host c)) had all (cut-fed n (guest_bytes c.acts) (wire_to_host c) (sent_to_host c) f.fed ∙ to-host-are m s c f h)

pub cut-told : {S : Type 0} (m : Meaning S) (s : S) (c : Course) (n : ℕ) → Flows m s c → Each (CanBeRead ToGuest both_caps) (sent_by_host m s c) → AreBytes (host_bytes c.events) → AreBytes (host_bytes c.events ++ take n (wire_to_gate m s c)) →
    IsCut (host_split (host_bytes c.events)) (host_split (host_bytes c.events ++ take n (wire_to_gate m s c))) (placed (stream_format ToGuest) after stream_start (on_wire (Plain host_hello) (sent_by_host m s c)))
cut-told m s c n f h had all =
    cut-at (stream_format ToGuest) after (sound ToGuest) (empty ToGuest) (on_wire (Plain host_hello) (sent_by_host m s c)) stream_start (wire-fits ToGuest (Plain host_hello) (sent_by_host m s c) host-hello h)
    (host_bytes c.events) (take n (wire_to_gate m s c)) (drop n (wire_to_gate m s c)) had all (cut-fed n (host_bytes c.events) (wire_to_gate m s c) (sent_to_gate m s c) f.gate_fed ∙ to-gate-are m s c f h)

-- ---- what is known of a course was known before

pub known-event : {S : Type 0} (m : Meaning S) (s : S) (c : Course) (e : PastEvent) → IsKnown m s (happened c e) → IsKnown m s c
known-event m s c e k = record { read = k.read; bytes = AreBytes-right (piece_bytes e) (flat_map piece_bytes c.events) k.bytes; heard = k.heard }

heard-before : (acts : List Act) (a : Act) → AreBytes (guest_bytes (a ∷ acts)) → AreBytes (guest_bytes acts)
heard-before acts (Piece b) h = AreBytes-left (guest_bytes acts) b h
heard-before acts _ h = h

pub known-act : {S : Type 0} (m : Meaning S) (s : S) (c : Course) (a : Act) → IsKnown m s (acted c a) → IsKnown m s c
known-act m s c a k = record {
  read = each-front (CanBeRead ToGuest both_caps) (sent_by_host m s c) _ (subst (Each (CanBeRead ToGuest both_caps)) (act-gives (λ v. v.sent) m s c.acts a) k.read);
  bytes = k.bytes;
  heard = heard-before c.acts a k.heard;
}

-- the host's bytes are among those of all pieces
pub told-bytes : (events : List PastEvent) → AreBytes (flat_map piece_bytes events) → AreBytes (host_bytes events)
told-bytes [] h = h
told-bytes (ClientPiece b ∷ events) h = told-bytes events (AreBytes-right b (flat_map piece_bytes events) h)
told-bytes (ClientEnd ∷ events) h = told-bytes events h
told-bytes (HostPiece b ∷ events) h = AreBytes-append (host_bytes events) b (told-bytes events (AreBytes-right b (flat_map piece_bytes events) h)) (AreBytes-left b (flat_map piece_bytes events) h)
told-bytes (HostEnd ∷ events) h = told-bytes events h
