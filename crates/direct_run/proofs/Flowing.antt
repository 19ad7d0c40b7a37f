-- What one step more makes of what flows on the wires.
use Rattle.std.proofs.Common.{◌≡◌, ℕ, List, [], ◌∷◌, ◌++◌, length, take, drop, map, Option, Some, None, refl, sym, ap, ◌∙◌, subst, append_assoc}
use Rattle.std.proofs.lemmas.List.{map-append}
use Rattle.usb_base.specs.Number.{AreBytes}
use Rattle.usb_base.specs.declared.reason.Reason.{Reason}
use Rattle.packet_stream.specs.Split.{Position, Splitting}
use Rattle.packet_stream.specs.Items.{onto}
use Rattle.packet_stream.proofs.Pieces.{wrong_items, added-right}
use Rattle.redir_wire.specs.declared.packet.Header.{Header}
use Rattle.redir_wire.specs.declared.state.RedirState.{RedirState}
use Rattle.redir_wire.specs.declared.packet.Way.{Way}
use Rattle.redir_wire.specs.declared.packet.Way.TheVariants.{ToGuest, ToHost}
use Rattle.redir_wire.specs.Capability.{no_caps}
use Rattle.redir_data.specs.declared.packet.RedirPacket.{RedirPacket}
use Rattle.redir_data.specs.declared.packet.RedirPacket.TheVariants.{Plain}
use Rattle.redir_data.specs.Streams.{after, stream_format, stream_start}
use Rattle.usbip_urb.specs.declared.client.ClientPacket.{ClientPacket}
use Rattle.model_device.specs.Meaning.{Meaning}
use Rattle.redir_host.specs.step.Acts.{Act, Piece, guest_bytes}
use Rattle.redir_host.specs.guest.Guest.{guest_split}
use Rattle.redir_host.specs.step.History.{brought as act_brought, history as host_history}
use Rattle.redir_host.specs.step.Items.{Item as HostItem}
use Rattle.redir_host.specs.write.Output.{host_hello, act_bytes}
use Rattle.gate_history.proofs.lemmas.Lists.{Each}
use Rattle.redir_host.proofs.lemmas.guest.Pieces.{guest_stream, asked}
use Rattle.redir_host.proofs.lemmas.step.Acts.{act-out}
use Rattle.gate_history.specs.write.Bytes.{gateway_hello, host_bytes_of}
use Rattle.gate_history.specs.step.Events.{PastEvent, ClientPiece, ClientEnd, HostPiece, client_bytes, host_bytes}
use Rattle.gate_history.specs.step.History.{client_split, host_split, client_items, brought, arrivals}
use Rattle.gate_history.specs.declared.item.Item.{Item}
use Rattle.gate_history.specs.declared.item.Item.TheVariants.{Asked, ClientWrong}
use Rattle.gate_history.proofs.lemmas.step.Piece.{host_stream}
use Rattle.direct_run.specs.World.{Course, first_id, nothing_yet, happened, acted, sent_to_host, sent_to_gate, wire_to_host, wire_to_gate}
use Rattle.direct_run.specs.Trace.{given_of}
use Rattle.direct_run.specs.Packets.{both_caps, Found, bare, bares, sent_by_gate, sent_by_host, read_by_host, read_by_gate}
use Rattle.redir_data.specs.Sent.{CanBeRead}
use Rattle.direct_run.proofs.Wires.{host-gives}
use Rattle.packet_stream.proofs.Spelled.{placed, reads-all, placed-are}
use Rattle.direct_run.proofs.Headed.{bare-headed, bare-all, sound, empty, on_wire}
use Rattle.direct_run.proofs.Meeting.{IsClients, unmet-first}
use Rattle.direct_run.proofs.Heard.{IsOwn, silent-first, silent-own, heard-own}
use Rattle.direct_run.proofs.Comes.{told_item, Comes, comes, each-drop, Meets, meets-told, meets-client, Listens, listens-asked}
use Rattle.direct_run.proofs.Flows.{Flows, fed-by, cut-fed, cut-asked, cut-told}

-- ---- packets without headers and places

wire-bares : (way : Way) (hello : RedirPacket) (a : Position RedirState) (ps : List (ℕ × RedirPacket)) → bares (placed (stream_format way) after a (on_wire hello ps)) ≡ (0, hello) ∷ ps
wire-bares way hello a ps = placed-are (stream_format way) after bare a (on_wire hello ps) ∙ (λ i. bare-headed no_caps (0, hello) i ∷ bare-all both_caps ps i)

bares-three : (xs ys zs : List Found) → bares (xs ++ (ys ++ zs)) ≡ bares xs ++ (bares ys ++ bares zs)
bares-three xs ys zs = map-append (λ (i : Found). bare i.1) xs (ys ++ zs) ∙ ap (λ (l : List (ℕ × RedirPacket)). bares xs ++ l) (map-append (λ (i : Found). bare i.1) ys zs)

-- ---- the first course

abbrev pub Split : Type 0
Split = Splitting RedirState (Header × RedirPacket) Reason

pub nothing-asked : guest_split [] ≡ record { packets = []; wrong = None; position = stream_start; rest = [] }
nothing-asked = reads-all (stream_format ToHost) after (sound ToHost) (empty ToHost) [] stream_start tt

pub nothing-told : host_split [] ≡ record { packets = []; wrong = None; position = stream_start; rest = [] }
nothing-told = reads-all (stream_format ToGuest) after (sound ToGuest) (empty ToGuest) [] stream_start tt

pub flows-first : {S : Type 0} (m : Meaning S) (s : S) → Flows m s nothing_yet
flows-first m s = record {
  fed = refl;
  gate_fed = refl;
  listens = subst (λ (x : Split). Listens m s x.packets []) (sym nothing-asked) (silent-first m s);
  meets = subst (λ (x : Split). Meets first_id x.packets []) (sym nothing-told) (unmet-first first_id);
  asked-right = ap (λ (x : Split). x.wrong) nothing-asked;
  told-right = ap (λ (x : Split). x.wrong) nothing-told;
}

-- ---- one event more, and one act

flows-event : {S : Type 0} (m : Meaning S) (s : S) (c : Course) (e : PastEvent) (rest : List ℕ) → Flows m s c → host_bytes (e ∷ c.events) ++ rest ≡ sent_to_gate m s c →
    Meets first_id (read_by_gate (happened c e)) (arrivals (e ∷ c.events)) → (host_split (host_bytes (e ∷ c.events))).wrong ≡ None → Flows m s (happened c e)
flows-event m s c e rest f fed meets right = record {
  fed = fed-by (guest_bytes c.acts) (wire_to_host c ++ given_of host_bytes_of c.events e) (sent_to_host (happened c e))
      (sym (append_assoc (guest_bytes c.acts) (wire_to_host c) (given_of host_bytes_of c.events e)) ∙ ap (λ (b : List ℕ). b ++ given_of host_bytes_of c.events e) f.fed ∙ sym (host-gives c.events e));
  gate_fed = fed-by (host_bytes (e ∷ c.events)) rest (sent_to_gate m s c) fed;
  listens = f.listens;
  meets = meets;
  asked-right = f.asked-right;
  told-right = right;
}

flows-act : {S : Type 0} (m : Meaning S) (s : S) (c : Course) (a : Act) (rest : List ℕ) → Flows m s c → guest_bytes (a ∷ c.acts) ++ rest ≡ sent_to_host c →
    Listens m s (read_by_host (acted c a)) (host_history (a ∷ c.acts)) → (guest_split (guest_bytes (a ∷ c.acts))).wrong ≡ None → Flows m s (acted c a)
flows-act m s c a rest f fed listens right = record {
  fed = fed-by (guest_bytes (a ∷ c.acts)) rest (sent_to_host c) fed;
  gate_fed = fed-by (host_bytes c.events) (wire_to_gate m s c ++ act_bytes m s c.acts a) (sent_to_gate m s (acted c a))
      (sym (append_assoc (host_bytes c.events) (wire_to_gate m s c) (act_bytes m s c.acts a)) ∙ ap (λ (b : List ℕ). b ++ act_bytes m s c.acts a) f.gate_fed ∙ sym (act-out m s c.acts a));
  listens = listens;
  meets = f.meets;
  asked-right = right;
  told-right = f.told-right;
}

-- ---- the client's

of-client : (ps : List (ℕ × ClientPacket)) (wrong : Option (ℕ × Reason)) → Each IsClients (map (λ (p : ℕ × ClientPacket). Asked p.0 p.1) ps ++ wrong_items ClientWrong wrong)
of-client [] None = tt
of-client [] (Some w) = (tt, tt)
of-client (p ∷ ps) wrong = (tt, of-client ps wrong)

piece-items : (bytes piece : List ℕ) → Each IsClients (drop (length (client_items bytes)) (client_items (bytes ++ piece)))
piece-items bytes piece =
    each-drop IsClients (length (client_items bytes)) (client_items (bytes ++ piece)) (of-client (client_split (bytes ++ piece)).packets (client_split (bytes ++ piece)).wrong)

pub flows-piece : {S : Type 0} (m : Meaning S) (s : S) (c : Course) (b : List ℕ) → Flows m s c → Flows m s (happened c (ClientPiece b))
flows-piece m s c b f =
    flows-event m s c (ClientPiece b) (wire_to_gate m s c) f f.gate_fed (meets-client first_id (read_by_gate c) (brought c.events (ClientPiece b)) (arrivals c.events) (piece-items (client_bytes c.events) b) f.meets) f.told-right

pub flows-end : {S : Type 0} (m : Meaning S) (s : S) (c : Course) → Flows m s c → Flows m s (happened c ClientEnd)
flows-end m s c f = flows-event m s c ClientEnd (wire_to_gate m s c) f f.gate_fed (meets-client first_id (read_by_gate c) (brought c.events ClientEnd) (arrivals c.events) (tt, tt) f.meets) f.told-right

-- ---- what gets to the gateway

-- the packets that are whole with the next n bytes, and those that aren't
pub record GetsToGate {S : Type 0} (m : Meaning S) (s : S) (c : Course) (n : ℕ) : Type 0 where
  pub fresh : List Found
  pub later : List (ℕ × RedirPacket)
  pub packets-are : read_by_gate (happened c (HostPiece (take n (wire_to_gate m s c)))) ≡ read_by_gate c ++ fresh
  pub come : Comes ToGuest (Plain host_hello) (read_by_gate c) fresh
  pub all-are : (0, Plain host_hello) ∷ sent_by_host m s c ≡ bares (read_by_gate c) ++ (bares fresh ++ later)
  pub brought-is : brought c.events (HostPiece (take n (wire_to_gate m s c))) ≡ map told_item fresh
  pub right : (host_split (host_bytes c.events ++ take n (wire_to_gate m s c))).wrong ≡ None

pub gets-to-gate : {S : Type 0} (m : Meaning S) (s : S) (c : Course) (n : ℕ) → Flows m s c → Each (CanBeRead ToGuest both_caps) (sent_by_host m s c) → AreBytes (host_bytes c.events) → AreBytes (host_bytes c.events ++ take n (wire_to_gate m s c)) → GetsToGate m s c n
gets-to-gate m s c n f h had all =
    let cut = cut-told m s c n f h had all in
    record {
      fresh = cut.fresh;
      later = bares cut.later;
      packets-are = cut.packets-are;
      come = comes ToGuest (Plain host_hello) stream_start (sent_by_host m s c) h (read_by_gate c) cut.fresh cut.later cut.all-are;
      all-are = sym (wire-bares ToGuest (Plain host_hello) stream_start (sent_by_host m s c)) ∙ ap bares cut.all-are ∙ bares-three (read_by_gate c) cut.fresh cut.later;
      brought-is = added-right host_stream (host_bytes c.events) (take n (wire_to_gate m s c)) cut.fresh cut.old-right cut.packets-are cut.right;
      right = cut.right;
    }

pub flows-told : {S : Type 0} (m : Meaning S) (s : S) (c : Course) (n : ℕ) → Flows m s c → GetsToGate m s c n → Flows m s (happened c (HostPiece (take n (wire_to_gate m s c))))
flows-told m s c n f g =
    flows-event m s c (HostPiece (take n (wire_to_gate m s c))) (drop n (wire_to_gate m s c)) f (cut-fed n (host_bytes c.events) (wire_to_gate m s c) (sent_to_gate m s c) f.gate_fed)
    (subst (λ (l : List Found). Meets first_id l (arrivals (HostPiece (take n (wire_to_gate m s c)) ∷ c.events))) (sym g.packets-are)
    (subst (λ (xs : List Item). Meets first_id (read_by_gate c ++ g.fresh) (onto xs (arrivals c.events))) (sym g.brought-is) (meets-told first_id (read_by_gate c) g.fresh (arrivals c.events) g.come f.meets))) g.right

-- ---- what gets to the host

pub record GetsToHost (c : Course) (n : ℕ) : Type 0 where
  pub fresh : List Found
  pub later : List (ℕ × RedirPacket)
  pub packets-are : read_by_host (acted c (Piece (take n (wire_to_host c)))) ≡ read_by_host c ++ fresh
  pub come : Comes ToHost gateway_hello (read_by_host c) fresh
  pub all-are : (0, gateway_hello) ∷ sent_by_gate c ≡ bares (read_by_host c) ++ (bares fresh ++ later)
  pub brought-is : act_brought c.acts (Piece (take n (wire_to_host c))) ≡ map asked fresh
  pub right : (guest_split (guest_bytes c.acts ++ take n (wire_to_host c))).wrong ≡ None

pub gets-to-host : {S : Type 0} (m : Meaning S) (s : S) (c : Course) (n : ℕ) → Flows m s c → Each (CanBeRead ToHost both_caps) (sent_by_gate c) → AreBytes (guest_bytes c.acts) → AreBytes (guest_bytes c.acts ++ take n (wire_to_host c)) → GetsToHost c n
gets-to-host m s c n f h had all =
    let cut = cut-asked m s c n f h had all in
    record {
      fresh = cut.fresh;
      later = bares cut.later;
      packets-are = cut.packets-are;
      come = comes ToHost gateway_hello stream_start (sent_by_gate c) h (read_by_host c) cut.fresh cut.later cut.all-are;
      all-are = sym (wire-bares ToHost gateway_hello stream_start (sent_by_gate c)) ∙ ap bares cut.all-are ∙ bares-three (read_by_host c) cut.fresh cut.later;
      brought-is = added-right guest_stream (guest_bytes c.acts) (take n (wire_to_host c)) cut.fresh cut.old-right cut.packets-are cut.right;
      right = cut.right;
    }

pub flows-asked : {S : Type 0} (m : Meaning S) (s : S) (c : Course) (n : ℕ) → Flows m s c → GetsToHost c n → Flows m s (acted c (Piece (take n (wire_to_host c))))
flows-asked m s c n f g =
    flows-act m s c (Piece (take n (wire_to_host c))) (drop n (wire_to_host c)) f (cut-fed n (guest_bytes c.acts) (wire_to_host c) (sent_to_host c) f.fed)
    (subst (λ (l : List Found). Listens m s l (host_history (Piece (take n (wire_to_host c)) ∷ c.acts))) (sym g.packets-are)
    (subst (λ (xs : List HostItem). Listens m s (read_by_host c ++ g.fresh) (onto xs (host_history c.acts))) (sym g.brought-is) (listens-asked m s (read_by_host c) g.fresh (host_history c.acts) g.come f.listens))) g.right

-- ---- what is done with the device

own-listens : {S : Type 0} (m : Meaning S) (s : S) (old : List Found) (x : HostItem) (xs : List HostItem) → IsOwn x → Listens m s old xs → Listens m s old (x ∷ xs)
own-listens m s [] x xs own k = silent-own m s xs x own k
own-listens m s (o ∷ os) x xs own k = heard-own m s xs x own k

pub flows-own : {S : Type 0} (m : Meaning S) (s : S) (c : Course) (a : Act) (x : HostItem) → act_brought c.acts a ≡ x ∷ [] → guest_bytes (a ∷ c.acts) ≡ guest_bytes c.acts → IsOwn x → Flows m s c → Flows m s (acted c a)
flows-own m s c a x is same own f =
    flows-act m s c a (wire_to_host c) f (ap (λ (b : List ℕ). b ++ wire_to_host c) same ∙ f.fed)
    (subst (λ (b : List ℕ). Listens m s (guest_split b).packets (host_history (a ∷ c.acts))) (sym same)
    (subst (λ (xs : List HostItem). Listens m s (read_by_host c) (onto xs (host_history c.acts))) (sym is) (own-listens m s (read_by_host c) x (host_history c.acts) own f.listens)))
    (ap (λ (b : List ℕ). (guest_split b).wrong) same ∙ f.asked-right)
