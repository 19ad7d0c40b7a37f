-- The client's moves: their packets are those that its bytes can spell. And what the present client is sent, by moves.
use Rattle.std.proofs.Common.{◌≡◌, ℕ, List, [], ◌∷◌, ◌++◌, length, map, Option, None, Some, refl, sym, ap, ◌∙◌, append-nil, append_assoc, lit<}
use Rattle.std.specs.List.{flat_map}
use Rattle.usb_base.specs.Number.{AreBytes}
use Rattle.usb_base.specs.declared.reason.Reason.{Reason}
use Rattle.usb_base.proofs.Numbers.{AreBytes-left, AreBytes-right, AreBytes-append}
use Rattle.packet_stream.specs.Format.{Format}
use Rattle.packet_stream.specs.Split.{Position, past, Spells}
use Rattle.packet_stream.specs.Items.{onto}
use Rattle.packet_stream.proofs.Splits.{is_splitting}
use Rattle.packet_stream.proofs.Pieces.{wrong_items}
use Rattle.usbip_urb.specs.declared.client.ClientPacket.{ClientPacket}
use Rattle.usbip_urb.specs.ClientPackets.{IsClientPacket, client_packets}
use Rattle.usbip_urb.specs.Sound.ClientPackets.{client_packets_sound}
use Rattle.model_device.specs.Meaning.{Meaning}
use Rattle.gate_history.proofs.lemmas.Lists.{Each}
use Rattle.gate_history.specs.step.Events.{PastEvent, ClientPiece, ClientEnd, HostPiece, HostEnd, client_bytes}
use Rattle.gate_history.specs.step.History.{client_split, client_items, brought}
use Rattle.gate_history.specs.declared.item.Item.{Item}
use Rattle.gate_history.specs.declared.item.Item.TheVariants.{Asked, ClientWrong, ClientLeft, Told, HostWrong, HostLeft}
use Rattle.gate_history.specs.step.Streams.{client_start}
use Rattle.direct_run.specs.Moves.{Move, ByClient, as_items, move, run}
use Rattle.direct_run.specs.Clients.{IsMove, then_sent, present_outs}
use Rattle.gate_history.specs.write.Readable.{piece_bytes}
use Rattle.direct_run.proofs.Comes.{each-drop}
use Rattle.direct_run.proofs.Several.{made_by}

-- ---- what a piece of a client brings

abbrev pub IsPieceItem : Item → Type 0
IsPieceItem (Asked place packet) = IsClientPacket packet
IsPieceItem (ClientWrong place reason) = Unit {0}
IsPieceItem _ = ⊥

fit-each : {S P R : Type 0} (format : S → Format P R) (next : S → P → S) (Fits : P → Type 0) → ((s : S) (p : P) → (format s).Fits p → Fits p) → (a z : Position S) (bytes rest : List ℕ) (is : List (ℕ × P)) → Spells format next a bytes is z rest → Each (λ (i : ℕ × P). Fits i.1) is
fit-each format next Fits h a z bytes rest [] spelled = tt
fit-each format next Fits h a z bytes rest (i ∷ is) spelled = (h a.state i.1 spelled.2, fit-each format next Fits h (past next a i.1 _) z spelled.0 rest is spelled.4)

client-fit : (bytes : List ℕ) → AreBytes bytes → Each (λ (i : ℕ × ClientPacket). IsClientPacket i.1) (client_split bytes).packets
client-fit bytes are =
    let found = is_splitting (λ s. client_packets) (λ s p. s) (λ s. client_packets_sound) client_start bytes are in
    fit-each (λ s. client_packets) (λ s p. s) IsClientPacket (λ s p fits. fits) client_start (client_split bytes).position bytes found.left (client_split bytes).packets found.spelled

items-fit : (ps : List (ℕ × ClientPacket)) (wrong : Option (ℕ × Reason)) → Each (λ (i : ℕ × ClientPacket). IsClientPacket i.1) ps → Each IsPieceItem (map (λ (p : ℕ × ClientPacket). Asked p.0 p.1) ps ++ wrong_items ClientWrong wrong)
items-fit [] None h = tt
items-fit [] (Some w) h = (tt, tt)
items-fit (p ∷ ps) wrong h = (h.0, items-fit ps wrong h.1)

client-bytes : (events : List PastEvent) → AreBytes (flat_map piece_bytes events) → AreBytes (client_bytes events)
client-bytes [] h = h
client-bytes (ClientPiece b ∷ events) h = AreBytes-append (client_bytes events) b (client-bytes events (AreBytes-right b (flat_map piece_bytes events) h)) (AreBytes-left b (flat_map piece_bytes events) h)
client-bytes (ClientEnd ∷ events) h = λ i. lit< tt
client-bytes (HostPiece b ∷ events) h = client-bytes events (AreBytes-right b (flat_map piece_bytes events) h)
client-bytes (HostEnd ∷ events) h = client-bytes events h

pub piece-fits : (events : List PastEvent) (b : List ℕ) → AreBytes (flat_map piece_bytes (ClientPiece b ∷ events)) → Each IsPieceItem (brought events (ClientPiece b))
piece-fits events b h =
    let x = client_split (client_bytes events ++ b) in
    each-drop IsPieceItem (length (client_items (client_bytes events))) (client_items (client_bytes events ++ b)) (items-fit x.packets x.wrong (client-fit (client_bytes events ++ b) (client-bytes (ClientPiece b ∷ events) h)))

-- ---- moves that bytes can make

pub each-onto : (xs before : List Move) → Each IsMove xs → Each IsMove before → Each IsMove (onto xs before)
each-onto [] before h k = k
each-onto (x ∷ xs) before h k = each-onto xs (x ∷ before) h.1 (h.0, k)

pub piece-moves : (xs : List Item) → Each IsPieceItem xs → Each IsMove (map ByClient xs)
piece-moves [] h = tt
piece-moves (Asked place packet ∷ xs) h = (h.0, piece-moves xs h.1)
piece-moves (ClientWrong place reason ∷ xs) h = (tt, piece-moves xs h.1)
piece-moves (ClientLeft ∷ xs) h = absurd h.0
piece-moves (Told place header packet ∷ xs) h = absurd h.0
piece-moves (HostWrong place reason ∷ xs) h = absurd h.0
piece-moves (HostLeft ∷ xs) h = absurd h.0

-- ---- what the present client is sent

-- the client stays
abbrev pub Stays : Move → Type 0
Stays x = (before more : List ClientPacket) → then_sent x before more ≡ before ++ more

pub piece-stays : (xs : List Item) → Each IsPieceItem xs → Each Stays (map ByClient xs)
piece-stays [] h = tt
piece-stays (Asked place packet ∷ xs) h = ((λ before more. refl), piece-stays xs h.1)
piece-stays (ClientWrong place reason ∷ xs) h = ((λ before more. refl), piece-stays xs h.1)
piece-stays (ClientLeft ∷ xs) h = absurd h.0
piece-stays (Told place header packet ∷ xs) h = absurd h.0
piece-stays (HostWrong place reason ∷ xs) h = absurd h.0
piece-stays (HostLeft ∷ xs) h = absurd h.0

pub present-onto : {S : Type 0} (m : Meaning S) (s : S) (xs before : List Move) → Each Stays xs → present_outs m s (onto xs before) ≡ present_outs m s before ++ (made_by as_items m (run as_items m s before).world xs).outs
present-onto m s [] before h = sym (append-nil (present_outs m s before))
present-onto m s (x ∷ xs) before h =
    let w = (run as_items m s before).world in
    present-onto m s xs (x ∷ before) h.1
    ∙ ap (λ (l : List ClientPacket). l ++ (made_by as_items m (move as_items m w x).world xs).outs) (h.0 (present_outs m s before) (move as_items m w x).outs)
    ∙ append_assoc (present_outs m s before) (move as_items m w x).outs (made_by as_items m (move as_items m w x).world xs).outs
