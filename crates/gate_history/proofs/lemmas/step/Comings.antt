-- The items that events of bytes bring can come: the packets of both sides fit their formats.
use Rattle.std.proofs.Common.{◌≡◌, ℕ, ◌==◌, Bool, true, false, zero, suc, List, [], ◌∷◌, ◌++◌, length, map, Option, Some, None, refl, sym, ap, subst, ◌∙◌, append_assoc, arith}
use Rattle.std.specs.Prelude.{IfSome, drop}
use Rattle.std.specs.List.{flat_map}
use Rattle.std.proofs.lemmas.List.{append-nil}
use Rattle.usb_base.specs.Number.{AreBytes}
use Rattle.usb_base.specs.declared.reason.Reason.{Reason}
use Rattle.usb_base.proofs.Numbers.{AreBytes-append, AreBytes-left, AreBytes-right, le_at-below_16}
use Rattle.packet_stream.specs.Split.{Position, past as behind, Splitting, Spells, split, further_by}
use Rattle.packet_stream.specs.Items.{added, onto}
use Rattle.packet_stream.proofs.Laws.{IsSteady, reads_steady, split-more}
use Rattle.packet_stream.proofs.Pieces.{wrong_items, onto-append, added-more, added-none}
use Rattle.packet_stream.proofs.Splits.{is_splitting}
use Rattle.usbip_urb.specs.declared.client.ClientPacket.{ClientPacket}
use Rattle.usbip_urb.specs.declared.client.ClientPacket.TheVariants.{Op, Urb}
use Rattle.usbip_urb.specs.declared.packet.Submit.{Submit}
use Rattle.usbip_urb.specs.declared.packet.UrbPacket.TheVariants as urb
use Rattle.usbip_urb.specs.ClientPackets.{client_packets}
use Rattle.usbip_urb.specs.Spelling.{words, submit_words, descs_bytes}
use Rattle.usbip_urb.specs.Sound.ClientPackets.{client_packets_sound}
use Rattle.redir_wire.specs.declared.state.RedirState.{RedirState}
use Rattle.redir_wire.specs.declared.packet.Header.{Header}
use Rattle.redir_wire.specs.declared.packet.Way.TheVariants.{ToGuest}
use Rattle.redir_wire.specs.State.{start}
use Rattle.redir_data.specs.declared.packet.RedirPacket.{RedirPacket}
use Rattle.redir_data.specs.Streams.{after, stream_format, stream_start}
use Rattle.redir_data.specs.sound.Joined.{stream_sound}
use Rattle.redir_data.proofs.Awaits.{four_quiet}
use Rattle.gate_history.specs.step.Events.{PastEvent, ClientPiece, ClientEnd, HostPiece, HostEnd, client_bytes, host_bytes}
use Rattle.gate_history.specs.step.History.{client_split, host_split, client_items, host_items, arrivals}
use Rattle.gate_history.specs.declared.item.Item.{Item}
use Rattle.gate_history.specs.declared.item.Item.TheVariants.{Asked, ClientWrong, ClientLeft, Told, HostWrong, HostLeft}
use Rattle.gate_history.specs.write.Readable.{piece_bytes}
use Rattle.gate_history.specs.client.Requests.{transfer_by}
use Rattle.gate_history.specs.step.Came.{told}
use Rattle.gate_history.specs.step.Streams.{client_start, host_reader}
use Rattle.gate_history.proofs.lemmas.step.Piece.{host_stream}
use Rattle.gate_history.proofs.lemmas.step.Empty.{split-empty}
use Rattle.gate_history.proofs.lemmas.step.Capabilities.{states, fits-at}
use Rattle.gate_history.proofs.lemmas.Lists.{Each, Each-append}
use Rattle.gate_history.proofs.lemmas.write.Sendable.{FieldsFit}
use Rattle.gate_history.proofs.lemmas.write.ItemsRead.{AskedFits}
use Rattle.gate_history.proofs.lemmas.write.EventsRead.{heard, ComesNow, CanCome}

-- ---- a client's packets

setup-fits : (s : Submit) (control : Bool) → AreBytes s.setup → IfSome (transfer_by control s).setup FieldsFit
setup-fits s true are = record { value_fits = le_at-below_16 2 s.setup are; index_fits = le_at-below_16 4 s.setup are; length_fits = le_at-below_16 6 s.setup are }
setup-fits s false are = tt

asked-fits : (p : ClientPacket) → client_packets.Fits p → AreBytes (client_packets.spelling p) → AskedFits p
asked-fits (Op p) fits are = tt
asked-fits (Urb (urb.Submit s)) fits are =
    let front = words (submit_words s) in
    let setup = AreBytes-right front s.setup (AreBytes-left (front ++ s.setup) s.body (AreBytes-left (front ++ s.setup ++ s.body) (descs_bytes s.descs) are)) in
    (fits.0, setup-fits s (s.head.ep == 0) setup)
asked-fits (Urb p) fits are = tt

packets-fit : (a z : Position (Unit {0})) (bytes rest : List ℕ) (is : List (ℕ × ClientPacket)) → Spells (λ s. client_packets) (λ s p. s) a bytes is z rest → AreBytes bytes → Each (λ i. AskedFits i.1) is
packets-fit a z bytes rest [] spelled are = tt
packets-fit a z bytes rest (i ∷ is) spelled are =
    let word = client_packets.spelling i.1 in
    let all : AreBytes (word ++ spelled.0) = subst AreBytes spelled.3 are in
    (asked-fits i.1 spelled.2 (AreBytes-left word spelled.0 all), packets-fit (behind (λ s p. s) a i.1 (length word)) z spelled.0 rest is spelled.4 (AreBytes-right word spelled.0 all))

-- an item that the host tells nothing by
abbrev IsOwn : Item → Type 0
IsOwn (Asked place p) = AskedFits p
IsOwn (Told place h p) = ⊥
IsOwn _ = Unit {0}

asked-own : (is : List (ℕ × ClientPacket)) → Each (λ i. AskedFits i.1) is → Each IsOwn (map (λ p. Asked p.0 p.1) is)
asked-own [] fit = tt
asked-own (i ∷ is) fit = (fit.0, asked-own is fit.1)

wrong-own : (w : Option (ℕ × Reason)) → Each IsOwn (wrong_items ClientWrong w)
wrong-own None = tt
wrong-own (Some w) = (tt, tt)

each-drop : {A : Type 0} (P : A → Type 0) (n : ℕ) (xs : List A) → Each P xs → Each P (drop n xs)
each-drop P zero xs h = h
each-drop P (suc n) [] h = tt
each-drop P (suc n) (x ∷ xs) h = each-drop P n xs h.1

client-own : (bytes piece : List ℕ) → AreBytes (bytes ++ piece) → Each IsOwn (added client_items bytes piece)
client-own bytes piece are =
    let x = client_split (bytes ++ piece) in
    let found = is_splitting (λ s. client_packets) (λ s p. s) (λ s. client_packets_sound) client_start (bytes ++ piece) are in
    each-drop IsOwn (length (client_items bytes)) (client_items (bytes ++ piece))
    (Each-append IsOwn (map (λ p. Asked p.0 p.1) x.packets) (wrong_items ClientWrong x.wrong) (asked-own x.packets (packets-fit client_start x.position (bytes ++ piece) found.left x.packets found.spelled are)) (wrong-own x.wrong))

-- ---- what has come, and which packets of the host are among it

abbrev Comes : List (ℕ × (Header × RedirPacket)) → List Item → Type 0
Comes given xs = CanCome xs × (told xs ≡ given)

comes-own : (given : List (ℕ × (Header × RedirPacket))) (xs ys : List Item) → Each IsOwn xs → Comes given ys → Comes given (onto xs ys)
comes-own given [] ys own c = c
comes-own given (Asked place p ∷ xs) ys own c = comes-own given xs (Asked place p ∷ ys) own.1 ((own.0, c.0), c.1)
comes-own given (ClientWrong place why ∷ xs) ys own c = comes-own given xs (ClientWrong place why ∷ ys) own.1 ((tt, c.0), c.1)
comes-own given (ClientLeft ∷ xs) ys own c = comes-own given xs (ClientLeft ∷ ys) own.1 ((tt, c.0), c.1)
comes-own given (Told place h p ∷ xs) ys own c = absurd own.0
comes-own given (HostWrong place why ∷ xs) ys own c = comes-own given xs (HostWrong place why ∷ ys) own.1 ((tt, c.0), c.1)
comes-own given (HostLeft ∷ xs) ys own c = comes-own given xs (HostLeft ∷ ys) own.1 ((tt, c.0), c.1)

abbrev told_item : ℕ × (Header × RedirPacket) → Item
told_item p = Told p.0 p.1.0 p.1.1

-- the packets that a piece of the host's made whole, one by one
comes-told : (bytes : List ℕ) → AreBytes bytes → (given more : List (ℕ × (Header × RedirPacket))) → (host_split bytes).packets ≡ given ++ more → (ys : List Item) → Comes given ys → Comes (given ++ more) (onto (map told_item more) ys)
comes-told bytes are given [] is ys c = (c.0, c.1 ∙ sym (append-nil given))
comes-told bytes are given (i ∷ more) is ys c =
    let next = given ++ i ∷ [] in
    let fits : ComesNow (heard ys) (told_item i) =
    subst (λ (g : List (ℕ × (Header × RedirPacket))). ComesNow (states after start g) (told_item i)) (sym c.1) (fits-at (stream_format ToGuest) after (stream_sound ToGuest) stream_start bytes given more i are is) in
    let later = comes-told bytes are next more (is ∙ sym (append_assoc given (i ∷ []) more)) (told_item i ∷ ys) ((fits, c.0), ap (λ (g : List (ℕ × (Header × RedirPacket))). g ++ i ∷ []) c.1) in
    (later.0, later.1 ∙ append_assoc given (i ∷ []) more)

host-wrong-own : (w : Option (ℕ × Reason)) → Each IsOwn (wrong_items HostWrong w)
host-wrong-own None = tt
host-wrong-own (Some w) = (tt, tt)

host-steady : IsSteady host_reader
host-steady = reads_steady (stream_format ToGuest) after (stream_sound ToGuest)

comes-piece : (bytes piece : List ℕ) → AreBytes bytes → AreBytes (bytes ++ piece) → (ys : List Item) → Comes (host_split bytes).packets ys → Comes (host_split (bytes ++ piece)).packets (onto (added host_items bytes piece) ys)
comes-piece bytes piece are all ys c = by x.wrong refl
  where
    x : Splitting RedirState (Header × RedirPacket) Reason
    x = host_split bytes

    y : Splitting RedirState (Header × RedirPacket) Reason
    y = host_split (bytes ++ piece)

    by : (w : Option (ℕ × Reason)) → x.wrong ≡ w → Comes y.packets (onto (added host_items bytes piece) ys)
    by None right =
        let more = (split host_reader x.position (x.rest ++ piece)).packets in
        let same : y.packets ≡ x.packets ++ more = ap (λ (z : Splitting RedirState (Header × RedirPacket) Reason). z.packets) (split-more host_reader host-steady stream_start bytes piece are ∙ ap (further_by host_reader x piece) right) in
        let parts = added-more host_stream bytes piece more right same in
        let told = comes-told (bytes ++ piece) all x.packets more same ys c in
        let ended = comes-own (x.packets ++ more) (wrong_items HostWrong y.wrong) (onto (map told_item more) ys) (host-wrong-own y.wrong) told in
        let joined : onto (wrong_items HostWrong y.wrong) (onto (map told_item more) ys) ≡ onto (added host_items bytes piece) ys = sym (onto-append (map told_item more) (wrong_items HostWrong y.wrong) ys) ∙ ap (λ (l : List Item). onto l ys) (sym parts) in
        subst (λ (l : List Item). Comes y.packets l) joined (ended.0, ended.1 ∙ sym same)
    by (Some w) wrong =
        let same : y ≡ x = split-more host_reader host-steady stream_start bytes piece are ∙ ap (further_by host_reader x piece) wrong in
        let none : added host_items bytes piece ≡ [] = added-none host_stream bytes piece same in
        subst (λ (l : List Item). Comes y.packets (onto l ys)) (sym none) (c.0, c.1 ∙ sym (ap (λ (z : Splitting RedirState (Header × RedirPacket) Reason). z.packets) same))

-- ---- all events

no-bytes : AreBytes []
no-bytes i = omega arith

client-are : (events : List PastEvent) → AreBytes (flat_map piece_bytes events) → AreBytes (client_bytes events)
client-are [] are = no-bytes
client-are (ClientPiece b ∷ events) are =
    AreBytes-append (client_bytes events) b (client-are events (AreBytes-right b (flat_map piece_bytes events) are)) (AreBytes-left b (flat_map piece_bytes events) are)
client-are (ClientEnd ∷ events) are = no-bytes
client-are (HostPiece b ∷ events) are = client-are events (AreBytes-right b (flat_map piece_bytes events) are)
client-are (HostEnd ∷ events) are = client-are events are

host-are : (events : List PastEvent) → AreBytes (flat_map piece_bytes events) → AreBytes (host_bytes events)
host-are [] are = no-bytes
host-are (HostPiece b ∷ events) are =
    AreBytes-append (host_bytes events) b (host-are events (AreBytes-right b (flat_map piece_bytes events) are)) (AreBytes-left b (flat_map piece_bytes events) are)
host-are (ClientPiece b ∷ events) are = host-are events (AreBytes-right b (flat_map piece_bytes events) are)
host-are (ClientEnd ∷ events) are = host-are events are
host-are (HostEnd ∷ events) are = host-are events are

nothing-told : (host_split []).packets ≡ []
nothing-told = ap (λ (x : Splitting RedirState (Header × RedirPacket) Reason). x.packets) (split-empty (stream_format ToGuest) after (stream_sound ToGuest) stream_start (four_quiet start ToGuest [] [] (omega arith)))

pub comes : (events : List PastEvent) → AreBytes (flat_map piece_bytes events) → Comes (host_split (host_bytes events)).packets (arrivals events)
comes [] are = (tt, sym nothing-told)
comes (ClientPiece b ∷ events) are =
    comes-own (host_split (host_bytes events)).packets (added client_items (client_bytes events) b) (arrivals events) (client-own (client_bytes events) b (client-are (ClientPiece b ∷ events) are))
    (comes events (AreBytes-right b (flat_map piece_bytes events) are))
comes (ClientEnd ∷ events) are = comes-own (host_split (host_bytes events)).packets (ClientLeft ∷ []) (arrivals events) (tt, tt) (comes events are)
comes (HostPiece b ∷ events) are =
    let rest = AreBytes-right b (flat_map piece_bytes events) are in
    comes-piece (host_bytes events) b (host-are events rest) (host-are (HostPiece b ∷ events) are) (arrivals events) (comes events rest)
comes (HostEnd ∷ events) are = comes-own (host_split (host_bytes events)).packets (HostLeft ∷ []) (arrivals events) (tt, tt) (comes events are)
