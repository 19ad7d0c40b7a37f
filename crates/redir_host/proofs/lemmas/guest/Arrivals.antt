-- What the acts of a host bring of its guest is what all bytes of the guest are split into, however they were cut.
use Rattle.std.proofs.Common.{◌≡◌, ℕ, List, [], ◌∷◌, ◌++◌, length, map, Some, None, refl, sym, ap, ◌∙◌, append_assoc}
use Rattle.std.specs.Prelude.{Option, drop}
use Rattle.std.proofs.lemmas.List.{append-nil, map-append, drop_at}
use Rattle.usb_base.specs.Number.{AreBytes}
use Rattle.usb_base.specs.declared.reason.Reason.{Reason}
use Rattle.usb_base.proofs.Numbers.{AreBytes-left}
use Rattle.packet_stream.specs.Split.{Splitting, split, further_by}
use Rattle.packet_stream.specs.Items.{items_of, added, onto}
use Rattle.packet_stream.proofs.Laws.{split-more}
use Rattle.packet_stream.proofs.Pieces.{wrongs}
use Rattle.redir_wire.specs.declared.state.RedirState.{RedirState}
use Rattle.redir_wire.specs.declared.packet.Header.{Header}
use Rattle.redir_data.specs.declared.packet.RedirPacket.{RedirPacket}
use Rattle.redir_host.specs.step.Acts.{Act, Piece, Perform, Offer, Unplug, guest_bytes}
use Rattle.redir_data.specs.Streams.{stream_start}
use Rattle.redir_host.specs.guest.Guest.{guest_reader, guest_split, guest_items}
use Rattle.redir_host.specs.step.History.{history, of_guest}
use Rattle.redir_host.specs.step.Items.{Item}
use Rattle.redir_host.proofs.lemmas.guest.Pieces.{guest_stream, asked, guest-steady}
use Rattle.redir_host.proofs.lemmas.step.Stands.{split-none}

abbrev Split : Type 0
Split = Splitting RedirState (Header × RedirPacket) Reason

abbrev items : Split → List Item
items x = items_of guest_stream.packet guest_stream.wrong x

-- a piece more brings these behind those that there were
record Grows (bytes piece : List ℕ) : Type 0 where
  pub more : List (ℕ × (Header × RedirPacket))
  pub wrong : Option (ℕ × Reason)
  pub whole : guest_items (bytes ++ piece) ≡ guest_items bytes ++ (map asked more ++ wrongs guest_stream wrong)

grows-by : (bytes piece : List ℕ) → AreBytes bytes → (o : Option (ℕ × Reason)) → (guest_split bytes).wrong ≡ o → Grows bytes piece
grows-by bytes piece are None right =
    let x = guest_split bytes in
    let z = split guest_reader x.position (x.rest ++ piece) in
    let y : guest_split (bytes ++ piece) ≡ record z { packets = x.packets ++ z.packets } =
    split-more guest_reader guest-steady stream_start bytes piece are ∙ ap (further_by guest_reader x piece) right in
    let before : guest_items bytes ≡ map asked x.packets = ap (λ (o : Option (ℕ × Reason)). map asked x.packets ++ wrongs guest_stream o) right ∙ append-nil (map asked x.packets) in
    record {
      more = z.packets;
      wrong = z.wrong;
      whole = ap items y
          ∙ ap (λ (l : List Item). l ++ wrongs guest_stream z.wrong) (map-append asked x.packets z.packets)
          ∙ append_assoc (map asked x.packets) (map asked z.packets) (wrongs guest_stream z.wrong)
          ∙ ap (λ (l : List Item). l ++ (map asked z.packets ++ wrongs guest_stream z.wrong)) (sym before);
    }
grows-by bytes piece are (Some w) wrong = record {
  more = [];
  wrong = None;
  whole = ap items (split-more guest_reader guest-steady stream_start bytes piece are ∙ ap (further_by guest_reader (guest_split bytes) piece) wrong) ∙ sym (append-nil (guest_items bytes));
}

of_guest-onto : (more : List (ℕ × (Header × RedirPacket))) (wrong : Option (ℕ × Reason)) (xs : List Item) → of_guest (onto (map asked more ++ wrongs guest_stream wrong) xs) ≡ of_guest xs ++ (map asked more ++ wrongs guest_stream wrong)
of_guest-onto [] None xs = sym (append-nil (of_guest xs))
of_guest-onto [] (Some w) xs = refl
of_guest-onto (p ∷ ps) wrong xs = of_guest-onto ps wrong (asked p ∷ xs) ∙ append_assoc (of_guest xs) (asked p ∷ []) (map asked ps ++ wrongs guest_stream wrong)

piece-arrives : (acts : List Act) (piece : List ℕ) → Grows (guest_bytes acts) piece → of_guest (history acts) ≡ guest_items (guest_bytes acts) → of_guest (history (Piece piece ∷ acts)) ≡ guest_items (guest_bytes acts ++ piece)
piece-arrives acts piece g before =
    let bytes = guest_bytes acts in
    let tail = map asked g.more ++ wrongs guest_stream g.wrong in
    let parts : added guest_items bytes piece ≡ tail = ap (drop (length (guest_items bytes))) g.whole ∙ drop_at (guest_items bytes) tail (length (guest_items bytes)) refl in
    ap (λ (l : List Item). of_guest (onto l (history acts))) parts
    ∙ of_guest-onto g.more g.wrong (history acts)
    ∙ ap (λ (l : List Item). l ++ tail) before
    ∙ sym g.whole

pub guest-arrives : (acts : List Act) → AreBytes (guest_bytes acts) → of_guest (history acts) ≡ guest_items (guest_bytes acts)
guest-arrives [] are = sym (ap items split-none)
guest-arrives (Piece b ∷ acts) are =
    let before = AreBytes-left (guest_bytes acts) b are in
    piece-arrives acts b (grows-by (guest_bytes acts) b before (guest_split (guest_bytes acts)).wrong refl) (guest-arrives acts before)
guest-arrives (Perform ep ∷ acts) are = guest-arrives acts are
guest-arrives (Offer ep ∷ acts) are = guest-arrives acts are
guest-arrives (Unplug ∷ acts) are = guest-arrives acts are
