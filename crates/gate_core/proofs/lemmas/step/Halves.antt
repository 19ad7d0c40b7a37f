-- Either side of the gate: how its stream is read, where its items stand among all, and what taking a piece of it does.
use Rattle.std.specs.Prelude.{◌≡◌, ◌⊎◌, ◌<◌, ◌++◌, ◌∷◌, ℕ, Bool, true, false, List, [], length, Some, Result, Ok, Err}
use Rattle.usb_base.specs.declared.memory.Memory.{Memory}
use Rattle.usb_base.specs.declared.reason.Reason.{Reason}
use Rattle.packet_stream.specs.Split.{Reader}
use Rattle.packet_stream.specs.Streams.{StreamView, passed, Follows, Nexts, Changes, capped}
use Rattle.packet_stream.specs.Items.{added, onto}
use Rattle.packet_stream.proofs.Pieces.{SideStream, items}
use Rattle.usbip_urb.specs.declared.client.ClientPacket.{ClientPacket}
use Rattle.redir_wire.specs.declared.state.RedirState.{RedirState}
use Rattle.redir_wire.specs.declared.packet.Header.{Header}
use Rattle.redir_data.specs.declared.packet.RedirPacket.{RedirPacket}
use Rattle.gate_history.specs.declared.item.Item.{Item}
use Rattle.gate_history.specs.step.Came.{asked, told}
use Rattle.gate_history.specs.step.Fits.{IsItem, ItemFits}
use Rattle.gate_history.specs.step.Past.{is_left_out, past}
use Rattle.gate_history.specs.step.Wants.{takes_memory, Wants}
use Rattle.gate_history.specs.state.Sides.{client_over, host_over}
use Rattle.gate_history.specs.state.State.{state_of}
use Rattle.gate_history.proofs.lemmas.step.Piece.{client_stream, host_stream}
use Rattle.gate_parts.specs.declared.write.outputs.Outputs.{Outputs}
use Rattle.gate_core.specs.declared.state.kept.Kept.{Kept}
use Rattle.gate_core.specs.step.Stands.{Translates, StreamStands, HasAll}
use Rattle.gate_core.specs.inner.state.Holds.{DoesNothing}
use Rattle.gate_core.specs.inner.step.Steps.{SendsItems}

-- ---- what a side is

abbrev pub Packets : Type 0
Packets = List (ℕ × ClientPacket) × List (ℕ × (Header × RedirPacket))

pub record Half (S P : Type 0) : Type 0 where
  pub stream : SideStream S P Reason Item
  pub over : List Item → Bool
  -- its packets among the items, those of the other side, and whether that is over
  pub came : List Item → List (ℕ × P)
  pub others : List Item → Packets
  pub other_over : List Item → Bool

abbrev pub client_half : ℕ → Half (Unit {0}) ClientPacket
client_half first = record {
  stream = client_stream;
  over = λ xs. client_over (past first xs);
  came = asked;
  others = λ xs. ([], told xs);
  other_over = λ xs. host_over (past first xs);
}

abbrev pub host_half : ℕ → Half RedirState (Header × RedirPacket)
host_half first = record {
  stream = host_stream;
  over = λ xs. host_over (past first xs);
  came = told;
  others = λ xs. (asked xs, []);
  other_over = λ xs. client_over (past first xs);
}

-- so it is with what the code has of it: how its stream is read, which packets take memory, and its items
pub record IsSide {S P : Type 0} (first : ℕ) (h : Half S P) (r : Reader S P Reason) (takes : P → Bool) (over_in : Kept → Bool) (packet : ℕ → P → Item) (wrong : ℕ → Reason → Item) : Type 0 where
  pub reader : h.stream.reader ≡ r
  pub takes_is : (n : ℕ) (p : P) → takes p ≡ takes_memory (h.stream.packet n p)
  pub over_past : (xs ys : List Item) → past first xs ≡ past first ys → h.over xs ≡ h.over ys
  pub other_past : (xs ys : List Item) → past first xs ≡ past first ys → h.other_over xs ≡ h.other_over ys
  pub over_is : (t : Kept) (xs : List Item) → Translates first t xs → over_in t ≡ h.over xs
  pub came_packet : (xs : List Item) (n : ℕ) (p : P) → h.came (h.stream.packet n p ∷ xs) ≡ h.came xs ++ (n, p) ∷ []
  -- its items are left out where it is over
  pub out_packet : (xs : List Item) (n : ℕ) (p : P) → is_left_out (state_of first (past first xs)) (h.stream.packet n p) ≡ h.over xs
  pub out_wrong : (xs : List Item) (n : ℕ) (why : Reason) → is_left_out (state_of first (past first xs)) (h.stream.wrong n why) ≡ h.over xs
  pub over_wrong : (xs : List Item) (n : ℕ) (why : Reason) → h.over (h.stream.wrong n why ∷ xs) ≡ true
  pub is_packet : (n at : ℕ) (p : P) → n ≡ capped at → IsItem (packet n p) (h.stream.packet at p)
  pub is_wrong : (n at : ℕ) (why : Reason) → n ≡ capped at → IsItem (wrong n why) (h.stream.wrong at why)
  -- its items leave the other side as it is
  pub others_packet : (xs : List Item) (n : ℕ) (p : P) → h.others (h.stream.packet n p ∷ xs) ≡ h.others xs
  pub others_wrong : (xs : List Item) (n : ℕ) (why : Reason) → h.others (h.stream.wrong n why ∷ xs) ≡ h.others xs
  pub other_packet : (xs : List Item) (n : ℕ) (p : P) → h.other_over (h.stream.packet n p ∷ xs) ≡ h.other_over xs
  pub other_wrong : (xs : List Item) (n : ℕ) (why : Reason) → h.other_over (h.stream.wrong n why ∷ xs) ≡ h.other_over xs

-- ---- where its stream stands

-- behind these items, which its bytes have brought
pub record IsAt {S P : Type 0} (first : ℕ) (h : Half S P) (kept : StreamView S) (t : Kept) (bytes : List ℕ) (before : List Item) : Type 0 where
  pub all : HasAll h.stream.reader h.stream.start kept bytes (h.came before) (h.over before)
  pub translates : Translates first t before

-- behind some items, and it goes on
pub record GoesOn {S P : Type 0} (first : ℕ) (h : Half S P) (kept : StreamView S) (t : Kept) : Type 0 where
  pub items : List Item
  pub bytes : List ℕ
  pub follows : Follows h.stream.reader h.stream.start kept bytes (h.came items)
  pub runs : h.over items ≡ false
  pub translates : Translates first t items

-- a packet that comes next, wherever it stands, is an item that the translator can take
abbrev pub FitsNext : {S P : Type 0} → (ℕ → Half S P) → Reader S P Reason → (P → Bool) → (ℕ → P → Item) → Type 0
FitsNext {S = S} {P = P} half r takes packet =
    (kept new : StreamView S) (t : Kept) (i : ℕ × P) → (kept.over ≡ false → ∥ ((first : ℕ) × GoesOn first (half first) kept t) ∥₁) →
    Changes (Ok (Some i)) kept new → Nexts r takes (Ok (Some i)) kept new → ItemFits t.sides.agreed (packet i.0 i.1)

-- ---- a piece of it

-- all that the piece brought was taken or is left out
pub record Finished {S P : Type 0} (first : ℕ) (h : Half S P) (kept : StreamView S) (t : Kept) (bytes piece : List ℕ) (before : List Item) (out_old out_new : Outputs) : Type 0 where
  pub all : HasAll h.stream.reader h.stream.start kept (bytes ++ piece) (h.came (onto (added (items h.stream) bytes piece) before)) (h.over (onto (added (items h.stream) bytes piece) before))
  pub translates : Translates first t (onto (added (items h.stream) bytes piece) before)
  pub sends : SendsItems first out_old out_new before (onto (added (items h.stream) bytes piece) before)
  pub others_are : h.others (onto (added (items h.stream) bytes piece) before) ≡ h.others before
  pub other_over : h.other_over (onto (added (items h.stream) bytes piece) before) ≡ h.other_over before

-- memory ran out for one of the items that the piece brought: those before it were taken
pub record Halted {S P : Type 0} (first : ℕ) (h : Half S P) (kept : StreamView S) (t : Kept) (bytes piece : List ℕ) (before : List Item) (out_old out_new : Outputs) : Type 0 where
  pub taken : List Item
  pub next : Item
  pub behind : List Item
  pub parts : added (items h.stream) bytes piece ≡ taken ++ next ∷ behind
  pub wants : Wants first (onto taken before) next
  pub stands : StreamStands h.stream.reader h.stream.start kept (bytes ++ piece) (h.came (onto taken before)) (h.over (onto taken before))
  pub translates : Translates first t (onto taken before)
  pub sends : SendsItems first out_old out_new before (onto taken before)
  pub others_are : h.others (onto taken before) ≡ h.others before
  pub other_over : h.other_over (onto taken before) ≡ h.other_over before

-- memory ran out for the piece itself, which hasn't come
pub record IsUnput {S : Type 0} (old new : StreamView S) (t u : Kept) (piece : List ℕ) (out_old out_new : Outputs) : Type 0 where
  pub kept : new ≡ passed old
  pub some : (0 < length piece) × (old.over ≡ false)
  pub nothing : DoesNothing t u out_old out_new

-- wherever the stream stood: the piece was taken, or memory ran out
abbrev pub TakesPiece : {S P : Type 0} → Result (Unit {0}) Memory → (ℕ → Half S P) → StreamView S → StreamView S → Kept → Kept → List ℕ → Outputs → Outputs → Type 0
TakesPiece (Ok v) half old new t u piece out_old out_new =
    (first : ℕ) (bytes : List ℕ) (before : List Item) → IsAt first (half first) old t bytes before →
    Finished first (half first) new u bytes piece before out_old out_new
TakesPiece (Err memory) half old new t u piece out_old out_new =
    (first : ℕ) (bytes : List ℕ) (before : List Item) → IsAt first (half first) old t bytes before →
    IsUnput old new t u piece out_old out_new ⊎ Halted first (half first) new u bytes piece before out_old out_new
