-- How a piece of the guest's bytes ends: all that it brought was taken, or memory ran out.
use Rattle.std.proofs.Common.{◌≡◌, ℕ, Bool, true, false, inl, inr, List, [], ◌∷◌, ◌++◌, map, Option, Some, None, Result, Ok, Err, refl, sym, ap, subst, ◌∙◌, append_assoc, fold}
use Rattle.std.specs.Prelude.{OnOk, OnErr}
use Rattle.std.proofs.lemmas.List.{append-nil}
use Rattle.usb_base.specs.Number.{AreBytes}
use Rattle.usb_base.specs.declared.memory.Memory.{Memory as NoMemory}
use Rattle.usb_base.proofs.Numbers.{AreBytes-append}
use Rattle.packet_stream.specs.Streams.{StreamView as Stream, Drained, Nexts, Changes}
use Rattle.packet_stream.specs.Takers.{TakenStream, TakesAnswer, Finishes, IsUnput, TakesPiece as TakesBytes}
use Rattle.packet_stream.specs.declared.read.ReadError.{ReadError}
use Rattle.packet_stream.specs.declared.read.ReadError.TheVariants.{Refused as IsRefused, Memory}
use Rattle.packet_stream.specs.Items.{added}
use Rattle.packet_stream.proofs.Following.{follows-front}
use Rattle.packet_stream.proofs.Pieces.{wrongs, added-right, added-wrong, added-front}
use Rattle.redir_wire.specs.declared.state.RedirState.{RedirState}
use Rattle.redir_wire.specs.declared.packet.Header.{Header}
use Rattle.redir_wire.specs.State.{start}
use Rattle.redir_data.specs.Packets.{takes_memory as redir_takes_memory}
use Rattle.redir_data.specs.declared.packet.RedirPacket.{RedirPacket}
use Rattle.redir_data.specs.declared.packet.RedirPacket.TheVariants.{Plain, Carrying}
use Rattle.redir_data.specs.Streams.{stream_start}
use Rattle.model_device.specs.Gadget.{IsGadget}
use Rattle.model_device.specs.Meaning.{Meaning}
use Rattle.redir_host.specs.declared.state.host.Host.{Host}
use Rattle.redir_host.specs.state.Kept.{HostKept}
use Rattle.redir_host.specs.declared.write.note.HostNote.{HostNote}
use Rattle.redir_host.specs.declared.step.taker.GuestTaker.{GuestTaker}
use Rattle.redir_host.specs.step.Acts.{Act, Piece, guest_bytes}
use Rattle.redir_host.specs.guest.Guest.{guest_reader, guest_split, guest_items}
use Rattle.redir_host.specs.step.History.{history}
use Rattle.redir_host.specs.step.Items.{Item, Asked, Wrong}
use Rattle.redir_host.specs.step.Machine.{all_given, bytes_of, notes_of, step}
use Rattle.redir_host.specs.step.Stands.{told_state, IsReadBy, HostStands, TakesAct, StopsInAct, TakesPiece, StopsIn}
use Rattle.redir_host.specs.step.Wants.{HostWants, takes_memory}
use Rattle.redir_host.proofs.lemmas.guest.Pieces.{Found, HasTaken, IsBefore, IsGoing, IsWithin, IsWithinBy, guest_stream, asked, guest_taking, going-at, within, host-all, given-all, read-given, sent_of}

pub before : {S : Type 0} (m : Meaning S) (s : S) (old : HostKept S) (acts : List Act) → HostStands m s old acts → IsBefore old.stream old.host (guest_bytes acts)
before m s old acts stands = record { read = stands.stream; sound = stands.sound; state = stands.state }

-- ---- all that it brought was taken

-- what is there at the end
record IsDone {S : Type 0} (m : Meaning S) (bytes piece : List ℕ) (first : GuestTaker S) (now : TakenStream RedirState (GuestTaker S)) : Type 0 where
  pub read : IsReadBy now.stream (guest_split (bytes ++ piece)) now.stream.over
  pub state : now.taker.host.now.guest ≡ told_state start (guest_split (bytes ++ piece)).packets
  pub taken : HasTaken m first.host.now now.taker.host.now first.out.now now.taker.out.now first.notes.now now.taker.notes.now (added guest_items bytes piece)

done-by : {S : Type 0} (m : Meaning S) (bytes piece : List ℕ) (first : GuestTaker S) (last : TakenStream RedirState (GuestTaker S)) (new : Stream RedirState) → Changes {P = Header × RedirPacket} (Ok None) last.stream new → Nexts {P = Header × RedirPacket} guest_reader redir_takes_memory (Ok None) last.stream new →
    (over : Bool) → last.stream.over ≡ over → IsWithinBy m bytes piece first last over → IsDone m bytes piece first (record { stream = new; taker = last.taker })
done-by {S = S} m bytes piece first last new changes nexts false going g =
    let y = guest_split (bytes ++ piece) in
    let over : new.over ≡ false = ap (λ (k : Stream RedirState). k.over) changes ∙ going in
    let d : Drained new y ((guest_split bytes).packets ++ g.more) = nexts stream_start (bytes ++ piece) ((guest_split bytes).packets ++ g.more) g.follows over in
    let drained : Drained new y y.packets = record { packets = refl; right = d.right; rest = d.rest; place = d.place; state = d.state } in
    let parts : added guest_items bytes piece ≡ map asked g.more = added-right guest_stream bytes piece g.more g.right d.packets d.right in
    record {
      read = subst (IsReadBy new y) (sym over) drained;
      state = g.state ∙ ap (told_state start) (sym d.packets);
      taken = subst (HasTaken m first.host.now last.taker.host.now first.out.now last.taker.out.now first.notes.now last.taker.notes.now) (sym parts) g.taken;
    }
done-by m bytes piece first last new changes nexts true ended o = record {
  read = subst (IsReadBy new (guest_split (bytes ++ piece))) (sym (ap (λ (k : Stream RedirState). k.over) changes ∙ ended)) (o.at, o.wrong);
  state = o.state;
  taken = o.taken;
}

done : {S : Type 0} (m : Meaning S) (bytes piece : List ℕ) (first : GuestTaker S) (last new : TakenStream RedirState (GuestTaker S)) → IsWithin m bytes piece first last → Finishes (guest_taking m) last new → IsDone m bytes piece first new
done {S = S} m bytes piece first last new w ends =
    subst (λ (t : GuestTaker S). IsDone m bytes piece first (record { stream = new.stream; taker = t })) (sym ends.taker)
    (done-by m bytes piece first last new.stream ends.changes ends.nexts last.stream.over refl w)

-- the core of a stream and its taker
abbrev pub core_of : {S : Type 0} → Bool → TakenStream RedirState (GuestTaker S) → HostKept S
core_of failed now = record { stream = now.stream; host = now.taker.host.now; failed = failed }

takes-act : {S : Type 0} (m : Meaning S) (s : S) (failed : Bool) (old new : TakenStream RedirState (GuestTaker S)) (acts : List Act) (piece : List ℕ) → AreBytes piece → HostStands m s (core_of failed old) acts → IsDone m (guest_bytes acts) piece old.taker new →
    TakesAct m s (core_of failed new) acts (Piece piece) old.taker.out.now new.taker.out.now old.taker.notes.now new.taker.notes.now
takes-act m s failed old new acts piece are stands d =
    let xs = added guest_items (guest_bytes acts) piece in
    let k = core_of failed old in
    record {
      does = record {
        stands = record {
          works = stands.works;
          stream = record { fits = AreBytes-append (guest_bytes acts) piece stands.stream.fits are; read = d.read };
          host = host-all m s k new.taker.host.now acts (Piece piece) xs stands d.taken.host refl;
          sound = d.taken.sound;
          told = read-given m s k new.taker.host.now acts (Piece piece) xs stands refl (d.taken.reads (all_given sent_of m s (history acts)) stands.told);
          state = d.state;
        };
        sent = given-all bytes_of m s k acts xs xs old.taker.out.now new.taker.out.now stands d.taken.sent refl;
      };
      told = given-all notes_of m s k acts xs xs old.taker.notes.now new.taker.notes.now stands d.taken.told refl;
    }

-- ---- memory ran out

-- to hold the piece
stops-unput : {S : Type 0} (m : Meaning S) (s : S) (failed : Bool) (old new : TakenStream RedirState (GuestTaker S)) (acts : List Act) (piece : List ℕ) → HostStands m s (core_of failed old) acts → IsUnput old new piece →
    StopsInAct m s acts (Piece piece) old.taker.out.now new.taker.out.now
stops-unput {S = S} m s failed old new acts piece stands unput =
    let x = guest_split (guest_bytes acts) in
    let d : Drained old.stream x x.packets = subst (IsReadBy old.stream x) unput.some.1 stands.stream.read in
    record {
      taken = [];
      later = added guest_items (guest_bytes acts) piece;
      parts = refl;
      sent = ap (λ (t : GuestTaker S). t.out.now) unput.taker ∙ sym (append-nil old.taker.out.now);
      wanted = inl (refl, (unput.some.0, d.right));
    }

-- for what comes next: a packet that takes memory, or an item that gives something
asks-memory : (header : Header) (p : RedirPacket) → redir_takes_memory (header, p) ≡ true → takes_memory (Asked header.id p) ≡ true
asks-memory header (Plain p) takes = takes
asks-memory header (Carrying p) takes = takes

stops-next : {S : Type 0} (m : Meaning S) (s : S) (failed : Bool) (old last : TakenStream RedirState (GuestTaker S)) (acts : List Act) (piece out : List ℕ) (next : Item) (behind : List Item) → HostStands m s (core_of failed old) acts →
    (g : IsGoing m (guest_bytes acts) piece old.taker last) → added guest_items (guest_bytes acts) piece ≡ map asked g.more ++ next ∷ behind → out ≡ last.taker.out.now → HostWants m last.taker.host.now next → StopsInAct m s acts (Piece piece) old.taker.out.now out
stops-next {S = S} m s failed old last acts piece out next behind stands g parts cut wants =
    let xs = map asked g.more in
    record {
      taken = xs;
      later = next ∷ behind;
      parts = parts;
      sent = given-all bytes_of m s (core_of failed old) acts xs xs old.taker.out.now out stands (cut ∙ g.taken.sent) refl;
      wanted = inr (subst (λ (h : Host S). HostWants m h next) (g.taken.host ∙ ap (λ (h : Host S). fold (step m) h xs) stands.host) wants);
    }

stops-by : {S : Type 0} (m : Meaning S) (s : S) (failed : Bool) (old last : TakenStream RedirState (GuestTaker S)) (new : Stream RedirState) (t : GuestTaker S) (acts : List Act) (piece : List ℕ) (memory : NoMemory) (answer : Result (Option Found) ReadError) →
    HostStands m s (core_of failed old) acts → IsWithin m (guest_bytes acts) piece old.taker last → Changes answer last.stream new → Nexts guest_reader redir_takes_memory answer last.stream new → TakesAnswer (guest_taking m) answer (Err memory) last.taker t → StopsInAct m s acts (Piece piece) old.taker.out.now t.out.now
stops-by m s failed old last new t acts piece memory (Ok None) stands w changes nexts takes = absurd takes
stops-by m s failed old last new t acts piece memory (Ok (Some i)) stands w changes nexts takes =
    let bytes = guest_bytes acts in
    let g = going-at m bytes piece old.taker last changes.1 w in
    let given : List Found = (guest_split bytes).packets ++ g.more in
    let n = nexts stream_start (bytes ++ piece) given g.follows in
    let one : List Found = (n.at, i.1) ∷ [] in
    let front = follows-front guest_reader stream_start new (bytes ++ piece) (given ++ one) n.follows in
    stops-next m s failed old last acts piece t.out.now (asked (n.at, i.1)) (map asked front.0 ++ wrongs guest_stream (guest_split (bytes ++ piece)).wrong) stands g
    (added-front guest_stream bytes piece g.more ((n.at, i.1) ∷ front.0) g.right (front.1 ∙ append_assoc given one front.0)) takes.1.0 (inr takes.1.1)
stops-by m s failed old last new t acts piece memory (Err (IsRefused place why)) stands w changes nexts takes =
    let bytes = guest_bytes acts in
    let g = going-at m bytes piece old.taker last changes.0 w in
    let n = nexts stream_start (bytes ++ piece) ((guest_split bytes).packets ++ g.more) g.follows in
    stops-next m s failed old last acts piece t.out.now (Wrong place why) [] stands g
    (added-wrong guest_stream bytes piece g.more n.at why g.right n.packets n.wrong ∙ ap (λ (at : ℕ). map asked g.more ++ Wrong at why ∷ []) (sym n.place-is)) takes.1.0 (inr takes.1.1)
stops-by {S = S} m s failed old last new t acts piece memory (Err (Memory _)) stands w changes nexts takes =
    let bytes = guest_bytes acts in
    let g = going-at m bytes piece old.taker last changes.0 w in
    let n = nexts stream_start (bytes ++ piece) ((guest_split bytes).packets ++ g.more) g.follows in
    stops-next m s failed old last acts piece t.out.now (asked n.next) (map asked n.left ++ wrongs guest_stream (guest_split (bytes ++ piece)).wrong) stands g
    (added-front guest_stream bytes piece g.more (n.next ∷ n.left) g.right n.packets) (ap (λ (u : GuestTaker S). u.out.now) takes.1) (inl (asks-memory n.next.1.0 n.next.1.1 n.takes-some))

-- ---- the calls

-- the lists and the host are what the taker leaves behind them
pub piece-ok : {S : Type 0} (m : Meaning S) → IsGadget m → (failed : Bool) (r : Result (Unit {0}) NoMemory) (old new : TakenStream RedirState (GuestTaker S)) (host : Host S) (piece out : List ℕ) (notes : List HostNote) → AreBytes piece →
    host ≡ new.taker.host.now → out ≡ new.taker.out.now → notes ≡ new.taker.notes.now → TakesBytes (guest_taking m) r old piece new →
    OnOk r (TakesPiece m piece (core_of failed old) (record { stream = new.stream; host = host; failed = failed }) old.taker.out.now out old.taker.notes.now notes)
piece-ok m lawful failed (Err memory) old new host piece out notes are h o n takes = tt
piece-ok {S = S} m lawful failed (Ok v) old new host piece out notes are h o n takes =
    λ (s : S) (acts : List Act) (stands : HostStands m s (core_of failed old) acts).
    let w = within m lawful old.stream old.taker takes.0 (guest_bytes acts) piece are (before m s (core_of failed old) acts stands) takes.1.0 in
    let act = takes-act m s failed old new acts piece are stands (done m (guest_bytes acts) piece old.taker takes.0 new w takes.1.1) in
    (subst (λ (k : Host S). TakesAct m s (record { stream = new.stream; host = k; failed = failed }) acts (Piece piece) old.taker.out.now out old.taker.notes.now notes) (sym h)
    (subst (λ (l : List ℕ). TakesAct m s (core_of failed new) acts (Piece piece) old.taker.out.now l old.taker.notes.now notes) (sym o)
    (subst (λ (l : List HostNote). TakesAct m s (core_of failed new) acts (Piece piece) old.taker.out.now new.taker.out.now old.taker.notes.now l) (sym n) act)))

pub piece-err : {S : Type 0} (m : Meaning S) → IsGadget m → (failed : Bool) (r : Result (Unit {0}) NoMemory) (old new : TakenStream RedirState (GuestTaker S)) (piece out : List ℕ) → AreBytes piece →
    out ≡ new.taker.out.now → TakesBytes (guest_taking m) r old piece new → OnErr r (StopsIn m (Piece piece) (core_of failed old) old.taker.out.now out)
piece-err m lawful failed (Ok v) old new piece out are o takes = tt
piece-err {S = S} m lawful failed (Err memory) old new piece out are o takes =
    λ (s : S) (acts : List Act) (stands : HostStands m s (core_of failed old) acts).
    subst (λ (bytes : List ℕ). StopsInAct m s acts (Piece piece) old.taker.out.now bytes) (sym o) (elim takes [
      | inl unput ↦ stops-unput m s failed old new acts piece stands unput
      | inr w ↦ stops-by m s failed old w.0 new.stream new.taker acts piece memory w.1.1.answer stands
          (within m lawful old.stream old.taker w.0 (guest_bytes acts) piece are (before m s (core_of failed old) acts stands) w.1.0) w.1.1.changes w.1.1.nexts w.1.1.takes
    ])
