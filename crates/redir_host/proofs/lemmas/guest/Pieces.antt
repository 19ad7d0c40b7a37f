-- A piece of the guest's bytes: what each packet is, and what the host makes of all that the piece brings.
use Rattle.std.proofs.Common.{◌≡◌, ℕ, Bool, true, false, List, [], ◌∷◌, ◌++◌, length, map, Option, Some, None, Result, Ok, Err, refl, sym, ap, subst, ◌∙◌, append_assoc, fold}
use Rattle.std.proofs.lemmas.List.{append-nil, map-append}
use Rattle.std.proofs.lemmas.List.Sums.{fold-append}
use Rattle.usb_base.specs.Number.{AreBytes}
use Rattle.usb_base.specs.declared.memory.Memory.{Memory as NoMemory}
use Rattle.usb_base.specs.declared.reason.Reason.{Reason}
use Rattle.packet_stream.specs.Split.{Position, Splitting, past, further_by, Spells}
use Rattle.packet_stream.specs.Streams.{StreamView as Stream, after_piece, Follows, Drained, Nexts, Puts, Changes, capped}
use Rattle.packet_stream.specs.Takers.{Taking, TakenStream, taken_by, TakesAnswer, Reaches, TakesPiece}
use Rattle.packet_stream.specs.declared.read.ReadError.{ReadError}
use Rattle.packet_stream.specs.declared.read.ReadError.TheVariants.{Refused as IsRefused, Memory}
use Rattle.packet_stream.specs.Items.{added}
use Rattle.packet_stream.proofs.Following.{drained-follows, follows-front, over_after}
use Rattle.packet_stream.proofs.Laws.{IsSteady, reads_steady, split-more}
use Rattle.packet_stream.proofs.Pieces.{SideStream, added-wrong, added-none}
use Rattle.packet_stream.proofs.Splits.{is_splitting}
use Rattle.packet_stream.proofs.Takers.{reaches-keeps, piece-keeps}
use Rattle.redir_wire.specs.declared.state.RedirState.{RedirState}
use Rattle.redir_wire.specs.declared.packet.Header.{Header}
use Rattle.redir_wire.specs.declared.packet.Way.TheVariants.{ToHost}
use Rattle.redir_wire.specs.State.{start}
use Rattle.redir_data.specs.Packets.{takes_memory as redir_takes_memory}
use Rattle.redir_data.specs.declared.packet.RedirPacket.{RedirPacket}
use Rattle.redir_data.specs.Streams.{after, stream_format, stream_start}
use Rattle.redir_data.specs.sound.Joined.{stream_sound}
use Rattle.model_device.specs.Gadget.{IsGadget}
use Rattle.model_device.specs.Meaning.{Meaning}
use Rattle.redir_host.specs.declared.state.host.Host.{Host}
use Rattle.redir_host.specs.state.Kept.{HostKept}
use Rattle.redir_host.specs.declared.write.note.HostNote.{HostNote}
use Rattle.redir_host.specs.declared.step.taker.GuestTaker.{GuestTaker}
use Rattle.redir_host.specs.step.Acts.{Act}
use Rattle.redir_host.specs.guest.Guest.{guest_reader, guest_split, guest_items}
use Rattle.redir_host.specs.step.History.{brought, history}
use Rattle.redir_host.specs.step.Items.{Item, Asked, Wrong}
use Rattle.redir_host.specs.step.Machine.{move, step, all_given, bytes_of, notes_of, given_by}
use Rattle.redir_host.specs.step.Makes.{IsTaken, TakesMove}
use Rattle.redir_host.specs.step.Moves.{Move}
use Rattle.redir_host.specs.write.Output.{host_of}
use Rattle.redir_host.specs.guest.Packets.{packet_move}
use Rattle.redir_host.specs.inner.Takers.{Borrows, TakerTakes}
use Rattle.redir_host.specs.write.Readable.{AreRead}
use Rattle.redir_host.specs.state.Sound.{IsSound}
use Rattle.redir_host.specs.step.Stands.{told_state, IsRead, IsReadBy, HostStands}
use Rattle.redir_host.proofs.lemmas.guest.Sound.{keeps-packet}
use Rattle.redir_host.proofs.lemmas.write.Replies.{packet-read}
use Rattle.redir_host.proofs.lemmas.step.Acts.{act-gives, act-host}
use Rattle.packet_stream.proofs.Outputs.{outputs-append}

-- ---- the guest's stream

abbrev pub Found : Type 0
Found = ℕ × (Header × RedirPacket)

abbrev pub guest_stream : SideStream RedirState (Header × RedirPacket) Reason Item
guest_stream = record { reader = guest_reader; start = stream_start; packet = λ place p. Asked p.0.id p.1; wrong = λ place why. Wrong (capped place) why }

abbrev pub asked : Found → Item
asked p = Asked p.1.0.id p.1.1

pub guest-steady : IsSteady guest_reader
guest-steady = reads_steady (stream_format ToHost) after (stream_sound ToHost)

state-append : (s : RedirState) (ps qs : List Found) → told_state s (ps ++ qs) ≡ told_state (told_state s ps) qs
state-append s [] qs = refl
state-append s (p ∷ ps) qs = state-append (after s p.1) ps qs

fits-behind : (a z : Position RedirState) (bytes rest : List ℕ) (given left : List Found) (i : Found) → Spells (stream_format ToHost) after a bytes (given ++ i ∷ left) z rest → (stream_format ToHost (told_state a.state given)).Fits i.1
fits-behind a z bytes rest [] left i spelled = spelled.2
fits-behind a z bytes rest (j ∷ given) left i spelled = fits-behind (past after a j.1 (length ((stream_format ToHost a.state).spelling j.1))) z spelled.0 rest given left i spelled.4

-- a packet that comes next is one that the guest can send now
pub next-taken : (takes : Header × RedirPacket → Bool) (kept new : Stream RedirState) (guest : RedirState) (bytes : List ℕ) (given : List Found) (i : Found) → Follows guest_reader stream_start kept bytes given → guest ≡ told_state start given → Nexts guest_reader takes (Ok (Some i)) kept new →
    IsTaken guest i.1.0 i.1.1
next-taken takes kept new guest bytes given i follows state nexts =
    let n = nexts stream_start bytes given follows in
    let item : List Found = (n.at, i.1) ∷ [] in
    let front = follows-front guest_reader stream_start new bytes (given ++ item) n.follows in
    let x = guest_split bytes in
    let found = is_splitting (stream_format ToHost) after (stream_sound ToHost) stream_start bytes follows.fits in
    let spelled : Spells (stream_format ToHost) after stream_start bytes (given ++ (n.at, i.1) ∷ front.0) x.position found.left =
    subst (λ (ps : List Found). Spells (stream_format ToHost) after stream_start bytes ps x.position found.left) (front.1 ∙ append_assoc given item front.0) found.spelled in
    subst (λ (s : RedirState). IsTaken s i.1.0 i.1.1) (sym state) (fits-behind stream_start x.position bytes found.left given front.0 (n.at, i.1) spelled)

-- ---- items that the host takes

abbrev pub sent_of : {S : Type 0} → Move S → List (ℕ × RedirPacket)
sent_of v = v.sent

-- it took these, and what they send and tell was sent and told
pub record HasTaken {S : Type 0} (m : Meaning S) (old new : Host S) (o0 o1 : List ℕ) (n0 n1 : List HostNote) (xs : List Item) : Type 0 where
  pub host : new ≡ fold (step m) old xs
  pub sound : IsSound new
  -- where its guest could read all that was sent, it still can
  pub reads : (sent : List (ℕ × RedirPacket)) → AreRead old.guest sent → AreRead new.guest (sent ++ given_by sent_of m old xs)
  pub sent : o1 ≡ o0 ++ given_by bytes_of m old xs
  pub told : n1 ≡ n0 ++ given_by notes_of m old xs

pub taken-none : {S : Type 0} (m : Meaning S) (h : Host S) (o : List ℕ) (n : List HostNote) → IsSound h → HasTaken m h h o o n n []
taken-none m h o n sound = record { host = refl; sound = sound; reads = λ xs before. subst (AreRead h.guest) (sym (append-nil xs)) before; sent = sym (append-nil o); told = sym (append-nil n) }

given-one : {S A : Type 0} (gives : Move S → List A) (m : Meaning S) (old mid : Host S) (xs : List Item) (x : Item) (l0 l1 l2 : List A) → mid ≡ fold (step m) old xs → l1 ≡ l0 ++ given_by gives m old xs → l2 ≡ l1 ++ gives (move m mid x) →
    l2 ≡ l0 ++ given_by gives m old (xs ++ x ∷ [])
given-one {S = S} gives m old mid xs x l0 l1 l2 host first then =
    let one = gives (move m (fold (step m) old xs) x) in
    then
    ∙ (λ k. first k ++ gives (move m (host k) x))
    ∙ append_assoc l0 (given_by gives m old xs) one
    ∙ ap (λ l. l0 ++ (given_by gives m old xs ++ l)) (sym (append-nil one))
    ∙ ap (λ l. l0 ++ l) (sym (outputs-append (step m) (λ h y. gives (move m h y)) old xs (x ∷ [])))

taken-one : {S : Type 0} (m : Meaning S) (old mid new : Host S) (x : Item) (o0 o1 o2 : List ℕ) (n0 n1 n2 : List HostNote) (xs : List Item) → TakesMove (move m mid x) new o1 o2 n1 n2 → IsSound new →
    ((sent : List (ℕ × RedirPacket)) → AreRead mid.guest sent → AreRead new.guest (sent ++ (move m mid x).sent)) → HasTaken m old mid o0 o1 n0 n1 xs → HasTaken m old new o0 o2 n0 n2 (xs ++ x ∷ [])
taken-one {S = S} m old mid new x o0 o1 o2 n0 n1 n2 xs takes sound reads t = record {
  host = takes.makes.host ∙ ap (λ (h : Host S). (move m h x).host) t.host ∙ sym (fold-append (step m) old xs (x ∷ []));
  sound = sound;
  reads = λ sent before.
      let had = sent ++ given_by sent_of m old xs in
      subst (AreRead new.guest) (given-one sent_of m old mid xs x sent had (had ++ (move m mid x).sent) t.host refl refl) (reads had (t.reads sent before));
  sent = given-one bytes_of m old mid xs x o0 o1 o2 t.host t.sent takes.makes.sent;
  told = given-one notes_of m old mid xs x n0 n1 n2 t.host t.told takes.notes;
}

-- ---- where a piece stands

-- how the guest's stream is taken
abbrev pub guest_taking : {S : Type 0} → Meaning S → Taking RedirState (Header × RedirPacket) (GuestTaker S)
guest_taking m = taken_by (stream_format ToHost) after redir_takes_memory (TakerTakes m) (λ t. false)

-- these packets of it were taken, and the stream goes on behind them
pub record IsGoing {S : Type 0} (m : Meaning S) (bytes piece : List ℕ) (first : GuestTaker S) (now : TakenStream RedirState (GuestTaker S)) : Type 0 where
  pub more : List Found
  pub follows : Follows guest_reader stream_start now.stream (bytes ++ piece) ((guest_split bytes).packets ++ more)
  pub right : (guest_split bytes).wrong ≡ None
  pub state : now.taker.host.now.guest ≡ told_state start ((guest_split bytes).packets ++ more)
  pub taken : HasTaken m first.host.now now.taker.host.now first.out.now now.taker.out.now first.notes.now now.taker.notes.now (map asked more)

-- all of it was taken, and the stream is over
pub record IsOver {S : Type 0} (m : Meaning S) (bytes piece : List ℕ) (first : GuestTaker S) (now : TakenStream RedirState (GuestTaker S)) : Type 0 where
  pub at : ℕ × Reason
  pub wrong : (guest_split (bytes ++ piece)).wrong ≡ Some at
  pub state : now.taker.host.now.guest ≡ told_state start (guest_split (bytes ++ piece)).packets
  pub taken : HasTaken m first.host.now now.taker.host.now first.out.now now.taker.out.now first.notes.now now.taker.notes.now (added guest_items bytes piece)

abbrev pub IsWithinBy : {S : Type 0} → Meaning S → List ℕ → List ℕ → GuestTaker S → TakenStream RedirState (GuestTaker S) → Bool → Type 0
IsWithinBy m bytes piece first now false = IsGoing m bytes piece first now
IsWithinBy m bytes piece first now true = IsOver m bytes piece first now

abbrev pub IsWithin : {S : Type 0} → Meaning S → List ℕ → List ℕ → GuestTaker S → TakenStream RedirState (GuestTaker S) → Type 0
IsWithin m bytes piece first now = IsWithinBy m bytes piece first now now.stream.over

within-at : {S : Type 0} (m : Meaning S) (bytes piece : List ℕ) (first : GuestTaker S) (now : TakenStream RedirState (GuestTaker S)) (over : Bool) → now.stream.over ≡ over → IsWithinBy m bytes piece first now over → IsWithin m bytes piece first now
within-at m bytes piece first now over is w = subst (IsWithinBy m bytes piece first now) (sym is) w

pub going-at : {S : Type 0} (m : Meaning S) (bytes piece : List ℕ) (first : GuestTaker S) (now : TakenStream RedirState (GuestTaker S)) → now.stream.over ≡ false → IsWithin m bytes piece first now → IsGoing m bytes piece first now
going-at m bytes piece first now is w = subst (IsWithinBy m bytes piece first now) is w

-- ---- the piece has come

still : (bytes piece : List ℕ) (w : ℕ × Reason) → AreBytes bytes → (guest_split bytes).wrong ≡ Some w → guest_split (bytes ++ piece) ≡ guest_split bytes
still bytes piece w fits wrong = split-more guest_reader guest-steady stream_start bytes piece fits ∙ ap (further_by guest_reader (guest_split bytes) piece) wrong

-- what is known of the guest's bytes before the piece
pub record IsBefore {S : Type 0} (kept : Stream RedirState) (host : Host S) (bytes : List ℕ) : Type 0 where
  pub read : IsRead kept bytes
  pub sound : IsSound host
  pub state : host.guest ≡ told_state start (guest_split bytes).packets

first-by : {S : Type 0} (m : Meaning S) (old new : Stream RedirState) (first : GuestTaker S) (bytes piece : List ℕ) → AreBytes piece → IsBefore old first.host.now bytes → Puts guest_reader piece old new → (over : Bool) → old.over ≡ over →
    IsWithinBy m bytes piece first (record { stream = new; taker = first }) over
first-by {S = S} m old new first bytes piece are b puts false going =
    let x = guest_split bytes in
    let d : Drained old x x.packets = subst (IsReadBy old x) going b.read.read in
    record {
      more = [];
      follows = subst (Follows guest_reader stream_start new (bytes ++ piece)) (sym (append-nil x.packets))
          (puts stream_start bytes x.packets (drained-follows guest_reader guest-steady stream_start old bytes x.packets b.read.fits going d));
      right = d.right;
      state = b.state ∙ ap (told_state start) (sym (append-nil x.packets));
      taken = taken-none m first.host.now first.out.now first.notes.now b.sound;
    }
first-by {S = S} m old new first bytes piece are b puts true over =
    let x = guest_split bytes in
    let w : (at : ℕ × Reason) × (x.wrong ≡ Some at) = subst (IsReadBy old x) over b.read.read in
    let same = still bytes piece w.0 b.read.fits w.1 in
    record {
      at = w.0;
      wrong = ap (λ (y : Splitting RedirState (Header × RedirPacket) Reason). y.wrong) same ∙ w.1;
      state = b.state ∙ ap (λ (y : Splitting RedirState (Header × RedirPacket) Reason). told_state start y.packets) (sym same);
      taken = subst (HasTaken m first.host.now first.host.now first.out.now first.out.now first.notes.now first.notes.now) (sym (added-none guest_stream bytes piece same))
          (taken-none m first.host.now first.out.now first.notes.now b.sound);
    }

within-first : {S : Type 0} (m : Meaning S) (old new : Stream RedirState) (first : GuestTaker S) (bytes piece : List ℕ) → AreBytes piece → IsBefore old first.host.now bytes → new ≡ after_piece old piece → Puts guest_reader piece old new →
    IsWithin m bytes piece first (record { stream = new; taker = first })
within-first m old new first bytes piece are b is puts =
    within-at m bytes piece first (record { stream = new; taker = first }) old.over (ap (λ (k : Stream RedirState). k.over) is ∙ over_after old piece old.over refl)
    (first-by m old new first bytes piece are b puts old.over refl)

-- ---- what comes next

one-by : {S : Type 0} (m : Meaning S) → IsGadget m → (bytes piece : List ℕ) (first : GuestTaker S) (old new : TakenStream RedirState (GuestTaker S)) (answer : Result (Option Found) ReadError) → IsWithin m bytes piece first old →
    Changes answer old.stream new.stream → Nexts guest_reader redir_takes_memory answer old.stream new.stream → TakesAnswer (guest_taking m) answer (Ok tt) old.taker new.taker → IsWithin m bytes piece first new
one-by m lawful bytes piece first old new (Ok None) w changes nexts takes = absurd takes
one-by {S = S} m lawful bytes piece first old new (Ok (Some i)) w changes nexts takes =
    let g = going-at m bytes piece first old changes.1 w in
    let x = guest_split bytes in
    let mid = old.taker.host.now in
    let n = nexts stream_start (bytes ++ piece) (x.packets ++ g.more) g.follows in
    let one : List Found = (n.at, i.1) ∷ [] in
    let is = next-taken redir_takes_memory old.stream new.stream mid.guest (bytes ++ piece) (x.packets ++ g.more) i g.follows g.state nexts in
    let keeps = keeps-packet m mid i.1.0 i.1.1 g.taken.sound is in
    let host : new.taker.host.now ≡ (packet_move m mid i.1.0.id i.1.1).host = takes.1.0.makes.host in
    let guest : new.taker.host.now.guest ≡ after mid.guest i.1 = ap (λ (h : Host S). h.guest) host ∙ keeps.guest in
    let behind : (x.packets ++ g.more) ++ one ≡ x.packets ++ (g.more ++ one) = append_assoc x.packets g.more one in
    within-at m bytes piece first new false changes.2 (record {
      more = g.more ++ one;
      follows = subst (Follows guest_reader stream_start new.stream (bytes ++ piece)) behind n.follows;
      right = g.right;
      state = guest ∙ ap (λ (s : RedirState). after s i.1) g.state ∙ sym (state-append start (x.packets ++ g.more) one) ∙ ap (told_state start) behind;
      taken = subst (HasTaken m first.host.now new.taker.host.now first.out.now new.taker.out.now first.notes.now new.taker.notes.now) (sym (map-append asked g.more one))
          (taken-one m first.host.now mid new.taker.host.now (asked i) first.out.now old.taker.out.now new.taker.out.now first.notes.now old.taker.notes.now new.taker.notes.now (map asked g.more)
          takes.1.0 (subst (λ (h : Host S). IsSound h) (sym host) keeps.sound)
          (λ sent before. subst (λ (s : RedirState). AreRead s (sent ++ (packet_move m mid i.1.0.id i.1.1).sent)) (sym guest) (packet-read m lawful mid i.1.0 i.1.1 sent g.taken.sound is takes.1.1 before)) g.taken);
    })
one-by {S = S} m lawful bytes piece first old new (Err (IsRefused place why)) w changes nexts takes =
    let g = going-at m bytes piece first old changes.0 w in
    let x = guest_split bytes in
    let mid = old.taker.host.now in
    let n = nexts stream_start (bytes ++ piece) (x.packets ++ g.more) g.follows in
    let host : new.taker.host.now ≡ mid = takes.1.0.makes.host in
    let parts : added guest_items bytes piece ≡ map asked g.more ++ Wrong place why ∷ [] =
    added-wrong guest_stream bytes piece g.more n.at why g.right n.packets n.wrong ∙ ap (λ (at : ℕ). map asked g.more ++ Wrong at why ∷ []) (sym n.place-is) in
    within-at m bytes piece first new true (ap (λ (k : Stream RedirState). k.over) changes.1) (record {
      at = (n.at, why);
      wrong = n.wrong;
      state = ap (λ (h : Host S). h.guest) host ∙ g.state ∙ ap (told_state start) (sym n.packets);
      taken = subst (HasTaken m first.host.now new.taker.host.now first.out.now new.taker.out.now first.notes.now new.taker.notes.now) (sym parts)
          (taken-one m first.host.now mid new.taker.host.now (Wrong place why) first.out.now old.taker.out.now new.taker.out.now first.notes.now old.taker.notes.now new.taker.notes.now (map asked g.more)
          takes.1.0 (subst (λ (h : Host S). IsSound h) (sym host) g.taken.sound)
          (λ sent before. subst (λ (h : Host S). AreRead h.guest (sent ++ [])) (sym host) (subst (AreRead mid.guest) (sym (append-nil sent)) before)) g.taken);
    })
one-by m lawful bytes piece first old new (Err (Memory memory)) w changes nexts takes = absurd cc

pub within : {S : Type 0} (m : Meaning S) → IsGadget m → (old : Stream RedirState) (first : GuestTaker S) (now : TakenStream RedirState (GuestTaker S)) (bytes piece : List ℕ) → AreBytes piece → IsBefore old first.host.now bytes →
    Reaches (guest_taking m) (record { stream = old; taker = first }) piece now → IsWithin m bytes piece first now
within {S = S} m lawful old first now bytes piece are b r =
    reaches-keeps (guest_taking m) (IsWithin m bytes piece first) (record { stream = old; taker = first }) now piece
    (λ stream is puts. within-first m old stream first bytes piece are b is puts)
    (λ k l w one. one-by m lawful bytes piece first k l one.took.answer w
    (subst (λ (s : Stream RedirState). Changes one.took.answer k.stream s) (sym one.stream) one.took.changes)
    (subst (λ (s : Stream RedirState). Nexts guest_reader redir_takes_memory one.took.answer k.stream s) (sym one.stream) one.took.nexts) one.took.takes)
    r

-- its packets can be taken
pub can-take : {S : Type 0} (m : Meaning S) (bytes piece : List ℕ) (first : GuestTaker S) (now : TakenStream RedirState (GuestTaker S)) (new : Stream RedirState) (i : Found) → IsWithin m bytes piece first now →
    Changes (Ok (Some i)) now.stream new → Nexts guest_reader redir_takes_memory (Ok (Some i)) now.stream new → IsSound now.taker.host.now × IsTaken now.taker.host.now.guest i.1.0 i.1.1
can-take m bytes piece first now new i w changes nexts =
    let g = going-at m bytes piece first now changes.1 w in
    (g.taken.sound, next-taken redir_takes_memory now.stream new now.taker.host.now.guest (bytes ++ piece) ((guest_split bytes).packets ++ g.more) i g.follows g.state nexts)

-- ---- what is borrowed, which is the same at the end

pub borrows-piece : {S : Type 0} (m : Meaning S) (r : Result (Unit {0}) NoMemory) (old new : TakenStream RedirState (GuestTaker S)) (piece : List ℕ) → TakesPiece (guest_taking m) r old piece new → Borrows old.taker new.taker
borrows-piece {S = S} m r old new piece takes =
    piece-keeps (guest_taking m) (λ (t u : GuestTaker S). Borrows t u) (λ t. record { host = refl; out = refl; notes = refl })
    (λ t u v a b. record { host = b.host ∙ a.host; out = b.out ∙ a.out; notes = b.notes ∙ a.notes }) (λ place found r t u took. took.0) r old piece new takes

-- ---- what the act makes of the host

pub host-all : {S : Type 0} (m : Meaning S) (s : S) (old : HostKept S) (new : Host S) (acts : List Act) (a : Act) (xs : List Item) → HostStands m s old acts → new ≡ fold (step m) old.host xs → brought acts a ≡ xs → new ≡ host_of m s (a ∷ acts)
host-all {S = S} m s old new acts a xs stands is parts =
    is
    ∙ (λ i. fold (step m) (stands.host i) (sym parts i))
    ∙ sym (act-host m s acts a)

pub given-all : {S A : Type 0} (gives : Move S → List A) (m : Meaning S) (s : S) (old : HostKept S) (acts : List Act) (xs ys : List Item) (l0 l1 : List A) → HostStands m s old acts → l1 ≡ l0 ++ given_by gives m old.host xs → ys ≡ xs → l1 ≡ l0 ++ given_by gives m (host_of m s acts) ys
given-all gives m s old acts xs ys l0 l1 stands is parts = is ∙ (λ i. l0 ++ given_by gives m (stands.host i) (sym parts i))

-- all that was sent, and this piece's
pub read-given : {S : Type 0} (m : Meaning S) (s : S) (old : HostKept S) (new : Host S) (acts : List Act) (a : Act) (xs : List Item) → HostStands m s old acts → brought acts a ≡ xs → AreRead new.guest (all_given sent_of m s (history acts) ++ given_by sent_of m old.host xs) →
    AreRead new.guest (all_given sent_of m s (history (a ∷ acts)))
read-given m s old new acts a xs stands parts read =
    subst (AreRead new.guest) ((λ i. all_given sent_of m s (history acts) ++ given_by sent_of m (stands.host i) (sym parts i)) ∙ sym (act-gives sent_of m s acts a)) read
