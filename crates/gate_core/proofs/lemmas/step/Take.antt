-- A piece of a side's stream, whose items are taken one by one until the side is over or nothing more is whole.
use Rattle.std.proofs.Common.{◌≡◌, ℕ, Bool, true, false, List, [], ◌∷◌, ◌++◌, Option, Some, None, Result, Ok, Err, refl, sym, ap, subst, ◌∙◌, append_assoc}
use Rattle.std.proofs.lemmas.Bool.{true≢false}
use Rattle.std.proofs.lemmas.List.{append-nil, map-append}
use Rattle.usb_base.specs.Number.{AreBytes}
use Rattle.usb_base.specs.declared.reason.Reason.{Reason}
use Rattle.packet_stream.specs.declared.read.ReadError.{ReadError}
use Rattle.packet_stream.specs.declared.read.ReadError.TheVariants.{Refused, Memory}
use Rattle.packet_stream.specs.Split.{Reader, Position, split}
use Rattle.packet_stream.specs.Streams.{StreamView, passed, ended, after_piece, after_piece_by, Follows, Drained, Closed, Nexts, Puts, Changes, capped}
use Rattle.packet_stream.specs.Items.{added}
use Rattle.packet_stream.specs.Takers.{ended_if}
use Rattle.packet_stream.proofs.Laws.{IsSteady}
use Rattle.packet_stream.proofs.Following.{drained-follows, follows-front, follows-holds, over_after}
use Rattle.packet_stream.proofs.Pieces.{SideStream, packets, wrongs, items, added-right, added-wrong, added-front}
use Rattle.gate_core.specs.step.Stands.{HasAll, IsLeftBy}

-- what is known of the stream before the piece
pub record Before {S P : Type 0} (r : Reader S P Reason) (start : Position S) (bytes : List ℕ) (given : List (ℕ × P)) : Type 0 where
  pub packets : (split r start bytes).packets ≡ given
  pub right : (split r start bytes).wrong ≡ None

-- these items of the piece were taken, which are all packets, and the stream goes on behind them
pub record Going {S P I : Type 0} (s : SideStream S P Reason I) (kept : StreamView S) (bytes piece : List ℕ) (given : List (ℕ × P)) (taken : List I) : Type 0 where
  pub before : Before s.reader s.start bytes given
  pub more : List (ℕ × P)
  pub are : taken ≡ packets s more
  pub follows : Follows s.reader s.start kept (bytes ++ piece) (given ++ more)

-- these items were taken, and nothing more is read
pub record Cut {S P I : Type 0} (s : SideStream S P Reason I) (kept : StreamView S) (bytes piece : List ℕ) (taken : List I) : Type 0 where
  pub none : kept.held ≡ []
  pub empty : kept.rest ≡ []
  pub later : List I
  pub parts : added (items s) bytes piece ≡ taken ++ later

pub record Taken {S P I : Type 0} (s : SideStream S P Reason I) (kept : StreamView S) (bytes piece : List ℕ) (given : List (ℕ × P)) (taken : List I) : Type 0 where
  pub going : kept.over ≡ false → Going s kept bytes piece given taken
  pub cut : kept.over ≡ true → Cut s kept bytes piece taken

-- ---- the piece is put

pub follows-all : {S P : Type 0} (r : Reader S P Reason) → IsSteady r → (start : Position S) (kept : StreamView S) (bytes : List ℕ) (given : List (ℕ × P)) (over : Bool) →
    HasAll r start kept bytes given over → over ≡ false → Follows r start kept bytes given
follows-all r steady start kept bytes given over all going = drained-follows r steady start kept bytes given all.fits (all.over_is ∙ going) (all.drained going)

pub over-put : {S : Type 0} (old new : StreamView S) (piece : List ℕ) → new ≡ after_piece old piece → new.over ≡ old.over
over-put {S = S} old new piece is = ap (λ (k : StreamView S). k.over) is ∙ over_after old piece old.over refl

put-over : {S : Type 0} (old new : StreamView S) (piece : List ℕ) → new ≡ after_piece old piece → old.over ≡ true → new ≡ old
put-over old new piece is over = is ∙ ap (after_piece_by old piece) over

pub taken-put : {S P I : Type 0} (s : SideStream S P Reason I) → IsSteady s.reader → (old new : StreamView S) (bytes piece : List ℕ) (given : List (ℕ × P)) (over : Bool) → AreBytes piece →
    HasAll s.reader s.start old bytes given over → new ≡ after_piece old piece → Puts s.reader piece old new → Taken s new bytes piece given []
taken-put {S = S} {P = P} {I = I} s steady old new bytes piece given over are all is puts = record {
  going = λ runs.
      let going : over ≡ false = sym all.over_is ∙ sym (over-put old new piece is) ∙ runs in
      let d = all.drained going in
      record {
        before = record { packets = d.packets; right = d.right };
        more = [];
        are = refl;
        follows = subst (λ (g : List (ℕ × P)). Follows s.reader s.start new (bytes ++ piece) g) (sym (append-nil given))
            (puts s.start bytes given (follows-all s.reader steady s.start old bytes given over all going));
      };
  cut = λ ends.
      let was : old.over ≡ true = sym (over-put old new piece is) ∙ ends in
      let same : new ≡ old = put-over old new piece is was in
      let ended : over ≡ true = sym all.over_is ∙ was in
      record {
        none = ap (λ (k : StreamView S). k.held) same ∙ all.none ended;
        empty = ap (λ (k : StreamView S). k.rest) same ∙ all.empty ended;
        later = added (items s) bytes piece;
        parts = refl;
      };
}

-- for want of memory the piece hasn't come
pub all-passed : {S P : Type 0} (r : Reader S P Reason) → IsSteady r → (start : Position S) (old new : StreamView S) (bytes : List ℕ) (given : List (ℕ × P)) (over : Bool) →
    HasAll r start old bytes given over → new ≡ passed old → HasAll r start new bytes given over
all-passed {S = S} {P = P} r steady start old new bytes given over all is = subst (λ (k : StreamView S). HasAll r start k bytes given over) (sym is) (record {
  over_is = all.over_is;
  none = λ ended. all.empty ended;
  empty = all.empty;
  drained = λ going.
      let d = all.drained going in
      record { packets = d.packets; right = d.right; rest = d.rest; place = d.place; state = d.state };
  whole = λ going. refl;
  place = λ going. refl;
  fits = all.fits;
})

-- ---- the next item

-- an item was taken that came at this place
pub record TakenAt {S P I : Type 0} (s : SideStream S P Reason I) (new : StreamView S) (bytes piece : List ℕ) (given : List (ℕ × P)) (taken : List I) (place : ℕ) (item : ℕ → I) : Type 0 where
  pub at : ℕ
  pub place-is : place ≡ capped at
  pub stream : Taken s new bytes piece given (taken ++ item at ∷ [])

pub taken-packet : {S P I : Type 0} (s : SideStream S P Reason I) (takes : P → Bool) (old new : StreamView S) (bytes piece : List ℕ) (given : List (ℕ × P)) (taken : List I) (i : ℕ × P) →
    Taken s old bytes piece given taken → Changes (Ok (Some i)) old new → Nexts s.reader takes (Ok (Some i)) old new → TakenAt s new bytes piece given taken i.0 (λ at. s.packet at i.1)
taken-packet {S = S} {P = P} {I = I} s takes old new bytes piece given taken i t changes nexts =
    let g = t.going changes.1 in
    let n = nexts s.start (bytes ++ piece) (given ++ g.more) g.follows in
    let item : List (ℕ × P) = (n.at, i.1) ∷ [] in
    record {
      at = n.at;
      place-is = n.place-is;
      stream = record {
        going = λ runs. record {
          before = g.before;
          more = g.more ++ item;
          are = ap (λ (l : List I). l ++ s.packet n.at i.1 ∷ []) g.are ∙ sym (map-append (λ (j : ℕ × P). s.packet j.0 j.1) g.more item);
          follows = subst (λ (l : List (ℕ × P)). Follows s.reader s.start new (bytes ++ piece) l) (append_assoc given g.more item) n.follows;
        };
        cut = λ ends. absurd (true≢false (sym ends ∙ changes.2));
      };
    }

pub taken-wrong : {S P I : Type 0} (s : SideStream S P Reason I) (takes : P → Bool) (old new : StreamView S) (bytes piece : List ℕ) (given : List (ℕ × P)) (taken : List I) (place : ℕ) (why : Reason) →
    Taken s old bytes piece given taken → Changes {P = P} (Err (Refused place why)) old new → Nexts s.reader takes (Err (Refused place why)) old new → TakenAt s new bytes piece given taken place (λ at. s.wrong at why)
taken-wrong {S = S} {P = P} {I = I} s takes old new bytes piece given taken place why t changes nexts =
    let g = t.going changes.0 in
    let w = nexts s.start (bytes ++ piece) (given ++ g.more) g.follows in
    let item : List I = s.wrong w.at why ∷ [] in
    let x = split s.reader s.start (bytes ++ piece) in
    let more : x.packets ≡ (split s.reader s.start bytes).packets ++ g.more = w.packets ∙ ap (λ (l : List (ℕ × P)). l ++ g.more) (sym g.before.packets) in
    let parts : added (items s) bytes piece ≡ taken ++ item =
    added-wrong s bytes piece g.more w.at why g.before.right more w.wrong ∙ ap (λ (l : List I). l ++ item) (sym g.are) in
    record {
      at = w.at;
      place-is = w.place-is;
      stream = record {
        going = λ runs. absurd (true≢false (sym (ap (λ (k : StreamView S). k.over) changes.1) ∙ runs));
        cut = λ ends. record {
          none = ap (λ (k : StreamView S). k.held) changes.1;
          empty = ap (λ (k : StreamView S). k.rest) changes.1;
          later = [];
          parts = parts ∙ sym (append-nil (taken ++ item));
        };
      };
    }

-- a side is over with what was taken: the rest is left out
cut-going : {S P I : Type 0} (s : SideStream S P Reason I) (kept : StreamView S) (bytes piece : List ℕ) (given : List (ℕ × P)) (taken : List I) → Going s kept bytes piece given taken →
    Cut s (ended kept) bytes piece taken
cut-going {S = S} {P = P} {I = I} s kept bytes piece given taken g =
    let front = follows-front s.reader s.start kept (bytes ++ piece) (given ++ g.more) g.follows in
    let x = split s.reader s.start (bytes ++ piece) in
    let later : List I = packets s front.0 ++ wrongs s x.wrong in
    record {
      none = refl;
      empty = refl;
      later = later;
      parts = added-front s bytes piece g.more front.0 g.before.right (front.1 ∙ ap (λ (l : List (ℕ × P)). (l ++ g.more) ++ front.0) (sym g.before.packets))
          ∙ ap (λ (l : List I). l ++ later) (sym g.are);
    }

cut-by : {S P I : Type 0} (s : SideStream S P Reason I) (kept : StreamView S) (bytes piece : List ℕ) (given : List (ℕ × P)) (taken : List I) → Taken s kept bytes piece given taken →
    (over : Bool) → kept.over ≡ over → Cut s (ended kept) bytes piece taken
cut-by s kept bytes piece given taken t false going = cut-going s kept bytes piece given taken (t.going going)
cut-by s kept bytes piece given taken t true ended = let cut = t.cut ended in record { none = refl; empty = refl; later = cut.later; parts = cut.parts }

pub taken-ended : {S P I : Type 0} (s : SideStream S P Reason I) (kept : StreamView S) (bytes piece : List ℕ) (given : List (ℕ × P)) (taken : List I) → Taken s kept bytes piece given taken →
    (over : Bool) → Taken s (ended_if over kept) bytes piece given taken
taken-ended s kept bytes piece given taken t false = t
taken-ended s kept bytes piece given taken t true = record {
  going = λ runs. absurd (true≢false runs);
  cut = λ ends. cut-by s kept bytes piece given taken t kept.over refl;
}

-- ---- nothing more is there

pub record Drained-of {S P I : Type 0} (s : SideStream S P Reason I) (new : StreamView S) (bytes piece : List ℕ) (given : List (ℕ × P)) (taken : List I) : Type 0 where
  pub more : List (ℕ × P)
  pub are : taken ≡ packets s more
  pub parts : added (items s) bytes piece ≡ taken
  pub all : HasAll s.reader s.start new (bytes ++ piece) (given ++ more) false

pub taken-all : {S P I : Type 0} (s : SideStream S P Reason I) (takes : P → Bool) (old new : StreamView S) (bytes piece : List ℕ) (given : List (ℕ × P)) (taken : List I) →
    Taken s old bytes piece given taken → Changes {P = P} (Ok None) old new → Nexts s.reader takes (Ok None) old new → old.over ≡ false → Drained-of s new bytes piece given taken
taken-all {S = S} {P = P} {I = I} s takes old new bytes piece given taken t changes nexts runs =
    let g = t.going runs in
    let over : new.over ≡ false = ap (λ (k : StreamView S). k.over) changes ∙ runs in
    let d : Drained new (split s.reader s.start (bytes ++ piece)) (given ++ g.more) = nexts s.start (bytes ++ piece) (given ++ g.more) g.follows over in
    let more : (split s.reader s.start (bytes ++ piece)).packets ≡ (split s.reader s.start bytes).packets ++ g.more =
    d.packets ∙ ap (λ (l : List (ℕ × P)). l ++ g.more) (sym g.before.packets) in
    record {
      more = g.more;
      are = g.are;
      parts = added-right s bytes piece g.more g.before.right more d.right ∙ sym g.are;
      all = record {
        over_is = over;
        none = λ ends. absurd (true≢false (sym ends));
        empty = λ ends. absurd (true≢false (sym ends));
        drained = λ _. d;
        whole = λ _. ap (λ (k : StreamView S). k.held) changes ∙ sym (ap (λ (k : StreamView S). k.rest) changes);
        place = λ _. ap (λ (k : StreamView S). k.at) changes ∙ sym (ap (λ (k : StreamView S). k.place) changes);
        fits = g.follows.fits;
      };
    }

pub cut-passed : {S P I : Type 0} (s : SideStream S P Reason I) (old new : StreamView S) (bytes piece : List ℕ) (taken : List I) → new ≡ passed old → Cut s old bytes piece taken → Cut s new bytes piece taken
cut-passed {S = S} s old new bytes piece taken is cut = record {
  none = ap (λ (k : StreamView S). k.held) is ∙ cut.empty;
  empty = ap (λ (k : StreamView S). k.rest) is ∙ cut.empty;
  later = cut.later;
  parts = cut.parts;
}

-- ---- memory ran out at the next item

-- the item that the stream's answer is of
abbrev pub IsNextBy : {S P I : Type 0} → SideStream S P Reason I → (P → Bool) → Result (Option (ℕ × P)) ReadError → I → Type 0
IsNextBy s takes (Ok None) x = ⊥
IsNextBy s takes (Ok (Some i)) x = (at : ℕ) × (i.0 ≡ capped at) × (x ≡ s.packet at i.1)
IsNextBy s takes (Err (Refused place why)) x = (at : ℕ) × (place ≡ capped at) × (x ≡ s.wrong at why)
IsNextBy {P = P} s takes (Err (Memory memory)) x = (i : ℕ × P) × (x ≡ s.packet i.0 i.1) × (takes i.1 ≡ true)

-- the packet that comes behind those that were given
record Ahead {S P I : Type 0} (s : SideStream S P Reason I) (takes : P → Bool) (answer : Result (Option (ℕ × P)) ReadError) (stream : List ℕ) (given : List (ℕ × P)) : Type 0 where
  pub next : ℕ × P
  pub left : List (ℕ × P)
  pub packets : (split s.reader s.start stream).packets ≡ given ++ next ∷ left
  pub is : IsNextBy s takes answer (s.packet next.0 next.1)

pub record Stuck {S P I : Type 0} (s : SideStream S P Reason I) (takes : P → Bool) (answer : Result (Option (ℕ × P)) ReadError) (new : StreamView S) (bytes piece : List ℕ) (given : List (ℕ × P)) (taken : List I) : Type 0 where
  pub more : List (ℕ × P)
  pub are : taken ≡ packets s more
  -- the first of those that are left
  pub next : I
  pub behind : List I
  pub parts : added (items s) bytes piece ≡ taken ++ next ∷ behind
  pub next-is : IsNextBy s takes answer next
  pub left : IsLeftBy s.reader new (split s.reader s.start (bytes ++ piece)) (given ++ more) new.over
  pub none : new.over ≡ true → new.held ≡ []

-- the stream has more to give
abbrev pub IsMore : {P : Type 0} → Result (Option (ℕ × P)) ReadError → Type 0
IsMore (Ok None) = ⊥
IsMore (Ok (Some i)) = Unit {0}
IsMore (Err e) = Unit {0}

held-stuck : {S P I : Type 0} (s : SideStream S P Reason I) (takes : P → Bool) (answer : Result (Option (ℕ × P)) ReadError) (old new : StreamView S) (bytes piece : List ℕ) (given : List (ℕ × P)) (taken : List I) →
    Taken s old bytes piece given taken → old.over ≡ false → new.over ≡ false → new.held ≡ old.rest → new.at ≡ old.place →
    ((all : List (ℕ × P)) → Follows s.reader s.start old (bytes ++ piece) all → Ahead s takes answer (bytes ++ piece) all) → Stuck s takes answer new bytes piece given taken
held-stuck {S = S} {P = P} {I = I} s takes answer old new bytes piece given taken t was over held at ahead =
    let g = t.going was in
    let a = ahead (given ++ g.more) g.follows in
    let left : List (ℕ × P) = a.next ∷ a.left in
    let x = split s.reader s.start (bytes ++ piece) in
    let behind : List I = packets s a.left ++ wrongs s x.wrong in
    let item : I = s.packet a.next.0 a.next.1 in
    let holds = follows-holds s.reader s.start old new (bytes ++ piece) (given ++ g.more) g.follows was held at in
    record {
      more = g.more;
      are = g.are;
      next = item;
      behind = behind;
      parts = added-front s bytes piece g.more left g.before.right (a.packets ∙ ap (λ (l : List (ℕ × P)). (l ++ g.more) ++ left) (sym g.before.packets))
          ∙ ap (λ (l : List I). l ++ item ∷ behind) (sym g.are);
      next-is = a.is;
      left = subst (IsLeftBy s.reader new (split s.reader s.start (bytes ++ piece)) (given ++ g.more)) (sym over) holds;
      none = λ ends. absurd (true≢false (sym ends ∙ over));
    }

pub taken-stuck : {S P I : Type 0} (s : SideStream S P Reason I) (takes : P → Bool) (old new : StreamView S) (bytes piece : List ℕ) (given : List (ℕ × P)) (taken : List I) (answer : Result (Option (ℕ × P)) ReadError) → IsMore answer →
    Taken s old bytes piece given taken → Changes answer old new → Nexts s.reader takes answer old new → Stuck s takes answer new bytes piece given taken
taken-stuck s takes old new bytes piece given taken (Ok None) more t changes nexts = absurd more
taken-stuck {P = P} s takes old new bytes piece given taken (Ok (Some i)) more t changes nexts =
    held-stuck s takes (Ok (Some i)) old new bytes piece given taken t changes.1 changes.2 changes.3 changes.4
    (λ all follows.
    let n = nexts s.start (bytes ++ piece) all follows in
    let one : List (ℕ × P) = (n.at, i.1) ∷ [] in
    let front = follows-front s.reader s.start new (bytes ++ piece) (all ++ one) n.follows in
    record { next = (n.at, i.1); left = front.0; packets = front.1 ∙ append_assoc all one front.0; is = (n.at, n.place-is, refl) })
taken-stuck {S = S} s takes old new bytes piece given taken (Err (Memory memory)) more t changes nexts =
    held-stuck s takes (Err (Memory memory)) old new bytes piece given taken t changes.0 (ap (λ (k : StreamView S). k.over) changes.1 ∙ changes.0) (ap (λ (k : StreamView S). k.held) changes.1) (ap (λ (k : StreamView S). k.at) changes.1)
    (λ all follows.
    let w = nexts s.start (bytes ++ piece) all follows in
    record { next = w.next; left = w.left; packets = w.packets; is = (w.next, refl, w.takes-some) })
taken-stuck {S = S} {P = P} {I = I} s takes old new bytes piece given taken (Err (Refused place why)) more t changes nexts =
    let g = t.going changes.0 in
    let w = nexts s.start (bytes ++ piece) (given ++ g.more) g.follows in
    let x = split s.reader s.start (bytes ++ piece) in
    let closed : Closed x (given ++ g.more) = record { packets = w.packets; at = (w.at, why); wrong = w.wrong } in
    let over : new.over ≡ true = ap (λ (k : StreamView S). k.over) changes.1 in
    let item : I = s.wrong w.at why in
    let all : x.packets ≡ (split s.reader s.start bytes).packets ++ g.more = w.packets ∙ ap (λ (l : List (ℕ × P)). l ++ g.more) (sym g.before.packets) in
    record {
      more = g.more;
      are = g.are;
      next = item;
      behind = [];
      parts = added-wrong s bytes piece g.more w.at why g.before.right all w.wrong ∙ ap (λ (l : List I). l ++ item ∷ []) (sym g.are);
      next-is = (w.at, w.place-is, refl);
      left = subst (IsLeftBy s.reader new x (given ++ g.more)) (sym over) closed;
      none = λ _. ap (λ (k : StreamView S). k.held) changes.1;
    }
