-- A stream follows the splitting of its bytes: what its first moment, a piece and an answer of `next` make of that.
use Rattle.std.proofs.Common.{◌≡◌, ℕ, zero, suc, ◌<◌, ◌≤◌, ◌+◌, Bool, true, false, List, [], ◌∷◌, ◌++◌, length, drop, Option, Some, None, Result, refl, sym, ap, subst, ◌∙◌, append_assoc, arith}
use Rattle.std.proofs.lemmas.List.{append-nil, length-drop}
use Rattle.usb_base.specs.Number.{AreBytes}
use Rattle.packet_stream.specs.Format.{Found, Whole, Short, Wrong}
use Rattle.packet_stream.specs.Split.{Reader, Position, past, Splitting, split, with_packets, further, further_by, go_on}
use Rattle.usb_base.proofs.Numbers.{AreBytes-append, AreBytes-drop}
use Rattle.packet_stream.proofs.Laws.{IsSteady, split-is, split-more, further-with}
use Rattle.usb_base.specs.declared.reason.Reason.{Reason}
use Rattle.packet_stream.specs.declared.read.ReadError.{ReadError}
use Rattle.packet_stream.specs.Reads.{WantsMemory}
use Rattle.packet_stream.specs.Streams.{capped, StreamView, passed, Left, FollowsBy, Follows, Drained, Wrongs, GivesNext, WantsNext, Holds, Changes, after_piece, after_piece_by}

with_packets-twice : {S P R : Type 0} (front more : List (ℕ × P)) (y : Splitting S P R) → with_packets front (with_packets more y) ≡ with_packets (front ++ more) y
with_packets-twice {P = P} front more y = ap (λ (l : List (ℕ × P)). record y { packets = l }) (sym (append_assoc front more y.packets))

no_bytes : AreBytes []
no_bytes i = omega arith

pub follows-new : {S P R : Type 0} (r : Reader S P R) (s : S) (kept : StreamView S) → kept ≡ record { state = s; rest = []; place = 0; held = []; at = 0; over = false } → Follows r (record { state = s; place = 0 }) kept [] []
follows-new {S = S} r s kept e =
    subst (λ (k : StreamView S). Follows r (record { state = s; place = 0 }) k [] []) (sym e)
    (record { fits = no_bytes; follows = record { at = record { state = s; place = 0 }; parts = refl; place = refl; state = refl; fits = no_bytes } })

put_by : {S P R : Type 0} (r : Reader S P R) → IsSteady r → (start : Position S) (kept : StreamView S) (bytes piece : List ℕ) (given : List (ℕ × P)) (over : Bool) → AreBytes bytes → AreBytes piece →
    FollowsBy r kept (split r start bytes) given over → FollowsBy r (after_piece_by kept piece over) (split r start (bytes ++ piece)) given over
put_by {S = S} {P = P} {R = R} r steady start kept bytes piece given false fits more left = record {
  at = left.at;
  parts = split-more r steady start bytes piece fits
      ∙ ap (λ (y : Splitting S P R). further r y piece) left.parts
      ∙ further-with r given (split r left.at kept.rest) piece (split r left.at kept.rest).wrong
      ∙ ap (with_packets given) (sym (split-more r steady left.at kept.rest piece left.fits));
  place = left.place;
  state = left.state;
  fits = AreBytes-append kept.rest piece left.fits more;
}
put_by {S = S} {P = P} {R = R} r steady start kept bytes piece given true fits more closed =
    let x = split r start bytes in
    let same : split r start (bytes ++ piece) ≡ x = split-more r steady start bytes piece fits ∙ ap (further_by r x piece) closed.wrong in
    record {
      packets = ap (λ (y : Splitting S P R). y.packets) same ∙ closed.packets;
      at = closed.at;
      wrong = ap (λ (y : Splitting S P R). y.wrong) same ∙ closed.wrong;
    }

pub over_after : {S : Type 0} (kept : StreamView S) (piece : List ℕ) (over : Bool) → kept.over ≡ over → (after_piece_by kept piece over).over ≡ over
over_after kept piece true e = e
over_after kept piece false e = e

pub follows-put : {S P R : Type 0} (r : Reader S P R) → IsSteady r → (start : Position S) (old new : StreamView S) (bytes piece : List ℕ) (given : List (ℕ × P)) → AreBytes piece →
    new ≡ after_piece old piece → Follows r start old bytes given → Follows r start new (bytes ++ piece) given
follows-put {S = S} r steady start old new bytes piece given more e f =
    subst (λ (k : StreamView S). Follows r start k (bytes ++ piece) given) (sym e) (record {
      fits = AreBytes-append bytes piece f.fits more;
      follows = subst (FollowsBy r (after_piece old piece) (split r start (bytes ++ piece)) given) (sym (over_after old piece old.over refl))
          (put_by r steady start old bytes piece given old.over f.fits more f.follows);
    })

pub after-going : {S : Type 0} (kept old new : StreamView S) (piece : List ℕ) → kept ≡ old → kept.over ≡ false → new ≡ passed (record kept { rest = kept.rest ++ piece }) → new ≡ after_piece old piece
after-going {S = S} kept old new piece view e f = f ∙ sym (ap (after_piece_by kept piece) e) ∙ ap (λ (k : StreamView S). after_piece k piece) view

pub after-over : {S : Type 0} (kept old : StreamView S) (piece : List ℕ) → kept ≡ old → kept.over ≡ true → old ≡ after_piece old piece
after-over {S = S} kept old piece view e = sym view ∙ sym (ap (after_piece_by kept piece) e) ∙ ap (λ (k : StreamView S). after_piece k piece) view

-- ---- what `next` answers

-- behind a packet there is less
pub shorter : (n : ℕ) (bytes : List ℕ) → 0 < n → n ≤ length bytes → length (drop n bytes) < length bytes
shorter n bytes some there = omega (arith, length-drop n bytes, some, there)

going : {S P R : Type 0} (r : Reader S P R) (kept : StreamView S) (x : Splitting S P R) (given : List (ℕ × P)) (over : Bool) → over ≡ false → FollowsBy r kept x given over → Left r kept x given
going r kept x given false e f = f
going r kept x given true e f = absurd cc

found_at : {S P R : Type 0} (r : Reader S P R) (kept : StreamView S) (at : Position S) (found : Found P R) → kept.state ≡ at.state → r.read kept.state kept.rest ≡ found → r.read at.state kept.rest ≡ found
found_at {S = S} r kept at found e h = ap (λ (s : S). r.read s kept.rest) (sym e) ∙ h

pub capped-past : (place a n new : ℕ) → place ≡ capped a → new ≡ capped (place + n) → new ≡ capped (a + n)
capped-past place a n new e f = omega (arith, e, f)

pub follows-whole : {S P R : Type 0} (r : Reader S P R) → IsSteady r → (start : Position S) (kept old new : StreamView S) (bytes : List ℕ) (given : List (ℕ × P)) (p : P) (n told : ℕ) → kept ≡ old →
    kept.over ≡ false → r.read kept.state kept.rest ≡ Whole p n → new ≡ record { state = r.next kept.state p; rest = drop n kept.rest; place = capped (kept.place + n); held = kept.rest; at = kept.place; over = false } →
    told ≡ kept.place → Follows r start old bytes given → GivesNext r start new bytes given told p
follows-whole {S = S} {P = P} {R = R} r steady start kept old new bytes given p n told view runs h e is g =
    let f : Follows r start kept bytes given = subst (λ (k : StreamView S). Follows r start k bytes given) (sym view) g in
    let left = going r kept (split r start bytes) given kept.over runs f.follows in
    let item : List (ℕ × P) = (left.at.place, p) ∷ [] in
    let z = past r.next left.at p n in
    subst (λ (k : StreamView S). GivesNext r start k bytes given told p) (sym e) (record {
      at = left.at.place;
      place-is = is ∙ left.place;
      follows = record {
        fits = f.fits;
        follows = record {
          at = z;
          parts = left.parts ∙ ap (with_packets given) (split-is r steady left.at kept.rest (Whole p n) (found_at r kept left.at (Whole p n) left.state h))
              ∙ with_packets-twice given item (split r z (drop n kept.rest));
          place = capped-past kept.place left.at.place n (capped (kept.place + n)) left.place refl;
          state = ap (λ (s : S). r.next s p) left.state;
          fits = AreBytes-drop n kept.rest left.fits;
        };
      };
    })

pub follows-short : {S P R : Type 0} (r : Reader S P R) → IsSteady r → (start : Position S) (kept old new : StreamView S) (bytes : List ℕ) (given : List (ℕ × P)) → kept ≡ old →
    kept.over ≡ false → r.read kept.state kept.rest ≡ Short → new ≡ passed kept → Follows r start old bytes given → Drained new (split r start bytes) given
follows-short {S = S} {P = P} {R = R} r steady start kept old new bytes given view runs h e g =
    let f : Follows r start kept bytes given = subst (λ (k : StreamView S). Follows r start k bytes given) (sym view) g in
    let left = going r kept (split r start bytes) given kept.over runs f.follows in
    let y : Splitting S P R = record { packets = []; wrong = None; position = left.at; rest = kept.rest } in
    let is : split r start bytes ≡ with_packets given y = left.parts ∙ ap (with_packets given) (split-is r steady left.at kept.rest Short (found_at r kept left.at Short left.state h)) in
    subst (λ (k : StreamView S). Drained k (split r start bytes) given) (sym e) (subst (λ (x : Splitting S P R). Drained (passed kept) x given) (sym is) (record { packets = append-nil given; right = refl; rest = refl; place = left.place; state = left.state }))

-- memory is wanting for the next packet alone
pub follows-wants : {S P : Type 0} (r : Reader S P Reason) → IsSteady r → (takes : P → Bool) (start : Position S) (kept old : StreamView S) (bytes : List ℕ) (given : List (ℕ × P)) (found : Found P Reason) → kept ≡ old →
    kept.over ≡ false → r.read kept.state kept.rest ≡ found → WantsMemory takes found → Follows r start old bytes given → WantsNext takes (split r start bytes) given
follows-wants {S = S} {P = P} r steady takes start kept old bytes given (Whole p n) view runs h wants g =
    let f : Follows r start kept bytes given = subst (λ (k : StreamView S). Follows r start k bytes given) (sym view) g in
    let left = going r kept (split r start bytes) given kept.over runs f.follows in
    let later = split r (past r.next left.at p n) (drop n kept.rest) in
    record {
      next = (left.at.place, p);
      left = later.packets;
      packets = ap (λ (x : Splitting S P Reason). x.packets) (left.parts ∙ ap (with_packets given) (split-is r steady left.at kept.rest (Whole p n) (found_at r kept left.at (Whole p n) left.state h)));
      takes-some = wants;
    }
follows-wants r steady takes start kept old bytes given Short view runs h wants g = absurd wants
follows-wants r steady takes start kept old bytes given (Wrong place why) view runs h wants g = absurd wants

-- what is held is split into what is left
pub follows-holds : {S P R : Type 0} (r : Reader S P R) (start : Position S) (kept new : StreamView S) (bytes : List ℕ) (given : List (ℕ × P)) → Follows r start kept bytes given → kept.over ≡ false →
    new.held ≡ kept.rest → new.at ≡ kept.place → Holds r new (split r start bytes) given
follows-holds r start kept new bytes given f runs held at =
    let left = going r kept (split r start bytes) given kept.over runs f.follows in
    record {
      position = left.at;
      parts = left.parts ∙ ap (λ (b : List ℕ). with_packets given (split r left.at b)) (sym held);
      place = at ∙ left.place;
    }

pub follows-wrong : {S P R : Type 0} (r : Reader S P R) → IsSteady r → (start : Position S) (kept old : StreamView S) (bytes : List ℕ) (given : List (ℕ × P)) (place told : ℕ) (why : R) → kept ≡ old →
    kept.over ≡ false → r.read kept.state kept.rest ≡ Wrong place why → told ≡ capped (kept.place + place) → Follows r start old bytes given → Wrongs told why (split r start bytes) given
follows-wrong {S = S} {P = P} {R = R} r steady start kept old bytes given place told why view runs h e g =
    let f : Follows r start kept bytes given = subst (λ (k : StreamView S). Follows r start k bytes given) (sym view) g in
    let left = going r kept (split r start bytes) given kept.over runs f.follows in
    let y : Splitting S P R = record { packets = []; wrong = Some (left.at.place + place, why); position = left.at; rest = [] } in
    let is : split r start bytes ≡ with_packets given y = left.parts ∙ ap (with_packets given) (split-is r steady left.at kept.rest (Wrong place why) (found_at r kept left.at (Wrong place why) left.state h)) in
    subst (λ (x : Splitting S P R). Wrongs told why x given) (sym is)
    (record { packets = append-nil given; at = left.at.place + place; wrong = refl; place-is = capped-past kept.place left.at.place place told left.place e })

-- ---- what was given is a front

front_by : {S P R : Type 0} (r : Reader S P R) (kept : StreamView S) (x : Splitting S P R) (given : List (ℕ × P)) (over : Bool) → FollowsBy r kept x given over → (left : List (ℕ × P)) × (x.packets ≡ given ++ left)
front_by {S = S} {P = P} {R = R} r kept x given false f = ((split r f.at kept.rest).packets, ap (λ (y : Splitting S P R). y.packets) f.parts)
front_by r kept x given true f = ([], f.packets ∙ sym (append-nil given))

-- what was given is a front of the splitting's packets
pub follows-front : {S P R : Type 0} (r : Reader S P R) (start : Position S) (kept : StreamView S) (bytes : List ℕ) (given : List (ℕ × P)) → Follows r start kept bytes given →
    (left : List (ℕ × P)) × ((split r start bytes).packets ≡ given ++ left)
follows-front r start kept bytes given f = front_by r kept (split r start bytes) given kept.over f.follows

-- ---- from a stream that is drained

rest_bytes_by : {S P R : Type 0} (r : Reader S P R) → IsSteady r → (n : ℕ) (a : Position S) (bytes : List ℕ) → AreBytes bytes → length bytes < n → (x : Found P R) → r.read a.state bytes ≡ x → AreBytes (go_on r a bytes (split r) x).rest
rest_bytes_by r steady zero a bytes fits less x e = absurd (omega arith)
rest_bytes_by {S = S} {P = P} {R = R} r steady (suc n) a bytes fits less (Whole p k) e =
    let some = steady.some a.state bytes p k e in
    let there = steady.there a.state bytes p k e in
    let z = past r.next a p k in
    let rest = drop k bytes in
    subst (λ (y : Splitting S P R). AreBytes y.rest) (sym (split-is r steady z rest (r.read z.state rest) refl))
    (rest_bytes_by r steady n z rest (AreBytes-drop k bytes fits) (omega (arith, length-drop k bytes)) (r.read z.state rest) refl)
rest_bytes_by r steady (suc n) a bytes fits less Short e = fits
rest_bytes_by r steady (suc n) a bytes fits less (Wrong at why) e = no_bytes

pub rest_bytes : {S P R : Type 0} (r : Reader S P R) → IsSteady r → (a : Position S) (bytes : List ℕ) → AreBytes bytes → AreBytes (split r a bytes).rest
rest_bytes {S = S} {P = P} {R = R} r steady a bytes fits =
    subst (λ (y : Splitting S P R). AreBytes y.rest) (sym (split-is r steady a bytes (r.read a.state bytes) refl))
    (rest_bytes_by r steady (suc (length bytes)) a bytes fits (omega arith) (r.read a.state bytes) refl)

-- what is kept of a stream that is drained is all that has to be known of it
pub drained-follows : {S P R : Type 0} (r : Reader S P R) → IsSteady r → (start : Position S) (kept : StreamView S) (bytes : List ℕ) (given : List (ℕ × P)) → AreBytes bytes → kept.over ≡ false →
    Drained kept (split r start bytes) given → Follows r start kept bytes given
drained-follows {S = S} {P = P} {R = R} r steady start kept bytes given fits going d =
    let x = split r start bytes in
    let left : Left r kept x given = record {
      at = x.position;
      parts = ap (split r start) (sym (append-nil bytes)) ∙ split-more r steady start bytes [] fits ∙ ap (further_by r x []) d.right
          ∙ ap (λ (b : List ℕ). with_packets x.packets (split r x.position b)) (append-nil x.rest ∙ sym d.rest)
          ∙ ap (λ (g : List (ℕ × P)). with_packets g (split r x.position kept.rest)) d.packets;
      place = d.place;
      state = d.state;
      fits = subst AreBytes (sym d.rest) (rest_bytes r steady start bytes fits);
    } in
    record { fits = fits; follows = subst (FollowsBy r kept x given) (sym going) left }

pub changed_to : {S P : Type 0} (old new : StreamView S) (result answer : Result (Option (ℕ × P)) ReadError) → Changes result old new → result ≡ answer → Changes answer old new
changed_to {P = P} old new result answer c is = subst (λ (x : Result (Option (ℕ × P)) ReadError). Changes x old new) is c
