-- What the packets that were taken of a stream, and its wrong place, are among the items of a history.
use Rattle.std.proofs.Common.{◌≡◌, ℕ, List, [], ◌∷◌, ◌++◌, length, map, drop, Option, Some, None, refl, sym, ap, ◌∙◌, append_assoc}
use Rattle.std.specs.Prelude.{option_to_list}
use Rattle.std.proofs.lemmas.List.{append-nil, map-append, drop_at}
use Rattle.packet_stream.specs.Split.{Reader, Position, Splitting, split}
use Rattle.packet_stream.specs.Items.{items_of, added, onto}

abbrev pub wrong_items : {R I : Type 0} → (ℕ → R → I) → Option (ℕ × R) → List I
wrong_items wrong o = map (λ w. wrong w.0 w.1) (option_to_list o)

-- a side's stream: how it is read, and what its packets and its wrong place are among the items
pub record SideStream (S P R I : Type 0) : Type 0 where
  pub reader : Reader S P R
  pub start : Position S
  pub packet : ℕ → P → I
  pub wrong : ℕ → R → I

abbrev pub packets : {S P R I : Type 0} → SideStream S P R I → List (ℕ × P) → List I
packets s found = map (λ i. s.packet i.0 i.1) found

abbrev pub wrongs : {S P R I : Type 0} → SideStream S P R I → Option (ℕ × R) → List I
wrongs s w = wrong_items s.wrong w

abbrev pub items : {S P R I : Type 0} → SideStream S P R I → List ℕ → List I
items s stream = items_of s.packet s.wrong (split s.reader s.start stream)

pub onto-append : {I : Type 0} (xs ys zs : List I) → onto (xs ++ ys) zs ≡ onto ys (onto xs zs)
onto-append [] ys zs = refl
onto-append (x ∷ xs) ys zs = onto-append xs ys (x ∷ zs)

-- the items that a piece adds are those of the packets behind the ones that there were
pub added-more : {S P R I : Type 0} (s : SideStream S P R I) (bytes piece : List ℕ) (more : List (ℕ × P)) → (split s.reader s.start bytes).wrong ≡ None →
    (split s.reader s.start (bytes ++ piece)).packets ≡ (split s.reader s.start bytes).packets ++ more →
    added (items s) bytes piece ≡ packets s more ++ wrongs s (split s.reader s.start (bytes ++ piece)).wrong
added-more {P = P} {R = R} {I = I} s bytes piece more right e =
    let x = split s.reader s.start bytes in
    let y = split s.reader s.start (bytes ++ piece) in
    let first : items s bytes ≡ packets s x.packets = ap (λ (w : Option (ℕ × R)). packets s x.packets ++ wrongs s w) right ∙ append-nil (packets s x.packets) in
    let second : items s (bytes ++ piece) ≡ packets s x.packets ++ (packets s more ++ wrongs s y.wrong) =
    ap (λ (l : List (ℕ × P)). packets s l ++ wrongs s y.wrong) e
    ∙ ap (λ (l : List I). l ++ wrongs s y.wrong) (map-append (λ (i : ℕ × P). s.packet i.0 i.1) x.packets more)
    ∙ append_assoc (packets s x.packets) (packets s more) (wrongs s y.wrong) in
    ap (λ (l : List I). drop (length l) (items s (bytes ++ piece))) first
    ∙ ap (drop (length (packets s x.packets))) second
    ∙ drop_at (packets s x.packets) (packets s more ++ wrongs s y.wrong) (length (packets s x.packets)) refl

-- it has none where the stream is split as before
pub added-none : {S P R I : Type 0} (s : SideStream S P R I) (bytes piece : List ℕ) → split s.reader s.start (bytes ++ piece) ≡ split s.reader s.start bytes → added (items s) bytes piece ≡ []
added-none {S = S} {P = P} {R = R} s bytes piece same =
    let xs = items s bytes in
    ap (λ (x : Splitting S P R). drop (length xs) (items_of s.packet s.wrong x)) same ∙ ap (drop (length xs)) (sym (append-nil xs)) ∙ drop_at xs [] (length xs) refl

-- nothing is wrong
pub added-right : {S P R I : Type 0} (s : SideStream S P R I) (bytes piece : List ℕ) (more : List (ℕ × P)) → (split s.reader s.start bytes).wrong ≡ None →
    (split s.reader s.start (bytes ++ piece)).packets ≡ (split s.reader s.start bytes).packets ++ more → (split s.reader s.start (bytes ++ piece)).wrong ≡ None →
    added (items s) bytes piece ≡ packets s more
added-right {R = R} s bytes piece more right e none =
    added-more s bytes piece more right e ∙ ap (λ (w : Option (ℕ × R)). packets s more ++ wrongs s w) none ∙ append-nil (packets s more)

-- something is wrong
pub added-wrong : {S P R I : Type 0} (s : SideStream S P R I) (bytes piece : List ℕ) (more : List (ℕ × P)) (at : ℕ) (why : R) → (split s.reader s.start bytes).wrong ≡ None →
    (split s.reader s.start (bytes ++ piece)).packets ≡ (split s.reader s.start bytes).packets ++ more → (split s.reader s.start (bytes ++ piece)).wrong ≡ Some (at, why) →
    added (items s) bytes piece ≡ packets s more ++ s.wrong at why ∷ []
added-wrong {R = R} s bytes piece more at why right e wrong = added-more s bytes piece more right e ∙ ap (λ (w : Option (ℕ × R)). packets s more ++ wrongs s w) wrong

-- memory ran out: some were taken, and some were left
pub added-front : {S P R I : Type 0} (s : SideStream S P R I) (bytes piece : List ℕ) (more left : List (ℕ × P)) → (split s.reader s.start bytes).wrong ≡ None →
    (split s.reader s.start (bytes ++ piece)).packets ≡ ((split s.reader s.start bytes).packets ++ more) ++ left →
    added (items s) bytes piece ≡ packets s more ++ (packets s left ++ wrongs s (split s.reader s.start (bytes ++ piece)).wrong)
added-front {P = P} {I = I} s bytes piece more left right e =
    let wrong = wrongs s (split s.reader s.start (bytes ++ piece)).wrong in
    added-more s bytes piece (more ++ left) right (e ∙ append_assoc (split s.reader s.start bytes).packets more left)
    ∙ ap (λ (l : List I). l ++ wrong) (map-append (λ (i : ℕ × P). s.packet i.0 i.1) more left)
    ∙ append_assoc (packets s more) (packets s left) wrong
