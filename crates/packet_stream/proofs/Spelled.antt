-- A stream that begins with the spellings of packets: it is read as these packets, whatever comes after them, and a cut
-- of it as a front of them. Nothing is asked of the bytes that haven't come.
use Rattle.std.proofs.Common.{◌≡◌, ℕ, Bool, cond, List, [], ◌∷◌, ◌++◌, length, map, None, refl, sym, ap, ◌∙◌, append-nil, append_assoc}
use Rattle.std.proofs.lemmas.List.{drop_at}
use Rattle.std.proofs.lemmas.Bool.{lt-ltb}
use Rattle.usb_base.specs.Number.{AreBytes}
use Rattle.packet_stream.specs.Format.{Format, IsSound, Found, Whole, Short, reading, reading_by, wrong_at}
use Rattle.packet_stream.specs.Split.{Position, past, Splitting, reads, with_packets, split, SplitsWell}
use Rattle.packet_stream.proofs.Formats.{read_again}
use Rattle.packet_stream.proofs.Fronts.{IsFront, front-of}
use Rattle.packet_stream.proofs.Laws.{reads_steady, split-is}
use Rattle.packet_stream.proofs.Splits.{splits_well}

-- ---- packets one after another

-- each is spelled as those before it decide
abbrev pub all_bytes : {S P R : Type 0} → (S → Format P R) → (S → P → S) → S → List P → List ℕ
all_bytes format next s [] = []
all_bytes format next s (p ∷ ps) = (format s).spelling p ++ all_bytes format next (next s p) ps

abbrev pub AllFit : {S P R : Type 0} → (S → Format P R) → (S → P → S) → S → List P → Type 0
AllFit format next s [] = Unit {0}
AllFit format next s (p ∷ ps) = (format s).Fits p × AllFit format next (next s p) ps

-- each with the place at which its spelling begins
abbrev pub placed : {S P R : Type 0} → (S → Format P R) → (S → P → S) → Position S → List P → List (ℕ × P)
placed format next a [] = []
placed format next a (p ∷ ps) = (a.place, p) ∷ placed format next (past next a p (length ((format a.state).spelling p))) ps

abbrev pub behind : {S P R : Type 0} → (S → Format P R) → (S → P → S) → Position S → List P → Position S
behind format next a [] = a
behind format next a (p ∷ ps) = behind format next (past next a p (length ((format a.state).spelling p))) ps

-- the packets themselves, whatever their places
pub placed-are : {S P R A : Type 0} (format : S → Format P R) (next : S → P → S) (f : P → A) (a : Position S) (ps : List P) → map (λ (i : ℕ × P). f i.1) (placed format next a ps) ≡ map f ps
placed-are format next f a [] = refl
placed-are {A = A} format next f a (p ∷ ps) = ap (λ (l : List A). f p ∷ l) (placed-are format next f (past next a p (length ((format a.state).spelling p))) ps)

-- ---- they are read again

-- no packet has no bytes
nothing-read : {P R : Type 0} (f : Format P R) → IsSound f → wrong_at f.checks [] ≡ None → reading f [] ≡ Short
nothing-read {P = P} {R = R} f sound right =
    let whole : Found P R = Whole (f.packet []) (f.size []) in
    ap (reading_by f []) right ∙ ap (λ (b : Bool). cond b Short whole) (lt-ltb 0 (f.size []) (sound.some []))

-- whatever comes after them
pub reads-on : {S P R : Type 0} (format : S → Format P R) (next : S → P → S) → ((s : S) → IsSound (format s)) → (ps : List P) (a : Position S) (more : List ℕ) → AllFit format next a.state ps →
    split (reads format next) a (all_bytes format next a.state ps ++ more) ≡ with_packets (placed format next a ps) (split (reads format next) (behind format next a ps) more)
reads-on format next sound [] a more fits = refl
reads-on {S = S} {P = P} {R = R} format next sound (p ∷ ps) a more fits =
    let r = reads format next in
    let word = (format a.state).spelling p in
    let z : Position S = past next a p (length word) in
    let later = all_bytes format next z.state ps in
    let again : reading (format a.state) (word ++ (later ++ more)) ≡ Whole p (length word) = read_again (format a.state) (sound a.state) p (later ++ more) fits.0 in
    ap (split r a) (append_assoc word later more)
    ∙ split-is r (reads_steady format next sound) a (word ++ (later ++ more)) (Whole p (length word)) again
    ∙ ap (λ (b : List ℕ). with_packets ((a.place, p) ∷ []) (split r z b)) (drop_at word (later ++ more) (length word) refl)
    ∙ ap (with_packets ((a.place, p) ∷ [])) (reads-on format next sound ps z more fits.1)

-- a stream that is just their spellings has just these packets, and nothing in it is wrong
pub reads-all : {S P R : Type 0} (format : S → Format P R) (next : S → P → S) → ((s : S) → IsSound (format s)) → ((s : S) → wrong_at (format s).checks [] ≡ None) → (ps : List P) (a : Position S) → AllFit format next a.state ps →
    split (reads format next) a (all_bytes format next a.state ps) ≡ record { packets = placed format next a ps; wrong = None; position = behind format next a ps; rest = [] }
reads-all {S = S} {P = P} {R = R} format next sound empty ps a fits =
    let r = reads format next in
    let z : Position S = behind format next a ps in
    let end : split r z [] ≡ record { packets = []; wrong = None; position = z; rest = [] } = split-is r (reads_steady format next sound) z [] Short (nothing-read (format z.state) (sound z.state) (empty z.state)) in
    ap (split r a) (sym (append-nil (all_bytes format next a.state ps)))
    ∙ reads-on format next sound ps a [] fits
    ∙ ap (with_packets (placed format next a ps)) end
    ∙ ap (λ (l : List (ℕ × P)). record { packets = l; wrong = None; position = z; rest = [] }) (append-nil (placed format next a ps))

-- ---- cuts of such a stream

-- of all packets: those of what has come, those that a piece more makes whole, and the others
pub record IsCut {S P R : Type 0} (old new : Splitting S P R) (all : List (ℕ × P)) : Type 0 where
  pub fresh : List (ℕ × P)
  pub later : List (ℕ × P)
  pub old-right : old.wrong ≡ None
  pub right : new.wrong ≡ None
  pub packets-are : new.packets ≡ old.packets ++ fresh
  pub all-are : all ≡ old.packets ++ (fresh ++ later)

pub cut-at : {S P R : Type 0} (format : S → Format P R) (next : S → P → S) → ((s : S) → IsSound (format s)) → ((s : S) → wrong_at (format s).checks [] ≡ None) → (ps : List P) (a : Position S) → AllFit format next a.state ps →
    (had piece rest : List ℕ) → AreBytes had → AreBytes (had ++ piece) → (had ++ piece) ++ rest ≡ all_bytes format next a.state ps →
    IsCut (split (reads format next) a had) (split (reads format next) a (had ++ piece)) (placed format next a ps)
cut-at {S = S} {P = P} {R = R} format next sound empty ps a fits had piece rest h k whole =
    let r = reads format next in
    let laws : SplitsWell format next a = splits_well format next sound a in
    let all : split r a ((had ++ piece) ++ rest) ≡ record { packets = placed format next a ps; wrong = None; position = behind format next a ps; rest = [] } = ap (split r a) whole ∙ reads-all format next sound empty ps a fits in
    let outer : IsFront (split r a (had ++ piece)) (split r a ((had ++ piece) ++ rest)) = front-of format next a laws (had ++ piece) rest k (ap (λ (x : Splitting S P R). x.wrong) all) in
    let inner : IsFront (split r a had) (split r a (had ++ piece)) = front-of format next a laws had piece h outer.right in
    record {
      fresh = inner.later;
      later = outer.later;
      old-right = inner.right;
      right = outer.right;
      packets-are = inner.packets-are;
      all-are = sym (ap (λ (x : Splitting S P R). x.packets) all) ∙ outer.packets-are ∙ ap (λ (l : List (ℕ × P)). l ++ outer.later) inner.packets-are ∙ append_assoc (split r a had).packets inner.later outer.later;
    }
