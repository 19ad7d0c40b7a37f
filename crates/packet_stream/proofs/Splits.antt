-- The splitting of a stream: what the computation gives is one, and there is no other.
use Rattle.std.proofs.Common.{◌≡◌, ℕ, zero, suc, ◌+◌, ◌<◌, List, [], ◌∷◌, ◌++◌, length, drop, Option, Some, None, refl, sym, ap, subst, ◌∙◌, arith}
use Rattle.std.proofs.lemmas.List.{drop_at, take-append-drop, length-drop, length-take}
use Rattle.usb_base.specs.Number.{AreBytes}
use Rattle.packet_stream.specs.Format.{Format, IsWhole, IsShort, Found, Whole, Short, Wrong, StandsAtFront, reading, IsSound}
use Rattle.packet_stream.specs.Split.{Position, past, Splitting, Spells, Ends, IsSplitting, reads, with_packets, go_on, split, SplitsWell}
use Rattle.usb_base.proofs.Numbers.{AreBytes-drop, AreBytes-right}
use Rattle.packet_stream.proofs.Formats.{stands, read_whole, read_again, short_reading, wrong_parts, wrong_reading}
use Rattle.packet_stream.proofs.Laws.{reads_steady, split-is, split-more}

-- ---- the computation gives a splitting

splitting_step : {S P R : Type 0} (format : S → Format P R) (next : S → P → S) → ((s : S) → IsSound (format s)) → (n : ℕ) (a : Position S) (bytes : List ℕ) → AreBytes bytes → length bytes < n →
    (x : Found P R) → reading (format a.state) bytes ≡ x → IsSplitting format next a bytes (go_on (reads format next) a bytes (split (reads format next)) x)
splitting_step format next sound zero a bytes fits less x e = absurd (omega arith)
splitting_step {S = S} {P = P} {R = R} format next sound (suc n) a bytes fits less (Whole p k) e =
    let r = reads format next in
    let steady = reads_steady format next sound in
    let some = steady.some a.state bytes p k e in
    let there = steady.there a.state bytes p k e in
    let w : IsWhole (format a.state) bytes k p = read_whole (format a.state) (sound a.state) bytes k p fits e in
    let z : Position S = past next a p k in
    let rest = drop k bytes in
    let long : k ≡ length ((format a.state).spelling p) = omega (arith, ap length w.spelled, length-take k bytes) in
    let begins : bytes ≡ (format a.state).spelling p ++ rest = sym (take-append-drop k bytes) ∙ ap (λ (y : List ℕ). y ++ rest) w.spelled in
    let later : IsSplitting format next z rest (split r z rest) =
    subst (IsSplitting format next z rest) (sym (split-is r steady z rest (reading (format z.state) rest) refl))
    (splitting_step format next sound n z rest (AreBytes-drop k bytes fits) (omega (arith, length-drop k bytes)) (reading (format z.state) rest) refl) in
    let spelled : Spells format next (past next a p (length ((format a.state).spelling p))) rest (split r z rest).packets (split r z rest).position later.left =
    subst (λ (m : ℕ). Spells format next (past next a p m) rest (split r z rest).packets (split r z rest).position later.left) long later.spelled in
    record { left = later.left; spelled = (rest, refl, w.fits, begins, spelled); ends = later.ends }
splitting_step format next sound (suc n) a bytes fits less Short e =
    let short : IsShort (format a.state) bytes = subst (StandsAtFront (format a.state) bytes) e (stands (format a.state) (sound a.state) bytes fits) in
    record { left = bytes; spelled = (refl, refl); ends = (short, refl) }
splitting_step format next sound (suc n) a bytes fits less (Wrong at why) e =
    record { left = bytes; spelled = (refl, refl); ends = (at, wrong_parts (format a.state) bytes at why e, refl, refl) }

pub is_splitting : {S P R : Type 0} (format : S → Format P R) (next : S → P → S) → ((s : S) → IsSound (format s)) → (a : Position S) (stream : List ℕ) → AreBytes stream →
    IsSplitting format next a stream (split (reads format next) a stream)
is_splitting format next sound a stream fits =
    let r = reads format next in
    subst (IsSplitting format next a stream) (sym (split-is r (reads_steady format next sound) a stream (reading (format a.state) stream) refl))
    (splitting_step format next sound (suc (length stream)) a stream fits (omega arith) (reading (format a.state) stream) refl)

-- ---- there is no other

abbrev made : {S P R : Type 0} → List (ℕ × P) → Option (ℕ × R) → Position S → List ℕ → Splitting S P R
made is w z rest = record { packets = is; wrong = w; position = z; rest = rest }

last_is : {S P R : Type 0} (format : S → Format P R) (next : S → P → S) → ((s : S) → IsSound (format s)) → (a : Position S) (bytes : List ℕ) → AreBytes bytes →
    (w : Option (ℕ × R)) (rest : List ℕ) → Ends format a bytes w rest → made [] w a rest ≡ split (reads format next) a bytes
last_is {P = P} {R = R} format next sound a bytes fits None rest ends =
    let short = short_reading (format a.state) (sound a.state) bytes fits ends.0 in
    ap (λ (y : List ℕ). made {P = P} {R = R} [] None a y) ends.1 ∙ sym (split-is (reads format next) (reads_steady format next sound) a bytes Short short)
last_is {P = P} {R = R} format next sound a bytes fits (Some w) rest ends =
    let wrong = wrong_reading (format a.state) bytes (ends.0, w.1) ends.1 in
    let same : made {P = P} [] (Some w) a rest ≡ made [] (Some (a.place + ends.0, w.1)) a [] = λ t. made [] (Some (ends.2 t, w.1)) a (ends.3 t) in
    same ∙ sym (split-is (reads format next) (reads_steady format next sound) a bytes (Wrong ends.0 w.1) wrong)

one_by : {S P R : Type 0} (format : S → Format P R) (next : S → P → S) → ((s : S) → IsSound (format s)) → (a : Position S) (bytes : List ℕ) → AreBytes bytes →
    (is : List (ℕ × P)) (z : Position S) (left : List ℕ) (w : Option (ℕ × R)) (rest : List ℕ) →
    Spells format next a bytes is z left → Ends format z left w rest → made is w z rest ≡ split (reads format next) a bytes
one_by format next sound a bytes fits [] z left w rest spelled ends =
    rw (spelled.0) (last_is format next sound a bytes fits w rest (subst (λ (y : List ℕ). Ends format a y w rest) spelled.1 (subst (λ (y : Position _). Ends format y left w rest) spelled.0 ends)))
one_by {S = S} {P = P} {R = R} format next sound a bytes fits (i ∷ is) z left w rest spelled ends =
    let r = reads format next in
    let spelling = (format a.state).spelling i.1 in
    let more = spelled.0 in
    let after : Position S = past next a i.1 (length spelling) in
    let whole : reading (format a.state) bytes ≡ Whole i.1 (length spelling) =
    ap (reading (format a.state)) spelled.3 ∙ read_again (format a.state) (sound a.state) i.1 more spelled.2 in
    let cut : drop (length spelling) bytes ≡ more = ap (drop (length spelling)) spelled.3 ∙ drop_at spelling more (length spelling) refl in
    let fits' : AreBytes more = AreBytes-right spelling more (subst AreBytes spelled.3 fits) in
    let later : made is w z rest ≡ split r after more = one_by format next sound after more fits' is z left w rest spelled.4 ends in
    let front : made (i ∷ is) w z rest ≡ with_packets ((a.place, i.1) ∷ []) (made is w z rest) = λ t. made ((spelled.1 t, i.1) ∷ is) w z rest in
    front ∙ ap (with_packets ((a.place, i.1) ∷ [])) (later ∙ ap (split r after) (sym cut))
    ∙ sym (split-is r (reads_steady format next sound) a bytes (Whole i.1 (length spelling)) whole)

pub one_splitting : {S P R : Type 0} (format : S → Format P R) (next : S → P → S) → ((s : S) → IsSound (format s)) → (a : Position S) (stream : List ℕ) → AreBytes stream →
    (x : Splitting S P R) → IsSplitting format next a stream x → x ≡ split (reads format next) a stream
one_splitting format next sound a stream fits x h = one_by format next sound a stream fits x.packets x.position h.left x.wrong x.rest h.spelled h.ends

pub splits_well : {S P R : Type 0} (format : S → Format P R) (next : S → P → S) → ((s : S) → IsSound (format s)) → (start : Position S) → SplitsWell format next start
splits_well format next sound start = record {
  found = λ stream fits. is_splitting format next sound start stream fits;
  only = λ stream x fits h. one_splitting format next sound start stream fits x h;
  more = λ stream more fits. split-more (reads format next) (reads_steady format next sound) start stream more fits;
}
