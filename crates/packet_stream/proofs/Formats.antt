-- Of any format: a sound one answers as the bytes do, and later bytes change neither what is whole nor what is wrong.
use Rattle.std.proofs.Common.{◌≡◌, ℕ, ◌<◌, ◌≤◌, Bool, true, false, cond, List, [], ◌∷◌, ◌++◌, length, take, drop, Option, Some, None, refl, sym, ap, subst, ◌∙◌, append_assoc, arith}
use Rattle.std.specs.Prelude.{nat_le, nat_lt, not, ◌&&◌}
use Rattle.std.proofs.lemmas.Bool.{ltb-true, ltb-false, le-ltb, leb-true, leb-false, le-leb}
use Rattle.std.proofs.lemmas.List.{take-append-drop, take_at, length-append, length-take}
use Rattle.usb_base.specs.Number.{AreBytes}
use Rattle.packet_stream.specs.Format.{Check, fails, wrong_at, Format, IsWhole, IsShort, Found, Whole, Short, Wrong, StandsAtFront, reading_by, reading, StaysWrong, IsSound}

-- ---- checks that stay as they are

-- whether a check is tried, and whether it passes, is seen in the bytes that it needs
abbrev pub IsSeen : {R : Type 0} → Check R → Type 0
IsSeen c = (bytes more : List ℕ) → c.needed ≤ length bytes → (c.tried (bytes ++ more) ≡ c.tried bytes) × (c.passes (bytes ++ more) ≡ c.passes bytes)

-- each check sees only the bytes that it needs, and needs as many as those before it
abbrev pub AreSteady : {R : Type 0} → ℕ → List (Check R) → Type 0
AreSteady n [] = Unit {0}
AreSteady n (c ∷ cs) = (n ≤ c.needed) × IsSeen c × AreSteady c.needed cs

-- ---- one check and those after it

-- where it is tried and its bytes are there, it passes
abbrev pub Passes : {R : Type 0} → Check R → List ℕ → Type 0
Passes c b = c.tried b ≡ true → c.needed ≤ length b → c.passes b ≡ true

none_cases : {W : Type 0} (x : W) (u t p : Bool) (now : Option W) → cond (u && (t && not p)) (Some x) now ≡ None → (now ≡ None) × (u ≡ true → t ≡ true → p ≡ true)
none_cases x false t p now e = (e, λ h k. absurd cc)
none_cases x true false p now e = (e, λ h k. absurd cc)
none_cases x true true true now e = (e, λ h k. refl)
none_cases x true true false now e = absurd cc

none_steps : {W : Type 0} (x : W) (u t p : Bool) (now : Option W) → (u ≡ true → t ≡ true → p ≡ true) → now ≡ None → cond (u && (t && not p)) (Some x) now ≡ None
none_steps x false t p now h e = e
none_steps x true false p now h e = e
none_steps x true true true now h e = e
none_steps x true true false now h e = let no = h refl refl in absurd cc

-- where no check fails, none of the later ones does, and the first passes where it is tried and its bytes are there
pub none_later : {R : Type 0} (c : Check R) (cs : List (Check R)) (b : List ℕ) → wrong_at (c ∷ cs) b ≡ None → wrong_at cs b ≡ None
none_later c cs b e = (none_cases (c.place, c.reason) (c.tried b) (nat_le c.needed (length b)) (c.passes b) (wrong_at cs b) e).0

pub none_first : {R : Type 0} (c : Check R) (cs : List (Check R)) (b : List ℕ) → wrong_at (c ∷ cs) b ≡ None → Passes c b
none_first c cs b e tried there =
    (none_cases (c.place, c.reason) (c.tried b) (nat_le c.needed (length b)) (c.passes b) (wrong_at cs b) e).1 tried (le-leb c.needed (length b) there)

pub none_from : {R : Type 0} (c : Check R) (cs : List (Check R)) (b : List ℕ) → Passes c b → wrong_at cs b ≡ None → wrong_at (c ∷ cs) b ≡ None
none_from c cs b passes later =
    none_steps (c.place, c.reason) (c.tried b) (nat_le c.needed (length b)) (c.passes b) (wrong_at cs b) (λ tried h. passes tried (leb-true c.needed (length b) h)) later

-- no check is made before its bytes are there
pub none_before : {R : Type 0} (cs : List (Check R)) (n : ℕ) (b : List ℕ) → AreSteady n cs → length b < n → wrong_at cs b ≡ None
none_before [] n b steady less = refl
none_before (c ∷ cs) n b steady less =
    none_from c cs b (λ tried there. absurd (omega (arith, steady.0))) (none_before cs c.needed b steady.2 (omega (arith, steady.0)))

pub some_cases : {W : Type 0} (x w : W) (t : Bool) (now then : Option W) → (now ≡ Some w → then ≡ Some w) → cond t (Some x) now ≡ Some w → cond t (Some x) then ≡ Some w
some_cases x w true now then later e = e
some_cases x w false now then later e = later e

wrong_step : {R : Type 0} (c : Check R) (cs : List (Check R)) (b more : List ℕ) (w : ℕ × R) (t : Bool) → nat_le c.needed (length b) ≡ t → AreSteady c.needed (c ∷ cs) →
    (wrong_at cs b ≡ Some w → wrong_at cs (b ++ more) ≡ Some w) → wrong_at (c ∷ cs) b ≡ Some w → wrong_at (c ∷ cs) (b ++ more) ≡ Some w
wrong_step c cs b more w true now steady later e =
    let there = leb-true c.needed (length b) now in
    let then : nat_le c.needed (length (b ++ more)) ≡ true = le-leb c.needed (length (b ++ more)) (omega (arith, length-append b more)) in
    let seen = steady.1 b more there in
    let same : fails c (b ++ more) ≡ fails c b = rw (now, then, seen.0, seen.1) refl in
    rw same (some_cases (c.place, c.reason) w (fails c b) (wrong_at cs b) (wrong_at cs (b ++ more)) later e)
wrong_step c cs b more w false now steady later e =
    let none = none_before (c ∷ cs) c.needed b steady (leb-false c.needed (length b) now) in absurd cc

-- what is wrong stays wrong
pub wrong_more : {R : Type 0} (cs : List (Check R)) (n : ℕ) (b more : List ℕ) (w : ℕ × R) → AreSteady n cs → wrong_at cs b ≡ Some w → wrong_at cs (b ++ more) ≡ Some w
wrong_more [] n b more w steady e = absurd cc
wrong_more (c ∷ cs) n b more w steady e =
    wrong_step c cs b more w (nat_le c.needed (length b)) refl (omega arith, steady.1, steady.2) (wrong_more cs c.needed b more w steady.2) e

-- steady checks stay wrong
pub stays_wrong : {R : Type 0} (cs : List (Check R)) (n : ℕ) → AreSteady n cs → StaysWrong cs
stays_wrong cs n steady b more w e = wrong_more cs n b more w steady e

-- ---- what reading tells

whole_by_length : {P R : Type 0} (f : Format P R) (b : List ℕ) (p : P) (n : ℕ) (t : Bool) → nat_lt (length b) (f.size b) ≡ t → ◌≡◌ {A = Found P R} (cond t Short (Whole (f.packet b) (f.size b))) (Whole p n) →
    (f.size b ≤ length b) × (f.size b ≡ n) × (f.packet b ≡ p)
whole_by_length f b p n true less e = absurd cc
whole_by_length f b p n false less e = (ltb-false (length b) (f.size b) less, cc, cc)

whole_by : {P R : Type 0} (f : Format P R) (b : List ℕ) (p : P) (n : ℕ) (w : Option (ℕ × R)) → reading_by f b w ≡ Whole p n → (w ≡ None) × (f.size b ≤ length b) × (f.size b ≡ n) × (f.packet b ≡ p)
whole_by f b p n None e = let h = whole_by_length f b p n (nat_lt (length b) (f.size b)) refl e in (refl, h.0, h.1, h.2)
whole_by f b p n (Some w) e = absurd cc

-- a whole packet was read where no check fails, as long as its size
pub whole_parts : {P R : Type 0} (f : Format P R) (b : List ℕ) (p : P) (n : ℕ) → reading f b ≡ Whole p n → (wrong_at f.checks b ≡ None) × (f.size b ≤ length b) × (f.size b ≡ n) × (f.packet b ≡ p)
whole_parts f b p n e = whole_by f b p n (wrong_at f.checks b) e

wrong_by_length : {P R : Type 0} (p : P) (n at : ℕ) (why : R) (t : Bool) → cond t Short (Whole p n) ≡ Wrong at why → ⊥
wrong_by_length p n at why true e = absurd cc
wrong_by_length p n at why false e = absurd cc

wrong_by : {P R : Type 0} (f : Format P R) (b : List ℕ) (at : ℕ) (why : R) (w : Option (ℕ × R)) → reading_by f b w ≡ Wrong at why → w ≡ Some (at, why)
wrong_by f b at why None e = absurd (wrong_by_length (f.packet b) (f.size b) at why (nat_lt (length b) (f.size b)) e)
wrong_by f b at why (Some w) e = let first : w.0 ≡ at = cc in let second : w.1 ≡ why = cc in λ t. Some (first t, second t)

pub wrong_parts : {P R : Type 0} (f : Format P R) (b : List ℕ) (at : ℕ) (why : R) → reading f b ≡ Wrong at why → wrong_at f.checks b ≡ Some (at, why)
wrong_parts f b at why e = wrong_by f b at why (wrong_at f.checks b) e

pub wrong_reading : {P R : Type 0} (f : Format P R) (b : List ℕ) (w : ℕ × R) → wrong_at f.checks b ≡ Some w → reading f b ≡ Wrong w.0 w.1
wrong_reading f b w e = ap (reading_by f b) e

-- ---- what stands at the front of bytes, for a sound format

-- bytes that begin with a spelling
begins : {P R : Type 0} (f : Format P R) (b : List ℕ) (n : ℕ) (p : P) → take n b ≡ f.spelling p → f.spelling p ++ drop n b ≡ b
begins f b n p e = ap (λ (x : List ℕ). x ++ drop n b) (sym e) ∙ take-append-drop n b

size_is : {P R : Type 0} (f : Format P R) → IsSound f → (b : List ℕ) (n : ℕ) (p : P) → n ≤ length b → f.Fits p → take n b ≡ f.spelling p → f.size b ≡ n
size_is f sound b n p le fits e =
    let s : f.size b ≡ length (f.spelling p) = subst (λ (x : List ℕ). f.size x ≡ length (f.spelling p)) (begins f b n p e) (sound.size p (drop n b) fits) in
    s ∙ ap length (sym e) ∙ omega (arith, length-take n b)

-- there is one packet, and one length
pub only : {P R : Type 0} (f : Format P R) → IsSound f → (b : List ℕ) (n : ℕ) (p : P) → IsWhole f b n p → (f.size b ≡ n) × (f.packet b ≡ p)
only f sound b n p w =
    (size_is f sound b n p w.there w.fits w.spelled, subst (λ (x : List ℕ). f.packet x ≡ p) (begins f b n p w.spelled) (sound.packet p (drop n b) w.fits))

stands_by_length : {P R : Type 0} (f : Format P R) → IsSound f → (b : List ℕ) (t : Bool) → AreBytes b → wrong_at f.checks b ≡ None → nat_lt (length b) (f.size b) ≡ t →
    StandsAtFront f b (cond t Short (Whole (f.packet b) (f.size b)))
stands_by_length f sound b true bytes right e = record {
  right = right;
  none = λ n p le fits spelled. let s = size_is f sound b n p le fits spelled in let less = ltb-true (length b) (f.size b) e in omega arith;
}
stands_by_length f sound b false bytes right e =
    let there = ltb-false (length b) (f.size b) e in
    let h = sound.found b bytes right there in
    record { right = right; there = there; fits = h.1; spelled = sym h.0 }

stands_by : {P R : Type 0} (f : Format P R) → IsSound f → (b : List ℕ) (w : Option (ℕ × R)) → AreBytes b → wrong_at f.checks b ≡ w → StandsAtFront f b (reading_by f b w)
stands_by f sound b None bytes e = stands_by_length f sound b (nat_lt (length b) (f.size b)) bytes e refl
stands_by f sound b (Some w) bytes e = e

-- what reading gives is what stands there
pub stands : {P R : Type 0} (f : Format P R) → IsSound f → (b : List ℕ) → AreBytes b → StandsAtFront f b (reading f b)
stands f sound b bytes = stands_by f sound b (wrong_at f.checks b) bytes refl

-- and what stands there is what reading gives
pub whole_reading : {P R : Type 0} (f : Format P R) → IsSound f → (b : List ℕ) (n : ℕ) (p : P) → IsWhole f b n p → reading f b ≡ Whole p n
whole_reading f sound b n p w =
    let o = only f sound b n p w in
    let enough : nat_lt (length b) (f.size b) ≡ false = le-ltb (length b) (f.size b) (rw (o.0) w.there) in
    ap (reading_by f b) w.right ∙ rw (enough, o.0, o.1) refl

short_by_length : {P R : Type 0} (f : Format P R) → IsSound f → (b : List ℕ) (t : Bool) → AreBytes b → IsShort f b → nat_lt (length b) (f.size b) ≡ t →
    ◌≡◌ {A = Found P R} (cond t Short (Whole (f.packet b) (f.size b))) Short
short_by_length f sound b true bytes s e = refl
short_by_length f sound b false bytes s e =
    let there = ltb-false (length b) (f.size b) e in
    let h = sound.found b bytes s.right there in
    absurd (s.none (f.size b) (f.packet b) there h.1 (sym h.0))

pub short_reading : {P R : Type 0} (f : Format P R) → IsSound f → (b : List ℕ) → AreBytes b → IsShort f b → reading f b ≡ Short
short_reading f sound b bytes s = ap (reading_by f b) s.right ∙ short_by_length f sound b (nat_lt (length b) (f.size b)) bytes s refl

-- what is spelled is read again, whatever comes after it
pub spelled_whole : {P R : Type 0} (f : Format P R) → IsSound f → (p : P) (more : List ℕ) → f.Fits p → IsWhole f (f.spelling p ++ more) (length (f.spelling p)) p
spelled_whole f sound p more fits = record {
  right = sound.right p more fits;
  there = omega (arith, length-append (f.spelling p) more);
  fits = fits;
  spelled = take_at (f.spelling p) more (length (f.spelling p)) refl;
}

pub read_again : {P R : Type 0} (f : Format P R) → IsSound f → (p : P) (more : List ℕ) → f.Fits p → reading f (f.spelling p ++ more) ≡ Whole p (length (f.spelling p))
read_again f sound p more fits = whole_reading f sound (f.spelling p ++ more) (length (f.spelling p)) p (spelled_whole f sound p more fits)

-- a whole packet that is read is one
pub read_whole : {P R : Type 0} (f : Format P R) → IsSound f → (b : List ℕ) (n : ℕ) (p : P) → AreBytes b → reading f b ≡ Whole p n → IsWhole f b n p
read_whole f sound b n p bytes e = subst (StandsAtFront f b) e (stands f sound b bytes)

pub read_short : {P R : Type 0} (f : Format P R) → IsSound f → (b : List ℕ) → AreBytes b → reading f b ≡ Short → IsShort f b
read_short f sound b bytes e = subst (StandsAtFront f b) e (stands f sound b bytes)

-- what is whole stays whole
pub whole_more : {P R : Type 0} (f : Format P R) → IsSound f → (b more : List ℕ) (n : ℕ) (p : P) → AreBytes b → reading f b ≡ Whole p n → reading f (b ++ more) ≡ Whole p n
whole_more f sound b more n p bytes e =
    let w = read_whole f sound b n p bytes e in
    let long : length (f.spelling p) ≡ n = ap length (sym w.spelled) ∙ omega (arith, length-take n b, w.there) in
    let again : f.spelling p ++ (drop n b ++ more) ≡ b ++ more = sym (append_assoc (f.spelling p) (drop n b) more) ∙ ap (λ (x : List ℕ). x ++ more) (begins f b n p w.spelled) in
    sym (ap (reading f) again) ∙ read_again f sound p (drop n b ++ more) w.fits ∙ ap (Whole p) long
