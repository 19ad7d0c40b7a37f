-- A format: how its packets are spelled, which fields they may have, and the checks that find a wrong packet as
-- soon as the bytes of the wrong field are there. What stands at the front of bytes follows from these.
use Rattle.std.specs.Prelude.{◌≡◌, ℕ, ◌≤◌, ◌<◌, Bool, true, List, [], ◌∷◌, ◌++◌, length, take, Option, Some, None, nat_le, nat_lt, if◌then◌else◌, not, ◌&&◌}
use Rattle.usb_base.specs.Number.{AreBytes}

-- where it is tried, a packet that fails the test is wrong at `place`, once the first `needed` bytes are there
pub record Check (R : Type 0) : Type 0 where
  pub place : ℕ
  pub needed : ℕ
  -- whether it is tried in a packet that begins so, as far as the bytes tell
  pub tried : List ℕ → Bool
  pub passes : List ℕ → Bool
  pub reason : R

-- one that is tried in every packet
abbrev pub check : {R : Type 0} → ℕ → ℕ → R → (List ℕ → Bool) → Check R
check place needed reason passes = record { place = place; needed = needed; tried = λ b. true; passes = passes; reason = reason }

-- the check is tried, its bytes are there, and they fail its test
abbrev pub fails : {R : Type 0} → Check R → List ℕ → Bool
fails c bytes = c.tried bytes && (nat_le c.needed (length bytes) && not (c.passes bytes))

-- the first check, in their order, that fails
abbrev pub wrong_at : {R : Type 0} → List (Check R) → List ℕ → Option (ℕ × R)
wrong_at [] bytes = None
wrong_at (c ∷ cs) bytes = if fails c bytes then Some (c.place, c.reason) else wrong_at cs bytes

pub record Format (P R : Type 0) : Type 1 where
  pub checks : List (Check R)
  -- how many bytes the packet has that begins so, as far as they tell
  pub size : List ℕ → ℕ
  -- the packet whose fields stand at their places
  pub packet : List ℕ → P
  -- the bytes of a packet, its fields in wire order
  pub spelling : P → List ℕ
  -- the ranges of a packet's fields
  pub Fits : P → Type 0

-- no check fails, and the first n bytes spell p
pub record IsWhole {P R : Type 0} (f : Format P R) (bytes : List ℕ) (n : ℕ) (p : P) : Type 0 where
  pub right : wrong_at f.checks bytes ≡ None
  pub there : n ≤ length bytes
  pub fits : f.Fits p
  pub spelled : take n bytes ≡ f.spelling p

-- no check fails, and no front of the bytes spells a packet
pub record IsShort {P R : Type 0} (f : Format P R) (bytes : List ℕ) : Type 0 where
  pub right : wrong_at f.checks bytes ≡ None
  pub none : (n : ℕ) (p : P) → n ≤ length bytes → f.Fits p → take n bytes ≡ f.spelling p → ⊥

-- what stands at the front of bytes: a packet of so many bytes, less than one, or a wrong place
pub data Found (P R : Type 0) : Type 0 where
  Whole : P → ℕ → Found P R
  Short : Found P R
  Wrong : ℕ → R → Found P R

-- what was found is what stands there
abbrev pub StandsAtFront : {P R : Type 0} → Format P R → List ℕ → Found P R → Type 0
StandsAtFront f bytes (Whole p n) = IsWhole f bytes n p
StandsAtFront f bytes Short = IsShort f bytes
StandsAtFront f bytes (Wrong place reason) = wrong_at f.checks bytes ≡ Some (place, reason)

-- the same as a computation: the first failed check, else short of the size, else the packet
abbrev pub reading_by : {P R : Type 0} → Format P R → List ℕ → Option (ℕ × R) → Found P R
reading_by f bytes None = if nat_lt (length bytes) (f.size bytes) then Short else Whole (f.packet bytes) (f.size bytes)
reading_by f bytes (Some w) = Wrong w.0 w.1

abbrev pub reading : {P R : Type 0} → Format P R → List ℕ → Found P R
reading f bytes = reading_by f bytes (wrong_at f.checks bytes)

-- ---- the laws of a format

-- what is wrong stays wrong, whatever comes after it
abbrev pub StaysWrong : {R : Type 0} → List (Check R) → Type 0
StaysWrong {R = R} cs = (bytes more : List ℕ) (w : ℕ × R) → wrong_at cs bytes ≡ Some w → wrong_at cs (bytes ++ more) ≡ Some w

pub record IsSound {P R : Type 0} (f : Format P R) : Type 0 where
  -- what is read is spelled so, and fits
  pub found : (bytes : List ℕ) → AreBytes bytes → wrong_at f.checks bytes ≡ None → f.size bytes ≤ length bytes → (f.spelling (f.packet bytes) ≡ take (f.size bytes) bytes) × f.Fits (f.packet bytes)
  -- what is spelled so is read, whatever comes after it
  pub right : (p : P) (more : List ℕ) → f.Fits p → wrong_at f.checks (f.spelling p ++ more) ≡ None
  pub size : (p : P) (more : List ℕ) → f.Fits p → f.size (f.spelling p ++ more) ≡ length (f.spelling p)
  pub packet : (p : P) (more : List ℕ) → f.Fits p → f.packet (f.spelling p ++ more) ≡ p
  -- a packet has a byte at least
  pub some : (bytes : List ℕ) → 0 < f.size bytes
  pub steady : StaysWrong f.checks
