-- A walk that has come to a place: what the descriptors before it are, and what is left.
use Rattle.std.proofs.Common.{◌≡◌, ℕ, zero, suc, ◌+◌, ◌<◌, ◌≤◌, nat_le, Bool, true, false, cond, List, [], ◌∷◌, ◌++◌, length, drop, map, Option, Some, None, refl, sym, ap, ◌∙◌, arith, append_assoc, length-drop}
use Rattle.std.proofs.lemmas.List.{drop-drop}
use Rattle.std.proofs.lemmas.Bool.{leb-true, and_parts}
use Rattle.usb_base.specs.Number.{byte_at}
use Rattle.chapter9.specs.declared.part.Part.{Part}
use Rattle.chapter9.specs.Descriptors.{Descriptor, descriptors, is_configuration, later, first_wrong, parts_of, part_at, is_right, is_whole}

abbrev pub parts_at : List Descriptor → List Part
parts_at ds = map (λ d. part_at d.bytes) ds

-- the descriptors from a place of the blob on
abbrev pub from : ℕ → List ℕ → List Descriptor
from place blob = descriptors (length blob) place (drop place blob)

-- no descriptor before the place is wrong, and the parts are those of the descriptors before it
pub record Walking (blob : List ℕ) (place : ℕ) (parts : List Part) : Type 0 where
  pub configuration : is_configuration blob ≡ true
  pub within : place ≤ length blob
  pub wrong : first_wrong (later blob) ≡ first_wrong (from place blob)
  pub parts_before : parts_of blob ≡ parts ++ parts_at (from place blob)

-- ---- descriptors one by one

if_whole : (t : Bool) (x y : List Descriptor) → (t ≡ true → x ≡ y) → cond t x [] ≡ cond t y []
if_whole true x y h = h refl
if_whole false x y h = refl

pub at_least_two : (bytes : List ℕ) → is_whole bytes ≡ true → 2 ≤ byte_at 0 bytes
at_least_two bytes h = omega (arith, leb-true 2 (byte_at 0 bytes) (and_parts _ _ h).0)

-- how many are looked for doesn't matter, where it is enough
descriptors-most : (n m place : ℕ) (bytes : List ℕ) → length bytes ≤ n → length bytes ≤ m → descriptors n place bytes ≡ descriptors m place bytes
descriptors-most zero zero place bytes h k = refl
descriptors-most zero (suc m) place [] h k = refl
descriptors-most zero (suc m) place (b ∷ bytes) h k = absurd (omega arith)
descriptors-most (suc n) zero place [] h k = refl
descriptors-most (suc n) zero place (b ∷ bytes) h k = absurd (omega arith)
descriptors-most (suc n) (suc m) place [] h k = refl
descriptors-most (suc n) (suc m) place (b ∷ bytes) h k =
    ap (λ ds. record { place = place; bytes = b ∷ bytes } ∷ ds)
    (if_whole (is_whole (b ∷ bytes)) _ _ (λ e. let two = at_least_two (b ∷ bytes) e in
    descriptors-most n m (place + b) (drop b (b ∷ bytes)) (omega (arith, length-drop b (b ∷ bytes))) (omega (arith, length-drop b (b ∷ bytes)))))

-- a whole descriptor, and then the others
descriptors-whole : (n place : ℕ) (bytes : List ℕ) → length bytes ≤ n → is_whole bytes ≡ true → descriptors n place bytes ≡ record { place = place; bytes = bytes } ∷ descriptors n (place + byte_at 0 bytes) (drop (byte_at 0 bytes) bytes)
descriptors-whole n place [] h e = absurd (omega (arith, at_least_two [] e))
descriptors-whole zero place (b ∷ bytes) h e = absurd (omega arith)
descriptors-whole (suc n) place (b ∷ bytes) h e =
    let two = at_least_two (b ∷ bytes) e in
    ap (λ ds. record { place = place; bytes = b ∷ bytes } ∷ ds)
    (ap (λ t. cond t (descriptors n (place + b) (drop b (b ∷ bytes))) []) e ∙ descriptors-most n (suc n) (place + b) (drop b (b ∷ bytes)) (omega (arith, length-drop b (b ∷ bytes))) (omega (arith, length-drop b (b ∷ bytes))))

-- ---- one step of a walk

right_by : {A : Type 0} (t : Bool) (a b : A) → Some a ≡ cond t (Some b) None → (t ≡ true) × (a ≡ b)
right_by true a b h = (refl, cc)
right_by false a b h = cc

first_by : (t : Bool) (x y : Option ℕ) → t ≡ true → cond t x y ≡ x
first_by t x y e = ap (λ t. cond t x y) e

pub Walking-next : (blob : List ℕ) (place : ℕ) (parts : List Part) (part : Part) → Walking blob place parts → place < length blob → Some part ≡ cond (is_right (drop place blob)) (Some (part_at (drop place blob))) None → Walking blob (place + byte_at 0 (drop place blob)) (parts ++ part ∷ [])
Walking-next blob place parts part w within h =
    let rest = drop place blob in
    let found = right_by (is_right rest) part (part_at rest) h in
    let whole : is_whole rest ≡ true = (and_parts (is_whole rest) _ found.0).0 in
    let reach : byte_at 0 rest ≤ length rest = leb-true (byte_at 0 rest) (length rest) (and_parts (nat_le 2 (byte_at 0 rest)) (nat_le (byte_at 0 rest) (length rest)) whole).1 in
    let enough : length rest ≤ length blob = omega (arith, length-drop place blob) in
    let next : from place blob ≡ record { place = place; bytes = rest } ∷ from (place + byte_at 0 rest) blob =
    descriptors-whole (length blob) place rest enough whole ∙ ap (λ bytes. record { place = place; bytes = rest } ∷ descriptors (length blob) (place + byte_at 0 rest) bytes) (drop-drop (byte_at 0 rest) place blob) in
    record {
      configuration = w.configuration;
      within = omega (arith, length-drop place blob);
      wrong = w.wrong ∙ ap first_wrong next ∙ first_by (is_right rest) (first_wrong (from (place + byte_at 0 rest) blob)) (Some place) found.0;
      parts_before = w.parts_before ∙ ap (λ ds. parts ++ parts_at ds) next ∙ ap (λ p. parts ++ (p ∷ parts_at (from (place + byte_at 0 rest) blob))) (sym found.1) ∙ sym (append_assoc parts (part ∷ []) (parts_at (from (place + byte_at 0 rest) blob)));
    }
