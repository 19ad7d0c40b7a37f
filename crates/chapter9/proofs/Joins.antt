-- A configuration without a wrong descriptor is its descriptors one behind another.
use Rattle.std.proofs.Common.{◌≡◌, ℕ, zero, suc, ◌+◌, ◌≤◌, Bool, true, false, cond, List, [], ◌∷◌, ◌++◌, length, take, drop, Option, Some, None, refl, sym, ap, ◌∙◌, arith, length-drop, take-append-drop}
use Rattle.std.proofs.lemmas.Bool.{and_parts}
use Rattle.usb_base.specs.Number.{byte_at}
use Rattle.chapter9.specs.Descriptors.{AreJoined, Descriptor, descriptors, first_wrong, is_configuration, is_right, is_whole, joined, later, own_bytes}
use Rattle.chapter9.proofs.Walks.{at_least_two}

passed : (t : Bool) (place : ℕ) (rest : Option ℕ) → cond t rest (Some place) ≡ None → (t ≡ true) × (rest ≡ None)
passed true place rest h = (refl, h)
passed false place rest h = cc

then : (t : Bool) (ds : List Descriptor) → t ≡ true → cond t ds [] ≡ ds
then t ds e = ap (λ t. cond t ds []) e

joined_by : (n place : ℕ) (bytes : List ℕ) → length bytes ≤ n → first_wrong (descriptors n place bytes) ≡ None → joined (descriptors n place bytes) ≡ bytes
joined_by zero place [] h w = refl
joined_by zero place (b ∷ bytes) h w = absurd (omega arith)
joined_by (suc n) place [] h w = refl
joined_by (suc n) place (b ∷ bytes) h w =
    let blob : List ℕ = b ∷ bytes in
    let rest : List Descriptor = descriptors n (place + b) (drop b blob) in
    let right = passed (is_right blob) place (first_wrong (cond (is_whole blob) rest [])) w in
    let whole : is_whole blob ≡ true = (and_parts (is_whole blob) _ right.0).0 in
    let two = at_least_two blob whole in
    let others : first_wrong rest ≡ None = sym (ap first_wrong (then (is_whole blob) rest whole)) ∙ right.1 in
    let left = joined_by n (place + b) (drop b blob) (omega (arith, length-drop b blob)) others in
    ap (λ ds. take b blob ++ joined ds) (then (is_whole blob) rest whole) ∙ ap (λ xs. take b blob ++ xs) left ∙ take-append-drop b blob

pub are_joined : AreJoined
are_joined blob w =
    let right = passed (is_configuration blob) 0 (first_wrong (later blob)) w in
    ap (λ xs. own_bytes blob ++ xs) (joined_by (length blob) (byte_at 0 blob) (drop (byte_at 0 blob) blob) (omega (arith, length-drop (byte_at 0 blob) blob)) right.1) ∙ take-append-drop (byte_at 0 blob) blob
