-- Digits of what is cut in two.
use Rattle.std.proofs.Common.{◌≡◌, ℕ, List, [], ◌∷◌, ◌++◌, refl, ap, ◌/◌, ◌%◌, slice_index}
use Rattle.hex.specs.Hex.{encode_with}

-- the digits of two pieces are those of each
pub encode-append : (table front back : List ℕ) → encode_with table (front ++ back) ≡ encode_with table front ++ encode_with table back
unfolding encode_with
encode-append table [] back = refl
encode-append table (b ∷ front) back = ap (λ (digits : List ℕ). slice_index table (b / 16) ∷ slice_index table (b % 16) ∷ digits) (encode-append table front back)

-- nothing has no digits
pub encode-nil : (table : List ℕ) → encode_with table [] ≡ []
unfolding encode_with
encode-nil table = refl
