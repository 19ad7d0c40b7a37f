-- A setup and its eight bytes.
use Rattle.std.proofs.Common.{◌≡◌, ℕ, List, [], ◌∷◌, ◌++◌, length, refl, sym, ap, ◌∙◌, append_assoc, arith}
use Rattle.std.proofs.lemmas.List.{take_all, append-nil, length-append}
use Rattle.std.specs.Int.{w16}
use Rattle.usb_base.specs.Number.{le, le_at}
use Rattle.usb_base.proofs.Fronts.{two}
use Rattle.usb_base.specs.Setup.{SpellsRead, ReadsSpelled}
use Rattle.usb_base.proofs.Numbers.{then, le_spelled_16, le_found_16, length-le}

pub spells_read : SpellsRead
spells_read b fits e =
    let four = then 2 2 b _ _ (two b (omega arith)) (le_spelled_16 2 b fits (omega arith)) in
    let six = then 4 2 b _ _ four (le_spelled_16 4 b fits (omega arith)) in
    let eight = then 6 2 b _ _ six (le_spelled_16 6 b fits (omega arith)) in
    eight ∙ take_all 8 b (omega arith)

pub reads_spelled : ReadsSpelled
reads_spelled s fits =
    let head : List ℕ = s.kind ∷ s.request ∷ [] in
    let v = le w16 s.value in
    let i = le w16 s.index in
    let l = le w16 s.length in
    let four : length (head ++ v) ≡ 4 = omega (arith, length-append head v, length-le w16 s.value) in
    let six : length (head ++ v ++ i) ≡ 6 = omega (arith, length-append (head ++ v) i, length-le w16 s.index) in
    let value : le_at w16 2 (head ++ v ++ i ++ l) ≡ s.value = ap (le_at w16 2) (append_assoc (head ++ v) i l) ∙ le_found_16 2 s.value head (i ++ l) refl fits.value_fits in
    let index : le_at w16 4 (head ++ v ++ i ++ l) ≡ s.index = le_found_16 4 s.index (head ++ v) l four fits.index_fits in
    let last : le_at w16 6 (head ++ v ++ i ++ l) ≡ s.length = ap (le_at w16 6) (sym (append-nil (head ++ v ++ i ++ l))) ∙ le_found_16 6 s.length (head ++ v ++ i) [] six fits.length_fits in
    λ t. record { kind = s.kind; request = s.request; value = value t; index = index t; length = last t }
