-- What the turns are from the front on.
use Rattle.std.proofs.Common.{◌≡◌, ℕ, ◌+◌, ◌<◌, List, [], ◌∷◌, length, drop, refl, arith, add-one, get_or}
use Rattle.std.proofs.Math.Seq.{drop-cons}
use Rattle.std.proofs.lemmas.List.{length-drop}
use Rattle.gate_outside.specs.declared.turn.Turn.{Turn}
use Rattle.gate_outside.specs.declared.turn.Turn.TheVariants.{Piece, Wait, Fail}
use Rattle.gate_outside.specs.Turns.{pending, answer}
use Rattle.gate_outside.specs.Doors.{first, TookWithin}
use Rattle.gate_outside.specs.Reading.{Reading, cut, current}

-- a piece of which something is left is pending
pub pending-piece : (piece : List ℕ) (turns : List Turn) → 0 < length piece → pending (Piece piece ∷ turns) ≡ Piece piece ∷ turns
pending-piece [] turns some = absurd (omega arith)
pending-piece (b ∷ bs) turns some = refl

pub pending-cut : (n : ℕ) (piece : List ℕ) (turns : List Turn) → n < length piece → pending (cut n (Piece piece ∷ turns)) ≡ cut n (Piece piece ∷ turns)
pending-cut n piece turns less = pending-piece (drop n piece) turns (omega (arith, length-drop n piece))

pub cut-zero : (turns : List Turn) → cut 0 turns ≡ turns
cut-zero [] = refl
cut-zero (Piece piece ∷ turns) = refl
cut-zero (Wait ∷ turns) = refl
cut-zero (Fail ∷ turns) = refl

-- where one more script is begun
pub begins : (begun : ℕ) (scripts : List (List Turn)) → begun < length scripts → (0 < length (drop begun scripts))
    × (let now : Reading = record { turns = cut 0 (current (begun + 1) scripts); to_come = drop (begun + 1) scripts } in
    now ≡ record { turns = first (drop begun scripts); to_come = drop 1 (drop begun scripts) })
begins begun scripts less =
    let front = drop-cons scripts begun [] less in
    let turns : cut 0 (current (begun + 1) scripts) ≡ first (drop begun scripts) =
    rw (add-one, front) (cut-zero (get_or scripts begun [])) in
    let to_come : drop (begun + 1) scripts ≡ drop 1 (drop begun scripts) = rw (add-one, front) refl in
    (omega (arith, length-drop begun scripts), cc)

-- a poll that takes bytes takes one at least, and no more than there is room for
pub took-within : (turns : List Turn) (buf : List ℕ) → 0 < length buf → TookWithin (answer (length buf) (pending turns)) buf
took-within [] buf room = tt
took-within (Piece [] ∷ turns) buf room = took-within turns buf room
took-within (Piece (b ∷ bs) ∷ turns) buf room = (omega arith, omega arith)
took-within (Wait ∷ turns) buf room = tt
took-within (Fail ∷ turns) buf room = tt
