-- What fits of bytes that are joined piece by piece.
use Rattle.std.proofs.Common.{◌≡◌, ℕ, ◌+◌, ◌<◌, zero, suc, List, [], ◌∷◌, ◌++◌, length, take, ◌≤◌, Some, None, Result, Ok, Err, OnErr, refl, ap, ◌∙◌, arith}
use Rattle.std.specs.Prelude.{IfSome}
use Rattle.std.specs.Option.{option_map}
use Rattle.std.proofs.lemmas.List.{length-take}
use Rattle.usb_base.specs.declared.transfer.StreamPacket.{StreamPacket}
use Rattle.stream_buffers.specs.Interrupt.{bodies, bodies_to, last_of, interrupt_cut, interrupt_cut_at}

pub on-err : {T E : Type 0} (r : Result T E) (P : Type 0) → P → OnErr r P
on-err (Ok v) P p = tt
on-err (Err e) P p = p

-- what fits of two pieces, where so much room is left behind the first
take_over : (n room : ℕ) (xs ys : List ℕ) → room + length (take n xs) ≡ n → take n (xs ++ ys) ≡ take n xs ++ take room ys
take_over zero room xs ys left = let none : room ≡ 0 = omega (arith, left) in rw none refl
take_over (suc n) room [] ys left = let all : room ≡ suc n = omega (arith, left) in rw all refl
take_over (suc n) room (x ∷ xs) ys left = ap (λ (l : List ℕ). x ∷ l) (take_over n room xs ys (omega (arith, left)))

-- what fits of packets that are left, of which this is the first
pub fit_next : (room more n m : ℕ) (packets rest : List StreamPacket) (p : StreamPacket) → packets ≡ p ∷ rest → m + 1 ≡ n → more + length (take room p.body) ≡ room →
    take room (bodies (take n packets)) ≡ take room p.body ++ take more (bodies (take m rest))
fit_next room more n m packets rest p is one left =
    let count : n ≡ suc m = omega (arith, one) in
    (λ i. take room (bodies (take (count i) (is i)))) ∙ take_over room more p.body (bodies (take m rest)) left

-- none of them is left where all were taken, or none is there
pub none_fits : (room n : ℕ) (packets : List StreamPacket) → (0 < n → length packets ≡ 0) → take room (bodies (take n packets)) ≡ []
none_fits zero n packets over = refl
none_fits (suc room) zero packets over = refl
none_fits (suc room) (suc n) [] over = refl
none_fits (suc room) (suc n) (p ∷ packets) over = absurd (omega (arith, over (omega arith)))

pub interrupt_fits : (max_packet wanted : ℕ) (packets : List StreamPacket) → IfSome (interrupt_cut max_packet wanted packets) (λ cut. cut.gives.done ≤ wanted)
interrupt_fits max_packet wanted packets = elim (last_of max_packet wanted packets) as (λ o. IfSome (option_map (interrupt_cut_at wanted packets) o) (λ cut. cut.gives.done ≤ wanted)) [
  | None ↦ tt
  | Some k ↦ omega (arith, length-take wanted (bodies_to k packets))
]
