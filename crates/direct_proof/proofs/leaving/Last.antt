-- The last of the packets that are drawn ids for, whose id is the fence.
use Rattle.std.proofs.Common.{◌≡◌, ℕ, List, [], ◌∷◌, ◌++◌, length, Option, Some, refl, ap, arith}
use Rattle.std.specs.Prelude.{zip}
use Rattle.std.specs.List.{AllByRecursion, last_or}
use Rattle.redir_data.specs.declared.packet.RedirPacket.{RedirPacket}

pub data IsLast (P : ℕ → Type 0) (before : Option ℕ) (zs : List (ℕ × RedirPacket)) (now : Option ℕ) : Type 0 where
  NoneIs : zs ≡ [] → now ≡ before → IsLast P before zs now
  LastIs : (front : List (ℕ × RedirPacket)) (z : ℕ × RedirPacket) → zs ≡ front ++ z ∷ [] → now ≡ Some z.0 → P z.0 → IsLast P before zs now

pub last-is : (P : ℕ → Type 0) (before : Option ℕ) (ids : List ℕ) (qs : List RedirPacket) → length ids ≡ length qs → AllByRecursion P ids → IsLast P before (zip ids qs) (last_or before ids)
last-is P before [] qs n h = NoneIs refl refl
last-is P before (id ∷ ids) [] n h = absurd (omega (arith, n))
last-is P before (id ∷ ids) (q ∷ qs) n h = go (last-is P (Some id) ids qs (omega (arith, n)) h.1)
  where
    go : IsLast P (Some id) (zip ids qs) (last_or (Some id) ids) → IsLast P before ((id, q) ∷ zip ids qs) (last_or (Some id) ids)
    go (NoneIs z e) = LastIs [] (id, q) (ap (λ (l : List (ℕ × RedirPacket)). (id, q) ∷ l) z) e h.0
    go (LastIs front z is e p) = LastIs ((id, q) ∷ front) z (ap (λ (l : List (ℕ × RedirPacket)). (id, q) ∷ l) is) e p
