-- The places of a list that are set.
use Rattle.std.proofs.Common.{◌≡◌, ℕ, zero, suc, ◌<◌, List, [], ◌∷◌, length, replicate, get_or, set, refl, sym, ap, ◌∙◌}
use Rattle.std.proofs.lemmas.List.{ext_get_or, get_or-replicate, length-replicate}

-- of two values that are set the last stands
pub set-twice : {X : Type 0} (xs : List X) (i : ℕ) (a b : X) → set (set xs i a) i b ≡ set xs i b
set-twice [] i a b = refl
set-twice (x ∷ xs) zero a b = refl
set-twice (x ∷ xs) (suc i) a b = ap (λ l. x ∷ l) (set-twice xs i a b)

-- what stands there, set again, changes nothing
pub set-back : {X : Type 0} (xs : List X) (i : ℕ) (d : X) → set xs i (get_or xs i d) ≡ xs
set-back [] i d = refl
set-back (x ∷ xs) zero d = refl
set-back (x ∷ xs) (suc i) d = ap (λ l. x ∷ l) (set-back xs i d)

-- where each is the same
pub each-same : {X : Type 0} (xs : List X) (n : ℕ) (a : X) → length xs ≡ n → ((i : ℕ) → i < n → get_or xs i a ≡ a) → xs ≡ replicate n a
each-same xs n a long is =
    ext_get_or a xs (replicate n a) (long ∙ sym (length-replicate n a)) (λ i within. let below : i < n = rw (sym long) within in is i below ∙ sym (get_or-replicate n i a a below))
