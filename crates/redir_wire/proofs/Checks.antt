-- Checks that pass, that are no matter, and that fail before others.
use Rattle.std.proofs.Common.{◌≡◌, ℕ, Bool, true, false, cond, List, [], ◌∷◌, ◌++◌, length, Option, Some, None, refl, ◌∙◌}
use Rattle.std.specs.Prelude.{nat_le, not, ◌&&◌}
use Rattle.std.proofs.lemmas.Bool.{leb-true}
use Rattle.packet_stream.specs.Format.{Check, fails, wrong_at}
use Rattle.packet_stream.proofs.Formats.{Passes, none_first, none_later, none_from, some_cases}

-- each of them that is tried passes once its bytes are there
abbrev pub Passed : {R : Type 0} → List (Check R) → List ℕ → Type 0
Passed [] b = Unit {0}
Passed (c ∷ cs) b = Passes c b × Passed cs b

pub passed : {R : Type 0} (cs ds : List (Check R)) (b : List ℕ) → wrong_at (cs ++ ds) b ≡ None → Passed cs b × (wrong_at ds b ≡ None)
passed [] ds b e = (tt, e)
passed (c ∷ cs) ds b e = let later = passed cs ds b (none_later c (cs ++ ds) b e) in ((none_first c (cs ++ ds) b e, later.0), later.1)

pub none_passed : {R : Type 0} (cs ds : List (Check R)) (b : List ℕ) → Passed cs b → wrong_at ds b ≡ None → wrong_at (cs ++ ds) b ≡ None
none_passed [] ds b p e = e
none_passed (c ∷ cs) ds b p e = none_from c (cs ++ ds) b p.0 (none_passed cs ds b p.1 e)

step : {W : Type 0} (u t p : Bool) (x : W) (now : Option W) → (u ≡ true → t ≡ true → p ≡ true) → cond (u && (t && not p)) (Some x) now ≡ now
step false t p x now h = refl
step true false p x now h = refl
step true true true x now h = refl
step true true false x now h = let no = h refl refl in absurd cc

pub skip : {R : Type 0} (cs ds : List (Check R)) (b : List ℕ) → Passed cs b → wrong_at (cs ++ ds) b ≡ wrong_at ds b
skip [] ds b p = refl
skip (c ∷ cs) ds b p = step (c.tried b) (nat_le c.needed (length b)) (c.passes b) (c.place, c.reason) (wrong_at (cs ++ ds) b) (λ tried t. p.0 tried (leb-true c.needed (length b) t)) ∙ skip cs ds b p.1

pub wrong_front : {R : Type 0} (cs ds : List (Check R)) (b : List ℕ) (w : ℕ × R) → wrong_at cs b ≡ Some w → wrong_at (cs ++ ds) b ≡ Some w
wrong_front [] ds b w e = absurd cc
wrong_front (c ∷ cs) ds b w e = some_cases (c.place, c.reason) w (fails c b) (wrong_at cs b) (wrong_at (cs ++ ds) b) (wrong_front cs ds b w) e
