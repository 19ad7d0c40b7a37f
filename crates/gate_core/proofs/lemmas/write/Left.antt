-- What is left of a list, for a loop that goes over it.
use Rattle.std.proofs.Common.{◌≡◌, ◌≤◌, ◌+◌, ℕ, Bool, true, false, cond, List, ◌∷◌, ◌++◌, length, sym, ap, ◌∙◌, append_assoc, arith}
use Rattle.std.specs.Prelude.{filter}
use Rattle.std.specs.List.{flat_map}
use Rattle.usb_base.specs.Writes.{Begins}

-- more is there behind what began so
pub begins-on : {A : Type 0} (old now new more : List A) → Begins old now → new ≡ now ++ more → Begins old new
begins-on {A = A} old now new more e is = record { more = e.more ++ more; is = is ∙ ap (λ (l : List A). l ++ more) e.is ∙ append_assoc old e.more more }

-- what was put there, and what is to be for those that are left, are what is to be for all
pub sent-left : {X A : Type 0} (f : X → List A) (before after : List X) (x : X) (now new all : List A) → before ≡ x ∷ after
    → now ++ flat_map f before ≡ all → new ≡ now ++ f x → new ++ flat_map f after ≡ all
sent-left {X = X} {A = A} f before after x now new all is sent more =
    ap (λ (l : List A). l ++ flat_map f after) more ∙ append_assoc now (f x) (flat_map f after) ∙ ap (λ (l : List X). now ++ flat_map f l) (sym is) ∙ sent

-- no more pass than passed before
pub fewer-left : {X : Type 0} (p : X → Bool) (before after : List X) (x : X) (all : ℕ) → before ≡ x ∷ after → length (filter p before) ≤ all → length (filter p after) ≤ all
fewer-left {X = X} p before after x all is few = omega (arith, ap (λ (l : List X). length (filter p l)) is ∙ one (p x), few)
  where
    one : (b : Bool) → length (cond b (x ∷ filter p after) (filter p after)) ≡ cond b 1 0 + length (filter p after)
    one true = omega arith
    one false = omega arith
