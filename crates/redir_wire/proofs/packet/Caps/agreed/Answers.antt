use Rattle.std.proofs.Common.{◌≡◌, ◌∙◌, ◌==◌, ◌&&◌, ℕ, Bool, true, false, refl, sym, ap, arith}
use Rattle.std.specs.Int.RustNames.{bit_and}
use Rattle.std.proofs.lemmas.Nat.{and_assoc, and_comm, and_le_r}
use Rattle.std.proofs.lemmas.Bool.{eqb-true, eq-eqb, and_parts, and_from}
use Rattle.redir_wire.proofs.packet.Caps.agreed.Goals as goal

same : (x y : Bool) → (x ≡ true → y ≡ true) → (y ≡ true → x ≡ true) → x ≡ y
same true y there back = sym (there refl)
same false true there back = back refl
same false false there back = refl

-- what both have all of, each has all of
first_has : (a b f : ℕ) → bit_and (bit_and a b) f ≡ f → bit_and a f ≡ f
first_has a b f e =
    let through : bit_and (bit_and a b) f ≡ bit_and b (bit_and a f) = ap (λ (n : ℕ). bit_and n f) (and_comm a b) ∙ and_assoc f b a in
    omega (arith, e, through, and_le_r b (bit_and a f), and_le_r a f)

each_has : (a b f : ℕ) → (bit_and (bit_and a b) f == f) ≡ true → ((bit_and a f == f) && (bit_and b f == f)) ≡ true
each_has a b f e =
    let all = eqb-true (bit_and (bit_and a b) f) f e in
    let swapped = ap (λ (n : ℕ). bit_and n f) (and_comm b a) ∙ all in
    and_from (bit_and a f == f) (bit_and b f == f) (eq-eqb (bit_and a f) f (first_has a b f all)) (eq-eqb (bit_and b f) f (first_has b a f swapped))

-- and the other way round
both_have : (a b f : ℕ) → ((bit_and a f == f) && (bit_and b f == f)) ≡ true → (bit_and (bit_and a b) f == f) ≡ true
both_have a b f e =
    let parts = and_parts (bit_and a f == f) (bit_and b f == f) e in
    eq-eqb (bit_and (bit_and a b) f) f (and_assoc f a b ∙ ap (bit_and a) (eqb-true (bit_and b f) f parts.1) ∙ eqb-true (bit_and a f) f parts.0)

has_both : (a b f : ℕ) → (bit_and (bit_and a b) f == f) ≡ ((bit_and a f == f) && (bit_and b f == f))
has_both a b f = same (bit_and (bit_and a b) f == f) ((bit_and a f == f) && (bit_and b f == f)) (each_has a b f) (both_have a b f)

pub returns-clause-both : goal.returns-clause-both
returns-clause-both c = λ flag. rw (c.intersection.ensures tt) (has_both c.args.self.0 c.args.other.0 flag.0)
