-- Two formats joined to one: a test of the first bytes says by which of them a packet is read.
use Rattle.std.specs.Prelude.{ℕ, Bool, not, ◌&&◌, if◌then◌else◌, List, [], ◌∷◌, ◌++◌, ◌⊎◌}
use Rattle.std.proofs.Common.{inl, inr}
use Rattle.packet_stream.specs.Format.{Check, Format}

-- the checks are tried only where the test holds
abbrev pub guarded : {R : Type 0} → (List ℕ → Bool) → List (Check R) → List (Check R)
guarded test [] = []
guarded test (c ∷ cs) = record c { tried = λ b. test b && c.tried b } ∷ guarded test cs

abbrev pub joined_spelling : {P Q R : Type 0} → Format P R → Format Q R → P ⊎ Q → List ℕ
joined_spelling f g (inl p) = f.spelling p
joined_spelling f g (inr q) = g.spelling q

abbrev pub JoinedFits : {P Q R : Type 0} → Format P R → Format Q R → P ⊎ Q → Type 0
JoinedFits f g (inl p) = f.Fits p
JoinedFits f g (inr q) = g.Fits q

-- a packet is one of f where the test holds, and else one of g: so each is named among both, and `sort` says which it
-- is
abbrev pub joined : {P Q X R : Type 0} → (List ℕ → Bool) → (P → X) → (Q → X) → (X → P ⊎ Q) → Format P R → Format Q R → Format X R
joined test left right sort f g = record {
  checks = guarded test f.checks ++ guarded (λ b. not (test b)) g.checks;
  size = λ b. if test b then f.size b else g.size b;
  packet = λ b. if test b then left (f.packet b) else right (g.packet b);
  spelling = λ x. joined_spelling f g (sort x);
  Fits = λ x. JoinedFits f g (sort x);
}
