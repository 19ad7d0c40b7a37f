-- What stands in a space behind its used bytes after a copy into it.
use Rattle.std.proofs.Common.{◌≡◌, ◌≤◌, ℕ, ◌+◌, List, ◌++◌, length, take, ap, sym, ◌∙◌}
use Rattle.std.proofs.Math.Seq.{take-append-add}
use Rattle.std.proofs.lemmas.List.{take-append-le}

pub take-written : (used n : ℕ) (old copied rest from : List ℕ) → length old ≡ used → n ≤ length copied → take n copied ≡ take n from →
    take (used + n) (old ++ (copied ++ rest)) ≡ old ++ take n from
take-written used n old copied rest from is fits same =
    ap (λ (k : ℕ). take (k + n) (old ++ (copied ++ rest))) (sym is) ∙ take-append-add old (copied ++ rest) n
    ∙ ap (λ (l : List ℕ). old ++ l) (take-append-le n copied rest fits ∙ same)
