-- What an output that has to be cut back begins with.
use Rattle.std.proofs.Common.{◌≡◌, List, Result, Ok, Err, [], take, length, sym, ap, ◌∙◌}
use Rattle.std.specs.Prelude.{OnErr}
use Rattle.std.proofs.Math.Seq.{take-append_seam}
use Rattle.std.proofs.lemmas.List.{append-nil}
use Rattle.usb_base.specs.Writes.{Begins}

-- a list begins itself
pub begins_itself : {X T E : Type 0} (r : Result T E) (xs : List X) → OnErr r (Begins xs xs)
begins_itself (Ok v) xs = tt
begins_itself (Err e) xs = record { more = []; is = sym (append-nil xs) }

-- cut to the length of what it begins with, a list is that
pub front-begun : {X : Type 0} (xs ys : List X) → Begins xs ys → take (length xs) ys ≡ xs
front-begun xs ys b = ap (take (length xs)) b.is ∙ take-append_seam xs b.more
