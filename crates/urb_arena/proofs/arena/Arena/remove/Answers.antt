use Rattle.std.proofs.Common.{Option, Some, None, MatchOption, OnSome, arith}
use Rattle.urb_arena.proofs.Views.{table_len}
use Rattle.urb_arena.proofs.arena.Arena.remove.Goals as goal

taken : {X : Type 0} (P Q R : Type 0) (o : Option X) → MatchOption o P (λ _. Q) → (Q → R) → OnSome o R
taken P Q R None told f = tt
taken P Q R (Some x) told f = f told

pub returns-clause-len : goal.returns-clause-len
returns-clause-len g c =
    let old = table_len c.self.inside.table c.self.invariant in let new = table_len c.remove.new.self c.remove.ensures.table.0 in
    rw (← c.self.view_is) (taken _ _ _ c.remove.result c.remove.ensures.len (λ less. omega (arith, less, old, new)))
