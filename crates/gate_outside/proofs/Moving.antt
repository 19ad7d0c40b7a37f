-- Moves behind other moves.
use Rattle.std.proofs.Common.{◌≡◌, ℕ, List, [], ◌∷◌, ◌++◌, Result, refl, sym, ap, subst, ◌∙◌, append_assoc}
use Rattle.std.proofs.lemmas.List.{append-nil}
use Rattle.gate_outside.specs.declared.fault.Failed.{Failed}
use Rattle.gate_outside.specs.Calls.{Called, front_of}
use Rattle.gate_outside.specs.Moved.{Move, moved, Moves}

-- calls behind other calls
called-append : {C D : Type 0} (gives : D → C → D → Type 0) (later earlier : List C) (old mid new : D) → Called gives earlier old mid → Called gives later mid new → Called gives (later ++ earlier) old new
called-append {D = D} gives [] earlier old mid new before behind = subst (λ (d : D). Called gives earlier old d) (sym behind) before
called-append gives (call ∷ later) earlier old mid new before behind = (behind.0, (called-append gives later earlier old mid behind.0 before behind.1.0, behind.1.1))

moved-append : (later earlier : List Move) → moved (later ++ earlier) ≡ moved earlier ++ moved later
moved-append [] earlier = sym (append-nil (moved earlier))
moved-append (move ∷ later) earlier = ap (λ (l : List ℕ). l ++ front_of move.answer move.bytes) (moved-append later earlier) ∙ append_assoc (moved earlier) (moved later) (front_of move.answer move.bytes)

-- nothing was moved
pub moves-none : {S : Type 0} (gives : S → List ℕ → Result ℕ Failed → S → Type 0) (now : S) → Moves gives [] now now
moves-none gives now = record { moves = []; called = refl; all = refl }

-- bytes were moved, and then more
pub moves-append : {S : Type 0} (gives : S → List ℕ → Result ℕ Failed → S → Type 0) (bytes more : List ℕ) (old mid new : S) → Moves gives bytes old mid → Moves gives more mid new → Moves gives (bytes ++ more) old new
moves-append {S = S} gives bytes more old mid new before behind = record {
  moves = behind.moves ++ before.moves;
  called = called-append (λ (s : S) (move : Move) (t : S). gives s move.bytes move.answer t) behind.moves before.moves old mid new before.called behind.called;
  all = moved-append behind.moves before.moves ∙ ap (λ (l : List ℕ). l ++ moved behind.moves) before.all ∙ ap (λ (l : List ℕ). bytes ++ l) behind.all;
}
