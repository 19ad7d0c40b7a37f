-- Fronts of what was moved, and the end of a tape.
use Rattle.std.proofs.Common.{◌≡◌, ℕ, ◌≤◌, List, [], ◌∷◌, ◌++◌, length, take, Option, Result, Ok, sym, ap, ◌∙◌, append_assoc}
use Rattle.std.proofs.lemmas.List.{length-take-le}
use Rattle.std.specs.Io.KnownBytes.{Appends}
use Rattle.std.proofs.KnownBytes.{Appends-trans}
use Rattle.gate_outside.specs.declared.fault.Failed.{Failed}
use Rattle.gate_outside.specs.Front.{AppendsFront}
use Rattle.gate_outside.specs.Moved.{Move, MayFollow, Moves, MovesFront}
use Rattle.gate_outside.proofs.Moving.{moves-append}

-- ---- fronts

-- of bytes and then more a front was written, at most the bytes
pub appends-less : (old new : Option (List ℕ)) (bytes more : List ℕ) → AppendsFront old new bytes → AppendsFront old new (bytes ++ more)
appends-less old new bytes more f = record { front = f.front; back = f.back ++ more; parts = ap (λ (l : List ℕ). l ++ more) f.parts ∙ append_assoc f.front f.back more; appends = f.appends }

-- the bytes were written, and a front of what comes behind them
pub appends-further : (old mid new : Option (List ℕ)) (bytes more : List ℕ) → Appends old mid bytes → AppendsFront mid new more → AppendsFront old new (bytes ++ more)
appends-further old mid new bytes more a f = record {
  front = bytes ++ f.front;
  back = f.back;
  parts = ap (λ (l : List ℕ). bytes ++ l) f.parts ∙ sym (append_assoc bytes f.front f.back);
  appends = Appends-trans old mid new bytes f.front a f.appends;
}

pub moves-further : {S : Type 0} (gives : S → List ℕ → Result ℕ Failed → S → Type 0) (bytes more : List ℕ) (old mid new : S) → Moves gives bytes old mid → MovesFront gives more mid new → MovesFront gives (bytes ++ more) old new
moves-further gives bytes more old mid new m f = record {
  front = bytes ++ f.front;
  back = f.back;
  parts = ap (λ (l : List ℕ). bytes ++ l) f.parts ∙ sym (append_assoc bytes f.front f.back);
  moves = moves-append gives bytes f.front old mid new m f.moves;
}

-- ---- the end

abbrev gave : ℕ → Result ℕ Failed
gave n = Ok n

-- a read that gave nothing has found the end
pub at_end : (n : ℕ) (buf : List ℕ) (reads : List Move) (later : List ℕ) → n ≤ length buf → MayFollow (record { bytes = buf; answer = Ok n } ∷ reads) later → take n buf ≡ [] → later ≡ []
at_end n buf reads later bound follows none =
    let zero : n ≡ 0 = sym (length-take-le n buf bound) ∙ ap length none in follows (ap gave zero)
