-- What was sent and told, and more of it.
use Rattle.std.proofs.Common.{◌≡◌, ℕ, List, [], ◌++◌, sym, ap, ◌∙◌, append_assoc}
use Rattle.std.proofs.lemmas.List.{append-nil}
use Rattle.gate_history.specs.declared.note.Note.{Note}
use Rattle.gate_parts.specs.declared.write.outputs.Outputs.{Outputs}
use Rattle.gate_parts.specs.write.Outputs.{with_answers, HasSome}

pub with-none : (o : Outputs) → with_answers o [] [] ≡ o
with-none o = λ i. record o { to_client = append-nil o.to_client i; notes = append-nil o.notes i }

pub with-both : (o : Outputs) (a b : List ℕ) (x y : List Note) → with_answers (with_answers o a x) b y ≡ with_answers o (a ++ b) (x ++ y)
with-both o a b x y = λ i. record o { to_client = append_assoc o.to_client a b i; notes = append_assoc o.notes x y i }

-- what has some has some more
pub extended : {old now new : Outputs} → HasSome old now → (bytes : List ℕ) (notes : List Note) → new ≡ with_answers now bytes notes → HasSome old new
extended {old = old} e bytes notes is = record {
  bytes = e.bytes ++ bytes;
  notes = e.notes ++ notes;
  is = is ∙ ap (λ (o : Outputs). with_answers o bytes notes) e.is ∙ with-both old e.bytes bytes e.notes notes;
}

pub some-none : (o : Outputs) → HasSome o o
some-none o = record { bytes = []; notes = []; is = sym (with-none o) }

-- only notes were told
pub some-told : (o : Outputs) (new told : List Note) → new ≡ o.notes ++ told → HasSome o (record o { notes = new })
some-told o new told is = record { bytes = []; notes = told; is = λ i. record o { to_client = sym (append-nil o.to_client) i; notes = is i } }
