use Rattle.std.proofs.Common.{List, ℕ, [], length, refl, sym, ap, subst, ◌∙◌, arith}
use Rattle.std.proofs.lemmas.List.{append-nil}
use Rattle.tape_run.specs.Run.{HasNoLF}
use Rattle.tape_run.specs.tape.TapeCommand.{begin}
use Rattle.tape_run.proofs.tape.reader.TapeReader.start.Goals as goal

pub returns : goal.returns
returns g c = λ task kept opening. record {
  whole = [];
  text = [];
  at = begin (g.C.TapeCommand.means task);
  read-is = sym c.new.ensures;
  whole_lines = tt;
  part_of_line = subst HasNoLF (sym c.new.ensures) tt;
  bytes-is = refl;
  within = omega (arith, ap (λ (l : List ℕ). length l) c.new.ensures);
  text-is = opening ∙ sym (append-nil (g.C.TapeCommand.means task).opening);
  reads = λ later. refl;
  has_read = c.start.ensures task kept;
}
