-- What a run leaves over a tape and a sink that tell their bytes, from what it read and wrote.
use Rattle.std.proofs.Common.{◌≡◌, ℕ, List, [], ◌++◌, Option, Some, None, refl, sym, ap, subst, ◌∙◌}
use Rattle.std.proofs.lemmas.Option.{none-some, same_Some}
use Rattle.std.specs.Io.KnownBytes.{Appends, Consumes, IsAtEnd}
use Rattle.tape_run.specs.declared.status.Status.{Status}
use Rattle.tape_run.specs.Printout.{Printout}
use Rattle.tape_run.specs.Run.{LeavesTold, LeavesWhereTold}

-- the tape, where it is told, is what was read and what is remaining
pub remaining_told : (old new : Option (List ℕ)) (read tape : List ℕ) → Consumes old new read → old ≡ Some tape → (rest : List ℕ) × (new ≡ Some rest) × (tape ≡ read ++ rest)
remaining_told None new read tape c e = absurd (none-some tape e)
remaining_told (Some x) None read tape c e = absurd c
remaining_told (Some x) (Some rest) read tape c e = (rest, refl, same_Some tape x (sym e) ∙ c)

pub contents_told : (old new : Option (List ℕ)) (bytes text : List ℕ) → Appends old new bytes → old ≡ Some text → new ≡ Some (text ++ bytes)
contents_told None new bytes text a e = absurd (none-some text e)
contents_told (Some x) None bytes text a e = absurd a
contents_told (Some x) (Some y) bytes text a e = ap (λ (l : List ℕ). Some l) (a ∙ ap (λ (l : List ℕ). l ++ bytes) (same_Some x text e))

pub at_end_told : (new : Option (List ℕ)) (rest : List ℕ) → IsAtEnd new → new ≡ Some rest → rest ≡ []
at_end_told None rest end e = absurd (none-some rest e)
at_end_told (Some x) rest end e = same_Some rest x (sym e) ∙ end

-- what is left of any tape that begins so is left of one that tells its bytes
pub leaves-told : (status : Status) (p : Printout) (remaining_old remaining contents_old contents : Option (List ℕ)) (read written : List ℕ) → Consumes remaining_old remaining read → Appends contents_old contents written
    → ((later : List ℕ) → remaining ≡ Some later → LeavesTold status p (read ++ later) (Some later) written) → LeavesWhereTold status p remaining_old remaining contents_old contents
leaves-told status p remaining_old remaining contents_old contents read written consumed wrote leaves = λ tape text tape_told text_told.
    let t = remaining_told remaining_old remaining read tape consumed tape_told in (
      written,
      contents_told contents_old contents written text wrote text_told,
      subst (λ (l : List ℕ). LeavesTold status p l remaining written) (sym t.2) (subst (λ (o : Option (List ℕ)). LeavesTold status p (read ++ t.0) o written) (sym t.1) (leaves t.0 t.1)),
    )
