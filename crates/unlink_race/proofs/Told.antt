-- What an answer is, by what its clauses say.
use Rattle.std.proofs.Common.{◌≡◌, Option, Some, None, IsSome, Result, Ok, Err, IfOk, IfErr, is_ok, true, refl, subst}
use Rattle.std.specs.Option.{option_copied, option_copied_mut}
use Rattle.std.specs.Result.{result_ok}
use denote.Ref.{Bor, MutBor}

module _ {X : Type 0} where
  pub there : (o : Option X) (x : X) → o ≡ Some x → IsSome o
  there o x is = rw is refl

  pub lent : (o : Option (Bor X)) (x : X) → option_copied o ≡ Some x → IsSome o
  lent None x is = let e : None ≡ Some x = is in absurd (cc)
  lent (Some b) x is = refl

  pub lent_mut : (o : Option (MutBor X)) (x : X) → option_copied_mut o ≡ Some x → IsSome o
  lent_mut None x is = let e : None ≡ Some x = is in absurd (cc)
  lent_mut (Some b) x is = refl

module _ {K X : Type 0} where
  pub no_error : (Q : X → Type 0) (r : Result K X) → IfErr r Q → ((x : X) → Q x → ⊥) → is_ok r ≡ true
  no_error Q (Ok k) told never = refl
  no_error Q (Err x) told never = absurd (never x told)

  pub told_ok : (P : K → Type 0) (r : Result K X) (k : K) → result_ok r ≡ Some k → IfOk r P → P k
  told_ok P (Ok j) k is told =
      let e : Some j ≡ Some k = is in
      let same : j ≡ k = cc in
      subst P same told
  told_ok P (Err x) k is told = let e : None ≡ Some k = is in absurd (cc)
