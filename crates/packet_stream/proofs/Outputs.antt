-- Items one after another, and put on those before them.
use Rattle.std.proofs.Common.{◌≡◌, List, [], ◌∷◌, ◌++◌, refl, sym, ap, ◌∙◌, append_assoc}
use Rattle.std.specs.Prelude.{fold}
use Rattle.std.proofs.lemmas.List.{append-nil}
use Rattle.packet_stream.specs.Items.{onto}
use Rattle.packet_stream.specs.Folds.{rfold}
use Rattle.packet_stream.specs.Outputs.{past_outputs, outputs}

pub outputs-append : {S A B : Type 0} (step : S → A → S) (gives : S → A → List B) (s : S) (xs ys : List A) →
    outputs step gives s (xs ++ ys) ≡ outputs step gives s xs ++ outputs step gives (fold step s xs) ys
outputs-append step gives s [] ys = refl
outputs-append step gives s (x ∷ xs) ys =
    ap (λ zs. gives s x ++ zs) (outputs-append step gives (step s x) xs ys)
    ∙ sym (append_assoc (gives s x) (outputs step gives (step s x) xs) (outputs step gives (fold step (step s x) xs) ys))

pub fold-onto : {S A : Type 0} (step : S → A → S) (s : S) (xs past : List A) → rfold step s (onto xs past) ≡ fold step (rfold step s past) xs
fold-onto step s [] past = refl
fold-onto step s (x ∷ xs) past = fold-onto step s xs (x ∷ past)

pub outputs-onto : {S A B : Type 0} (step : S → A → S) (gives : S → A → List B) (s : S) (xs past : List A) →
    past_outputs (λ before. gives (rfold step s before)) (onto xs past) ≡ past_outputs (λ before. gives (rfold step s before)) past ++ outputs step gives (rfold step s past) xs
outputs-onto step gives s [] past = sym (append-nil (past_outputs (λ before. gives (rfold step s before)) past))
outputs-onto step gives s (x ∷ xs) past =
    outputs-onto step gives s xs (x ∷ past)
    ∙ append_assoc (past_outputs (λ before. gives (rfold step s before)) past) (gives (rfold step s past) x) (outputs step gives (step (rfold step s past) x) xs)
