-- What moves of a part of a list leave.
use Rattle.std.proofs.Common.{◌≡◌, ℕ, ◌+◌, ◌-◌, ◌<◌, List, ◌++◌, length, take, drop, suc, ap, sym, ◌∙◌, arith, append_assoc, length-take, length-drop}
use Rattle.std.specs.List.{remove, copy_within}
use Rattle.std.proofs.lemmas.List.{drop-drop, drop_at, take-append-drop}
use Rattle.std.proofs.lemmas.List.Edits.{remove-append_right}

module _ {X : Type 0} (xs : List X) where
  -- those before a place move by one to the back, and the first place is left out
  pub front_moved : (front place : ℕ) → place < length (drop front xs) → drop (front + 1) (copy_within xs front (front + place) (front + 1)) ≡ remove (drop front xs) place
  front_moved front place below =
      let rest = length-drop front xs in
      let count : front + place - front ≡ place = omega arith in
      let long : length (take (front + 1) xs) ≡ front + 1 = omega (arith, length-take (front + 1) xs) in
      let behind : front + 1 + place ≡ front + suc place = omega arith in
      ap (λ n. drop (front + 1) ((take (front + 1) xs ++ take n (drop front xs)) ++ drop (front + 1 + n) xs)) count
      ∙ ap (drop (front + 1)) (append_assoc (take (front + 1) xs) (take place (drop front xs)) (drop (front + 1 + place) xs))
      ∙ drop_at (take (front + 1) xs) _ (front + 1) long
      ∙ ap (λ l. take place (drop front xs) ++ l) (ap (λ n. drop n xs) behind ∙ sym (drop-drop (suc place) front xs))

  -- what is taken out behind a front
  pub drop-remove : (front place : ℕ) → place < length (drop front xs) → drop front (remove xs (front + place)) ≡ remove (drop front xs) place
  drop-remove front place below =
      let rest = length-drop front xs in
      let long : length (take front xs) ≡ front = omega (arith, length-take front xs) in
      let count : front + place - front ≡ place = omega arith in
      ap (λ l. drop front (remove l (front + place))) (sym (take-append-drop front xs))
      ∙ ap (drop front) (remove-append_right (take front xs) (drop front xs) front (front + place) long (omega arith))
      ∙ drop_at (take front xs) _ front long ∙ ap (λ n. remove (drop front xs) n) count
