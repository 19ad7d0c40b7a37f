-- What is left of a block that was written into.
use Rattle.std.proofs.Common.{◌≡◌, ◌≤◌, ◌+◌, ◌-◌, ◌++◌, ℕ, List, take, drop, length, refl, subst, ap, sym, ◌∙◌, arith}
use Rattle.std.proofs.Math.Seq.{take-append-add}
use Rattle.std.proofs.lemmas.List.{take-append-le, length-take-le, drop-append-le, drop_at, take_at, take-take, drop-take, drop-drop}
use borrow.Rule.Slice.PartMut.{put_mid}
use Rattle.usb_base.specs.Number.{AreBytes}
use Rattle.usb_base.proofs.Numbers.{AreBytes-take, AreBytes-drop}

-- bytes that were put at a place, as far as n of them
pub put-behind : (xs put rest : List ℕ) (place n : ℕ) → place ≤ length xs → n ≤ length put → take (place + n) (take place xs ++ (put ++ rest)) ≡ take place xs ++ take n put
put-behind xs put rest place n there within =
    ap (λ (m : ℕ). take (m + n) (take place xs ++ (put ++ rest))) (sym (length-take-le place xs there))
    ∙ take-append-add (take place xs) (put ++ rest) n
    ∙ ap (λ ys. take place xs ++ ys) (take-append-le n put rest within)

-- what was put at a place stands there
pub put-there : (xs ys put : List ℕ) (place n : ℕ) → place ≤ length xs → n ≡ length put → take (place + length put) ys ≡ take place xs ++ put → drop place (take (place + n) ys) ≡ put
put-there xs ys put place n there count is =
    ap (λ (m : ℕ). drop place (take (place + m) ys)) count ∙ ap (drop place) is ∙ drop_at (take place xs) put place (length-take-le place xs there)

-- and behind what stands from `front` to `end`
pub put-on : (xs ys put : List ℕ) (front end n : ℕ) → front ≤ end → end ≤ length xs → take (end + n) ys ≡ take end xs ++ put → drop front (take (end + n) ys) ≡ drop front (take end xs) ++ put
put-on xs ys put front end n before there is =
    ap (drop front) is ∙ drop-append-le front (take end xs) put (omega (arith, length-take-le end xs there, before))

-- what stands in front stays as a block grows
pub grown : (xs ys : List ℕ) (end : ℕ) → end ≤ length xs → take (length xs) ys ≡ xs → take end ys ≡ take end xs
grown xs ys end there stands = sym (take-take end (length xs) ys there) ∙ ap (take end) stands

-- a part of what stands from `front` to `end`
pub part-of : (xs : List ℕ) (front end from len : ℕ) → front + from + len ≤ end → take len (drop (front + from) xs) ≡ take len (drop from (drop front (take end xs)))
part-of xs front end from len within =
    let n = front + from in
    let k = end - n in
    let whole : n + k ≡ end = omega (arith, within) in
    sym (take-take len k (drop n xs) (omega (arith, within)))
    ∙ ap (take len) (sym (drop-take n k xs) ∙ ap (λ (m : ℕ). drop n (take m xs)) whole ∙ sym (drop-drop from front (take end xs)))

-- the bytes from `front` to `end`, cut out of a block
pub cut-out : {X : Type 0} (xs : List X) (front end : ℕ) → front ≤ end → take (end - front) (drop front xs) ≡ drop front (take end xs)
cut-out xs front end before =
    let whole : front + (end - front) ≡ end = omega (arith, before) in
    sym (drop-take front (end - front) xs) ∙ ap (λ (m : ℕ). drop front (take m xs)) whole

-- what was put at a place is bytes where the whole block is
pub put-bytes : (xs put rest : List ℕ) (place : ℕ) → place ≤ length xs → AreBytes (take place xs ++ (put ++ rest)) → AreBytes put
put-bytes xs put rest place there bytes =
    subst AreBytes (take_at put rest (length put) refl) (AreBytes-take (length put) (put ++ rest) (subst AreBytes (drop_at (take place xs) (put ++ rest) place (length-take-le place xs there)) (AreBytes-drop place (take place xs ++ (put ++ rest)) bytes)))

-- what is put right before what stands as far as `end` stands before it
pub put-before : (xs ys : List ℕ) (place k end : ℕ) → length ys ≡ k → place + k ≤ end → end ≤ length xs → drop place (take end (put_mid place k xs ys)) ≡ ys ++ drop (place + k) (take end xs)
put-before xs ys place k end count within there =
    let behind = end - (place + k) in
    let whole : place + (length ys + behind) ≡ end = omega (arith, count, within) in
    let back : place + k + behind ≡ end = omega (arith, within) in
    ap (λ (m : ℕ). drop place (take m (put_mid place k xs ys))) (sym whole)
    ∙ drop-take place (length ys + behind) (put_mid place k xs ys)
    ∙ ap (take (length ys + behind)) (drop_at (take place xs) _ place (length-take-le place xs (omega (arith, within, there))))
    ∙ take-append-add ys _ behind
    ∙ ap (λ zs. ys ++ take behind zs) (drop-drop k place xs)
    ∙ ap (λ zs. ys ++ zs) (sym (drop-take (place + k) behind xs) ∙ ap (λ (m : ℕ). drop (place + k) (take m xs)) back)
