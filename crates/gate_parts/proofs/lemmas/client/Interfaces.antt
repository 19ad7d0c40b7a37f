-- Rows of interfaces, as long as their columns.
use Rattle.std.proofs.Common.{◌≡◌, ℕ, ◌+◌, ◌-◌, ◌<◌, ◌≤◌, List, [], ◌∷◌, ◌++◌, length, get_or, take, drop, min, suc, refl, sym, ap, ◌∙◌, append_assoc, arith}
use Rattle.std.proofs.lemmas.List.{append-nil, drop_more, take_min, length-take}
use Rattle.usbip_op.specs.declared.packet.IfaceRow.{IfaceRow}
use Rattle.gate_history.specs.client.Replies.{rows}

pub length-rows : (cs ss ps : List ℕ) (n : ℕ) → length cs ≡ n → length ss ≡ n → length ps ≡ n → length (rows cs ss ps) ≡ n
length-rows [] ss ps n a b c = a
length-rows (c ∷ cs) [] ps n a b c' = absurd (omega arith)
length-rows (c ∷ cs) (s ∷ ss) [] n a b c' = absurd (omega arith)
length-rows (c ∷ cs) (s ∷ ss) (p ∷ ps) n a b c' =
    let h = length-rows cs ss ps (length cs) refl (omega arith) (omega arith) in omega arith

-- one row, and the rows after it
pub rows_more : (k : ℕ) (cs ss ps : List ℕ) → k < length cs → k < length ss → k < length ps →
    rows (drop k cs) (drop k ss) (drop k ps)
    ≡ record { class = get_or cs k 0; subclass = get_or ss k 0; protocol = get_or ps k 0; pad = 0 } ∷ rows (drop (k + 1) cs) (drop (k + 1) ss) (drop (k + 1) ps)
rows_more k cs ss ps a b c = rw (drop_more cs k 0 a, drop_more ss k 0 b, drop_more ps k 0 c) refl

-- a step of the loop that makes rows
pub rows_step : (k count : ℕ) (done all : List IfaceRow) (cs ss ps : List ℕ) → k < count → k < length cs → k < length ss → k < length ps →
    done ++ take (count - k) (rows (drop k cs) (drop k ss) (drop k ps)) ≡ all →
    (done ++ record { class = get_or cs k 0; subclass = get_or ss k 0; protocol = get_or ps k 0; pad = 0 } ∷ []) ++ take (count - (k + 1)) (rows (drop (k + 1) cs) (drop (k + 1) ss) (drop (k + 1) ps)) ≡ all
rows_step k count done all cs ss ps below a b c e =
    let row : IfaceRow = record { class = get_or cs k 0; subclass = get_or ss k 0; protocol = get_or ps k 0; pad = 0 } in
    let more = rows (drop (k + 1) cs) (drop (k + 1) ss) (drop (k + 1) ps) in
    let one : count - k ≡ suc (count - (k + 1)) = omega arith in
    let taken : take (count - k) (rows (drop k cs) (drop k ss) (drop k ps)) ≡ row ∷ take (count - (k + 1)) more =
    ap (take (count - k)) (rows_more k cs ss ps a b c) ∙ ap (λ (n : ℕ). take n (row ∷ more)) one in
    append_assoc done (row ∷ []) (take (count - (k + 1)) more) ∙ ap (λ (l : List IfaceRow). done ++ l) (sym taken) ∙ e

-- and its end
pub rows_end : (k told count : ℕ) (done : List IfaceRow) (cs ss ps : List ℕ) → count ≡ min told 32 → count ≤ k → length cs ≡ 32 → length ss ≡ 32 → length ps ≡ 32 →
    done ++ take (count - k) (rows (drop k cs) (drop k ss) (drop k ps)) ≡ take count (rows cs ss ps) → done ≡ take told (rows cs ss ps)
rows_end k told count done cs ss ps is past a b c e =
    let none : count - k ≡ 0 = omega arith in
    let all = length-rows cs ss ps 32 a b c in
    sym (append-nil done) ∙ ap (λ (n : ℕ). done ++ take n (rows (drop k cs) (drop k ss) (drop k ps))) (sym none) ∙ e
    ∙ ap (λ (n : ℕ). take n (rows cs ss ps)) (is ∙ ap (min told) (sym all)) ∙ take_min told (rows cs ss ps)

-- how many there are
pub count-rows : (told : ℕ) (cs ss ps : List ℕ) → length cs ≡ 32 → length ss ≡ 32 → length ps ≡ 32 → min told 32 ≡ length (take told (rows cs ss ps))
count-rows told cs ss ps a b c = sym (length-take told (rows cs ss ps) ∙ ap (min told) (length-rows cs ss ps 32 a b c))
