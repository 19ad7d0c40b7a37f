-- The keys of a queue, as the requests change.
use Rattle.std.proofs.Common.{◌≡◌, ◌<◌, ◌-◌, ◌==◌, ◌&&◌, ℕ, Bool, true, false, cond, not, filter, List, [], ◌∷◌, Some, None, refl, sym, ap, subst, ◌∙◌, arith, inl, inr}
use Rattle.std.specs.Prelude.{Option, nat_le, nat_lt}
use Rattle.std.specs.List.{find}
use Rattle.std.specs.Map.{lookup, remove_entry}
use Rattle.std.proofs.lemmas.Bool.{cases_Bool, cases_eq, eq-eqb, ltb-false, ltb-true, ne_eqb}
use Rattle.slab.specs.Slab.{Slab, get}
use Rattle.usb_base.specs.Endpoint.{IsEndpoint, endpoint_index, is_control}
use Rattle.redir_host.specs.declared.state.request.Request.{Request}
use Rattle.redir_host.specs.inner.Waiting.{if_there, is_from, is_key_of, place_of}
use Rattle.redir_host.specs.state.Queues.{is_at, queue_of}
use Rattle.redir_host.proofs.lemmas.state.Each.{each_filtered}
use Rattle.redir_host.proofs.lemmas.state.Keyed.{is_entry_of}
use Rattle.redir_host.proofs.lemmas.state.Numbered.{Above, Sorted, apart, at, head_above, looked_here, removed_behind, removed_here, tail_sorted}

-- ---- places tell queues apart

queue_endpoint : (a : ℕ) → IsEndpoint a → IsEndpoint (queue_of a)
queue_endpoint a is = elim (is_control a) as (λ (b : Bool). IsEndpoint (cond b 0 a)) [ true ↦ omega arith | false ↦ is ]

index_tells : (a b : ℕ) → IsEndpoint a → IsEndpoint b → endpoint_index a ≡ endpoint_index b → a ≡ b
index_tells a b here there same = by (nat_lt a 128) refl (nat_lt b 128) refl
  where
    by : (x : Bool) → nat_lt a 128 ≡ x → (y : Bool) → nat_lt b 128 ≡ y → a ≡ b
    by x e y f =
        let is : cond x a (a - 112) ≡ cond y b (b - 112) = sym (ap (λ (t : Bool). cond t a (a - 112)) e) ∙ same ∙ ap (λ (t : Bool). cond t b (b - 112)) f in
        cases x e y f is
      where
        cases : (x : Bool) → nat_lt a 128 ≡ x → (y : Bool) → nat_lt b 128 ≡ y → cond x a (a - 112) ≡ cond y b (b - 112) → a ≡ b
        cases true e true f is = is
        cases true e false f is = let low = ltb-true a 128 e in let high = ltb-false b 128 f in absurd (omega (arith, low, high, is, here, there))
        cases false e true f is = let high = ltb-false a 128 e in let low = ltb-true b 128 f in absurd (omega (arith, low, high, is, here, there))
        cases false e false f is = let one = ltb-false a 128 e in let two = ltb-false b 128 f in omega (arith, one, two, is)

pub place_tells : (a b : ℕ) → IsEndpoint a → IsEndpoint b → place_of a ≡ place_of b → queue_of a ≡ queue_of b
place_tells a b here there same = index_tells (queue_of a) (queue_of b) (queue_endpoint a here) (queue_endpoint b there) same

-- ---- searches

-- of endpoint 0's queue from a number on
pub found_from : (number : ℕ) (s : Slab Request) (es : List (ℕ × ℕ)) → find (λ (e : ℕ × ℕ). nat_le number e.0) (filter (is_key_of (is_at 0) s) es) ≡ find (is_entry_of (is_from 0 number) s) es
found_from number s [] = refl
found_from number s (e ∷ es) = by (get s e.1) (filter (is_key_of (is_at 0) s) es) (find (is_entry_of (is_from 0 number) s) es) (found_from number s es)
  where
    by : (o : Option Request) (keys : List (ℕ × ℕ)) (found : Option (ℕ × ℕ)) → find (λ (x : ℕ × ℕ). nat_le number x.0) keys ≡ found →
        find (λ (x : ℕ × ℕ). nat_le number x.0) (cond (if_there (is_at 0) o) (e ∷ keys) keys) ≡ cond (if_there (λ q. is_from 0 number (e.0, q)) o) (Some e) found
    by None keys found is = is
    by (Some q) keys found is =
        elim (queue_of q.transfer.ep == 0) as (λ (b : Bool). find (λ (x : ℕ × ℕ). nat_le number x.0) (cond b (e ∷ keys) keys) ≡ cond (nat_le number e.0 && b) (Some e) found) [
          | true ↦ elim (nat_le number e.0) as (λ (c : Bool). cond c (Some e) (find (λ (x : ℕ × ℕ). nat_le number x.0) keys) ≡ cond (c && true) (Some e) found) [ true ↦ refl | false ↦ is ]
          | false ↦ elim (nat_le number e.0) as (λ (c : Bool). find (λ (x : ℕ × ℕ). nat_le number x.0) keys ≡ cond (c && false) (Some e) found) [ true ↦ is | false ↦ is ]
        ]

-- ---- one less

-- the first of a queue
pub popped : (p : ℕ × ℕ → Bool) (es : List (ℕ × ℕ)) (x : ℕ × ℕ) (rest : List (ℕ × ℕ)) → Sorted es → filter p es ≡ x ∷ rest → filter p (remove_entry (at x.0) es) ≡ rest
popped p [] x rest s is = absurd cc
popped p (e ∷ es) x rest s is = elim (cases_Bool (p e)) [
  | inl passes ↦
      let kept : e ∷ filter p es ≡ x ∷ rest = sym (ap (λ (b : Bool). cond b (e ∷ filter p es) (filter p es)) passes) ∙ is in
      let own : e ≡ x = cc in
      let behind : filter p es ≡ rest = cc in
      ap (λ (y : ℕ × ℕ). filter p (remove_entry (at y.0) (e ∷ es))) (sym own) ∙ ap (filter p) (removed_here e es) ∙ behind
  | inr fails ↦
      let kept : filter p es ≡ x ∷ rest = sym (ap (λ (b : Bool). cond b (e ∷ filter p es) (filter p es)) fails) ∙ is in
      let above : e.0 < x.0 = (subst (Above e.0) kept (each_filtered (λ (y : ℕ × ℕ). e.0 < y.0) p es (head_above e es s))).0 in
      ap (filter p) (removed_behind e es x.0 above) ∙ ap (λ (b : Bool). cond b (e ∷ filter p (remove_entry (at x.0) es)) (filter p (remove_entry (at x.0) es))) fails ∙ popped p es x rest (tail_sorted e es s) kept
]

-- one that is of no such queue
pub kept_other : (p : ℕ × ℕ → Bool) (n k : ℕ) (es : List (ℕ × ℕ)) → lookup (at n) es ≡ Some k → p (n, k) ≡ false → filter p (remove_entry (at n) es) ≡ filter p es
kept_other p n k [] is fails = absurd cc
kept_other p n k (e ∷ es) is fails = elim (cases_eq n e.0) [
  | inl same ↦
      let value : Some e.1 ≡ Some k = sym (ap (λ (m : ℕ). lookup (at m) (e ∷ es)) same ∙ looked_here e es) ∙ is in
      let own : k ≡ e.1 = cc in
      let here : (n, k) ≡ e = λ i. (same i, own i) in
      let fails_here : p e ≡ false = sym (ap p here) ∙ fails in
      ap (λ (m : ℕ). filter p (remove_entry (at m) (e ∷ es))) same ∙ ap (filter p) (removed_here e es) ∙ sym (ap (λ (b : Bool). cond b (e ∷ filter p es) (filter p es)) fails_here)
  | inr differ ↦
      let other = apart n e.0 differ in
      let behind : lookup (at n) es ≡ Some k = sym (ap (λ (b : Bool). cond b (Some e.1) (lookup (at n) es)) other) ∙ is in
      ap (λ (b : Bool). filter p (cond b es (e ∷ remove_entry (at n) es))) other ∙ ap (λ ys. cond (p e) (e ∷ ys) ys) (kept_other p n k es behind fails)
]

abbrev pub not_at : ℕ → ℕ × ℕ → Bool
not_at n e = not (e.0 == n)

above_stays : (n : ℕ) (es : List (ℕ × ℕ)) → Above n es → filter (not_at n) es ≡ es
above_stays n [] above = refl
above_stays n (e ∷ es) above =
    ap (λ (b : Bool). cond (not b) (e ∷ filter (not_at n) es) (filter (not_at n) es)) (ne_eqb e.0 n (λ same. omega (arith, above.0, same))) ∙ ap (λ ys. e ∷ ys) (above_stays n es above.1)

-- wherever it stands in its queue
pub kept_apart : (p : ℕ × ℕ → Bool) (n : ℕ) (es : List (ℕ × ℕ)) → Sorted es → filter (not_at n) (filter p es) ≡ filter p (remove_entry (at n) es)
kept_apart p n [] s = refl
kept_apart p n (e ∷ es) s = elim (cases_eq e.0 n) [
  | inl same ↦
      let gone : not_at n e ≡ false = ap not (eq-eqb e.0 n same) in
      (elim (p e) as (λ (b : Bool). filter (not_at n) (cond b (e ∷ filter p es) (filter p es)) ≡ filter (not_at n) (filter p es)) [ true ↦ ap (λ (b : Bool). cond b (e ∷ filter (not_at n) (filter p es)) (filter (not_at n) (filter p es))) gone | false ↦ refl ])
      ∙ above_stays n (filter p es) (each_filtered (λ (y : ℕ × ℕ). n < y.0) p es (subst (λ m. Above m es) same (head_above e es s)))
      ∙ ap (filter p) (sym (removed_here e es) ∙ ap (λ m. remove_entry (at m) (e ∷ es)) same)
  | inr differ ↦
      let stays : not_at n e ≡ true = ap not (ne_eqb e.0 n differ) in
      let other = apart n e.0 (λ same. differ (sym same)) in
      (elim (p e) as (λ (b : Bool). filter (not_at n) (cond b (e ∷ filter p es) (filter p es)) ≡ cond b (e ∷ filter (not_at n) (filter p es)) (filter (not_at n) (filter p es))) [ true ↦ ap (λ (b : Bool). cond b (e ∷ filter (not_at n) (filter p es)) (filter (not_at n) (filter p es))) stays | false ↦ refl ])
      ∙ ap (λ ys. cond (p e) (e ∷ ys) ys) (kept_apart p n es (tail_sorted e es s))
      ∙ ap (λ (b : Bool). filter p (cond b es (e ∷ remove_entry (at n) es))) (sym other)
]
