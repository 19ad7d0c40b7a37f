-- A move of a cell leaves the rings tied.
use Rattle.std.proofs.Common.{◌≡◌, ◌≢◌, ℕ, ◌+◌, ◌<◌, ◌≤◌, inl, inr, List, [], ◌∷◌, ◌++◌, length, refl, ap, sym, subst, ◌∙◌, arith}
use lib.ListN.{length-append}
use Rattle.std.proofs.lemmas.Bool.{ne_eqb, eq-eqb, cases_eq}
use Rattle.urb_arena.specs.Distinct.{Distinct, itself}
use Rattle.urb_arena.specs.Inner.Turns.{Cells, next_of, prev_of, ring_of, unlinked, moved, Sound, Path, In, row, total, Tied, without_cell, with_cell}
use Rattle.urb_arena.proofs.Joins.{kept, skipped, added, last_edge, follow-path, In-left, In-right, In-either, Distinct-without, Distinct-more, total_same, total_changed, unlinked-length, unlinked-Sound, unlinked-on, unlinked-next, unlinked-back, unlinked-prev, unlinked-ring, linked-length, linked-Sound, linked-from, linked-to, linked-ring_here, linked-ring, linked-on, linked-next, linked-back, linked-prev, total_at}

-- the two edges at a place on a path
mid_edges : (n p : ℕ → ℕ) (a : ℕ) (xs : List ℕ) (k : ℕ) (ys : List ℕ) (b : ℕ) → Path n p a (xs ++ k ∷ ys) b → (n (p k) ≡ k) × (p (n k) ≡ k)
mid_edges n p a [] k [] b path = (ap n path.1 ∙ path.0, ap p path.2.0 ∙ path.2.1)
mid_edges n p a [] k (y ∷ ys) b path = (ap n path.1 ∙ path.0, ap p path.2.0 ∙ path.2.1)
mid_edges n p a (x ∷ xs) k ys b path = mid_edges n p x xs k ys b path.2

pub without_here : (rows : ℕ → List ℕ) (f : ℕ) (xs ys : List ℕ) (r : ℕ) → r ≡ f → without_cell rows f xs ys r ≡ xs ++ ys
without_here rows f xs ys r e = rw (eq-eqb r f e) refl

pub without_other : (rows : ℕ → List ℕ) (f : ℕ) (xs ys : List ℕ) (r : ℕ) → r ≢ f → without_cell rows f xs ys r ≡ rows r
without_other rows f xs ys r e = rw (ne_eqb r f e) refl

pub with_here : (rows : ℕ → List ℕ) (k e r : ℕ) → r ≡ e → with_cell rows k e r ≡ rows e ++ k ∷ []
with_here rows k e r h = rw (eq-eqb r e h) refl

pub with_other : (rows : ℕ → List ℕ) (k e r : ℕ) → r ≢ e → with_cell rows k e r ≡ rows r
with_other rows k e r h = rw (ne_eqb r e h) refl

module _ (ls : Cells) (m cap : ℕ) (rows : ℕ → List ℕ) (t : Tied ls m cap rows) (k f e : ℕ) (fm : f ≤ m) (em : e ≤ m) (fe : f ≢ e) (xs ys : List ℕ) (cut : rows f ≡ xs ++ k ∷ ys) where
  abbrev rows1 : ℕ → List ℕ
  rows1 = without_cell rows f xs ys

  abbrev pub rows2 : ℕ → List ℕ
  rows2 = with_cell rows1 k e

  abbrev ls1 : Cells
  ls1 = unlinked ls k

  abbrev ls2 : Cells
  ls2 = moved ls k e

  mem : (m < k) × (k < length ls) × (ring_of ls k ≡ f)
  mem = t.members f fm k (subst (λ js. In k js) (sym cut) (In-right k xs (k ∷ ys) (inl refl)))

  lt : k < length ls
  lt = mem.1

  path : Path (next_of ls) (prev_of ls) f (xs ++ k ∷ ys) f
  path = subst (λ js. Path (next_of ls) (prev_of ls) f js f) cut (t.paths f fm)

  edges : (next_of ls (prev_of ls k) ≡ k) × (prev_of ls (next_of ls k) ≡ k)
  edges = mid_edges (next_of ls) (prev_of ls) f xs k ys f path

  apart : Distinct itself (xs ++ ys) × (In k (xs ++ ys) → ⊥)
  apart = Distinct-without xs k ys (subst (Distinct itself) cut (t.distinct f fm))

  -- the cells of a ring without k
  members1 : (r : ℕ) → r ≤ m → (j : ℕ) → In j (rows1 r) → In j (rows r) × (j ≢ k)
  members1 r rm j i = elim (cases_eq r f) [
    | inl same ↦ (
        let i' : In j (xs ++ ys) = subst (λ js. In j js) (without_here rows f xs ys r same) i in (
          subst (λ js. In j js) (sym (ap rows same ∙ cut)) (elim (In-either j xs ys i') [ inl l ↦ In-left j xs (k ∷ ys) l | inr h ↦ In-right j xs (k ∷ ys) (inr h) ]),
          λ h. apart.1 (subst (λ x. In x (xs ++ ys)) h i'),
        ))
    | inr other ↦ (
        let i' : In j (rows r) = subst (λ js. In j js) (without_other rows f xs ys r other) i in
        (i', λ h. other (sym (t.members r rm j i').2 ∙ ap (ring_of ls) h ∙ mem.2)))
  ]

  end_apart : (r : ℕ) → r ≤ m → r ≢ k
  end_apart r rm h = let far = mem.0 in omega (arith, rm, h, far)

  edge1 : (u v : ℕ) → u ≢ k → v ≢ k → next_of ls u ≡ v → prev_of ls v ≡ u → (next_of ls1 u ≡ v) × (prev_of ls1 v ≡ u)
  edge1 u v uk vk nu pv = (
    unlinked-next ls k t.sound lt u (λ h. vk (sym nu ∙ ap (next_of ls) h ∙ edges.0)) ∙ nu,
    unlinked-prev ls k t.sound lt v (λ h. uk (sym pv ∙ ap (prev_of ls) h ∙ edges.1)) ∙ pv,
  )

  paths1 : (r : ℕ) → r ≤ m → Path (next_of ls1) (prev_of ls1) r (rows1 r) r
  paths1 r rm = elim (cases_eq r f) [
    | inl same ↦ subst (λ js. Path (next_of ls1) (prev_of ls1) r js r) (sym (without_here rows f xs ys r same))
        (skipped (next_of ls) (prev_of ls) (next_of ls1) (prev_of ls1) (λ x. x ≢ k) edge1 k (unlinked-on ls k t.sound lt) (unlinked-back ls k t.sound lt) r xs ys r (end_apart r rm)
        (λ j i h. apart.1 (subst (λ x. In x (xs ++ ys)) h (In-left j xs ys i))) (λ j i h. apart.1 (subst (λ x. In x (xs ++ ys)) h (In-right j xs ys i))) (end_apart r rm) (subst (λ x. Path (next_of ls) (prev_of ls) x (xs ++ k ∷ ys) x) (sym same) path))
    | inr other ↦ subst (λ js. Path (next_of ls1) (prev_of ls1) r js r) (sym (without_other rows f xs ys r other))
        (kept (next_of ls) (prev_of ls) (next_of ls1) (prev_of ls1) (λ x. x ≢ k) edge1 r (rows r) r (end_apart r rm) (λ j i. (members1 r rm j (subst (λ js. In j js) (sym (without_other rows f xs ys r other)) i)).1) (end_apart r rm) (t.paths r rm))
  ]

  long1 : length ls1 ≡ length ls
  long1 = unlinked-length ls k t.sound lt

  lt1 : k < length ls1
  lt1 = let far = lt in omega (arith, far, long1)

  e_lt : e < length ls1
  e_lt = let far = lt in let over = mem.0 in omega (arith, far, over, em, long1)

  sound1 : Sound ls1
  sound1 = unlinked-Sound ls k t.sound lt

  last : next_of ls1 (prev_of ls1 e) ≡ e
  last = last_edge (next_of ls1) (prev_of ls1) e (rows1 e) e (paths1 e em)

  edge2 : (u v : ℕ) → u ≢ k → v ≢ k → v ≢ e → next_of ls1 u ≡ v → prev_of ls1 v ≡ u → (next_of ls2 u ≡ v) × (prev_of ls2 v ≡ u)
  edge2 u v uk vk ve nu pv = (
    linked-next ls1 k e sound1 lt1 e_lt u uk (λ h. ve (sym nu ∙ ap (next_of ls1) h ∙ last)) ∙ nu,
    linked-prev ls1 k e sound1 lt1 e_lt v vk ve ∙ pv,
  )

  -- before e stands a cell of its ring, or e itself
  last_apart : prev_of ls1 e ≢ k
  last_apart h = end_in (rows1 e) e (paths1 e em) (end_apart e em) (λ j i. (members1 e em j i).1) h
    where
      end_in : (js : List ℕ) (a : ℕ) → Path (next_of ls1) (prev_of ls1) a js e → a ≢ k → ((j : ℕ) → In j js → j ≢ k) → prev_of ls1 e ≡ k → ⊥
      end_in [] a way ak jk h = ak (sym way.1 ∙ h)
      end_in (j ∷ js) a way ak jk h = end_in js j way.2 (jk j (inl refl)) (λ i h'. jk i (inr h')) h

  paths2 : (r : ℕ) → r ≤ m → Path (next_of ls2) (prev_of ls2) r (rows2 r) r
  paths2 r rm = elim (cases_eq r e) [
    | inl same ↦ subst (λ x. Path (next_of ls2) (prev_of ls2) x (rows2 x) x) (sym same) (subst (λ js. Path (next_of ls2) (prev_of ls2) e js e) (sym (with_here rows1 k e e refl))
        (added (next_of ls1) (prev_of ls1) (next_of ls2) (prev_of ls2) k e edge2 (linked-on ls1 k e sound1 lt1 e_lt last_apart) (linked-to ls1 k e sound1 lt1 e_lt) (linked-from ls1 k e sound1 lt1 e_lt) (linked-back ls1 k e sound1 lt1 e_lt (end_apart e em))
        e (rows1 e) (end_apart e em) (λ j i. ((members1 e em j i).1, λ h. (let far = (t.members e em j (members1 e em j i).0).0 in omega (arith, far, h, em)))) (paths1 e em)))
    | inr other ↦ subst (λ js. Path (next_of ls2) (prev_of ls2) r js r) (sym (with_other rows1 k e r other))
        (kept (next_of ls1) (prev_of ls1) (next_of ls2) (prev_of ls2) (λ x. (x ≢ k) × (x ≢ e)) (λ u v su sv. edge2 u v su.0 sv.0 sv.1) r (rows1 r) r (end_apart r rm, other)
        (λ j i. ((members1 r rm j i).1, λ h. (let far = (t.members r rm j (members1 r rm j i).0).0 in omega (arith, far, h, em)))) (end_apart r rm, other) (paths1 r rm))
  ]

  long2 : length ls2 ≡ length ls
  long2 = linked-length ls1 k e sound1 lt1 e_lt ∙ long1

  pub moved-ring : (x : ℕ) → x ≢ k → ring_of ls2 x ≡ ring_of ls x
  moved-ring x ne = linked-ring ls1 k e sound1 lt1 e_lt x ne ∙ unlinked-ring ls k t.sound lt x

  pub moved-ring_here : ring_of ls2 k ≡ e
  moved-ring_here = linked-ring_here ls1 k e sound1 lt1 e_lt

  members2 : (r : ℕ) → r ≤ m → (j : ℕ) → In j (rows2 r) → (m < j) × (j < length ls2) × (ring_of ls2 j ≡ r)
  members2 r rm j i = elim (cases_eq r e) [
    | inl same ↦ (
        elim (In-either j (rows1 e) (k ∷ []) (subst (λ js. In j js) (with_here rows1 k e r same) i)) [
          | inl l ↦ old r rm j (subst (λ x. In j (rows1 x)) (sym same) l)
          | inr h ↦ elim h [ inl here ↦ (let far = lt in let over = mem.0 in (omega (arith, over, here), omega (arith, far, here, long2), ap (ring_of ls2) (sym here) ∙ moved-ring_here ∙ sym same)) | inr z ↦ elim z [ ] ]
        ])
    | inr other ↦ old r rm j (subst (λ js. In j js) (with_other rows1 k e r other) i)
  ]
    where
      old : (r : ℕ) → r ≤ m → (j : ℕ) → In j (rows1 r) → (m < j) × (j < length ls2) × (ring_of ls2 j ≡ r)
      old r rm j i = let was = members1 r rm j i in let is = t.members r rm j was.0 in let far = is.1 in (is.0, omega (arith, far, long2), moved-ring j was.1 ∙ is.2)

  found2 : (j : ℕ) → m < j → j < length ls2 → (ring_of ls2 j ≤ m) × In j (rows2 (ring_of ls2 j))
  found2 j over far = elim (cases_eq j k) [
    | inl same ↦ (
        let at : ring_of ls2 j ≡ e = ap (ring_of ls2) same ∙ moved-ring_here in
        (omega (arith, at, em), subst (λ js. In j js) (sym (with_here rows1 k e (ring_of ls2 j) at)) (In-right j (rows1 e) (k ∷ []) (inl (sym same)))))
    | inr other ↦ (
        let at : ring_of ls2 j ≡ ring_of ls j = moved-ring j other in let was = t.found j over (omega (arith, far, long2)) in let r = ring_of ls j in let rm = was.0 in
        let in1 : In j (rows1 r) = elim (cases_eq r f) [
          | inl same ↦ (
              let i' : In j (xs ++ k ∷ ys) = subst (λ js. In j js) (ap rows same ∙ cut) was.1 in
              subst (λ js. In j js) (sym (without_here rows f xs ys r same)) (elim (In-either j xs (k ∷ ys) i') [
                | inl l ↦ In-left j xs ys l
                | inr h ↦ elim h [ inl here ↦ absurd (other (sym here)) | inr g ↦ In-right j xs ys g ]
              ]))
          | inr ne ↦ subst (λ js. In j js) (sym (without_other rows f xs ys r ne)) was.1
        ] in (
          omega (arith, at, rm),
          subst (λ x. In j (rows2 x)) (sym at) (elim (cases_eq r e) [
            | inl same ↦ subst (λ js. In j js) (sym (with_here rows1 k e r same)) (In-left j (rows1 e) (k ∷ []) (subst (λ x. In j (rows1 x)) same in1))
            | inr ne ↦ subst (λ js. In j js) (sym (with_other rows1 k e r ne)) in1
          ]),
        ))
  ]

  distinct2 : (r : ℕ) → r ≤ m → Distinct itself (rows2 r)
  distinct2 r rm =
      let distinct1 : (q : ℕ) → q ≤ m → Distinct itself (rows1 q) = λ q qm. elim (cases_eq q f) [
        | inl same ↦ subst (Distinct itself) (sym (without_here rows f xs ys q same)) apart.0
        | inr other ↦ subst (Distinct itself) (sym (without_other rows f xs ys q other)) (t.distinct q qm)
      ] in
      elim (cases_eq r e) [
        | inl same ↦ subst (Distinct itself) (sym (with_here rows1 k e r same)) (Distinct-more (rows1 e) k (distinct1 e em) (λ i. (members1 e em k i).1 refl))
        | inr other ↦ subst (Distinct itself) (sym (with_other rows1 k e r other)) (distinct1 r rm)
      ]

  count2 : total rows2 (m + 1) ≡ cap
  count2 =
      let c1 = total_changed rows rows1 f (m + 1) (λ r ne. without_other rows f xs ys r ne) (omega (arith, fm)) in
      let c2 = total_changed rows1 rows2 e (m + 1) (λ r ne. with_other rows1 k e r ne) (omega (arith, em)) in
      let l1 = ap length (without_here rows f xs ys f refl) ∙ length-append xs ys in let l0 = ap length cut ∙ length-append xs (k ∷ ys) in
      let l2 = ap length (with_here rows1 k e e refl) ∙ length-append (rows1 e) (k ∷ []) in let all = t.count in
      omega (arith, c1, c2, l0, l1, l2, all)

  pub Tied-moved : Tied ls2 m cap rows2
  Tied-moved = record {
    size = long2 ∙ t.size;
    sound = linked-Sound ls1 k e sound1 lt1 e_lt;
    ends = λ r rm. moved-ring r (end_apart r rm) ∙ t.ends r rm;
    paths = paths2;
    members = members2;
    found = found2;
    distinct = distinct2;
    count = count2;
  }

-- ---- the rings are those that a walk finds

module _ (ls : Cells) (m cap : ℕ) (rows : ℕ → List ℕ) (t : Tied ls m cap rows) where
  pub row_is : (r : ℕ) → r ≤ m → row ls r ≡ rows r
  unfolding row
  row_is r rm =
      let few = total_at rows (m + 1) r (omega (arith, rm)) in let all = t.count in let long = t.size in
      follow-path (next_of ls) (prev_of ls) (length ls) r (rows r) r (t.paths r rm) (λ k i h. (let far = (t.members r rm k i).0 in omega (arith, far, h, rm))) (omega (arith, few, all, long))

  pub Tied-row : Tied ls m cap (row ls)
  Tied-row = record {
    size = t.size;
    sound = t.sound;
    ends = t.ends;
    paths = λ r rm. subst (λ js. Path (next_of ls) (prev_of ls) r js r) (sym (row_is r rm)) (t.paths r rm);
    members = λ r rm k i. t.members r rm k (subst (λ js. In k js) (row_is r rm) i);
    found = λ k over far. (let was = t.found k over far in (was.0, subst (λ js. In k js) (sym (row_is (ring_of ls k) was.0)) was.1));
    distinct = λ r rm. subst (Distinct itself) (sym (row_is r rm)) (t.distinct r rm);
    count = total_same rows (row ls) (m + 1) (λ r lt. row_is r (omega (arith, lt))) ∙ t.count;
  }
