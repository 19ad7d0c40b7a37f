-- What each call makes of the table, and what it finds.
use Rattle.std.proofs.Common.{◌≡◌, ◌≢◌, ℕ, zero, suc, ◌+◌, ◌<◌, ◌≤◌, ◌⊎◌, inl, inr, List, [], ◌∷◌, ◌++◌, length, map, get_or, Option, Some, None, refl, ap, sym, subst, ◌∙◌, arith}
use lib.ListN.{set, length-set, length-append}
use Rattle.std.proofs.lemmas.List.{get_or-set_same, get_or-set_other}
use Rattle.std.proofs.lemmas.Bool.{ne_eqb, eq-eqb, cases_eq}
use Rattle.urb_arena.specs.Inner.Columns.{There}
use Rattle.urb_arena.specs.Distinct.{Distinct, itself}
use Rattle.urb_arena.specs.Inner.Turns.{Cells, ring_of, next_of, prev_of, row, listed, total, Tied, Path, In, moved, with_cell, without_cell}
use Rattle.urb_arena.specs.Lanes.{find, without, replaced, first_key, key_after, count, find_in, key_after_in}
use Rattle.urb_arena.specs.Inner.Tables.{pairs, Filled, consed, IsTable, lanes_of}
use Rattle.urb_arena.specs.declared.cells.Block.{Block}
use Rattle.urb_arena.specs.declared.table.Table.{Table}
use Rattle.urb_arena.proofs.Joins.{In-left, In-right, In-split, Distinct-without, last_cell, last_in, total_same, total_changed, total_at}
use Rattle.urb_arena.proofs.Lanes.{pairs-append, pairs_there, pairs-set, pairs-length, find-absent, find-there, without-absent, without-pairs, after-absent, after-there, listed_same, listed_at, listed_changed, listed-map, search-none, search-one}
use Rattle.urb_arena.proofs.Moves.{without_here, without_other, with_here, with_other, moved-ring, moved-ring_here, Tied-moved, row_is, Tied-row}

module _ {X : Type 0} (ls : Cells) (vs : List (Option X)) (m cap : ℕ) (t : Tied ls m cap (row ls)) (f : Filled ls vs m) where
  abbrev lane : ℕ → List (ℕ × X)
  lane r = pairs vs (row ls r)

  abbrev pub IsLive : ℕ → Type 0
  IsLive k = (m < k) × (k < length ls) × (ring_of ls k < m)

  -- the cells of a lane hold values
  holds : (r : ℕ) → r < m → (k : ℕ) → In k (row ls r) → (m < k) × There vs k
  holds r rm k i =
      let at = t.members r (omega (arith, rm)) k i in let ring = at.2 in
      (at.0, f.live k at.0 at.1 (omega (arith, ring, rm)))

  elsewhere : (k r : ℕ) → r < m → r ≢ ring_of ls k → In k (row ls r) → ⊥
  elsewhere k r rm ne i = ne (sym (t.members r (omega (arith, rm)) k i).2)

  pub found_live : (k : ℕ) → IsLive k → find_in k (listed lane m) ≡ get_or vs k None
  found_live k live =
      let x = f.live k live.0 live.1 live.2 in let at = t.found k live.0 live.1 in
      search-one (find k) lane m (ring_of ls k) (Some x.0) (find-there vs k (row ls (ring_of ls k)) x.0 x.1 at.1) (λ r rm ne. find-absent vs k (row ls r) (elsewhere k r rm ne)) live.2 ∙ sym x.1

  pub found_dead : (k : ℕ) → (IsLive k → ⊥) → find_in k (listed lane m) ≡ None
  found_dead k dead = search-none (find k) lane m (λ r rm. find-absent vs k (row ls r) (λ i.
      let at = t.members r (omega (arith, rm)) k i in let ring = at.2 in dead (at.0, at.1, omega (arith, ring, rm))))

  pub after_dead : (k : ℕ) → (IsLive k → ⊥) → key_after_in k (listed lane m) ≡ None
  after_dead k dead = search-none (key_after k) lane m (λ r rm. after-absent vs k (row ls r) (λ i.
      let at = t.members r (omega (arith, rm)) k i in let ring = at.2 in dead (at.0, at.1, omega (arith, ring, rm))))

  -- where a path begins
  heads : (a r : ℕ) (ks : List ℕ) → r ≤ m → Path (next_of ls) (prev_of ls) a ks r → ((k : ℕ) → In k ks → (m < k) × There vs k)
      → ((next_of ls a ≤ m) × (first_key (pairs vs ks) ≡ None)) ⊎ ((m < next_of ls a) × (first_key (pairs vs ks) ≡ Some (next_of ls a)))
  heads a r [] rm path hold = let e = path.0 in inl (omega (arith, e, rm), refl)
  heads a r (k ∷ ks) rm path hold =
      let h = hold k (inl refl) in let far = h.0 in let e = path.0 in
      inr (omega (arith, e, far), ap first_key (pairs_there vs k ks h.1.0 h.1.1) ∙ ap Some (sym e))

  pub front : (r : ℕ) → r < m → ((next_of ls r ≤ m) × (first_key (get_or (listed lane m) r []) ≡ None)) ⊎ ((m < next_of ls r) × (first_key (get_or (listed lane m) r []) ≡ Some (next_of ls r)))
  front r rm = subst (λ ps. ((next_of ls r ≤ m) × (first_key ps ≡ None)) ⊎ ((m < next_of ls r) × (first_key ps ≡ Some (next_of ls r)))) (sym (listed_at lane m r [] rm))
      (heads r r (row ls r) (omega (arith, rm)) (t.paths r (omega (arith, rm))) (holds r rm))

  pub next_key : (k : ℕ) → IsLive k → ((next_of ls k ≤ m) × (key_after_in k (listed lane m) ≡ None)) ⊎ ((m < next_of ls k) × (key_after_in k (listed lane m) ≡ Some (next_of ls k)))
  next_key k live =
      let r = ring_of ls k in let rm = live.2 in let at = t.found k live.0 live.1 in let x = f.live k live.0 live.1 live.2 in
      let cut = In-split k (row ls r) at.1 in let xs = cut.0 in let ys = cut.1.0 in let apart = Distinct-without xs k ys (subst (Distinct itself) cut.1.1 (t.distinct r at.0)) in
      let path = subst (λ js. Path (next_of ls) (prev_of ls) r js r) cut.1.1 (t.paths r at.0) in
      let there = ap (λ js. key_after k (pairs vs js)) cut.1.1 ∙ after-there vs xs k ys x.0 x.1 (λ i. apart.1 (In-left k xs ys i)) in
      let sees = search-one (key_after k) lane m r (first_key (pairs vs ys)) there (λ q qm ne. after-absent vs k (row ls q) (elsewhere k q qm ne)) rm in
      subst (λ c. ((next_of ls k ≤ m) × (c ≡ None)) ⊎ ((m < next_of ls k) × (c ≡ Some (next_of ls k)))) (sym sees)
      (heads k r ys at.0 (tail r xs k ys r path) (λ j i. holds r rm j (subst (λ js. In j js) (sym cut.1.1) (In-right j xs (k ∷ ys) (inr i)))))
    where
      tail : (a : ℕ) (xs : List ℕ) (k : ℕ) (ys : List ℕ) (b : ℕ) → Path (next_of ls) (prev_of ls) a (xs ++ k ∷ ys) b → Path (next_of ls) (prev_of ls) k ys b
      tail a [] k ys b path = path.2
      tail a (x ∷ xs) k ys b path = tail x xs k ys b path.2

  pub counted : count (listed lane m) ≡ total (row ls) m
  counted = sums m (λ r rm. pairs-length vs (row ls r) (λ k i. (holds r rm k i).1))
    where
      count-append : (pss : List (List (ℕ × X))) (ps : List (ℕ × X)) → count (pss ++ ps ∷ []) ≡ count pss + length ps
      count-append [] ps = omega arith
      count-append (qs ∷ pss) ps = let rest = count-append pss ps in omega (arith, rest)

      sums : (n : ℕ) → ((r : ℕ) → r < n → length (lane r) ≡ length (row ls r)) → count (listed lane n) ≡ total (row ls) n
      sums zero same = refl
      sums (suc n) same = let more = count-append (listed lane n) (lane n) in let rest = sums n (λ r lt. same r (omega (arith, lt))) in let here = same n (omega arith) in omega (arith, more, rest, here)

-- ---- a value comes, and one goes

module _ {X : Type 0} (t : Table X) (is : IsTable t) where
  abbrev ls : Cells
  ls = t.block.links

  abbrev vs : List (Option X)
  vs = t.block.values

  abbrev m : ℕ
  m = t.lanes

  abbrev after : Cells → List (Option X) → ℕ → Table X
  after ls' vs' n = record t { block = record { mark = t.block.mark; at = t.block.at; links = ls'; values = vs' }; len = n }

  module _ (k e : ℕ) (lane_e : e < m) (x : X) (at : prev_of ls m ≡ k) (ne : k ≢ m) where
    -- the cell is the last free one
    free : (xs : List ℕ) × (row ls m ≡ xs ++ k ∷ [])
    free = opened (row ls m) (is.tied.paths m (omega arith)) refl
      where
        opened : (ks : List ℕ) → Path (next_of ls) (prev_of ls) m ks m → row ls m ≡ ks → (xs : List ℕ) × (row ls m ≡ xs ++ k ∷ [])
        opened [] path same = absurd (ne (sym at ∙ path.1))
        opened (j ∷ ks) path same = let cut = last_cell (next_of ls) (prev_of ls) m j ks m path in (cut.0, same ∙ cut.1 ∙ ap (λ i. cut.0 ++ i ∷ []) at)

    mem : (m < k) × (k < length ls) × (ring_of ls k ≡ m)
    mem = is.tied.members m (omega arith) k (subst (λ js. In k js) (sym free.1) (In-right k free.0 (k ∷ []) (inl refl)))

    differs : m ≢ e
    differs h = omega (arith, h, lane_e)

    e_in : e ≤ m
    e_in = omega (arith, lane_e)

    abbrev ls' : Cells
    ls' = moved ls k e

    abbrev vs' : List (Option X)
    vs' = set vs k (Some x)

    abbrev rows' : ℕ → List ℕ
    rows' = with_cell (without_cell (row ls) m free.0 []) k e

    k_at : k < length vs
    k_at = let far = mem.1 in let long = is.filled.long in omega (arith, far, long)

    ties : Tied ls' m t.capacity rows'
    ties = Tied-moved ls m t.capacity (row ls) is.tied k m e (omega arith) e_in differs free.0 [] free.1

    ring_other : (j : ℕ) → j ≢ k → ring_of ls' j ≡ ring_of ls j
    ring_other j = moved-ring ls m t.capacity (row ls) is.tied k m e (omega arith) e_in differs free.0 [] free.1 j

    ring_here : ring_of ls' k ≡ e
    ring_here = moved-ring_here ls m t.capacity (row ls) is.tied k m e (omega arith) e_in differs free.0 [] free.1

    long' : length ls' ≡ length ls
    long' = let a = ties.size in let b = is.tied.size in omega (arith, a, b)

    fills : Filled ls' vs' m
    fills = record {
      long = length-set vs k (Some x) ∙ is.filled.long ∙ sym long';
      live = λ j over far ring. elim (cases_eq j k) [
        | inl same ↦ (x, ap (λ q. get_or vs' q None) same ∙ get_or-set_same vs k (Some x) None k_at)
        | inr other ↦ (
            let was = is.filled.live j over (omega (arith, far, long')) (let r = ring_other j other in omega (arith, r, ring)) in
            (was.0, get_or-set_other vs k j (Some x) None other ∙ was.1))
      ];
      bare = λ j far how. elim (cases_eq j k) [
        | inl same ↦ absurd (let over = mem.0 in elim how [ inl low ↦ omega (arith, low, same, over) | inr ring ↦ (let r = ap (ring_of ls') same ∙ ring_here in omega (arith, r, ring, lane_e)) ])
        | inr other ↦ get_or-set_other vs k j (Some x) None other ∙ is.filled.bare j (omega (arith, far, long')) (elim how [ inl low ↦ inl low | inr ring ↦ inr (sym (ring_other j other) ∙ ring) ])
      ];
    }

    rows_other : (r : ℕ) → r < m → r ≢ e → row ls' r ≡ row ls r
    rows_other r rm re = row_is ls' m t.capacity rows' ties r (omega (arith, rm)) ∙ with_other (without_cell (row ls) m free.0 []) k e r re ∙ without_other (row ls) m free.0 [] r (λ h. omega (arith, h, rm))

    rows_here : row ls' e ≡ row ls e ++ k ∷ []
    rows_here = row_is ls' m t.capacity rows' ties e e_in ∙ with_here (without_cell (row ls) m free.0 []) k e e refl ∙ ap (λ js. js ++ k ∷ []) (without_other (row ls) m free.0 [] e (λ h. omega (arith, h, lane_e)))

    absent : (r : ℕ) → r < m → In k (row ls r) → ⊥
    absent r rm i = let a = (is.tied.members r (omega (arith, rm)) k i).2 in let b = mem.2 in omega (arith, a, b, rm)

    counts : total (row ls') m ≡ total (row ls) m + 1
    counts =
        let c = total_changed (row ls) (λ r. elim_at r) e m (λ r h. other r h) lane_e in let l = ap length (here e refl) ∙ length-append (row ls e) (k ∷ []) in
        let s = total_same (λ r. elim_at r) (row ls') m (λ r rm. elim (cases_eq r e) [ inl h ↦ ap (row ls') h ∙ rows_here ∙ sym (here r h) | inr h ↦ rows_other r rm h ∙ sym (other r h) ]) in
        omega (arith, c, l, s)
      where
        elim_at : ℕ → List ℕ
        elim_at = with_cell (row ls) k e

        here : (r : ℕ) → r ≡ e → with_cell (row ls) k e r ≡ row ls e ++ k ∷ []
        here r h = with_here (row ls) k e r h

        other : (r : ℕ) → r ≢ e → with_cell (row ls) k e r ≡ row ls r
        other r h = with_other (row ls) k e r h

    full : t.len < t.capacity
    full =
        let all = is.tied.count in let n = is.len in let l = ap length free.1 ∙ length-append free.0 (k ∷ []) in let more = total_suc (row ls) m in omega (arith, all, n, l, more)
      where
        total_suc : (f : ℕ → List ℕ) (n : ℕ) → total f (n + 1) ≡ total f n + length (f n)
        total_suc f n = let same : n + 1 ≡ suc n = omega arith in ap (total f) same

    abbrev pub new : Table X
    new = after ls' vs' (t.len + 1)

    pub pushed : IsTable new × (lanes_of new ≡ set (lanes_of t) e (get_or (lanes_of t) e [] ++ (k, x) ∷ [])) × (find_in k (lanes_of t) ≡ None) × (t.len < t.capacity)
    unfolding lanes_of
    pushed =
        let lane : ℕ → List (ℕ × X) = λ r. pairs vs (row ls r) in let lane' : ℕ → List (ℕ × X) = λ r. pairs vs' (row ls' r) in
        let same : (r : ℕ) → r < m → pairs vs' (row ls r) ≡ lane r = λ r rm. same_pairs r rm in
        let here : lane' e ≡ lane e ++ (k, x) ∷ [] =
        ap (pairs vs') rows_here ∙ pairs-append vs' (row ls e) (k ∷ []) ∙ (λ i. same e lane_e i ++ pairs_there vs' k [] x (at_k) i) in (
          record {
            block = (is.block.0, is.block.1, is.block.2 ∙ sym long', is.block.3);
            small = is.small;
            tied = Tied-row ls' m t.capacity rows' ties;
            filled = fills;
            len = (let n = is.len in let c = counts in omega (arith, n, c));
          },
          listed_changed lane lane' m e (λ r rm re. ap (pairs vs') (rows_other r rm re) ∙ same r rm) lane_e ∙ (λ i. set (listed lane m) e ((here ∙ ap (λ ps. ps ++ (k, x) ∷ []) (sym (listed_at lane m e [] lane_e))) i)),
          found_dead ls vs m t.capacity is.tied is.filled k (λ live. (let a = live.2 in let b = mem.2 in omega (arith, a, b))),
          full,
        )
      where
        at_k : get_or vs' k None ≡ Some x
        at_k = get_or-set_same vs k (Some x) None k_at

        same_pairs : (r : ℕ) → r < m → pairs vs' (row ls r) ≡ pairs vs (row ls r)
        same_pairs r rm = pairs-set vs k (Some x) (row ls r) (absent r rm)

module _ {X : Type 0} (t : Table X) (is : IsTable t) (k : ℕ) (live : IsLive t.block.links t.block.values t.lanes t.capacity is.tied is.filled k) where
  abbrev old : Cells
  old = t.block.links

  abbrev held : List (Option X)
  held = t.block.values

  abbrev end : ℕ
  end = t.lanes

  abbrev from : ℕ
  from = ring_of old k

  at : (from ≤ end) × In k (row old from)
  at = is.tied.found k live.0 live.1

  value : There held k
  value = is.filled.live k live.0 live.1 live.2

  split : (xs : List ℕ) × ((ys : List ℕ) × (row old from ≡ xs ++ k ∷ ys))
  split = In-split k (row old from) at.1

  abbrev others : List ℕ
  others = split.0 ++ split.1.0

  gone : In k others → ⊥
  gone = (Distinct-without split.0 k split.1.0 (subst (Distinct itself) split.1.1 (is.tied.distinct from at.0))).1

  leaves : from ≢ end
  leaves h = let low = live.2 in omega (arith, h, low)

  abbrev ls'' : Cells
  ls'' = moved old k end

  abbrev vs'' : List (Option X)
  vs'' = set held k None

  abbrev rows1' : ℕ → List ℕ
  rows1' = without_cell (row old) from split.0 split.1.0

  abbrev rows'' : ℕ → List ℕ
  rows'' = with_cell rows1' k end

  tie : Tied ls'' end t.capacity rows''
  tie = Tied-moved old end t.capacity (row old) is.tied k from end at.0 (omega arith) leaves split.0 split.1.0 split.1.1

  ring_else : (j : ℕ) → j ≢ k → ring_of ls'' j ≡ ring_of old j
  ring_else = moved-ring old end t.capacity (row old) is.tied k from end at.0 (omega arith) leaves split.0 split.1.0 split.1.1

  ring_there : ring_of ls'' k ≡ end
  ring_there = moved-ring_here old end t.capacity (row old) is.tied k from end at.0 (omega arith) leaves split.0 split.1.0 split.1.1

  same_long : length ls'' ≡ length old
  same_long = let a = tie.size in let b = is.tied.size in omega (arith, a, b)

  k_in : k < length held
  k_in = let far = live.1 in let long = is.filled.long in omega (arith, far, long)

  fill : Filled ls'' vs'' end
  fill = record {
    long = length-set held k None ∙ is.filled.long ∙ sym same_long;
    live = λ j over far ring. elim (cases_eq j k) [
      | inl same ↦ absurd (let r = ap (ring_of ls'') same ∙ ring_there in omega (arith, r, ring))
      | inr other ↦ (
          let was = is.filled.live j over (omega (arith, far, same_long)) (let r = ring_else j other in omega (arith, r, ring)) in
          (was.0, get_or-set_other held k j None None other ∙ was.1))
    ];
    bare = λ j far how. elim (cases_eq j k) [
      | inl same ↦ ap (λ q. get_or vs'' q None) same ∙ get_or-set_same held k None None k_in
      | inr other ↦ get_or-set_other held k j None None other ∙ is.filled.bare j (omega (arith, far, same_long)) (elim how [ inl low ↦ inl low | inr ring ↦ inr (sym (ring_else j other) ∙ ring) ])
    ];
  }

  row_from : row ls'' from ≡ others
  row_from = row_is ls'' end t.capacity rows'' tie from at.0 ∙ with_other rows1' k end from leaves ∙ without_here (row old) from split.0 split.1.0 from refl

  row_else : (r : ℕ) → r < end → r ≢ from → row ls'' r ≡ row old r
  row_else r rm rf = row_is ls'' end t.capacity rows'' tie r (omega (arith, rm)) ∙ with_other rows1' k end r (λ h. omega (arith, h, rm)) ∙ without_other (row old) from split.0 split.1.0 r rf

  fewer : total (row ls'') end + 1 ≡ total (row old) end
  fewer =
      let l0 = ap length split.1.1 ∙ length-append split.0 (k ∷ split.1.0) in
      let c' = total_changed (row old) rows1' from end (λ r ne. without_other (row old) from split.0 split.1.0 r ne) live.2 in
      let s = total_same rows1' (row ls'') end (λ r rm. elim (cases_eq r from) [ inl h ↦ ap (row ls'') h ∙ row_from ∙ sym (without_here (row old) from split.0 split.1.0 r h) | inr h ↦ row_else r rm h ∙ sym (without_other (row old) from split.0 split.1.0 r h) ]) in
      let l1 = ap length (without_here (row old) from split.0 split.1.0 from refl) ∙ length-append split.0 split.1.0 in
      omega (arith, c', s, l0, l1)

  abbrev pub less : ℕ → Table X
  less n = record t { block = record { mark = t.block.mark; at = t.block.at; links = ls''; values = vs'' }; len = n }

  pub removed : (n : ℕ) → n + 1 ≡ t.len → IsTable (less n) × (lanes_of (less n) ≡ map (without k) (lanes_of t)) × (find_in k (lanes_of t) ≡ get_or held k None)
  unfolding lanes_of
  removed n one = (
    record {
      block = (is.block.0, is.block.1, is.block.2 ∙ sym same_long, is.block.3);
      small = is.small;
      tied = Tied-row ls'' end t.capacity rows'' tie;
      filled = fill;
      len = (let now = is.len in let c = fewer in omega (arith, now, c, one));
    },
    listed_same (λ r. without k (pairs held (row old r))) (λ r. pairs vs'' (row ls'' r)) end (λ r rm. elim (cases_eq r from) [
      | inl h ↦ ap (λ q. pairs vs'' (row ls'' q)) h ∙ ap (pairs vs'') row_from ∙ pairs-set held k None others gone ∙ sym (without-pairs held split.0 k split.1.0 value.0 value.1 gone)
          ∙ ap (λ js. without k (pairs held js)) (sym split.1.1) ∙ ap (λ q. without k (pairs held (row old q))) (sym h)
      | inr h ↦ (
          let absent : In k (row old r) → ⊥ = λ i. h (sym (is.tied.members r (omega (arith, rm)) k i).2) in
          ap (pairs vs'') (row_else r rm h) ∙ pairs-set held k None (row old r) absent ∙ sym (without-absent held k (row old r) absent))
    ]) ∙ sym (listed-map (without k) (λ r. pairs held (row old r)) end),
    found_live old held end t.capacity is.tied is.filled k live,
  )

-- ---- the same of a table

module _ {X : Type 0} (t : Table X) (is : IsTable t) where
  abbrev pub LiveIn : ℕ → Type 0
  LiveIn k = (t.lanes < k) × (k < length t.block.links) × (ring_of t.block.links k < t.lanes)

  pub table_dead : (k : ℕ) → (LiveIn k → ⊥) → (find_in k (lanes_of t) ≡ None) × (key_after_in k (lanes_of t) ≡ None) × (lanes_of t ≡ map (without k) (lanes_of t))
  unfolding lanes_of
  table_dead k dead =
      let ls = t.block.links in let vs = t.block.values in (
        found_dead ls vs t.lanes t.capacity is.tied is.filled k dead,
        after_dead ls vs t.lanes t.capacity is.tied is.filled k dead,
        listed_same (λ r. without k (pairs vs (row ls r))) (λ r. pairs vs (row ls r)) t.lanes (λ r rm. sym (without-absent vs k (row ls r) (λ i.
            (let at = is.tied.members r (omega (arith, rm)) k i in let ring = at.2 in dead (at.0, at.1, omega (arith, ring, rm)))))) ∙ sym (listed-map (without k) (λ r. pairs vs (row ls r)) t.lanes),
      )

  pub table_found : (k : ℕ) → LiveIn k → find_in k (lanes_of t) ≡ get_or t.block.values k None
  unfolding lanes_of
  table_found k live = found_live t.block.links t.block.values t.lanes t.capacity is.tied is.filled k live

  pub table_some : (k : ℕ) → LiveIn k → 1 ≤ t.len
  table_some k live =
      let f = ring_of t.block.links k in let r = row t.block.links in let cut = In-split k (r f) (is.tied.found k live.0 live.1).1 in
      let n = ap length cut.1.1 ∙ length-append cut.0 (k ∷ cut.1.0) in let all = total_at r t.lanes f live.2 in let len = is.len in omega (arith, n, all, len)

  pub table_front : (r : ℕ) → r < t.lanes
      → ((next_of t.block.links r ≤ t.lanes) × (first_key (get_or (lanes_of t) r []) ≡ None)) ⊎ ((t.lanes < next_of t.block.links r) × (first_key (get_or (lanes_of t) r []) ≡ Some (next_of t.block.links r)))
  unfolding lanes_of
  table_front r rm = front t.block.links t.block.values t.lanes t.capacity is.tied is.filled r rm

  pub table_next : (k : ℕ) → LiveIn k
      → ((next_of t.block.links k ≤ t.lanes) × (key_after_in k (lanes_of t) ≡ None)) ⊎ ((t.lanes < next_of t.block.links k) × (key_after_in k (lanes_of t) ≡ Some (next_of t.block.links k)))
  unfolding lanes_of
  table_next k live = next_key t.block.links t.block.values t.lanes t.capacity is.tied is.filled k live

  pub table_len : t.len ≡ count (lanes_of t)
  unfolding lanes_of
  table_len = is.len ∙ sym (counted t.block.links t.block.values t.lanes t.capacity is.tied is.filled)

  pub table_within : t.len ≤ t.capacity
  table_within =
      let up : t.lanes + 1 ≡ suc t.lanes = omega arith in let same = ap (total (row t.block.links)) up in let all = is.tied.count in let n = is.len in omega (arith, same, all, n)

  pub table_full : prev_of t.block.links t.lanes ≡ t.lanes → count (lanes_of t) ≡ t.capacity
  table_full e =
      let none = empty (row t.block.links t.lanes) (is.tied.paths t.lanes (omega arith)) (λ k i. (let far = (is.tied.members t.lanes (omega arith) k i).0 in omega (arith, far))) in
      let all = is.tied.count in let len = is.len in let n = table_len in let up : t.lanes + 1 ≡ suc t.lanes = omega arith in let same = ap (total (row t.block.links)) up in omega (arith, none, all, len, n, same)
    where
      empty : (ks : List ℕ) → Path (next_of t.block.links) (prev_of t.block.links) t.lanes ks t.lanes → ((k : ℕ) → In k ks → k ≢ t.lanes) → length ks ≡ 0
      empty [] path apart = refl
      empty (k ∷ ks) path apart = absurd (apart (prev_of t.block.links t.lanes) (last_in (next_of t.block.links) (prev_of t.block.links) t.lanes k ks t.lanes path) e)

  module _ (ne : prev_of t.block.links t.lanes ≢ t.lanes) where
    -- the last free cell
    pub free_cell : (t.lanes < prev_of t.block.links t.lanes) × (prev_of t.block.links t.lanes < length t.block.links) × (get_or t.block.values (prev_of t.block.links t.lanes) None ≡ None)
    free_cell = opened (row t.block.links t.lanes) (is.tied.paths t.lanes (omega arith)) (λ k i. is.tied.members t.lanes (omega arith) k i)
      where
        opened : (ks : List ℕ) → Path (next_of t.block.links) (prev_of t.block.links) t.lanes ks t.lanes → ((k : ℕ) → In k ks → (t.lanes < k) × (k < length t.block.links) × (ring_of t.block.links k ≡ t.lanes))
            → (t.lanes < prev_of t.block.links t.lanes) × (prev_of t.block.links t.lanes < length t.block.links) × (get_or t.block.values (prev_of t.block.links t.lanes) None ≡ None)
        opened [] path mem = absurd (ne path.1)
        opened (k ∷ ks) path mem =
            let last = prev_of t.block.links t.lanes in let at = mem last (last_in (next_of t.block.links) (prev_of t.block.links) t.lanes k ks t.lanes path) in
            (at.0, at.1, is.filled.bare last at.1 (inr at.2))

    module _ (e : ℕ) (lane_e : e < t.lanes) (x : X) (b : Block X) (at : b.at ≡ t.block.at) (links : b.links ≡ moved t.block.links (prev_of t.block.links t.lanes) e) (values : b.values ≡ set t.block.values (prev_of t.block.links t.lanes) (Some x)) where
      abbrev k' : ℕ
      k' = prev_of t.block.links t.lanes

      abbrev pub fuller : Table X
      fuller = record t { block = b; len = t.len + 1 }

      pub table_pushed : IsTable fuller × (lanes_of fuller ≡ set (lanes_of t) e (get_or (lanes_of t) e [] ++ (k', x) ∷ [])) × (find_in k' (lanes_of t) ≡ None) × (t.len < t.capacity)
      table_pushed = subst (λ (u : Table X). IsTable u × (lanes_of u ≡ set (lanes_of t) e (get_or (lanes_of t) e [] ++ (k', x) ∷ [])) × (find_in k' (lanes_of t) ≡ None) × (t.len < t.capacity))
          (λ i. record t { block = record { mark = t.block.mark; at = sym at i; links = sym links i; values = sym values i }; len = t.len + 1 })
          (pushed t is k' e lane_e x refl ne)

  module _ (k : ℕ) (live : LiveIn k) (n : ℕ) (one : n + 1 ≡ t.len) (b : Block X) (at : b.at ≡ t.block.at) (links : b.links ≡ moved t.block.links k t.lanes) (values : b.values ≡ set t.block.values k None) where
    abbrev pub lighter : Table X
    lighter = record t { block = b; len = n }

    pub table_removed : IsTable lighter × (lanes_of lighter ≡ map (without k) (lanes_of t))
    table_removed = subst (λ (u : Table X). IsTable u × (lanes_of u ≡ map (without k) (lanes_of t)))
        (λ i. record t { block = record { mark = t.block.mark; at = sym at i; links = sym links i; values = sym values i }; len = n })
        (let all = removed t is k live n one in (all.0, all.1))

-- ---- a value is written

module _ {X : Type 0} where
  replaced-pairs : (vs : List (Option X)) (k : ℕ) (w : X) → k < length vs → There vs k → (ks : List ℕ) → pairs (set vs k (Some w)) ks ≡ replaced k w (pairs vs ks)
  replaced-pairs vs k w lt there [] = refl
  replaced-pairs vs k w lt there (j ∷ ks) = elim (cases_eq j k) [
    | inl same ↦ ap (λ c. consed j c (pairs (set vs k (Some w)) ks)) (ap (λ q. get_or (set vs k (Some w)) q None) same ∙ get_or-set_same vs k (Some w) None lt) ∙ ap (λ ps. (j, w) ∷ ps) (replaced-pairs vs k w lt there ks)
        ∙ sym (ap (replaced k w) (pairs_there vs j ks there.0 (ap (λ q. get_or vs q None) same ∙ there.1)) ∙ rw (eq-eqb j k same) refl)
    | inr other ↦ ap (λ c. consed j c (pairs (set vs k (Some w)) ks)) (get_or-set_other vs k j (Some w) None other) ∙ step (get_or vs j None) other (replaced-pairs vs k w lt there ks)
  ]
    where
      step : (c : Option X) → j ≢ k → pairs (set vs k (Some w)) ks ≡ replaced k w (pairs vs ks) → consed j c (pairs (set vs k (Some w)) ks) ≡ replaced k w (consed j c (pairs vs ks))
      step None ne rest = rest
      step (Some y) ne rest = ap (λ ps. (j, y) ∷ ps) rest ∙ sym (rw (ne_eqb j k ne) refl)

  module _ (t : Table X) (is : IsTable t) (k : ℕ) (live : LiveIn t is k) (w : X) where
    abbrev pub rewritten : Table X
    rewritten = record t { block = record { mark = t.block.mark; at = t.block.at; links = t.block.links; values = set t.block.values k (Some w) } }

    inside : k < length t.block.values
    inside = let far = live.1 in let long = is.filled.long in omega (arith, far, long)

    pub table_written : IsTable rewritten × (lanes_of rewritten ≡ map (replaced k w) (lanes_of t))
    unfolding lanes_of
    table_written =
        let vs = t.block.values in let ls = t.block.links in (
          record {
            block = is.block;
            small = is.small;
            tied = is.tied;
            filled = record {
              long = length-set vs k (Some w) ∙ is.filled.long;
              live = λ j over far ring. elim (cases_eq j k) [
                | inl same ↦ (w, ap (λ q. get_or (set vs k (Some w)) q None) same ∙ get_or-set_same vs k (Some w) None inside)
                | inr other ↦ (let was = is.filled.live j over far ring in (was.0, get_or-set_other vs k j (Some w) None other ∙ was.1))
              ];
              bare = λ j far how. elim (cases_eq j k) [
                | inl same ↦ absurd (let over = live.0 in let low = live.2 in elim how [ inl h ↦ omega (arith, h, same, over) | inr h ↦ (let r = ap (ring_of ls) same in omega (arith, h, r, low)) ])
                | inr other ↦ get_or-set_other vs k j (Some w) None other ∙ is.filled.bare j far how
              ];
            };
            len = is.len;
          },
          listed_same (λ r. replaced k w (pairs vs (row ls r))) (λ r. pairs (set vs k (Some w)) (row ls r)) t.lanes (λ r rm. replaced-pairs vs k w inside (is.filled.live k live.0 live.1 live.2) (row ls r)) ∙ sym (listed-map (replaced k w) (λ r. pairs vs (row ls r)) t.lanes),
        )
