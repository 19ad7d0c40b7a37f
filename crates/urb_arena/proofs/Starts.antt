-- A new table: its lanes are empty, and all cells are free.
use Rattle.std.proofs.Common.{◌≡◌, ◌≢◌, ◌==◌, ℕ, zero, suc, ◌+◌, ◌-◌, ◌<◌, ◌≤◌, if◌then◌else◌, inl, inr, List, [], ◌∷◌, ◌++◌, length, replicate, get_or, Option, None, refl, ap, sym, subst, ◌∙◌, arith}
use Rattle.std.specs.List.{range_with_len}
use lib.ListN.{length-replicate}
use Rattle.std.proofs.lemmas.Bool.{ne_eqb, eq-eqb, cases_eq}
use Rattle.urb_arena.specs.declared.cells.Links.{Links}
use Rattle.urb_arena.specs.declared.table.Table.{Table}
use Rattle.urb_arena.specs.Distinct.{Distinct, itself}
use Rattle.urb_arena.specs.Inner.Turns.{Cells, links_or, link_at, ring_of, next_of, prev_of, row, listed, total, Tied, Path, In, start, Started}
use Rattle.urb_arena.specs.Inner.Tables.{pairs, IsTable, lanes_of}
use Rattle.urb_arena.proofs.Joins.{not_in-absent}
use Rattle.urb_arena.proofs.Lanes.{listed_same}
use Rattle.urb_arena.proofs.Moves.{row_is, Tied-row}
use Rattle.urb_arena.specs.declared.arena.TheConstants.{MOST}

range-length : (a n : ℕ) → length (range_with_len a n) ≡ n
range-length a zero = refl
range-length a (suc n) = ap suc (range-length (a + 1) n)

range-in : (a n k : ℕ) → In k (range_with_len a n) → (a ≤ k) × (k < a + n)
range-in a zero k i = elim i [ ]
range-in a (suc n) k i = elim i [
  | inl e ↦ (omega (arith, e), omega (arith, e))
  | inr j ↦ (let rest = range-in (a + 1) n k j in let lo = rest.0 in let hi = rest.1 in (omega (arith, lo), omega (arith, hi)))
]

range-has : (a n k : ℕ) → a ≤ k → k < a + n → In k (range_with_len a n)
range-has a zero k lo hi = absurd (omega (arith, lo, hi))
range-has a (suc n) k lo hi = elim (cases_eq a k) [
  | inl e ↦ inl e
  | inr ne ↦ inr (range-has (a + 1) n k (omega (arith, lo, ne)) (omega (arith, hi)))
]

range-Distinct : (a n : ℕ) → Distinct itself (range_with_len a n)
range-Distinct a zero = tt
range-Distinct a (suc n) = (not_in-absent a (range_with_len (a + 1) n) (λ i. (let lo = (range-in (a + 1) n a i).0 in omega (arith, lo))), range-Distinct (a + 1) n)

module _ (m n i : ℕ) where
  pub start-end : i < m → start m n i ≡ record { prev = i; next = i; ring = i }
  start-end lt = grind arith

  start-next : m ≤ i → i + 1 ≢ n → (start m n i).next ≡ i + 1
  start-next lo ne = grind arith

  start-last : m ≤ i → i + 1 ≡ n → (start m n i).next ≡ m
  start-last lo e = grind arith

  start-prev : m < i → (start m n i).prev ≡ i - 1
  start-prev lo = grind arith

  start-first : m ≡ i → (start m n i).prev ≡ n - 1
  start-first e = grind arith

  start-ring : m ≤ i → (start m n i).ring ≡ m
  start-ring lo = grind arith

  start-inside : i < n → m < n → ((start m n i).next < n) × ((start m n i).prev < n)
  start-inside lt mn = grind arith

module _ (ls : Cells) (m cap : ℕ) (long : length ls ≡ m + 1 + cap) (s : Started ls m (m + 1 + cap) (m + 1 + cap)) where
  abbrev n : ℕ
  n = m + 1 + cap

  is : (i : ℕ) → i < n → link_at ls i ≡ start m n i
  is i lt = ap links_or (s i lt)

  abbrev rows : ℕ → List ℕ
  rows r = if r == m then range_with_len (m + 1) cap else []

  rows_m : (r : ℕ) → r ≡ m → rows r ≡ range_with_len (m + 1) cap
  rows_m r e = rw (eq-eqb r m e) refl

  rows_lane : (r : ℕ) → r ≢ m → rows r ≡ []
  rows_lane r e = rw (ne_eqb r m e) refl

  next_is : (i : ℕ) → i < n → next_of ls i ≡ (start m n i).next
  next_is i lt = ap (λ (l : Links). l.next) (is i lt)

  prev_is : (i : ℕ) → i < n → prev_of ls i ≡ (start m n i).prev
  prev_is i lt = ap (λ (l : Links). l.prev) (is i lt)

  ring_is : (i : ℕ) → i < n → ring_of ls i ≡ (start m n i).ring
  ring_is i lt = ap (λ (l : Links). l.ring) (is i lt)

  ring_free : (i : ℕ) → m ≤ i → i < n → ring_of ls i ≡ m
  ring_free i lo lt = ring_is i lt ∙ start-ring m n i lo

  chain : (a c : ℕ) → a + 1 + c ≡ n → m ≤ a → Path (next_of ls) (prev_of ls) a (range_with_len (a + 1) c) m
  chain a zero e lo =
      (next_is a (omega (arith, e)) ∙ start-last m n a lo (omega (arith, e)), prev_is m (omega arith) ∙ start-first m n m refl ∙ omega (arith, e))
  chain a (suc c) e lo =
      (next_is a (omega (arith, e)) ∙ start-next m n a lo (λ h. omega (arith, e, h)), prev_is (a + 1) (omega (arith, e)) ∙ start-prev m n (a + 1) (omega (arith, lo)) ∙ omega arith, chain (a + 1) c (omega (arith, e)) (omega (arith, lo)))

  none : (k : ℕ) (ks : List ℕ) → ks ≡ [] → In k ks → ⊥
  none k [] e i = i
  none k (j ∷ js) e i = absurd (let l = ap length e in omega (arith, l))

  members' : (r : ℕ) → r ≤ m → (k : ℕ) → In k (rows r) → (m < k) × (k < length ls) × (ring_of ls k ≡ r)
  members' r rm k i = elim (cases_eq r m) [
    | inl e ↦ (
        let at = range-in (m + 1) cap k (subst (λ ks. In k ks) (rows_m r e) i) in let lo = at.0 in let hi = at.1 in
        (omega (arith, lo), omega (arith, hi, long), ring_free k (omega (arith, lo)) (omega (arith, hi)) ∙ sym e))
    | inr ne ↦ absurd (none k (rows r) (rows_lane r ne) i)
  ]

  pub Tied-start : Tied ls m cap rows
  Tied-start = record {
    size = long;
    sound = record {
      there = λ i lt. (start m n i, s i (omega (arith, lt, long)));
      inside = λ i lt. (let at : i < n = omega (arith, lt, long) in let b = start-inside m n i at (omega arith) in let e = next_is i at in let e' = prev_is i at in let b0 = b.0 in let b1 = b.1 in (omega (arith, e, b0, long), omega (arith, e', b1, long)));
    };
    ends = λ r rm. elim (cases_eq r m) [
      | inl e ↦ ring_free r (omega (arith, e)) (omega (arith, rm)) ∙ sym e
      | inr ne ↦ ring_is r (omega (arith, rm)) ∙ ap (λ (l : Links). l.ring) (start-end m n r (omega (arith, rm, ne)))
    ];
    paths = λ r rm. elim (cases_eq r m) [
      | inl e ↦ subst (λ x. Path (next_of ls) (prev_of ls) x (rows x) x) (sym e) (subst (λ ks. Path (next_of ls) (prev_of ls) m ks m) (sym (rows_m m refl)) (chain m cap refl (omega arith)))
      | inr ne ↦ subst (λ ks. Path (next_of ls) (prev_of ls) r ks r) (sym (rows_lane r ne))
          (let alone = start-end m n r (omega (arith, rm, ne)) in (next_is r (omega (arith, rm)) ∙ ap (λ (l : Links). l.next) alone, prev_is r (omega (arith, rm)) ∙ ap (λ (l : Links). l.prev) alone))
    ];
    members = members';
    found = λ k lo hi. (let e = ring_free k (omega (arith, lo)) (omega (arith, hi, long)) in
        (omega (arith, e), subst (λ r. In k (rows r)) (sym e) (subst (λ ks. In k ks) (sym (rows_m m refl)) (range-has (m + 1) cap k (omega (arith, lo)) (omega (arith, hi, long))))));
    distinct = λ r rm. elim (cases_eq r m) [
      | inl e ↦ subst (Distinct itself) (sym (rows_m r e)) (range-Distinct (m + 1) cap)
      | inr ne ↦ subst (Distinct itself) (sym (rows_lane r ne)) tt
    ];
    count = (let up : m + 1 ≡ suc m = omega arith in let few = empty m (λ r lt. rows_lane r (λ e. omega (arith, e, lt))) in let last = ap length (rows_m m refl) ∙ range-length (m + 1) cap in ap (total rows) up ∙ omega (arith, few, last));
  }
    where
      empty : (k : ℕ) → ((r : ℕ) → r < k → rows r ≡ []) → total rows k ≡ 0
      empty zero h = refl
      empty (suc k) h = let rest = empty k (λ r lt. h r (omega (arith, lt))) in let here = ap length (h k (omega arith)) in omega (arith, rest, here)

  pub row_empty : (r : ℕ) → r < m → row ls r ≡ []
  row_empty r lt = row_is ls m cap rows Tied-start r (omega (arith, lt)) ∙ rows_lane r (λ e. omega (arith, e, lt))

all_none : (X : Type 0) (k i : ℕ) → get_or {A = Option X} (replicate k None) i None ≡ None
all_none X zero i = refl
all_none X (suc k) zero = refl
all_none X (suc k) (suc i) = all_none X k i

listed_replicate : {Y : Type 0} (y : Y) (k : ℕ) → listed (λ _. y) k ≡ replicate k y
listed_replicate y zero = refl
listed_replicate y (suc k) = ap (λ l. l ++ y ∷ []) (listed_replicate y k) ∙ push k
  where
    push : (j : ℕ) → replicate j y ++ y ∷ [] ≡ y ∷ replicate j y
    push zero = refl
    push (suc j) = ap (λ l. y ∷ l) (push j)

pub IsTable-start : {X : Type 0} (t : Table X) → (t.base.ptr ≡ t.block.at) × (t.deed.at ≡ t.base.ptr) × (t.deed.len ≡ length t.block.links) × (t.deed.alloc ≡ t.alloc) → (t.lanes ≤ MOST) × (t.capacity ≤ MOST)
    → length t.block.links ≡ t.lanes + 1 + t.capacity → Started t.block.links t.lanes (t.lanes + 1 + t.capacity) (t.lanes + 1 + t.capacity) → t.block.values ≡ replicate (t.lanes + 1 + t.capacity) None → t.len ≡ 0
    → IsTable t × (lanes_of t ≡ replicate t.lanes [])
unfolding lanes_of
IsTable-start {X} t block small long s bare zero_len =
    let ls = t.block.links in let m = t.lanes in
    let here : (i : ℕ) → get_or t.block.values i None ≡ None = λ i. ap (λ vs. get_or vs i None) bare ∙ all_none X (m + 1 + t.capacity) i in
    let tied = Tied-start ls m t.capacity long s in let empty = row_empty ls m t.capacity long s in (
      record {
        block = block;
        small = small;
        tied = Tied-row ls m t.capacity _ tied;
        filled = record {
          long = ap length bare ∙ length-replicate (m + 1 + t.capacity) None ∙ sym long;
          live = λ k lo hi ring. absurd (let e = ring_free' ls m t.capacity long s k lo hi in omega (arith, e, ring));
          bare = λ k hi how. here k;
        };
        len = zero_len ∙ sym (none m (row ls) empty);
      },
      listed_same (λ _. []) (λ r. pairs t.block.values (row ls r)) m (λ r lt. ap (pairs t.block.values) (empty r lt)) ∙ listed_replicate [] m,
    )
  where
    none : (k : ℕ) (f : ℕ → List ℕ) → ((r : ℕ) → r < k → f r ≡ []) → total f k ≡ 0
    none zero f h = refl
    none (suc k) f h = let rest = none k f (λ r lt. h r (omega (arith, lt))) in let at = ap length (h k (omega arith)) in omega (arith, rest, at)

    ring_free' : (ls : Cells) (m cap : ℕ) → length ls ≡ m + 1 + cap → Started ls m (m + 1 + cap) (m + 1 + cap) → (k : ℕ) → m < k → k < length ls → ring_of ls k ≡ m
    ring_free' ls m cap long s k lo hi = ap (λ (l : Option Links). (links_or l).ring) (s k (omega (arith, hi, long))) ∙ start-ring m (m + 1 + cap) k (omega (arith, lo))
