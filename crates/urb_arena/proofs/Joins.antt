-- What a move of a cell makes of the rings.
use Rattle.std.proofs.Common.{◌≤◌, ◌≡◌, ◌≢◌, ℕ, zero, suc, ◌+◌, ◌<◌, ◌⊎◌, inl, inr, List, [], ◌∷◌, ◌++◌, length, get_or, Some, None, refl, ap, sym, subst, ◌∙◌, arith}
use lib.ListN.{length-set}
use Rattle.std.proofs.lemmas.List.{get_or-set_same, get_or-set_other}
use Rattle.std.proofs.lemmas.Bool.{ne_eqb, eq-eqb, cases_eq}
use Rattle.urb_arena.specs.declared.cells.Links.{Links}
use Rattle.urb_arena.specs.Distinct.{Absent, Distinct, itself}
use Rattle.urb_arena.specs.Inner.Turns.{Cells, links_or, link_at, next_of, prev_of, ring_of, with_link, with_next, with_prev, unlinked, linked, moved, Sound, Path, In, follow, total}

-- ---- one write of links

pub at_same : (ls : Cells) (i : ℕ) (l : Links) → i < length ls → link_at (with_link ls i l) i ≡ l
at_same ls i l lt = ap links_or (get_or-set_same ls i (Some l) None lt)

pub at_other : (ls : Cells) (i j : ℕ) (l : Links) → j ≢ i → link_at (with_link ls i l) j ≡ link_at ls j
at_other ls i j l ne = ap links_or (get_or-set_other ls i j (Some l) None ne)

-- a field that the write keeps is kept everywhere
kept_field : {X : Type 0} (f : Links → X) (ls : Cells) (i j : ℕ) (l : Links) → i < length ls → f l ≡ f (link_at ls i) → f (link_at (with_link ls i l) j) ≡ f (link_at ls j)
kept_field f ls i j l lt e = elim (cases_eq j i) [
  | inl same ↦ ap (λ k. f (link_at (with_link ls i l) k)) same ∙ ap f (at_same ls i l lt) ∙ e ∙ ap (λ k. f (link_at ls k)) (sym same)
  | inr other ↦ ap f (at_other ls i j l other)
]

pub Sound-with : (ls : Cells) (i : ℕ) (l : Links) → Sound ls → i < length ls → l.next < length ls → l.prev < length ls → Sound (with_link ls i l)
Sound-with ls i l s lt n p =
    let long = length-set ls i (Some l) in record {
      there = λ j jlt. elim (cases_eq j i) [
        | inl same ↦ (l, ap (λ k. get_or (with_link ls i l) k None) same ∙ get_or-set_same ls i (Some l) None lt)
        | inr other ↦ (let old = s.there j (omega (arith, long, jlt)) in (old.0, get_or-set_other ls i j (Some l) None other ∙ old.1))
      ];
      inside = λ j jlt. elim (cases_eq j i) [
        | inl same ↦ subst (λ (x : Links). (x.next < length (with_link ls i l)) × (x.prev < length (with_link ls i l))) (sym (ap (link_at (with_link ls i l)) same ∙ at_same ls i l lt)) (omega (arith, long), omega (arith, long))
        | inr other ↦ subst (λ (x : Links). (x.next < length (with_link ls i l)) × (x.prev < length (with_link ls i l))) (sym (at_other ls i j l other)) (let old = s.inside j (omega (arith, long, jlt)) in (omega (arith, long, old.0), omega (arith, long, old.1)))
      ];
    }

-- ---- paths

module _ (n p n' p' : ℕ → ℕ) (S : ℕ → Type 0) (edge : (u v : ℕ) → S u → S v → n u ≡ v → p v ≡ u → (n' u ≡ v) × (p' v ≡ u)) where
  -- a path through places of S stays, as each edge among them does
  pub kept : (a : ℕ) (ks : List ℕ) (b : ℕ) → S a → ((k : ℕ) → In k ks → S k) → S b → Path n p a ks b → Path n' p' a ks b
  kept a [] b sa sk sb path = edge a b sa sb path.0 path.1
  kept a (k ∷ ks) b sa sk sb path =
      let here = edge a k sa (sk k (inl refl)) path.0 path.1 in
      (here.0, here.1, kept k ks b (sk k (inl refl)) (λ j i. sk j (inr i)) sb path.2)

  -- and without k between two of them, where its neighbours are joined
  pub skipped : (k : ℕ) → n' (p k) ≡ n k → p' (n k) ≡ p k → (a : ℕ) (xs ys : List ℕ) (b : ℕ) → S a → ((j : ℕ) → In j xs → S j) → ((j : ℕ) → In j ys → S j) → S b → Path n p a (xs ++ k ∷ ys) b → Path n' p' a (xs ++ ys) b
  skipped k on back a [] [] b sa sx sy sb path =
      (ap n' (sym path.1) ∙ on ∙ path.2.0, ap p' (sym path.2.0) ∙ back ∙ path.1)
  skipped k on back a [] (y ∷ ys) b sa sx sy sb path =
      (ap n' (sym path.1) ∙ on ∙ path.2.0, ap p' (sym path.2.0) ∙ back ∙ path.1, kept y ys b (sy y (inl refl)) (λ j i. sy j (inr i)) sb path.2.2)
  skipped k on back a (x ∷ xs) ys b sa sx sy sb path =
      let here = edge a x sa (sx x (inl refl)) path.0 path.1 in
      (here.0, here.1, skipped k on back x xs ys b (sx x (inl refl)) (λ j i. sx j (inr i)) sy sb path.2)

module _ (n p n' p' : ℕ → ℕ) (k b : ℕ) (edge : (u v : ℕ) → u ≢ k → v ≢ k → v ≢ b → n u ≡ v → p v ≡ u → (n' u ≡ v) × (p' v ≡ u)) where
  -- k comes last on the way to b
  pub added : n' (p b) ≡ k → p' k ≡ p b → n' k ≡ b → p' b ≡ k → (a : ℕ) (ks : List ℕ) → a ≢ k → ((j : ℕ) → In j ks → (j ≢ k) × (j ≢ b)) → Path n p a ks b → Path n' p' a (ks ++ k ∷ []) b
  added on to from back a [] ak sk path = (ap n' (sym path.1) ∙ on, to ∙ path.1, (from, back))
  added on to from back a (x ∷ ks) ak sk path =
      let s = sk x (inl refl) in let here = edge a x ak s.0 s.1 path.0 path.1 in
      (here.0, here.1, added on to from back x ks s.0 (λ j i. sk j (inr i)) path.2)

pub last_edge : (n p : ℕ → ℕ) (a : ℕ) (ks : List ℕ) (b : ℕ) → Path n p a ks b → n (p b) ≡ b
last_edge n p a [] b path = ap n path.1 ∙ path.0
last_edge n p a (k ∷ ks) b path = last_edge n p k ks b path.2

-- before the end of a path stands its last place
pub last_cell : (n p : ℕ → ℕ) (a k : ℕ) (ks : List ℕ) (b : ℕ) → Path n p a (k ∷ ks) b → (xs : List ℕ) × (k ∷ ks ≡ xs ++ p b ∷ [])
last_cell n p a k [] b path = ([], ap (λ j. j ∷ []) (sym path.2.1))
last_cell n p a k (j ∷ ks) b path = let rest = last_cell n p k j ks b path.2 in (k ∷ rest.0, ap (λ js. k ∷ js) rest.1)

pub last_in : (n p : ℕ → ℕ) (a k : ℕ) (ks : List ℕ) (b : ℕ) → Path n p a (k ∷ ks) b → In (p b) (k ∷ ks)
last_in n p a k [] b path = inl (sym path.2.1)
last_in n p a k (j ∷ ks) b path = inr (last_in n p k j ks b path.2)

-- what the walk along a ring finds
pub follow-path : (n p : ℕ → ℕ) (fuel a : ℕ) (ks : List ℕ) (b : ℕ) → Path n p a ks b → ((k : ℕ) → In k ks → k ≢ b) → length ks < fuel → follow fuel n (n a) b ≡ ks
follow-path n p zero a ks b path apart fits = absurd (omega arith)
follow-path n p (suc fuel) a [] b path apart fits = rw (path.0, eq-eqb b b refl) refl
follow-path n p (suc fuel) a (k ∷ ks) b path apart fits =
    rw (path.0, ne_eqb k b (apart k (inl refl))) (ap (λ js. k ∷ js) (follow-path n p fuel k ks b path.2 (λ j i. apart j (inr i)) (omega arith)))

-- ---- places in a list

pub In-left : (k : ℕ) (xs ys : List ℕ) → In k xs → In k (xs ++ ys)
In-left k [] ys i = elim i [ ]
In-left k (x ∷ xs) ys i = elim i [ inl e ↦ inl e | inr j ↦ inr (In-left k xs ys j) ]

pub In-right : (k : ℕ) (xs ys : List ℕ) → In k ys → In k (xs ++ ys)
In-right k [] ys i = i
In-right k (x ∷ xs) ys i = inr (In-right k xs ys i)

pub In-either : (k : ℕ) (xs ys : List ℕ) → In k (xs ++ ys) → In k xs ⊎ In k ys
In-either k [] ys i = inr i
In-either k (x ∷ xs) ys i = elim i [ inl e ↦ inl (inl e) | inr j ↦ elim (In-either k xs ys j) [ inl l ↦ inl (inr l) | inr r ↦ inr r ] ]

-- a place splits its list
pub In-split : (k : ℕ) (ks : List ℕ) → In k ks → (xs : List ℕ) × ((ys : List ℕ) × (ks ≡ xs ++ k ∷ ys))
In-split k [] i = elim i [ ]
In-split k (x ∷ ks) i = elim i [
  | inl e ↦ ([], (ks, ap (λ j. j ∷ ks) e))
  | inr j ↦ (let rest = In-split k ks j in (x ∷ rest.0, (rest.1.0, ap (λ js. x ∷ js) rest.1.1)))
]

pub absent-not_in : (k : ℕ) (ks : List ℕ) → Absent itself k ks → In k ks → ⊥
absent-not_in k [] absent i = i
absent-not_in k (x ∷ ks) absent i = elim i [ inl e ↦ absent.0 e | inr j ↦ absent-not_in k ks absent.1 j ]

pub not_in-absent : (k : ℕ) (ks : List ℕ) → (In k ks → ⊥) → Absent itself k ks
not_in-absent k [] out = tt
not_in-absent k (x ∷ ks) out = ((λ e. out (inl e)), not_in-absent k ks (λ i. out (inr i)))

pub Distinct-without : (xs : List ℕ) (k : ℕ) (ys : List ℕ) → Distinct itself (xs ++ k ∷ ys) → Distinct itself (xs ++ ys) × (In k (xs ++ ys) → ⊥)
Distinct-without [] k ys d = (d.1, absent-not_in k ys d.0)
Distinct-without (x ∷ xs) k ys d =
    let out = absent-not_in x (xs ++ k ∷ ys) d.0 in
    let rest = Distinct-without xs k ys d.1 in (
      (not_in-absent x (xs ++ ys) (λ i. elim (In-either x xs ys i) [ inl l ↦ out (In-left x xs (k ∷ ys) l) | inr r ↦ out (In-right x xs (k ∷ ys) (inr r)) ]), rest.0),
      λ i. elim i [ inl e ↦ out (In-right x xs (k ∷ ys) (inl (sym e))) | inr j ↦ rest.1 j ],
    )

pub Distinct-more : (ks : List ℕ) (k : ℕ) → Distinct itself ks → (In k ks → ⊥) → Distinct itself (ks ++ k ∷ [])
Distinct-more [] k d absent = (tt, tt)
Distinct-more (x ∷ ks) k d absent =
    (not_in-absent x (ks ++ k ∷ []) (λ i. elim (In-either x ks (k ∷ []) i) [ inl l ↦ absent-not_in x ks d.0 l | inr r ↦ elim r [ inl e ↦ absent (inl (sym e)) | inr z ↦ z ] ]), Distinct-more ks k d.1 (λ i. absent (inr i)))

-- ---- how many there are together

-- one of them has no more than all together
pub total_at : {Y : Type 0} (f : ℕ → List Y) (n i : ℕ) → i < n → length (f i) ≤ total f n
total_at f zero i lt = absurd (omega arith)
total_at f (suc n) i lt = elim (cases_eq i n) [
  | inl e ↦ (let here = ap (λ j. length (f j)) e in omega (arith, here))
  | inr ne ↦ (let rest = total_at f n i (omega (arith, lt, ne)) in omega (arith, rest))
]

pub total_same : {Y : Type 0} (f g : ℕ → List Y) (n : ℕ) → ((r : ℕ) → r < n → g r ≡ f r) → total g n ≡ total f n
total_same f g zero same = refl
total_same f g (suc n) same = let rest = total_same f g n (λ r lt. same r (omega (arith, lt))) in let last = ap length (same n (omega arith)) in omega (arith, rest, last)

-- one list is changed
pub total_changed : {Y : Type 0} (f g : ℕ → List Y) (i n : ℕ) → ((r : ℕ) → r ≢ i → g r ≡ f r) → i < n → total g n + length (f i) ≡ total f n + length (g i)
total_changed f g i zero same lt = absurd (omega arith)
total_changed f g i (suc n) same lt = elim (cases_eq i n) [
  | inl e ↦ (
      let rest = total_same f g n (λ r lt'. same r (λ h. omega (arith, lt', h, e))) in
      let here = ap (λ j. length (f j)) e in let here' = ap (λ j. length (g j)) e in omega (arith, rest, here, here'))
  | inr ne ↦ (
      let rest = total_changed f g i n same (omega (arith, lt, ne)) in let last = ap length (same n (λ h. ne (sym h))) in omega (arith, rest, last))
]

-- ---- a cell is taken out, and put in

module _ (ls : Cells) (k : ℕ) (s : Sound ls) (lt : k < length ls) where
  abbrev a : ℕ
  a = prev_of ls k

  abbrev b : ℕ
  b = next_of ls k

  abbrev first : Cells
  first = with_next ls a b

  long : length first ≡ length ls
  long = length-set ls a _

  a_lt : a < length ls
  a_lt = (s.inside k lt).1

  b_lt : b < length ls
  b_lt = (s.inside k lt).0

  b_lt' : b < length first
  b_lt' = omega (arith, b_lt, long)

  pub unlinked-length : length (unlinked ls k) ≡ length ls
  unfolding unlinked
  unlinked-length = length-set first b _ ∙ long

  pub unlinked-Sound : Sound (unlinked ls k)
  unfolding unlinked
  unlinked-Sound =
      let one = Sound-with ls a _ s a_lt b_lt (s.inside a a_lt).1 in
      Sound-with first b _ one b_lt' (one.inside b b_lt').0 (omega (arith, a_lt, long))

  pub unlinked-on : next_of (unlinked ls k) a ≡ b
  unfolding unlinked
  unlinked-on = kept_field (λ l. l.next) first b a _ b_lt' refl ∙ ap (λ (l : Links). l.next) (at_same ls a _ a_lt)

  pub unlinked-next : (x : ℕ) → x ≢ a → next_of (unlinked ls k) x ≡ next_of ls x
  unfolding unlinked
  unlinked-next x ne = kept_field (λ l. l.next) first b x _ b_lt' refl ∙ ap (λ (l : Links). l.next) (at_other ls a x _ ne)

  pub unlinked-back : prev_of (unlinked ls k) b ≡ a
  unfolding unlinked
  unlinked-back = ap (λ (l : Links). l.prev) (at_same first b _ b_lt')

  pub unlinked-prev : (x : ℕ) → x ≢ b → prev_of (unlinked ls k) x ≡ prev_of ls x
  unfolding unlinked
  unlinked-prev x ne = ap (λ (l : Links). l.prev) (at_other first b x _ ne) ∙ kept_field (λ l. l.prev) ls a x _ a_lt refl

  pub unlinked-ring : (x : ℕ) → ring_of (unlinked ls k) x ≡ ring_of ls x
  unfolding unlinked
  unlinked-ring x = kept_field (λ l. l.ring) first b x _ b_lt' refl ∙ kept_field (λ l. l.ring) ls a x _ a_lt refl

module _ (ls : Cells) (k e : ℕ) (s : Sound ls) (lt : k < length ls) (elt : e < length ls) where
  abbrev z : ℕ
  z = prev_of ls e

  abbrev one : Cells
  one = with_next ls z k

  abbrev two : Cells
  two = with_prev one e k

  z_lt : z < length ls
  z_lt = (s.inside e elt).1

  long1 : length one ≡ length ls
  long1 = length-set ls z _

  long2 : length two ≡ length ls
  long2 = length-set one e _ ∙ long1

  e_lt : e < length one
  e_lt = omega (arith, elt, long1)

  k_lt : k < length two
  k_lt = omega (arith, lt, long2)

  pub linked-length : length (linked ls k e) ≡ length ls
  unfolding linked
  linked-length = length-set two k _ ∙ long2

  pub linked-Sound : Sound (linked ls k e)
  unfolding linked
  linked-Sound =
      let s1 = Sound-with ls z _ s z_lt lt (s.inside z z_lt).1 in
      let s2 = Sound-with one e _ s1 e_lt (s1.inside e e_lt).0 (omega (arith, lt, long1)) in
      Sound-with two k _ s2 k_lt (omega (arith, elt, long2)) (omega (arith, z_lt, long2))

  linked-at : link_at (linked ls k e) k ≡ record { prev = z; next = e; ring = e }
  unfolding linked
  linked-at = at_same two k _ k_lt

  pub linked-from : next_of (linked ls k e) k ≡ e
  linked-from = ap (λ (l : Links). l.next) linked-at

  pub linked-to : prev_of (linked ls k e) k ≡ z
  linked-to = ap (λ (l : Links). l.prev) linked-at

  pub linked-ring_here : ring_of (linked ls k e) k ≡ e
  linked-ring_here = ap (λ (l : Links). l.ring) linked-at

  pub linked-ring : (x : ℕ) → x ≢ k → ring_of (linked ls k e) x ≡ ring_of ls x
  unfolding linked
  linked-ring x ne = ap (λ (l : Links). l.ring) (at_other two k x _ ne) ∙ kept_field (λ l. l.ring) one e x _ e_lt refl ∙ kept_field (λ l. l.ring) ls z x _ z_lt refl

  pub linked-on : z ≢ k → next_of (linked ls k e) z ≡ k
  unfolding linked
  linked-on ne = ap (λ (l : Links). l.next) (at_other two k z _ ne) ∙ kept_field (λ l. l.next) one e z _ e_lt refl ∙ ap (λ (l : Links). l.next) (at_same ls z _ z_lt)

  pub linked-next : (x : ℕ) → x ≢ k → x ≢ z → next_of (linked ls k e) x ≡ next_of ls x
  unfolding linked
  linked-next x nk nz = ap (λ (l : Links). l.next) (at_other two k x _ nk) ∙ kept_field (λ l. l.next) one e x _ e_lt refl ∙ ap (λ (l : Links). l.next) (at_other ls z x _ nz)

  pub linked-back : e ≢ k → prev_of (linked ls k e) e ≡ k
  unfolding linked
  linked-back ne = ap (λ (l : Links). l.prev) (at_other two k e _ ne) ∙ ap (λ (l : Links). l.prev) (at_same one e _ e_lt)

  pub linked-prev : (x : ℕ) → x ≢ k → x ≢ e → prev_of (linked ls k e) x ≡ prev_of ls x
  unfolding linked
  linked-prev x nk ne = ap (λ (l : Links). l.prev) (at_other two k x _ nk) ∙ ap (λ (l : Links). l.prev) (at_other one e x _ ne) ∙ kept_field (λ l. l.prev) ls z x _ z_lt refl

-- the writes of a move, one after another
pub shifted : (ls s1 s2 s3 s4 s5 : Cells) (k e : ℕ) (l z : Links) → l ≡ link_at ls k → s1 ≡ with_next ls l.prev l.next → s2 ≡ with_prev s1 l.next l.prev → z ≡ link_at s2 e
    → s3 ≡ with_next s2 z.prev k → s4 ≡ with_prev s3 e k → s5 ≡ with_link s4 k (record { prev = z.prev; next = e; ring = e }) → s5 ≡ moved ls k e
unfolding unlinked linked
shifted ls s1 s2 s3 s4 s5 k e l z el e1 e2 ez e3 e4 e5 =
    let u : s2 ≡ with_prev (with_next ls (prev_of ls k) (next_of ls k)) (next_of ls k) (prev_of ls k) =
    e2 ∙ (λ i. with_prev (e1 i) l.next l.prev) ∙ (λ i. with_prev (with_next ls (el i).prev (el i).next) (el i).next (el i).prev) in
    let v = ez ∙ (λ i. link_at (u i) e) in
    e5 ∙ (λ i. with_link (e4 i) k (record { prev = z.prev; next = e; ring = e })) ∙ (λ i. with_link (with_prev (e3 i) e k) k (record { prev = z.prev; next = e; ring = e }))
    ∙ (λ i. with_link (with_prev (with_next (u i) (v i).prev k) e k) k (record { prev = (v i).prev; next = e; ring = e }))
