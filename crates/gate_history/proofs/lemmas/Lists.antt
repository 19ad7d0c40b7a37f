-- Filters, maps and joins that agree on the elements.
use Rattle.std.proofs.Common.{◌≡◌, ℕ, zero, suc, ◌<◌, ◌≤◌, ◌||◌, get_or, Bool, true, false, cond, not, List, [], ◌∷◌, ◌++◌, length, map, refl, ap, ◌∙◌, arith}
use Rattle.std.proofs.lemmas.List.{length-append}
use Rattle.std.proofs.lemmas.List.Filters.{length-filter_both}
use Rattle.std.specs.Prelude.{filter}
use Rattle.std.specs.List.{list_any, flat_map, AllByRecursion}

abbrev pub Each : {X : Type 0} → (X → Type 0) → List X → Type 0
Each P xs = AllByRecursion P xs

pub every : {X : Type 0} (P : X → Type 0) → ((x : X) → P x) → (xs : List X) → Each P xs
every P h [] = tt
every P h (x ∷ xs) = (h x, every P h xs)

pub Each-weaker : {X : Type 0} (P Q : X → Type 0) → ((x : X) → P x → Q x) → (xs : List X) → Each P xs → Each Q xs
Each-weaker P Q h [] e = tt
Each-weaker P Q h (x ∷ xs) e = (h x e.0, Each-weaker P Q h xs e.1)

pub Each-append : {X : Type 0} (P : X → Type 0) (xs ys : List X) → Each P xs → Each P ys → Each P (xs ++ ys)
Each-append P [] ys e f = f
Each-append P (x ∷ xs) ys e f = (e.0, Each-append P xs ys e.1 f)

pub Each-filter : {X : Type 0} (P : X → Type 0) (p : X → Bool) (xs : List X) → Each P xs → Each P (filter p xs)
Each-filter P p [] e = tt
Each-filter P p (x ∷ xs) e =
    elim (p x) as (λ b. Each P (cond b (x ∷ filter p xs) (filter p xs))) [ true ↦ (e.0, Each-filter P p xs e.1) | false ↦ Each-filter P p xs e.1 ]

pub filter-same : {X : Type 0} (p q : X → Bool) (xs : List X) → Each (λ x. p x ≡ q x) xs → filter p xs ≡ filter q xs
filter-same p q [] e = refl
filter-same {X = X} p q (x ∷ xs) e =
    ap (λ (b : Bool). cond b (x ∷ filter p xs) (filter p xs)) e.0 ∙ ap (λ (l : List X). cond (q x) (x ∷ l) l) (filter-same p q xs e.1)

abbrev pub both : Bool → Bool → Bool
both a b = cond a b false

pub filter-twice : {X : Type 0} (p q : X → Bool) (xs : List X) → filter p (filter q xs) ≡ filter (λ x. both (q x) (p x)) xs
filter-twice p q [] = refl
filter-twice {X = X} p q (x ∷ xs) =
    let rest = filter-twice p q xs in
    elim (q x) as (λ b. filter p (cond b (x ∷ filter q xs) (filter q xs)) ≡ cond (both b (p x)) (x ∷ filter (λ y. both (q y) (p y)) xs) (filter (λ y. both (q y) (p y)) xs))
    [ true ↦ ap (λ (l : List X). cond (p x) (x ∷ l) l) rest | false ↦ rest ]

pub filter-none : {X : Type 0} (xs : List X) → filter (λ x. false) xs ≡ []
filter-none [] = refl
filter-none (x ∷ xs) = filter-none xs

pub filter-all : {X : Type 0} (xs : List X) → filter (λ x. true) xs ≡ xs
filter-all [] = refl
filter-all {X = X} (x ∷ xs) = ap (λ (l : List X). x ∷ l) (filter-all xs)

pub filter-map : {X Y : Type 0} (p : Y → Bool) (f : X → Y) (xs : List X) → filter p (map f xs) ≡ map f (filter (λ x. p (f x)) xs)
filter-map p f [] = refl
filter-map {Y = Y} p f (x ∷ xs) =
    let rest = filter-map p f xs in
    elim (p (f x)) as (λ b. cond b (f x ∷ filter p (map f xs)) (filter p (map f xs)) ≡ map f (cond b (x ∷ filter (λ y. p (f y)) xs) (filter (λ y. p (f y)) xs)))
    [ true ↦ ap (λ (l : List Y). f x ∷ l) rest | false ↦ rest ]

pub map-same : {X Y : Type 0} (f g : X → Y) (xs : List X) → Each (λ x. f x ≡ g x) xs → map f xs ≡ map g xs
map-same f g [] e = refl
map-same f g (x ∷ xs) e = λ t. e.0 t ∷ map-same f g xs e.1 t

pub map-map : {X Y Z : Type 0} (f : Y → Z) (g : X → Y) (xs : List X) → map f (map g xs) ≡ map (λ x. f (g x)) xs
map-map f g [] = refl
map-map {Z = Z} f g (x ∷ xs) = ap (λ (l : List Z). f (g x) ∷ l) (map-map f g xs)

pub list_any-map : {X Y : Type 0} (p : Y → Bool) (f : X → Y) (xs : List X) → list_any p (map f xs) ≡ list_any (λ x. p (f x)) xs
list_any-map p f [] = refl
list_any-map p f (x ∷ xs) = ap (λ (b : Bool). p (f x) || b) (list_any-map p f xs)

pub flat_map-same : {X A : Type 0} (f g : X → List A) (xs : List X) → Each (λ x. f x ≡ g x) xs → flat_map f xs ≡ flat_map g xs
flat_map-same f g [] e = refl
flat_map-same f g (x ∷ xs) e = λ t. e.0 t ++ flat_map-same f g xs e.1 t

pub flat_map-map : {X Y A : Type 0} (f : Y → List A) (g : X → Y) (xs : List X) → flat_map f (map g xs) ≡ flat_map (λ x. f (g x)) xs
flat_map-map f g [] = refl
flat_map-map {A = A} f g (x ∷ xs) = ap (λ (l : List A). f (g x) ++ l) (flat_map-map f g xs)

pub flat_map-filter : {X A : Type 0} (f : X → List A) (p : X → Bool) (xs : List X) → flat_map f (filter p xs) ≡ flat_map (λ x. cond (p x) (f x) []) xs
flat_map-filter f p [] = refl
flat_map-filter {A = A} f p (x ∷ xs) =
    let rest = flat_map-filter f p xs in
    elim (p x) as (λ b. flat_map f (cond b (x ∷ filter p xs) (filter p xs)) ≡ cond b (f x) [] ++ flat_map (λ y. cond (p y) (f y) []) xs)
    [ true ↦ ap (λ (l : List A). f x ++ l) rest | false ↦ rest ]

pub flat_map-none : {X A : Type 0} (xs : List X) → flat_map {A = A} (λ x. []) xs ≡ []
flat_map-none [] = refl
flat_map-none (x ∷ xs) = flat_map-none xs

-- a list among those of others
pub some-joined : {X A : Type 0} (f : X → List A) (xs : List X) (n : ℕ) (x : X) → n < length xs → x ≡ get_or xs n x → 0 < length (f x) → 0 < length (flat_map f xs)
some-joined f [] n x few e h = absurd (omega (arith, few))
some-joined {X = X} f (y ∷ ys) zero x few e h =
    let here : length (f x) ≡ length (f y) = ap (λ (z : X). length (f z)) e in
    omega (arith, h, here, length-append (f y) (flat_map f ys))
some-joined f (y ∷ ys) (suc n) x few e h = omega (arith, some-joined f ys n x (omega (arith, few)) e h, length-append (f y) (flat_map f ys))

keep-pass : {X : Type 0} (p : X → Bool) (x : X) (l : List X) (b : Bool) → p x ≡ b → Each (λ y. p y ≡ true) l → Each (λ y. p y ≡ true) (cond b (x ∷ l) l)
keep-pass p x l true e h = (e, h)
keep-pass p x l false e h = h

pub filter-passes : {X : Type 0} (p : X → Bool) (xs : List X) → Each (λ x. p x ≡ true) (filter p xs)
filter-passes p [] = tt
filter-passes p (x ∷ xs) = keep-pass p x (filter p xs) (p x) refl (filter-passes p xs)

-- a filter leaves no more
pub length-filter : {X : Type 0} (p : X → Bool) (xs : List X) → length (filter p xs) ≤ length xs
length-filter p xs = let both = length-filter_both p (λ x. not (p x)) (λ x. refl) xs in omega arith
