-- The ids of what is owed: a submit, a perform and an answer keep them.
use Rattle.std.proofs.Common.{◌≡◌, ℕ, ◌+◌, ◌≤◌, ◌==◌, not, Bool, true, false, cond, List, [], ◌∷◌, ◌++◌, filter, refl, sym, ap, ◌∙◌, subst, arith, Some}
use Rattle.std.proofs.lemmas.List.{reverse-append}
use Rattle.usb_base.specs.declared.transfer.Outcome.{Outcome}
use Rattle.gate_history.proofs.lemmas.Lists.{both, Each-weaker, Each-append, Each-filter}
use Rattle.direct_run.specs.declared.submitted.Submitted.{Submitted}
use Rattle.direct_run.specs.Noted.{number_in}
use Rattle.direct_device.specs.Direct.{Load, number}
use Rattle.direct_proof.specs.Requests.{Entry, Coming, Debt}
use Rattle.direct_proof.specs.Ids.{Ids, Agrees}
use Rattle.direct_proof.proofs.shared.New.{IsNew}
use Rattle.direct_proof.proofs.lists.Counts.{count-cons, count-append, count-parts, count-zero, count-both, single, itself, Each-found}
use Rattle.std.specs.Prelude.{find, reverse}
use Rattle.std.specs.List.{count_by, AllByRecursion as Each}
use Rattle.std.specs.Option.{option_map_or}

abbrev weight : Bool → ℕ
weight b = cond b 1 0

false-true : false ≡ true → ⊥
false-true h = cc

abbrev pub IsNewNumber : ℕ → List Debt → Type 0
IsNewNumber n ds = Each (λ (d : Debt). (number d.load == n) ≡ false) ds

abbrev pair : ℕ → ℕ → ℕ → ℕ → Bool
pair id n i k = both (i == id) (k == n)

pair-itself : (id n : ℕ) → pair id n id n ≡ true
pair-itself id n = ap (λ (b : Bool). both b (n == n)) (itself id) ∙ itself n

-- what is under way has the id of a debt
debts-some : (id n : ℕ) (ds : List Debt) → IsNew id ds → count_by (λ (d : Debt). pair id n d.id (number d.load)) ds ≡ 0
debts-some id n ds h = let z = count-zero (λ (d : Debt). d.id == id) ds h in let le = count-both (λ (d : Debt). d.id == id) (λ (d : Debt). number d.load == n) ds in omega (arith, z, le)

-- so what has a new id isn't under way; what is under way has an id and a load
names-old : {X : Type 0} (id_of : X → ℕ) (load_of : X → Load) (ds : List Debt) (xs : List X) → ((i n : ℕ) → count_by (λ (x : X). pair i n (id_of x) (number (load_of x))) xs ≤ count_by (λ (d : Debt). pair i n d.id (number d.load)) ds) → (id : ℕ) → IsNew id ds → Each (λ (x : X). (id == id_of x) ≡ false) xs
names-old {X = X} id_of load_of ds xs owed id new =
    Each-weaker (λ (x : X). 1 ≤ count_by (λ (y : X). pair (id_of x) (number (load_of x)) (id_of y) (number (load_of y))) xs) (λ (x : X). (id == id_of x) ≡ false)
    (λ x h. go x (id == id_of x) refl h) xs
    (Each-found (λ (x y : X). pair (id_of x) (number (load_of x)) (id_of y) (number (load_of y))) (λ x. pair-itself (id_of x) (number (load_of x))) xs)
  where
    go : (x : X) (b : Bool) → (id == id_of x) ≡ b → 1 ≤ count_by (λ (y : X). pair (id_of x) (number (load_of x)) (id_of y) (number (load_of y))) xs → b ≡ false
    go x false i h = refl
    go x true i h =
        let same : id ≡ id_of x = grind (arith, i) in
        let z = debts-some (id_of x) (number (load_of x)) ds (subst (λ (n : ℕ). IsNew n ds) same new) in
        absurd (omega (arith, z, h, owed (id_of x) (number (load_of x))))

pub entries-old : (ds : List Debt) (names : List Submitted) (es : List Entry) (ran : List Coming) → Ids ds names es ran → (id : ℕ) → IsNew id ds → Each (λ (e : Entry). (id == e.id) ≡ false) es
entries-old ds names es ran ids = names-old (λ (e : Entry). e.id) (λ (e : Entry). e.load) ds es (λ i n. omega (arith, ids.balance (pair i n)))

pub ran-old : (ds : List Debt) (names : List Submitted) (es : List Entry) (ran : List Coming) → Ids ds names es ran → (id : ℕ) → IsNew id ds → Each (λ (c : Coming). (id == c.id) ≡ false) ran
ran-old ds names es ran ids = names-old (λ (c : Coming). c.id) (λ (c : Coming). c.load) ds ran (λ i n. omega (arith, ids.balance (pair i n)))

-- ---- a submit

pub number-last : (id : ℕ) (xs : List Submitted) (x : Submitted) → number_in id (xs ++ x ∷ []) ≡ cond (x.id == id) x.seqnum (number_in id xs)
number-last id xs x = ap (λ (l : List Submitted). option_map_or (λ y. y.seqnum) (find (λ (y : Submitted). y.id == id) l) 0) (reverse-append xs (x ∷ [])) ∙ go (x.id == id)
  where
    go : (b : Bool) → option_map_or (λ y. y.seqnum) (cond b (Some x) (find (λ (y : Submitted). y.id == id) (reverse xs))) 0 ≡ cond b x.seqnum (number_in id xs)
    go true = refl
    go false = refl

-- what agrees with the debts agrees with one more, of another id
agree-more : {X : Type 0} (id_of : X → ℕ) (load_of : X → Load) (ds : List Debt) (d : Debt) (xs : List X) → Each (λ (x : X). Each (λ (y : Debt). Agrees y (id_of x) (load_of x)) ds) xs → Each (λ (x : X). (d.id == id_of x) ≡ false) xs → Each (λ (x : X). Each (λ (y : Debt). Agrees y (id_of x) (load_of x)) (ds ++ d ∷ [])) xs
agree-more id_of load_of ds d [] h k = tt
agree-more id_of load_of ds d (x ∷ xs) h k = (Each-append (λ (y : Debt). Agrees y (id_of x) (load_of x)) ds (d ∷ []) h.0 ((λ z. absurd (false-true (sym k.0 ∙ z))), tt), agree-more id_of load_of ds d xs h.1 k.1)

one-more : {X : Type 0} (p : X → Bool) (xs : List X) (x : X) → count_by p xs ≤ 1 → (p x ≡ true → count_by p xs ≡ 0) → count_by p (xs ++ x ∷ []) ≤ 1
one-more p xs x h k = go (p x) refl
  where
    go : (b : Bool) → p x ≡ b → count_by p (xs ++ x ∷ []) ≤ 1
    go true i = let z = k i in let w = ap weight i in omega (arith, z, w, count-append p xs (x ∷ []))
    go false i = let w = ap weight i in omega (arith, h, w, count-append p xs (x ∷ []))

pub ids-submit : (ds : List Debt) (names : List Submitted) (es : List Entry) (ran : List Coming) (id : ℕ) (l : Load) (asked : Bool) → Ids ds names es ran → IsNew id ds → IsNewNumber (number l) ds →
    Ids (ds ++ record { id = id; load = l } ∷ []) (names ++ record { seqnum = number l; id = id } ∷ []) (es ++ record { id = id; load = l; asked = asked } ∷ []) ran
ids-submit ds names es ran id l asked ids new new_number = record {
  balance = λ test. omega (arith, ids.balance test, count-append (λ (x : Entry). test x.id (number x.load)) es (e ∷ []), count-append (λ (x : Debt). test x.id (number x.load)) ds (d ∷ []));
  one_id = λ i. one-more (λ (x : Debt). x.id == i) ds d (ids.one_id i) (λ h. let same : id ≡ i = grind (arith, h) in count-zero (λ (x : Debt). x.id == i) ds (subst (λ (n : ℕ). IsNew n ds) same new));
  one_number = λ n. one-more (λ (x : Debt). number x.load == n) ds d (ids.one_number n) (λ h. let same : number l ≡ n = grind (arith, h) in count-zero (λ (x : Debt). number x.load == n) ds (subst (λ (k : ℕ). IsNewNumber k ds) same new_number));
  named = Each-append Named es (e ∷ []) (olds es ids.named old-entries) (number-last id names _ ∙ ap (λ (b : Bool). cond b (number l) (number_in id names)) (itself id), tt);
  entries_agree = Each-append (λ (x : Entry). Each (λ (y : Debt). Agrees y x.id x.load) (ds ++ d ∷ [])) es (e ∷ []) (agree-more (λ (x : Entry). x.id) (λ (x : Entry). x.load) ds d es ids.entries_agree old-entries)
      (Each-append (λ (y : Debt). Agrees y id l) ds (d ∷ []) (Each-weaker (λ (y : Debt). (y.id == id) ≡ false) (λ (y : Debt). Agrees y id l) (λ y h k. absurd (false-true (sym h ∙ k))) ds new) ((λ k. refl), tt), tt);
  ran_agrees = agree-more (λ (x : Coming). x.id) (λ (x : Coming). x.load) ds d ran ids.ran_agrees (ran-old ds names es ran ids id new);
}
  where
    d : Debt
    d = record { id = id; load = l }

    e : Entry
    e = record { id = id; load = l; asked = asked }

    old-entries : Each (λ (x : Entry). (id == x.id) ≡ false) es
    old-entries = entries-old ds names es ran ids id new

    Named : Entry → Type 0
    Named x = number_in x.id (names ++ record { seqnum = number l; id = id } ∷ []) ≡ number x.load

    olds : (xs : List Entry) → Each (λ (x : Entry). number_in x.id names ≡ number x.load) xs → Each (λ (x : Entry). (id == x.id) ≡ false) xs → Each Named xs
    olds [] h k = tt
    olds (x ∷ xs) h k = (number-last x.id names _ ∙ ap (λ (b : Bool). cond b (number l) (number_in x.id names)) k.0 ∙ h.0, olds xs h.1 k.1)

-- ---- a perform: an entry leaves, and its answer is under way

pub each-parts : {X : Type 0} (P : X → Type 0) (xs : List X) (x : X) (ys : List X) → Each P (xs ++ x ∷ ys) → P x × Each P (xs ++ ys)
each-parts P [] x ys h = (h.0, h.1)
each-parts P (z ∷ xs) x ys h = let r = each-parts P xs x ys h.1 in (r.0, (h.0, r.1))

pub count-middle : {X : Type 0} (p : X → Bool) (xs : List X) (x : X) (ys : List X) → count_by p (xs ++ x ∷ ys) ≡ cond (p x) 1 0 + count_by p (xs ++ ys)
count-middle p xs x ys = omega (arith, count-append p xs (x ∷ ys), count-append p xs ys, count-cons p x ys)

pub ids-perform : (ds : List Debt) (names : List Submitted) (front back : List Entry) (e : Entry) (ran : List Coming) (configuration : ℕ) (o : Outcome) → Ids ds names (front ++ e ∷ back) ran →
    Ids ds names (front ++ back) (ran ++ record { id = e.id; load = e.load; configuration = configuration; outcome = o } ∷ [])
ids-perform ds names front back e ran configuration o ids = record {
  balance = λ test. omega (arith, ids.balance test, count-middle (λ (x : Entry). test x.id (number x.load)) front e back, count-append (λ (x : Coming). test x.id (number x.load)) ran (c ∷ []));
  one_id = ids.one_id;
  one_number = ids.one_number;
  named = (each-parts (λ (x : Entry). number_in x.id names ≡ number x.load) front e back ids.named).1;
  entries_agree = (each-parts (λ (x : Entry). Each (λ (d : Debt). Agrees d x.id x.load) ds) front e back ids.entries_agree).1;
  ran_agrees = Each-append (λ (x : Coming). Each (λ (d : Debt). Agrees d x.id x.load) ds) ran (c ∷ []) ids.ran_agrees ((each-parts (λ (x : Entry). Each (λ (d : Debt). Agrees d x.id x.load) ds) front e back ids.entries_agree).0, tt);
}
  where
    c : Coming
    c = record { id = e.id; load = e.load; configuration = configuration; outcome = o }

-- ---- an answer: it leaves, and so does its debt

-- the debt of an answer that is under way
pub record IsOwed (ds : List Debt) (c : Coming) : Type 0 where
  pub debt : Debt
  pub only : filter (λ (d : Debt). d.id == c.id) ds ≡ debt ∷ []
  pub same_id : debt.id ≡ c.id
  pub same_load : debt.load ≡ c.load

each-one : {X : Type 0} (P : X → Type 0) (p : X → Bool) (xs : List X) (x : X) → Each P xs → filter p xs ≡ x ∷ [] → P x
each-one P p xs x h e = (subst (Each P) e (Each-filter P p xs h)).0

pub owed-some : (ds : List Debt) (names : List Submitted) (es : List Entry) (ran : List Coming) (c : Coming) → Ids ds names es (c ∷ ran) → 1 ≤ count_by (λ (d : Debt). both (d.id == c.id) (number d.load == number c.load)) ds
owed-some ds names es ran c ids = let w = ap weight (pair-itself c.id (number c.load)) in omega (arith, w, ids.balance (pair c.id (number c.load)), count-cons (λ (x : Coming). pair c.id (number c.load) x.id (number x.load)) c ran)

pub owed : (ds : List Debt) (names : List Submitted) (es : List Entry) (ran : List Coming) (c : Coming) → Ids ds names es (c ∷ ran) → IsOwed ds c
owed ds names es ran c ids =
    let some = owed-some ds names es ran c ids in
    let one = single (λ (d : Debt). d.id == c.id) (λ (d : Debt). number d.load == number c.load) ds (ids.one_id c.id) some in
    record {
      debt = one.0;
      only = one.1;
      same_id = grind (arith, one.2);
      same_load = each-one (λ (d : Debt). Agrees d c.id c.load) (λ (d : Debt). d.id == c.id) ds one.0 ids.ran_agrees.0 one.1 one.2;
    }

pub ids-answer : (ds : List Debt) (names : List Submitted) (es : List Entry) (ran : List Coming) (c : Coming) → Ids ds names es (c ∷ ran) → Ids (filter (λ (d : Debt). not (d.id == c.id)) ds) names es ran
ids-answer ds names es ran c ids = record {
  balance = λ test. (
      let p : Debt → Bool = λ d. test d.id (number d.load) in
      let gone = ap (count_by p) o.only in
      let same : weight (test o.debt.id (number o.debt.load)) ≡ weight (test c.id (number c.load)) = (λ i. weight (test (o.same_id i) (number (o.same_load i)))) in
      omega (arith, ids.balance test, count-cons (λ (x : Coming). test x.id (number x.load)) c ran, count-parts p (λ (d : Debt). d.id == c.id) ds, gone, same));
  one_id = λ i. (let a = count-parts (λ (d : Debt). d.id == i) (λ (d : Debt). d.id == c.id) ds in let b = ids.one_id i in omega (arith, a, b));
  one_number = λ n. (let a = count-parts (λ (d : Debt). number d.load == n) (λ (d : Debt). d.id == c.id) ds in let b = ids.one_number n in omega (arith, a, b));
  named = ids.named;
  entries_agree = Each-weaker (λ (x : Entry). Each (λ (d : Debt). Agrees d x.id x.load) ds) (λ (x : Entry). Each (λ (d : Debt). Agrees d x.id x.load) (filter (λ (d : Debt). not (d.id == c.id)) ds)) (λ x h. Each-filter (λ (d : Debt). Agrees d x.id x.load) (λ (d : Debt). not (d.id == c.id)) ds h) es ids.entries_agree;
  ran_agrees = Each-weaker (λ (x : Coming). Each (λ (d : Debt). Agrees d x.id x.load) ds) (λ (x : Coming). Each (λ (d : Debt). Agrees d x.id x.load) (filter (λ (d : Debt). not (d.id == c.id)) ds)) (λ x h. Each-filter (λ (d : Debt). Agrees d x.id x.load) (λ (d : Debt). not (d.id == c.id)) ds h) ran ids.ran_agrees.1;
}
  where
    o : IsOwed ds c
    o = owed ds names es ran c ids
