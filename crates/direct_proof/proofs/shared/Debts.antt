-- What the host owes, and which of the gateway's submits an answer is for.
use Rattle.std.proofs.Common.{◌≡◌, ℕ, suc, ◌+◌, ◌≤◌, ◌==◌, ◌&&◌, not, Bool, true, false, cond, List, [], ◌∷◌, ◌++◌, map, filter, length, Some, refl, sym, ap, ◌∙◌, arith}
use Rattle.std.specs.List.{find, count_by}
use Rattle.std.proofs.lemmas.List.{map-append}
use Rattle.std.proofs.lemmas.List.Sums.{length-filter}
use Rattle.usb_base.specs.declared.transfer.Transfer.{Transfer}
use Rattle.gate_history.specs.declared.verdict.Verdict.{Verdict}
use Rattle.gate_history.specs.declared.verdict.Verdict.TheVariants.{Wire, Routed}
use Rattle.gate_history.specs.client.Verdict.{goes_by_id}
use Rattle.gate_history.specs.step.Marks.{Submission}
use Rattle.gate_history.specs.client.Submits.{Pending}
use Rattle.gate_history.specs.client.Ends.{has_id, is_waiting}
use Rattle.gate_history.specs.state.State.{State, submits, is_number as is_numbered}
use Rattle.gate_history.specs.state.Sound.{IsSound}
use Rattle.gate_history.proofs.lemmas.Lists.{every, both, filter-same, filter-twice, filter-map}
use Rattle.direct_run.specs.declared.submitted.Submitted.{Submitted}
use Rattle.direct_device.specs.Direct.{Load, number, is_number}
use Rattle.direct_proof.specs.Requests.{Entry, Coming, Debt, debts_of, load_of}
use Rattle.direct_proof.specs.Ids.{Ids}
use Rattle.direct_proof.specs.Loads.{FitsVerdict}
use Rattle.direct_proof.proofs.lists.Counts.{same_test, itself}
use Rattle.direct_proof.proofs.shared.Owed.{IsOwed, owed}
use Rattle.direct_proof.proofs.answers.Answering.{one, pending_has, AreOne}
use Rattle.direct_proof.proofs.shared.Found.{one-mapped, find-only}
use Rattle.direct_proof.proofs.shared.Asked.{debt_from}

-- ---- what is known of one that goes by an id

pub load-waits : (v : Verdict) (t : Transfer) → FitsVerdict v t → (is_waiting v ≡ false) × (goes_by_id v ≡ true)
load-waits (Wire pipe) t f = (refl, refl)
load-waits (Routed x) t f = (refl, refl)
load-waits _ t f = absurd f

-- ---- lists of debts

pub filter-append : {X : Type 0} (p : X → Bool) (xs ys : List X) → filter p (xs ++ ys) ≡ filter p xs ++ filter p ys
filter-append p [] ys = refl
filter-append p (x ∷ xs) ys =
    let rest = filter-append p xs ys in
    elim (p x) as (λ b. cond b (x ∷ filter p (xs ++ ys)) (filter p (xs ++ ys)) ≡ cond b (x ∷ filter p xs) (filter p xs) ++ filter p ys)
    [ true ↦ ap (λ l. x ∷ l) rest | false ↦ rest ]

pub debts-append : (xs ys : List Submission) → debts_of (xs ++ ys) ≡ debts_of xs ++ debts_of ys
debts-append xs ys = ap (map debt_from) (filter-append (λ (s : Submission). goes_by_id s.verdict) xs ys) ∙ map-append debt_from (filter (λ (s : Submission). goes_by_id s.verdict) xs) (filter (λ (s : Submission). goes_by_id s.verdict) ys)

-- those with an id
pub debts-found : (id : ℕ) (ss : List Submission) → filter (λ (d : Debt). d.id == id) (debts_of ss) ≡ map debt_from (filter (has_id id) ss)
debts-found id ss = filter-map (λ (d : Debt). d.id == id) debt_from (filter (λ (s : Submission). goes_by_id s.verdict) ss)
    ∙ ap (map debt_from) (filter-twice (λ (s : Submission). s.id == id) (λ (s : Submission). goes_by_id s.verdict) ss
    ∙ filter-same (λ (s : Submission). both (goes_by_id s.verdict) (s.id == id)) (has_id id) ss (every (λ (s : Submission). both (goes_by_id s.verdict) (s.id == id) ≡ has_id id s) (λ s. as-and (goes_by_id s.verdict) (s.id == id)) ss))
  where
    as-and : (a b : Bool) → both a b ≡ (a && b)
    as-and true b = refl
    as-and false b = refl

-- and those without
pub debts-left : (id : ℕ) (ss : List Submission) → debts_of (filter (λ s. not (has_id id s)) ss) ≡ filter (λ (d : Debt). not (d.id == id)) (debts_of ss)
debts-left id [] = refl
debts-left id (s ∷ ss) = on (goes_by_id s.verdict) refl (s.id == id) refl (debts-left id ss)
  where
    left : List Submission
    left = filter (λ x. not (has_id id x)) ss

    by : Submission → Bool
    by x = goes_by_id x.verdict

    kept : (g : Bool) → goes_by_id s.verdict ≡ g → debts_of (s ∷ left) ≡ map debt_from (cond g (s ∷ filter by left) (filter by left))
    kept g e = ap (λ (x : Bool). map debt_from (cond x (s ∷ filter by left) (filter by left))) e

    on : (g : Bool) → goes_by_id s.verdict ≡ g → (b : Bool) → (s.id == id) ≡ b → debts_of left ≡ filter (λ (d : Debt). not (d.id == id)) (debts_of ss) →
        debts_of (cond (not (g && b)) (s ∷ left) left) ≡ filter (λ (d : Debt). not (d.id == id)) (map debt_from (cond g (s ∷ filter by ss) (filter by ss)))
    on true e true z k = k ∙ ap (λ (x : Bool). cond (not x) (debt_from s ∷ filter (λ (d : Debt). not (d.id == id)) (debts_of ss)) (filter (λ (d : Debt). not (d.id == id)) (debts_of ss))) (sym z)
    on true e false z k = kept true e ∙ ap (λ (l : List Debt). debt_from s ∷ l) k ∙ ap (λ (x : Bool). cond (not x) (debt_from s ∷ filter (λ (d : Debt). not (d.id == id)) (debts_of ss)) (filter (λ (d : Debt). not (d.id == id)) (debts_of ss))) (sym z)
    on false e b z k = kept false e ∙ k

-- ---- the submit that an answer is for

pub record IsFor (st : State) (c : Coming) : Type 0 where
  pub place : ℕ
  pub found : find (has_id c.id) (submits st ++ st.abandoned) ≡ Some (one place c.load.request c.load.verdict c.id)

pub is-for : (st : State) (debts : List Debt) (names : List Submitted) (es : List Entry) (c : Coming) (ran : List Coming) → Ids debts names es (c ∷ ran) → debts_of (submits st) ++ debts_of st.abandoned ≡ debts → IsFor st c
is-for st debts names es c ran ids same = record {
  place = s.0.place;
  found = find-only (has_id c.id) (submits st ++ st.abandoned) s.0 s.1
      ∙ (λ i. Some (one s.0.place ((ap (λ (d : Debt). d.load) s.2 ∙ o.same_load) i).request ((ap (λ (d : Debt). d.load) s.2 ∙ o.same_load) i).verdict ((ap (λ (d : Debt). d.id) s.2 ∙ o.same_id) i)));
}
  where
    o : IsOwed debts c
    o = owed debts names es ran c ids

    s : (x : Submission) × (filter (has_id c.id) (submits st ++ st.abandoned) ≡ x ∷ []) × (debt_from x ≡ o.debt)
    s = one-mapped debt_from (filter (has_id c.id) (submits st ++ st.abandoned)) o.debt
        (sym (debts-found c.id (submits st ++ st.abandoned)) ∙ ap (filter (λ (d : Debt). d.id == c.id)) (debts-append (submits st) st.abandoned ∙ same) ∙ o.only)

-- where the client is there, it is live, and the only one with its number
pub record IsLiveFor (st : State) (c : Coming) : Type 0 where
  pub pending : Pending
  pub only : filter (pending_has c.id) st.live ≡ pending ∷ []
  pub load-is : load_of pending.submit ≡ c.load
  pub one-is : AreOne c.id (number c.load) st.live

pub is-live-for : (st : State) (debts : List Debt) (names : List Submitted) (es : List Entry) (c : Coming) (ran : List Coming) → IsSound st → Ids debts names es (c ∷ ran) → debts_of (submits st) ≡ debts → IsLiveFor st c
is-live-for st debts names es c ran sound ids same = record { pending = p; only = s.1; load-is = load-is; one-is = same_test has named st.live few_has few_named some }
  where
    o : IsOwed debts c
    o = owed debts names es ran c ids

    has : Pending → Bool
    has = pending_has c.id

    named : Pending → Bool
    named x = is_number (number c.load) (load_of x.submit)

    s : (x : Pending) × (filter (pending_has c.id) st.live ≡ x ∷ []) × (debt_from x.submit ≡ o.debt)
    s = one-mapped (λ (x : Pending). debt_from x.submit) (filter (pending_has c.id) st.live) o.debt
        (sym (map-both (filter (pending_has c.id) st.live)) ∙ ap (map debt_from) (sym (filter-map (has_id c.id) (λ (x : Pending). x.submit) st.live)) ∙ sym (debts-found c.id (submits st)) ∙ ap (filter (λ (d : Debt). d.id == c.id)) same ∙ o.only)
      where
        map-both : (xs : List Pending) → map debt_from (map (λ (x : Pending). x.submit) xs) ≡ map (λ (x : Pending). debt_from x.submit) xs
        map-both [] = refl
        map-both (x ∷ xs) = ap (λ l. debt_from x.submit ∷ l) (map-both xs)

    p : Pending
    p = s.0

    load-is : load_of p.submit ≡ c.load
    load-is = ap (λ (d : Debt). d.load) s.2 ∙ o.same_load

    few_has : count_by has st.live ≤ 1
    few_has = let a = length-filter has st.live in let b = ap length s.1 in omega (arith, a, b)

    few_named : count_by named st.live ≤ 1
    few_named =
        let a = length-filter named st.live in
        let b = ap length (filter-map (is_numbered (number c.load)) (λ (x : Pending). x.submit) st.live) in
        omega (arith, a, b, sound.numbers (number c.load), length-map (filter named st.live))
      where
        length-map : (xs : List Pending) → length (map (λ (x : Pending). x.submit) xs) ≡ length xs
        length-map [] = refl
        length-map (x ∷ xs) = ap suc (length-map xs)

    some : 1 ≤ count_by (λ x. both (has x) (named x)) st.live
    some =
        let a = length-filter (λ x. both (has x) (named x)) st.live in
        let b = ap length (sym (filter-twice named has st.live) ∙ ap (filter named) s.1 ∙ ap (λ (t : Bool). cond t (p ∷ []) []) (ap (λ (l : Load). is_number (number c.load) l) load-is ∙ itself (number c.load))) in
        omega (arith, a, b)
