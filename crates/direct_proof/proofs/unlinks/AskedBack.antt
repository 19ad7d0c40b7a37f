-- The cancels of an unlink name what was asked back.
use Rattle.std.proofs.Common.{◌≡◌, ℕ, ◌==◌, ◌||◌, ◌&&◌, Bool, true, false, cond, List, [], ◌∷◌, map, filter, is_none, refl, sym, ap, ◌∙◌, arith}
use Rattle.std.specs.List.{AllByRecursion as Each}
use Rattle.std.proofs.lemmas.Bool.{and_parts}
use Rattle.gate_history.specs.client.Verdict.{goes_by_id, is_wire}
use Rattle.gate_history.specs.step.Marks.{Submission, Effect, Unlinks}
use Rattle.gate_history.specs.client.Submits.{Pending}
use Rattle.gate_history.specs.write.Output.{cancels, is_target as gate_target}
use Rattle.direct_device.specs.Direct.{number, is_number}
use Rattle.direct_proof.specs.Requests.{Entry}
use Rattle.direct_proof.specs.Cancels.{IsAsked}
use Rattle.direct_proof.specs.Ids.{Agrees}
use Rattle.direct_proof.proofs.lists.Counts.{itself}
use Rattle.direct_proof.proofs.shared.Asked.{ask_entry, debt_from}

abbrev pub what : ℕ → ℕ → Effect
what by target = Unlinks by target

-- ---- the cancels name what was asked back

pub still-asked : (target id : ℕ) (e : Entry) → IsAsked id e → IsAsked id (ask_entry target e)
still-asked target id e h k = elim (is_number target e.load) as (λ b. (b || e.asked) ≡ true) [ true ↦ refl | false ↦ h k ]

-- one that is cancelled goes by an id, and has the number
cancelled-is : (by target : ℕ) (p : Pending) → cancels (what by target) p ≡ true → (goes_by_id p.submit.verdict ≡ true) × ((p.submit.request.seqnum == target) ≡ true)
cancelled-is by target p h =
    let a = and_parts (is_wire p.submit.verdict) (gate_target target p) h in
    let b = and_parts (goes_by_id p.submit.verdict && (p.submit.request.seqnum == target)) (is_none p.unlinker) a.1 in
    and_parts (goes_by_id p.submit.verdict) (p.submit.request.seqnum == target) b.0

equal : (a b : ℕ) → (a == b) ≡ true → a ≡ b
equal a b h = grind (arith, h)

pub asked-of : (by target : ℕ) (es : List Entry) (ps : List Pending) → Each (λ (s : Submission). goes_by_id s.verdict ≡ true → Each (λ (e : Entry). Agrees (debt_from s) e.id e.load) es) (map (λ (p : Pending). p.submit) ps) →
    Each (λ (p : Pending). Each (IsAsked p.submit.id) (map (ask_entry target) es)) (filter (cancels (what by target)) ps)
asked-of by target es [] h = tt
asked-of by target es (p ∷ ps) h = go (cancels (what by target) p) refl (asked-of by target es ps h.1)
  where
    one : (p.submit.request.seqnum == target) ≡ true → (xs : List Entry) → Each (λ (e : Entry). Agrees (debt_from p.submit) e.id e.load) xs → Each (IsAsked p.submit.id) (map (ask_entry target) xs)
    one is [] k = tt
    one is (x ∷ xs) k = (
      (λ z. (
          let same : x.id ≡ p.submit.id = equal x.id p.submit.id z in
          let back : (p.submit.id == x.id) ≡ true = ap (λ (n : ℕ). p.submit.id == n) same ∙ itself p.submit.id in
          ap (λ (b : Bool). b || x.asked) (ap (λ l. number l == target) (sym (k.0 back)) ∙ is))),
      one is xs k.1,
    )

    go : (b : Bool) → cancels (what by target) p ≡ b → Each (λ (x : Pending). Each (IsAsked x.submit.id) (map (ask_entry target) es)) (filter (cancels (what by target)) ps) →
        Each (λ (x : Pending). Each (IsAsked x.submit.id) (map (ask_entry target) es)) (cond b (p ∷ filter (cancels (what by target)) ps) (filter (cancels (what by target)) ps))
    go true i rest = let c = cancelled-is by target p i in (one c.1 es (h.0 c.0), rest)
    go false i rest = rest
