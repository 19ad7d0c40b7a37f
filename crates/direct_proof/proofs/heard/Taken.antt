-- The request that a cancel takes off the queue, at the host and at the device attached directly.
use Rattle.std.proofs.Common.{◌≡◌, ℕ, ◌==◌, ◌&&◌, not, Bool, true, false, cond, List, [], ◌∷◌, ◌++◌, map, Some, None, refl, sym, ap, ◌∙◌, arith, inl, inr, ◌⊎◌, true≢false}
use Rattle.std.specs.List.{find, list_any, count_by, AllByRecursion as Each}
use Rattle.std.proofs.lemmas.Bool.{and_parts}
use Rattle.usb_base.specs.declared.transfer.Outcome.{Outcome}
use Rattle.control_route.specs.declared.route.Route.TheVariants as route
use Rattle.model_device.specs.Meaning.{Meaning}
use Rattle.redir_host.specs.declared.state.request.Request.{Request as HostRequest}
use Rattle.redir_host.specs.state.Queues.{is_data, is_cancelled_by as is_taken_by, after_cancel, leaves_mark, with_first_marked, is_first_queue}
use Rattle.gate_history.specs.declared.request.Request.{Request}
use Rattle.gate_history.specs.declared.verdict.Pipe.TheVariants.{Control, Bulk, InterruptOut}
use Rattle.gate_history.specs.declared.verdict.Verdict.{Verdict}
use Rattle.gate_history.specs.declared.verdict.Verdict.TheVariants.{Now, Wire, Routed, IsoOut, Stream}
use Rattle.gate_history.specs.client.Verdict.{is_wire, changes}
use Rattle.direct_run.specs.Moves.{World}
use Rattle.direct_device.specs.Direct.{number, seen_by, without_first}
use Rattle.direct_proof.specs.Requests.{Entry, at_queue, form_of, form_by, resets}
use Rattle.direct_proof.specs.Shared.{Shared}
use Rattle.direct_proof.specs.Related.{Related}
use Rattle.direct_proof.specs.Loads.{IsLoad, FitsVerdict}
use Rattle.direct_proof.proofs.lists.Counts.{zero-count, itself}
use Rattle.direct_proof.proofs.shared.Owed.{count-middle}
use Rattle.direct_proof.proofs.shared.Ran.{Held}

data-wire : (r : Request) (v : Verdict) → FitsVerdict v r.transfer → is_data (form_by r v) ≡ is_wire v
data-wire r (Wire Control) f = refl
data-wire r (Wire Bulk) f = refl
data-wire r (Wire InterruptOut) f = refl
data-wire r (Routed (route.SetConfig c)) f = refl
data-wire r (Routed _) f = refl
data-wire r (Now status) f = absurd f
data-wire r (IsoOut row) f = absurd f
data-wire r (Stream row) f = absurd f

pub wire-resets : (v : Verdict) → is_wire v ≡ true → (resets v ≡ false) × (changes v ≡ false)
wire-resets (Routed x) h = absurd (true≢false (sym h))
wire-resets _ h = (refl, refl)

pub wire-seen : (r : Request) (v : Verdict) (k : ℕ) (o : Outcome) → is_wire v ≡ true → seen_by r v k o ≡ o
wire-seen r (Routed x) k o h = absurd (true≢false (sym h))
wire-seen r _ k o h = refl

-- the entry that a cancel takes
pub record Taken (id : ℕ) (es : List Entry) : Type 0 where
  pub front : List Entry
  pub entry : Entry
  pub back : List Entry
  pub is : es ≡ front ++ entry ∷ back
  pub found : find (is_taken_by id) (map at_queue es) ≡ Some (at_queue entry)
  pub rest : after_cancel id (map at_queue es) ≡ map at_queue (front ++ back)
  pub mark : leaves_mark id (map at_queue es) ≡ false
  pub wire : is_wire entry.load.verdict ≡ true
  pub same_id : (entry.id == id) ≡ true

pub taken : (id : ℕ) (es : List Entry) → Each (λ (e : Entry). IsLoad e.load) es → (find (is_taken_by id) (map at_queue es) ≡ None) ⊎ Taken id es
taken id [] h = inl refl
taken id (e ∷ es) h = go (is_taken_by id (at_queue e)) refl (taken id es h.1)
  where
    qs : List HostRequest
    qs = map at_queue es

    go : (b : Bool) → is_taken_by id (at_queue e) ≡ b → (find (is_taken_by id) qs ≡ None) ⊎ Taken id es → (find (is_taken_by id) (at_queue e ∷ qs) ≡ None) ⊎ Taken id (e ∷ es)
    go true i rest =
        let parts = and_parts (is_data (form_of e.load)) (e.id == id) i in
        let wire : is_wire e.load.verdict ≡ true = sym (data-wire e.load.request e.load.verdict h.0.verdict) ∙ parts.0 in
        let reset = (wire-resets e.load.verdict wire).0 in
        inr (record {
          front = [];
          entry = e;
          back = es;
          is = refl;
          found = ap (λ (b : Bool). cond b (Some (at_queue e)) (find (is_taken_by id) qs)) i;
          rest = (λ k. cond (i k) (cond (reset k) (with_first_marked qs) qs) (at_queue e ∷ after_cancel id qs));
          mark = (λ k. cond (i k) (reset k && not (list_any is_first_queue qs)) (leaves_mark id qs));
          wire = wire;
          same_id = parts.1;
        })
    go false i (inl none) = inl (ap (λ (b : Bool). cond b (Some (at_queue e)) (find (is_taken_by id) qs)) i ∙ none)
    go false i (inr t) = inr (record {
      front = e ∷ t.front;
      entry = t.entry;
      back = t.back;
      is = ap (λ (l : List Entry). e ∷ l) t.is;
      found = ap (λ (b : Bool). cond b (Some (at_queue e)) (find (is_taken_by id) qs)) i ∙ t.found;
      rest = ap (λ (b : Bool). cond b (cond (resets e.load.verdict) (with_first_marked qs) qs) (at_queue e ∷ after_cancel id qs)) i ∙ ap (λ (l : List HostRequest). at_queue e ∷ l) t.rest;
      mark = ap (λ (b : Bool). cond b (resets e.load.verdict && not (list_any is_first_queue qs)) (leaves_mark id qs)) i ∙ t.mark;
      wire = t.wire;
      same_id = t.same_id;
    })

-- the first that passes, where none before it does
pub find-mapped : {X Y : Type 0} (f : X → Y) (p : Y → Bool) (front : List X) (e : X) (back : List X) → Each (λ (x : X). p (f x) ≡ false) front → p (f e) ≡ true →
    (find p (map f (front ++ e ∷ back)) ≡ Some (f e)) × (without_first p (map f (front ++ e ∷ back)) ≡ map f (front ++ back))
find-mapped f p [] e back h k = (ap (λ (b : Bool). cond b (Some (f e)) (find p (map f back))) k, ap (λ (b : Bool). cond b (map f back) (f e ∷ without_first p (map f back))) k)
find-mapped {Y = Y} f p (x ∷ front) e back h k =
    let r = find-mapped f p front e back h.1 k in (
      ap (λ (b : Bool). cond b (Some (f x)) (find p (map f (front ++ e ∷ back)))) h.0 ∙ r.0,
      ap (λ (b : Bool). cond b (map f (front ++ e ∷ back)) (f x ∷ without_first p (map f (front ++ e ∷ back)))) h.0 ∙ ap (λ (l : List Y). f x ∷ l) r.1,
    )

abbrev weight : Bool → ℕ
weight b = cond b 1 0

-- no other request has its number
pub alone-numbered : {S : Type 0} (m : Meaning S) (w : World S) (j : Shared) (front : List Entry) (e : Entry) (back : List Entry) → Related m w j → Held j front e back → Each (λ (x : Entry). (number x.load == number e.load) ≡ false) (front ++ (back ++ j.coming))
alone-numbered m w j front e back rel held = zero-count test (front ++ (back ++ j.coming))
    (let n = number e.load in
    let sum = rel.ids.balance (λ i k. k == n) in
    let one = rel.ids.one_number n in
    let parts = ap (count_by test) held.inside ∙ count-middle test front e (back ++ j.coming) in
    let self : weight (n == n) ≡ 1 = ap weight (itself n) in
    omega (arith, sum, one, parts, self))
  where
    test : Entry → Bool
    test x = number x.load == number e.load
