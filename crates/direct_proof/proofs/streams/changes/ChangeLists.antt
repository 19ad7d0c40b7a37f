-- A change's verdict, its debt, and its place behind the others.
use Rattle.std.proofs.Common.{◌≡◌, ℕ, ◌<◌, ◌==◌, not, nat_le, Bool, true, false, cond, List, [], ◌∷◌, ◌++◌, map, filter, Option, Some, refl, sym, ap, ◌∙◌, arith, true≢false}
use Rattle.std.specs.Prelude.{ℤ}
use Rattle.std.specs.List.{list_any, AllByRecursion as Each}
use Rattle.std.proofs.lemmas.Bool.{or_left, or_parts}
use Rattle.std.proofs.lemmas.List.Folds.{list_any-append}
use Rattle.usbip_urb.specs.declared.code.TheConstants.{MAX_LIVE}
use Rattle.usb_base.specs.Endpoint.{is_control}
use Rattle.usb_base.specs.declared.setup.Setup.{Setup}
use Rattle.control_route.specs.declared.route.Route.{Route}
use Rattle.control_route.specs.declared.route.Route.TheVariants as route
use Rattle.control_route.specs.Changes.{is_change}
use Rattle.usb_base.specs.declared.endpoint.EpRow.{EpRow}
use Rattle.gate_history.specs.declared.verdict.Situation.{Situation}
use Rattle.gate_history.proofs.lemmas.Lists.{Each-append}
use Rattle.gate_history.specs.declared.request.Request.{Request}
use Rattle.gate_history.specs.declared.verdict.Verdict.{Verdict}
use Rattle.gate_history.specs.declared.verdict.Verdict.TheVariants.{Now, Wire, Routed}
use Rattle.gate_history.specs.client.Verdict.{verdict, by_transfer, goes_by_id}
use Rattle.usb_base.specs.declared.errno.TheConstants.{EBUSY, ESHUTDOWN}
use Rattle.gate_history.specs.state.Ids.{holds}
use Rattle.gate_history.specs.step.Marks.{Submission}
use Rattle.gate_history.specs.client.Submits.{Pending}
use Rattle.gate_history.specs.client.Ends.{is_touched}
use Rattle.gate_history.specs.write.Output.{fresh}
use Rattle.gate_history.specs.state.State.{State, is_number as has_seq}
use Rattle.direct_device.specs.Direct.{number, normal_of, normal_by}
use Rattle.direct_proof.proofs.shared.New.{IsNew}
use Rattle.direct_proof.specs.Requests.{Entry, Debt, load_of, debts_of}
use Rattle.direct_proof.specs.Tagged.{Tagged}
use Rattle.direct_proof.specs.Cancels.{Behind}
use Rattle.direct_proof.specs.Stale.{Clean}
use Rattle.direct_proof.proofs.shared.Owed.{IsNewNumber}
use Rattle.direct_proof.proofs.submits.Submitting.{AreBefore}
use Rattle.direct_proof.proofs.streams.changes.Changing.{changer, touched, staying}

-- ---- the verdict

pub past : (b : Bool) (status : ℤ) (v : Verdict) (x : Route) → cond b (Now status) v ≡ Routed x → (b ≡ false) × (v ≡ Routed x)
past true status v x h = absurd (cc)
past false status v x h = (refl, h)

-- of a control transfer no row is read
pub setup-alone : (here : Situation) (row : EpRow) (r : Request) (s : Setup) → r.transfer.setup ≡ Some s → verdict (record here { row = row }) r ≡ verdict here r
setup-alone here row r s h =
    (λ i. cond here.lost (Now ESHUTDOWN) (cond (nat_le MAX_LIVE here.live) (Now EBUSY) (by_transfer (record here { row = row }) r (h i))))
    ∙ (λ i. cond here.lost (Now ESHUTDOWN) (cond (nat_le MAX_LIVE here.live) (Now EBUSY) (by_transfer here r (sym h i))))

-- ---- debts

abbrev pub debt_in : Submission → Debt
debt_in s = record { id = s.id; load = load_of s }

abbrev pub by_id : Submission → Bool
by_id s = goes_by_id s.verdict

touched-waits : (x : Route) (v : Verdict) → is_touched (Routed x) v ≡ true → goes_by_id v ≡ false
touched-waits x (Wire pipe) h = absurd (true≢false (sym h))
touched-waits x (Routed y) h = absurd (true≢false (sym h))
touched-waits x _ h = refl

pub debts-changer : (st : State) (r : Request) (x : Route) (ps : List Pending) → debts_of (map (λ (p : Pending). p.submit) (staying x ps ++ fresh (changer st r x) ∷ [])) ≡ debts_of (map (λ (p : Pending). p.submit) ps) ++ debt_in (changer st r x) ∷ []
debts-changer st r x [] = refl
debts-changer st r x (p ∷ ps) = go (touched x p) refl (debts-changer st r x ps)
  where
    go : (b : Bool) → touched x p ≡ b → debts_of (map (λ (q : Pending). q.submit) (staying x ps ++ fresh (changer st r x) ∷ [])) ≡ debts_of (map (λ (q : Pending). q.submit) ps) ++ debt_in (changer st r x) ∷ [] →
        debts_of (map (λ (q : Pending). q.submit) (cond (not b) (p ∷ staying x ps) (staying x ps) ++ fresh (changer st r x) ∷ [])) ≡ debts_of (p.submit ∷ map (λ (q : Pending). q.submit) ps) ++ debt_in (changer st r x) ∷ []
    go true e ih = ih ∙ ap (λ (c : Bool). map debt_in (cond c (p.submit ∷ filter by_id (map (λ (q : Pending). q.submit) ps)) (filter by_id (map (λ (q : Pending). q.submit) ps))) ++ debt_in (changer st r x) ∷ []) (sym (touched-waits x p.submit.verdict e))
    go false e ih = elim (goes_by_id p.submit.verdict) as (λ c. map debt_in (cond c (p.submit ∷ filter by_id (map (λ (q : Pending). q.submit) (staying x ps ++ fresh (changer st r x) ∷ []))) (filter by_id (map (λ (q : Pending). q.submit) (staying x ps ++ fresh (changer st r x) ∷ [])))) ≡
        map debt_in (cond c (p.submit ∷ filter by_id (map (λ (q : Pending). q.submit) ps)) (filter by_id (map (λ (q : Pending). q.submit) ps))) ++ debt_in (changer st r x) ∷ [])
        [ true ↦ ap (λ (l : List Debt). debt_in p.submit ∷ l) ih | false ↦ ih ]

pub new-debts : (id : ℕ) (ss : List Submission) → holds (map (λ (s : Submission). s.id) ss) id ≡ false → IsNew id (map debt_in ss)
new-debts id [] h = tt
new-debts id (s ∷ ss) h = let p = or_parts (id == s.id) (holds (map (λ (y : Submission). y.id) ss) id) h in (flip id s.id p.0, new-debts id ss p.1)
  where
    flip : (a b : ℕ) → (a == b) ≡ false → (b == a) ≡ false
    flip a b e = grind (arith, e)

pub new-numbers : (n : ℕ) (ss : List Submission) → list_any (has_seq n) ss ≡ false → IsNewNumber n (debts_of ss)
new-numbers n [] h = tt
new-numbers n (s ∷ ss) h =
    let p = or_parts (has_seq n s) (list_any (has_seq n) ss) h in
    let rest = new-numbers n ss p.1 in
    elim (goes_by_id s.verdict) as (λ c. Each (λ (d : Debt). (number d.load == n) ≡ false) (map debt_in (cond c (s ∷ filter by_id ss) (filter by_id ss)))) [ true ↦ (p.0, rest) | false ↦ rest ]

pub holds-front : (xs ys : List ℕ) (id : ℕ) → holds (xs ++ ys) id ≡ false → holds xs id ≡ false
holds-front xs ys id h = (or_parts (holds xs id) (holds ys id) (sym (list_any-append (λ y. id == y) xs ys) ∙ h)).0

-- ---- behind

pub zero-route : (r : Request) (x : Route) → is_change x ≡ true → is_control (normal_by r (Routed x)).ep ≡ true
zero-route r (route.SetConfig c) h = refl
zero-route r (route.SetAlt i a) h = refl
zero-route r route.Reset h = refl
zero-route r _ h = absurd (true≢false (sym h))

pub behind-more : (es : List Entry) (e : Entry) → is_control (normal_of e.load).ep ≡ true → Behind es → Behind (es ++ e ∷ [])
behind-more [] e h b = ((λ z. tt), tt)
behind-more (y ∷ es) e h b = ((λ z. Each-append (λ (q : Entry). is_control (normal_of q.load).ep ≡ true) es (e ∷ []) (b.0 z) (h, tt)), behind-more es e h b.1)

pub clean-true : (fence : Option ℕ) (down : ℕ → Bool) (p : Bool) → p ≡ true → (bs : List Tagged) → Clean fence down p bs
clean-true fence down p h [] = tt
clean-true fence down p h (b ∷ bs) = ((λ s. or_left p _ h), clean-true fence down p h bs)

pub before-all : (n : ℕ) (ps : List Pending) → Each (λ (s : Submission). s.place < n) (map (λ (p : Pending). p.submit) ps) → AreBefore n ps
before-all n [] h = tt
before-all n (p ∷ ps) h = (apart n p.submit.place h.0, before-all n ps h.1)
  where
    apart : (a b : ℕ) → b < a → (a == b) ≡ false
    apart a b k = grind (arith, k)
