-- What a change takes off the queues, of those that are held.
use Rattle.std.proofs.Common.{◌≡◌, ℕ, ◌==◌, ◌&&◌, not, Bool, true, false, cond, List, [], ◌∷◌, ◌++◌, map, filter, Option, refl, sym, ap, ◌∙◌, subst, arith, inl, inr, ◌⊎◌, true≢false}
use Rattle.std.specs.List.{AllByRecursion as Each}
use Rattle.usb_base.specs.declared.endpoint.EpTable.{EpTable}
use Rattle.usb_base.specs.Endpoint.{is_control, row_of}
use Rattle.usb_base.specs.declared.status.UsbStatus.TheVariants.{Cancelled}
use Rattle.usb_base.specs.declared.endpoint.EpKind.{EpKind}
use Rattle.redir_wire.specs.declared.packet.RedirControl.TheVariants as plain
use Rattle.redir_data.specs.declared.packet.RedirPacket.{RedirPacket}
use Rattle.redir_data.specs.declared.packet.RedirPacket.TheVariants.{Plain}
use Rattle.control_route.specs.declared.route.Route.{Route}
use Rattle.control_route.specs.Changes.{touches}
use Rattle.control_route.specs.declared.route.Route.TheVariants as route
use Rattle.redir_host.specs.device.Changes.{is_touched}
use Rattle.chapter9.specs.Standard.{ended}
use Rattle.redir_host.proofs.lemmas.state.Each.{each_front, each_behind}
use Rattle.gate_history.proofs.lemmas.Lists.{Each-append, Each-filter}
use Rattle.gate_history.specs.declared.request.Request.{Request}
use Rattle.gate_history.specs.declared.verdict.Verdict.{Verdict}
use Rattle.gate_history.specs.declared.verdict.Verdict.TheVariants.{Wire, Routed}
use Rattle.gate_history.specs.client.Verdict.{is_wire}
use Rattle.direct_run.specs.declared.submitted.Submitted.{Submitted}
use Rattle.direct_run.specs.Noted.{number_in}
use Rattle.direct_device.specs.Direct.{Load, number, normal_of, normal_by}
use Rattle.direct_proof.specs.Requests.{Entry, Coming, Debt, queued_transfer}
use Rattle.direct_proof.specs.Tagged.{Tagged, Answered, runs_in, packets_in}
use Rattle.direct_proof.specs.Ids.{Ids, Agrees}
use Rattle.direct_proof.specs.Cancels.{Behind, is_change}
use Rattle.direct_proof.specs.Running.{Quits, runs_after}
use Rattle.direct_proof.specs.Stale.{Clean}
use Rattle.direct_proof.specs.Loads.{FitsVerdict}
use Rattle.direct_proof.proofs.lists.Counts.{count-append, count-map, count-parts, Each-map}
use Rattle.direct_proof.proofs.shared.Ran.{coming_of}

-- ---- what is touched

touched-route : (r : Route) (t : EpTable) (q : Request) (x : Route) → is_touched r t (queued_transfer (record { request = q; verdict = Routed x })).ep ≡ is_touched r t (normal_by q (Routed x)).ep
touched-route r t q (route.SetConfig c) = refl
touched-route r t q _ = refl

pub touched-same : (r : Route) (t : EpTable) (l : Load) → is_touched r t (queued_transfer l).ep ≡ is_touched r t (normal_of l).ep
touched-same r t l = go l.verdict
  where
    go : (v : Verdict) → is_touched r t (queued_transfer (record { request = l.request; verdict = v })).ep ≡ is_touched r t (normal_by l.request v).ep
    go (Routed x) = touched-route r t l.request x
    go _ = refl

pub control-untouched : (r : Route) (t : EpTable) (ep : ℕ) → is_control ep ≡ true → is_touched r t ep ≡ false
control-untouched r t ep h = ap (λ (b : Bool). not b && touches r (row_of t ep).interface) h

-- only what goes by its own packet is touched
pub touched-wire : (r : Route) (t : EpTable) (l : Load) → FitsVerdict l.verdict l.request.transfer → is_touched r t (normal_of l).ep ≡ true → is_wire l.verdict ≡ true
touched-wire r t l fits h = go l.verdict fits h
  where
    by_route : (x : Route) → is_touched r t (normal_by l.request (Routed x)).ep ≡ true → ⊥
    by_route (route.SetConfig c) k = true≢false (sym k)
    by_route _ k = true≢false (sym k)

    go : (v : Verdict) → FitsVerdict v l.request.transfer → is_touched r t (normal_by l.request v).ep ≡ true → is_wire v ≡ true
    go (Wire pipe) f k = refl
    go (Routed x) f k = absurd (by_route x k)
    go _ f k = absurd f

-- ---- who leaves

abbrev pub flushed_of : Entry → Coming
flushed_of x = coming_of x 0 (ended Cancelled)

abbrev pub flushed_tag : Entry → Tagged
flushed_tag x = Answered (flushed_of x)

pub behind-filter : (p : Entry → Bool) (es : List Entry) → Behind es → Behind (filter p es)
behind-filter p [] h = tt
behind-filter p (e ∷ es) h =
    let rest = behind-filter p es h.1 in
    elim (p e) as (λ b. Behind (cond b (e ∷ filter p es) (filter p es)))
    [ true ↦ ((λ c. Each-filter (λ (y : Entry). is_control (normal_of y.load).ep ≡ true) p es (h.0 c)), rest) | false ↦ rest ]

-- behind a change stand those of endpoint 0 alone
pub behind-zeros : (xs : List Entry) (e : Entry) (ys : List Entry) → Behind (xs ++ e ∷ ys) → is_change e ≡ true → Each (λ (y : Entry). is_control (normal_of y.load).ep ≡ true) ys
behind-zeros [] e ys h c = h.0 c
behind-zeros (x ∷ xs) e ys h c = behind-zeros xs e ys h.1 c

pub filter-kept : {X : Type 0} (p : X → Bool) (xs : List X) → Each (λ (x : X). p x ≡ false) xs → (filter p xs ≡ []) × (filter (λ x. not (p x)) xs ≡ xs)
filter-kept p [] h = (refl, refl)
filter-kept {X = X} p (x ∷ xs) h = let r = filter-kept p xs h.1 in (
  ap (λ (b : Bool). cond b (x ∷ filter p xs) (filter p xs)) h.0 ∙ r.0,
  ap (λ (b : Bool). cond (not b) (x ∷ filter (λ y. not (p y)) xs) (filter (λ y. not (p y)) xs)) h.0 ∙ ap (λ (l : List X). x ∷ l) r.1,
)

pub ids-flush : (ds : List Debt) (names : List Submitted) (rest coming : List Entry) (ran : List Coming) (c : Coming) (f : Entry → Bool) → Ids ds names (rest ++ coming) (ran ++ c ∷ []) →
    Ids ds names (filter (λ x. not (f x)) rest ++ coming) (ran ++ (map flushed_of (filter f rest) ++ c ∷ []))
ids-flush ds names rest coming ran c f ids = record {
  balance = λ test.
      let t : Entry → Bool = λ e. test e.id (number e.load) in
      let u : Coming → Bool = λ k. test k.id (number k.load) in
      omega (
        arith,
        ids.balance test,
        count-append t rest coming,
        count-append t (filter (λ x. not (f x)) rest) coming,
        count-parts t f rest,
        count-append u ran (c ∷ []),
        count-append u ran (map flushed_of (filter f rest) ++ c ∷ []),
        count-append u (map flushed_of (filter f rest)) (c ∷ []),
        count-map u flushed_of (filter f rest),
      );
  one_id = ids.one_id;
  one_number = ids.one_number;
  named = parts (λ (x : Entry). number_in x.id names ≡ number x.load) ids.named;
  entries_agree = parts (λ (x : Entry). Each (λ (d : Debt). Agrees d x.id x.load) ds) ids.entries_agree;
  ran_agrees = Each-append R ran (map flushed_of (filter f rest) ++ c ∷ []) (each_front R ran (c ∷ []) ids.ran_agrees)
      (Each-append R (map flushed_of (filter f rest)) (c ∷ []) (Each-map R flushed_of (filter f rest) (Each-filter (λ (x : Entry). Each (λ (d : Debt). Agrees d x.id x.load) ds) f rest (each_front (λ (x : Entry). Each (λ (d : Debt). Agrees d x.id x.load) ds) rest coming ids.entries_agree))) (each_behind R ran (c ∷ []) ids.ran_agrees));
}
  where
    R : Coming → Type 0
    R k = Each (λ (d : Debt). Agrees d k.id k.load) ds

    parts : (P : Entry → Type 0) → Each P (rest ++ coming) → Each P (filter (λ x. not (f x)) rest ++ coming)
    parts P h = Each-append P (filter (λ x. not (f x)) rest) coming (Each-filter P (λ x. not (f x)) rest (each_front P rest coming h)) (each_behind P rest coming h)

-- ---- on the wire back

pub runs-flushed : (es : List Entry) (bs : List Tagged) → runs_in (map flushed_tag es ++ bs) ≡ map flushed_of es ++ runs_in bs
runs-flushed [] bs = refl
runs-flushed (e ∷ es) bs = ap (λ (l : List Coming). flushed_of e ∷ l) (runs-flushed es bs)

pub packets-flushed : (kind : EpKind) (ep : ℕ) (es : List Entry) (bs : List Tagged) → packets_in kind ep (map flushed_tag es ++ bs) ≡ packets_in kind ep bs
packets-flushed kind ep [] bs = refl
packets-flushed kind ep (e ∷ es) bs = packets-flushed kind ep es bs

pub clean-flushed : (fence : Option ℕ) (down : ℕ → Bool) (p : Bool) (es : List Entry) (bs : List Tagged) → Clean fence down p bs → Clean fence down p (map flushed_tag es ++ bs)
clean-flushed fence down p [] bs h = h
clean-flushed fence down p (e ∷ es) bs h = ((λ z. absurd (true≢false (sym z))), clean-flushed fence down p es bs h)

-- ---- a stream that ends at the host

runs-shape : (ep : ℕ) (p : RedirPacket) → ((b : Bool) → runs_after ep p b ≡ b) ⊎ ((b : Bool) → runs_after ep p b ≡ runs_after ep p false)
runs-shape ep (Plain (plain.StartIso e n c)) = elim (e == ep) as (λ x. ((b : Bool) → cond x true b ≡ b) ⊎ ((b : Bool) → cond x true b ≡ cond x true false)) [ true ↦ inr (λ b. refl) | false ↦ inl (λ b. refl) ]
runs-shape ep (Plain (plain.StopIso e)) = elim (e == ep) as (λ x. ((b : Bool) → cond x false b ≡ b) ⊎ ((b : Bool) → cond x false b ≡ cond x false false)) [ true ↦ inr (λ b. refl) | false ↦ inl (λ b. refl) ]
runs-shape ep (Plain (plain.StartInterrupt e)) = elim (e == ep) as (λ x. ((b : Bool) → cond x true b ≡ b) ⊎ ((b : Bool) → cond x true b ≡ cond x true false)) [ true ↦ inr (λ b. refl) | false ↦ inl (λ b. refl) ]
runs-shape ep (Plain (plain.StopInterrupt e)) = elim (e == ep) as (λ x. ((b : Bool) → cond x false b ≡ b) ⊎ ((b : Bool) → cond x false b ≡ cond x false false)) [ true ↦ inr (λ b. refl) | false ↦ inl (λ b. refl) ]
runs-shape ep _ = inl (λ b. refl)

pub quits-low : (fence : Option ℕ) (ep : ℕ) (r : Bool) (ps : List (ℕ × RedirPacket)) → Quits fence ep r ps → Quits fence ep false ps
quits-low fence ep r [] h = refl
quits-low fence ep r (p ∷ ps) h = ((λ z. absurd (true≢false (sym z))), go (runs-shape ep p.1) (quits-low fence ep (runs_after ep p.1 r) ps h.1))
  where
    go : ((b : Bool) → runs_after ep p.1 b ≡ b) ⊎ ((b : Bool) → runs_after ep p.1 b ≡ runs_after ep p.1 false) → Quits fence ep false ps → Quits fence ep (runs_after ep p.1 false) ps
    go (inl k) low = subst (λ (b : Bool). Quits fence ep b ps) (sym (k false)) low
    go (inr k) low = subst (λ (b : Bool). Quits fence ep b ps) (k r) h.1
