-- Each queue is performed in the order in which its requests came.
use Rattle.std.proofs.Common.{◌≡◌, ℕ, ◌==◌, Bool, true, false, cond, List, [], ◌∷◌, ◌++◌, filter, map, Some, None, refl, sym, ap, subst, ◌∙◌, append_assoc, append-nil, inl, inr}
use Rattle.std.specs.Prelude.{Option}
use Rattle.std.specs.List.{find}
use Rattle.std.specs.Option.{option_to_list}
use Rattle.std.proofs.lemmas.Bool.{cases_Bool, eqb-true, true≢false}
use Rattle.std.proofs.lemmas.List.Elements.{filter-append}
use Rattle.usb_base.specs.declared.endpoint.EpTable.{EpTable}
use Rattle.usb_base.specs.declared.transfer.Outcome.{Outcome}
use Rattle.redir_wire.specs.declared.packet.RedirControl.{RedirControl}
use Rattle.redir_wire.specs.declared.packet.RedirControl.TheVariants as plain
use Rattle.redir_data.specs.declared.packet.RedirPacket.{RedirPacket}
use Rattle.redir_data.specs.declared.packet.RedirPacket.TheVariants.{Plain, Carrying}
use Rattle.control_route.specs.declared.route.Route.{Route}
use Rattle.model_device.specs.Meaning.{Meaning}
use Rattle.redir_host.specs.declared.state.host.Host.{Host}
use Rattle.redir_host.specs.declared.state.request.Asking.{Asking}
use Rattle.redir_host.specs.declared.state.request.Asking.TheVariants.{Nothing, Refuses, Asks}
use Rattle.redir_host.specs.declared.state.request.Request.{Request}
use Rattle.redir_host.specs.guest.Asking.{asking, asking_of, asking_plain}
use Rattle.redir_host.specs.guest.Line.{Placed, Waiting, Waits, placed, plain_line, asked_line, waiting_in, without_cancelled, without_performed, stays_in, flushed_in, all_changes}
use Rattle.usb_base.specs.Firsts.{without_first}
use Rattle.redir_host.specs.state.Queues.{is_at, queue_of}
use Rattle.redir_host.specs.step.Answered.{IsSublist, Answered, ByDevice, ByCancel, ByChange, Became, packets, request_in, requests, ends, unchanged, lines_up, at_once, is_in_queue_of, is_cancelled, is_performed, by_cancel, by_plain, by_packet, flushed_of, outcome_of, by_outcome, by_perform, becomes, is_gone, line, waiting, answered, requests_of, performed_of}
use Rattle.redir_host.specs.step.Items.{Item, Asked, Wrong, Performs, Offers, Unplugs}
use Rattle.redir_host.specs.step.Machine.{run}
use Rattle.redir_host.proofs.lemmas.guest.Placed.{is_left, placed-append, placed-cancelled, placed-left, placed-performed, placed-plain}
use Rattle.redir_host.proofs.lemmas.step.Counted.{news, requests-append}

-- ---- sublists

sub-all : {A : Type 0} (xs : List A) → IsSublist xs xs
sub-all [] = tt
sub-all (x ∷ xs) = inl (refl, sub-all xs)

-- with one more in front
sub-behind : {A : Type 0} (xs : List A) (y : A) (ys : List A) → IsSublist xs ys → IsSublist xs (y ∷ ys)
sub-behind [] y ys is = tt
sub-behind (x ∷ xs) y ys is = inr is

sub-more : {A : Type 0} (xs ys zs : List A) → IsSublist xs ys → IsSublist xs (ys ++ zs)
sub-more [] ys zs is = tt
sub-more (x ∷ xs) [] zs is = absurd is
sub-more (x ∷ xs) (y ∷ ys) zs (inl here) = inl (here.0, sub-more xs ys zs here.1)
sub-more (x ∷ xs) (y ∷ ys) zs (inr later) = inr (sub-more (x ∷ xs) ys zs later)

sub-end : {A : Type 0} (ys zs : List A) → IsSublist zs (ys ++ zs)
sub-end [] zs = sub-all zs
sub-end (y ∷ ys) zs = sub-behind zs y (ys ++ zs) (sub-end ys zs)

sub-both : {A : Type 0} (xs ys zs : List A) → IsSublist xs ys → IsSublist (xs ++ zs) (ys ++ zs)
sub-both [] ys zs is = sub-end ys zs
sub-both (x ∷ xs) [] zs is = absurd is
sub-both (x ∷ xs) (y ∷ ys) zs (inl here) = inl (here.0, sub-both xs ys zs here.1)
sub-both (x ∷ xs) (y ∷ ys) zs (inr later) = inr (sub-both (x ∷ xs) ys zs later)

sub-front : {A : Type 0} (fs xs ys : List A) → IsSublist xs ys → IsSublist (fs ++ xs) (fs ++ ys)
sub-front [] xs ys is = is
sub-front (f ∷ fs) xs ys is = inl (refl, sub-front fs xs ys is)

sub-of : {A : Type 0} (xs ys zs : List A) → IsSublist xs ys → IsSublist ys zs → IsSublist xs zs
sub-of [] ys zs first then = tt
sub-of (x ∷ xs) [] zs first then = absurd first
sub-of (x ∷ xs) (y ∷ ys) [] first then = absurd then
sub-of (x ∷ xs) (y ∷ ys) (z ∷ zs) first (inr later) = inr (sub-of (x ∷ xs) (y ∷ ys) zs first later)
sub-of (x ∷ xs) (y ∷ ys) (z ∷ zs) (inl here) (inl there) = inl (here.0 ∙ there.0, sub-of xs ys zs here.1 there.1)
sub-of (x ∷ xs) (y ∷ ys) (z ∷ zs) (inr later) (inl there) = inr (sub-of (x ∷ xs) ys zs later there.1)

-- those that pass a test, among those of a longer list
sub-tested : {A : Type 0} (test : A → Bool) (xs ys : List A) → IsSublist xs ys → IsSublist (filter test xs) (filter test ys)
sub-tested test [] ys is = tt
sub-tested test (x ∷ xs) [] is = absurd is
sub-tested test (x ∷ xs) (y ∷ ys) (inl here) =
    let rest = sub-tested test xs ys here.1 in
    subst (λ z. IsSublist (filter test (x ∷ xs)) (filter test (z ∷ ys))) here.0
    (elim (test x) as (λ (b : Bool). IsSublist (cond b (x ∷ filter test xs) (filter test xs)) (cond b (x ∷ filter test ys) (filter test ys))) [ true ↦ inl (refl, rest) | false ↦ rest ])
sub-tested test (x ∷ xs) (y ∷ ys) (inr later) =
    let rest = sub-tested test (x ∷ xs) ys later in
    elim (test y) as (λ (b : Bool). IsSublist (filter test (x ∷ xs)) (cond b (y ∷ filter test ys) (filter test ys))) [ true ↦ sub-behind (filter test (x ∷ xs)) y (filter test ys) rest | false ↦ rest ]

sub-filter : {A : Type 0} (takes : A → Bool) (xs : List A) → IsSublist (filter takes xs) xs
sub-filter takes [] = tt
sub-filter takes (x ∷ xs) =
    let left = filter takes xs in
    elim (takes x) as (λ (b : Bool). IsSublist (cond b (x ∷ left) left) (x ∷ xs)) [ true ↦ inl (refl, sub-filter takes xs) | false ↦ sub-behind left x xs (sub-filter takes xs) ]

sub-first : {A : Type 0} (takes : A → Bool) (xs : List A) → IsSublist (without_first takes xs) xs
sub-first takes [] = tt
sub-first takes (x ∷ xs) =
    elim (takes x) as (λ (b : Bool). IsSublist (cond b xs (x ∷ without_first takes xs)) (x ∷ xs)) [ true ↦ sub-behind xs x xs (sub-all xs) | false ↦ inl (refl, sub-first takes xs) ]

-- ---- the first of a queue, before those behind it

-- no other queue's first is of this one
none-first : (e ep : ℕ) (ws : List Placed) → ((queue_of ep == queue_of e) ≡ false) → filter (is_in_queue_of e) (option_to_list (find (is_in_queue_of ep) ws)) ≡ []
none-first e ep [] other = refl
none-first e ep (w ∷ ws) other = by (none-first e ep ws other) (is_in_queue_of ep w) refl
  where
    by : filter (is_in_queue_of e) (option_to_list (find (is_in_queue_of ep) ws)) ≡ [] → (b : Bool) → is_in_queue_of ep w ≡ b → filter (is_in_queue_of e) (option_to_list (cond b (Some w) (find (is_in_queue_of ep) ws))) ≡ []
    by rest true is =
        let same = eqb-true (queue_of w.ep) (queue_of ep) is in
        ap (λ (b : Bool). cond b (w ∷ []) []) ((λ i. same i == queue_of e) ∙ other)
    by rest false is = rest

-- where it is not of the performed queue itself
one-behind : (e ep : ℕ) (w : Placed) (ws : List Placed) → is_in_queue_of ep w ≡ false → IsSublist (filter (is_in_queue_of e) (option_to_list (find (is_in_queue_of ep) ws)) ++ filter (is_in_queue_of e) (without_first (is_in_queue_of ep) ws)) (filter (is_in_queue_of e) ws) →
    (b : Bool) → is_in_queue_of e w ≡ b → IsSublist (filter (is_in_queue_of e) (option_to_list (find (is_in_queue_of ep) ws)) ++ cond b (w ∷ filter (is_in_queue_of e) (without_first (is_in_queue_of ep) ws)) (filter (is_in_queue_of e) (without_first (is_in_queue_of ep) ws))) (cond b (w ∷ filter (is_in_queue_of e) ws) (filter (is_in_queue_of e) ws))
one-behind e ep w ws not_first rest false is = rest
one-behind e ep w ws not_first rest true is =
    let same = eqb-true (queue_of w.ep) (queue_of e) is in
    let left = filter (is_in_queue_of e) (without_first (is_in_queue_of ep) ws) in
    let all = filter (is_in_queue_of e) ws in
    let other : (queue_of ep == queue_of e) ≡ false = elim (cases_Bool (queue_of ep == queue_of e)) [
      | inl equal ↦
          let e1 = eqb-true (queue_of ep) (queue_of e) equal in
          absurd (true≢false (sym is ∙ (λ i. queue_of w.ep == sym e1 i) ∙ not_first))
      | inr differ ↦ differ
    ] in
    let none = none-first e ep ws other in
    subst (λ (ps : List Placed). IsSublist (ps ++ w ∷ left) (w ∷ all)) (sym none)
    (inl (refl, subst (λ (ps : List Placed). IsSublist (ps ++ left) all) none rest))

first-before : (e ep : ℕ) (ws : List Placed) → IsSublist (filter (is_in_queue_of e) (option_to_list (find (is_in_queue_of ep) ws)) ++ filter (is_in_queue_of e) (without_first (is_in_queue_of ep) ws)) (filter (is_in_queue_of e) ws)
first-before e ep [] = tt
first-before e ep (w ∷ ws) = by (first-before e ep ws) (is_in_queue_of ep w) refl
  where
    by : IsSublist (filter (is_in_queue_of e) (option_to_list (find (is_in_queue_of ep) ws)) ++ filter (is_in_queue_of e) (without_first (is_in_queue_of ep) ws)) (filter (is_in_queue_of e) ws) → (b : Bool) → is_in_queue_of ep w ≡ b →
        IsSublist (filter (is_in_queue_of e) (option_to_list (cond b (Some w) (find (is_in_queue_of ep) ws))) ++ filter (is_in_queue_of e) (cond b ws (w ∷ without_first (is_in_queue_of ep) ws))) (filter (is_in_queue_of e) (w ∷ ws))
    by rest true is =
        let all = filter (is_in_queue_of e) ws in
        elim (is_in_queue_of e w) as (λ (c : Bool). IsSublist (cond c (w ∷ []) [] ++ all) (cond c (w ∷ all) all)) [ true ↦ sub-all (w ∷ all) | false ↦ sub-all all ]
    by rest false is = one-behind e ep w ws is rest (is_in_queue_of e w) refl

-- ---- one item

-- what an item has performed, and what waits behind it, are among those that waited and came, in order
abbrev Keeps : ℕ → Became → List Waiting → List Placed → Type 0
Keeps e b before new = IsSublist (filter (is_in_queue_of e) (performed_of b.answered) ++ filter (is_in_queue_of e) (waiting_in b.line)) (filter (is_in_queue_of e) (waiting_in before) ++ filter (is_in_queue_of e) new)

keeps-same : (e : ℕ) (l : List Waiting) (new : List Placed) → IsSublist (filter (is_in_queue_of e) (waiting_in l)) (filter (is_in_queue_of e) (waiting_in l) ++ filter (is_in_queue_of e) new)
keeps-same e l new =
    let all = filter (is_in_queue_of e) (waiting_in l) in
    sub-more all all (filter (is_in_queue_of e) new) (sub-all all)

keeps-joins : (e : ℕ) (l comes : List Waiting) (new : List Placed) → waiting_in comes ≡ new → IsSublist (filter (is_in_queue_of e) (waiting_in (l ++ comes))) (filter (is_in_queue_of e) (waiting_in l) ++ filter (is_in_queue_of e) new)
keeps-joins e l comes new is =
    let all = filter (is_in_queue_of e) (waiting_in (l ++ comes)) in
    let both = ap (filter (is_in_queue_of e)) (placed-append l comes) ∙ filter-append (is_in_queue_of e) (waiting_in l) (waiting_in comes) in
    subst (λ (ps : List Placed). IsSublist all ps) (both ∙ ap (λ (ps : List Placed). filter (is_in_queue_of e) (waiting_in l) ++ filter (is_in_queue_of e) ps) is) (sub-all all)

keeps-asking : (e place id : ℕ) (a : Asking) (l : List Waiting) → Keeps e (lines_up l (asked_line place id a) (at_once place id a)) l (request_in place id a)
keeps-asking e place id Nothing l = keeps-joins e l [] [] refl
keeps-asking e place id (Refuses f ep) l =
    let new = placed place id f ep ∷ [] in
    subst (λ (k : List Waiting). IsSublist (filter (is_in_queue_of e) (waiting_in k)) (filter (is_in_queue_of e) (waiting_in l) ++ filter (is_in_queue_of e) new)) (sym (append-nil l)) (keeps-same e l new)
keeps-asking e place id (Asks f t) l = keeps-joins e l (Waits place id f t ∷ []) (placed place id f t.ep ∷ []) refl

by-cancel-none : (ps : List Placed) → performed_of (map (ends ByCancel) ps) ≡ []
by-cancel-none [] = refl
by-cancel-none (p ∷ ps) = by-cancel-none ps

by-change-none : (ps : List Placed) → performed_of (map (ends ByChange) ps) ≡ []
by-change-none [] = refl
by-change-none (p ∷ ps) = by-change-none ps

by-device-all : (configuration : ℕ) (o : Outcome) (ps : List Placed) → performed_of (map (ends (ByDevice configuration o)) ps) ≡ ps
by-device-all configuration o [] = refl
by-device-all configuration o (p ∷ ps) = ap (λ (qs : List Placed). p ∷ qs) (by-device-all configuration o ps)

performed-append : (xs ys : List Answered) → performed_of (xs ++ ys) ≡ performed_of xs ++ performed_of ys
performed-append xs ys = ap requests_of (filter-append is_performed xs ys) ∙ requests-append (filter is_performed xs) (filter is_performed ys)

keeps-cancel : (e id : ℕ) (l : List Waiting) → Keeps e (by_cancel id l) l []
keeps-cancel e id l =
    let left = filter (is_in_queue_of e) (waiting_in (without_cancelled id l)) in
    let all = filter (is_in_queue_of e) (waiting_in l) in
    let fewer = subst (λ (ps : List Placed). IsSublist (filter (is_in_queue_of e) ps) all) (sym (placed-cancelled id l)) (sub-tested (is_in_queue_of e) _ _ (sub-first (is_cancelled id) (waiting_in l))) in
    subst (λ (ps : List Placed). IsSublist (filter (is_in_queue_of e) ps ++ left) (all ++ [])) (sym (by-cancel-none (option_to_list (find (is_cancelled id) (waiting_in l)))))
    (sub-more left all [] fewer)

keeps-plain : (e place id : ℕ) (p : RedirControl) (l : List Waiting) → Keeps e (by_plain place id p l) l (request_in place id (asking_plain p))
keeps-plain e place id plain.Cancel l = keeps-cancel e id l
keeps-plain e place id p l = keeps-joins e l (plain_line place id p) (request_in place id (asking_plain p)) (placed-plain place id p)

keeps-packet : (e place id : ℕ) (p : RedirPacket) (l : List Waiting) → Keeps e (by_packet place id p l) l (request_in place id (asking p))
keeps-packet e place id (Plain p) l = keeps-plain e place id p l
keeps-packet e place id (Carrying d) l = keeps-asking e place id (asking_of d) l

sub-left : (e : ℕ) (cs : List (Route × EpTable)) (l : List Waiting) → IsSublist (filter (is_in_queue_of e) (waiting_in (flushed_in cs l))) (filter (is_in_queue_of e) (waiting_in l))
sub-left e [] l = sub-all (filter (is_in_queue_of e) (waiting_in l))
sub-left e (c ∷ cs) l =
    let left = filter (stays_in c.0 c.1) l in
    let all = filter (is_in_queue_of e) (waiting_in l) in
    let fewer = subst (λ (ps : List Placed). IsSublist (filter (is_in_queue_of e) ps) all) (sym (placed-left c.0 c.1 l)) (sub-tested (is_in_queue_of e) _ _ (sub-filter (is_left c.0 c.1) (waiting_in l))) in
    sub-of (filter (is_in_queue_of e) (waiting_in (flushed_in cs left))) (filter (is_in_queue_of e) (waiting_in left)) all (sub-left e cs left) fewer

keeps-outcome : (e : ℕ) (cs : List (Route × EpTable)) (ep : ℕ) (l : List Waiting) (o : Option (ℕ × Outcome)) → Keeps e (by_outcome cs ep l o) l []
keeps-outcome e cs ep l None = keeps-same e l []
keeps-outcome e cs ep l (Some o) =
    let first = option_to_list (find (is_in_queue_of ep) (waiting_in l)) in
    let behind = without_performed ep l in
    let all = filter (is_in_queue_of e) (waiting_in l) in
    let here = filter (is_in_queue_of e) first in
    let left = filter (is_in_queue_of e) (waiting_in (flushed_in cs behind)) in
    let done : performed_of (map (ends ByChange) (flushed_of cs behind) ++ map (ends (ByDevice o.0 o.1)) first) ≡ first =
    performed-append (map (ends ByChange) (flushed_of cs behind)) (map (ends (ByDevice o.0 o.1)) first)
    ∙ (λ i. by-change-none (flushed_of cs behind) i ++ by-device-all o.0 o.1 first i) in
    let fewer = sub-front here left (filter (is_in_queue_of e) (waiting_in behind)) (sub-left e cs behind) in
    let before = subst (λ (ps : List Placed). IsSublist (here ++ filter (is_in_queue_of e) ps) all) (sym (placed-performed ep l)) (first-before e ep (waiting_in l)) in
    subst (λ (ps : List Placed). IsSublist (filter (is_in_queue_of e) ps ++ left) (all ++ [])) (sym done)
    (sub-more (here ++ left) all [] (sub-of (here ++ left) (here ++ filter (is_in_queue_of e) (waiting_in behind)) all fewer before))

keeps-perform : {S : Type 0} (e : ℕ) (m : Meaning S) (s : S) (ep : ℕ) (l : List Waiting) (o : Option Request) → Keeps e (by_perform m s ep l o) l []
keeps-perform e m s ep l None = keeps-same e l []
keeps-perform e m s ep l (Some q) = keeps-outcome e (all_changes m s q) ep l (outcome_of m s q)

keeps-item : {S : Type 0} (e : ℕ) (m : Meaning S) (h : Host S) (out : Bool) (place : ℕ) (x : Item) (l : List Waiting) → Keeps e (becomes m h out place x l) l (news place x)
keeps-item e m h out place (Asked id p) l =
    let new = request_in place id (asking p) in
    let gone : Became = record { line = l; answered = []; dropped = new } in
    elim out as (λ (b : Bool). Keeps e (cond b gone (by_packet place id p l)) l new) [ true ↦ keeps-same e l new | false ↦ keeps-packet e place id p l ]
keeps-item e m h out place (Wrong from reason) l = keeps-same e l []
keeps-item e m h out place (Performs ep) l =
    elim out as (λ (b : Bool). Keeps e (cond b (unchanged l) (by_perform m h.gadget ep l (find (is_at ep) h.queue))) l []) [
      | true ↦ keeps-same e l []
      | false ↦ keeps-perform e m h.gadget ep l (find (is_at ep) h.queue)
    ]
keeps-item e m h out place (Offers ep) l = keeps-same e l []
keeps-item e m h out place Unplugs l =
    let gone : Became = record { line = []; answered = []; dropped = waiting_in l } in
    elim out as (λ (b : Bool). Keeps e (cond b (unchanged l) gone) l []) [ true ↦ keeps-same e l [] | false ↦ tt ]

-- ---- all items

requests-more : (e : ℕ) (x : Item) (xs : List Item) → filter (is_in_queue_of e) (requests (x ∷ xs)) ≡ filter (is_in_queue_of e) (requests xs) ++ filter (is_in_queue_of e) (news (packets xs) x)
requests-more e (Asked id p) xs = filter-append (is_in_queue_of e) (requests xs) (request_in (packets xs) id (asking p))
requests-more e (Wrong from reason) xs = sym (append-nil (filter (is_in_queue_of e) (requests xs)))
requests-more e (Performs ep) xs = sym (append-nil (filter (is_in_queue_of e) (requests xs)))
requests-more e (Offers ep) xs = sym (append-nil (filter (is_in_queue_of e) (requests xs)))
requests-more e Unplugs xs = sym (append-nil (filter (is_in_queue_of e) (requests xs)))

in-order : {S : Type 0} (m : Meaning S) (s : S) (e : ℕ) (xs : List Item) → IsSublist (filter (is_in_queue_of e) (performed_of (answered m s xs)) ++ filter (is_in_queue_of e) (waiting m s xs)) (filter (is_in_queue_of e) (requests xs))
in-order m s e [] = tt
in-order m s e (x ∷ xs) =
    let of = is_in_queue_of e in
    let before = line m s xs in
    let b = becomes m (run m s xs) (is_gone xs) (packets xs) x before in
    let new = filter of (news (packets xs) x) in
    let done = filter of (performed_of (answered m s xs)) in
    let now = filter of (performed_of b.answered) in
    let left = filter of (waiting_in b.line) in
    let told : filter of (performed_of (answered m s xs ++ b.answered)) ≡ done ++ now = ap (filter of) (performed-append (answered m s xs) b.answered) ∙ filter-append of (performed_of (answered m s xs)) (performed_of b.answered) in
    let one = sub-front done (now ++ left) (filter of (waiting_in before) ++ new) (keeps-item e m (run m s xs) (is_gone xs) (packets xs) x before) in
    let all = sub-both (done ++ filter of (waiting_in before)) (filter of (requests xs)) new (in-order m s e xs) in
    let both = sub-of (done ++ (now ++ left)) (done ++ (filter of (waiting_in before) ++ new)) (filter of (requests xs) ++ new) one
    (subst (λ (ps : List Placed). IsSublist ps (filter of (requests xs) ++ new)) (append_assoc done (filter of (waiting_in before)) new) all) in
    subst (λ (ps : List Placed). IsSublist (ps ++ left) (filter of (requests (x ∷ xs)))) (sym told)
    (subst (λ (ps : List Placed). IsSublist ps (filter of (requests (x ∷ xs)))) (sym (append_assoc done now left))
    (subst (λ (ps : List Placed). IsSublist (done ++ (now ++ left)) ps) (sym (requests-more e x xs)) both))

pub all-in-order : {S : Type 0} (m : Meaning S) (s : S) (xs : List Item) (e : ℕ) → IsSublist (filter (is_in_queue_of e) (performed_of (answered m s xs) ++ waiting m s xs)) (filter (is_in_queue_of e) (requests xs))
all-in-order m s xs e =
    subst (λ (ps : List Placed). IsSublist ps (filter (is_in_queue_of e) (requests xs))) (sym (filter-append (is_in_queue_of e) (performed_of (answered m s xs)) (waiting m s xs))) (in-order m s e xs)
