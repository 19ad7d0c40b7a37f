-- How many of the guest's requests wait, are answered or were dropped: each that came, once.
use Rattle.std.proofs.Common.{◌≡◌, ℕ, ◌+◌, ◌≤◌, ◌==◌, Bool, true, false, cond, not, List, [], ◌∷◌, ◌++◌, length, filter, map, Some, None, refl, sym, ap, ◌∙◌, arith, length-append, inl, inr}
use Rattle.std.specs.Prelude.{Option}
use Rattle.std.specs.List.{find}
use Rattle.std.specs.Option.{option_to_list}
use Rattle.std.proofs.lemmas.Bool.{cases_Bool, eqb-true, true≢false}
use Rattle.std.proofs.lemmas.List.{map-append}
use Rattle.std.proofs.lemmas.List.Elements.{filter-append}
use Rattle.usb_base.specs.declared.endpoint.EpTable.{EpTable}
use Rattle.usb_base.specs.declared.transfer.Outcome.{Outcome}
use Rattle.redir_wire.specs.declared.packet.RedirControl.{RedirControl}
use Rattle.redir_wire.specs.declared.packet.RedirControl.TheVariants as plain
use Rattle.redir_data.specs.declared.packet.RedirPacket.{RedirPacket}
use Rattle.redir_data.specs.declared.packet.RedirPacket.TheVariants.{Plain, Carrying}
use Rattle.control_route.specs.declared.route.Route.{Route}
use Rattle.model_device.specs.Meaning.{Meaning}
use Rattle.redir_host.specs.declared.state.host.Host.{Host}
use Rattle.redir_host.specs.declared.state.request.Asking.{Asking}
use Rattle.redir_host.specs.declared.state.request.Asking.TheVariants.{Nothing, Refuses, Asks}
use Rattle.redir_host.specs.declared.state.request.Request.{Request}
use Rattle.redir_host.specs.guest.Asking.{asking, asking_of, asking_plain}
use Rattle.redir_host.specs.guest.Line.{Placed, Waiting, placed, plain_line, asked_line, waiting_in, without_performed, stays_in, flushed_in, all_changes}
use Rattle.usb_base.specs.Firsts.{without_first}
use Rattle.redir_host.specs.state.Queues.{is_at}
use Rattle.redir_host.specs.step.Answered.{Answered, End, ByDevice, ByCancel, ByChange, Became, packets, request_in, requests, ends, unchanged, lines_up, at_once, is_in_queue_of, is_cancelled, is_placed, by_cancel, by_plain, by_packet, is_flushed, flushed_of, outcome_of, by_outcome, by_perform, becomes, is_gone, line, waiting, answered, dropped, requests_of}
use Rattle.redir_host.specs.step.Items.{Item, Asked, Wrong, Performs, Offers, Unplugs}
use Rattle.redir_host.specs.step.Machine.{run}
use Rattle.redir_host.proofs.lemmas.guest.Placed.{placed-append, placed-cancelled, placed-left, placed-performed, placed-plain}

abbrev many : {A : Type 0} → (A → Bool) → List A → ℕ
many test xs = length (filter test xs)

many-append : {A : Type 0} (test : A → Bool) (xs ys : List A) → many test (xs ++ ys) ≡ many test xs + many test ys
many-append test xs ys = ap length (filter-append test xs ys) ∙ length-append (filter test xs) (filter test ys)

-- one that is taken, and those that are left, are all
many-first : {A : Type 0} (test takes : A → Bool) (xs : List A) → many test (option_to_list (find takes xs)) + many test (without_first takes xs) ≡ many test xs
many-first test takes [] = refl
many-first test takes (x ∷ xs) =
    let here = many-append test (x ∷ []) xs in
    let left = many-append test (x ∷ []) (without_first takes xs) in
    let rest = many-first test takes xs in
    elim (takes x) as (λ (b : Bool). many test (option_to_list (cond b (Some x) (find takes xs))) + many test (cond b xs (x ∷ without_first takes xs)) ≡ many test (x ∷ xs)) [
      | true ↦ sym here
      | false ↦ omega (arith, here, left, rest)
    ]

many-filtered : {A : Type 0} (test takes : A → Bool) (xs : List A) → many test (filter takes xs) + many test (filter (λ x. not (takes x)) xs) ≡ many test xs
many-filtered test takes [] = refl
many-filtered test takes (x ∷ xs) =
    let here = many-append test (x ∷ []) xs in
    let with = many-append test (x ∷ []) (filter takes xs) in
    let without = many-append test (x ∷ []) (filter (λ y. not (takes y)) xs) in
    let rest = many-filtered test takes xs in
    elim (takes x) as (λ (b : Bool). many test (cond b (x ∷ filter takes xs) (filter takes xs)) + many test (cond (not b) (x ∷ filter (λ y. not (takes y)) xs) (filter (λ y. not (takes y)) xs)) ≡ many test (x ∷ xs)) [
      | true ↦ omega (arith, here, with, rest)
      | false ↦ omega (arith, here, without, rest)
    ]

pub requests-ends : (e : End) (ps : List Placed) → requests_of (map (ends e) ps) ≡ ps
requests-ends e [] = refl
requests-ends e (p ∷ ps) = ap (λ (qs : List Placed). p ∷ qs) (requests-ends e ps)

pub requests-append : (xs ys : List Answered) → requests_of (xs ++ ys) ≡ requests_of xs ++ requests_of ys
requests-append xs ys = map-append (λ (a : Answered). a.request) xs ys

-- ---- one item

-- those that waited and the new ones wait, are answered or are dropped
abbrev Counts : (Placed → Bool) → Became → List Waiting → List Placed → Type 0
Counts test b before new = many test (requests_of b.answered) + many test (waiting_in b.line) + many test b.dropped ≡ many test (waiting_in before) + many test new

counts-joins : (test : Placed → Bool) (l comes : List Waiting) (answered : List Answered) (new : List Placed) → many test (requests_of answered) + many test (waiting_in comes) ≡ many test new → Counts test (lines_up l comes answered) l new
counts-joins test l comes answered new told =
    let both = ap (many test) (placed-append l comes) ∙ many-append test (waiting_in l) (waiting_in comes) in
    omega (arith, told, both)

asked-counts : (test : Placed → Bool) (place id : ℕ) (a : Asking) → many test (requests_of (at_once place id a)) + many test (waiting_in (asked_line place id a)) ≡ many test (request_in place id a)
asked-counts test place id Nothing = omega arith
asked-counts test place id (Refuses f ep) = omega arith
asked-counts test place id (Asks f t) = omega arith

counts-cancel : (test : Placed → Bool) (id : ℕ) (l : List Waiting) → Counts test (by_cancel id l) l []
counts-cancel test id l =
    let taken = ap (many test) (requests-ends ByCancel (option_to_list (find (is_cancelled id) (waiting_in l)))) in
    let all = many-first test (is_cancelled id) (waiting_in l) in
    let left = ap (many test) (placed-cancelled id l) in
    omega (arith, taken, all, left)

counts-plain : (test : Placed → Bool) (place id : ℕ) (p : RedirControl) (l : List Waiting) → Counts test (by_plain place id p l) l (request_in place id (asking_plain p))
counts-plain test place id plain.Cancel l = counts-cancel test id l
counts-plain test place id p l =
    let told = ap (many test) (placed-plain place id p) in
    counts-joins test l (plain_line place id p) [] (request_in place id (asking_plain p)) (omega (arith, told))

counts-packet : (test : Placed → Bool) (place id : ℕ) (p : RedirPacket) (l : List Waiting) → Counts test (by_packet place id p l) l (request_in place id (asking p))
counts-packet test place id (Plain p) l = counts-plain test place id p l
counts-packet test place id (Carrying d) l =
    counts-joins test l (asked_line place id (asking_of d)) (at_once place id (asking_of d)) (request_in place id (asking_of d)) (asked-counts test place id (asking_of d))

many-flushed : (test : Placed → Bool) (cs : List (Route × EpTable)) (l : List Waiting) → many test (flushed_of cs l) + many test (waiting_in (flushed_in cs l)) ≡ many test (waiting_in l)
many-flushed test [] l = omega arith
many-flushed test (c ∷ cs) l =
    let behind = filter (stays_in c.0 c.1) l in
    let one = many-filtered test (is_flushed c.0 c.1) (waiting_in l) in
    let left = ap (many test) (placed-left c.0 c.1 l) in
    let both = many-append test (filter (is_flushed c.0 c.1) (waiting_in l)) (flushed_of cs behind) in
    let rest = many-flushed test cs behind in
    omega (arith, one, left, both, rest)

counts-outcome : (test : Placed → Bool) (cs : List (Route × EpTable)) (ep : ℕ) (l : List Waiting) (o : Option (ℕ × Outcome)) → Counts test (by_outcome cs ep l o) l []
counts-outcome test cs ep l None = omega arith
counts-outcome test cs ep l (Some o) =
    let behind = without_performed ep l in
    let flushed = flushed_of cs behind in
    let first = option_to_list (find (is_in_queue_of ep) (waiting_in l)) in
    let e : requests_of (map (ends ByChange) flushed ++ map (ends (ByDevice o.0 o.1)) first) ≡ flushed ++ first =
    requests-append (map (ends ByChange) flushed) (map (ends (ByDevice o.0 o.1)) first) ∙ (λ i. requests-ends ByChange flushed i ++ requests-ends (ByDevice o.0 o.1) first i) in
    let told = ap (many test) e in
    let both = many-append test flushed first in
    let one = many-first test (is_in_queue_of ep) (waiting_in l) in
    let left = ap (many test) (placed-performed ep l) in
    let rest = many-flushed test cs behind in
    omega (arith, told, both, one, left, rest)

counts-perform : {S : Type 0} (test : Placed → Bool) (m : Meaning S) (s : S) (ep : ℕ) (l : List Waiting) (o : Option Request) → Counts test (by_perform m s ep l o) l []
counts-perform test m s ep l None = omega arith
counts-perform test m s ep l (Some q) = counts-outcome test (all_changes m s q) ep l (outcome_of m s q)

-- those that an item brings
abbrev pub news : ℕ → Item → List Placed
news place (Asked id p) = request_in place id (asking p)
news place _ = []

counts-item : {S : Type 0} (test : Placed → Bool) (m : Meaning S) (h : Host S) (out : Bool) (place : ℕ) (x : Item) (l : List Waiting) → Counts test (becomes m h out place x l) l (news place x)
counts-item test m h out place (Asked id p) l =
    let new = request_in place id (asking p) in
    let gone : Became = record { line = l; answered = []; dropped = new } in
    elim out as (λ (b : Bool). Counts test (cond b gone (by_packet place id p l)) l new) [ true ↦ omega arith | false ↦ counts-packet test place id p l ]
counts-item test m h out place (Wrong from reason) l = omega arith
counts-item test m h out place (Performs ep) l =
    elim out as (λ (b : Bool). Counts test (cond b (unchanged l) (by_perform m h.gadget ep l (find (is_at ep) h.queue))) l []) [
      | true ↦ omega arith
      | false ↦ counts-perform test m h.gadget ep l (find (is_at ep) h.queue)
    ]
counts-item test m h out place (Offers ep) l = omega arith
counts-item test m h out place Unplugs l =
    let gone : Became = record { line = []; answered = []; dropped = waiting_in l } in
    elim out as (λ (b : Bool). Counts test (cond b (unchanged l) gone) l []) [ true ↦ omega arith | false ↦ omega arith ]

-- ---- all items

many-new : (test : Placed → Bool) (x : Item) (xs : List Item) → many test (requests (x ∷ xs)) ≡ many test (requests xs) + many test (news (packets xs) x)
many-new test (Asked id p) xs = many-append test (requests xs) (request_in (packets xs) id (asking p))
many-new test (Wrong from reason) xs = omega arith
many-new test (Performs ep) xs = omega arith
many-new test (Offers ep) xs = omega arith
many-new test Unplugs xs = omega arith

pub all-counted : {S : Type 0} (m : Meaning S) (s : S) (xs : List Item) (test : Placed → Bool) → many test (requests xs) ≡ many test (requests_of (answered m s xs)) + many test (waiting m s xs) + many test (dropped m s xs)
all-counted m s [] test = refl
all-counted m s (x ∷ xs) test =
    let b = becomes m (run m s xs) (is_gone xs) (packets xs) x (line m s xs) in
    let one = counts-item test m (run m s xs) (is_gone xs) (packets xs) x (line m s xs) in
    let new = many-new test x xs in
    let before = all-counted m s xs test in
    let told = ap (many test) (requests-append (answered m s xs) b.answered) in
    let answers = many-append test (requests_of (answered m s xs)) (requests_of b.answered) in
    let gone = many-append test (dropped m s xs) b.dropped in
    omega (arith, one, new, before, told, answers, gone)

-- ---- a place names one request

one-request : (place id n : ℕ) (a : Asking) → many (is_placed n) (request_in place id a) ≤ cond (place == n) 1 0
one-request place id n Nothing = elim (place == n) as (λ (b : Bool). 0 ≤ cond b 1 0) [ true ↦ omega arith | false ↦ omega arith ]
one-request place id n (Refuses f ep) = elim (place == n) as (λ (b : Bool). length (cond b (placed place id f ep ∷ []) []) ≤ cond b 1 0) [ true ↦ omega arith | false ↦ omega arith ]
one-request place id n (Asks f t) = elim (place == n) as (λ (b : Bool). length (cond b (placed place id f t.ep ∷ []) []) ≤ cond b 1 0) [ true ↦ omega arith | false ↦ omega arith ]

one-new : (place n : ℕ) (x : Item) → many (is_placed n) (news place x) ≤ cond (place == n) 1 0
one-new place n (Asked id p) = one-request place id n (asking p)
one-new place n (Wrong from reason) = one-request place 0 n Nothing
one-new place n (Performs ep) = one-request place 0 n Nothing
one-new place n (Offers ep) = one-request place 0 n Nothing
one-new place n Unplugs = one-request place 0 n Nothing

packets-more : (x : Item) (xs : List Item) → packets xs ≤ packets (x ∷ xs)
packets-more (Asked id p) xs = omega arith
packets-more (Wrong from reason) xs = omega arith
packets-more (Performs ep) xs = omega arith
packets-more (Offers ep) xs = omega arith
packets-more Unplugs xs = omega arith

packets-new : (n : ℕ) (x : Item) (xs : List Item) → packets (x ∷ xs) ≤ n → (packets xs == n) ≡ true → many (is_placed n) (news (packets xs) x) ≡ 0
packets-new n (Asked id p) xs less same = absurd (let e = eqb-true (packets xs) n same in omega (arith, e, less))
packets-new n (Wrong from reason) xs less same = refl
packets-new n (Performs ep) xs less same = refl
packets-new n (Offers ep) xs less same = refl
packets-new n Unplugs xs less same = refl

-- none that came has a later place
none-later : (n : ℕ) (xs : List Item) → packets xs ≤ n → many (is_placed n) (requests xs) ≡ 0
none-later n [] less = refl
none-later n (x ∷ xs) less =
    let more = packets-more x xs in
    let before = none-later n xs (omega (arith, more, less)) in
    let all = many-new (is_placed n) x xs in
    let one = one-new (packets xs) n x in
    elim (cases_Bool (packets xs == n)) [
      | inl same ↦ let none = packets-new n x xs less same in omega (arith, all, before, none)
      | inr other ↦ let e = ap {B = ℕ} (λ (b : Bool). cond b 1 0) other in omega (arith, all, before, one, e)
    ]

pub placed-once : (xs : List Item) (n : ℕ) → many (is_placed n) (requests xs) ≤ 1
placed-once [] n = omega arith
placed-once (x ∷ xs) n =
    let before = placed-once xs n in
    let all = many-new (is_placed n) x xs in
    let one = one-new (packets xs) n x in
    elim (cases_Bool (packets xs == n)) [
      | inl same ↦
          let e = ap {B = ℕ} (λ (b : Bool). cond b 1 0) same in
          let here = eqb-true (packets xs) n same in
          let none = none-later n xs (omega (arith, here)) in
          omega (arith, all, none, one, e)
      | inr other ↦ let e = ap {B = ℕ} (λ (b : Bool). cond b 1 0) other in omega (arith, all, before, one, e)
    ]

-- ---- with the device

plain-drops-none : (place id : ℕ) (p : RedirControl) (l : List Waiting) → (by_plain place id p l).dropped ≡ []
plain-drops-none place id plain.Cancel l = refl
plain-drops-none place id p l = refl

packet-drops-none : (place id : ℕ) (p : RedirPacket) (l : List Waiting) → (by_packet place id p l).dropped ≡ []
packet-drops-none place id (Plain p) l = plain-drops-none place id p l
packet-drops-none place id (Carrying d) l = refl

outcome-drops-none : (cs : List (Route × EpTable)) (ep : ℕ) (l : List Waiting) (o : Option (ℕ × Outcome)) → (by_outcome cs ep l o).dropped ≡ []
outcome-drops-none cs ep l None = refl
outcome-drops-none cs ep l (Some o) = refl

perform-drops-none : {S : Type 0} (m : Meaning S) (s : S) (ep : ℕ) (l : List Waiting) (o : Option Request) → (by_perform m s ep l o).dropped ≡ []
perform-drops-none m s ep l None = refl
perform-drops-none m s ep l (Some q) = outcome-drops-none (all_changes m s q) ep l (outcome_of m s q)

item-drops-none : {S : Type 0} (m : Meaning S) (h : Host S) (place : ℕ) (x : Item) (xs : List Item) (l : List Waiting) → is_gone (x ∷ xs) ≡ false → (becomes m h false place x l).dropped ≡ []
item-drops-none m h place (Asked id p) xs l there = packet-drops-none place id p l
item-drops-none m h place (Wrong from reason) xs l there = refl
item-drops-none m h place (Performs ep) xs l there = perform-drops-none m h.gadget ep l (find (is_at ep) h.queue)
item-drops-none m h place (Offers ep) xs l there = refl
item-drops-none m h place Unplugs xs l there = absurd cc

there-before : (x : Item) (xs : List Item) → is_gone (x ∷ xs) ≡ false → is_gone xs ≡ false
there-before (Asked id p) xs there = there
there-before (Wrong from reason) xs there = there
there-before (Performs ep) xs there = there
there-before (Offers ep) xs there = there
there-before Unplugs xs there = absurd cc

pub none-dropped : {S : Type 0} (m : Meaning S) (s : S) (xs : List Item) → is_gone xs ≡ false → dropped m s xs ≡ []
none-dropped m s [] there = refl
none-dropped m s (x ∷ xs) there =
    let h = run m s xs in
    let l = line m s xs in
    let before = there-before x xs there in
    (λ i. none-dropped m s xs before i ++ (becomes m h (before i) (packets xs) x l).dropped)
    ∙ item-drops-none m h (packets xs) x xs l there

gone-waits : {S : Type 0} (m : Meaning S) (h : Host S) (place : ℕ) (x : Item) (l : List Waiting) → (becomes m h true place x l).line ≡ l
gone-waits m h place (Asked id p) l = refl
gone-waits m h place (Wrong from reason) l = refl
gone-waits m h place (Performs ep) l = refl
gone-waits m h place (Offers ep) l = refl
gone-waits m h place Unplugs l = refl

goes-now : {S : Type 0} (m : Meaning S) (h : Host S) (place : ℕ) (x : Item) (xs : List Item) (l : List Waiting) → is_gone (x ∷ xs) ≡ true → is_gone xs ≡ false → (becomes m h false place x l).line ≡ []
goes-now m h place (Asked id p) xs l out there = absurd (true≢false (sym out ∙ there))
goes-now m h place (Wrong from reason) xs l out there = absurd (true≢false (sym out ∙ there))
goes-now m h place (Performs ep) xs l out there = absurd (true≢false (sym out ∙ there))
goes-now m h place (Offers ep) xs l out there = absurd (true≢false (sym out ∙ there))
goes-now m h place Unplugs xs l out there = refl

none-in-line : {S : Type 0} (m : Meaning S) (s : S) (xs : List Item) → is_gone xs ≡ true → line m s xs ≡ []
none-in-line m s [] out = refl
none-in-line m s (x ∷ xs) out =
    let h = run m s xs in
    let l = line m s xs in
    elim (cases_Bool (is_gone xs)) [
      | inl before ↦ (λ i. (becomes m h (before i) (packets xs) x l).line) ∙ gone-waits m h (packets xs) x l ∙ none-in-line m s xs before
      | inr there ↦ (λ i. (becomes m h (there i) (packets xs) x l).line) ∙ goes-now m h (packets xs) x xs l out there
    ]

pub none-waiting : {S : Type 0} (m : Meaning S) (s : S) (xs : List Item) → is_gone xs ≡ true → waiting m s xs ≡ []
none-waiting m s xs out = ap waiting_in (none-in-line m s xs out)

-- ---- at most once

pub answered-once : {S : Type 0} (m : Meaning S) (s : S) (xs : List Item) (n : ℕ) → many (is_placed n) (requests_of (answered m s xs)) ≤ 1
answered-once m s xs n =
    let all = all-counted m s xs (is_placed n) in
    let one = placed-once xs n in
    omega (arith, all, one)
