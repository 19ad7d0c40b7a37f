-- For each number, submits and their ends alternate; and each end but the client's leaving sends one answer.
use Rattle.std.specs.Option.{option_or}
use Rattle.std.proofs.Common.{◌≡◌, ℕ, ◌≤◌, ◌||◌, ◌&&◌, ◌==◌, Bool, true, false, cond, not, leb, List, [], ◌∷◌, ◌++◌, length, map, Option, Some, None, refl, sym, ap, subst, ◌∙◌, arith}
use Rattle.std.specs.Prelude.{filter, is_none, is_some, pos}
use Rattle.std.specs.List.{list_any, flat_map}
use Rattle.std.proofs.lemmas.Bool.{eqb-true, false≢true}
use Rattle.std.proofs.lemmas.Grind.{flat_map-append}
use Rattle.std.proofs.lemmas.List.{append-nil, map-append}
use Rattle.std.proofs.lemmas.List.Elements.{filter-append}
use Rattle.usbip_urb.specs.declared.client.ClientPacket.{ClientPacket}
use Rattle.usbip_urb.specs.declared.client.ClientPacket.TheVariants.{Urb}
use Rattle.gate_history.specs.declared.item.Item.{Item}
use Rattle.usb_base.specs.declared.errno.TheConstants.{ECONNRESET}
use Rattle.gate_history.specs.declared.verdict.Verdict.{Verdict}
use Rattle.gate_history.specs.declared.verdict.Verdict.TheVariants.{Wire, Routed}
use Rattle.gate_history.specs.client.Verdict.{goes_by_id, is_wire}
use Rattle.gate_history.specs.host.Fillings.{Transferred, Isochronous}
use Rattle.gate_history.specs.step.Marks.{Submission, Effect, Replies, Imports, Opens, Waits, Unlinks, Mark}
use Rattle.gate_history.specs.client.Submits.{opened, accepted, end_of, is_live, live, ended, asks, unlinker, Pending, pending}
use Rattle.gate_history.specs.client.Ends.{End, ByStatus, Sent, ByClient, ByLoss, ByAnswer, ByUnlink, ByPackets, is_waiting, ends, is_cancelled, answers_at}
use Rattle.gate_history.specs.state.State.{State, state_of, is_number, has_number}
use Rattle.gate_history.specs.step.Meaning.{meaning, mark_of}
use Rattle.gate_history.specs.step.Past.{is_left_out, past}
use Rattle.gate_history.specs.write.Answers.{ret_unlink, with_outcome}
use Rattle.gate_history.specs.write.Output.{present, answered, is_target, is_taken, replies, to_client}
use Rattle.gate_history.specs.write.Notes.{is_by_client}
use Rattle.gate_history.specs.write.All.{all_of}
use Rattle.gate_history.specs.client.Turns.{Turn, Begin, Finish, begins, turns, Alternate, Answer, Completed, Unlinked, answers_in, answered_ends, answer_by, answer_of}
use Rattle.gate_history.proofs.lemmas.Lists.{Each, every, Each-weaker, Each-append, Each-filter, filter-same, filter-twice, filter-map, filter-passes, map-same, map-map, both}
use Rattle.gate_history.proofs.lemmas.step.Steps.{IsWell, submits-is, live-is, Present, present-each, present-is, asked}
use Rattle.gate_history.proofs.lemmas.step.Runs.{well}
use Rattle.gate_history.proofs.lemmas.client.Openings.{opening-meaning}
use Rattle.gate_history.proofs.lemmas.client.Ends.{end-at, ended-is}

-- ---- a number that is accepted isn't live

abbrev IsNew : List Mark → Effect → Type 0
IsNew ms e = Each (λ s. list_any (is_number s.request.seqnum) (live ms) ≡ false) (opened e)

abbrev AreNew : List Mark → Type 0
AreNew [] = Unit {0}
AreNew (m ∷ ms) = IsNew ms m.what × AreNew ms

new-meaning : (first : ℕ) (ms : List Mark) (x : Item) → IsNew ms (meaning (state_of first ms) x)
new-meaning first ms x =
    Each-weaker (λ s. has_number (state_of first ms) s.request.seqnum ≡ false) (λ s. list_any (is_number s.request.seqnum) (live ms) ≡ false)
    (λ s h. ap (list_any (is_number s.request.seqnum)) (sym (submits-is ms (live ms))) ∙ h)
    (opened (meaning (state_of first ms) x)) (opening-meaning (state_of first ms) x).new

new-past : (first : ℕ) (xs : List Item) → AreNew (past first xs)
new-past first [] = tt
new-past first (x ∷ xs) =
    elim (is_left_out (state_of first (past first xs)) x) as (λ b. AreNew (cond b (past first xs) (mark_of (state_of first (past first xs)) x ∷ past first xs)))
    [ true ↦ new-past first xs | false ↦ (new-meaning first (past first xs) x, new-past first xs) ]

-- ---- lists

both-swap : (a b : Bool) → both a b ≡ both b a
both-swap true true = refl
both-swap true false = refl
both-swap false true = refl
both-swap false false = refl

filter-swap : {X : Type 0} (p q : X → Bool) (xs : List X) → filter p (filter q xs) ≡ filter q (filter p xs)
filter-swap p q xs =
    filter-twice p q xs
    ∙ filter-same (λ x. both (q x) (p x)) (λ x. both (p x) (q x)) xs (every (λ x. both (q x) (p x) ≡ both (p x) (q x)) (λ x. both-swap (q x) (p x)) xs)
    ∙ sym (filter-twice q p xs)

abbrev some_in : {X : Type 0} → List X → Bool
some_in [] = false
some_in (x ∷ xs) = true

any-some_in : {X : Type 0} (p : X → Bool) (xs : List X) → list_any p xs ≡ some_in (filter p xs)
any-some_in p [] = refl
any-some_in p (x ∷ xs) =
    let rest = any-some_in p xs in
    elim (p x) as (λ b. (b || list_any p xs) ≡ some_in (cond b (x ∷ filter p xs) (filter p xs))) [ true ↦ refl | false ↦ rest ]

none_of : {X : Type 0} (l : List X) → some_in l ≡ false → l ≡ []
none_of [] e = refl
none_of (x ∷ xs) e = absurd (false≢true (sym e))

-- ---- those of a number

abbrev of : List Mark → ℕ → List Submission
of ms n = filter (is_number n) (live ms)

abbrev pub AtMostOne : List Submission → Type 0
AtMostOne [] = Unit {0}
AtMostOne (s ∷ []) = Unit {0}
AtMostOne (s ∷ t ∷ ss) = ⊥

record Goes (l : List Submission) (ts : List Turn) : Type 0 where
  one : AtMostOne l
  turns : Alternate (some_in l) ts

pub opened-one : (e : Effect) → AtMostOne (opened e)
opened-one (Opens s) = tt
opened-one (Waits s fill) = tt
opened-one _ = tt

-- one more may begin, of this number or another
begun-one : (n : ℕ) (l : List Submission) (ts : List Turn) (s : Submission) (b : Bool) → is_number n s ≡ b → (b ≡ true → l ≡ []) → Goes l ts →
    Goes (l ++ cond b (s ∷ []) []) (map (λ s. Begin) (cond b (s ∷ []) []) ++ ts)
begun-one n l ts s true e free g =
    let empty : l ≡ [] = free refl in
    subst (λ (k : List Submission). Goes (k ++ s ∷ []) (Begin ∷ ts)) (sym empty) (record { one = tt; turns = subst (λ (k : List Submission). Alternate (some_in k) ts) empty g.turns })
begun-one n l ts s false e free g = subst (λ (k : List Submission). Goes k ts) (sym (append-nil l)) g

begun : (ms : List Mark) (n : ℕ) (ts : List Turn) (os : List Submission) → AtMostOne os → Each (λ s. list_any (is_number s.request.seqnum) (live ms) ≡ false) os → Goes (of ms n) ts →
    Goes (of ms n ++ filter (is_number n) os) (map (λ s. Begin) (filter (is_number n) os) ++ ts)
begun ms n ts [] one new g = subst (λ (k : List Submission). Goes k ts) (sym (append-nil (of ms n))) g
begun ms n ts (s ∷ []) one new g =
    begun-one n (of ms n) ts s (is_number n s) refl
    (λ e. none_of (of ms n) (subst (λ (k : ℕ). some_in (of ms k) ≡ false) (eqb-true s.request.seqnum n e) (sym (any-some_in (is_number s.request.seqnum) (live ms)) ∙ new.0))) g
begun ms n ts (s ∷ t ∷ ss) one new g = absurd one

-- and the one that there is may end
finished : (e : Effect) (l : List Submission) (ts : List Turn) → Goes l ts → Goes (filter (λ s. is_none (ends e s)) l) (map (λ s. Finish) (filter (λ s. is_some (ends e s)) l) ++ ts)
finished e [] ts g = g
finished e (s ∷ []) ts g =
    elim (ends e s) as (λ o. Goes (cond (is_none o) (s ∷ []) []) (map (λ s. Finish) (cond (is_some o) (s ∷ []) []) ++ ts))
    [ Some x ↦ record { one = tt; turns = g.turns } | None ↦ g ]
finished e (s ∷ t ∷ ss) ts g = absurd g.one

goes : (ms : List Mark) (n : ℕ) → IsWell ms → AreNew ms → Goes (of ms n) (turns ms n)
goes [] n w new = record { one = tt; turns = tt }
goes (m ∷ ms) n w new =
    subst (λ (l : List Submission). Goes l (map (λ s. Finish) (filter (is_number n) (ended ms m)) ++ before)) (sym (ap (filter (is_number n)) (live-is ms m w) ∙ filter-swap (is_number n) (λ s. is_none (ends m.what s)) both_kinds ∙ ap (filter (λ s. is_none (ends m.what s))) parts))
    (subst (λ (l : List Submission). Goes (filter (λ s. is_none (ends m.what s)) those) (map (λ s. Finish) l ++ before)) (sym (ap (filter (is_number n)) (ended-is ms m w) ∙ filter-swap (is_number n) (λ s. is_some (ends m.what s)) both_kinds ∙ ap (filter (λ s. is_some (ends m.what s))) parts))
    (finished m.what those before (begun ms n (turns ms n) (opened m.what) (opened-one m.what) new.0 (goes ms n w.1 new.1))))
  where
    both_kinds : List Submission
    both_kinds = live ms ++ opened m.what

    those : List Submission
    those = of ms n ++ filter (is_number n) (opened m.what)

    parts : filter (is_number n) both_kinds ≡ those
    parts = filter-append (is_number n) (live ms) (opened m.what)

    before : List Turn
    before = begins m.what n ++ turns ms n

pub alternate : (first : ℕ) (xs : List Item) (n : ℕ) → Alternate (list_any (is_number n) (live (past first xs))) (turns (past first xs) n)
alternate first xs n =
    subst (λ (b : Bool). Alternate b (turns (past first xs) n)) (sym (any-some_in (is_number n) (live (past first xs)))) (goes (past first xs) n (well first xs) (new-past first xs)).turns

few-one : (l : List Submission) → AtMostOne l → length l ≤ 1
few-one [] a = omega arith
few-one (s ∷ []) a = omega arith
few-one (s ∷ t ∷ ss) a = absurd a

pub few-numbered : (first : ℕ) (xs : List Item) (n : ℕ) → length (filter (is_number n) (live (past first xs))) ≤ 1
few-numbered first xs n = few-one (of (past first xs) n) (goes (past first xs) n (well first xs) (new-past first xs)).one

-- ---- answers

abbrev said : List ClientPacket → List Answer
said ps = flat_map answers_in ps

-- an end but the client's leaving
abbrev is_counted : Option End → Bool
is_counted None = false
is_counted (Some (ByStatus status)) = true
is_counted (Some Sent) = true
is_counted (Some ByClient) = false
is_counted (Some ByLoss) = true
is_counted (Some (ByAnswer outcome)) = true
is_counted (Some (ByUnlink by)) = true
is_counted (Some (ByPackets given)) = true

abbrev due : Submission → Option ℕ → Option End → Answer
due s by e = answer_by s by e

one-answer : (s : Submission) (by : Option ℕ) (e : Option End) → said (map Urb (answers_at s by e)) ≡ cond (is_counted e) (due s by e ∷ []) []
one-answer s by None = refl
one-answer s None (Some (ByStatus status)) = refl
one-answer s (Some by) (Some (ByStatus status)) = refl
one-answer s None (Some Sent) = refl
one-answer s (Some by) (Some Sent) = refl
one-answer s by (Some ByClient) = refl
one-answer s None (Some ByLoss) = refl
one-answer s (Some by) (Some ByLoss) = refl
one-answer s None (Some (ByAnswer o)) = refl
one-answer s (Some by) (Some (ByAnswer o)) =
    elim (is_wire s.verdict && is_cancelled o.status) as (λ b. said (map Urb (cond b (ret_unlink by ECONNRESET ∷ []) (with_outcome s.request o ∷ ret_unlink by (pos 0) ∷ []))) ≡ cond b (Unlinked by) (Completed s.request.seqnum) ∷ [])
    [ true ↦ refl | false ↦ refl ]
one-answer s by (Some (ByUnlink other)) = refl
one-answer s None (Some (ByPackets (Transferred o))) = refl
one-answer s (Some by) (Some (ByPackets (Transferred o))) = refl
one-answer s None (Some (ByPackets (Isochronous o))) = refl
one-answer s (Some by) (Some (ByPackets (Isochronous o))) = refl

joined : (e : Effect) (ps : List Pending) → said (map Urb (flat_map (λ p. answers_at p.submit p.unlinker (ends e p.submit)) ps)) ≡ map (λ p. due p.submit p.unlinker (ends e p.submit)) (filter (λ p. is_counted (ends e p.submit)) ps)
joined e [] = refl
joined e (p ∷ ps) =
    let rest = joined e ps in
    let here = one-answer p.submit p.unlinker (ends e p.submit) in
    let parts = ap said (map-append Urb (answers_at p.submit p.unlinker (ends e p.submit)) (flat_map (λ p. answers_at p.submit p.unlinker (ends e p.submit)) ps))
    ∙ flat_map-append answers_in (map Urb (answers_at p.submit p.unlinker (ends e p.submit))) (map Urb (flat_map (λ p. answers_at p.submit p.unlinker (ends e p.submit)) ps)) in
    parts ∙ (λ i. here i ++ rest i)
    ∙ elim (is_counted (ends e p.submit)) as (λ b. cond b (due p.submit p.unlinker (ends e p.submit) ∷ []) [] ++ map (λ p. due p.submit p.unlinker (ends e p.submit)) (filter (λ p. is_counted (ends e p.submit)) ps) ≡ map (λ p. due p.submit p.unlinker (ends e p.submit)) (cond b (p ∷ filter (λ p. is_counted (ends e p.submit)) ps) (filter (λ p. is_counted (ends e p.submit)) ps)))
    [ true ↦ refl | false ↦ refl ]

-- replies answer no submit
silent : (st : State) (e : Effect) → said (replies st e) ≡ []
silent st (Replies reply) = refl
silent st (Imports reply) = refl
silent st (Unlinks by target) = elim (list_any (λ p. is_target target p || is_taken target p) st.live) as (λ b. said (cond b [] (Urb (ret_unlink by (pos 0)) ∷ [])) ≡ []) [ true ↦ refl | false ↦ refl ]
silent st _ = refl

counted-is : (e : Option End) → both (is_some e) (not (is_by_client e)) ≡ is_counted e
counted-is None = refl
counted-is (Some (ByStatus status)) = refl
counted-is (Some Sent) = refl
counted-is (Some ByClient) = refl
counted-is (Some ByLoss) = refl
counted-is (Some (ByAnswer o)) = refl
counted-is (Some (ByUnlink by)) = refl
counted-is (Some (ByPackets given)) = refl

-- ---- the end and the unlinker of a submit that has ended stay

or_else-kept : {A : Type 0} (o x : Option A) → is_none o ≡ false → option_or o x ≡ o
or_else-kept (Some a) x h = refl
or_else-kept None x h = absurd (false≢true (sym h))

or_else-none : {A : Type 0} (o : Option A) → option_or o None ≡ o
or_else-none (Some a) = refl
or_else-none None = refl

never-asked : (b live : Bool) (asked : Option ℕ) → live ≡ false → cond (b && live) asked None ≡ None
never-asked true live asked h = ap (λ (l : Bool). cond l asked None) h
never-asked false live asked h = refl

stays : (ms : List Mark) (m : Mark) (s : Submission) → is_live ms s ≡ false → is_live (m ∷ ms) s ≡ false
stays ms m s h = ap is_none (or_else-kept (end_of ms s) (cond (leb s.place (length ms)) (ends m.what s) None) h) ∙ h

same : (ms : List Mark) (m : Mark) (s : Submission) → is_live ms s ≡ false → answer_of (m ∷ ms) s ≡ answer_of ms s
same ms m s h =
    ap (λ (e : Option End). answer_by s (unlinker (m ∷ ms) s) e) (or_else-kept (end_of ms s) (cond (leb s.place (length ms)) (ends m.what s) None) h)
    ∙ ap (λ (u : Option ℕ). answer_by s u (end_of ms s))
    (ap (option_or (unlinker ms s)) (never-asked (leb s.place (length ms)) (is_live ms s) (asks m.what s) h) ∙ or_else-none (unlinker ms s))

gone : (a b : Bool) → (a && not b) ≡ true → b ≡ false
gone a true h = elim a as (λ a. (a && not true) ≡ true → true ≡ false) [ true ↦ λ h. absurd (false≢true h) | false ↦ λ h. absurd (false≢true h) ] h
gone a false h = refl

have-ended : (ms : List Mark) → Each (λ s. is_live ms s ≡ false) (answered_ends ms)
have-ended [] = tt
have-ended (m ∷ ms) =
    Each-append (λ s. is_live (m ∷ ms) s ≡ false) (answered_ends ms) (filter (λ s. not (is_by_client (end_of (m ∷ ms) s))) (ended ms m))
    (Each-weaker (λ s. is_live ms s ≡ false) (λ s. is_live (m ∷ ms) s ≡ false) (stays ms m) (answered_ends ms) (have-ended ms))
    (Each-filter (λ s. is_live (m ∷ ms) s ≡ false) (λ s. not (is_by_client (end_of (m ∷ ms) s))) (ended ms m)
    (Each-weaker (λ s. (is_live ms s && not (is_live (m ∷ ms) s)) ≡ true) (λ s. is_live (m ∷ ms) s ≡ false) (λ s. gone (is_live ms s) (is_live (m ∷ ms) s)) (ended ms m)
    (filter-passes (λ s. is_live ms s && not (is_live (m ∷ ms) s)) (accepted (m ∷ ms)))))

-- ---- of those that end at an item

-- what asks a submit back doesn't end it, and what takes it back doesn't ask for it
unasked : (e : Effect) (s : Submission) → is_counted (ends e s) ≡ true → asks e s ≡ None
unasked (Unlinks by target) s h = of s.verdict (s.request.seqnum == target) h
  where
    of : (v : Verdict) (b : Bool) → is_counted (cond (is_waiting v && b) (Some (ByUnlink by)) None) ≡ true → cond (goes_by_id v && b) (Some by) None ≡ None
    of (Wire pipe) b h = absurd (false≢true h)
    of (Routed r) b h = absurd (false≢true h)
    of _ b h = refl
unasked _ s h = refl

due-is : (ms : List Mark) (m : Mark) (s : Submission) → Present ms s → is_counted (ends m.what s) ≡ true → due s (unlinker ms s) (ends m.what s) ≡ answer_of (m ∷ ms) s
due-is ms m s p h =
    ap (λ (e : Option End). due s (unlinker ms s) e) (sym (end-at ms m s p))
    ∙ ap (λ (u : Option ℕ). due s u (end_of (m ∷ ms) s))
    (sym (ap (λ (q : Pending). q.unlinker) (asked ms m s p) ∙ ap (option_or (unlinker ms s)) (unasked m.what s h) ∙ or_else-none (unlinker ms s)))

kept-each : (P : Submission → Type 0) (p : Submission → Bool) (s : Submission) (ss : List Submission) (b : Bool) → p s ≡ b → (p s ≡ true → P s) → Each P ss → Each P (cond b (s ∷ ss) ss)
kept-each P p s ss true e here rest = (here e, rest)
kept-each P p s ss false e here rest = rest

due-each : (ms : List Mark) (m : Mark) (ss : List Submission) → Each (Present ms) ss → Each (λ s. due s (unlinker ms s) (ends m.what s) ≡ answer_of (m ∷ ms) s) (filter (λ s. is_counted (ends m.what s)) ss)
due-each ms m [] p = tt
due-each ms m (s ∷ ss) p =
    kept-each (λ s. due s (unlinker ms s) (ends m.what s) ≡ answer_of (m ∷ ms) s) (λ s. is_counted (ends m.what s)) s (filter (λ s. is_counted (ends m.what s)) ss) (is_counted (ends m.what s)) refl
    (due-is ms m s p.0) (due-each ms m ss p.1)

one-each : (first : ℕ) (ms : List Mark) (m : Mark) → IsWell (m ∷ ms) → said (to_client (state_of first ms) m) ≡ map (answer_of (m ∷ ms)) (filter (λ s. not (is_by_client (end_of (m ∷ ms) s))) (ended ms m))
one-each first ms m w =
    flat_map-append answers_in (replies (state_of first ms) m.what) (answered (state_of first ms) m.what)
    ∙ ap (λ (l : List Answer). l ++ said (answered (state_of first ms) m.what)) (silent (state_of first ms) m.what)
    ∙ joined m.what (present (state_of first ms) m.what)
    ∙ ap (λ (l : List Pending). map (λ p. due p.submit p.unlinker (ends m.what p.submit)) (filter (λ p. is_counted (ends m.what p.submit)) l)) (present-is first ms m.what w.0)
    ∙ ap (map (λ p. due p.submit p.unlinker (ends m.what p.submit))) (filter-map (λ p. is_counted (ends m.what p.submit)) (pending ms) those)
    ∙ map-map (λ p. due p.submit p.unlinker (ends m.what p.submit)) (pending ms) (filter (λ s. is_counted (ends m.what s)) those)
    ∙ map-same (λ s. due s (unlinker ms s) (ends m.what s)) (answer_of (m ∷ ms)) (filter (λ s. is_counted (ends m.what s)) those) (due-each ms m those (present-each ms m.what w.1 w.0))
    ∙ ap (map (answer_of (m ∷ ms))) (sym (
    ap (filter (λ s. not (is_by_client (end_of (m ∷ ms) s)))) (ended-is ms m w)
    ∙ filter-twice (λ s. not (is_by_client (end_of (m ∷ ms) s))) (λ s. is_some (ends m.what s)) those
    ∙ filter-same (λ s. both (is_some (ends m.what s)) (not (is_by_client (end_of (m ∷ ms) s)))) (λ s. is_counted (ends m.what s)) those
    (Each-weaker (Present ms) (λ s. both (is_some (ends m.what s)) (not (is_by_client (end_of (m ∷ ms) s))) ≡ is_counted (ends m.what s))
    (λ s p. ap (λ (e : Option End). both (is_some (ends m.what s)) (not (is_by_client e))) (end-at ms m s p) ∙ counted-is (ends m.what s))
    those (present-each ms m.what w.1 w.0))))
  where
    those : List Submission
    those = live ms ++ opened m.what

due-stays : (ms : List Mark) (m : Mark) → map (answer_of ms) (answered_ends ms) ≡ map (answer_of (m ∷ ms)) (answered_ends ms)
due-stays ms m =
    sym (map-same (answer_of (m ∷ ms)) (answer_of ms) (answered_ends ms)
    (Each-weaker (λ s. is_live ms s ≡ false) (λ s. answer_of (m ∷ ms) s ≡ answer_of ms s) (same ms m) (answered_ends ms) (have-ended ms)))

pub answers-ends : (first : ℕ) (ms : List Mark) → IsWell ms → said (all_of to_client first ms) ≡ map (answer_of ms) (answered_ends ms)
answers-ends first [] w = refl
answers-ends first (m ∷ ms) w =
    flat_map-append answers_in (all_of to_client first ms) (to_client (state_of first ms) m)
    ∙ (λ i. (answers-ends first ms w.1 ∙ due-stays ms m) i ++ one-each first ms m w i)
    ∙ sym (map-append (answer_of (m ∷ ms)) (answered_ends ms) (filter (λ s. not (is_by_client (end_of (m ∷ ms) s))) (ended ms m)))
