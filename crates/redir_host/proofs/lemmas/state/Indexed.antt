-- That requests stay as they are kept, as one comes or goes.
use Rattle.std.proofs.Common.{◌≡◌, ◌<◌, ◌+◌, ◌^◌, ◌∙◌, ℕ, Bool, cond, get_or, length-set, set, List, [], ◌∷◌, ◌++◌, append_assoc, Some, None, true, false, refl, sym, ap, subst, arith, is_some, inl, inr}
use Rattle.std.specs.Prelude.{nat_le}
use Rattle.std.specs.BTreeMap.{BTreeMap, IsOrdered, insert_entry}
use Rattle.std.specs.List.{find, slice_get}
use Rattle.std.specs.Map.{lookup, remove_entry, values_of}
use Rattle.std.specs.List.Sorted.{IsStrictlySortedBy}
use Rattle.std.specs.Ordering.{nat_cmp}
use Rattle.std.proofs.lemmas.List.{set-get_or}
use Rattle.std.proofs.lemmas.Bool.{cases_eq}
use Rattle.slab.specs.Slab.{Slab, get, Updates}
use Rattle.usb_base.proofs.Firsts.{first_passing}
use Rattle.usb_base.specs.Endpoint.{IsEndpoint}
use Rattle.usb_base.specs.declared.endpoint.TheConstants.{ENDPOINTS}
use Rattle.redir_host.specs.declared.state.request.Request.{Request}
use Rattle.redir_host.specs.declared.state.waiting.Waiting.{Waiting}
use Rattle.redir_host.specs.inner.Requests.{requests_of, under}
use Rattle.redir_host.specs.inner.Waiting.{Differ, IsIndexed, if_there, is_from, is_key_of, is_listed, keys_at, numbered, place_of}
use Rattle.redir_host.specs.state.Queues.{is_at, marked}
use Rattle.redir_host.proofs.lemmas.state.Keyed.{Held, Same, differ_put, differ_removed, each_removed, is_entry_of, numbers_same, requests_put, requests_removed, same_held, same_keys, same_requests, same_without, without_new, without_taken}
use Rattle.redir_host.proofs.lemmas.state.Each.{each_appended}
use Rattle.redir_host.proofs.lemmas.state.Numbered.{Below, Sorted, all_below, apart, at, below_removed, inserted, removed_here}
use Rattle.redir_host.proofs.lemmas.state.Listed.{listed_front, listed_last, listed_taken}
use Rattle.redir_host.proofs.lemmas.state.Places.{queue_read, queues_kept, queues_put, queues_taken}
use Rattle.redir_host.proofs.lemmas.state.Queued.{found_from}

-- in order they stand with their requests, too
pub sorted : (w : Waiting) → IsIndexed w → Sorted (numbered w)
sorted w i = subst (IsStrictlySortedBy nat_cmp) (sym (numbers_same w.requests w.order.entries i.held)) i.ordered

-- an endpoint's queue, and its first key
pub queue_at : (w : Waiting) (ep place : ℕ) (x : List (ℕ × ℕ)) → IsIndexed w → IsEndpoint ep → place ≡ place_of ep → place < ENDPOINTS → get_or w.queues place x ≡ keys_at ep w.requests w.order.entries
queue_at w ep place x i is same within = queue_read w.queues w.requests w.order.entries ep place x i.queues is same (omega (arith, within, i.places))

pub first_at : (w : Waiting) (ep place : ℕ) (x : List (ℕ × ℕ)) → IsIndexed w → IsEndpoint ep → place ≡ place_of ep → place < ENDPOINTS → slice_get (get_or w.queues place x) 0 ≡ find (is_key_of (is_at ep) w.requests) w.order.entries
first_at w ep place x i is same within = ap (λ l. slice_get l 0) (queue_at w ep place x i is same within) ∙ first_passing (is_key_of (is_at ep) w.requests) w.order.entries

-- and the first of endpoint 0's from a number on
pub from_at : (w : Waiting) (number : ℕ) (x : List (ℕ × ℕ)) → IsIndexed w → find (λ (e : ℕ × ℕ). nat_le number e.0) (get_or w.queues 0 x) ≡ find (is_entry_of (is_from 0 number) w.requests) w.order.entries
from_at w number x i = ap (find (λ (e : ℕ × ℕ). nat_le number e.0)) (queue_at w 0 0 x i (omega arith) refl (omega arith)) ∙ found_from number w.requests w.order.entries

-- ---- one less

same_taken : (w : Waiting) (t : Slab Request) (n key : ℕ) → IsIndexed w → lookup (at n) w.order.entries ≡ Some key → Updates w.requests t key None → Same w.requests t (remove_entry (at n) w.order.entries)
same_taken w t n key i there updates = same_without w.requests t key None (remove_entry (at n) w.order.entries) updates (without_taken n key w.order.entries i.differ there)

pub numbered_taken : (w : Waiting) (t : Slab Request) (es : List (ℕ × ℕ)) (n key : ℕ) → IsIndexed w → lookup (at n) w.order.entries ≡ Some key → Updates w.requests t key None → es ≡ remove_entry (at n) w.order.entries → requests_of t es ≡ remove_entry (at n) (numbered w)
numbered_taken w t es n key i there updates rest =
    ap (requests_of t) rest ∙ same_requests w.requests t (remove_entry (at n) w.order.entries) (same_taken w t n key i there updates) ∙ requests_removed w.requests (at n) w.order.entries i.held

pub indexed_taken : (w : Waiting) (t : Slab Request) (order : BTreeMap ℕ ℕ) (n key place : ℕ) (q : Request) (x : List (ℕ × ℕ)) → IsIndexed w → lookup (at n) w.order.entries ≡ Some key → Updates w.requests t key None →
    IsOrdered nat_cmp order → order.entries ≡ remove_entry (at n) w.order.entries → get w.requests key ≡ Some q → place ≡ place_of q.transfer.ep → place < ENDPOINTS →
    ((ep : ℕ) → IsEndpoint ep → place ≡ place_of ep → x ≡ keys_at ep w.requests (remove_entry (at n) w.order.entries)) → IsIndexed (record w { requests = t; order = order; queues = set w.queues place x })
indexed_taken w t order n key place q x i there updates ordered rest has at_q within left =
    let es = w.order.entries in
    let same = same_taken w t n key i there updates in
    let back = sym rest in
    record {
      ordered = ordered;
      below = subst (Below w.next) back (below_removed (at n) w.next es i.below);
      room = i.room;
      differ = subst Differ back (differ_removed (at n) es i.differ);
      held = subst (Held t) back (same_held w.requests t (remove_entry (at n) es) same (each_removed (λ e. is_some (get w.requests e.1) ≡ true) (at n) es i.held));
      only = λ k is. elim (cases_eq k key) [
        | inl same ↦ let no : false ≡ true = sym (ap is_some (ap (get t) same ∙ updates.changed)) ∙ is in absurd cc
        | inr other ↦ subst (λ fs. is_listed k fs ≡ true) back (listed_taken n key k es there (λ same. other (sym same)) (i.only k (sym (ap is_some (updates.others k other)) ∙ is)))
      ];
      places = length-set w.queues place x ∙ i.places;
      queues = λ ep is. queues_taken w.queues w.requests t es n key place q x i.queues same there has at_q (omega (arith, within, i.places)) left ep is ∙ ap (keys_at ep t) back;
    }

-- ---- one more

same_put : (w : Waiting) (s t : Slab Request) (key : ℕ) (q : Request) (es : List (ℕ × ℕ)) → ((k : ℕ) → get s k ≡ get w.requests k) → get s key ≡ None → Updates s t key (Some q) → Held w.requests es → Same w.requests t es
same_put w s t key q [] kept vacant updates held = tt
same_put w s t key q (e ∷ es) kept vacant updates held =
    (updates.others e.1 (without_new w.requests key (e ∷ []) (sym (kept key) ∙ vacant) (held.0, tt)).0 ∙ kept e.1, same_put w s t key q es kept vacant updates held.1)

pub numbered_put : (w : Waiting) (s t : Slab Request) (es : List (ℕ × ℕ)) (key : ℕ) (q : Request) → IsIndexed w → ((k : ℕ) → get s k ≡ get w.requests k) → get s key ≡ None → Updates s t key (Some q) →
    es ≡ insert_entry nat_cmp w.order.entries w.next key → requests_of t es ≡ numbered w ++ (w.next, q) ∷ []
numbered_put w s t es key q i kept vacant updates put =
    ap (requests_of t) (put ∙ inserted w.order.entries w.next key i.below) ∙ requests_put t w.order.entries w.next key q updates.changed
    ∙ ap (λ qs. qs ++ (w.next, q) ∷ []) (same_requests w.requests t w.order.entries (same_put w s t key q w.order.entries kept vacant updates i.held))

pub indexed_put : (w : Waiting) (s t : Slab Request) (order : BTreeMap ℕ ℕ) (key place : ℕ) (q : Request) (x : List (ℕ × ℕ)) → IsIndexed w → ((k : ℕ) → get s k ≡ get w.requests k) → get s key ≡ None → Updates s t key (Some q) →
    IsOrdered nat_cmp order → order.entries ≡ insert_entry nat_cmp w.order.entries w.next key → IsEndpoint q.transfer.ep → place ≡ place_of q.transfer.ep → place < ENDPOINTS → w.next + 1 < 2 ^ 64 →
    x ≡ get_or w.queues place [] ++ (w.next, key) ∷ [] → IsIndexed (record { requests = t; order = order; queues = set w.queues place x; next = w.next + 1 })
indexed_put w s t order key place q x i kept vacant updates ordered put is at_q within room behind =
    let es = w.order.entries in
    let same = same_put w s t key q es kept vacant updates i.held in
    let back = sym (put ∙ inserted es w.next key i.below) in
    let own : is_some (get t key) ≡ true = ap is_some updates.changed in
    record {
      ordered = ordered;
      below = subst (Below (w.next + 1)) back (all_below es w.next key i.below);
      room = room;
      differ = subst Differ back (differ_put es w.next key i.differ (without_new w.requests key es (sym (kept key) ∙ vacant) i.held));
      held = subst (Held t) back (each_appended (λ (e : ℕ × ℕ). is_some (get t e.1) ≡ true) es (w.next, key) (same_held w.requests t es same i.held) own);
      only = λ k is. subst (λ fs. is_listed k fs ≡ true) back (elim (cases_eq k key) [
        | inl same ↦ ap (λ m. is_listed m (es ++ (w.next, key) ∷ [])) same ∙ listed_last w.next key es
        | inr other ↦ listed_front k es ((w.next, key) ∷ []) (i.only k (sym (ap is_some (updates.others k other ∙ kept k)) ∙ is))
      ]);
      places = length-set w.queues place x ∙ i.places;
      queues = λ ep at. queues_put w.queues w.requests t es w.next key place q x i.queues same updates.changed is at_q (omega (arith, within, i.places)) behind ep at ∙ ap (keys_at ep t) back;
    }

same_all : (s t : Slab Request) (es : List (ℕ × ℕ)) → ((k : ℕ) → get t k ≡ get s k) → Same s t es
same_all s t [] kept = tt
same_all s t (e ∷ es) kept = (kept e.1, same_all s t es kept)

put_back : (n key : ℕ) (es : List (ℕ × ℕ)) → Below n es → remove_entry (at n) (es ++ (n, key) ∷ []) ≡ es
put_back n key [] below = removed_here (n, key) []
put_back n key (e ∷ es) below = ap (λ (b : Bool). cond b (es ++ (n, key) ∷ []) (e ∷ remove_entry (at n) (es ++ (n, key) ∷ []))) (apart n e.0 (λ same. omega (arith, below.0, same))) ∙ ap (λ ys. e ∷ ys) (put_back n key es below.1)

-- where its number was put in, and taken out again
entries_back : (w : Waiting) (put order : BTreeMap ℕ ℕ) (key : ℕ) → IsIndexed w → put.entries ≡ insert_entry nat_cmp w.order.entries w.next key → order.entries ≡ remove_entry (at w.next) put.entries → order.entries ≡ w.order.entries
entries_back w put order key i there out = out ∙ ap (remove_entry (at w.next)) (there ∙ inserted w.order.entries w.next key i.below) ∙ put_back w.next key w.order.entries i.below

pub numbered_back : (w : Waiting) (t : Slab Request) (put order : BTreeMap ℕ ℕ) (key : ℕ) → IsIndexed w → ((k : ℕ) → get t k ≡ get w.requests k) → put.entries ≡ insert_entry nat_cmp w.order.entries w.next key →
    order.entries ≡ remove_entry (at w.next) put.entries → requests_of t order.entries ≡ numbered w
numbered_back w t put order key i kept there out = ap (requests_of t) (entries_back w put order key i there out) ∙ same_requests w.requests t w.order.entries (same_all w.requests t w.order.entries kept)

pub indexed_back : (w : Waiting) (t : Slab Request) (put order : BTreeMap ℕ ℕ) (key place : ℕ) (x : List (ℕ × ℕ)) → IsIndexed w → ((k : ℕ) → get t k ≡ get w.requests k) → put.entries ≡ insert_entry nat_cmp w.order.entries w.next key →
    IsOrdered nat_cmp order → order.entries ≡ remove_entry (at w.next) put.entries → x ≡ get_or w.queues place [] → IsIndexed (record w { requests = t; order = order; queues = set w.queues place x })
indexed_back w t put order key place x i kept there ordered out stands =
    let es = w.order.entries in
    let back = sym (entries_back w put order key i there out) in
    let same = same_all w.requests t es kept in
    let queues : set w.queues place x ≡ w.queues = ap (set w.queues place) stands ∙ set-get_or w.queues place [] in
    record {
      ordered = ordered;
      below = subst (Below w.next) back i.below;
      room = i.room;
      differ = subst Differ back i.differ;
      held = subst (Held t) back (same_held w.requests t es same i.held);
      only = λ k is. subst (λ fs. is_listed k fs ≡ true) back (i.only k (sym (ap is_some (kept k)) ∙ is));
      places = length-set w.queues place x ∙ i.places;
      queues = λ ep at. ap (λ qs. get_or qs (place_of ep) []) queues ∙ i.queues ep at ∙ sym (same_keys (is_at ep) w.requests t es same) ∙ ap (keys_at ep t) back;
    }

-- ---- one that is marked

held_kept : (s t : Slab Request) (key : ℕ) (r : Request) (es : List (ℕ × ℕ)) → Updates s t key (Some r) → Held s es → Held t es
held_kept s t key r [] updates held = tt
held_kept s t key r (e ∷ es) updates held =
    ((elim (cases_eq e.1 key) [ inl same ↦ ap is_some (ap (get t) same ∙ updates.changed) | inr other ↦ ap is_some (updates.others e.1 other) ∙ held.0 ]), held_kept s t key r es updates held.1)

pub indexed_marked : (w : Waiting) (t : Slab Request) (key : ℕ) (r : Request) → IsIndexed w → get w.requests key ≡ Some r → Updates w.requests t key (Some (marked r)) → IsIndexed (record w { requests = t })
indexed_marked w t key r i has updates = record {
  ordered = i.ordered;
  below = i.below;
  room = i.room;
  differ = i.differ;
  held = held_kept w.requests t key (marked r) w.order.entries updates i.held;
  only = λ k is. i.only k (elim (cases_eq k key) [ inl same ↦ ap is_some (ap (get w.requests) same ∙ has) | inr other ↦ sym (ap is_some (updates.others k other)) ∙ is ]);
  places = i.places;
  queues = queues_kept w.queues w.requests t w.order.entries i.queues (λ ep k. elim (cases_eq k key) [
    | inl same ↦ ap (if_there (is_at ep)) (ap (get t) same ∙ updates.changed) ∙ sym (ap (if_there (is_at ep)) (ap (get w.requests) same ∙ has))
    | inr other ↦ ap (if_there (is_at ep)) (updates.others k other)
  ]);
}

-- ---- all, one after another

pub values_appended : (xs ys : List (ℕ × Request)) → values_of (xs ++ ys) ≡ values_of xs ++ values_of ys
values_appended [] ys = refl
values_appended (x ∷ xs) ys = ap (λ l. x.1 ∷ l) (values_appended xs ys)

pub others_held : (s t : Slab Request) (e : ℕ × ℕ) (es : List (ℕ × ℕ)) → Held s (e ∷ es) → Differ (e ∷ es) → Updates s t e.1 None → Held t es
others_held s t e es held differ updates = same_held s t es (same_without s t e.1 None es updates differ.0) held.1

pub first_moves : (s t : Slab Request) (e : ℕ × ℕ) (es : List (ℕ × ℕ)) (q : Request) (xs : List Request) → Differ (e ∷ es) → get s e.1 ≡ Some q → Updates s t e.1 None →
    (xs ++ q ∷ []) ++ values_of (requests_of t es) ≡ xs ++ values_of (requests_of s (e ∷ es))
first_moves s t e es q xs differ has updates =
    append_assoc xs (q ∷ []) (values_of (requests_of t es))
    ∙ (λ i. xs ++ q ∷ values_of (same_requests s t es (same_without s t e.1 None es updates differ.0) i))
    ∙ ap (λ o. xs ++ values_of (under e.0 o (requests_of s es))) (sym has)
