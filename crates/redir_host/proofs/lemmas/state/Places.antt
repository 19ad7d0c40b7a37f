-- The lists of all queues, by their places.
use Rattle.std.proofs.Common.{◌≡◌, ◌<◌, ◌≤◌, ◌+◌, ℕ, Bool, true, false, cond, get_or, set, length, List, [], ◌∷◌, ◌++◌, Some, refl, sym, ap, ◌∙◌, arith, inl, inr}
use Rattle.std.specs.Map.{lookup, remove_entry}
use Rattle.std.proofs.lemmas.Bool.{cases_Bool, cases_eq, cases_lt, eqb-true, eq-eqb}
use Rattle.std.proofs.lemmas.List.{get_or_default, get_or_past, get_or-set_other, get_or-set_same}
use Rattle.std.proofs.lemmas.List.Elements.{filter-append, filter_agree}
use Rattle.slab.specs.Slab.{Slab, get}
use Rattle.usb_base.specs.Endpoint.{IsEndpoint, endpoint_index}
use Rattle.redir_host.specs.declared.state.request.Request.{Request}
use Rattle.redir_host.specs.inner.Waiting.{if_there, is_key_of, keys_at, place_of}
use Rattle.redir_host.specs.state.Queues.{is_at, queue_of}
use Rattle.redir_host.proofs.lemmas.state.Keyed.{Same, same_keys}
use Rattle.redir_host.proofs.lemmas.state.Numbered.{at}
use Rattle.redir_host.proofs.lemmas.state.Queued.{kept_other, place_tells}

abbrev pub Queues : List (List (ℕ × ℕ)) → Slab Request → List (ℕ × ℕ) → Type 0
Queues qs s es = (ep : ℕ) → IsEndpoint ep → get_or qs (place_of ep) [] ≡ keys_at ep s es

pub no_keys : (qs : List (List (ℕ × ℕ))) (n : ℕ) → length qs ≡ n → ((i : ℕ) → i < n → get_or qs i [] ≡ []) → (i : ℕ) → get_or qs i [] ≡ []
no_keys qs n long none i = elim (cases_lt i n) [ inl within ↦ none i within | inr past ↦ get_or_past qs i [] (rw long past) ]

-- one of them, as it is read
pub queue_read : (qs : List (List (ℕ × ℕ))) (s : Slab Request) (es : List (ℕ × ℕ)) (ep place : ℕ) (x : List (ℕ × ℕ)) → Queues qs s es → IsEndpoint ep → place ≡ place_of ep → place < length qs → get_or qs place x ≡ keys_at ep s es
queue_read qs s es ep place x queues is same within = get_or_default qs place x [] within ∙ ap (λ i. get_or qs i []) same ∙ queues ep is

at_place : (ep : ℕ) (q : Request) → IsEndpoint ep → IsEndpoint q.transfer.ep → place_of q.transfer.ep ≡ place_of ep → is_at ep q ≡ true
at_place ep q is own same = eq-eqb (queue_of q.transfer.ep) (queue_of ep) (place_tells q.transfer.ep ep own is same)

not_at_place : (ep : ℕ) (q : Request) → (place_of ep ≡ place_of q.transfer.ep → ⊥) → is_at ep q ≡ false
not_at_place ep q differ = elim (cases_Bool (is_at ep q)) [ inl same ↦ absurd (differ (sym (ap endpoint_index (eqb-true (queue_of q.transfer.ep) (queue_of ep) same)))) | inr other ↦ other ]

pub queues_put : (qs : List (List (ℕ × ℕ))) (s t : Slab Request) (es : List (ℕ × ℕ)) (n key place : ℕ) (q : Request) (x : List (ℕ × ℕ)) → Queues qs s es → Same s t es → get t key ≡ Some q → IsEndpoint q.transfer.ep →
    place ≡ place_of q.transfer.ep → place < length qs → x ≡ get_or qs place [] ++ (n, key) ∷ [] → Queues (set qs place x) t (es ++ (n, key) ∷ [])
queues_put qs s t es n key place q x queues same has own at_q within put ep is =
    let rest : keys_at ep t (es ++ (n, key) ∷ []) ≡ keys_at ep s es ++ cond (is_at ep q) ((n, key) ∷ []) [] =
    filter-append (is_key_of (is_at ep) t) es ((n, key) ∷ []) ∙ (λ i. same_keys (is_at ep) s t es same i ++ cond (if_there (is_at ep) (has i)) ((n, key) ∷ []) []) in
    elim (cases_eq (place_of ep) place) [
      | inl here ↦
          ap (λ i. get_or (set qs place x) i []) here ∙ get_or-set_same qs place x [] within ∙ put ∙ ap (λ i. get_or qs i [] ++ (n, key) ∷ []) (sym here) ∙ ap (λ ys. ys ++ (n, key) ∷ []) (queues ep is)
          ∙ sym (rest ∙ ap (λ (b : Bool). keys_at ep s es ++ cond b ((n, key) ∷ []) []) (at_place ep q is own (sym at_q ∙ sym here)))
      | inr other ↦
          get_or-set_other qs place (place_of ep) x [] other ∙ queues ep is
          ∙ sym (rest ∙ ap (λ (b : Bool). keys_at ep s es ++ cond b ((n, key) ∷ []) []) (not_at_place ep q (λ e. other (e ∙ sym at_q))) ∙ none (keys_at ep s es))
    ]
  where
    none : (ys : List (ℕ × ℕ)) → ys ++ [] ≡ ys
    none [] = refl
    none (y ∷ ys) = ap (λ l. y ∷ l) (none ys)

pub queues_taken : (qs : List (List (ℕ × ℕ))) (s t : Slab Request) (es : List (ℕ × ℕ)) (n key place : ℕ) (q : Request) (x : List (ℕ × ℕ)) → Queues qs s es → Same s t (remove_entry (at n) es) → lookup (at n) es ≡ Some key → get s key ≡ Some q →
    place ≡ place_of q.transfer.ep → place < length qs → ((ep : ℕ) → IsEndpoint ep → place ≡ place_of ep → x ≡ keys_at ep s (remove_entry (at n) es)) → Queues (set qs place x) t (remove_entry (at n) es)
queues_taken qs s t es n key place q x queues same there has at_q within left ep is = elim (cases_eq (place_of ep) place) [
  | inl here ↦ ap (λ i. get_or (set qs place x) i []) here ∙ get_or-set_same qs place x [] within ∙ left ep is (sym here) ∙ sym (same_keys (is_at ep) s t (remove_entry (at n) es) same)
  | inr other ↦
      get_or-set_other qs place (place_of ep) x [] other ∙ queues ep is
      ∙ sym (kept_other (is_key_of (is_at ep) s) n key es there (ap (if_there (is_at ep)) has ∙ not_at_place ep q (λ e. other (e ∙ sym at_q))))
      ∙ sym (same_keys (is_at ep) s t (remove_entry (at n) es) same)
]

-- where the requests change, but not their endpoints
pub queues_kept : (qs : List (List (ℕ × ℕ))) (s t : Slab Request) (es : List (ℕ × ℕ)) → Queues qs s es → ((ep k : ℕ) → if_there (is_at ep) (get t k) ≡ if_there (is_at ep) (get s k)) → Queues qs t es
queues_kept qs s t es queues same ep is = queues ep is ∙ sym (filter_agree (is_key_of (is_at ep) t) (is_key_of (is_at ep) s) (λ e. same ep e.1) es)

-- ---- one after another

-- those below a place are changed
abbrev pub Upto : (List (ℕ × ℕ) → List (ℕ × ℕ)) → ℕ → List (List (ℕ × ℕ)) → List (List (ℕ × ℕ)) → Type 0
Upto f n old new = ((i : ℕ) → i < n → get_or new i [] ≡ f (get_or old i [])) × ((i : ℕ) → n ≤ i → get_or new i [] ≡ get_or old i [])

pub upto_next : (f : List (ℕ × ℕ) → List (ℕ × ℕ)) (n : ℕ) (old new : List (List (ℕ × ℕ))) (x : List (ℕ × ℕ)) → n < length new → x ≡ f (get_or new n []) → Upto f n old new → Upto f (n + 1) old (set new n x)
upto_next f n old new x within is upto = (
  λ i less. elim (cases_eq i n) [
    | inl same ↦ ap (λ j. get_or (set new n x) j []) same ∙ get_or-set_same new n x [] within ∙ is ∙ ap f (upto.1 n (omega arith)) ∙ ap (λ j. f (get_or old j [])) (sym same)
    | inr other ↦ get_or-set_other new n i x [] other ∙ upto.0 i (omega (arith, less, other))
  ],
  λ i from. get_or-set_other new n i x [] (λ same. omega (arith, from, same)) ∙ upto.1 i (omega (arith, from)),
)

pub upto_all : (f : List (ℕ × ℕ) → List (ℕ × ℕ)) (n : ℕ) (old new : List (List (ℕ × ℕ))) → length new ≤ n → f [] ≡ [] → Upto f n old new → (i : ℕ) → get_or new i [] ≡ f (get_or old i [])
upto_all f n old new long none upto i = elim (cases_lt i n) [
  | inl within ↦ upto.0 i within
  | inr past ↦ let empty = get_or_past new i [] (omega (arith, long, past)) in empty ∙ sym (ap f (sym (upto.1 i past) ∙ empty) ∙ none)
]
