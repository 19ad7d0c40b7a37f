-- How a host keeps its requests: in a slab, their keys under numbers that rise in order of arrival, and beside them the
-- keys of each queue.
use Rattle.std.specs.Prelude.{◌≡◌, ◌==◌, ◌&&◌, ◌<◌, ◌^◌, ℕ, Bool, true, false, nat_le, if◌then◌else◌, List, [], ◌∷◌, Option, Some, None, filter, length, slice_index_or}
use Rattle.std.specs.BTreeMap.{IsOrdered}
use Rattle.std.specs.List.{AllByRecursion, list_any}
use Rattle.std.specs.Ordering.{nat_cmp}
use Rattle.slab.specs.Slab.{Slab, get, ContainsKey}
use Rattle.usb_base.specs.Endpoint.{IsEndpoint, endpoint_index}
use Rattle.usb_base.specs.declared.endpoint.TheConstants.{ENDPOINTS}
use Rattle.redir_host.specs.declared.state.request.Request.{Request}
use Rattle.redir_host.specs.declared.state.waiting.Waiting.{Waiting}
use Rattle.redir_host.specs.inner.Requests.{requests_of}
use Rattle.redir_host.specs.state.Queues.{queue_of, is_at, marked}

abbrev pub numbered : Waiting → List (ℕ × Request)
numbered w = requests_of w.requests w.order.entries

-- ---- keys, by their requests

abbrev pub if_there : (Request → Bool) → Option Request → Bool
if_there test None = false
if_there test (Some q) = test q

abbrev pub is_key_of : (Request → Bool) → Slab Request → ℕ × ℕ → Bool
is_key_of test slab e = if_there test (get slab e.1)

abbrev pub keys_at : ℕ → Slab Request → List (ℕ × ℕ) → List (ℕ × ℕ)
keys_at ep slab es = filter (is_key_of (is_at ep) slab) es

-- the place of an endpoint's queue
abbrev pub place_of : ℕ → ℕ
place_of ep = endpoint_index (queue_of ep)

-- no key comes twice
abbrev pub Differ : List (ℕ × ℕ) → Type 0
Differ [] = Unit {0}
Differ (e ∷ es) = AllByRecursion (λ (x : ℕ × ℕ). x.1 ≡ e.1 → ⊥) es × Differ es

abbrev pub is_listed : ℕ → List (ℕ × ℕ) → Bool
is_listed key es = list_any (λ e. e.1 == key) es

pub record IsIndexed (w : Waiting) : Type 0 where
  pub ordered : IsOrdered nat_cmp w.order
  pub below : AllByRecursion (λ (e : ℕ × ℕ). e.0 < w.next) w.order.entries
  pub room : w.next < 2 ^ 64
  pub differ : Differ w.order.entries
  -- each key has a request
  pub held : AllByRecursion (λ (e : ℕ × ℕ). ContainsKey w.requests e.1) w.order.entries
  -- and there is no other request
  pub only : (key : ℕ) → ContainsKey w.requests key → is_listed key w.order.entries ≡ true
  pub places : length w.queues ≡ ENDPOINTS
  -- each queue has just the keys of its own requests, in their order
  pub queues : (ep : ℕ) → IsEndpoint ep → slice_index_or w.queues (place_of ep) [] ≡ keys_at ep w.requests w.order.entries

-- ---- requests under their numbers

abbrev pub is_from : ℕ → ℕ → ℕ × Request → Bool
is_from queue number e = nat_le number e.0 && (queue_of e.1.transfer.ep == queue)

-- the first of endpoint 0's queue from a number on is marked
abbrev pub marked_from : ℕ → List (ℕ × Request) → List (ℕ × Request)
marked_from number [] = []
marked_from number (e ∷ es) = if is_from 0 number e then (e.0, marked e.1) ∷ es else e ∷ marked_from number es
