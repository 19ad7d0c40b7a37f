use Rattle.std.proofs.Common.{◌≡◌, ◌==◌, ◌∙◌, ◌∷◌, true, ap, get_or, is_some, subst, sym, ℕ}
use Rattle.std.specs.Prelude.{IfSome, Option}
use Rattle.std.specs.Map.{values_of}
use Rattle.std.proofs.lemmas.Bool.{eqb-true}
use Rattle.usb_base.specs.Endpoint.{endpoint_index}
use Rattle.redir_host.specs.inner.Waiting.{if_there, is_key_of, numbered, place_of}
use Rattle.redir_host.specs.state.Queues.{is_at, queue_of}
use Rattle.redir_host.proofs.lemmas.state.Each.{found_passes}
use Rattle.redir_host.proofs.lemmas.state.Indexed.{first_at, indexed_taken, numbered_taken, queue_at, sorted}
use Rattle.redir_host.proofs.lemmas.state.Keyed.{found_kept, some_entry, some_value, there}
use Rattle.redir_host.proofs.lemmas.state.Numbered.{found_lookup, removed}
use Rattle.redir_host.proofs.lemmas.state.Queued.{popped}
use Rattle.redir_host.proofs.state.waiting.Waiting.remove_first.Goals as goal

pub unwrap-number-requires : goal.unwrap-number-requires
unwrap-number-requires c =
    let w = c.args.self.now in
    let place = c.place_of.ensures in
    let first = first_at w c.args.ep c.place_of.result c.index-self-place_of.result c.requires.indexed place.endpoint place.value place.in_range in
    ap is_some (c.pop.ensures.first ∙ first) ∙ found_kept (is_at c.args.ep) w.requests w.order.entries c.requires.there

pub remove-requires-2 : goal.remove-requires-2
remove-requires-2 c =
    let w = c.args.self.now in
    let place = c.place_of.ensures in
    let first = first_at w c.args.ep c.place_of.result c.index-self-place_of.result c.requires.indexed place.endpoint place.value place.in_range in
    let found = sym first ∙ sym c.pop.ensures.first ∙ c.unwrap-number.ensures in
    ap is_some (there (is_at c.args.ep) _ (found_passes (is_key_of (is_at c.args.ep) w.requests) w.order.entries c.unwrap-number.result found)).1.0

pub returns-clause-request : goal.returns-clause-request
returns-clause-request c =
    let w = c.args.self.now in
    let place = c.place_of.ensures in
    let first = first_at w c.args.ep c.place_of.result c.index-self-place_of.result c.requires.indexed place.endpoint place.value place.in_range in
    let found = sym first ∙ sym c.pop.ensures.first ∙ c.unwrap-number.ensures in
    some_value (is_at c.args.ep) w.requests w.order.entries c.unwrap-number.result found ∙ c.remove-2.ensures.value

pub returns-clause-rest : goal.returns-clause-rest
returns-clause-rest c =
    let w = c.args.self.now in
    let e = c.unwrap-number.result in
    let place = c.place_of.ensures in
    let first = first_at w c.args.ep c.place_of.result c.index-self-place_of.result c.requires.indexed place.endpoint place.value place.in_range in
    let found = sym first ∙ sym c.pop.ensures.first ∙ c.unwrap-number.ensures in
    let looked = found_lookup (is_key_of (is_at c.args.ep) w.requests) w.order.entries e c.requires.indexed.ordered found in
    ap values_of (numbered_taken w c.remove-2.new.self c.remove.new.self.entries e.0 e.1 c.requires.indexed looked c.remove-2.ensures.updates c.remove.ensures.entries)
    ∙ removed (is_at c.args.ep) (numbered w) (e.0, c.remove-2.result) (sorted w c.requires.indexed) (some_entry (λ x. is_at c.args.ep x.1) w.requests w.order.entries e c.remove-2.result found c.remove-2.ensures.value)

pub returns-clause-indexed : goal.returns-clause-indexed
returns-clause-indexed c =
    let w = c.args.self.now in
    let i = c.requires.indexed in
    let e = c.unwrap-number.result in
    let p = is_key_of (is_at c.args.ep) w.requests in
    let q = c.remove-2.result in
    let place = c.place_of.ensures in
    let queue = c.index-self-place_of.result in
    let found = sym (first_at w c.args.ep c.place_of.result queue i place.endpoint place.value place.in_range) ∙ sym c.pop.ensures.first ∙ c.unwrap-number.ensures in
    let passes : (queue_of q.transfer.ep == queue_of c.args.ep) ≡ true = ap (if_there (is_at c.args.ep)) (sym c.remove-2.ensures.value) ∙ found_passes p w.order.entries e found in
    let at_q : c.place_of.result ≡ place_of q.transfer.ep = place.value ∙ sym (ap endpoint_index (eqb-true (queue_of q.transfer.ep) (queue_of c.args.ep) passes)) in
    let Rest : Option (ℕ × ℕ) → Type 0 = λ o. IfSome o (λ x. get_or w.queues c.place_of.result queue ≡ x ∷ c.pop.new.self) in
    let rest : get_or w.queues c.place_of.result queue ≡ e ∷ c.pop.new.self = subst Rest c.unwrap-number.ensures c.pop.ensures.rest in
    indexed_taken w c.remove-2.new.self c.remove.new.self e.0 e.1 c.place_of.result q _ i (found_lookup p w.order.entries e i.ordered found) c.remove-2.ensures.updates
    c.remove.ensures.ordered c.remove.ensures.entries c.remove-2.ensures.value at_q place.in_range
    (λ ep is same. sym (popped (is_key_of (is_at ep) w.requests) w.order.entries e c.pop.new.self i.ordered (sym (queue_at w ep c.place_of.result queue i is same place.in_range) ∙ rest)))
