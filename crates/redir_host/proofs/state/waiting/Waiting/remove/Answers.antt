use Rattle.std.proofs.Common.{◌≡◌, ◌∙◌, Some, ap, filter, sym}
use Rattle.slab.specs.Slab.{ContainsKey}
use Rattle.redir_host.specs.inner.Waiting.{is_key_of, place_of}
use Rattle.redir_host.specs.state.Queues.{is_at}
use Rattle.redir_host.proofs.lemmas.state.Indexed.{indexed_taken, numbered_taken, queue_at}
use Rattle.redir_host.proofs.lemmas.state.Keyed.{looked_each}
use Rattle.redir_host.proofs.lemmas.state.Queued.{kept_apart, not_at}
use Rattle.redir_host.proofs.state.waiting.Waiting.remove.Goals as goal

pub index-requires : goal.index-requires
index-requires c =
    let w = c.args.self.now in
    looked_each (ContainsKey w.requests) c.args.number c.args.key w.order.entries c.requires.indexed.held c.requires.there

pub returns-clause-rest : goal.returns-clause-rest
returns-clause-rest c = numbered_taken c.args.self.now c.remove-3.new.self c.remove-2.new.self.entries c.args.number c.args.key c.requires.indexed c.requires.there c.remove-3.ensures.updates c.remove-2.ensures.entries

pub returns-clause-indexed : goal.returns-clause-indexed
returns-clause-indexed c =
    let w = c.args.self.now in
    let i = c.requires.indexed in
    let q = c.remove-3.result in
    let place = c.place-place.ensures in
    let queue = c.index-self-place.result in
    let some : Some c.index.result.now ≡ Some q = sym c.index.ensures ∙ c.remove-3.ensures.value in
    let own : c.index.result.now ≡ q = cc in
    indexed_taken w c.remove-3.new.self c.remove-2.new.self c.args.number c.args.key c.place-place.result q _ i c.requires.there c.remove-3.ensures.updates
    c.remove-2.ensures.ordered c.remove-2.ensures.entries c.remove-3.ensures.value (place.value ∙ ap (λ r. place_of r.transfer.ep) own) place.in_range
    (λ ep is same. c.remove.ensures ∙ ap (filter (not_at c.args.number)) (queue_at w ep c.place-place.result queue i is same place.in_range) ∙ kept_apart (is_key_of (is_at ep) w.requests) c.args.number w.order.entries i.ordered)
