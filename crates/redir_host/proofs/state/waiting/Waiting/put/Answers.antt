use Rattle.std.proofs.Common.{◌≡◌, ◌∙◌, ◌++◌, ◌∷◌, [], Some, refl, ap, subst, sym, arith, ℕ}
use Rattle.std.proofs.lemmas.List.{get_or_default}
use Rattle.std.specs.BTreeMap.{BTreeMap}
use Rattle.slab.specs.Slab.{Slab, Updates, get}
use Rattle.redir_host.specs.declared.state.request.Request.{Request}
use Rattle.redir_host.specs.declared.state.waiting.Waiting.{Waiting}
use Rattle.redir_host.specs.inner.Waiting.{IsIndexed}
use Rattle.redir_host.proofs.lemmas.state.Indexed.{indexed_back, indexed_put, numbered_back, numbered_put}
use Rattle.redir_host.proofs.state.waiting.Waiting.put.Goals as goal

-- memory that a slab has gained, or a map, is not seen
roomier : (w : Waiting) (s : Slab Request) (o : BTreeMap ℕ ℕ) → s ≡ record w.requests { capacity = s.capacity } → o.entries ≡ w.order.entries → IsIndexed w → IsIndexed (record w { requests = s; order = o })
roomier w s o is kept i =
    subst (λ (x : Slab Request). IsIndexed (record w { requests = x; order = o })) (sym is)
    (record { ordered = rw kept i.ordered; below = rw kept i.below; room = i.room; differ = rw kept i.differ; held = rw kept i.held; only = rw kept i.only; places = i.places; queues = rw kept i.queues })

pub returns-in_err-reserve-clause-indexed : goal.returns-in_err-reserve-clause-indexed
returns-in_err-reserve-clause-indexed c = roomier c.args.self.now c.reserve.new.self c.args.self.now.order c.reserve.ensures.rest_kept refl c.requires.indexed

pub returns-in_err-insert-clause-indexed : goal.returns-in_err-insert-clause-indexed
returns-in_err-insert-clause-indexed c = roomier c.args.self.now c.reserve.new.self c.insert.new.self c.reserve.ensures.rest_kept c.in_err-insert.ensures.err c.requires.indexed

pub returns-in-Err-clause-err : goal.returns-in-Err-clause-err
returns-in-Err-clause-err c =
    let kept = λ (k : ℕ). ap (λ s. get s k) c.reserve.ensures.rest_kept in
    numbered_back c.args.self.now c.reserve.new.self c.insert.new.self c.remove.new.self c.vacant_key-key.result c.requires.indexed kept c.in_ok-insert.ensures.entries c.remove.ensures.entries

pub returns-in-Err-clause-indexed : goal.returns-in-Err-clause-indexed
returns-in-Err-clause-indexed c =
    let w = c.args.self.now in
    let i = c.requires.indexed in
    let place = c.place-place in
    let kept = λ (k : ℕ). ap (λ s. get s k) c.reserve.ensures.rest_kept in
    indexed_back w c.reserve.new.self c.insert.new.self c.remove.new.self c.vacant_key-key.result place.result _ i kept c.in_ok-insert.ensures.entries c.remove.ensures.ordered c.remove.ensures.entries
    (c.in-Err.ensures.err ∙ get_or_default w.queues place.result c.index-self-place.result [] (omega (arith, place.ensures.in_range, i.places)))

pub returns-clause-ok : goal.returns-clause-ok
returns-clause-ok c =
    let w = c.args.self.now in
    let key = c.vacant_key-key in
    let kept = λ (k : ℕ). ap (λ s. get s k) c.reserve.ensures.rest_kept in
    let own : c.insert_reserved.result ≡ key.result = c.insert_reserved.ensures.key ∙ sym key.ensures.value in
    let updates : Updates c.reserve.new.self c.insert_reserved.new.self key.result (Some c.args.request) = subst (λ k. Updates c.reserve.new.self c.insert_reserved.new.self k (Some c.args.request)) own c.insert_reserved.ensures.updates in
    numbered_put w c.reserve.new.self c.insert_reserved.new.self c.insert.new.self.entries key.result c.args.request c.requires.indexed kept key.ensures.vacant updates c.in_ok-insert.ensures.entries

pub returns-clause-indexed : goal.returns-clause-indexed
returns-clause-indexed c =
    let w = c.args.self.now in
    let i = c.requires.indexed in
    let place = c.place-place in
    let key = c.vacant_key-key in
    let kept = λ (k : ℕ). ap (λ s. get s k) c.reserve.ensures.rest_kept in
    let own : c.insert_reserved.result ≡ key.result = c.insert_reserved.ensures.key ∙ sym key.ensures.value in
    let updates : Updates c.reserve.new.self c.insert_reserved.new.self key.result (Some c.args.request) = subst (λ k. Updates c.reserve.new.self c.insert_reserved.new.self k (Some c.args.request)) own c.insert_reserved.ensures.updates in
    indexed_put w c.reserve.new.self c.insert_reserved.new.self c.insert.new.self key.result place.result c.args.request _ i kept key.ensures.vacant updates
    c.in_ok-insert.ensures.ordered c.in_ok-insert.ensures.entries place.ensures.endpoint place.ensures.value place.ensures.in_range c.requires.room
    (c.in_default.ensures.ok ∙ ap (λ l. l ++ (w.next, key.result) ∷ []) (get_or_default w.queues place.result c.index-self-place.result [] (omega (arith, place.ensures.in_range, i.places))))
