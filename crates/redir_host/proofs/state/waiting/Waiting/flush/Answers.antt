use Rattle.std.proofs.Common.{◌≡◌, ◌∙◌, ap, filter, refl, rules}
use Rattle.std.proofs.lemmas.Map.Entries.{filter_from_retain_pairs}
use Rattle.redir_host.specs.device.Changes.{stays}
use Rattle.redir_host.proofs.lemmas.state.Flushed.{Passed, indexed_filtered, is_there, numbered_filtered, retained}
use Rattle.redir_host.proofs.state.waiting.Waiting.flush.Goals as goal

passed : (c : goal.After-retain_keys) → Passed (stays c.args.route.now c.args.table.now) c.args.self.now.requests c.retain.new.self
passed c = retained _ (λ f. (f.0.now ≡ c.args.route.now) × (f.1.now ≡ c.args.table.now)) (stays c.args.route.now c.args.table.now)
    (λ g k a keep b next i called.
    let met = called.met in
    (search rules, search rules, (ap (λ x. x.now) met.1.0 ∙ i.0, ap (λ x. x.now) met.1.1 ∙ i.1))) _ 0 c.args.self.now.requests.slots c.retain.new.self.slots (refl, refl) c.retain.ensures.retained

left : (c : goal.After-retain_keys) → c.retain-2.new.self.entries ≡ filter (is_there c.retain.new.self) c.args.self.now.order.entries
left c = filter_from_retain_pairs _ (λ f. f.0.now ≡ c.retain.new.self) (is_there c.retain.new.self)
    (λ g k v b x next i test.
    let called = test.called in
    let met = called.met in
    let still = test.leaves in
    let shows = test.shows in
    (search rules, search rules, ap (λ y. y.now) met.1 ∙ i)) _ c.args.self.now.order.entries c.retain-2.new.self.entries refl c.retain-2.ensures.filtered

pub returns-clause-rest : goal.returns-clause-rest
returns-clause-rest c = numbered_filtered c.args.self.now (stays c.args.route.now c.args.table.now) c.retain.new.self c.retain-2.new.self.entries (passed c) (left c)

pub returns-clause-indexed : goal.returns-clause-indexed
returns-clause-indexed c =
    indexed_filtered c.args.self.now (stays c.args.route.now c.args.table.now) c.retain.new.self c.retain-2.new.self c.retain_keys.new.queues c.requires (passed c) c.retain-2.ensures.ordered (left c) c.retain_keys.ensures.count c.retain_keys.ensures.each
