use Rattle.std.proofs.Common.{◌∙◌, ap, is_some, sym}
use Rattle.slab.proofs.SlabLemmas.{Updates-with_value}
use Rattle.slab.specs.Slab.{with_value}
use Rattle.redir_host.specs.inner.Waiting.{is_from, numbered}
use Rattle.redir_host.specs.state.Queues.{marked}
use Rattle.redir_host.proofs.lemmas.state.Each.{found_passes}
use Rattle.redir_host.proofs.lemmas.state.Indexed.{from_at, indexed_marked, sorted}
use Rattle.redir_host.proofs.lemmas.state.Keyed.{is_entry_of, none_entry, requests_set, some_entry, there}
use Rattle.redir_host.proofs.lemmas.state.Marked.{any_found, mark_set, mark_unset}
use Rattle.redir_host.proofs.lemmas.state.Numbered.{found_lookup}
use Rattle.redir_host.proofs.state.waiting.Waiting.mark_from.Goals as goal

pub index_mut-requires : goal.index_mut-requires
index_mut-requires c =
    let w = c.args.self.now in
    let found = sym (from_at w c.args.number c.index-self-0.result c.requires) ∙ sym c.first_from.ensures ∙ c.in-Some.is in
    ap is_some (there _ _ (found_passes (is_entry_of (is_from 0 c.args.number) w.requests) w.order.entries (c.in-Some.field-0-0, c.in-Some.key) found)).1.0

pub returns-in-Some-clause-found : goal.returns-in-Some-clause-found
returns-in-Some-clause-found c =
    let w = c.args.self.now in
    let t = is_from 0 c.args.number in
    let found = sym (from_at w c.args.number c.index-self-0.result c.requires) ∙ sym c.first_from.ensures ∙ c.in-Some.is in
    sym (ap is_some (some_entry t w.requests w.order.entries (c.in-Some.field-0-0, c.in-Some.key) c.index_mut.result.now found c.index_mut.ensures.value)) ∙ any_found t (numbered w)

pub returns-in-Some-clause-marked : goal.returns-in-Some-clause-marked
returns-in-Some-clause-marked c =
    let w = c.args.self.now in
    let n = c.in-Some.field-0-0 in
    let key = c.in-Some.key in
    let r = c.index_mut.result.now in
    let t = is_from 0 c.args.number in
    let found = sym (from_at w c.args.number c.index-self-0.result c.requires) ∙ sym c.first_from.ensures ∙ c.in-Some.is in
    let updates = Updates-with_value w.requests key (marked r) (ap is_some c.index_mut.ensures.value) in
    requests_set w.requests (with_value w.requests key (marked r)) n key (marked r) w.order.entries c.requires.held c.requires.differ (found_lookup (is_entry_of t w.requests) w.order.entries (n, key) c.requires.ordered found) updates
    ∙ mark_set c.args.number (numbered w) n r (sorted w c.requires) (some_entry t w.requests w.order.entries (n, key) r found c.index_mut.ensures.value)

pub returns-in-Some-clause-indexed : goal.returns-in-Some-clause-indexed
returns-in-Some-clause-indexed c =
    let s = c.args.self.now.requests in
    let r = c.index_mut.result.now in
    indexed_marked c.args.self.now (with_value s c.in-Some.key (marked r)) c.in-Some.key r c.requires c.index_mut.ensures.value (Updates-with_value s c.in-Some.key (marked r) (ap is_some c.index_mut.ensures.value))

pub returns-in-None-clause-found : goal.returns-in-None-clause-found
returns-in-None-clause-found c =
    let w = c.args.self.now in
    let t = is_from 0 c.args.number in
    let none = sym (from_at w c.args.number c.index-self-0.result c.requires) ∙ sym c.first_from.ensures ∙ c.in-None.is in
    sym (ap is_some (none_entry t w.requests w.order.entries none)) ∙ any_found t (numbered w)

pub returns-in-None-clause-marked : goal.returns-in-None-clause-marked
returns-in-None-clause-marked c =
    let w = c.args.self.now in
    let none = sym (from_at w c.args.number c.index-self-0.result c.requires) ∙ sym c.first_from.ensures ∙ c.in-None.is in
    mark_unset c.args.number (numbered w) (none_entry (is_from 0 c.args.number) w.requests w.order.entries none)
