use Rattle.std.proofs.Common.{◌≡◌, ◌∙◌, if◌then◌else◌, arith, get_or, refl, rules, sym}
use Rattle.std.proofs.lemmas.List.{get_or-replicate}
use Rattle.redir_wire.specs.declared.packet.TheConstants.Caps.{MAX_PACKET_SIZE}
use Rattle.redir_wire.specs.Capability.{has}
use Rattle.usb_base.specs.Endpoint.{no_endpoint}
use Rattle.redir_host.proofs.lemmas.device.Columns.{column_of, halves_of, told, untold}
use Rattle.redir_host.proofs.device.facts.max_packets.Goals as goal

pub returns-then-contains-clause-sizes : goal.returns-then-contains-clause-sizes
returns-then-contains-clause-sizes c =
    let t = c.args.table.now in
    let there = has c.args.caps MAX_PACKET_SIZE in
    column_of (λ r. if there then r.max_packet else 0) t c.map.result c.map.ensures.items.long (
    λ k within.
    let made = (c.map.ensures.items.at k no_endpoint 0 within).2.met in
    let cell : get_or c.map.result k 0 ≡ (get_or t.rows k no_endpoint).max_packet = search (rules, made) in
    cell ∙ told there (get_or t.rows k no_endpoint).max_packet (sym c.contains.ensures ∙ c.if-contains.true)
    )

pub returns-then-contains-clause-fit : goal.returns-then-contains-clause-fit
returns-then-contains-clause-fit c = halves_of c.map.result (
    λ k less.
    let made = (c.map.ensures.items.at k no_endpoint 0 (omega (arith, less, c.map.ensures.items.long))).2.met in
    search (rules, made)
    )

pub returns-else-contains-clause-sizes : goal.returns-else-contains-clause-sizes
returns-else-contains-clause-sizes c =
    let t = c.args.table.now in
    let there = has c.args.caps MAX_PACKET_SIZE in
    column_of (λ r. if there then r.max_packet else 0) t _ refl (λ k within. get_or-replicate 32 k 0 0 within ∙ untold there (get_or t.rows k no_endpoint).max_packet (sym c.contains.ensures ∙ c.if-contains.false))
