use Rattle.std.proofs.Common.{◌≡◌, refl, rules}
use Rattle.usb_base.specs.Endpoint.{byte_of_kind, no_endpoint}
use Rattle.redir_host.proofs.lemmas.device.Columns.{column_of}
use Rattle.redir_host.proofs.device.facts.ep_info.Goals as goal

pub returns-clause-info : goal.returns-clause-info
returns-clause-info c =
    let t = c.args.table.now in
    λ i. record {
      kinds = column_of (λ r. byte_of_kind r.kind) t c.map.result c.map.ensures.items.long (λ k within. let made = (c.map.ensures.items.at k no_endpoint 0 within).2.met in search (rules, made)) i;
      interval = column_of (λ r. r.interval) t c.map-2.result c.map-2.ensures.items.long (λ k within. let made = (c.map-2.ensures.items.at k no_endpoint 0 within).2.met in search (rules, made)) i;
      interface = column_of (λ r. r.interface) t c.map-3.result c.map-3.ensures.items.long (λ k within. let made = (c.map-3.ensures.items.at k no_endpoint 0 within).2.met in search (rules, made)) i;
      max_packet = c.max_packets.ensures.sizes i;
    }
