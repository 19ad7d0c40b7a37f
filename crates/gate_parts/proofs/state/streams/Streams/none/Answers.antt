use Rattle.std.proofs.Common.{rules, None}
use Rattle.usb_base.specs.declared.endpoint.TheConstants.{ENDPOINTS}
use Rattle.gate_parts.proofs.lemmas.state.Places.{each-same}
use Rattle.gate_parts.proofs.state.streams.Streams.none.Goals as goal

pub returns : goal.returns
returns c = each-same c.from_fn.result ENDPOINTS None c.from_fn.ensures.items.long (λ i within. let made = (c.from_fn.ensures.items.at i None within).2.met in search (rules, made))
