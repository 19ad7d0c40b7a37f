-- What the host has told of its device: of each fact the last, since the device was last lost.
use Rattle.std.specs.Prelude.{if◌then◌else◌, List, Option, Some, None}
use Rattle.usb_base.specs.Endpoint.{no_endpoints}
use Rattle.packet_stream.specs.Folds.{rfold}
use Rattle.gate_history.specs.declared.facts.Facts.{Facts}
use Rattle.gate_history.specs.step.Marks.{Effect, Fact, Connected, Interfaces, Endpoints, Configuration, Mark}
use Rattle.gate_history.specs.state.Sides.{is_loss}

-- those of no device
abbrev pub no_facts : Facts
no_facts = record { connect = None; interfaces = None; table = no_endpoints; configuration = 0 }

-- a fact takes the place of the last of its kind
abbrev pub tell : Facts → Option Fact → Facts
tell f None = f
tell f (Some (Connected connect)) = record f { connect = Some connect }
tell f (Some (Interfaces info)) = record f { interfaces = Some info }
tell f (Some (Endpoints table)) = record f { table = table }
tell f (Some (Configuration configuration)) = record f { configuration = configuration }

abbrev pub facts_after : Effect → Option Fact → Facts → Facts
facts_after e told f = if is_loss e then no_facts else tell f told

abbrev pub facts : List Mark → Facts
facts ms = rfold (λ f m. facts_after m.what m.told f) no_facts ms
