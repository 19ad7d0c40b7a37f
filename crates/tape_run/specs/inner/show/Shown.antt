-- No packet and no wrong place stands in no bytes, on either side.
use Rattle.std.specs.Prelude.{◌≡◌, [], None, refl}
use Rattle.usb_base.specs.Number.{be_at, le_at}
use Rattle.usb_base.specs.declared.reason.Reason.{Reason}
use Rattle.packet_stream.specs.Split.{Reader, Position, split}
use Rattle.redir_data.specs.Streams.{stream_start}
use Rattle.gate_history.specs.step.Streams.{client_reader, client_start, host_reader}

pub record HasNone {S P : Type 0} (r : Reader S P Reason) (start : Position S) : Type 0 where
  pub packets : (split r start []).packets ≡ []
  pub right : (split r start []).wrong ≡ None

pub clients_none : HasNone client_reader client_start
unfolding split be_at
clients_none = record { packets = refl; right = refl }

pub host_none : HasNone host_reader stream_start
unfolding split le_at
host_none = record { packets = refl; right = refl }
