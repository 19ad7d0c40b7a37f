-- What can be written, of fields in their ranges, can be read.
use Rattle.std.proofs.Common.{◌≡◌, ℕ, true, false, subst}
use Rattle.redir_wire.specs.declared.packet.Caps.{Caps}
use Rattle.redir_wire.specs.declared.packet.RedirControl.{RedirControl}
use Rattle.redir_wire.specs.declared.packet.Way.{Way}
use Rattle.redir_wire.specs.declared.state.RedirState.{RedirState}
use Rattle.redir_wire.specs.Bodies.{IsPacket}
use Rattle.redir_wire.specs.Plain.{controls}
use Rattle.redir_wire.specs.Ranges as wire_ranges
use Rattle.redir_wire.specs.Spelling as wire
use Rattle.redir_wire.specs.State.{later}
use Rattle.redir_wire.specs.Table.{plain_row, goes}
use Rattle.redir_wire.specs.Written as wire_written
use Rattle.redir_wire.proofs.Plain.{packet_written}
use Rattle.redir_data.specs.declared.packet.RedirData.{RedirData}
use Rattle.redir_data.specs.declared.packet.RedirPacket.TheVariants.{Plain, Carrying}
use Rattle.redir_data.specs.Ranges.{Ranges}
use Rattle.redir_data.specs.Sent.{CanBeRead}
use Rattle.redir_data.specs.Written.{CanWrite}
use Rattle.redir_data.proofs.Written.{data_written}

-- a packet that moves no data, behind the hello
pub control_sent : (way : Way) (caps : Caps) (id : ℕ) (p : RedirControl) → wire.is_hello p ≡ false → wire_ranges.Ranges p → wire_written.CanWrite id caps p → goes way (plain_row (wire.kind_of p)) ≡ true →
    CanBeRead way caps (id, Plain p)
control_sent way caps id p other ranges can goes_so =
    let same : wire_written.state_before caps p ≡ later caps = λ i. record { first = other i; caps = caps } in
    subst (λ (s : RedirState). IsPacket (controls caps) s way (wire.header_of id caps p, p)) same (packet_written way caps id p ranges can goes_so)

pub data_sent : (way : Way) (caps : Caps) (id : ℕ) (d : RedirData) → Ranges d → CanWrite id way caps d → CanBeRead way caps (id, Carrying d)
data_sent way caps id d ranges can = data_written way caps id d ranges can
