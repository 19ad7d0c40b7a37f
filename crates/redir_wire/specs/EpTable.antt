-- The table of endpoints that an ep_info tells.
use Rattle.std.specs.Prelude.{ℕ, zero, suc, List, [], ◌∷◌, ◌++◌, get_or}
use Rattle.usb_base.specs.Endpoint.{kind_of_byte}
use Rattle.usb_base.specs.declared.endpoint.TheConstants.{ENDPOINTS}
use Rattle.usb_base.specs.declared.endpoint.EpRow.{EpRow}
use Rattle.usb_base.specs.declared.endpoint.EpTable.{EpTable}
use Rattle.redir_wire.specs.declared.packet.EpInfo.{EpInfo}

-- the row of the endpoint at this index
abbrev pub ep_row : EpInfo → ℕ → EpRow
ep_row e n = record { kind = kind_of_byte (get_or e.kinds n 0); interval = get_or e.interval n 0; interface = get_or e.interface n 0; max_packet = get_or e.max_packet n 0 }

-- the rows at the indices below n
unfoldable pub ep_rows : EpInfo → ℕ → List EpRow
ep_rows e zero = []
ep_rows e (suc n) = ep_rows e n ++ ep_row e n ∷ []

abbrev pub table_of : EpInfo → EpTable
table_of e = record { rows = ep_rows e ENDPOINTS }
