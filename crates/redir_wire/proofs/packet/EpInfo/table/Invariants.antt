use Rattle.std.proofs.Common.{◌≡◌, length, take}
use Rattle.redir_wire.specs.EpTable.{ep_rows}
use Rattle.redir_wire.proofs.packet.EpInfo.table.Given as goal

abbrev pub invariant-loop-index : goal.invariant-loop-index
invariant-loop-index l = record { rows_length : length l.table.rows ≡ 32; told : take l.index l.table.rows ≡ ep_rows l.self l.index }
