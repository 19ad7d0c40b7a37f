use Rattle.std.proofs.Common.{◌≡◌, ◌+◌, ◌-◌, ◌*◌, ◌≤◌, drop}
use Rattle.usbip_op.specs.Rows.{rows_size}
use Rattle.usbip_op.specs.Devices.{listed_form}
use Rattle.usbip_op.proofs.next.least_rows.Given as goal

-- the bytes so far, and those of the rows that are left
abbrev pub invariant-loop : goal.invariant-loop
invariant-loop l = record {
  left : rows_size listed_form l.count l.bytes ≡ l.size + rows_size listed_form (l.count - l.counter) (drop l.size l.bytes);
  small : l.size ≤ l.counter * 1332;
}
