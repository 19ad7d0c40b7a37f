use Rattle.std.proofs.Common.{◌≡◌, ◌++◌, ◌-◌, ◌≤◌, length}
use Rattle.usbip_op.specs.Rows.{rows_at, rows_size}
use Rattle.usbip_op.specs.Devices.{listed_form}
use Rattle.usbip_op.proofs.reply.listed_rows.Given as goal

-- the rows so far, and those that are left
abbrev pub invariant-loop : goal.invariant-loop
invariant-loop l = record {
  left : rows_at listed_form l.count l.bytes ≡ l.rows ++ rows_at listed_form (l.count - l.counter) l.rest;
  there : rows_size listed_form (l.count - l.counter) l.rest ≤ length l.rest;
}
