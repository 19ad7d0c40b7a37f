use Rattle.std.proofs.Common.{◌≡◌, drop, None}
use Rattle.chapter9.specs.Table.{endpoints_after, with_rows}
use Rattle.chapter9.proofs.table.add_setting.Given as goal

abbrev pub invariant-loop-part : goal.invariant-loop-part
invariant-loop-part l = with_rows l.fn.table.rows (endpoints_after l.alt None l.parts) ≡ with_rows l.table.rows (endpoints_after l.alt l.interface (drop l.part-index l.parts))
