use Rattle.std.proofs.Common.{◌≡◌, drop}
use Rattle.chapter9.specs.Table.{class_of}
use Rattle.chapter9.proofs.table.class_of.Given as goal

abbrev pub invariant-loop-part : goal.invariant-loop-part
invariant-loop-part l = class_of l.alt l.parts ≡ class_of l.alt (drop l.part-index l.parts)
