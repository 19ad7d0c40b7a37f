use Rattle.std.proofs.Common.{◌≡◌, ◌-◌, ◌≤◌, ◌++◌, length, take, drop}
use Rattle.gate_history.specs.client.Replies.{rows}
use Rattle.gate_parts.proofs.client.reply.counted_rows.Given as goal

-- the rows so far, and those that are left of the count
abbrev pub invariant-loop-k : goal.invariant-loop-k
invariant-loop-k l = record {
  rows : l.rows ++ take (l.count - l.k) (rows (drop l.k l.info.class) (drop l.k l.info.subclass) (drop l.k l.info.protocol)) ≡ take l.count (rows l.info.class l.info.subclass l.info.protocol);
  few : length l.rows ≤ l.k;
  class : length l.info.class ≡ 32;
  subclass : length l.info.subclass ≡ 32;
  protocol : length l.info.protocol ≡ 32;
}
