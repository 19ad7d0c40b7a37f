use Rattle.std.proofs.Common.{◌≡◌, drop}
use Rattle.usbgate_commands.specs.links.Interval.{shorter, shortest}
use Rattle.usbgate_commands.proofs.links.interval.shortest_micros.Given as goal

-- the shortest so far and that of what is left is the shortest of all
abbrev pub invariant-loop-part : goal.invariant-loop-part
invariant-loop-part l = shorter l.least (shortest l.speed (drop l.part-index l.parts)) ≡ shortest l.fn.speed l.fn.parts
