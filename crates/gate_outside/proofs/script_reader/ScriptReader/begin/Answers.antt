use Rattle.std.proofs.Common.{◌≡◌, ◌+◌, ◌<◌, length, drop, subst, arith}
use Rattle.gate_outside.specs.Doors.{first}
use Rattle.gate_outside.specs.Reading.{Reading, cut, current}
use Rattle.gate_outside.proofs.Reading.{begins}
use Rattle.gate_outside.proofs.script_reader.ScriptReader.begin.Goals as goal

pub returns : goal.returns
returns c =
    let inside = c.self.inside in
    let now : Reading = record { turns = cut 0 (current (inside.begun + 1) inside.scripts); to_come = drop (inside.begun + 1) inside.scripts } in
    subst (λ (r : Reading). (0 < length r.to_come) × (now ≡ record { turns = first r.to_come; to_come = drop 1 r.to_come })) c.self.view_is
    (begins inside.begun inside.scripts (omega arith))
