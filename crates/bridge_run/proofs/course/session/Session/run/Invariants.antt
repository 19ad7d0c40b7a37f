use Rattle.std.proofs.Common.{◌≡◌, ℕ, List, Option, length}
use Rattle.bridge_run.specs.course.Course.{Course, AtDoor}
use Rattle.bridge_run.specs.course.Calls.{Goes}
use Rattle.bridge_run.specs.course.Outside.{outside, NoFault, gathering, faults}
use Rattle.bridge_run.specs.inner.Keeping.{Agrees, IsLive, rounds_of}
use Rattle.bridge_run.specs.inner.Follows.{IsServing, setting, Comes}
use Rattle.bridge_run.specs.log.Log.{Terms, Told}
use Rattle.bridge_run.specs.inner.Logging.{IsAsking}
use Rattle.bridge_run.proofs.lemmas.course.Idle.{HasWaited}
use Rattle.bridge_run.specs.declared.course.polling.TheConstants.{POLL_LIMIT}
use Rattle.bridge_run.proofs.course.session.Session.run.Given as goal

abbrev pub invariant-rounds : goal.invariant-rounds
invariant-rounds g l = record {
  agrees : Agrees l.self.rounds (outside (g.D.Doors.link l.doors) (g.D.Doors.door l.doors));
  live : IsLive l.self.rounds;
  room : length l.buf ≡ POLL_LIMIT;
  idle : l.self.rounds.idle ≡ l.initial.self.rounds.idle;
  waited : HasWaited l.initial.self.rounds.idle l.self.rounds (outside (g.D.Doors.link l.initial.doors) (g.D.Doors.door l.initial.doors)) (outside (g.D.Doors.link l.doors) (g.D.Doors.door l.doors));
  faults : NoFault (outside (g.D.Doors.link l.initial.doors) (g.D.Doors.door l.initial.doors)) (outside (g.D.Doors.link l.doors) (g.D.Doors.door l.doors)) (faults (g.K.Sink.faults l.initial.out) (g.T.Tape.counts l.initial.tape)) (faults (g.K.Sink.faults l.out) (g.T.Tape.counts l.tape));
  comes : (first : g.C.Served.First) (begun : Option (List ℕ)) (c : Course) → IsServing (g.C.Served.stands first l.initial.self.served) (g.C.Served.sends first) l.initial.self.rounds (outside (g.D.Doors.link l.initial.doors) (g.D.Doors.door l.initial.doors)) (gathering begun (g.K.Sink.contents l.initial.out) (g.T.Tape.contents l.initial.tape) l.initial.self.waiting) c
      → Comes (g.C.Served.stands first l.self.served) (setting (g.C.Served.sends first) l.initial.self.rounds) l.self.rounds (outside (g.D.Doors.link l.doors) (g.D.Doors.door l.doors)) (gathering begun (g.K.Sink.contents l.out) (g.T.Tape.contents l.tape) l.self.waiting) (Goes AtDoor c) AtDoor;
  log : (first : g.C.Served.First) (terms : Terms) (begun : g.row.D.Denot) (begun_out : g.row.K.Denot) → terms.taped ≡ g.T.Tape.made l.initial.tape → IsAsking AtDoor g.D.Doors.call_gives (g.C.Served.stands first l.initial.self.served) (Told g.K.Sink.write_gives begun_out l.initial.out) terms (g.C.Served.sends first) l.initial.self.rounds begun l.initial.doors
      → IsAsking AtDoor g.D.Doors.call_gives (g.C.Served.stands first l.self.served) (Told g.K.Sink.write_gives begun_out l.out) terms (g.C.Served.sends first) l.self.rounds begun l.doors;
  made : g.T.Tape.made l.tape ≡ g.T.Tape.made l.initial.tape;
}

abbrev pub decreases-rounds : goal.decreases-rounds
decreases-rounds g l = rounds_of l.self.rounds
