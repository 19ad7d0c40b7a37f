-- What a run of `serve` has recorded, by how it ended.
use Rattle.std.proofs.Common.{◌≡◌, ◌⊎◌, ◌≤◌, ℕ, Bool, inl, inr, List, [], ◌∷◌, ◌++◌, length, Option, Some, None, IfSome, refl, sym, ap, ◌∙◌, subst, append_assoc, append-nil, arith}
use Rattle.std.proofs.lemmas.List.{length-append, append_cancel_left}
use Rattle.usb_base.specs.Writes.{Begins}
use Rattle.gate_history.specs.step.Events.{PastEvent}
use Rattle.gate_history.specs.step.History.{history}
use Rattle.gate_history.specs.write.All.{counts_of}
use Rattle.session_tape.specs.Tapes.{Counts}
use Rattle.session_tape.specs.Lines.{first_comment}
use Rattle.bridge_run.specs.declared.course.serve_end.ServeEnd.{ServeEnd}
use Rattle.bridge_run.specs.declared.course.serve_end.ServeEnd.TheVariants as end
use Rattle.bridge_run.specs.events.Events.{PastLinkEvent}
use Rattle.bridge_run.specs.course.Course.{Course, Next, Making, Takes}
use Rattle.bridge_run.specs.events.Prescribed.{Prescribed}
use Rattle.bridge_run.specs.course.Calls.{Outcome, Goes, Stops, call, course_of}
use Rattle.bridge_run.specs.course.Outside.{Outside, Written, written, Tells, IsBetween, IsRecordedInPart, IsRecordedUntold, HasLines, Cut}
use Rattle.bridge_run.specs.events.RanOut.{RanOutWithin}
use Rattle.bridge_serve.specs.served.GateStops.{gate_runs_out}
use Rattle.bridge_run.specs.course.Serves.{MayRunOut, Reaches, NoneWaits, EndsSo, CutShort, Leaves}
use Rattle.bridge_run.proofs.lemmas.written.Gather.{ended-waiting}
use Rattle.tape_run.specs.declared.status.Status.{Status}
use Rattle.tape_run.specs.declared.status.Status.TheVariants.{Done, Usage, Refused, ReadFault, WriteFault, LinkFault, OutOfMemory, BadTape, Idle, Spent}
use Rattle.tape_run.specs.Text.{opening_text, counts_line}
use Rattle.packet_show.specs.declared.tape.TheConstants.{TAPE_LIMIT as tape_limit}
use Rattle.tape_run.specs.tape.TapeCommand.{Reading, last_text}
use Rattle.tape_run.specs.tape.EventCommand.{over_events}
use Rattle.tape_run.specs.Replay.{replay}
use Rattle.usbgate_commands.specs.links.Recording.{IsUnmade, IsUnbegun}
use Rattle.usbgate_commands.specs.words.Serving.{ServeSettings}
use Rattle.usbgate_commands.specs.links.Serves.{Known, setting_of, ended_as, IsUnrecorded, IsRecorded, Serves}
use Rattle.bridge_run.specs.written.Recorded.{event_line, lines_of as event_lines}
use Rattle.tape_laws.specs.Recordings.{recorded, served, all_replayed}
use Rattle.bridge_run.specs.written.Ups.{client_at, host_at, client_behind, to_clients}
use Rattle.tape_laws.specs.Ups.{host_behind, to_host}
use Rattle.tape_laws.specs.Begun.{IsFresh}
use Rattle.tape_laws.specs.Plays.{read_of, Plays, WroteFront, EndsTape, PlaysInPart, IsUnserved, IsAsBefore, PlaysNothing, Replays}
use Rattle.tape_laws.proofs.Cutting.{cut-at, are-lines, ends-fit, client-front, host-front, call-takes}
use Rattle.tape_laws.proofs.Events.{AllFit}
use Rattle.tape_laws.proofs.Courses.{Holds, Stands, At, IsMaking, call-comes, calls-come}
use Rattle.tape_laws.proofs.Courses as course
use Rattle.tape_laws.proofs.Recording.{recording, recording-comes, line-comes, rest_read, front-read, all-read, front-text, first-line-read}

-- ---- a run that has ended by itself

plays : (asked : ServeSettings) (c d : Course) (e : ServeEnd) (new : Outside) (out : Written) (held : List ℕ) → Reaches (setting_of asked) (Goes Making c) (Stops e d) → Tells new out d → out.tape ≡ Some held → length held ≤ tape_limit
    → d.waiting ≡ [] → Stands (served asked) (first_comment asked.first_id) d → Plays asked c new held
plays asked c d e new out held reaches tells tape-is room none s =
    let held-tape : (held ≡ d.recorded) × (out.waiting ≡ d.waiting) = subst (λ (o : Option (List ℕ)). IfSome o (λ (l : List ℕ). (l ≡ d.recorded) × (out.waiting ≡ d.waiting))) tape-is tells.tape in
    let held-is : held ≡ recording asked d.events = held-tape.0 ∙ sym (append-nil d.recorded) ∙ ap (λ (l : List ℕ). d.recorded ++ l) (sym none) ∙ sym s.gathers.all-is in
    let fits : length (recording asked d.events) ≤ tape_limit = subst (λ (l : List ℕ). length l ≤ tape_limit) held-is room in
    let comes = recording-comes asked d.events s.fit fits in
    let all = all-read asked d.events held comes held-is in
    let command = over_events (replay asked.first_id) in
    let made = opening_text asked.first_id in
    record {
      end = e;
      course = d;
      reaches = reaches;
      held-is = held-is;
      good = ap (λ (x : Reading (List PastEvent)). x.bad) all;
      events-are = ap (λ (x : Reading (List PastEvent)). x.after.kept) all ∙ comes.kept-is;
      prints = ap (λ (x : Reading (List PastEvent)). made ++ x.text ++ last_text command x) all
          ∙ ap (λ (l : List PastEvent). made ++ all_replayed asked d.events ++ counts_line (counts_of asked.first_id (history asked.first_id l))) comes.kept-is;
      client = tells.client.written-is ∙ ap (λ (l : List ℕ). Some l) s.to_client-is;
      host = tells.host.written-is ∙ ap (λ (l : List ℕ). Some l) s.to_host-is;
    }

-- ---- a run that was cut short

-- where memory may have run out within an event, by how the run ended
abbrev stopping : ServeSettings → ServeEnd → List PastLinkEvent → PastLinkEvent → List ℕ → List ℕ → Type 0
stopping asked x = MayRunOut x (gate_runs_out asked.first_id) (served asked)

ran-within : (asked : ServeSettings) (x : ServeEnd) (events : List PastLinkEvent) (e : PastLinkEvent) (client host : List ℕ) → stopping asked x events e client host → RanOutWithin (gate_runs_out asked.first_id) (served asked) events e client host
ran-within asked end.WriteFault events e client host so = absurd so
ran-within asked x events e client host so = so

-- what the lines of a course's events and its links have
record Facts (asked : ServeSettings) (d : Course) : Type 0 where
  pub taped : List PastLinkEvent
  pub later : List PastLinkEvent
  pub events-are : d.events ≡ later ++ taped
  pub fit : AllFit taped
  pub recorded-is : d.recorded ≡ recording asked taped
  pub client-is : d.to_client ≡ to_clients (served asked) taped
  pub lost : List ℕ
  pub host-is : to_host (served asked) taped ≡ d.to_host ++ lost

-- what holds of every course that a call begins at
at-each : (p : Prescribed) (first : List ℕ) (Is : Course → Type 0) → ((d : Course) → IsMaking p first d → Is d) → ((d : Course) (up host_up : Bool) → Holds p first up host_up (course.seen d) → Is d)
    → (next : Next) (d : Course) → At p first next d → Is d
at-each p first Is making standing Making d h = making d h
at-each p first Is making standing (Takes e next) d h = standing d (client_at e (client_behind p d.events)) (host_at e (host_behind p d.events)) h.holds
at-each p first Is making standing next d h = standing d (client_behind p d.events) (host_behind p d.events) h

-- and of every course that it comes to
outcome-each : (p : Prescribed) (first : List ℕ) (Is : Course → Type 0) → ((d : Course) → IsMaking p first d → Is d) → ((d : Course) (up host_up : Bool) → Holds p first up host_up (course.seen d) → Is d)
    → (o : Outcome) → course.Comes p first o → Is (course_of o)
outcome-each p first Is making standing (Goes next d) h = at-each p first Is making standing next d h
outcome-each p first Is making standing (Stops e d) h = standing d (client_behind p d.events) (host_behind p d.events) h

stands-facts : (asked : ServeSettings) (d : Course) (up host_up : Bool) → Holds (served asked) (first_comment asked.first_id) up host_up (course.seen d) → Facts asked d
stands-facts asked d up host_up h = record {
  taped = h.gathers.taped;
  later = h.gathers.later;
  events-are = h.gathers.events-are;
  fit = h.gathers.fit;
  recorded-is = h.gathers.written-is;
  client-is = h.to_client-is ∙ h.gathers.to_client-is;
  lost = [];
  host-is = sym h.gathers.to_host-is ∙ sym h.to_host-is ∙ sym (append-nil d.to_host);
}

making-facts : (asked : ServeSettings) (d : Course) → IsMaking (served asked) (first_comment asked.first_id) d → Facts asked d
making-facts asked d h = record {
  taped = d.events;
  later = [];
  events-are = refl;
  fit = subst AllFit (sym h.events-are) tt;
  recorded-is = h.recorded-is ∙ sym (append-nil (first_comment asked.first_id)) ∙ sym (ap (λ (l : List PastLinkEvent). recording asked l) h.events-are);
  client-is = h.to_client-is ∙ sym (ap (to_clients (served asked)) h.events-are);
  lost = (served asked).to_host [];
  host-is = ap (to_host (served asked)) h.events-are ∙ sym (ap (λ (l : List ℕ). l ++ (served asked).to_host []) h.to_host-is);
}

front-of : (known : Option (List ℕ)) (all written lost : List ℕ) → known ≡ Some written → all ≡ written ++ lost → WroteFront known all
front-of known all wrote lost is all-is = record { front = wrote; lost = lost; known-is = is; all-is = all-is }

front-between : (known : Option (List ℕ)) (least most all later : List ℕ) → IsBetween least known most → all ≡ most ++ later → WroteFront known all
front-between known least most all later b is = record {
  front = least ++ b.more;
  lost = b.lost ++ later;
  known-is = b.known-is;
  all-is = is ∙ ap (λ (l : List ℕ). l ++ later) b.most-is ∙ append_assoc (least ++ b.more) b.lost later;
}

-- of more bytes it is a front, too
front-longer : (known : Option (List ℕ)) (all whole : List ℕ) → WroteFront known all → Begins all whole → WroteFront known whole
front-longer known all whole w f = record {
  front = w.front;
  lost = w.lost ++ f.more;
  known-is = w.known-is;
  all-is = f.is ∙ ap (λ (l : List ℕ). l ++ f.more) w.all-is ∙ append_assoc w.front w.lost f.more;
}

-- the lines of all events of a course and its links have what these record and send
record Whole (asked : ServeSettings) (d : Course) : Type 0 where
  pub fit : AllFit d.events
  pub lines-are : recording asked d.events ≡ d.recorded ++ d.waiting
  pub client-is : to_clients (served asked) d.events ≡ d.to_client
  pub lost : List ℕ
  pub host-is : to_host (served asked) d.events ≡ d.to_host ++ lost

stands-whole : (asked : ServeSettings) (d : Course) (up host_up : Bool) → Holds (served asked) (first_comment asked.first_id) up host_up (course.seen d) → Whole asked d
stands-whole asked d up host_up h = record {
  fit = h.fit;
  lines-are = h.gathers.all-is;
  client-is = sym h.to_client-is;
  lost = [];
  host-is = sym h.to_host-is ∙ sym (append-nil d.to_host);
}

making-whole : (asked : ServeSettings) (d : Course) → IsMaking (served asked) (first_comment asked.first_id) d → Whole asked d
making-whole asked d h = record {
  fit = subst AllFit (sym h.events-are) tt;
  lines-are = ap (λ (l : List PastLinkEvent). recording asked l) h.events-are ∙ append-nil (first_comment asked.first_id) ∙ sym h.recorded-is ∙ sym (append-nil d.recorded) ∙ ap (λ (l : List ℕ). d.recorded ++ l) (sym h.none_waits);
  client-is = ap (to_clients (served asked)) h.events-are ∙ sym h.to_client-is;
  lost = (served asked).to_host [];
  host-is = ap (to_host (served asked)) h.events-are ∙ sym (ap (λ (l : List ℕ). l ++ (served asked).to_host []) h.to_host-is);
}

-- the events behind a call that was cut have their lines up to somewhere
part : (asked : ServeSettings) (c before : Course) (next : Next) (new : Outside) (held : List ℕ) → Reaches (setting_of asked) (Goes Making c) (Goes next before) → (taped later : List PastLinkEvent) (more lost : List ℕ)
    → (course_of (call (setting_of asked) next before)).events ≡ later ++ taped → AllFit (course_of (call (setting_of asked) next before)).events → recorded (served asked) (later ++ taped) ≡ recorded (served asked) taped ++ more ++ lost
    → held ≡ recording asked taped ++ more → length held ≤ tape_limit → WroteFront new.client.written (to_clients (served asked) taped) → WroteFront new.host.written (to_host (served asked) taped) → PlaysInPart asked c new held
part asked c before next new held reaches taped later more lost are fits whole is room client host =
    let p = served asked in
    let first = first_comment asked.first_id in
    let x = cut-at asked taped later more lost whole in
    let events = x.first ++ taped in
    let ends : EndsTape asked events (course_of (call (setting_of asked) next before)).events x.rest = subst (λ (l : List PastLinkEvent). EndsTape asked events l x.rest) (sym are) x.ends in
    let held-is : held ≡ recording asked events ++ x.rest =
    is ∙ append_assoc first (recorded p taped) more ∙ ap (λ (l : List ℕ). first ++ l) x.parts ∙ sym (append_assoc first (recorded p events) x.rest) in
    let in_all : length (recording asked events ++ x.rest) ≤ tape_limit = subst (λ (l : List ℕ). length l ≤ tape_limit) held-is room in
    let long = length-append (recording asked events) x.rest in
    let comes = recording-comes asked events (ends-fit asked events (course_of (call (setting_of asked) next before)).events x.rest ends fits) (omega (arith, in_all, long)) in
    record {
      next = next;
      course = before;
      reaches = reaches;
      events = events;
      lines = recorded p events;
      more = x.rest;
      are_lines = are-lines asked events;
      held-is = held-is;
      ends = ends;
      behind = comes.to;
      kept-is = comes.kept-is;
      bytes-are = omega (arith, comes.reads.bytes-are);
      prints = front-text asked events (read_of asked held) (rest_read asked comes.to x.rest) (front-read asked events x.rest held comes held-is);
      client = front-longer new.client.written (to_clients p taped) (to_clients p events) client (client-front p x.first taped);
      host = front-longer new.host.written (to_host p taped) (to_host p events) host (host-front p x.first taped);
    }

-- what the tape hasn't, behind a first line
behind-first : (first taped all more lost : List ℕ) → first ++ all ≡ first ++ taped ++ (more ++ lost) → all ≡ taped ++ more ++ lost
behind-first first taped all more lost is =
    append_cancel_left first all (taped ++ more ++ lost) (is ∙ append_assoc first taped (more ++ lost) ∙ ap (λ (l : List ℕ). first ++ l) (sym (append_assoc taped more lost)))

-- all lines of the call's event are there
recorded-all : (asked : ServeSettings) (x : ServeEnd) (c before : Course) (next : Next) (new : Outside) (out : Written) (held : List ℕ) → Reaches (setting_of asked) (Goes Making c) (Goes next before)
    → Cut (stopping asked x) new out before (course_of (call (setting_of asked) next before)) → held ≡ (course_of (call (setting_of asked) next before)).recorded → length held ≤ tape_limit → Facts asked (course_of (call (setting_of asked) next before))
    → Whole asked (course_of (call (setting_of asked) next before)) → PlaysInPart asked c new held
recorded-all asked x c before next new out held reaches cut is room f w =
    let p = served asked in
    let behind = course_of (call (setting_of asked) next before) in
    let taped = f.taped in
    let whole : first_comment asked.first_id ++ recorded p (f.later ++ taped) ≡ first_comment asked.first_id ++ recorded p taped ++ ([] ++ behind.waiting) =
    ap (λ (l : List PastLinkEvent). recording asked l) (sym f.events-are) ∙ w.lines-are ∙ ap (λ (l : List ℕ). l ++ behind.waiting) f.recorded-is in
    part asked c before next new held reaches taped f.later [] behind.waiting f.events-are w.fit (behind-first (first_comment asked.first_id) (recorded p taped) (recorded p (f.later ++ taped)) [] behind.waiting whole)
    (is ∙ f.recorded-is ∙ sym (append-nil (recording asked taped))) room
    (front-between new.client.written before.to_client behind.to_client (to_clients p taped) [] cut.to_client (sym f.client-is ∙ sym (append-nil behind.to_client)))
    (front-between new.host.written before.to_host behind.to_host (to_host p taped) f.lost cut.to_host f.host-is)

-- the lines of the call's event are there in part
recorded-some : (asked : ServeSettings) (c before : Course) (next : Next) (new : Outside) (held : List ℕ) → Reaches (setting_of asked) (Goes Making c) (Goes next before)
    → IsRecordedInPart new before (course_of (call (setting_of asked) next before)) held → length held ≤ tape_limit → Facts asked before → Whole asked (course_of (call (setting_of asked) next before)) → PlaysInPart asked c new held
recorded-some asked c before next new held reaches some room f w =
    let p = served asked in
    let first = first_comment asked.first_id in
    let behind = course_of (call (setting_of asked) next before) in
    let taped = f.taped in
    let taken = call-takes (setting_of asked) next before in
    let later = taken.0 ++ f.later in
    let are : behind.events ≡ later ++ taped = taken.1 ∙ ap (λ (l : List PastLinkEvent). taken.0 ++ l) f.events-are ∙ sym (append_assoc taken.0 f.later taped) in
    let whole : first ++ recorded p (later ++ taped) ≡ first ++ recorded p taped ++ (some.more ++ (some.lost ++ behind.waiting)) =
    ap (λ (l : List PastLinkEvent). recording asked l) (sym are) ∙ w.lines-are ∙ ap (λ (l : List ℕ). l ++ behind.waiting) some.all-is
    ∙ append_assoc (before.recorded ++ some.more) some.lost behind.waiting ∙ append_assoc before.recorded some.more (some.lost ++ behind.waiting)
    ∙ ap (λ (l : List ℕ). l ++ (some.more ++ (some.lost ++ behind.waiting))) f.recorded-is in
    part asked c before next new held reaches taped later some.more (some.lost ++ behind.waiting) are w.fit (behind-first first (recorded p taped) (recorded p (later ++ taped)) some.more (some.lost ++ behind.waiting) whole)
    (some.held-is ∙ ap (λ (l : List ℕ). l ++ some.more) f.recorded-is) room
    (front-of new.client.written (to_clients p taped) before.to_client [] some.to_client (sym f.client-is ∙ sym (append-nil before.to_client)))
    (front-of new.host.written (to_host p taped) before.to_host f.lost some.to_host f.host-is)

-- ---- memory ran out in an event

-- the event's own line is there
recorded-line : (asked : ServeSettings) (x : ServeEnd) (c before : Course) (next : Next) (new : Outside) (out : Written) (held : List ℕ) → Reaches (setting_of asked) (Goes Making c) (Goes next before)
    → Cut (stopping asked x) new out before (course_of (call (setting_of asked) next before)) → IsRecordedUntold (stopping asked x) new before (course_of (call (setting_of asked) next before)) held → length held ≤ tape_limit → Whole asked before
    → Whole asked (course_of (call (setting_of asked) next before)) → PlaysInPart asked c new held
recorded-line asked x c before next new out held reaches cut line room b f =
    let p = served asked in
    let first = first_comment asked.first_id in
    let behind = course_of (call (setting_of asked) next before) in
    let events = line.event ∷ before.events in
    let lines = recorded p before.events ++ event_line line.event in
    let held-is : held ≡ recording asked before.events ++ event_lines line.event [] =
    line.held-is ∙ sym (append_assoc before.recorded before.waiting (event_line line.event)) ∙ ap (λ (l : List ℕ). l ++ event_line line.event) (sym b.lines-are) ∙ ap (λ (l : List ℕ). recording asked before.events ++ l) (sym (append-nil (event_line line.event))) in
    let all : recording asked before.events ++ event_lines line.event [] ≡ first ++ lines =
    ap (λ (l : List ℕ). recording asked before.events ++ l) (append-nil (event_line line.event)) ∙ append_assoc first (recorded p before.events) (event_line line.event) in
    let fits : length (recording asked before.events ++ event_lines line.event []) ≤ tape_limit = subst (λ (l : List ℕ). length l ≤ tape_limit) held-is room in
    let comes = line-comes asked before.events line.event (subst AllFit line.takes f.fit) fits in
    record {
      next = next;
      course = before;
      reaches = reaches;
      events = events;
      lines = lines;
      more = [];
      are_lines = inr (record { lines-are = refl; client = line.sent_client; host = line.sent_host; ran_out = ran-within asked x before.events line.event line.sent_client line.sent_host line.stopped });
      held-is = held-is ∙ all ∙ sym (append-nil (first ++ lines));
      ends = inl (line.takes, refl);
      behind = comes.to;
      kept-is = comes.kept-is;
      bytes-are = omega (arith, comes.reads.bytes-are, ap (λ (l : List ℕ). length l) all);
      prints = front-text asked events (read_of asked held) (rest_read asked comes.to []) (ap (read_of asked) (held-is ∙ sym (append-nil (recording asked before.events ++ event_lines line.event []))) ∙ comes.reads.goes_on []);
      client = front-between new.client.written before.to_client behind.to_client (to_clients p events) [] cut.to_client (ap (to_clients p) (sym line.takes) ∙ f.client-is ∙ sym (append-nil behind.to_client));
      host = front-between new.host.written before.to_host behind.to_host (to_host p events) f.lost cut.to_host (ap (to_host p) (sym line.takes) ∙ f.host-is);
    }

cut-plays : (asked : ServeSettings) (x : ServeEnd) (c before : Course) (next : Next) (new : Outside) (out : Written) (held : List ℕ) → Reaches (setting_of asked) (Goes Making c) (Goes next before)
    → Cut (stopping asked x) new out before (course_of (call (setting_of asked) next before)) → out.tape ≡ Some held → length held ≤ tape_limit → At (served asked) (first_comment asked.first_id) next before → PlaysInPart asked c new held
cut-plays asked x c before next new out held reaches cut tape-is room at-next = go (subst (λ (o : Option (List ℕ)). IfSome o (λ (l : List ℕ). HasLines (stopping asked x) new out before behind l)) tape-is cut.tape)
  where
    behind : Course
    behind = course_of (call (setting_of asked) next before)

    comes : course.Comes (served asked) (first_comment asked.first_id) (call (setting_of asked) next before)
    comes = call-comes (setting_of asked) (first_comment asked.first_id) next before at-next

    all : Whole asked behind
    all = outcome-each (served asked) (first_comment asked.first_id) (Whole asked) (making-whole asked) (stands-whole asked) (call (setting_of asked) next before) comes

    go : HasLines (stopping asked x) new out before behind held → PlaysInPart asked c new held
    go (inl is) = recorded-all asked x c before next new out held reaches cut is room (outcome-each (served asked) (first_comment asked.first_id) (Facts asked) (making-facts asked) (stands-facts asked) (call (setting_of asked) next before) comes) all
    go (inr (told, inl some)) = recorded-some asked c before next new held reaches some room (at-each (served asked) (first_comment asked.first_id) (Facts asked) (making-facts asked) (stands-facts asked) next before at-next) all
    go (inr (told, inr line)) = recorded-line asked x c before next new out held reaches cut line room (at-each (served asked) (first_comment asked.first_id) (Whole asked) (making-whole asked) (stands-whole asked) next before at-next) all

-- ---- each end

fresh-making : (asked : ServeSettings) (c : Course) → IsFresh asked c → IsMaking (served asked) (first_comment asked.first_id) c
fresh-making asked c f = record {
  events-are = f.begins.events;
  client_up-is = f.begins.client_down;
  recorded-is = f.recorded-is;
  none_waits = f.begins.none_waits;
  to_client-is = f.no_client;
  to_host-is = f.no_host;
  client = f.client;
  clients = f.clients;
  host = f.host;
}

reached : (asked : ServeSettings) (c : Course) (o : Outcome) → IsFresh asked c → Reaches (setting_of asked) (Goes Making c) o → course.Comes (served asked) (first_comment asked.first_id) o
reached asked c o f r =
    subst (course.Comes (served asked) (first_comment asked.first_id)) r.is (calls-come (setting_of asked) (first_comment asked.first_id) r.count (Goes Making c) (fresh-making asked c f))

ended-plays : (asked : ServeSettings) (c : Course) (e : ServeEnd) (new : Outside) (out : Written) (held : List ℕ) → ((d : Course) → NoneWaits e d → d.waiting ≡ []) → IsFresh asked c → out.tape ≡ Some held → length held ≤ tape_limit → EndsSo (setting_of asked) (Goes Making c) e new out → Plays asked c new held
ended-plays asked c e new out held none f tape-is room x = plays asked c x.course e new out held x.reaches x.tells tape-is room (none x.course (ended-waiting (setting_of asked) Making c e x.course x.reaches)) (reached asked c (Stops e x.course) f x.reaches)

short-plays : (asked : ServeSettings) (e : ServeEnd) (c : Course) (new : Outside) (out : Written) (held : List ℕ) → IsFresh asked c → out.tape ≡ Some held → length held ≤ tape_limit → CutShort e (gate_runs_out asked.first_id) (setting_of asked) (Goes Making c) new out → PlaysInPart asked c new held
short-plays asked e c new out held f tape-is room x = cut-plays asked e c x.course x.next new out held x.reaches x.cut tape-is room (reached asked c (Goes x.next x.course) f x.reaches)

end-replays : (asked : ServeSettings) (c : Course) (e : ServeEnd) (new : Outside) (out : Written) (held : List ℕ) → IsFresh asked c → out.tape ≡ Some held → length held ≤ tape_limit → Leaves e (gate_runs_out asked.first_id) (setting_of asked) (Goes Making c) new out
    → (before : Option (List ℕ)) → Replays (ended_as e) asked c before new held
end-replays asked c (end.Ended None) new out held f tape-is room x before = ended-plays asked c (end.Ended None) new out held (λ d h. h) f tape-is room x
end-replays asked c (end.Ended (Some r)) new out held f tape-is room x before = ended-plays asked c (end.Ended (Some r)) new out held (λ d h. h) f tape-is room x
end-replays asked c end.Idle new out held f tape-is room x before = ended-plays asked c end.Idle new out held (λ d h. h) f tape-is room x
end-replays asked c end.Spent new out held f tape-is room x before = ended-plays asked c end.Spent new out held (λ d h. h) f tape-is room x
end-replays asked c (end.LinkFault side) new out held f tape-is room x before = short-plays asked (end.LinkFault side) c new out held f tape-is room x
end-replays asked c end.WriteFault new out held f tape-is room x before = inr (inr (short-plays asked end.WriteFault c new out held f tape-is room x))
end-replays asked c end.Memory new out held f tape-is room x before = inr (short-plays asked end.Memory c new out held f tape-is room x)

-- ---- nothing was done

untouched : (asked : ServeSettings) (c : Course) (old : Outside) (out : Written) → IsFresh asked c → Tells old out c → IsUnserved old
untouched asked c old out f tells = record {
  client = tells.client.written-is ∙ ap (λ (l : List ℕ). Some l) f.no_client;
  host = tells.host.written-is ∙ ap (λ (l : List ℕ). Some l) f.no_host;
}

plays-nothing : (asked : ServeSettings) (new : Outside) (held : List ℕ) → IsUnserved new → Begins held (first_comment asked.first_id) → length held ≤ tape_limit → PlaysNothing asked new held
plays-nothing asked new held unserved front room =
    let read = first-line-read asked held front room in
    let command = over_events (replay asked.first_id) in
    let made = opening_text asked.first_id in
    record {
      unserved = unserved;
      front = front;
      good = ap (λ (x : Reading (List PastEvent)). x.bad) read.read-is;
      none = ap (λ (x : Reading (List PastEvent)). x.after.kept) read.read-is ∙ read.kept-is;
      prints = ap (λ (x : Reading (List PastEvent)). made ++ x.text ++ last_text command x) read.read-is
          ∙ ap (λ (l : List ℕ). l ++ counts_line (counts_of asked.first_id (history asked.first_id read.to.kept))) (append-nil made)
          ∙ ap (λ (l : List PastEvent). made ++ counts_line (counts_of asked.first_id (history asked.first_id l))) read.kept-is;
    }

unmade-replays : (status : Status) (asked : ServeSettings) (c : Course) (before : Option (List ℕ)) (new : Outside) (held : List ℕ) (t t' : Counts) → IsUnmade status t t' → IsAsBefore before new held → Replays status asked c before new held
unmade-replays Usage asked c before new held t t' is x = x
unmade-replays WriteFault asked c before new held t t' is x = inl x
unmade-replays OutOfMemory asked c before new held t t' is x = inl x
unmade-replays Done asked c before new held t t' is x = absurd is
unmade-replays Refused asked c before new held t t' is x = absurd is
unmade-replays ReadFault asked c before new held t t' is x = absurd is
unmade-replays (LinkFault side) asked c before new held t t' is x = absurd is
unmade-replays (BadTape n) asked c before new held t t' is x = absurd is
unmade-replays Idle asked c before new held t t' is x = absurd is
unmade-replays Spent asked c before new held t t' is x = absurd is

unbegun-replays : (status : Status) (asked : ServeSettings) (c : Course) (before after : Option (List ℕ)) (new : Outside) (held : List ℕ) (t t' : Counts) → after ≡ Some held → length held ≤ tape_limit → IsUnmade status t t' → IsUnserved new → IsUnbegun asked.first_id status before after → Replays status asked c before new held
unbegun-replays status asked c before after new held t t' tape-is room is none (inl same) = unmade-replays status asked c before new held t t' is (record { unserved = none; before-is = sym same ∙ tape-is })
unbegun-replays status asked c before after new held t t' tape-is room is none (inr cut) =
    let front = subst (λ (o : Option (List ℕ)). IfSome o (λ (l : List ℕ). Begins l (first_comment asked.first_id))) tape-is cut.1 in
    subst (λ (s : Status). Replays s asked c before new held) (sym cut.0) (inr (inl (plays-nothing asked new held none front room)))

-- ---- the law

told-line : (known : Option (List ℕ)) (line recorded waiting : List ℕ) → IfSome known (λ (l : List ℕ). l ≡ line) → recorded ≡ line → waiting ≡ [] → IfSome known (λ (l : List ℕ). (l ≡ recorded) × ([] ≡ waiting))
told-line None line recorded waiting h is none = tt
told-line (Some l) line recorded waiting h is none = (h ∙ sym is, sym none)

pub replays : (status : Status) (asked : ServeSettings) (name : List ℕ) (old new : Known) (c : Course) (held : List ℕ) → asked.recording ≡ Some name → Serves asked.recording asked status old new → IsFresh asked c
    → Tells old.outside (written old.written.begun old.written.told None) c → new.written.tape ≡ Some held → length held ≤ tape_limit → Replays status asked c old.written.tape new.outside held
replays status asked name old new c held asks serves fresh tells tape-is room = go (subst (λ (o : Option (List ℕ)). Serves o asked status old new) asks serves)
  where
    go : IsUnrecorded asked status old new ⊎ IsRecorded asked status old new → Replays status asked c old.written.tape new.outside held
    go (inl x) =
        unbegun-replays status asked c old.written.tape new.written.tape new.outside held old.faults.tape new.faults.tape tape-is room x.cause
        (subst IsUnserved (sym x.outside-is) (untouched asked c old.outside (written old.written.begun old.written.told None) fresh tells)) x.tape
    go (inr x) =
        subst (λ (s : Status). Replays s asked c old.written.tape new.outside held) (sym x.ends.status-is)
        (end-replays asked c x.ends.end new.outside new.written held fresh tape-is room
        (x.ends.leaves c fresh.begins (record { client = tells.client; host = tells.host; clients = tells.clients; told = tells.told; tape = told-line x.tape (first_comment asked.first_id) c.recorded c.waiting x.first_line fresh.recorded-is fresh.begins.none_waits })) old.written.tape)
