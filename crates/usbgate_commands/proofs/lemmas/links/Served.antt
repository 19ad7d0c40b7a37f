-- What serving and lending leave where they were not begun, and whose faults stand.
use Rattle.std.proofs.Common.{◌≡◌, ◌≢◌, ℕ, ◌-◌, Bool, true, false, cond, inl, List, [], ◌∷◌, ◌++◌, Option, Some, None, IfSome, refl, sym, ap, ◌∙◌, subst}
use Rattle.std.proofs.lemmas.List.{append-nil}
use Rattle.usb_base.specs.declared.side.Side.{Side}
use Rattle.usb_base.specs.declared.side.Side.TheVariants.{Client, Host}
use Rattle.gate_outside.specs.declared.turn.Turn.{Turn}
use Rattle.gate_outside.specs.Link.{Link, Door}
use Rattle.bridge_run.specs.declared.course.serve_end.ServeEnd.{ServeEnd}
use Rattle.bridge_run.specs.declared.course.serve_end.ServeEnd.TheVariants as end
use Rattle.bridge_run.specs.course.Course.{Course, Setting, Making, AtDoor, AtClient}
use Rattle.bridge_run.specs.course.Calls.{Goes, come, course_of}
use Rattle.gate_outside.specs.Faults.{Rose}
use Rattle.session_tape.specs.Tapes.{counts}
use Rattle.bridge_run.specs.course.Outside.{Outside, Faults, outside, written, faults, Tells, Cut, HasCause, IsBetween}
use Rattle.bridge_run.specs.events.Events.{PastLinkEvent}
use Rattle.bridge_run.specs.course.Serves.{MayRunOut, CutShort}
use Rattle.tape_run.specs.declared.status.Status.{Status}
use Rattle.tape_run.specs.declared.status.Status.TheVariants.{LinkFault, OutOfMemory}
use Rattle.usbgate_commands.specs.words.Serving.{ServeSettings}
use Rattle.usbgate_commands.specs.words.Lending.{AskedLent}
use Rattle.usbgate_commands.specs.links.Recording.{HasServed}
use Rattle.usbgate_commands.specs.links.Serves.{Known, Serves, EndsOf, device_runs_out, setting_of, setting_lent, ended_as}

-- nothing was written of what was to be put behind it
unwritten : (known : Option (List ℕ)) (least more : List ℕ) → known ≡ Some least → IsBetween least known (least ++ more)
unwritten known least more is = record {
  more = [];
  lost = more;
  known-is = is ∙ ap (λ (l : List ℕ). Some l) (sym (append-nil least));
  most-is = ap (λ (l : List ℕ). l ++ more) (sym (append-nil least));
}

as_it_is : (known : Option (List ℕ)) (least : List ℕ) → known ≡ Some least → IsBetween least known least
as_it_is known least is = record {
  more = [];
  lost = [];
  known-is = is ∙ ap (λ (l : List ℕ). Some l) (sym (append-nil least));
  most-is = sym (append-nil (least ++ []) ∙ append-nil least);
}

-- and of a sink that told its bytes as serving began
untold-more : (begun known : Option (List ℕ)) (told : List ℕ) → IfSome begun (λ (first : List ℕ). known ≡ Some told) → IfSome begun (λ (first : List ℕ). IsBetween told known told)
untold-more None known told is = tt
untold-more (Some first) known told is = as_it_is known told is

unmade : {runs_out : List PastLinkEvent → PastLinkEvent → List ℕ → List ℕ → Type 0} → (s : Setting) (c : Course) (w : Outside) (begun out : Option (List ℕ)) → Tells w (written begun out None) c → CutShort end.Memory runs_out s (Goes Making c) w (written begun out None)
unmade s c w begun out tells = record {
  next = Making;
  course = c;
  reaches = record { count = 0; is = refl };
  cut = record {
    client = inl tells.client.turns-is;
    host = inl tells.host.turns-is;
    clients = inl tells.clients;
    to_client = as_it_is w.client.written c.to_client tells.client.written-is;
    to_host = unwritten w.host.written c.to_host (s.served.to_host []) tells.host.written-is;
    told = untold-more begun out c.told tells.told;
    tape = tt;
  };
}

-- over a tape that tells nothing
abbrev untold-tape : Outside → Faults → Option (List ℕ) → Option (List ℕ) → Known
untold-tape w f begun out = record { outside = w; faults = f; written = written begun out None }

unserved-so : {runs_out : List PastLinkEvent → PastLinkEvent → List ℕ → List ℕ → Type 0} → (s : Setting) (w : Outside) (f : Faults) (begun out : Option (List ℕ)) → EndsOf runs_out s Making OutOfMemory (untold-tape w f begun out) (untold-tape w f begun out)
unserved-so s w f begun out = record {
  end = end.Memory;
  status-is = refl;
  cause = record { client = refl; host = refl; sink = refl };
  reason = tt;
  leaves = λ c begins tells. unmade s c w begun out tells;
}

-- memory ran out before
pub unserved : (recording : Option (List ℕ)) (asked : ServeSettings) (known : Known) → Serves recording asked OutOfMemory known known
unserved None asked known = record { tape-is = refl; counts-are = refl; ends = unserved-so (setting_of asked) known.outside (faults known.faults.sink (counts 0 0)) known.written.begun known.written.told }
unserved (Some name) asked known = inl (record { outside-is = refl; sink = refl; told = refl; cause = refl; tape = inl refl })

-- nobody is asked for at the door yet
no-guest : {ran_out : List PastLinkEvent → PastLinkEvent → List ℕ → List ℕ → Type 0} → (clients : List (List Turn)) (c : Course) (w : Outside) (begun out : Option (List ℕ)) → Tells w (written begun out None) c → Cut ran_out w (written begun out None) c (course_of (come clients c))
no-guest {ran_out = ran_out} clients c w begun out tells = go clients
  where
    -- whoever comes, nothing is sent or told
    quiet : (up : Bool) (client : List Turn) (later : List (List Turn)) (busy : Bool) (left : ℕ) → Cut ran_out w (written begun out None) c (record c { client_up = up; client = client; clients = later; busy = busy; left = left })
    quiet up client later busy left = record {
      client = inl tells.client.turns-is;
      host = inl tells.host.turns-is;
      clients = inl tells.clients;
      to_client = as_it_is w.client.written c.to_client tells.client.written-is;
      to_host = as_it_is w.host.written c.to_host tells.host.written-is;
      told = untold-more begun out c.told tells.told;
      tape = tt;
    }

    go : (clients : List (List Turn)) → Cut ran_out w (written begun out None) c (course_of (come clients c))
    go [] = quiet c.client_up c.client c.clients c.busy c.left
    go (turns ∷ later) = quiet true turns later true (c.left - 1)

unasked : {runs_out : List PastLinkEvent → PastLinkEvent → List ℕ → List ℕ → Type 0} → (s : Setting) (c : Course) (w : Outside) (begun out : Option (List ℕ)) → c.client_up ≡ false → Tells w (written begun out None) c → CutShort end.Memory runs_out s (Goes AtDoor c) w (written begun out None)
unasked {runs_out = runs_out} s c w begun out down tells = record {
  next = AtDoor;
  course = c;
  reaches = record { count = 0; is = refl };
  cut = subst (λ (d : Course). Cut (MayRunOut end.Memory runs_out s.served) w (written begun out None) c d) (sym (ap (λ (b : Bool). course_of (cond b (Goes AtClient c) (come c.clients c))) down)) (no-guest c.clients c w begun out tells);
}

pub unlent : (asked : AskedLent) (w : Outside) (count : ℕ) (out : Option (List ℕ)) → EndsOf (device_runs_out asked.device) (setting_lent asked) AtDoor OutOfMemory (untold-tape w (faults count (counts 0 0)) out out) (untold-tape w (faults count (counts 0 0)) out out)
unlent asked w count out = record {
  end = end.Memory;
  status-is = refl;
  cause = record { client = refl; host = refl; sink = refl };
  reason = tt;
  leaves = λ c begins tells. unasked (setting_lent asked) c w out out begins.client_down tells;
}

-- a link that didn't fail has the faults that it had
pub links-stand : (e : ServeEnd) (old new : Side → Link) (door_old door_new : Door) (faults_old faults_new : ℕ) (side : Side) → HasCause e (outside old door_old) (outside new door_new) (faults faults_old (counts 0 0)) (faults faults_new (counts 0 0)) →
    ended_as e ≢ LinkFault side → (new side).faults ≡ (old side).faults
links-stand (end.LinkFault Client) old new door_old door_new faults_old faults_new Client cause other = absurd (other refl)
links-stand (end.LinkFault Client) old new door_old door_new faults_old faults_new Host cause other = cause.host
links-stand (end.LinkFault Host) old new door_old door_new faults_old faults_new Client cause other = cause.client
links-stand (end.LinkFault Host) old new door_old door_new faults_old faults_new Host cause other = absurd (other refl)
links-stand end.WriteFault old new door_old door_new faults_old faults_new Client cause other = cause.client
links-stand end.WriteFault old new door_old door_new faults_old faults_new Host cause other = cause.host
links-stand (end.Ended refused) old new door_old door_new faults_old faults_new Client cause other = cause.client
links-stand (end.Ended refused) old new door_old door_new faults_old faults_new Host cause other = cause.host
links-stand end.Idle old new door_old door_new faults_old faults_new Client cause other = cause.client
links-stand end.Idle old new door_old door_new faults_old faults_new Host cause other = cause.host
links-stand end.Spent old new door_old door_new faults_old faults_new Client cause other = cause.client
links-stand end.Spent old new door_old door_new faults_old faults_new Host cause other = cause.host
links-stand end.Memory old new door_old door_new faults_old faults_new Client cause other = cause.client
links-stand end.Memory old new door_old door_new faults_old faults_new Host cause other = cause.host

-- ---- a side's link

pub link-fault-of : (status : Status) (side : Side) (old new : Side → Link) (door door' : Door) (f f' : Faults) → status ≡ LinkFault side → HasServed status (outside old door) (outside new door') f f' → Rose (old side).faults (new side).faults
link-fault-of status Client old new door door' f f' is h = h.client_fault is
link-fault-of status Host old new door door' f f' is h = h.host_fault is

pub link-stands : (status : Status) (side : Side) (old new : Side → Link) (door door' : Door) (f f' : Faults) → status ≢ LinkFault side → HasServed status (outside old door) (outside new door') f f' → (new side).faults ≡ (old side).faults
link-stands status Client old new door door' f f' other h = h.client_stands other
link-stands status Host old new door door' f f' other h = h.host_stands other
