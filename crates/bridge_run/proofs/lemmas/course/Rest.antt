-- The end of a round.
use Rattle.std.proofs.Common.{◌≡◌, ◌⊎◌, ℕ, ◌+◌, ◌*◌, ◌-◌, ◌<◌, ◌≤◌, ◌==◌, not, Bool, true, false, cond, List, [], ◌++◌, Some, IfSome, Result, Ok, Err, refl, sym, ap, ◌∙◌, subst, inl, inr, append-nil, arith}
use Rattle.std.specs.Result.{OnOk}
use Rattle.std.proofs.lemmas.Bool.{false≢true}
use Rattle.std.proofs.Math.Nat.{mul-le-mul_left}
use Rattle.std.specs.Io.KnownBytes.{append_known}
use Rattle.usb_base.specs.declared.side.Side.{Side}
use Rattle.usb_base.specs.declared.side.Side.TheVariants.{Client, Host}
use Rattle.gate_outside.specs.Faults.{Rose}
use Rattle.bridge_run.specs.events.Events.{PastLinkEvent}
use Rattle.bridge_run.specs.declared.course.serve_end.ServeEnd.{ServeEnd}
use Rattle.bridge_run.specs.declared.course.serve_end.ServeEnd.TheVariants.{Ended, LinkFault, WriteFault, Idle, Spent, Memory}
use Rattle.bridge_run.specs.declared.course.rounds.Rounds.{Rounds}
use Rattle.bridge_run.specs.events.Prescribed.{Prescribed}
use Rattle.bridge_run.specs.course.Course.{Setting, Course, Next, AtDoor, AtEnd}
use Rattle.session_tape.specs.Tapes.{GrowsInPart}
use Rattle.bridge_run.specs.written.Recorded.{written_if, waiting_if}
use Rattle.bridge_run.specs.course.Calls.{Outcome, Goes, Stops, gathered, rest, course_of}
use Rattle.bridge_run.specs.course.Outside.{Outside, OneRose, NoFault, Tells, IsTold, Cut, Written, Faults}
use Rattle.bridge_run.specs.course.Serves.{Reaches}
use Rattle.bridge_run.specs.inner.Keeping.{up_of, with_down, one_if, chances_of, Wears, rounds_of, IsLive, RestsBusy, Rests}
use Rattle.bridge_run.specs.inner.Follows.{IsServing, HasFaults, setting, Comes, RunsOn}
use Rattle.bridge_run.proofs.lemmas.course.Course.{reaches-call, reaches-then, runs-then}
use Rattle.bridge_run.proofs.lemmas.course.Settle.{positive-not_zero, choice}
use Rattle.bridge_run.proofs.lemmas.written.Put.{moved, written-front, if-told, retold}
use Rattle.bridge_run.proofs.lemmas.course.Answers.{between-same}

-- ---- faults

rose-from : (a b c : ℕ) → b ≡ a → Rose b c → Rose a c
rose-from a b c e r = subst (λ (x : ℕ). Rose x c) e r

pub faults-then : {T : Type 0} → (result : Result T ServeEnd) (a b c : Outside) (f g h : Faults) → NoFault a b f g → HasFaults result b c g h → HasFaults result a c f h
faults-then (Ok x) a b c f g h n m = record { client = m.client ∙ n.client; host = m.host ∙ n.host; sink = m.sink ∙ n.sink }
faults-then (Err (LinkFault Client)) a b c f g h n m = record { client = rose-from a.client.faults b.client.faults c.client.faults n.client m.client; host = m.host ∙ n.host; sink = m.sink ∙ n.sink }
faults-then (Err (LinkFault Host)) a b c f g h n m = record { client = m.client ∙ n.client; host = rose-from a.host.faults b.host.faults c.host.faults n.host m.host; sink = m.sink ∙ n.sink }
faults-then (Err WriteFault) a b c f g h n m = record { client = m.client ∙ n.client; host = m.host ∙ n.host; sink = subst (λ (x : Faults). OneRose x h) n.sink m.sink }
faults-then (Err (Ended refused)) a b c f g h n m = record { client = m.client ∙ n.client; host = m.host ∙ n.host; sink = m.sink ∙ n.sink }
faults-then (Err Idle) a b c f g h n m = record { client = m.client ∙ n.client; host = m.host ∙ n.host; sink = m.sink ∙ n.sink }
faults-then (Err Spent) a b c f g h n m = record { client = m.client ∙ n.client; host = m.host ∙ n.host; sink = m.sink ∙ n.sink }
faults-then (Err Memory) a b c f g h n m = record { client = m.client ∙ n.client; host = m.host ∙ n.host; sink = m.sink ∙ n.sink }

-- none behind none
pub no-faults : {a b c : Outside} {f g h : Faults} → NoFault a b f g → NoFault b c g h → NoFault a c f h
no-faults n m = record { client = m.client ∙ n.client; host = m.host ∙ n.host; sink = m.sink ∙ n.sink }

pub no-fault : (w : Outside) (f : Faults) → NoFault w w f f
no-fault w f = record { client = refl; host = refl; sink = refl }

-- an end of the round's last step is no fault
pub rests-faults : (result : Result (Unit {0}) ServeEnd) (k k' : Rounds) (a b : Outside) (f g : Faults) → Rests result k k' → NoFault a b f g → HasFaults result a b f g
rests-faults (Ok x) k k' a b f g r n = n
rests-faults (Err Idle) k k' a b f g r n = n
rests-faults (Err (Ended refused)) k k' a b f g r n = absurd r
rests-faults (Err Spent) k k' a b f g r n = absurd r
rests-faults (Err (LinkFault side)) k k' a b f g r n = absurd r
rests-faults (Err WriteFault) k k' a b f g r n = absurd r
rests-faults (Err Memory) k k' a b f g r n = absurd r

-- ---- the course

-- what is kept has become another, and so has the course
rested : (stands : List PastLinkEvent → Type 0) (p : Prescribed) (k k' : Rounds) (w : Outside) (out : Written) (c : Course) (busy : Bool) (waits : ℕ) → IsServing stands p k w out c → k' ≡ record k { busy = busy; waits = waits }
    → (n : ℕ) → waits ≡ n → IsServing stands p k' w out (record c { busy = busy; waits = n })
rested stands p k k' w out c busy waits f kept n is =
    subst (λ (q : Rounds). IsServing stands p q w out (record c { busy = busy; waits = n })) (sym kept) (record {
      stands_for = f.stands_for;
      tells = record { client = f.tells.client; host = f.tells.host; clients = f.tells.clients; told = f.tells.told; tape = f.tells.tape };
      client_up = f.client_up;
      host_up = f.host_up;
      busy = refl;
      waits = is;
      left = f.left;
      refused = f.refused;
    })

rest-is : (s : Setting) (c : Course) (b last : Bool) → c.busy ≡ b → (c.waits - 1 == 0) ≡ last
    → rest s c ≡ cond b (Goes AtDoor (record c { busy = false; waits = s.idle })) (cond last (Stops Idle (record (gathered c) { waits = c.waits - 1 })) (Goes AtDoor (record (gathered c) { waits = c.waits - 1 })))
rest-is s c b last p q = choice c.busy (c.waits - 1 == 0) b last (Goes AtDoor (record c { busy = false; waits = s.idle })) (Stops Idle (record (gathered c) { waits = c.waits - 1 })) (Goes AtDoor (record (gathered c) { waits = c.waits - 1 })) p q

-- what waits was written where the round brought nothing
pub record Flushes (busy : Bool) (out out' : Written) : Type 0 where
  pub told : (bytes : List ℕ) → IsTold out bytes → IsTold out' bytes
  pub tape : out'.tape ≡ append_known out.tape (written_if (not busy) out.waiting)
  pub waits : IfSome out'.tape (λ held. out'.waiting ≡ waiting_if (not busy) out.waiting)

flushed : (busy : Bool) (stands : List PastLinkEvent → Type 0) (p : Prescribed) (k : Rounds) (w : Outside) (out out' : Written) (c : Course) → IsServing stands p k w out c → Flushes busy out out' → IsServing stands p k w out' (cond busy c (gathered c))
flushed true stands p k w out out' c f is =
    retold stands p k w w out out' c c.client c.host c.recorded c.waiting f (record {
      client = f.tells.client;
      host = f.tells.host;
      clients = f.tells.clients;
      told = is.told c.told f.tells.told;
      tape = subst (λ (l : List ℕ). IfSome out'.tape (λ held. (held ≡ l) × (out'.waiting ≡ c.waiting))) (append-nil c.recorded)
          (moved (λ (l : List ℕ). []) (λ (l : List ℕ). l) out.tape out'.tape out.waiting out'.waiting c.recorded c.waiting f.tells.tape is.tape is.waits);
    })
flushed false stands p k w out out' c f is =
    retold stands p k w w out out' c c.client c.host (gathered c).recorded (gathered c).waiting f (record {
      client = f.tells.client;
      host = f.tells.host;
      clients = f.tells.clients;
      told = is.told c.told f.tells.told;
      tape = moved (λ (l : List ℕ). l) (λ (l : List ℕ). []) out.tape out'.tape out.waiting out'.waiting c.recorded c.waiting f.tells.tape is.tape is.waits;
    })

rest-ok : (b : Bool) (stands : List PastLinkEvent → Type 0) (runs_out : List PastLinkEvent → PastLinkEvent → List ℕ → List ℕ → Type 0) (p : Prescribed) (idle : ℕ) (k k' : Rounds) (w : Outside) (out : Written) (from : Outcome) (c : Course) → k.busy ≡ b → RestsBusy b k k' → k.idle ≡ idle
    → IsServing stands p k w out (cond b c (gathered c)) → Reaches (record { served = p; idle = idle }) from (Goes AtEnd c) → RunsOn {T = Unit {0}} (Ok tt) stands runs_out (record { served = p; idle = idle }) k' w out from AtDoor
rest-ok true stands runs_out p idle k k' w out from c is r same f reach =
    let s : Setting = record { served = p; idle = idle } in
    let d = record c { busy = false; waits = idle } in
    record {
      course = d;
      reaches = reaches-call s from AtEnd c (Goes AtDoor d) reach (rest-is s c true (c.waits - 1 == 0) (sym f.busy ∙ is) refl);
      follows = rested stands p k k' w out c false k.idle f r idle same;
    }
rest-ok false stands runs_out p idle k k' w out from c is r same f reach =
    let s : Setting = record { served = p; idle = idle } in
    let fewer = ap (λ (n : ℕ). n - 1) f.waits in
    let positive : 0 < c.waits - 1 = omega (arith, r.1, ap (λ (k : Rounds). k.waits) r.0, f.waits) in
    let quiet : false ≡ c.busy = sym is ∙ f.busy in
    record {
      course = record (gathered c) { busy = false; waits = c.waits - 1 };
      reaches = reaches-call s from AtEnd c (Goes AtDoor (record (gathered c) { busy = false; waits = c.waits - 1 })) reach
          (rest-is s c false false (sym quiet) (positive-not_zero (c.waits - 1) positive) ∙ ap (λ (b : Bool). Goes AtDoor (record (gathered c) { busy = b; waits = c.waits - 1 })) (sym quiet));
      follows = rested stands p k k' w out (gathered c) false (k.waits - 1) f (r.0 ∙ ap (λ (b : Bool). record k { busy = b; waits = k.waits - 1 }) is) (c.waits - 1) fewer;
    }

rest-idle : (stands : List PastLinkEvent → Type 0) (runs_out : List PastLinkEvent → PastLinkEvent → List ℕ → List ℕ → Type 0) (p : Prescribed) (idle : ℕ) (k k' : Rounds) (w : Outside) (out : Written) (from : Outcome) (c : Course) → Rests (Err Idle) k k'
    → IsServing stands p k w out (gathered c) → Reaches (record { served = p; idle = idle }) from (Goes AtEnd c) → RunsOn {T = Unit {0}} (Err Idle) stands runs_out (record { served = p; idle = idle }) k' w out from AtDoor
rest-idle stands runs_out p idle k k' w out from c r f reach =
    let s : Setting = record { served = p; idle = idle } in
    record {
      course = record (gathered c) { waits = c.waits - 1 };
      reaches = reaches-call s from AtEnd c (Stops Idle (record (gathered c) { waits = c.waits - 1 })) reach
          (rest-is s c false true (sym f.busy ∙ r.0) (ap (λ (n : ℕ). n == 0) (ap (λ (n : ℕ). n - 1) (sym f.waits) ∙ sym (ap (λ (k : Rounds). k.waits) r.1) ∙ r.2)));
      tells = record { client = f.tells.client; host = f.tells.host; clients = f.tells.clients; told = f.tells.told; tape = f.tells.tape };
    }

pub rests : (result : Result (Unit {0}) ServeEnd) (stands : List PastLinkEvent → Type 0) (runs_out : List PastLinkEvent → PastLinkEvent → List ℕ → List ℕ → Type 0) (p : Prescribed) (idle : ℕ) (k k' : Rounds) (w : Outside) (out out' : Written) (from : Outcome) (c : Course) → Rests result k k' → k.idle ≡ idle
    → IsServing stands p k w out c → Flushes k.busy out out' → Reaches (record { served = p; idle = idle }) from (Goes AtEnd c) → RunsOn result stands runs_out (record { served = p; idle = idle }) k' w out' from AtDoor
rests (Ok x) stands runs_out p idle k k' w out out' from c r same f is reach = rest-ok k.busy stands runs_out p idle k k' w out' from c refl r same (flushed k.busy stands p k w out out' c f is) reach
rests (Err Idle) stands runs_out p idle k k' w out out' from c r same f is reach =
    rest-idle stands runs_out p idle k k' w out' from c r (subst (λ (b : Bool). IsServing stands p k w out' (cond b c (gathered c))) r.0 (flushed k.busy stands p k w out out' c f is)) reach
rests (Err (Ended refused)) stands runs_out p idle k k' w out out' from c r same f is reach = absurd r
rests (Err Spent) stands runs_out p idle k k' w out out' from c r same f is reach = absurd r
rests (Err (LinkFault side)) stands runs_out p idle k k' w out out' from c r same f is reach = absurd r
rests (Err WriteFault) stands runs_out p idle k k' w out out' from c r same f is reach = absurd r
rests (Err Memory) stands runs_out p idle k k' w out out' from c r same f is reach = absurd r

-- ---- what waits is written in part

-- the end of a round writes what waits, where it brought nothing, and nothing else
record RestMoves (busy : Bool) (c d : Course) : Type 0 where
  pub to_client : d.to_client ≡ c.to_client
  pub to_host : d.to_host ≡ c.to_host
  pub told : d.told ≡ c.told
  pub recorded : d.recorded ≡ c.recorded ++ written_if (not busy) c.waiting

rest-moves : (busy last : Bool) (s : Setting) (c : Course)
    → RestMoves busy c (course_of (cond busy (Goes AtDoor (record c { busy = false; waits = s.idle })) (cond last (Stops Idle (record (gathered c) { waits = c.waits - 1 })) (Goes AtDoor (record (gathered c) { waits = c.waits - 1 })))))
rest-moves true last s c = record { to_client = refl; to_host = refl; told = refl; recorded = sym (append-nil c.recorded) }
rest-moves false true s c = record { to_client = refl; to_host = refl; told = refl; recorded = refl }
rest-moves false false s c = record { to_client = refl; to_host = refl; told = refl; recorded = refl }

pub rest-cut : {ran_out : List PastLinkEvent → PastLinkEvent → List ℕ → List ℕ → Type 0} → (s : Setting) (busy : Bool) (w : Outside) (out out' : Written) (c : Course) → busy ≡ c.busy → Tells w out c → IsTold out' c.told → GrowsInPart out.tape out'.tape (written_if (not busy) out.waiting) → Cut ran_out w out' c (course_of (rest s c))
rest-cut {ran_out = ran_out} s busy w out out' c is t told grows =
    let d = course_of (rest s c) in
    let m : RestMoves c.busy c d = rest-moves c.busy (c.waits - 1 == 0) s c in
    record {
      client = inl t.client.turns-is;
      host = inl t.host.turns-is;
      clients = inl t.clients;
      to_client = between-same c.to_client w.client.written d.to_client t.client.written-is m.to_client;
      to_host = between-same c.to_host w.host.written d.to_host t.host.written-is m.to_host;
      told = if-told out'.begun (λ (is : out'.told ≡ Some c.told). between-same c.told out'.told d.told is m.told) told;
      tape = written-front ran_out (λ (l : List ℕ). written_if (not busy) l) w out' c d out.tape out'.tape out.waiting grows t.tape
          (m.recorded ∙ ap (λ (b : Bool). c.recorded ++ written_if (not b) c.waiting) (sym is)) t.client.written-is t.host.written-is told;
    }

-- ---- fewer rounds are left

pub wears-then : (a b c : Rounds) → Wears a b → Wears b c → Wears a c
wears-then a b c p q = record { idle = q.idle ∙ p.idle; waits = q.waits ∙ p.waits; fewer = go p.fewer q.fewer }
  where
    go : (b.busy ≡ true) × (chances_of b < chances_of a) ⊎ (b.busy ≡ a.busy) × (chances_of b ≤ chances_of a) → (c.busy ≡ true) × (chances_of c < chances_of b) ⊎ (c.busy ≡ b.busy) × (chances_of c ≤ chances_of b)
        → (c.busy ≡ true) × (chances_of c < chances_of a) ⊎ (c.busy ≡ a.busy) × (chances_of c ≤ chances_of a)
    go (inl x) (inl y) = inl (y.0, omega (arith, x.1, y.1))
    go (inl x) (inr y) = inl (y.0 ∙ x.0, omega (arith, x.1, y.1))
    go (inr x) (inl y) = inl (y.0, omega (arith, x.1, y.1))
    go (inr x) (inr y) = inr (y.0 ∙ x.0, omega (arith, x.1, y.1))

-- a link that has ended is a chance gone
pub end-wears : (side : Side) (k k' : Rounds) → up_of side k ≡ true → k' ≡ record (with_down side k) { busy = true } → Wears k k'
end-wears Client k k' up is = subst (λ (x : Rounds). Wears k x) (sym is) (record { idle = refl; waits = refl; fewer = inl (refl, omega (arith, ap one_if up)) })
end-wears Host k k' up is = subst (λ (x : Rounds). Wears k x) (sym is) (record { idle = refl; waits = refl; fewer = inl (refl, omega (arith, ap one_if up)) })

-- with fewer chances there are fewer rounds, whatever waits
falls : (x y idle waits : ℕ) → x < y → 0 < waits → x * idle + idle < y * idle + waits
falls x y idle waits less some = let more : x + 1 ≤ y = omega arith in omega (arith, mul-le-mul_left idle more)

stays : (x y idle waits : ℕ) → x ≤ y → 0 < waits → x * idle + (waits - 1) < y * idle + waits
stays x y idle waits less some = omega (arith, mul-le-mul_left idle less)

rests-fewer_if : (b : Bool) (k m n : Rounds) → m.busy ≡ b → Wears k m → IsLive k → RestsBusy b m n → rounds_of n < rounds_of k
rests-fewer_if true k m n is w live r = go w.fewer
  where
    go : (m.busy ≡ true) × (chances_of m < chances_of k) ⊎ (m.busy ≡ k.busy) × (chances_of m ≤ chances_of k) → rounds_of n < rounds_of k
    go (inl x) = subst (λ (v : Rounds). rounds_of v < rounds_of k) (sym r) (subst (λ (i : ℕ). chances_of m * i + i < rounds_of k) (sym w.idle) (falls (chances_of m) (chances_of k) k.idle k.waits x.1 live.waits))
    go (inr x) = absurd (false≢true (sym live.rests ∙ sym x.0 ∙ is))
rests-fewer_if false k m n is w live r = go w.fewer
  where
    go : (m.busy ≡ true) × (chances_of m < chances_of k) ⊎ (m.busy ≡ k.busy) × (chances_of m ≤ chances_of k) → rounds_of n < rounds_of k
    go (inl x) = absurd (false≢true (sym is ∙ x.0))
    go (inr x) = subst (λ (v : Rounds). rounds_of v < rounds_of k) (sym r.0) (subst (λ (i : ℕ). chances_of m * i + (m.waits - 1) < rounds_of k) (sym w.idle)
        (subst (λ (n : ℕ). chances_of m * k.idle + (n - 1) < rounds_of k) (sym w.waits) (stays (chances_of m) (chances_of k) k.idle k.waits x.1 live.waits)))

pub fewer-if_ok : (result : Result (Unit {0}) ServeEnd) (k m n : Rounds) → Wears k m → IsLive k → Rests result m n → OnOk result (rounds_of n < rounds_of k)
fewer-if_ok (Ok x) k m n w live r = rests-fewer_if m.busy k m n refl w live r
fewer-if_ok (Err e) k m n w live r = tt

-- ---- one part of a round behind another

pub goes-on : {T : Type 0} → (result : Result T ServeEnd) (stands stands2 : List PastLinkEvent → Type 0) (runs_out : List PastLinkEvent → PastLinkEvent → List ℕ → List ℕ → Type 0) (p : Prescribed) (k0 k1 k2 : Rounds) (w w2 : Outside) (out out2 : Written) (from : Outcome) (next1 next2 : Next)
    → (a : Comes stands (setting p k0) k1 w out from next1) → k1.idle ≡ k0.idle → RunsOn result stands2 runs_out (setting p k1) k2 w2 out2 (Goes next1 a.course) next2 → RunsOn result stands2 runs_out (setting p k0) k2 w2 out2 from next2
goes-on result stands stands2 runs_out p k0 k1 k2 w w2 out out2 from next1 next2 a idle b =
    runs-then result stands2 runs_out (setting p k0) k2 w2 out2 from next1 a.course next2 a.reaches
    (subst (λ (i : ℕ). RunsOn result stands2 runs_out (record { served = p; idle = i }) k2 w2 out2 (Goes next1 a.course) next2) idle b)

-- behind a step that went well
pub goes-ok : {stands stands2 : List PastLinkEvent → Type 0} {k1 k2 : Rounds} {w w2 : Outside} {out out2 : Written} {from : Outcome} {next1 next2 : Next} → (p : Prescribed) (k0 : Rounds)
    → (a : Comes stands (setting p k0) k1 w out from next1) → k1.idle ≡ k0.idle → Comes stands2 (setting p k1) k2 w2 out2 (Goes next1 a.course) next2 → Comes stands2 (setting p k0) k2 w2 out2 from next2
goes-ok {stands2 = stands2} {k2 = k2} {w2 = w2} {out2 = out2} {from = from} {next1 = next1} {next2 = next2} p k0 a idle b =
    let c = subst (λ (i : ℕ). Comes stands2 (record { served = p; idle = i }) k2 w2 out2 (Goes next1 a.course) next2) idle b in
    record { course = c.course; reaches = reaches-then (setting p k0) from next1 a.course (Goes next2 c.course) a.reaches c.reaches; follows = c.follows }
