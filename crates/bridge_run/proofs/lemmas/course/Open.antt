-- The making, and the opening of both sides.
use Rattle.std.proofs.Common.{◌≡◌, ℕ, true, false, List, [], ◌++◌, Option, Some, None, IfSome, Result, Ok, Err, refl, sym, ap, ◌∙◌, subst, inl, inr, append-nil}
use Rattle.gate_outside.specs.Link.{Link, Door}
use Rattle.gate_outside.specs.Doors.{opened, faulted}
use Rattle.std.specs.Result.{IsErrAnd}
use Rattle.bridge_run.specs.events.Events.{PastLinkEvent}
use Rattle.bridge_run.specs.declared.course.serve_end.ServeEnd.{ServeEnd}
use Rattle.bridge_run.specs.events.Prescribed.{Prescribed, first_of}
use Rattle.bridge_run.specs.course.Course.{Setting, Course, Making, AtDoor}
use Rattle.bridge_run.specs.course.Calls.{Goes, make, come, course_of}
use Rattle.bridge_run.specs.course.Outside.{Outside, Shows, Tells, IsTold, IsBetween, IsTaped, HasLines, Cut, Written}
use Rattle.bridge_run.specs.course.Serves.{CutShort, NothingYet}
use Rattle.bridge_run.specs.inner.Links.{WritesFront}
use Rattle.bridge_run.specs.inner.Keeping.{begun}
use Rattle.bridge_run.specs.events.RanOut.{Never}
use Rattle.bridge_run.specs.inner.Follows.{IsServing, Opens}
use Rattle.bridge_run.proofs.lemmas.course.Course.{reaches-none, cut-next}
use Rattle.bridge_run.proofs.lemmas.written.Put.{between-none, between-front, if-told}
use Rattle.bridge_run.proofs.lemmas.course.Answers.{same-recorded, door-cut, not_accepted, call-door}

-- all that the making leaves, whatever of its hello is written
opening-cut : {ran_out : List PastLinkEvent → PastLinkEvent → List ℕ → List ℕ → Type 0} → (p : Prescribed) (c : Course) (w : Outside) (out : Written) → w.client.turns ≡ Some c.client → w.host.turns ≡ Some c.host → w.door.to_come ≡ Some c.clients → w.client.written ≡ Some c.to_client → IsTold out c.told
    → IsTaped out c → IsBetween c.to_host w.host.written (c.to_host ++ p.to_host []) → Cut ran_out w out c (make p c)
opening-cut {ran_out = ran_out} p c w out client host clients to_client told tape between = record {
  client = inl client;
  host = inl host;
  clients = inl clients;
  to_client = between-none c.to_client w.client.written c.to_client [] to_client (sym (append-nil c.to_client));
  to_host = between;
  told = if-told out.begun (λ (is : out.told ≡ Some c.told). between-none c.told out.told c.told [] is (sym (append-nil c.told))) told;
  tape = same-recorded ran_out _ w out c (make p c) out.tape tape refl;
}

pub opening-before : {ran_out : List PastLinkEvent → PastLinkEvent → List ℕ → List ℕ → Type 0} → (p : Prescribed) (c : Course) (w : Outside) (out : Written) → Tells w out c → Cut ran_out w out c (make p c)
opening-before p c w out t =
    opening-cut p c w out t.client.turns-is t.host.turns-is t.clients t.client.written-is t.told t.tape (between-none c.to_host w.host.written (c.to_host ++ p.to_host []) (p.to_host []) t.host.written-is refl)

-- nothing was done
pub making-short : {end : ServeEnd} {runs_out : List PastLinkEvent → PastLinkEvent → List ℕ → List ℕ → Type 0} → (s : Setting) (c : Course) (w : Outside) (out : Written) → Tells w out c → CutShort end runs_out s (Goes Making c) w out
making-short s c w out t = cut-next s (Goes Making c) Making c (make s.served c) w out (reaches-none s (Goes Making c)) refl (opening-before s.served c w out t)

pub not_dialled : {ran_out : List PastLinkEvent → PastLinkEvent → List ℕ → List ℕ → Type 0} → (p : Prescribed) (c : Course) (w w' : Outside) (out : Written) → Tells w out c → w'.host ≡ faulted w.host → w'.client ≡ w.client → w'.door ≡ w.door → Cut ran_out w' out c (make p c)
not_dialled p c w w' out t host client door =
    opening-cut p c w' out (ap (λ (l : Link). l.turns) client ∙ t.client.turns-is) (ap (λ (l : Link). l.turns) host ∙ t.host.turns-is) (ap (λ (d : Door). d.to_come) door ∙ t.clients)
    (ap (λ (l : Link). l.written) client ∙ t.client.written-is) t.told t.tape (between-none c.to_host w'.host.written (c.to_host ++ p.to_host []) (p.to_host []) (ap (λ (l : Link). l.written) host ∙ t.host.written-is) refl)

pub not_listened : {ran_out : List PastLinkEvent → PastLinkEvent → List ℕ → List ℕ → Type 0} → (p : Prescribed) (c : Course) (w w' : Outside) (out : Written) → Tells w out c → w'.host ≡ opened w.host → w'.client ≡ faulted w.client → w'.door ≡ w.door → Cut ran_out w' out c (make p c)
not_listened p c w w' out t host client door =
    opening-cut p c w' out (ap (λ (l : Link). l.turns) client ∙ t.client.turns-is) (ap (λ (l : Link). l.turns) host ∙ t.host.turns-is) (ap (λ (d : Door). d.to_come) door ∙ t.clients)
    (ap (λ (l : Link). l.written) client ∙ t.client.written-is) t.told t.tape (between-none c.to_host w'.host.written (c.to_host ++ p.to_host []) (p.to_host []) (ap (λ (l : Link). l.written) host ∙ t.host.written-is) refl)

pub not_greeted : {ran_out : List PastLinkEvent → PastLinkEvent → List ℕ → List ℕ → Type 0} → (p : Prescribed) (c : Course) (w w' : Outside) (mid : Link) (out : Written) (hello : List ℕ) → hello ≡ p.to_host [] → Tells w out c → mid ≡ opened w.host → WritesFront true hello mid w'.host → w'.client ≡ w.client
    → w'.door ≡ record w.door { made = true } → Cut ran_out w' out c (make p c)
not_greeted p c w w' mid out hello is t host front client door =
    let shows : Shows mid true c.host c.to_host = record { up-is = ap (λ (l : Link). l.up) host; turns-is = ap (λ (l : Link). l.turns) host ∙ t.host.turns-is; written-is = ap (λ (l : Link). l.written) host ∙ t.host.written-is } in
    opening-cut p c w' out (ap (λ (l : Link). l.turns) client ∙ t.client.turns-is) (ap (λ (l : Link). l.turns) front.link ∙ shows.turns-is) (ap (λ (d : Door). d.to_come) door ∙ t.clients)
    (ap (λ (l : Link). l.written) client ∙ t.client.written-is) t.told t.tape
    (subst (λ (b : List ℕ). IsBetween c.to_host w'.host.written (c.to_host ++ b)) is (between-front true c.to_host hello mid w'.host c.host shows front))

-- an error that a `?` hands on
pub cut-opens : {T : Type 0} → (Q : ServeEnd → Type 0) (result : Result T ServeEnd) (p : Prescribed) (w : Outside) (out : Written) (c : Course) → IsErrAnd result Q → Cut Never w out c (make p c) → Opens result p w out c
cut-opens Q (Ok x) p w out c is cut = absurd is
cut-opens Q (Err x) p w out c is cut = cut

-- the making is no event, in which memory may run out
never-lines : (ran_out : List PastLinkEvent → PastLinkEvent → List ℕ → List ℕ → Type 0) (w : Outside) (out : Written) (c d : Course) (known : Option (List ℕ)) → IfSome known (λ held. HasLines Never w out c d held) → IfSome known (λ held. HasLines ran_out w out c d held)
never-lines ran_out w out c d None is = tt
never-lines ran_out w out c d (Some held) is = go is
  where
    go : HasLines Never w out c d held → HasLines ran_out w out c d held
    go (inl all) = inl all
    go (inr (told, inl part)) = inr (told, inl part)
    go (inr (told, inr untold)) = absurd untold.stopped

pub never-cut : {ran_out : List PastLinkEvent → PastLinkEvent → List ℕ → List ℕ → Type 0} → (w : Outside) (out : Written) (c d : Course) → Cut Never w out c d → Cut ran_out w out c d
never-cut {ran_out = ran_out} w out c d x = record {
  client = x.client;
  host = x.host;
  clients = x.clients;
  to_client = x.to_client;
  to_host = x.to_host;
  told = x.told;
  tape = never-lines ran_out w out c d out.tape x.tape;
}

-- the rounds begin
pub begun-follows : (stands : List PastLinkEvent → Type 0) (p : Prescribed) (idle budget : ℕ) (w : Outside) (out : Written) (c : Course) → NothingYet idle budget c → stands [] → p.refusals [] ≡ [] → Tells w out (make p c)
    → IsServing stands p (record (begun idle budget) { host_up = true }) w out (make p c)
begun-follows stands p idle budget w out c b s none t = record {
  stands_for = subst stands (sym b.events) s;
  tells = t;
  client_up = sym b.client_down;
  host_up = refl;
  busy = sym b.busy;
  waits = sym b.waits;
  left = sym b.left;
  refused = ap first_of (sym none) ∙ ap (λ (es : List PastLinkEvent). first_of (p.refusals es)) (sym b.events);
}

-- ---- with a door alone

-- nothing was done
pub door-short : {end : ServeEnd} {runs_out : List PastLinkEvent → PastLinkEvent → List ℕ → List ℕ → Type 0} → (s : Setting) (c : Course) (w : Outside) (out : Written) → c.client_up ≡ false → Tells w out c → CutShort end runs_out s (Goes AtDoor c) w out
door-short s c w out down t =
    cut-next s (Goes AtDoor c) AtDoor c (course_of (come c.clients c)) w out (reaches-none s (Goes AtDoor c)) (ap course_of (call-door s c down))
    (door-cut w out c t.client.turns-is t.host.turns-is t.clients t.client.written-is t.host.written-is t.told t.tape)

-- the door could not be made
pub door-unmade : {end : ServeEnd} {runs_out : List PastLinkEvent → PastLinkEvent → List ℕ → List ℕ → Type 0} → (s : Setting) (c : Course) (w w' : Outside) (out : Written) → c.client_up ≡ false → Tells w out c → w'.client ≡ faulted w.client → w'.host ≡ w.host → w'.door ≡ w.door → CutShort end runs_out s (Goes AtDoor c) w' out
door-unmade s c w w' out down t client host door =
    cut-next s (Goes AtDoor c) AtDoor c (course_of (come c.clients c)) w' out (reaches-none s (Goes AtDoor c)) (ap course_of (call-door s c down)) (not_accepted w w' out c t client host door)

-- the rounds begin
pub door-follows : (stands : List PastLinkEvent → Type 0) (p : Prescribed) (idle budget : ℕ) (w w' : Outside) (out : Written) (c : Course) → NothingYet idle budget c → stands [] → p.refusals [] ≡ [] → Tells w out c
    → w'.client ≡ w.client → w'.host ≡ w.host → w'.door ≡ record w.door { made = true }
    → IsServing stands p (begun idle budget) w' out c
door-follows stands p idle budget w w' out c b s none t client host door = record {
  stands_for = subst stands (sym b.events) s;
  tells = record {
    client = subst (λ (l : Link). Shows l c.client_up c.client c.to_client) (sym client) t.client;
    host = subst (λ (l : Link). Shows l c.host_up c.host c.to_host) (sym host) t.host;
    clients = ap (λ (d : Door). d.to_come) door ∙ t.clients;
    told = t.told;
    tape = t.tape;
  };
  client_up = sym b.client_down;
  host_up = sym b.host_down;
  busy = sym b.busy;
  waits = sym b.waits;
  left = sym b.left;
  refused = ap first_of (sym none) ∙ ap (λ (es : List PastLinkEvent). first_of (p.refusals es)) (sym b.events);
}
