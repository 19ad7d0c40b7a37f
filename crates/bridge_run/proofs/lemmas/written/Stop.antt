-- What is written of an event that memory ran out in.
use Rattle.std.proofs.Common.{◌≡◌, ℕ, ◌||◌, not, Bool, true, false, cond, List, [], ◌∷◌, ◌++◌, Option, Some, None, IfSome, refl, sym, ap, ◌∙◌, subst, inl, inr, append-nil, append_assoc}
use Rattle.std.proofs.lemmas.Bool.{false≢true}
use Rattle.std.specs.List.{flat_map}
use Rattle.std.specs.Io.KnownBytes.{append_known}
use Rattle.std.proofs.Math.Bool.{or-true}
use Rattle.usb_base.specs.Writes.{Begins}
use Rattle.usb_base.specs.declared.refusal.Refusal.{Refusal}
use Rattle.usb_base.specs.Lists.{is_empty}
use Rattle.session_tape.specs.Lines.{refusal_comment}
use Rattle.session_tape.specs.Tapes.{GrowsInPart}
use Rattle.gate_outside.specs.declared.turn.Turn.{Turn}
use Rattle.gate_outside.specs.Link.{Link, Door}
use Rattle.bridge_run.specs.events.Events.{PastLinkEvent}
use Rattle.bridge_run.specs.events.Prescribed.{Prescribed, gained}
use Rattle.bridge_run.specs.written.Recorded.{event_line, lines_of, is_last, is_full, written_if}
use Rattle.bridge_run.specs.course.Course.{Course}
use Rattle.bridge_run.specs.course.Calls.{put, is_due, lines_with}
use Rattle.bridge_run.specs.course.Outside.{Outside, Written, Shows, Tells, IsTold, IsBetween, IsTaped, HasLines, Cut}
use Rattle.bridge_run.specs.inner.Links.{wrote_if, WritesFront}
use Rattle.bridge_run.proofs.lemmas.written.Put.{more_if, wrote-shows, between-all, between-front, told-before}

-- ---- its lines are due

has-more : (xs ys all : List ℕ) → all ≡ xs ++ ys → not (is_empty xs) ≡ true → not (is_empty all) ≡ true
has-more [] ys all is some = absurd (false≢true some)
has-more (x ∷ xs) ys all is some = ap (λ (l : List ℕ). not (is_empty l)) is

any-of : (a b x y rest : Bool) → (a || b) ≡ true → (a ≡ true → x ≡ true) → (b ≡ true → y ≡ true) → (x || (y || rest)) ≡ true
any-of true b x y rest some first second = ap (λ (z : Bool). z || (y || rest)) (first refl)
any-of false b x y rest some first second = ap (λ (z : Bool). x || (z || rest)) (second some) ∙ or-true x

-- bytes were sent of it
due-bytes : (p : Prescribed) (c : Course) (e : PastLinkEvent) (client host : List ℕ) → Begins client (gained p.to_client c.events e) → Begins host (gained p.to_host c.events e) → (not (is_empty client) || not (is_empty host)) ≡ true → is_due p e c ≡ true
due-bytes p c e client host f g some =
    let x = gained p.to_client c.events e in
    let y = gained p.to_host c.events e in
    let rs = gained p.refusals c.events e in
    ap (λ (b : Bool). (b || is_last c) || is_full (lines_with p e c))
    (any-of (not (is_empty client)) (not (is_empty host)) (not (is_empty x)) (not (is_empty y)) (not (is_empty rs) || p.lets_go (e ∷ c.events)) some (has-more client f.more x f.is) (has-more host g.more y g.is))

-- so that they are all that the call records
all-lines : (p : Prescribed) (c : Course) (e : PastLinkEvent) → is_due p e c ≡ true → (put p e c).recorded ≡ (c.recorded ++ (c.waiting ++ event_line e)) ++ flat_map refusal_comment (gained p.refusals c.events e)
all-lines p c e due =
    let comments = flat_map refusal_comment (gained p.refusals c.events e) in
    ap (λ (b : Bool). c.recorded ++ written_if b (lines_with p e c)) due
    ∙ ap (λ (l : List ℕ). c.recorded ++ l) (sym (append_assoc c.waiting (event_line e) comments))
    ∙ sym (append_assoc c.recorded (c.waiting ++ event_line e) comments)

-- ---- the tape

-- what the event had sent before memory ran out, and what of that is written
pub record Sent (ran_out : List PastLinkEvent → PastLinkEvent → List ℕ → List ℕ → Type 0) (c : Course) (e : PastLinkEvent) (client host : List ℕ) (w : Outside) (out : Written) : Type 0 where
  pub stopped : ran_out c.events e client host
  pub some : (not (is_empty client) || not (is_empty host)) ≡ true
  pub to_client : IsBetween c.to_client w.client.written (cond c.client_up (c.to_client ++ client) c.to_client)
  pub to_host : IsBetween c.to_host w.host.written (cond c.host_up (c.to_host ++ host) c.to_host)
  pub told : IsTold out c.told

-- its line is there, behind those that waited
recorded-line : {ran_out : List PastLinkEvent → PastLinkEvent → List ℕ → List ℕ → Type 0} → (p : Prescribed) (c : Course) (e : PastLinkEvent) (w : Outside) (out : Written) (client host : List ℕ) → Sent ran_out c e client host w out → (known known' : Option (List ℕ)) (waiting : List ℕ) → is_due p e c ≡ true → IfSome known (λ held. (held ≡ c.recorded) × (waiting ≡ c.waiting))
    → known' ≡ append_known known (waiting ++ (event_line e ++ [])) → IfSome known' (λ held. HasLines ran_out w out c (put p e c) held)
recorded-line {ran_out = ran_out} p c e w out client host sent None known' waiting due has is = subst (λ (k : Option (List ℕ)). IfSome k (λ held. HasLines ran_out w out c (put p e c) held)) (sym is) tt
recorded-line {ran_out = ran_out} p c e w out client host sent (Some held) known' waiting due has is =
    let same : held ++ (waiting ++ (event_line e ++ [])) ≡ c.recorded ++ (c.waiting ++ event_line e) =
    ap (λ (l : List ℕ). l ++ (waiting ++ (event_line e ++ []))) has.0 ∙ ap (λ (l : List ℕ). c.recorded ++ (l ++ (event_line e ++ []))) has.1 ∙ ap (λ (l : List ℕ). c.recorded ++ (c.waiting ++ l)) (append-nil (event_line e)) in
    let comments = flat_map refusal_comment (gained p.refusals c.events e) in
    subst (λ (k : Option (List ℕ)). IfSome k (λ held. HasLines ran_out w out c (put p e c) held)) (sym is)
    (inr (
      sent.told,
      inr (record {
        event = e;
        takes = refl;
        sent_client = client;
        sent_host = host;
        stopped = sent.stopped;
        some = sent.some;
        held-is = same;
        lost = comments;
        all-is = all-lines p c e due ∙ ap (λ (l : List ℕ). l ++ comments) (sym same);
        to_client = sent.to_client;
        to_host = sent.to_host;
      }),
    ))

stop-recorded : (ran_out : List PastLinkEvent → PastLinkEvent → List ℕ → List ℕ → Type 0) (p : Prescribed) (c : Course) (e : PastLinkEvent) (client host : List ℕ) (refusals : List Refusal) (w : Outside) (out out' : Written) (waiting : List ℕ) → Sent ran_out c e client host w out' → Begins client (gained p.to_client c.events e) → Begins host (gained p.to_host c.events e)
    → (not (is_empty client) || not (is_empty host)) ≡ true → refusals ≡ [] → waiting ≡ out.waiting → IsTaped out c → out'.tape ≡ append_known out.tape (waiting ++ lines_of e refusals) → IfSome out'.tape (λ held. HasLines ran_out w out' c (put p e c) held)
stop-recorded ran_out p c e client host refusals w out out' waiting sent f g some none same taped is =
    recorded-line {ran_out = ran_out} p c e w out' client host sent out.tape out'.tape out.waiting (due-bytes p c e client host f g some) taped
    (is ∙ ap (λ (l : List ℕ). append_known out.tape (l ++ lines_of e refusals)) same ∙ ap (λ (rs : List Refusal). append_known out.tape (out.waiting ++ (event_line e ++ flat_map refusal_comment rs))) none)

-- a front of that is there, and nothing is written
recorded-part : (ran_out : List PastLinkEvent → PastLinkEvent → List ℕ → List ℕ → Type 0) (p : Prescribed) (c : Course) (e : PastLinkEvent) (w : Outside) (out : Written) (known known' : Option (List ℕ)) (waiting : List ℕ) → is_due p e c ≡ true → IfSome known (λ held. (held ≡ c.recorded) × (waiting ≡ c.waiting))
    → GrowsInPart known known' (waiting ++ (event_line e ++ [])) → w.client.written ≡ Some c.to_client → w.host.written ≡ Some c.to_host → IsTold out c.told → IfSome known' (λ held. HasLines ran_out w out c (put p e c) held)
recorded-part ran_out p c e w out None known' waiting due has grows client host told = subst (λ (k : Option (List ℕ)). IfSome k (λ held. HasLines ran_out w out c (put p e c) held)) (sym grows.grows) tt
recorded-part ran_out p c e w out (Some held) known' waiting due has grows client host told =
    let comments = flat_map refusal_comment (gained p.refusals c.events e) in
    let parts : c.waiting ++ event_line e ≡ grows.front ++ grows.back = ap (λ (l : List ℕ). l ++ event_line e) (sym has.1) ∙ ap (λ (l : List ℕ). waiting ++ l) (sym (append-nil (event_line e))) ∙ grows.parts in
    subst (λ (k : Option (List ℕ)). IfSome k (λ held. HasLines ran_out w out c (put p e c) held)) (sym grows.grows)
    (inr (
      told,
      inl (record {
        more = grows.front;
        lost = grows.back ++ comments;
        held-is = ap (λ (l : List ℕ). l ++ grows.front) has.0;
        all-is = all-lines p c e due ∙ ap (λ (l : List ℕ). (c.recorded ++ l) ++ comments) parts ∙ ap (λ (l : List ℕ). l ++ comments) (sym (append_assoc c.recorded grows.front grows.back))
            ∙ append_assoc (c.recorded ++ grows.front) grows.back comments;
        to_client = client;
        to_host = host;
      }),
    ))

pub stop-unrecorded : (ran_out : List PastLinkEvent → PastLinkEvent → List ℕ → List ℕ → Type 0) (p : Prescribed) (c : Course) (e : PastLinkEvent) (client host : List ℕ) (refusals : List Refusal) (w : Outside) (out out' : Written) (waiting : List ℕ) → Begins client (gained p.to_client c.events e) → Begins host (gained p.to_host c.events e)
    → (not (is_empty client) || not (is_empty host)) ≡ true → refusals ≡ [] → waiting ≡ out.waiting → Tells w out c → IsTold out' c.told → GrowsInPart out.tape out'.tape (waiting ++ lines_of e refusals) → IfSome out'.tape (λ held. HasLines ran_out w out' c (put p e c) held)
stop-unrecorded ran_out p c e client host refusals w out out' waiting f g some none same t told grows =
    recorded-part ran_out p c e w out' out.tape out'.tape out.waiting (due-bytes p c e client host f g some) t.tape
    (subst (λ (rs : List Refusal). GrowsInPart out.tape out'.tape (out.waiting ++ (event_line e ++ flat_map refusal_comment rs))) none (subst (λ (l : List ℕ). GrowsInPart out.tape out'.tape (l ++ lines_of e refusals)) same grows))
    t.client.written-is t.host.written-is told

-- ---- the links

longer : (u : Bool) (x b rest all : List ℕ) (known : Option (List ℕ)) → all ≡ b ++ rest → IsBetween x known (cond u (x ++ b) x) → IsBetween x known (cond u (x ++ all) x)
longer true x b rest all known is w = record {
  more = w.more;
  lost = w.lost ++ rest;
  known-is = w.known-is;
  most-is = ap (λ (l : List ℕ). x ++ l) is ∙ sym (append_assoc x b rest) ∙ ap (λ (l : List ℕ). l ++ rest) w.most-is ∙ append_assoc (x ++ w.more) w.lost rest;
}
longer false x b rest all known is w = w

-- nothing was written to it, or a front of what was sent, or all of that
pub link-still : (u : Bool) (x b : List ℕ) (old new : Link) (t : List Turn) → Shows old u t x → new ≡ old → IsBetween x new.written (cond u (x ++ b) x)
link-still true x b old new t s is = record { more = []; lost = b; known-is = ap (λ (l : Link). l.written) is ∙ s.written-is ∙ ap (λ (l : List ℕ). Some l) (sym (append-nil x)); most-is = ap (λ (l : List ℕ). l ++ b) (sym (append-nil x)) }
link-still false x b old new t s is = record { more = []; lost = []; known-is = ap (λ (l : Link). l.written) is ∙ s.written-is ∙ ap (λ (l : List ℕ). Some l) (sym (append-nil x)); most-is = sym (append-nil x) ∙ sym (append-nil (x ++ [])) }

pub link-front : (u v : Bool) (x b b' : List ℕ) (old new : Link) (t : List Turn) → Shows old u t x → v ≡ u → b' ≡ b → WritesFront v b' old new → IsBetween x new.written (cond u (x ++ b) x)
link-front u v x b b' old new t s same is w = between-front u x b old new t s (subst (λ (y : Bool). WritesFront y b old new) same (subst (λ (l : List ℕ). WritesFront v l old new) is w))

wrote-as : (u v : Bool) (b b' : List ℕ) (old new : Link) → v ≡ u → b' ≡ b → new ≡ wrote_if v b' old → new ≡ wrote_if u b old
wrote-as u v b b' old new same is wrote = wrote ∙ ap (λ (y : Bool). wrote_if y b' old) same ∙ ap (λ (l : List ℕ). wrote_if u l old) is

link-all : (u v : Bool) (x b b' : List ℕ) (old new : Link) (t : List Turn) → Shows old u t x → v ≡ u → b' ≡ b → new ≡ wrote_if v b' old → IsBetween x new.written (cond u (x ++ b) x)
link-all u v x b b' old new t s same is wrote =
    between-all x new.written (cond u (x ++ b) x) (cond u b []) (ap (λ (l : Link). l.written) (wrote-as u v b b' old new same is wrote) ∙ (wrote-shows u b old t x s).written-is) (more_if u x b)

turns-all : (u v : Bool) (x b b' : List ℕ) (old new : Link) (t : List Turn) → Shows old u t x → v ≡ u → b' ≡ b → new ≡ wrote_if v b' old → new.turns ≡ Some t
turns-all u v x b b' old new t s same is wrote = ap (λ (l : Link). l.turns) (wrote-as u v b b' old new same is wrote) ∙ (wrote-shows u b old t x s).turns-is

-- all of it is sent
pub sent-all : (u v : Bool) (x b b' : List ℕ) (old new : Link) (t : List Turn) → Shows old u t x → v ≡ u → b' ≡ b → new ≡ wrote_if v b' old → (new.turns ≡ Some t) × IsBetween x new.written (cond u (x ++ b) x)
sent-all u v x b b' old new t s same is wrote = (turns-all u v x b b' old new t s same is wrote, link-all u v x b b' old new t s same is wrote)

-- a link that is as it was
pub still-shows : (u : Bool) (t : List Turn) (x : List ℕ) (old new : Link) → new ≡ old → Shows old u t x → Shows new u t x
still-shows u t x old new is s = subst (λ (l : Link). Shows l u t x) (sym is) s

-- the call is cut
pub stop-cut : {ran_out : List PastLinkEvent → PastLinkEvent → List ℕ → List ℕ → Type 0} → (p : Prescribed) (c : Course) (e : PastLinkEvent) (client host : List ℕ) (w w' : Outside) (out out' : Written) → Begins client (gained p.to_client c.events e) → Begins host (gained p.to_host c.events e) → Tells w out c → IsTold out' c.told
    → w'.client.turns ≡ Some c.client → w'.host.turns ≡ Some c.host → w'.door ≡ w.door
    → IsBetween c.to_client w'.client.written (cond c.client_up (c.to_client ++ client) c.to_client) → IsBetween c.to_host w'.host.written (cond c.host_up (c.to_host ++ host) c.to_host)
    → IfSome out'.tape (λ held. HasLines ran_out w' out' c (put p e c) held) → Cut ran_out w' out' c (put p e c)
stop-cut p c e client host w w' out out' f g t told client-turns host-turns door to_client to_host tape =
    record {
      client = inl client-turns;
      host = inl host-turns;
      clients = inl (ap (λ (d : Door). d.to_come) door ∙ t.clients);
      to_client = longer c.client_up c.to_client client f.more (gained p.to_client c.events e) w'.client.written f.is to_client;
      to_host = longer c.host_up c.to_host host g.more (gained p.to_host c.events e) w'.host.written g.is to_host;
      told = told-before p c e out' told;
      tape = tape;
    }

-- and its line is recorded
pub stop-written : {ran_out : List PastLinkEvent → PastLinkEvent → List ℕ → List ℕ → Type 0} → (p : Prescribed) (c : Course) (e : PastLinkEvent) (client host : List ℕ) (refusals : List Refusal) (w w' : Outside) (out out' : Written) (waiting : List ℕ) → ran_out c.events e client host → Begins client (gained p.to_client c.events e) → Begins host (gained p.to_host c.events e)
    → (not (is_empty client) || not (is_empty host)) ≡ true → refusals ≡ [] → waiting ≡ out.waiting → out'.tape ≡ append_known out.tape (waiting ++ lines_of e refusals) → Tells w out c → IsTold out' c.told → w'.client.turns ≡ Some c.client → w'.host.turns ≡ Some c.host → w'.door ≡ w.door
    → IsBetween c.to_client w'.client.written (cond c.client_up (c.to_client ++ client) c.to_client) → IsBetween c.to_host w'.host.written (cond c.host_up (c.to_host ++ host) c.to_host) → Cut ran_out w' out' c (put p e c)
stop-written {ran_out = ran_out} p c e client host refusals w w' out out' waiting stopped f g some none same is t told client-turns host-turns door to_client to_host =
    stop-cut p c e client host w w' out out' f g t told client-turns host-turns door to_client to_host
    (stop-recorded ran_out p c e client host refusals w' out out' waiting (record { stopped = stopped; some = some; to_client = to_client; to_host = to_host; told = told }) f g some none same t.tape is)
