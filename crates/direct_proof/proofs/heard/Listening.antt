-- The host reads what asks it for a transfer, or the reset before it: it joins its queue as it stands there.
use Rattle.std.proofs.Common.{◌≡◌, ℕ, ◌||◌, Bool, true, false, cond, List, [], ◌∷◌, ◌++◌, map, Option, None, refl, sym, ap, ◌∙◌, subst, append-nil, append_assoc}
use Rattle.std.specs.List.{AllByRecursion as Each}
use Rattle.std.proofs.lemmas.Bool.{both_ways}
use Rattle.std.proofs.lemmas.List.Folds.{list_any-append}
use Rattle.std.proofs.lemmas.List.{map-append}
use Rattle.usb_base.specs.declared.transfer.Transfer.{Transfer}
use Rattle.redir_data.specs.declared.packet.RedirPacket.{RedirPacket}
use Rattle.redir_data.specs.Streams.{advanced}
use Rattle.model_device.specs.Meaning.{Meaning}
use Rattle.redir_host.specs.declared.state.host.Host.{Host}
use Rattle.redir_host.specs.declared.state.request.Request.{Request as HostRequest}
use Rattle.redir_host.specs.declared.state.request.Form.{Form}
use Rattle.redir_host.specs.guest.Line.{Waiting as InLine, Waits}
use Rattle.redir_host.specs.step.Moves.{quiet as host_quiet}
use Rattle.redir_host.specs.guest.Packets.{packet_move_by, joins}
use Rattle.gate_history.specs.write.Bytes.{gateway_hello}
use Rattle.direct_run.specs.Moves.{World, HostReads, move, quiet, host_reads, host_takes}
use Rattle.direct_proof.specs.Deeds.{as_deeds}
use Rattle.direct_proof.specs.Requests.{Entry, at_queue, at_device}
use Rattle.direct_proof.specs.Shared.{Shared, in_line, lines, half_line, at_hosts, view}
use Rattle.direct_proof.specs.Tagged.{runs_in}
use Rattle.direct_proof.specs.Related.{Related}
use Rattle.direct_proof.specs.Loads.{IsLoad}
use Rattle.direct_proof.specs.Cancels.{IsAsking, CancelsFit, moved, left, begins, is_change, any_change, Behind}
use Rattle.direct_proof.specs.Ids.{Ids}
use Rattle.direct_proof.specs.Stale.{asks, Clean}
use Rattle.direct_proof.specs.Running.{Quits, Trails, StartsFit, started_kind, stream_endpoint}
use Rattle.direct_proof.specs.Kinds.{StartOfKind, StreamIsIn}
use Rattle.direct_proof.specs.Session.{down_in, runs}
use Rattle.direct_proof.specs.StreamIds.{Fenced, Controls}
use Rattle.direct_proof.proofs.shared.Folds.{Next, next-line}
use Rattle.direct_proof.proofs.shared.Streaming.{IsQuiet, controls-heard, fenced-heard}
use Rattle.direct_proof.proofs.heard.Hears.{not-greeting, form_changes, change-form, joined}
use Rattle.direct_proof.proofs.shared.Keeps.{Keeps, keeps-quiet}

-- only its hello is read before the hello
pub greeted : {S : Type 0} (m : Meaning S) (w : World S) (j : Shared) (p : ℕ × RedirPacket) (ps : List (ℕ × RedirPacket)) → Related m w j → w.to_host ≡ p ∷ ps → (b : Bool) → w.host.guest.first ≡ b → IsAsking p.1 → b ≡ false
greeted m w j p ps rel wire true first k = absurd (subst (λ (x : ℕ × RedirPacket). IsAsking x.1) same k)
  where
    heads : {X : Type 0} (x y : X) (xs ys : List X) → x ∷ xs ≡ y ∷ ys → x ≡ y
    heads x y xs ys e = cc

    same : p ≡ (0, gateway_hello)
    same = heads p (0, gateway_hello) ps [] (sym wire ∙ (rel.before first).wire)
greeted m w j p ps rel wire false first k = refl

-- what the host reads, where it sends nothing and tells nothing
pub host-reads : {S : Type 0} (m : Meaning S) (w : World S) (p : ℕ × RedirPacket) (ps : List (ℕ × RedirPacket)) (h : Host S) → w.to_host ≡ p ∷ ps → IsAsking p.1 → (b : Bool) → w.host.unplugged ≡ b → (b ≡ false → packet_move_by m w.host p.0 p.1 ≡ host_quiet h) →
    move as_deeds m w HostReads ≡ quiet (record w { to_host = ps; to_gate = w.to_gate ++ []; host = cond b w.host h })
host-reads {S = S} m w p ps h wire k true off by =
    ap (host_reads as_deeds m w) wire ∙ ap (host_takes as_deeds (record w { to_host = ps })) ((λ i. cond (off i) (host_quiet (record w.host { guest = not-greeting w.host.guest p.1 k i })) (packet_move_by m (record w.host { guest = advanced w.host.guest p.1 }) p.0 p.1)))
host-reads {S = S} m w p ps h wire k false off by =
    ap (host_reads as_deeds m w) wire ∙ ap (host_takes as_deeds (record w { to_host = ps })) ((λ i. cond (off i) (host_quiet (record w.host { guest = advanced w.host.guest p.1 })) (packet_move_by m (record w.host { guest = not-greeting w.host.guest p.1 k i }) p.0 p.1)) ∙ by refl)

-- ---- a request

sums : (a h c : Bool) → ((a || h) || c) ≡ ((a || ((h || c) || false)) || false)
sums true h c = refl
sums false true c = refl
sums false false true = refl
sums false false false = refl

-- the world once a packet is read that sends nothing
abbrev pub read_world : {S : Type 0} → World S → List (ℕ × RedirPacket) → List HostRequest → Bool → World S
read_world w ps queue next = record w { to_host = ps; to_gate = w.to_gate ++ []; host = record w.host { queue = queue; resets_next = next } }

abbrev pub joined_shared : Shared → Entry → List Entry → Shared
joined_shared j e es = record j { held = j.held ++ e ∷ []; half = false; coming = es }

-- how what waits and what comes stand once a packet is read that sends nothing, and starts and stops no stream
pub record Heard {S : Type 0} (w : World S) (j : Shared) (p : ℕ × RedirPacket) (ps : List (ℕ × RedirPacket)) (queue : List HostRequest) (next : Bool) (held : List Entry) (half : Bool) (coming : List Entry) : Type 0 where
  pub queued : queue ≡ cond w.host.unplugged [] (map at_queue held)
  pub marked : w.host.unplugged ≡ false → next ≡ half
  pub line : half_line half ++ lines ps ≡ at_hosts coming
  pub same : j.held ++ j.coming ≡ held ++ coming
  pub cancels : CancelsFit held ps coming
  pub changed : ((any_change j.held || j.half) || asks None p) ≡ (any_change held || half)

abbrev pub heard_shared : Shared → List Entry → Bool → List Entry → Shared
heard_shared j held half coming = record j { held = held; half = half; coming = coming }

pub after-heard : {S : Type 0} (m : Meaning S) (w : World S) (j : Shared) (p : ℕ × RedirPacket) (ps : List (ℕ × RedirPacket)) (queue : List HostRequest) (next : Bool) (held : List Entry) (half : Bool) (coming : List Entry) → Related m w j → w.to_host ≡ p ∷ ps → w.host.guest.first ≡ false →
    IsQuiet p → Heard w j p ps queue next held half coming → Related m (read_world w ps queue next) (heard_shared j held half coming)
after-heard m w j p ps queue next held half coming rel wire first calm h = record {
  line = record {
    held = h.queued;
    half = h.marked;
    coming = h.line;
    loads = subst (Each (λ (e : Entry). IsLoad e.load)) h.same rel.line.loads;
    streams_in = (subst (Each (λ (q : ℕ × RedirPacket). StreamIsIn (stream_endpoint q.1))) wire rel.line.streams_in).1;
    cancels = h.cancels;
    behind = subst Behind h.same rel.line.behind;
  };
  answers = append-nil w.to_gate ∙ rel.answers;
  tagged = rel.tagged;
  ids = subst (λ (l : List Entry). Ids j.debts w.submits l (runs_in j.back)) h.same rel.ids;
  real = rel.real;
  runs_at_in = rel.runs_at_in;
  before = λ k. absurd (both_ways w.host.guest.first first k);
  asked = λ k. (subst (Each (λ (q : ℕ × RedirPacket). IsAsking q.1)) wire (rel.asked k)).1;
  meets = rel.meets;
  debts = rel.debts;
  controls = λ k. controls-heard w.gate.stream_ids p ps j.back (subst (λ (l : List (ℕ × RedirPacket)). Controls w.gate.stream_ids l j.back) wire (rel.controls k));
  fenced = λ k. fenced-heard w.gate.fence j.fenced p ps j.back (subst (λ (l : List (ℕ × RedirPacket)). Fenced w.gate.fence j.fenced l j.back) wire (rel.fenced k));
  alone = rel.alone;
  session = λ k a. let s = rel.session k a in record {
    table = s.table;
    faces = s.faces;
    clean = subst (λ (l : List Entry). Clean w.gate.fence (down_in w.gate.streams) (any_change l || j.fenced) j.back) h.same s.clean;
    quits = λ ep d. subst (λ (b : Bool). Quits w.gate.fence ep b ps) (calm.2 ep (runs w.host ep)) (subst (Quits w.gate.fence ep (runs w.host ep)) wire (s.quits ep d)).1;
    trails = (subst (Trails w.gate.fence (down_in w.gate.streams)) wire s.trails).1;
    starts = subst (λ (b : Bool). StartsFit (m.table w.host.gadget) b ps) h.changed (subst (StartsFit (m.table w.host.gadget) (any_change j.held || j.half)) wire s.starts).1;
    kinds = s.kinds;
    start_kinds = (subst (Each (λ (q : ℕ × RedirPacket). StartOfKind w.gate.streams (started_kind q.1))) wire s.start_kinds).1;
  };
  ups = rel.ups;
  down = rel.down;
  lost = rel.lost;
  sides = rel.sides;
  farewell = rel.farewell;
}

-- cancels behind the packet
pub cancels-heard : {S : Type 0} (m : Meaning S) (w : World S) (j : Shared) (p : ℕ × RedirPacket) (ps : List (ℕ × RedirPacket)) (b : Bool) → Related m w j → w.to_host ≡ p ∷ ps → begins p.1 ≡ b → CancelsFit (moved b j.held j.coming) ps (left b j.coming)
cancels-heard m w j p ps b rel wire begin = subst (λ (x : Bool). CancelsFit (moved x j.held j.coming) ps (left x j.coming)) begin (subst (λ (l : List (ℕ × RedirPacket)). CancelsFit j.held l j.coming) wire rel.line.cancels).1

after-joined : {S : Type 0} (m : Meaning S) (w : World S) (j : Shared) (p : ℕ × RedirPacket) (ps : List (ℕ × RedirPacket)) (f : Form) (t : Transfer) (queue : List HostRequest) (next : Bool) → Related m w j → w.to_host ≡ p ∷ ps → w.host.guest.first ≡ false →
    begins p.1 ≡ true → IsQuiet p → ((fence : Option ℕ) → asks fence p ≡ form_changes f) → (n : Next j.half p.0 f t (lines ps) j.coming) →
    queue ≡ cond w.host.unplugged [] (map at_queue (j.held ++ n.entry ∷ [])) → (w.host.unplugged ≡ false → next ≡ false) →
    Related m (read_world w ps queue next) (joined_shared j n.entry n.rest)
after-joined {S = S} m w j p ps f t queue next rel wire first begin calm asked n queued marked = after-heard m w j p ps queue next (j.held ++ n.entry ∷ []) false n.rest rel wire first calm (record {
  queued = queued;
  marked = marked;
  line = n.others;
  same = same;
  cancels = subst (λ (l : List Entry). CancelsFit (moved true j.held l) ps (left true l)) n.is (cancels-heard m w j p ps true rel wire begin);
  changed = changed;
})
  where
    same : j.held ++ j.coming ≡ (j.held ++ n.entry ∷ []) ++ n.rest
    same = ap (λ (l : List Entry). j.held ++ l) n.is ∙ sym (append_assoc j.held (n.entry ∷ []) n.rest)

    is-change : (j.half || asks None p) ≡ is_change n.entry
    is-change = (λ i. sym n.reset i || (asked None ∙ ap form_changes n.same_form) i) ∙ sym (change-form n.entry.load.request n.entry.load.verdict)

    changed : ((any_change j.held || j.half) || asks None p) ≡ (any_change (j.held ++ n.entry ∷ []) || false)
    changed = sums (any_change j.held) j.half (asks None p) ∙ (λ i. (any_change j.held || (is-change i || false)) || false) ∙ ap (λ (b : Bool). b || false) (sym (list_any-append is_change j.held (n.entry ∷ [])))

pub keep-joined : {S : Type 0} (m : Meaning S) (w : World S) (j : Shared) (p : ℕ × RedirPacket) (ps : List (ℕ × RedirPacket)) (f : Form) (t : Transfer) → Related m w j → w.to_host ≡ p ∷ ps → IsAsking p.1 → w.host.guest.first ≡ false →
    in_line p ≡ Waits 0 p.0 f t ∷ [] → begins p.1 ≡ true → IsQuiet p → ((fence : Option ℕ) → asks fence p ≡ form_changes f) → packet_move_by m w.host p.0 p.1 ≡ joins w.host p.0 f t → Keeps m w j (move as_deeds m w HostReads)
keep-joined {S = S} m w j p ps f t rel wire k first line begin calm asked host = go w.host.unplugged refl
  where
    n : Next j.half p.0 f t (lines ps) j.coming
    n = next-line j.half p.0 f t (lines ps) j.coming (ap (λ (l : List InLine). half_line j.half ++ (l ++ lines ps)) (sym line) ∙ ap (λ (l : List (ℕ × RedirPacket)). half_line j.half ++ lines l) (sym wire) ∙ rel.line.coming)

    e : Entry
    e = n.entry

    later : Shared
    later = joined_shared j e n.rest

    same : j.held ++ j.coming ≡ (j.held ++ e ∷ []) ++ n.rest
    same = ap (λ (l : List Entry). j.held ++ l) n.is ∙ sym (append_assoc j.held (e ∷ []) n.rest)

    waits : (w' : World S) → view w j ≡ record (view w j) { queue = map at_device ((j.held ++ e ∷ []) ++ n.rest) }
    waits w' = λ i. record (view w j) { queue = map at_device (same i) }

    go : (b : Bool) → w.host.unplugged ≡ b → Keeps m w j (move as_deeds m w HostReads)
    go true off = keeps-quiet m w j later (move as_deeds m w HostReads) (read_world w ps w.host.queue w.host.resets_next)
        (host-reads m w p ps w.host wire k true off (λ z. absurd (both_ways true z refl)))
        (after-joined m w j p ps f t w.host.queue w.host.resets_next rel wire first begin calm asked n
        (rel.line.held ∙ ap (λ (b : Bool). cond b [] (map at_queue j.held)) off ∙ ap (λ (b : Bool). cond b [] (map at_queue (j.held ++ e ∷ []))) (sym off)) (λ h. absurd (both_ways w.host.unplugged h off)))
        (waits w)
    go false on = keeps-quiet m w j later (move as_deeds m w HostReads) (read_world w ps (w.host.queue ++ at_queue e ∷ []) false)
        (host-reads m w p ps (record w.host { queue = w.host.queue ++ at_queue e ∷ []; resets_next = false }) wire k false on
        (λ z. host ∙ ap host_quiet (joined w.host e p.0 f t (rel.line.half on ∙ sym n.reset) n.same_id n.same_form n.same_transfer)))
        (after-joined m w j p ps f t (w.host.queue ++ at_queue e ∷ []) false rel wire first begin calm asked n
        ((λ i. (rel.line.held ∙ ap (λ (b : Bool). cond b [] (map at_queue j.held)) on) i ++ at_queue e ∷ []) ∙ sym (map-append at_queue j.held (e ∷ [])) ∙ ap (λ (b : Bool). cond b [] (map at_queue (j.held ++ e ∷ []))) (sym on)) (λ h. refl))
        (waits w)
