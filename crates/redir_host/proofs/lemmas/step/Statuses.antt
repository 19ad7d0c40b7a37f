-- Each packet that starts or stops a stream is answered by one status, and nothing else is.
use Rattle.std.proofs.Common.{◌≡◌, ℕ, Bool, true, false, cond, List, [], ◌∷◌, ◌++◌, filter, map, Some, None, refl, ap, ◌∙◌, append-nil}
use Rattle.std.specs.Prelude.{Option}
use Rattle.std.specs.List.{find}
use Rattle.std.proofs.lemmas.List.{map-append}
use Rattle.std.proofs.lemmas.List.Elements.{filter-append}
use Rattle.usb_base.specs.Status.{is_success}
use Rattle.usb_base.specs.declared.endpoint.EpTable.{EpTable}
use Rattle.usb_base.specs.declared.status.UsbStatus.TheVariants as status
use Rattle.usb_base.specs.declared.transfer.Outcome.{Outcome}
use Rattle.usb_base.specs.declared.transfer.StreamPacket.{StreamPacket}
use Rattle.redir_wire.specs.declared.packet.RedirControl.{RedirControl}
use Rattle.redir_wire.specs.declared.packet.RedirControl.TheVariants as plain
use Rattle.redir_data.specs.declared.packet.RedirPacket.{RedirPacket}
use Rattle.redir_data.specs.declared.packet.RedirPacket.TheVariants.{Plain, Carrying}
use Rattle.redir_data.specs.Streams.{advanced}
use Rattle.redir_data.specs.declared.stream_kind.StreamKind.{StreamKind}
use Rattle.redir_data.specs.declared.stream_kind.StreamKind.TheVariants.{Iso, Interrupt}
use Rattle.control_route.specs.declared.route.Route.{Route}
use Rattle.model_device.specs.Meaning.{Meaning}
use Rattle.redir_host.specs.declared.state.host.Host.{Host}
use Rattle.redir_host.specs.declared.state.request.Asking.{Asking}
use Rattle.redir_host.specs.declared.state.request.Asking.TheVariants.{Nothing, Refuses, Asks}
use Rattle.redir_host.specs.declared.state.request.Form.{Form}
use Rattle.redir_host.specs.declared.state.request.Form.TheVariants as form
use Rattle.redir_host.specs.declared.state.request.Request.{Request}
use Rattle.redir_host.specs.device.Changes.{changed, touched}
use Rattle.redir_host.specs.device.Facts.{facts_of}
use Rattle.redir_host.specs.device.Offering.{offered_by}
use Rattle.redir_host.specs.device.Performing.{done_by}
use Rattle.redir_host.specs.guest.Asking.{asking_of}
use Rattle.redir_host.specs.guest.Packets.{can_start, cancel_move, data_move, packet_move_by, start_move}
use Rattle.redir_host.specs.state.Queues.{is_cancelled_by}
use Rattle.redir_host.specs.step.Answered.{is_gone, is_status, ids_of, statuses_sent, stream_id, stream_id_in, stream_ids}
use Rattle.redir_host.specs.step.Items.{Item, Asked, Wrong, Performs, Offers, Unplugs}
use Rattle.redir_host.specs.step.Machine.{move, run, all_given}
use Rattle.redir_host.specs.step.Moves.{Move, quiet}
use Rattle.chapter9.specs.Standard.{ended}
use Rattle.redir_host.specs.write.Answers.{answer, answer_by, cancelled}
use Rattle.redir_host.proofs.lemmas.device.Performs.{IsPreserved, offer-kept, perform-kept, always-kept}
use Rattle.redir_host.proofs.lemmas.state.Sound.{unplugged-by}
use Rattle.redir_host.proofs.lemmas.step.Replied.{run-gone}

abbrev HasNone : {S : Type 0} → Move S → Type 0
HasNone v = filter is_status v.sent ≡ []

no-status : (id configuration : ℕ) (f : Form) (ep : ℕ) (o : Outcome) → is_status (id, answer_by configuration f ep o) ≡ false
no-status id configuration (form.Control setup) ep o = refl
no-status id configuration (form.Bulk stream) ep o = refl
no-status id configuration form.Interrupt ep o = refl
no-status id configuration (form.SetConfiguration asked) ep o = refl
no-status id configuration form.GetConfiguration ep o = refl
no-status id configuration (form.SetAlt interface alt) ep o = refl
no-status id configuration (form.GetAlt interface) ep o = refl

passed-over : (x : ℕ × RedirPacket) (xs : List (ℕ × RedirPacket)) → is_status x ≡ false → filter is_status (x ∷ xs) ≡ filter is_status xs
passed-over x xs is = ap (λ (b : Bool). cond b (x ∷ filter is_status xs) (filter is_status xs)) is

answer-passed : (configuration : ℕ) (q : Request) (o : Outcome) (xs : List (ℕ × RedirPacket)) → filter is_status (answer configuration q o ∷ xs) ≡ filter is_status xs
answer-passed configuration q o xs = passed-over (answer configuration q o) xs (no-status q.id configuration q.form q.transfer.ep o)

cancelled-none : (qs : List Request) → filter is_status (map cancelled qs) ≡ []
cancelled-none [] = refl
cancelled-none (q ∷ qs) = answer-passed 0 q (ended status.Cancelled) (map cancelled qs) ∙ cancelled-none qs

-- ---- performs

changed-none : {S : Type 0} (m : Meaning S) (r : Route) (table : EpTable) (b : Bool) (h : Host S) → HasNone (changed m r table b h)
changed-none m r table true h =
    let flushed = map cancelled (filter (touched r table) h.queue) in
    filter-append is_status flushed (facts_of h.guest.caps m h.gadget)
    ∙ append-nil (filter is_status flushed)
    ∙ cancelled-none (filter (touched r table) h.queue)
changed-none m r table false h = refl

done-none : {S : Type 0} (m : Meaning S) (table : EpTable) (h : Host S) (q : Request) (r : Option Route) (o : Outcome) → HasNone (done_by m table h q r o)
done-none m table h q None o = answer-passed (m.configuration h.gadget) q o []
done-none {S = S} m table h q (Some r) o =
    let v : Move S = changed m r table (is_success o.status) h in
    let last = answer (m.configuration h.gadget) q o in
    filter-append is_status v.sent (last ∷ []) ∙ (λ i. changed-none m r table (is_success o.status) h i ++ answer-passed (m.configuration h.gadget) q o [] i)

without : {S : Type 0} (m : Meaning S) → IsPreserved m (λ q. Unit {0}) (λ h. Unit {0}) HasNone
without m = always-kept (λ h. refl) (changed-none m) (done-none m) (λ v w first then. filter-append is_status v.sent w.sent ∙ (λ i. first i ++ then i))

-- ---- offers, and the end

given-none : {S : Type 0} (h : Host S) (ep : ℕ) (k : StreamKind) (sent : S × StreamPacket) → HasNone (offered_by h ep k (Some sent))
given-none h ep Iso sent = refl
given-none h ep Interrupt sent = refl

unplug-none : {S : Type 0} (h : Host S) (b : Bool) → HasNone (unplugged-by h b)
unplug-none h true = refl
unplug-none h false = elim h.guest.first as (λ (b : Bool). filter is_status (cond b [] ((0, Plain plain.Disconnect) ∷ [])) ≡ []) [ true ↦ refl | false ↦ refl ]

-- ---- packets

abbrev statuses_of : {S : Type 0} → Move S → List ℕ
statuses_of v = ids_of (filter is_status v.sent)

asked-none : {S : Type 0} (h : Host S) (id : ℕ) (a : Asking) → HasNone (data_move h id a)
asked-none h id Nothing = refl
asked-none h id (Refuses f ep) = passed-over (id, answer_by 0 f ep (ended status.Inval)) [] (no-status id 0 f ep (ended status.Inval))
asked-none h id (Asks f t) = refl

cancel-none : {S : Type 0} (h : Host S) (id : ℕ) (o : Option Request) → HasNone (cancel_move h id o)
cancel-none h id None = refl
cancel-none h id (Some q) = answer-passed 0 q (ended status.Cancelled) []

start-one : {S : Type 0} (h : Host S) (id : ℕ) (k : StreamKind) (ep : ℕ) (b : Bool) → statuses_of (start_move b h id k ep) ≡ id ∷ []
start-one h id Iso ep true = refl
start-one h id Iso ep false = refl
start-one h id Interrupt ep true = refl
start-one h id Interrupt ep false = refl

plain-statuses : {S : Type 0} (m : Meaning S) (h : Host S) (id : ℕ) (p : RedirControl) → statuses_of (packet_move_by m h id (Plain p)) ≡ stream_id_in id p
plain-statuses m h id (plain.StartIso ep pkts_per_urb no_urbs) = start-one h id Iso ep (can_start (m.table h.gadget) Iso ep)
plain-statuses m h id (plain.StartInterrupt ep) = start-one h id Interrupt ep (can_start (m.table h.gadget) Interrupt ep)
plain-statuses m h id plain.Cancel = ap ids_of (cancel-none h id (find (is_cancelled_by id) h.queue))
plain-statuses m h id _ = refl

any-statuses : {S : Type 0} (m : Meaning S) (h : Host S) (id : ℕ) (p : RedirPacket) → statuses_of (packet_move_by m h id p) ≡ stream_id id p
any-statuses m h id (Plain p) = plain-statuses m h id p
any-statuses m h id (Carrying d) = ap ids_of (asked-none h id (asking_of d))

packet-statuses : {S : Type 0} (m : Meaning S) (g : Host S) (id : ℕ) (p : RedirPacket) (b : Bool) → statuses_of (cond b (quiet g) (packet_move_by m g id p)) ≡ cond b [] (stream_id id p)
packet-statuses m g id p true = refl
packet-statuses m g id p false = any-statuses m g id p

-- ---- whatever comes

abbrev news : Item → List Item → List ℕ
news (Asked id p) xs = cond (is_gone xs) [] (stream_id id p)
news _ xs = []

step-statuses : {S : Type 0} (m : Meaning S) (h : Host S) (x : Item) (xs : List Item) → h.unplugged ≡ is_gone xs → statuses_of (move m h x) ≡ news x xs
step-statuses {S = S} m h (Asked id p) xs gone =
    let g : Host S = record h { guest = advanced h.guest p } in
    packet-statuses m g id p h.unplugged ∙ ap (λ (b : Bool). cond b [] (stream_id id p)) gone
step-statuses m h (Wrong from reason) xs gone = refl
step-statuses m h (Performs ep) xs gone = ap ids_of (perform-kept (without m) h ep h.unplugged tt)
step-statuses m h (Offers ep) xs gone = ap ids_of (offer-kept m HasNone (λ h. refl) given-none h ep h.unplugged)
step-statuses m h Unplugs xs gone = ap ids_of (unplug-none h h.unplugged)

ids-more : (x : Item) (xs : List Item) → stream_ids xs ++ news x xs ≡ stream_ids (x ∷ xs)
ids-more (Asked id p) xs = refl
ids-more (Wrong from reason) xs = append-nil (stream_ids xs)
ids-more (Performs ep) xs = append-nil (stream_ids xs)
ids-more (Offers ep) xs = append-nil (stream_ids xs)
ids-more Unplugs xs = append-nil (stream_ids xs)

pub all-statuses : {S : Type 0} (m : Meaning S) (s : S) (xs : List Item) → ids_of (statuses_sent m s xs) ≡ stream_ids xs
all-statuses m s [] = refl
all-statuses m s (x ∷ xs) =
    let before = all_given (λ v. v.sent) m s xs in
    let now = (move m (run m s xs) x).sent in
    ap ids_of (filter-append is_status before now)
    ∙ map-append (λ (p : ℕ × RedirPacket). p.0) (filter is_status before) (filter is_status now)
    ∙ (λ i. all-statuses m s xs i ++ step-statuses m (run m s xs) x xs (run-gone m s xs) i)
    ∙ ids-more x xs
