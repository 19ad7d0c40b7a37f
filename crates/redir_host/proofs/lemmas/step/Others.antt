-- What is sent is an answer, a status of a stream, or has id 0.
use Rattle.std.proofs.Common.{◌≡◌, ℕ, Bool, true, false, cond, List, [], ◌∷◌, filter, map, Some, None, refl, inl, inr}
use Rattle.std.specs.Prelude.{Option}
use Rattle.std.specs.List.{find, AllZip, AllByRecursion as Each}
use Rattle.usb_base.specs.Status.{is_success}
use Rattle.usb_base.specs.declared.endpoint.EpTable.{EpTable}
use Rattle.usb_base.specs.declared.status.UsbStatus.TheVariants as status
use Rattle.usb_base.specs.declared.transfer.Outcome.{Outcome}
use Rattle.usb_base.specs.declared.transfer.StreamPacket.{StreamPacket}
use Rattle.redir_wire.specs.declared.packet.RedirControl.{RedirControl}
use Rattle.redir_wire.specs.declared.packet.RedirControl.TheVariants as plain
use Rattle.redir_data.specs.declared.packet.RedirPacket.{RedirPacket}
use Rattle.redir_data.specs.declared.packet.RedirPacket.TheVariants.{Plain, Carrying}
use Rattle.redir_data.specs.Streams.{advanced}
use Rattle.redir_data.specs.declared.stream_kind.StreamKind.{StreamKind}
use Rattle.redir_data.specs.declared.stream_kind.StreamKind.TheVariants.{Iso, Interrupt}
use Rattle.control_route.specs.declared.route.Route.{Route}
use Rattle.model_device.specs.Meaning.{Meaning}
use Rattle.redir_host.specs.declared.state.host.Host.{Host}
use Rattle.redir_host.specs.declared.state.request.Asking.{Asking}
use Rattle.redir_host.specs.declared.state.request.Asking.TheVariants.{Nothing, Refuses, Asks}
use Rattle.redir_host.specs.declared.state.request.Request.{Request}
use Rattle.redir_host.specs.device.Changes.{changed, touched, stays}
use Rattle.redir_host.specs.device.Facts.{facts_of}
use Rattle.redir_host.specs.device.Offering.{offered_by}
use Rattle.redir_host.specs.device.Performing.{done_by}
use Rattle.redir_host.specs.guest.Asking.{asking_of}
use Rattle.redir_host.specs.guest.Packets.{can_start, cancel_move, data_move, packet_move_by, start_move}
use Rattle.redir_host.specs.state.Queues.{is_at, is_cancelled_by}
use Rattle.redir_host.specs.guest.Line.{Placed}
use Rattle.redir_host.specs.step.Answered.{IsKnown, waiting}
use Rattle.redir_host.specs.step.Items.{Item, Asked, Wrong, Performs, Offers, Unplugs}
use Rattle.redir_host.specs.step.Machine.{move, run, all_given}
use Rattle.redir_host.specs.step.Moves.{Move, quiet}
use Rattle.chapter9.specs.Standard.{ended}
use Rattle.redir_host.specs.write.Answers.{answer, cancelled}
use Rattle.redir_host.proofs.lemmas.state.Each.{each_filtered, each_found, each_joined}
use Rattle.redir_host.proofs.lemmas.device.Performs.{IsPreserved, offer-kept, perform-kept}
use Rattle.redir_host.proofs.lemmas.state.Sound.{each-without, unplugged-by}
use Rattle.redir_host.proofs.lemmas.step.Paired.{Answers, Same, queue-answers}
use Rattle.redir_host.proofs.lemmas.step.Replied.{AsksAnswers, data-answers, run-queue}

-- each request of the queue has answers that are told as such
abbrev IsAnswered : Request → Type 0
IsAnswered q = Answers q.form q.transfer.ep

abbrev IsAll : {S : Type 0} → Move S → Type 0
IsAll v = Each IsKnown v.sent

flushed-known : (qs : List Request) → Each IsAnswered qs → Each IsKnown (map cancelled qs)
flushed-known [] answers = tt
flushed-known (q ∷ qs) answers = (inl (answers.0 q.id 0 (ended status.Cancelled)), flushed-known qs answers.1)

-- ---- performs

changed-known : {S : Type 0} (m : Meaning S) (r : Route) (table : EpTable) (b : Bool) (h : Host S) → Each IsAnswered h.queue → IsAll (changed m r table b h)
changed-known m r table true h answers =
    each_joined IsKnown (map cancelled (filter (touched r table) h.queue)) (facts_of h.guest.caps m h.gadget)
    (flushed-known (filter (touched r table) h.queue) (each_filtered IsAnswered (touched r table) h.queue answers)) (inr (inr refl), (inr (inr refl), tt))
changed-known m r table false h answers = (inr (inr refl), (inr (inr refl), tt))

changed-queue : {S : Type 0} (m : Meaning S) (r : Route) (table : EpTable) (b : Bool) (h : Host S) → Each IsAnswered h.queue → Each IsAnswered (changed m r table b h).host.queue
changed-queue m r table true h answers = each_filtered IsAnswered (stays r table) h.queue answers
changed-queue m r table false h answers = answers

done-known : {S : Type 0} (m : Meaning S) (table : EpTable) (h : Host S) (q : Request) (r : Option Route) (o : Outcome) → IsAnswered q → Each IsAnswered h.queue → IsAll (done_by m table h q r o)
done-known m table h q None o one answers = (inl (one q.id (m.configuration h.gadget) o), tt)
done-known {S = S} m table h q (Some r) o one answers =
    let v : Move S = changed m r table (is_success o.status) h in
    each_joined IsKnown v.sent (answer (m.configuration h.gadget) q o ∷ []) (changed-known m r table (is_success o.status) h answers) (inl (one q.id (m.configuration h.gadget) o), tt)

known : {S : Type 0} (m : Meaning S) → IsPreserved m IsAnswered (λ h. Each IsAnswered h.queue) IsAll
known m = record {
  none = λ h. tt;
  gadget = λ h s answers. answers;
  first = λ h ep q found answers. ((each_found IsAnswered (is_at ep) h.queue q answers found).0, each-without IsAnswered (is_at ep) h.queue answers);
  change = λ r table b h answers. (changed-known m r table b h answers, changed-queue m r table b h answers);
  done = done-known m;
  then = λ v w first then. each_joined IsKnown v.sent w.sent first then;
}

-- ---- offers, and the end

given-known : {S : Type 0} (h : Host S) (ep : ℕ) (k : StreamKind) (sent : S × StreamPacket) → IsAll (offered_by h ep k (Some sent))
given-known h ep Iso sent = (inr (inr refl), tt)
given-known h ep Interrupt sent = (inr (inr refl), tt)

unplug-known : {S : Type 0} (h : Host S) (b : Bool) → IsAll (unplugged-by h b)
unplug-known h true = tt
unplug-known h false = elim h.guest.first as (λ (b : Bool). Each IsKnown (cond b [] ((0, Plain plain.Disconnect) ∷ []))) [ true ↦ tt | false ↦ (inr (inr refl), tt) ]

-- ---- packets

asked-known : {S : Type 0} (h : Host S) (id : ℕ) (a : Asking) → AsksAnswers a → IsAll (data_move h id a)
asked-known h id Nothing answers = tt
asked-known h id (Refuses f ep) answers = (inl (answers id 0 (ended status.Inval)), tt)
asked-known h id (Asks f t) answers = tt

cancel-known : {S : Type 0} (h : Host S) (id : ℕ) (o : Option Request) → find (is_cancelled_by id) h.queue ≡ o → Each IsAnswered h.queue → IsAll (cancel_move h id o)
cancel-known h id None none answers = tt
cancel-known h id (Some q) found answers = let one = each_found IsAnswered (is_cancelled_by id) h.queue q answers found in (inl (one.0 q.id 0 (ended status.Cancelled)), tt)

start-known : {S : Type 0} (h : Host S) (id : ℕ) (k : StreamKind) (ep : ℕ) (b : Bool) → IsAll (start_move b h id k ep)
start-known h id Iso ep true = (inr (inl refl), tt)
start-known h id Iso ep false = (inr (inl refl), tt)
start-known h id Interrupt ep true = (inr (inl refl), tt)
start-known h id Interrupt ep false = (inr (inl refl), tt)

plain-known : {S : Type 0} (m : Meaning S) (h : Host S) (id : ℕ) (p : RedirControl) → Each IsAnswered h.queue → IsAll (packet_move_by m h id (Plain p))
plain-known m h id (plain.Hello x) answers = (inr (inr refl), (inr (inr refl), (inr (inr refl), tt)))
plain-known m h id (plain.StartIso ep pkts_per_urb no_urbs) answers = start-known h id Iso ep (can_start (m.table h.gadget) Iso ep)
plain-known m h id (plain.StopIso ep) answers = (inr (inl refl), tt)
plain-known m h id (plain.StartInterrupt ep) answers = start-known h id Interrupt ep (can_start (m.table h.gadget) Interrupt ep)
plain-known m h id (plain.StopInterrupt ep) answers = (inr (inl refl), tt)
plain-known m h id plain.Cancel answers = cancel-known h id (find (is_cancelled_by id) h.queue) refl answers
plain-known m h id _ answers = tt

any-known-packet : {S : Type 0} (m : Meaning S) (h : Host S) (id : ℕ) (p : RedirPacket) → Each IsAnswered h.queue → IsAll (packet_move_by m h id p)
any-known-packet m h id (Plain p) answers = plain-known m h id p answers
any-known-packet m h id (Carrying d) answers = asked-known h id (asking_of d) (data-answers d)

packet-known : {S : Type 0} (m : Meaning S) (g : Host S) (id : ℕ) (p : RedirPacket) (b : Bool) → Each IsAnswered g.queue → IsAll (cond b (quiet g) (packet_move_by m g id p))
packet-known m g id p true answers = tt
packet-known m g id p false answers = any-known-packet m g id p answers

-- ---- whatever comes

step-known : {S : Type 0} (m : Meaning S) (h : Host S) (x : Item) → Each IsAnswered h.queue → IsAll (move m h x)
step-known {S = S} m h (Asked id p) answers =
    let g : Host S = record h { guest = advanced h.guest p } in
    packet-known m g id p h.unplugged answers
step-known m h (Wrong from reason) answers = tt
step-known m h (Performs ep) answers = perform-kept (known m) h ep h.unplugged answers
step-known m h (Offers ep) answers = offer-kept m IsAll (λ h. tt) given-known h ep h.unplugged
step-known m h Unplugs answers = unplug-known h h.unplugged

each-answered : (qs : List Request) (ws : List Placed) → AllZip Same qs ws → Each IsAnswered qs
each-answered [] ws zip = tt
each-answered (q ∷ qs) [] zip = absurd zip
each-answered (q ∷ qs) (p ∷ ws) zip = (queue-answers q p zip.0, each-answered qs ws zip.1)

pub all-known : {S : Type 0} (m : Meaning S) (s : S) (xs : List Item) → Each IsKnown (all_given (λ v. v.sent) m s xs)
all-known m s [] = tt
all-known m s (x ∷ xs) =
    each_joined IsKnown (all_given (λ v. v.sent) m s xs) (move m (run m s xs) x).sent (all-known m s xs)
    (step-known m (run m s xs) x (each-answered (run m s xs).queue (waiting m s xs) (run-queue m s xs)))
