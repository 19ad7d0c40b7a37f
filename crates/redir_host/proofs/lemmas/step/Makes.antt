-- What the calls of a host make, put together.
use Rattle.std.proofs.Common.{◌≡◌, ℕ, Bool, true, false, List, [], ◌∷◌, ◌++◌, Some, None, length, filter, map, if◌then◌else◌, refl, sym, ap, subst, ◌∙◌, append_assoc, arith, lit<}
use Rattle.std.specs.Prelude.{Option, option_map, Result, Ok, Err, IfOk, IfSome, OnOk}
use Rattle.std.specs.List.{find, flat_map, AllByRecursion as Each}
use Rattle.std.proofs.lemmas.List.{append-nil}
use Rattle.std.proofs.lemmas.Grind.{flat_map-append}
use Rattle.usb_base.specs.Status.{is_success}
use Rattle.usb_base.specs.declared.endpoint.EpTable.{EpTable}
use Rattle.usb_base.specs.declared.status.UsbStatus.TheVariants.{Cancelled}
use Rattle.usb_base.specs.declared.transfer.Outcome.{Outcome}
use Rattle.usb_base.specs.declared.transfer.Transfer.{Transfer}
use Rattle.redir_wire.specs.declared.state.RedirState.{RedirState}
use Rattle.redir_data.specs.declared.packet.RedirPacket.{RedirPacket}
use Rattle.control_route.specs.declared.route.Route.{Route}
use Rattle.control_route.specs.declared.route.Route.TheVariants as route
use Rattle.model_device.specs.Gadget.{IsGadget}
use Rattle.model_device.specs.Meaning.{Meaning, given_in, state_in}
use Rattle.model_device.specs.Transfer.{IsTransfer, IsOutcome}
use Rattle.redir_host.specs.declared.state.host.Host.{Host}
use Rattle.redir_host.specs.declared.write.note.Performed.{Performed}
use Rattle.redir_host.specs.declared.write.note.Performed.TheVariants.{Done, NotReady}
use Rattle.redir_host.specs.declared.state.request.Form.{Form}
use Rattle.redir_host.specs.declared.state.request.Form.TheVariants as form
use Rattle.redir_host.specs.declared.state.request.Request.{Request}
use Rattle.chapter9.specs.Standard.{ended}
use Rattle.redir_host.specs.write.Answers.{answer, answer_by, cancelled}
use Rattle.redir_host.specs.device.Changes.{change_of, cleared, changed, changed_by, runs_on, stays, touched}
use Rattle.redir_host.specs.device.Facts.{facts_of}
use Rattle.redir_data.specs.Sent.{sent_packet_bytes}
use Rattle.redir_host.specs.step.Machine.{bytes_of}
use Rattle.redir_host.specs.step.Makes.{Makes, TellsPerformed, Tells}
use Rattle.redir_host.specs.step.Moves.{Move, behind, then_sends}
use Rattle.redir_host.specs.device.Performing.{done_by, does, performs, performs_marked, resets, performed, first_performed, with_id, perform_move, perform_move_by, told_performed, told_performed_by}
use Rattle.usb_base.specs.Firsts.{without_first}
use Rattle.redir_host.specs.state.Queues.{is_at}
use Rattle.redir_host.specs.guest.Asking.{routed}
use Rattle.redir_host.specs.device.Resets.{PerformsNow, ResetsTo}
use Rattle.redir_host.specs.write.Readable.{InRange}
use Rattle.redir_host.specs.state.Sound.{IsGuestRequest, IsRunning, IsSound}
use Rattle.redir_host.proofs.lemmas.state.Each.{each_appended, each_filtered, each_joined, given_if}

-- and then one packet more
pub makes_then : {S : Type 0} (v : Move S) (p q : ℕ × RedirPacket) (new : Host S) (o0 o1 o2 : List ℕ) → Makes v new o0 o1 → p ≡ q → o2 ≡ o1 ++ sent_packet_bytes new.guest.caps q → Makes (then_sends v p) new o0 o2
makes_then {S = S} v p q new o0 o1 o2 m same e =
    let f = sent_packet_bytes v.host.guest.caps in
    let one : flat_map f (p ∷ []) ≡ f p = append-nil (f p) in
    record {
      host = m.host;
      sent = e
          ∙ (λ i. m.sent i ++ sent_packet_bytes (m.host i).guest.caps (sym same i))
          ∙ append_assoc o0 (bytes_of v) (f p)
          ∙ ap (λ bs. o0 ++ (bytes_of v ++ bs)) (sym one)
          ∙ ap (λ bs. o0 ++ bs) (sym (flat_map-append f v.sent (p ∷ [])));
    }

cleared_gadget : {S : Type 0} (success : Bool) (r : Route) (t : EpTable) (h : Host S) → (cleared success r t h).host.gadget ≡ h.gadget
cleared_gadget true r t h = refl
cleared_gadget false r t h = refl

-- no answer tells of the device but its configuration
answer_ranges : (configuration id : ℕ) (f : Form) (ep : ℕ) (o : Outcome) → InRange (id, answer_by configuration f ep o)
answer_ranges configuration id (form.Control setup) ep o = tt
answer_ranges configuration id (form.Bulk stream) ep o = tt
answer_ranges configuration id form.Interrupt ep o = tt
answer_ranges configuration id (form.SetConfiguration asked) ep o = tt
answer_ranges configuration id form.GetConfiguration ep o = tt
answer_ranges configuration id (form.SetAlt interface alt) ep o = tt
answer_ranges configuration id (form.GetAlt interface) ep o = tt

flushed_ranges : (qs : List Request) → Each InRange (map cancelled qs)
flushed_ranges [] = tt
flushed_ranges (q ∷ qs) = (answer_ranges 0 q.id q.form q.transfer.ep (ended Cancelled), flushed_ranges qs)

cleared_ranges : {S : Type 0} (success : Bool) (r : Route) (t : EpTable) (h : Host S) → Each InRange (cleared success r t h).sent
cleared_ranges true r t h = flushed_ranges (filter (touched r t) h.queue)
cleared_ranges false r t h = tt

kept_facts : {S : Type 0} (m : Meaning S) (success : Bool) (r : Route) (t : EpTable) (h : Host S) → facts_of (cleared success r t h).host.guest.caps m (cleared success r t h).host.gadget ≡ facts_of h.guest.caps m h.gadget
kept_facts m true r t h = refl
kept_facts m false r t h = refl

-- what is touched is answered, and then the facts are told
pub tells_changed : {S : Type 0} (m : Meaning S) (r : Route) (t : EpTable) (success : Bool) (h new : Host S) (o0 o1 o2 : List ℕ) → Makes (cleared success r t h) new o0 o1 →
    o2 ≡ o1 ++ flat_map (sent_packet_bytes new.guest.caps) (facts_of new.guest.caps m new.gadget) → Each InRange (facts_of new.guest.caps m new.gadget) → Tells (changed m r t success h) new o0 o2
tells_changed {S = S} m r t success h new o0 o1 o2 made e fit =
    let v : Move S = cleared success r t h in
    let f = sent_packet_bytes v.host.guest.caps in
    let facts = facts_of h.guest.caps m h.gadget in
    let told : Host S → List (ℕ × RedirPacket) = λ x. facts_of x.guest.caps m x.gadget in
    let kept : told v.host ≡ facts = kept_facts m success r t h in
    record {
      makes = record {
        host = made.host;
        sent = e
            ∙ (λ i. made.sent i ++ flat_map (sent_packet_bytes (made.host i).guest.caps) (told (made.host i)))
            ∙ ap (λ (ps : List (ℕ × RedirPacket)). (o0 ++ flat_map f v.sent) ++ flat_map f ps) kept
            ∙ append_assoc o0 (flat_map f v.sent) (flat_map f facts)
            ∙ ap (λ bs. o0 ++ bs) (sym (flat_map-append f v.sent facts));
      };
      in_range = each_joined InRange v.sent facts (cleared_ranges success r t h) (subst (Each InRange) (ap told made.host ∙ kept) fit);
    }

gadget_by : {S : Type 0} (m : Meaning S) (change : Option Route) (t : EpTable) (success : Bool) (h : Host S) → (changed_by m change t success h).host.gadget ≡ h.gadget
gadget_by m None t success h = refl
gadget_by m (Some r) t success h = cleared_gadget success r t h

-- a change, or none, and then the answer
pub tells_done : {S : Type 0} (m : Meaning S) (t : EpTable) (h new : Host S) (q : Request) (change : Option Route) (o : Outcome) (o0 o1 o2 : List ℕ) → Tells (changed_by m change t (is_success o.status) h) new o0 o1 →
    o2 ≡ o1 ++ sent_packet_bytes new.guest.caps (answer (m.configuration new.gadget) q o) → Tells (done_by m t h q change o) new o0 o2
tells_done {S = S} m t h new q change o o0 o1 o2 made e =
    let v : Move S = changed_by m change t (is_success o.status) h in
    let kept : h.gadget ≡ new.gadget = sym (gadget_by m change t (is_success o.status) h) ∙ sym (ap (λ (x : Host S). x.gadget) made.makes.host) in
    record {
      makes = makes_then v (answer (m.configuration h.gadget) q o) (answer (m.configuration new.gadget) q o) new o0 o1 o2 made.makes (ap (λ (s : S). answer (m.configuration s) q o) kept) e;
      in_range = each_appended InRange v.sent (answer (m.configuration h.gadget) q o) made.in_range (answer_ranges (m.configuration h.gadget) q.id q.form q.transfer.ep o);
    }

-- ---- requests that are performed

-- the device did it, and this came of it
pub performed_is : {S : Type 0} (s new : S) (r : Option (S × Outcome)) (o : Outcome) → Some o ≡ given_in r → new ≡ state_in s r → r ≡ Some (new, o)
performed_is s new None o is e = absurd cc
performed_is {S = S} s new (Some done) o is e =
    let same : o ≡ done.1 = cc in
    λ i. Some (sym e i, sym same i)

pub outcome_is : {S : Type 0} (m : Meaning S) → IsGadget m → (s : S) (t : Transfer) (o : Outcome) → IsTransfer t → Some o ≡ given_in (m.perform s t) → IsOutcome t o
outcome_is m lawful s t o is came = given_if (IsOutcome t) (m.perform s t) o came (lawful.outcomes s t is)

pub performs_done : {S : Type 0} (m : Meaning S) (h new : Host S) (q : Request) (rest : List Request) (t : EpTable) (r : Option Route) (s : S) (o : Outcome) (o0 o1 : List ℕ) →
    m.perform h.gadget q.transfer ≡ Some (s, o) → t ≡ m.table h.gadget → r ≡ change_of q.form → Tells (done_by m t (record h { gadget = s; queue = rest }) q r o) new o0 o1 →
    TellsPerformed (with_id q (performs m (record h { queue = rest }) q)) h new (Done q.id) o0 o1
performs_done {S = S} m h new q rest t r s o o0 o1 performed table change made =
    let g : Host S = record h { gadget = s; queue = rest } in
    let made' : Tells (done_by m (m.table h.gadget) g q (change_of q.form) o) new o0 o1 =
    subst (λ (y : Option Route). Tells (done_by m (m.table h.gadget) g q y o) new o0 o1) change (subst (λ (x : EpTable). Tells (done_by m x g q r o) new o0 o1) table made) in
    let Says : Option (S × Outcome) → Type 0 = λ x. TellsPerformed (with_id q (does m (record h { queue = rest }) q (change_of q.form) x)) h new (Done q.id) o0 o1 in
    subst Says (sym performed) (record { told = refl; tells = made' })

-- it was performed at once
pub performs_now : {S : Type 0} (h new : Host S) (q : Request) (v : Option (Move S)) (o0 o1 : List ℕ) → PerformsNow v new o0 o1 → TellsPerformed (with_id q v) h new (Done q.id) o0 o1
performs_now h new q None o0 o1 now = absurd now
performs_now h new q (Some v) o0 o1 now = record { told = refl; tells = now }

-- ---- an endpoint's first request

-- the one that was found, by its mark
pub first_done : {S : Type 0} (m : Meaning S) (h new : Host S) (ep : ℕ) (q : Request) (marks : Bool) (told : Performed) (o0 o1 : List ℕ) → h.unplugged ≡ false → find (is_at ep) h.queue ≡ Some q → q.reset ≡ marks →
    TellsPerformed (with_id q (if marks then performs_marked m (record h { queue = without_first (is_at ep) h.queue }) q q.form else performs m (record h { queue = without_first (is_at ep) h.queue }) q)) h new told o0 o1 →
    (told ≡ told_performed m h ep) × Tells (perform_move m h ep) new o0 o1
first_done {S = S} m h new ep q marks told o0 o1 plugged found mark done =
    let rest = without_first (is_at ep) h.queue in
    let P : Option (ℕ × Move S) → Type 0 = λ r. (told ≡ told_performed_by h.unplugged r) × Tells (perform_move_by h r) new o0 o1 in
    let by : Bool → Option (ℕ × Move S) = λ b. with_id q (if b then performs_marked m (record h { queue = rest }) q q.form else performs m (record h { queue = rest }) q) in
    let same : by marks ≡ performed m h ep =
    ap by (sym mark)
    ∙ ap (first_performed m h ep) (sym found)
    ∙ ap (λ (b : Bool). if b then None else first_performed m h ep (find (is_at ep) h.queue)) (sym plugged) in
    subst P same (done.told ∙ ap (λ (b : Bool). told_performed_by b (by marks)) (sym plugged), done.tells)

pub some_same : {A : Type 0} (o : Option A) (x y : A) → o ≡ Some x → o ≡ Some y → x ≡ y
some_same o x y e f = let g : Some x ≡ Some y = sym e ∙ f in cc

-- the device isn't ready for it
pub performs_none : {S : Type 0} (m : Meaning S) (h new : Host S) (q : Request) (rest : List Request) (o0 : List ℕ) → m.perform h.gadget q.transfer ≡ None → new ≡ h → TellsPerformed (with_id q (performs m (record h { queue = rest }) q)) h new NotReady o0 o0
performs_none {S = S} m h new q rest o0 none same =
    let Says : Option (S × Outcome) → Type 0 = λ x. TellsPerformed (with_id q (does m (record h { queue = rest }) q (change_of q.form) x)) h new NotReady o0 o0 in
    subst Says (sym none) (record { told = refl; tells = record { makes = record { host = same; sent = sym (append-nil o0) }; in_range = tt } })

-- nothing came of it, and the device is as it was
pub not_ready : {S : Type 0} (s new : S) (r : Option (S × Outcome)) → None ≡ given_in r → new ≡ state_in s r → (r ≡ None) × (new ≡ s)
not_ready s new None is e = (refl, e)
not_ready s new (Some done) is e = absurd cc

pub on_ok_from : {T E : Type 0} (r : Result T E) (P : Type 0) → IfOk r (λ _. P) → OnOk r P
on_ok_from (Ok v) P h = h
on_ok_from (Err e) P h = tt

-- there is none
pub first_none : {S : Type 0} (m : Meaning S) (h : Host S) (ep : ℕ) (o0 : List ℕ) → h.unplugged ≡ false → find (is_at ep) h.queue ≡ None → (NotReady ≡ told_performed m h ep) × Tells (perform_move m h ep) h o0 o0
first_none {S = S} m h ep o0 plugged missing =
    let P : Option (ℕ × Move S) → Type 0 = λ r. (NotReady ≡ told_performed_by h.unplugged r) × Tells (perform_move_by h r) h o0 o0 in
    let same : None ≡ performed m h ep =
    ap (first_performed m h ep) (sym missing)
    ∙ ap (λ (b : Bool). if b then None else first_performed m h ep (find (is_at ep) h.queue)) (sym plugged) in
    subst P same (ap (λ (b : Bool). told_performed_by {S = S} b None) (sym plugged), record { makes = record { host = refl; sent = sym (append-nil o0) }; in_range = tt })

-- ---- with a reset

pub changed_guest : {S : Type 0} (m : Meaning S) (r : Route) (t : EpTable) (b : Bool) (h : Host S) → (changed m r t b h).host.guest ≡ h.guest
changed_guest m r t true h = refl
changed_guest m r t false h = refl

guest_by : {S : Type 0} (m : Meaning S) (change : Option Route) (t : EpTable) (b : Bool) (h : Host S) → (changed_by m change t b h).host.guest ≡ h.guest
guest_by m None t b h = refl
guest_by m (Some r) t b h = changed_guest m r t b h

-- the guest's requests stand as before, or some of them do
pub cleared_sound : {S : Type 0} (m : Meaning S) (r : Route) (t : EpTable) (b : Bool) (h : Host S) → IsSound h → IsSound (changed m r t b h).host
cleared_sound m r t true h s = record { requests = each_filtered (IsGuestRequest h.guest) (stays r t) h.queue s.requests; streams = each_filtered (IsRunning h.guest) (runs_on r t) h.running s.streams }
cleared_sound m r t false h s = s

pub changed_sound : {S : Type 0} (m : Meaning S) (r : Route) (t : EpTable) (b : Bool) (h new : Host S) (o0 o1 : List ℕ) → IsSound h → Makes (changed m r t b h) new o0 o1 → IsSound new
changed_sound {S = S} m r t b h new o0 o1 s made = let Says : Host S → Type 0 = λ x. IsSound x in subst Says (sym made.host) (cleared_sound m r t b h s)

pub changed_request : {S : Type 0} (m : Meaning S) (change : Option Route) (t : EpTable) (b : Bool) (h new : Host S) (o0 o1 : List ℕ) (q : Request) → IsGuestRequest h.guest q → Makes (changed_by m change t b h) new o0 o1 → IsGuestRequest new.guest q
changed_request {S = S} m change t b h new o0 o1 q is made =
    let same : h.guest ≡ new.guest = sym (guest_by m change t b h) ∙ sym (ap (λ (x : Host S). x.guest) made.host) in
    subst (λ (g : RedirState). IsGuestRequest g q) same is

made_behind : {S : Type 0} (v w : Move S) (before new : Host S) (o0 o1 o2 : List ℕ) → w.host.guest ≡ v.host.guest → Tells v before o0 o1 → Tells w new o1 o2 → Tells (behind v w) new o0 o2
made_behind v w before new o0 o1 o2 keeps a b =
    let f = sent_packet_bytes w.host.guest.caps in
    record {
      makes = record {
        host = b.makes.host;
        sent = b.makes.sent
            ∙ ap (λ bs. bs ++ bytes_of w) (a.makes.sent ∙ ap (λ (g : RedirState). o0 ++ flat_map (sent_packet_bytes g.caps) v.sent) (sym keeps))
            ∙ append_assoc o0 (flat_map f v.sent) (bytes_of w)
            ∙ ap (λ bs. o0 ++ bs) (sym (flat_map-append f v.sent w.sent));
      };
      in_range = each_joined InRange v.sent w.sent a.in_range b.in_range;
    }

-- the change of the reset, and then what the device did
does_behind : {S : Type 0} (m : Meaning S) (v : Move S) (q : Request) (r : Option Route) (o : Option (S × Outcome)) (before new : Host S) (o0 o1 o2 : List ℕ) → Tells v before o0 o1 → PerformsNow (does m v.host q r o) new o1 o2 → PerformsNow (option_map (behind v) (does m v.host q r o)) new o0 o2
does_behind m v q r None before new o0 o1 o2 a b = absurd b
does_behind {S = S} m v q r (Some done) before new o0 o1 o2 a b =
    let g : Host S = record v.host { gadget = done.0 } in
    made_behind v (done_by m (m.table v.host.gadget) g q r done.1) before new o0 o1 o2 (guest_by m r (m.table v.host.gadget) (is_success done.1.status) g) a b

pub now_behind : {S : Type 0} (m : Meaning S) (v : Move S) (q : Request) (before new : Host S) (o0 o1 o2 : List ℕ) → Tells v before o0 o1 → PerformsNow (performs m before q) new o1 o2 → PerformsNow (option_map (behind v) (performs m v.host q)) new o0 o2
now_behind {S = S} m v q before new o0 o1 o2 a b =
    let Says : Host S → Type 0 = λ h. PerformsNow (performs m h q) new o1 o2 in
    does_behind m v q (change_of q.form) (m.perform v.host.gadget q.transfer) before new o0 o1 o2 a (subst Says a.makes.host b)

-- the device was reset, changed, and performed the request
pub reset_behind : {S : Type 0} (m : Meaning S) (h after before new : Host S) (q : Request) (t : EpTable) (success : Bool) (o : Outcome) (o0 o1 o2 : List ℕ) → ResetsTo m h after o → t ≡ m.table h.gadget → success ≡ is_success o.status →
    Tells (changed m route.Reset t success after) before o0 o1 → PerformsNow (performs m before q) new o1 o2 → PerformsNow (resets m h q (m.perform h.gadget (routed route.Reset))) new o0 o2
reset_behind {S = S} m h after before new q t success o o0 o1 o2 reset table is made now =
    let Says : Option (S × Outcome) → Type 0 = λ x. PerformsNow (resets m h q x) new o0 o2 in
    let v : Move S = changed m route.Reset (m.table h.gadget) (is_success o.status) (record h { gadget = after.gadget }) in
    let made' : Tells v before o0 o1 = subst (λ (g : Host S). Tells (changed m route.Reset (m.table h.gadget) (is_success o.status) g) before o0 o1) reset.rest
    (subst (λ (b : Bool). Tells (changed m route.Reset (m.table h.gadget) b after) before o0 o1) is (subst (λ (x : EpTable). Tells (changed m route.Reset x success after) before o0 o1) table made)) in
    subst Says (sym reset.performed) (now_behind m v q before new o0 o1 o2 made' now)

-- the reset was all
pub reset_alone : {S : Type 0} (m : Meaning S) (h after new : Host S) (q : Request) (t : EpTable) (o : Outcome) (o0 o1 : List ℕ) → ResetsTo m h after o → t ≡ m.table h.gadget → Tells (done_by m t after q (Some route.Reset) o) new o0 o1 →
    PerformsNow (does m h q (Some route.Reset) (m.perform h.gadget (routed route.Reset))) new o0 o1
reset_alone {S = S} m h after new q t o o0 o1 reset table made =
    let Says : Option (S × Outcome) → Type 0 = λ x. PerformsNow (does m h q (Some route.Reset) x) new o0 o1 in
    subst Says (sym reset.performed)
    (subst (λ (g : Host S). Tells (done_by m (m.table h.gadget) g q (Some route.Reset) o) new o0 o1) reset.rest (subst (λ (x : EpTable). Tells (done_by m x after q (Some route.Reset) o) new o0 o1) table made))

pub reset_transfer : IsTransfer (routed route.Reset)
reset_transfer = record { address = lit< tt; has_setup = refl; direction = refl; from_device = λ into. absurd (let no : false ≡ true = into in cc); to_device = λ way. refl }

-- a reset moves nothing, so that it is an outcome of each transfer
pub nothing_moved : (t : Transfer) (o : Outcome) → IsOutcome (routed route.Reset) o → IsOutcome t o
nothing_moved t o is =
    let none : o.done ≡ 0 = omega (arith, is.done) in
    let body : o.body ≡ [] = is.to_device refl in
    record { done = omega (arith, none); from_device = λ into. none ∙ sym (ap length body); to_device = λ way. body }

pub reset_outcome : {S : Type 0} (m : Meaning S) → IsGadget m → (h after : Host S) (t : Transfer) (o : Outcome) → ResetsTo m h after o → IsOutcome t o
reset_outcome {S = S} m lawful h after t o reset =
    let Says : Option (S × Outcome) → Type 0 = λ x. IfSome x (λ done. IsOutcome (routed route.Reset) done.1) in
    nothing_moved t o (subst Says reset.performed (lawful.outcomes h.gadget (routed route.Reset) reset_transfer))

-- a reset keeps what is known of a host, but for its device
pub reset_sound : {S : Type 0} (m : Meaning S) (h after : Host S) (o : Outcome) → IsSound h → ResetsTo m h after o → IsSound after
reset_sound {S = S} m h after o s reset = let Says : Host S → Type 0 = λ x. IsSound x in subst Says (sym reset.rest) (record { requests = s.requests; streams = s.streams })

pub reset_request : {S : Type 0} (m : Meaning S) (h after : Host S) (o : Outcome) (q : Request) → IsGuestRequest h.guest q → ResetsTo m h after o → IsGuestRequest after.guest q
reset_request {S = S} m h after o q is reset = let Says : Host S → Type 0 = λ x. IsGuestRequest x.guest q in subst Says (sym reset.rest) is
