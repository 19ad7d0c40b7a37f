-- What a host sends can be read by its guest: its answers, its facts, and the packets of its streams.
use Rattle.std.proofs.Common.{◌≡◌, ℕ, ◌<◌, ◌≤◌, ◌^◌, Bool, true, false, cond, List, [], ◌∷◌, length, filter, map, Some, None, refl, sym, ap, subst, ◌∙◌, arith, lit<}
use Rattle.std.specs.Prelude.{Option, option_map, IfSome}
use Rattle.std.specs.List.{find, AllByRecursion as Each}
use Rattle.std.proofs.lemmas.Bool.{eqb-true, true≢false}
use Rattle.usb_base.specs.Endpoint.{is_in_endpoint}
use Rattle.usb_base.specs.Status.{status_byte, is_success}
use Rattle.usb_base.specs.declared.endpoint.EpTable.{EpTable}
use Rattle.usb_base.specs.declared.status.UsbStatus.TheVariants.{Cancelled}
use Rattle.usb_base.specs.declared.transfer.Outcome.{Outcome}
use Rattle.usb_base.specs.declared.transfer.StreamPacket.{StreamPacket}
use Rattle.redir_wire.specs.declared.packet.Caps.{Caps}
use Rattle.redir_wire.specs.declared.packet.RedirControl.TheVariants as plain
use Rattle.redir_wire.specs.declared.packet.Way.TheVariants.{ToGuest}
use Rattle.redir_wire.specs.declared.packet.TheConstants.Caps.{WIDE_IDS}
use Rattle.redir_wire.specs.declared.state.RedirState.{RedirState}
use Rattle.redir_wire.specs.Capability.{has}
use Rattle.redir_wire.specs.State.{wide_ids}
use Rattle.redir_wire.specs.Header.{IdFits}
use Rattle.redir_data.specs.declared.packet.RedirData.TheVariants as moving
use Rattle.redir_data.specs.declared.packet.RedirPacket.{RedirPacket}
use Rattle.redir_data.specs.declared.packet.RedirPacket.TheVariants.{Plain}
use Rattle.redir_data.specs.Sent.{CanBeRead}
use Rattle.redir_data.proofs.Sent.{control_sent, data_sent}
use Rattle.redir_data.specs.declared.stream_kind.StreamKind.{StreamKind}
use Rattle.redir_data.specs.declared.stream_kind.StreamKind.TheVariants.{Iso, Interrupt}
use Rattle.control_route.specs.declared.route.Route.{Route}
use Rattle.control_route.specs.declared.route.Route.TheVariants as route
use Rattle.model_device.specs.Gadget.{IsGadget}
use Rattle.model_device.specs.Meaning.{Meaning}
use Rattle.model_device.specs.Transfer.{IsOutcome}
use Rattle.model_device.specs.declared.gadget.TheConstants.{MAX_STREAM_PACKET}
use Rattle.redir_host.specs.declared.state.host.Host.{Host}
use Rattle.redir_host.specs.declared.state.request.Form.{Form}
use Rattle.redir_host.specs.declared.state.request.Form.TheVariants as form
use Rattle.redir_host.specs.declared.state.request.Request.{Request}
use Rattle.redir_host.specs.declared.state.running.Running.{Running}
use Rattle.chapter9.specs.Standard.{ended}
use Rattle.redir_host.specs.write.Answers.{alt_in, answer, answer_by, cancelled}
use Rattle.redir_host.specs.guest.Asking.{routed}
use Rattle.redir_host.specs.device.Changes.{change_of, changed, cleared, touched}
use Rattle.redir_host.specs.device.Facts.{facts_of, ep_info_of}
use Rattle.redir_host.specs.step.Makes.{AnswerFits}
use Rattle.redir_host.specs.step.Moves.{Move, quiet, behind}
use Rattle.redir_host.specs.device.Offering.{stream_packet, offered_by, offered_on, offer_move, unplug_move}
use Rattle.redir_host.specs.guest.Packets.{runs_at}
use Rattle.redir_host.specs.device.Performing.{done_by, does, performs, resets, performs_marked, performs_any, with_id, first_performed, perform_move, perform_move_by}
use Rattle.usb_base.specs.Firsts.{without_first}
use Rattle.redir_host.specs.state.Queues.{is_at}
use Rattle.redir_host.specs.write.Readable.{AreRead, InRange}
use Rattle.redir_host.specs.state.Sound.{FormFits, IsGuestRequest, IsRunning, IsSound}
use Rattle.redir_host.proofs.lemmas.write.Answers.{can_answer, ended_fits, few_wanted, outcome_fits}
use Rattle.redir_host.proofs.lemmas.state.Sound.{each-without, unplugged-by, with-gadget}
use Rattle.redir_host.proofs.lemmas.step.Makes.{changed_guest, cleared_sound, nothing_moved, reset_transfer}
use Rattle.redir_host.proofs.lemmas.state.Each.{each_appended, each_behind, each_filtered, each_front, each_joined, if_found}
use Rattle.redir_host.proofs.lemmas.write.Facts.{ep_info, interface_info, no_id, stream_told}

-- ---- answers

pub answer-read : (caps : Caps) (configuration id : ℕ) (f : Form) (ep : ℕ) (o : Outcome) → IdFits (wide_ids caps) id → AnswerFits caps f ep o → FormFits f → o.done < 2 ^ 32 → CanBeRead ToGuest caps (id, answer_by configuration f ep o)
answer-read caps configuration id (form.Control s) ep o fits a own few =
    data_sent ToGuest caps id (moving.Control ep s.request s.kind (status_byte o.status) s.value s.index o.done o.body) ((own.0, (own.1, (a.done, tt))), tt) (can_answer caps configuration id (form.Control s) ep o fits a)
answer-read caps configuration id (form.Bulk stream) ep o fits a own few =
    data_sent ToGuest caps id (moving.Bulk ep (status_byte o.status) o.done stream o.body) ((own, tt), (few, tt)) (can_answer caps configuration id (form.Bulk stream) ep o fits a)
answer-read caps configuration id form.Interrupt ep o fits a own few =
    data_sent ToGuest caps id (moving.Interrupt ep (status_byte o.status) o.done o.body) ((a.done, tt), tt) (can_answer caps configuration id form.Interrupt ep o fits a)
answer-read caps configuration id (form.SetConfiguration asked) ep o fits a own few =
    control_sent ToGuest caps id (plain.ConfigurationStatus (status_byte o.status) configuration) refl tt (can_answer caps configuration id (form.SetConfiguration asked) ep o fits a) refl
answer-read caps configuration id form.GetConfiguration ep o fits a own few =
    control_sent ToGuest caps id (plain.ConfigurationStatus (status_byte o.status) configuration) refl tt (can_answer caps configuration id form.GetConfiguration ep o fits a) refl
answer-read caps configuration id (form.SetAlt interface alt) ep o fits a own few =
    control_sent ToGuest caps id (plain.AltStatus (status_byte o.status) interface alt) refl tt (can_answer caps configuration id (form.SetAlt interface alt) ep o fits a) refl
answer-read caps configuration id (form.GetAlt interface) ep o fits a own few =
    control_sent ToGuest caps id (plain.AltStatus (status_byte o.status) interface (alt_in o)) refl tt (can_answer caps configuration id (form.GetAlt interface) ep o fits a) refl

pub cancelled-read : (guest : RedirState) (q : Request) → IsGuestRequest guest q → CanBeRead ToGuest guest.caps (cancelled q)
cancelled-read guest q is = answer-read guest.caps 0 q.id q.form q.transfer.ep (ended Cancelled) is.id_fits (ended_fits guest.caps q.form q.transfer.ep Cancelled) is.form_fits (lit< tt)

outcome-read : (guest : RedirState) (configuration : ℕ) (q : Request) (o : Outcome) → IsGuestRequest guest q → IsOutcome q.transfer o → CanBeRead ToGuest guest.caps (answer configuration q o)
outcome-read guest configuration q o is came =
    let few = few_wanted guest.caps q.form q.transfer.wanted is.wanted_fits in
    let done = came.done in
    answer-read guest.caps configuration q.id q.form q.transfer.ep o is.id_fits (outcome_fits guest q o is came) is.form_fits (omega arith)

-- ---- changes

pub facts-read : {S : Type 0} (m : Meaning S) → IsGadget m → (caps : Caps) (s : S) → Each InRange (facts_of caps m s) → Each (CanBeRead ToGuest caps) (facts_of caps m s)
facts-read m lawful caps s fit = (
  control_sent ToGuest caps 0 (plain.EpInfo (ep_info_of caps (m.table s))) refl fit.0 (ep_info caps (m.table s)) refl,
  (control_sent ToGuest caps 0 (plain.InterfaceInfo (m.interfaces s)) refl fit.1.0 (interface_info caps (m.interfaces s) (lawful.few_interfaces s)) refl, tt),
)

flushed-read : (guest : RedirState) (qs : List Request) → Each (IsGuestRequest guest) qs → Each (CanBeRead ToGuest guest.caps) (map cancelled qs)
flushed-read guest [] each = tt
flushed-read guest (q ∷ qs) each = (cancelled-read guest q each.0, flushed-read guest qs each.1)

cleared-read : {S : Type 0} (success : Bool) (r : Route) (t : EpTable) (h : Host S) → IsSound h → Each (CanBeRead ToGuest h.guest.caps) (cleared success r t h).sent
cleared-read true r t h sound = flushed-read h.guest (filter (touched r t) h.queue) (each_filtered (IsGuestRequest h.guest) (touched r t) h.queue sound.requests)
cleared-read false r t h sound = tt

changed-read : {S : Type 0} (m : Meaning S) → IsGadget m → (r : Route) (t : EpTable) (success : Bool) (h : Host S) → IsSound h → Each InRange (changed m r t success h).sent → Each (CanBeRead ToGuest h.guest.caps) (changed m r t success h).sent
changed-read {S = S} m lawful r t success h sound fit =
    let v : Move S = cleared success r t h in
    let facts = facts_of h.guest.caps m h.gadget in
    each_joined (CanBeRead ToGuest h.guest.caps) v.sent facts (cleared-read success r t h sound) (facts-read m lawful h.guest.caps h.gadget (each_behind InRange v.sent facts fit))

-- ---- performs

done-read : {S : Type 0} (m : Meaning S) → IsGadget m → (t : EpTable) (h : Host S) (q : Request) (r : Option Route) (o : Outcome) → IsSound h → IsGuestRequest h.guest q → IsOutcome q.transfer o → Each InRange (done_by m t h q r o).sent →
    Each (CanBeRead ToGuest h.guest.caps) (done_by m t h q r o).sent
done-read m lawful t h q None o sound is came fit = (outcome-read h.guest (m.configuration h.gadget) q o is came, tt)
done-read {S = S} m lawful t h q (Some r) o sound is came fit =
    let v : Move S = changed m r t (is_success o.status) h in
    let a = answer (m.configuration h.gadget) q o in
    each_appended (CanBeRead ToGuest h.guest.caps) v.sent a (changed-read m lawful r t (is_success o.status) h sound (each_front InRange v.sent (a ∷ []) fit)) (outcome-read h.guest (m.configuration h.gadget) q o is came)

abbrev ReadIf : {S : Type 0} → Caps → Option (Move S) → Type 0
ReadIf caps None = Unit {0}
ReadIf caps (Some v) = Each InRange v.sent → Each (CanBeRead ToGuest caps) v.sent

does-read : {S : Type 0} (m : Meaning S) → IsGadget m → (h : Host S) (q : Request) (r : Option Route) (o : Option (S × Outcome)) → IsSound h → IsGuestRequest h.guest q → IfSome o (λ done. IsOutcome q.transfer done.1) → ReadIf h.guest.caps (does m h q r o)
does-read m lawful h q r None sound is came = tt
does-read {S = S} m lawful h q r (Some done) sound is came =
    let g : Host S = record h { gadget = done.0 } in
    λ fit. done-read m lawful (m.table h.gadget) g q r done.1 (with-gadget h done.0 sound) is came fit

performs-read : {S : Type 0} (m : Meaning S) → IsGadget m → (h : Host S) (q : Request) → IsSound h → IsGuestRequest h.guest q → ReadIf h.guest.caps (performs m h q)
performs-read m lawful h q sound is = does-read m lawful h q (change_of q.form) (m.perform h.gadget q.transfer) sound is (lawful.outcomes h.gadget q.transfer is.transfer)

follows-read : {S : Type 0} (caps : Caps) (v : Move S) (o : Option (Move S)) → (Each InRange v.sent → Each (CanBeRead ToGuest caps) v.sent) → ReadIf caps o → ReadIf caps (option_map (behind v) o)
follows-read caps v None f g = tt
follows-read caps v (Some w) f g = λ fit. each_joined (CanBeRead ToGuest caps) v.sent w.sent (f (each_front InRange v.sent w.sent fit)) (g (each_behind InRange v.sent w.sent fit))

resets-read : {S : Type 0} (m : Meaning S) → IsGadget m → (h : Host S) (q : Request) (o : Option (S × Outcome)) → IsSound h → IsGuestRequest h.guest q → ReadIf h.guest.caps (resets m h q o)
resets-read m lawful h q None sound is = tt
resets-read {S = S} m lawful h q (Some done) sound is =
    let g : Host S = record h { gadget = done.0 } in
    let still = with-gadget h done.0 sound in
    let success = is_success done.1.status in
    let v : Move S = changed m route.Reset (m.table h.gadget) success g in
    let same : v.host.guest ≡ h.guest = changed_guest m route.Reset (m.table h.gadget) success g in
    let then : ReadIf v.host.guest.caps (performs m v.host q) =
    performs-read m lawful v.host q (cleared_sound m route.Reset (m.table h.gadget) success g still) (subst (λ (x : RedirState). IsGuestRequest x q) (sym same) is) in
    follows-read h.guest.caps v (performs m v.host q) (λ fit. changed-read m lawful route.Reset (m.table h.gadget) success g still fit)
    (subst (λ (x : RedirState). ReadIf x.caps (performs m v.host q)) same then)

moved-nothing : {S : Type 0} (q : Request) (o : Option (S × Outcome)) → IfSome o (λ done. IsOutcome (routed route.Reset) done.1) → IfSome o (λ done. IsOutcome q.transfer done.1)
moved-nothing q None is = tt
moved-nothing q (Some done) is = nothing_moved q.transfer done.1 is

marked-read : {S : Type 0} (m : Meaning S) → IsGadget m → (h : Host S) (q : Request) (f : Form) → IsSound h → IsGuestRequest h.guest q → ReadIf h.guest.caps (performs_marked m h q f)
marked-read m lawful h q (form.Control setup) sound is = resets-read m lawful h q (m.perform h.gadget (routed route.Reset)) sound is
marked-read m lawful h q (form.Bulk stream) sound is = resets-read m lawful h q (m.perform h.gadget (routed route.Reset)) sound is
marked-read m lawful h q form.Interrupt sound is = resets-read m lawful h q (m.perform h.gadget (routed route.Reset)) sound is
marked-read m lawful h q (form.SetConfiguration configuration) sound is = resets-read m lawful h q (m.perform h.gadget (routed route.Reset)) sound is
marked-read m lawful h q form.GetConfiguration sound is =
    does-read m lawful h q (Some route.Reset) (m.perform h.gadget (routed route.Reset)) sound is (moved-nothing q (m.perform h.gadget (routed route.Reset)) (lawful.outcomes h.gadget (routed route.Reset) reset_transfer))
marked-read m lawful h q (form.SetAlt interface alt) sound is = resets-read m lawful h q (m.perform h.gadget (routed route.Reset)) sound is
marked-read m lawful h q (form.GetAlt interface) sound is = resets-read m lawful h q (m.perform h.gadget (routed route.Reset)) sound is

any-read : {S : Type 0} (m : Meaning S) → IsGadget m → (h : Host S) (q : Request) (b : Bool) → IsSound h → IsGuestRequest h.guest q → ReadIf h.guest.caps (cond b (performs_marked m h q q.form) (performs m h q))
any-read m lawful h q true sound is = marked-read m lawful h q q.form sound is
any-read m lawful h q false sound is = performs-read m lawful h q sound is

-- a host that has sent anything has read its guest's hello
pub are-read : (guest : RedirState) (sent : List (ℕ × RedirPacket)) → guest.first ≡ false → Each (CanBeRead ToGuest guest.caps) sent → AreRead guest sent
are-read guest sent greeted read = record { none = λ first. absurd (true≢false (sym first ∙ greeted)); read = read }

pub nothing-sent : (guest : RedirState) → AreRead guest []
nothing-sent guest = record { none = λ first. refl; read = tt }

read-by : {S : Type 0} (guest : RedirState) (h : Host S) (q : Request) (o : Option (Move S)) → guest.first ≡ false → ReadIf guest.caps o → Each InRange (perform_move_by h (with_id q o)).sent → AreRead guest (perform_move_by h (with_id q o)).sent
read-by guest h q None greeted read fit = nothing-sent guest
read-by guest h q (Some v) greeted read fit = are-read guest v.sent greeted (read fit)

first-read : {S : Type 0} (m : Meaning S) → IsGadget m → (h : Host S) (ep : ℕ) (o : Option Request) → IsSound h → IfSome o (λ q. IsGuestRequest h.guest q × (is_at ep q ≡ true)) → Each InRange (perform_move_by h (first_performed m h ep o)).sent →
    AreRead h.guest (perform_move_by h (first_performed m h ep o)).sent
first-read m lawful h ep None sound is fit = nothing-sent h.guest
first-read {S = S} m lawful h ep (Some q) sound is fit =
    let g : Host S = record h { queue = without_first (is_at ep) h.queue } in
    let rest : IsSound g = record { requests = each-without (IsGuestRequest h.guest) (is_at ep) h.queue sound.requests; streams = sound.streams } in
    let own = is.0 in
    read-by h.guest h q (performs_any m g q) own.greeted (any-read m lawful g q q.reset rest own) fit

pub perform-read : {S : Type 0} (m : Meaning S) → IsGadget m → (h : Host S) (ep : ℕ) → IsSound h → Each InRange (perform_move m h ep).sent → AreRead h.guest (perform_move m h ep).sent
perform-read {S = S} m lawful h ep sound = by h.unplugged
  where
    one : Bool → Option (ℕ × Move S)
    one b = cond b None (first_performed m h ep (find (is_at ep) h.queue))

    by : (b : Bool) → Each InRange (perform_move_by h (one b)).sent → AreRead h.guest (perform_move_by h (one b)).sent
    by true fit = nothing-sent h.guest
    by false fit = first-read m lawful h ep (find (is_at ep) h.queue) sound (if_found (IsGuestRequest h.guest) (is_at ep) h.queue sound.requests) fit

-- ---- offers, and the end

stream-read : (caps : Caps) (k : StreamKind) (ep : ℕ) (p : StreamPacket) → is_in_endpoint ep ≡ true → length p.body ≤ MAX_STREAM_PACKET → CanBeRead ToGuest caps (stream_packet k ep p)
stream-read caps Iso ep p way few = data_sent ToGuest caps 0 (moving.Iso ep (status_byte p.status) (length p.body) p.body) ((omega arith, tt), tt) (stream_told caps Iso ep p way few)
stream-read caps Interrupt ep p way few = data_sent ToGuest caps 0 (moving.Interrupt ep (status_byte p.status) (length p.body) p.body) ((omega arith, tt), tt) (stream_told caps Interrupt ep p way few)

offered-read : {S : Type 0} (h : Host S) (ep : ℕ) (k : StreamKind) (o : Option (S × StreamPacket)) → h.guest.first ≡ false → is_in_endpoint ep ≡ true → IfSome o (λ sent. length sent.1.body ≤ MAX_STREAM_PACKET) → AreRead h.guest (offered_by h ep k o).sent
offered-read h ep k None greeted way few = nothing-sent h.guest
offered-read h ep k (Some sent) greeted way few = are-read h.guest (stream_packet k ep sent.1 ∷ []) greeted (stream-read h.guest.caps k ep sent.1 way few, tt)

running-read : {S : Type 0} (m : Meaning S) → IsGadget m → (h : Host S) (ep : ℕ) (o : Option Running) → IfSome o (λ s. IsRunning h.guest s × (runs_at ep s ≡ true)) → AreRead h.guest (offered_on m h ep o).sent
running-read m lawful h ep None is = nothing-sent h.guest
running-read m lawful h ep (Some s) is =
    let own = is.0 in
    offered-read h ep s.kind (m.offer h.gadget ep) own.greeted (ap is_in_endpoint (sym (eqb-true s.ep ep is.1)) ∙ own.in_endpoint) (lawful.packets h.gadget ep)

pub offer-read : {S : Type 0} (m : Meaning S) → IsGadget m → (h : Host S) (ep : ℕ) → IsSound h → AreRead h.guest (offer_move m h ep).sent
offer-read {S = S} m lawful h ep sound =
    elim h.unplugged as (λ (b : Bool). AreRead h.guest (cond b (quiet h) (offered_on m h ep (find (runs_at ep) h.running))).sent) [
      | true ↦ nothing-sent h.guest
      | false ↦ running-read m lawful h ep (find (runs_at ep) h.running) (if_found (IsRunning h.guest) (runs_at ep) h.running sound.streams)
    ]

gone : (guest : RedirState) (b : Bool) → guest.first ≡ b → AreRead guest (cond b [] ((0, Plain plain.Disconnect) ∷ []))
gone guest true first = nothing-sent guest
gone guest false greeted =
    are-read guest ((0, Plain plain.Disconnect) ∷ []) greeted (control_sent ToGuest guest.caps 0 plain.Disconnect refl tt (record { agreed = refl; id_fits = no_id (has guest.caps WIDE_IDS); writable = tt }) refl, tt)

pub unplug-read : {S : Type 0} (h : Host S) → AreRead h.guest (unplug_move h).sent
unplug-read {S = S} h =
    elim h.unplugged as (λ (b : Bool). AreRead h.guest (unplugged-by h b).sent) [ true ↦ nothing-sent h.guest | false ↦ gone h.guest h.guest.first refl ]
