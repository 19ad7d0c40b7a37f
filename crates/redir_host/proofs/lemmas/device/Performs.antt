-- What holds of every move that performs a request or offers a packet: it is shown of a change, of an answer and of a
-- packet, and of two such moves one behind the other.
use Rattle.std.proofs.Common.{◌≡◌, ℕ, Bool, true, false, cond, Some, None, refl}
use Rattle.std.specs.Prelude.{Option, option_map, IfSome}
use Rattle.std.specs.List.{find}
use Rattle.usb_base.specs.Status.{is_success}
use Rattle.usb_base.specs.declared.endpoint.EpTable.{EpTable}
use Rattle.usb_base.specs.declared.transfer.Outcome.{Outcome}
use Rattle.usb_base.specs.declared.transfer.StreamPacket.{StreamPacket}
use Rattle.redir_data.specs.declared.stream_kind.StreamKind.{StreamKind}
use Rattle.control_route.specs.declared.route.Route.{Route}
use Rattle.control_route.specs.declared.route.Route.TheVariants as route
use Rattle.model_device.specs.Meaning.{Meaning}
use Rattle.redir_host.specs.declared.state.host.Host.{Host}
use Rattle.redir_host.specs.declared.state.request.Form.{Form}
use Rattle.redir_host.specs.declared.state.request.Form.TheVariants as form
use Rattle.redir_host.specs.declared.state.request.Request.{Request}
use Rattle.redir_host.specs.declared.state.running.Running.{Running}
use Rattle.redir_host.specs.guest.Asking.{routed}
use Rattle.redir_host.specs.guest.Packets.{runs_at}
use Rattle.redir_host.specs.device.Changes.{change_of, changed}
use Rattle.redir_host.specs.device.Offering.{offered_by, offered_on}
use Rattle.redir_host.specs.device.Performing.{done_by, does, first_performed, perform_move_by, performs, performs_any, performs_marked, resets, with_id}
use Rattle.usb_base.specs.Firsts.{without_first}
use Rattle.redir_host.specs.state.Queues.{is_at}
use Rattle.redir_host.specs.step.Moves.{Move, behind, quiet}

-- the moves of such requests, for such hosts, have it
pub record IsPreserved {S : Type 0} (m : Meaning S) (OfRequest : Request → Type 0) (OfHost : Host S → Type 0) (Has : Move S → Type 0) : Type 0 where
  pub none : (h : Host S) → Has (quiet h)
  pub gadget : (h : Host S) (s : S) → OfHost h → OfHost (record h { gadget = s })
  pub first : (h : Host S) (ep : ℕ) (q : Request) → find (is_at ep) h.queue ≡ Some q → OfHost h → OfRequest q × OfHost (record h { queue = without_first (is_at ep) h.queue })
  pub change : (r : Route) (table : EpTable) (b : Bool) (h : Host S) → OfHost h → Has (changed m r table b h) × OfHost (changed m r table b h).host
  pub done : (table : EpTable) (h : Host S) (q : Request) (r : Option Route) (o : Outcome) → OfRequest q → OfHost h → Has (done_by m table h q r o)
  pub then : (v w : Move S) → Has v → Has w → Has (behind v w)

-- where each of these moves has it, whatever the request and the host
pub always-kept : {S : Type 0} {m : Meaning S} {P : Move S → Type 0} → ((h : Host S) → P (quiet h)) → ((r : Route) (table : EpTable) (b : Bool) (h : Host S) → P (changed m r table b h))
    → ((table : EpTable) (h : Host S) (q : Request) (r : Option Route) (o : Outcome) → P (done_by m table h q r o)) → ((v w : Move S) → P v → P w → P (behind v w)) → IsPreserved m (λ q. Unit {0}) (λ h. Unit {0}) P
always-kept none change done then = record {
  none = none;
  gadget = λ h s is. tt;
  first = λ h ep q found is. (tt, tt);
  change = λ r table b h is. (change r table b h, tt);
  done = λ table h q r o one is. done table h q r o;
  then = then;
}

does-kept : {S : Type 0} {m : Meaning S} {R : Request → Type 0} {H : Host S → Type 0} {P : Move S → Type 0} → IsPreserved m R H P → (h : Host S) (q : Request) (r : Option Route) (o : Option (S × Outcome)) → R q → H h → IfSome (does m h q r o) P
does-kept k h q r None one is = tt
does-kept {S = S} {m = m} k h q r (Some done) one is = let g : Host S = record h { gadget = done.0 } in k.done (m.table h.gadget) g q r done.1 one (k.gadget h done.0 is)

follows-kept : {S : Type 0} {m : Meaning S} {R : Request → Type 0} {H : Host S → Type 0} {P : Move S → Type 0} → IsPreserved m R H P → (v : Move S) (o : Option (Move S)) → P v → IfSome o P → IfSome (option_map (behind v) o) P
follows-kept k v None first then = tt
follows-kept k v (Some w) first then = k.then v w first then

resets-kept : {S : Type 0} {m : Meaning S} {R : Request → Type 0} {H : Host S → Type 0} {P : Move S → Type 0} → IsPreserved m R H P → (h : Host S) (q : Request) (o : Option (S × Outcome)) → R q → H h → IfSome (resets m h q o) P
resets-kept k h q None one is = tt
resets-kept {S = S} {m = m} k h q (Some done) one is =
    let g : Host S = record h { gadget = done.0 } in
    let v : Move S = changed m route.Reset (m.table h.gadget) (is_success done.1.status) g in
    let c = k.change route.Reset (m.table h.gadget) (is_success done.1.status) g (k.gadget h done.0 is) in
    follows-kept k v (performs m v.host q) c.0 (does-kept k v.host q (change_of q.form) (m.perform v.host.gadget q.transfer) one c.1)

marked-kept : {S : Type 0} {m : Meaning S} {R : Request → Type 0} {H : Host S → Type 0} {P : Move S → Type 0} → IsPreserved m R H P → (h : Host S) (q : Request) (f : Form) → R q → H h → IfSome (performs_marked m h q f) P
marked-kept {m = m} k h q form.GetConfiguration one is = does-kept k h q (Some route.Reset) (m.perform h.gadget (routed route.Reset)) one is
marked-kept {m = m} k h q _ one is = resets-kept k h q (m.perform h.gadget (routed route.Reset)) one is

any-kept : {S : Type 0} {m : Meaning S} {R : Request → Type 0} {H : Host S → Type 0} {P : Move S → Type 0} → IsPreserved m R H P → (h : Host S) (q : Request) (b : Bool) → R q → H h → IfSome (cond b (performs_marked m h q q.form) (performs m h q)) P
any-kept k h q true one is = marked-kept k h q q.form one is
any-kept {m = m} k h q false one is = does-kept k h q (change_of q.form) (m.perform h.gadget q.transfer) one is

by-kept : {S : Type 0} {m : Meaning S} {R : Request → Type 0} {H : Host S → Type 0} {P : Move S → Type 0} → IsPreserved m R H P → (h : Host S) (q : Request) (o : Option (Move S)) → IfSome o P → P (perform_move_by h (with_id q o))
by-kept k h q None has = k.none h
by-kept k h q (Some v) has = has

first-kept : {S : Type 0} {m : Meaning S} {R : Request → Type 0} {H : Host S → Type 0} {P : Move S → Type 0} → IsPreserved m R H P → (h : Host S) (ep : ℕ) (o : Option Request) → find (is_at ep) h.queue ≡ o → H h → P (perform_move_by h (first_performed m h ep o))
first-kept k h ep None none is = k.none h
first-kept {S = S} {m = m} k h ep (Some q) found is =
    let g : Host S = record h { queue = without_first (is_at ep) h.queue } in
    let first = k.first h ep q found is in
    by-kept k h q (performs_any m g q) (any-kept k g q q.reset first.0 first.1)

pub perform-kept : {S : Type 0} {m : Meaning S} {R : Request → Type 0} {H : Host S → Type 0} {P : Move S → Type 0} → IsPreserved m R H P → (h : Host S) (ep : ℕ) (b : Bool) → H h → P (perform_move_by h (cond b None (first_performed m h ep (find (is_at ep) h.queue))))
perform-kept k h ep true is = k.none h
perform-kept k h ep false is = first-kept k h ep (find (is_at ep) h.queue) refl is

-- ---- offers

pub offer-kept : {S : Type 0} (m : Meaning S) (Has : Move S → Type 0) → ((h : Host S) → Has (quiet h)) → ((h : Host S) (ep : ℕ) (k : StreamKind) (sent : S × StreamPacket) → Has (offered_by h ep k (Some sent))) →
    (h : Host S) (ep : ℕ) (b : Bool) → Has (cond b (quiet h) (offered_on m h ep (find (runs_at ep) h.running)))
offer-kept {S = S} m Has none given h ep b = by b
  where
    packet : (k : StreamKind) (o : Option (S × StreamPacket)) → Has (offered_by h ep k o)
    packet k None = none h
    packet k (Some sent) = given h ep k sent

    stream : (o : Option Running) → Has (offered_on m h ep o)
    stream None = none h
    stream (Some s) = packet s.kind (m.offer h.gadget ep)

    by : (b : Bool) → Has (cond b (quiet h) (offered_on m h ep (find (runs_at ep) h.running)))
    by true = none h
    by false = stream (find (runs_at ep) h.running)
