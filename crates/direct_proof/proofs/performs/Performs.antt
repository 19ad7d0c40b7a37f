-- A request that the host performs is the first of its endpoint at the device attached directly, and what comes of it
-- is the same.
use Rattle.std.proofs.Common.{◌≡◌, ℕ, ◌==◌, not, Bool, true, false, cond, List, [], ◌∷◌, ◌++◌, map, filter, Option, Some, None, is_some, refl, sym, ap, ◌∙◌, subst, arith}
use Rattle.std.specs.Prelude.{IsSomeAnd, IsSome}
use Rattle.std.specs.List.{find}
use Rattle.usb_base.specs.Status.{is_success}
use Rattle.usb_base.specs.declared.transfer.Outcome.{Outcome}
use Rattle.control_route.specs.declared.route.Route.{Route}
use Rattle.control_route.specs.declared.route.Route.TheVariants as route
use Rattle.model_device.specs.Meaning.{Meaning}
use Rattle.redir_host.specs.declared.state.host.Host.{Host}
use Rattle.redir_host.specs.declared.state.request.Request.{Request as HostRequest}
use Rattle.redir_host.specs.step.Moves.{Move as HostMove}
use Rattle.usb_base.specs.Firsts.{without_first}
use Rattle.redir_host.specs.state.Queues.{queue_of, is_at}
use Rattle.redir_host.specs.device.Performing.{does, performs_any, first_performed, perform_move_by, told_performed_by, with_id}
use Rattle.gate_history.proofs.lemmas.Lists.{filter-all, filter-none}
use Rattle.gate_history.specs.state.Ups.{stream_of}
use Rattle.gate_history.specs.declared.verdict.Verdict.{Verdict}
use Rattle.gate_history.specs.declared.verdict.Verdict.TheVariants.{Routed}
use Rattle.gate_history.specs.declared.request.Request.{Request}
use Rattle.direct_run.specs.Noted.{queue_byte, number_in, performed_item}
use Rattle.direct_run.specs.Moves.{Made, World, Performs, host_made, move}
use Rattle.direct_device.specs.Direct.{Load, Waiting, Direct, number, normal_of, normal_by, change_in, cancelled, is_at as is_first_at, without_first as without, is_number}
use Rattle.direct_device.specs.Acting.{Deed, Perform, act, performed_first, performed_by, is_flushed, joins_ran}
use Rattle.direct_device.specs.Legal.{IsAllowed}
use Rattle.direct_proof.specs.Deeds.{as_deeds}
use Rattle.direct_proof.specs.Requests.{Entry, Coming, at_queue, at_device, ran_of, queued_transfer}
use Rattle.direct_proof.specs.Tagged.{Answered, on_wire}
use Rattle.direct_proof.specs.Shared.{Shared, view}
use Rattle.direct_proof.proofs.answers.Loads.{performed-as}
use Rattle.direct_proof.proofs.shared.WireBack.{way-answer, ran-answer}

pub itself : (n : ℕ) → (n == n) ≡ true
itself n = grind arith

-- ---- the first of a queue

queue-route : (r : Request) (x : Route) → queue_of (queued_transfer (record { request = r; verdict = Routed x })).ep ≡ queue_of (normal_by r (Routed x)).ep
queue-route r (route.SetConfig configuration) = refl
queue-route r _ = refl

pub same-queue : (l : Load) → queue_of (queued_transfer l).ep ≡ queue_of (normal_of l).ep
same-queue l = go l.verdict
  where
    go : (v : Verdict) → queue_of (queued_transfer (record { request = l.request; verdict = v })).ep ≡ queue_of (normal_by l.request v).ep
    go (Routed x) = queue-route l.request x
    go _ = refl

abbrev in_queue : ℕ → HostRequest → Bool
in_queue k q = queue_of q.transfer.ep == k

abbrev of_queue : ℕ → Waiting → Bool
of_queue k q = queue_of (normal_of q.load).ep == k

-- the first entry of a queue, at the host and at the device
pub record First (k : ℕ) (es more : List Entry) (q : HostRequest) : Type 0 where
  pub entry : Entry
  pub rest : List Entry
  pub is : q ≡ at_queue entry
  pub front : List Entry
  pub back : List Entry
  pub es-is : es ≡ front ++ entry ∷ back
  pub rest-is : rest ≡ front ++ back
  pub host_rest : without_first (in_queue k) (map at_queue es) ≡ map at_queue rest
  pub device : find (of_queue k) (map at_device (es ++ more)) ≡ Some (at_device entry)
  pub device_rest : without (of_queue k) (map at_device (es ++ more)) ≡ map at_device (rest ++ more)

pub first-of : (k : ℕ) (es more : List Entry) (q : HostRequest) → find (in_queue k) (map at_queue es) ≡ Some q → First k es more q
first-of k [] more q h = absurd (cc)
first-of k (e ∷ es) more q h = go (in_queue k (at_queue e)) refl h (λ z. first-of k es more q z)
  where
    same : of_queue k (at_device e) ≡ in_queue k (at_queue e)
    same = ap (λ (n : ℕ). n == k) (sym (same-queue e.load))

    go : (b : Bool) → in_queue k (at_queue e) ≡ b → cond b (Some (at_queue e)) (find (in_queue k) (map at_queue es)) ≡ Some q → (find (in_queue k) (map at_queue es) ≡ Some q → First k es more q) → First k (e ∷ es) more q
    go true i z rest = record {
      entry = e;
      rest = es;
      is = cc;
      front = [];
      back = es;
      es-is = refl;
      rest-is = refl;
      host_rest = ap (λ (b : Bool). cond b (map at_queue es) (at_queue e ∷ without_first (in_queue k) (map at_queue es))) i;
      device = ap (λ (b : Bool). cond b (Some (at_device e)) (find (of_queue k) (map at_device (es ++ more)))) (same ∙ i);
      device_rest = ap (λ (b : Bool). cond b (map at_device (es ++ more)) (at_device e ∷ without (of_queue k) (map at_device (es ++ more)))) (same ∙ i);
    }
    go false i z rest = let r = rest z in record {
      entry = r.entry;
      rest = e ∷ r.rest;
      is = r.is;
      front = e ∷ r.front;
      back = r.back;
      es-is = ap (λ (l : List Entry). e ∷ l) r.es-is;
      rest-is = ap (λ (l : List Entry). e ∷ l) r.rest-is;
      host_rest = ap (λ (b : Bool). cond b (map at_queue es) (at_queue e ∷ without_first (in_queue k) (map at_queue es))) i ∙ ap (λ (l : List HostRequest). at_queue e ∷ l) r.host_rest;
      device = ap (λ (b : Bool). cond b (Some (at_device e)) (find (of_queue k) (map at_device (es ++ more)))) (same ∙ i) ∙ r.device;
      device_rest = ap (λ (b : Bool). cond b (map at_device (es ++ more)) (at_device e ∷ without (of_queue k) (map at_device (es ++ more)))) (same ∙ i) ∙ ap (λ (l : List Waiting). at_device e ∷ l) r.device_rest;
    }

-- endpoint 0 has one queue
pub same-byte : (ep : ℕ) → queue_of (queue_byte ep) ≡ queue_of ep
same-byte ep = go (ep == 128) refl
  where
    go : (b : Bool) → (ep == 128) ≡ b → queue_of (cond b 0 ep) ≡ queue_of ep
    go true e = let is : ep ≡ 128 = grind (arith, e) in sym (ap queue_of is)
    go false e = refl

-- ---- the perform of what isn't a change

abbrev pub answered : {S : Type 0} → Meaning S → Entry → S × Outcome → Coming
answered m e done = record { id = e.id; load = e.load; configuration = m.configuration done.0; outcome = done.1 }

abbrev pub after_perform : {S : Type 0} → Meaning S → Shared → List Entry → Entry → S × Outcome → Shared
after_perform m j rest e done = record j { held = rest; back = j.back ++ Answered (answered m e done) ∷ [] }

abbrev pub performed_world : {S : Type 0} → Meaning S → World S → List Entry → Entry → S × Outcome → World S
performed_world m w rest e done = record w {
  host = record w.host { queue = map at_queue rest; gadget = done.0 };
  to_gate = w.to_gate ++ on_wire (Answered (answered m e done)) ∷ [];
}

-- the move, by what is performed
abbrev pub performed_made : {S : Type 0} → World S → ℕ → Option (ℕ × HostMove S) → Made S Deed
performed_made w ep r = host_made as_deeds w (perform_move_by w.host r) (performed_item w.submits ep (told_performed_by w.host.unplugged r))

pub host-performs : {S : Type 0} (m : Meaning S) (w : World S) (es more : List Entry) (ep : ℕ) (q : HostRequest) (f : First (queue_of ep) es more q) (done : S × Outcome) →
    w.host.unplugged ≡ false → w.host.queue ≡ map at_queue es → find (is_at ep) w.host.queue ≡ Some q → change_in f.entry.load.verdict ≡ None → m.perform w.host.gadget (normal_of f.entry.load) ≡ Some done →
    move as_deeds m w (Performs ep) ≡ record { world = performed_world m w f.rest f.entry done; outs = []; told = Perform (queue_byte ep) (number_in f.entry.id w.submits) ∷ [] }
host-performs {S = S} m w es more ep q f done plugged held found plain ready =
    ap (performed_made w ep) (
    ap (λ (b : Bool). cond b None (first_performed m w.host ep (find (is_at ep) w.host.queue))) plugged
    ∙ ap (first_performed m w.host ep) found
    ∙ (λ i. with_id (f.is i) (performs_any m (record w.host { queue = (ap (without_first (is_at ep)) held ∙ f.host_rest) i }) (f.is i)))
    ∙ ap (with_id (at_queue f.entry)) (performed-as m left f.entry ∙ (λ i. does m left (at_queue f.entry) (plain i) (ready i))))
  where
    left : Host S
    left = record w.host { queue = map at_queue f.rest }

-- a waiting request that isn't a change, performed at the device
pub device-performs : {S : Type 0} (m : Meaning S) (w : World S) (j : Shared) (ep : ℕ) (q : HostRequest) (f : First (queue_of ep) j.held j.coming q) (done : S × Outcome) →
    change_in f.entry.load.verdict ≡ None → m.perform w.host.gadget (normal_of f.entry.load) ≡ Some done →
    act m (view w j) (Perform (queue_byte ep) (number f.entry.load)) ≡ view (performed_world m w f.rest f.entry done) (after_perform m j f.rest f.entry done)
device-performs {S = S} m w j ep q f done plain ready =
    ap (performed_first m d (queue_byte ep)) found
    ∙ (λ i. performed_by m d (at_device f.entry) (left i) (ready i))
    ∙ ap flush plain
    ∙ (λ i. record d {
      gadget = done.0;
      queue = filter-all (map at_device (f.rest ++ j.coming)) i;
      ran = (ap (λ (l : List Waiting). joins_ran d (map (λ (y : Waiting). cancelled y.load) l ++ ran_of c ∷ [])) (filter-none (map at_device (f.rest ++ j.coming))) ∙ ran-answer w.gate.sides.imported j.back c) i;
      way = λ e. sym (way-answer (stream_of w.gate.streams e) e j.back c) i;
    })
  where
    d : Direct S
    d = view w j

    c : Coming
    c = answered m f.entry done

    found : find (is_first_at (queue_byte ep)) d.queue ≡ Some (at_device f.entry)
    found = ap (λ (n : ℕ). find (of_queue n) d.queue) (same-byte ep) ∙ f.device

    left : without (is_first_at (queue_byte ep)) d.queue ≡ map at_device (f.rest ++ j.coming)
    left = ap (λ (n : ℕ). without (of_queue n) d.queue) (same-byte ep) ∙ f.device_rest

    flush : Option Route → Direct S
    flush change = record d {
      gadget = done.0;
      queue = filter (λ y. not (is_flushed change (is_success done.1.status) (m.table d.gadget) y)) (map at_device (f.rest ++ j.coming));
      ran = joins_ran d (map (λ (y : Waiting). cancelled y.load) (filter (is_flushed change (is_success done.1.status) (m.table d.gadget)) (map at_device (f.rest ++ j.coming))) ++ ran_of c ∷ []);
    }

pub perform-allowed : {S : Type 0} (m : Meaning S) (w : World S) (j : Shared) (ep : ℕ) (q : HostRequest) (f : First (queue_of ep) j.held j.coming q) (done : S × Outcome) →
    j.gone ≡ false → m.perform w.host.gadget (normal_of f.entry.load) ≡ Some done → IsAllowed m (view w j) (Perform (queue_byte ep) (number f.entry.load))
perform-allowed {S = S} m w j ep q f done there ready =
    (there, subst (λ (o : Option Waiting). IsSomeAnd o (λ q. (is_number (number f.entry.load) q.load ≡ true) × IsSome (m.perform (view w j).gadget (normal_of q.load)))) (sym (ap (λ (n : ℕ). find (of_queue n) (map at_device (j.held ++ j.coming))) (same-byte ep) ∙ f.device)) (itself (number f.entry.load), ap is_some ready))
