-- The host performs a request that isn't a change: what the device attached directly does.
use Rattle.std.proofs.Common.{◌≡◌, ℕ, nat_lt, Bool, true, false, cond, List, [], ◌∷◌, ◌++◌, map, Option, Some, None, refl, sym, ap, ◌∙◌, subst, append-nil}
use Rattle.std.specs.Prelude.{IfSome}
use Rattle.std.specs.Option.{option_map_or}
use Rattle.std.specs.List.{find, AllByRecursion as Each}
use Rattle.usb_base.specs.declared.setup.Setup.{Setup}
use Rattle.usb_base.specs.declared.transfer.Outcome.{Outcome}
use Rattle.redir_data.specs.declared.packet.RedirPacket.{RedirPacket}
use Rattle.control_route.specs.declared.route.Route.{Route}
use Rattle.control_route.specs.declared.route.Route.TheVariants as route
use Rattle.control_route.specs.Routes.{route_of}
use Rattle.control_route.specs.Changes.{is_change as is_route_change}
use Rattle.model_device.specs.Meaning.{Meaning}
use Rattle.model_device.specs.Gadget.{IsGadget, SameFacts, IsNamed}
use Rattle.model_device.specs.Transfer.{IsOutcome, asks_change}
use Rattle.redir_host.specs.guest.Asking.{routed}
use Rattle.redir_host.specs.declared.state.request.Request.{Request as HostRequest}
use Rattle.redir_host.specs.step.Moves.{quiet as host_quiet}
use Rattle.usb_base.specs.Firsts.{without_first}
use Rattle.redir_host.specs.state.Queues.{queue_of, is_at}
use Rattle.redir_host.specs.device.Performing.{performed, first_performed, performs_any, told_performed_by, does, with_id}
use Rattle.gate_history.specs.declared.verdict.Pipe.{Pipe}
use Rattle.gate_history.specs.declared.verdict.Pipe.TheVariants.{Control, Bulk, InterruptOut}
use Rattle.gate_history.specs.declared.verdict.Verdict.{Verdict}
use Rattle.gate_history.specs.declared.verdict.Verdict.TheVariants.{Now, Wire, Routed, IsoOut, Stream}
use Rattle.gate_history.specs.client.Verdict.{changes}
use Rattle.direct_run.specs.Noted.{queue_byte, number_in, performed_item}
use Rattle.direct_run.specs.Moves.{World, Performs, Made, host_made, move, quiet}
use Rattle.direct_device.specs.Direct.{Load, number, normal_of, normal_by, change_in}
use Rattle.direct_device.specs.Acting.{Deed, Perform}
use Rattle.direct_proof.specs.Deeds.{as_deeds}
use Rattle.direct_proof.specs.Requests.{Entry, at_queue}
use Rattle.direct_proof.specs.Shared.{Shared, view}
use Rattle.direct_proof.specs.Tagged.{Answered}
use Rattle.direct_proof.specs.Related.{Related}
use Rattle.direct_proof.specs.Loads.{IsLoad, IsComing, FitsPipe, FitsRoute, FitsVerdict}
use Rattle.direct_proof.proofs.answers.Loads.{performed-as}
use Rattle.direct_proof.proofs.performs.Performs.{performed_made, First, host-performs, device-performs, perform-allowed, performed_world, after_perform, answered}
use Rattle.direct_proof.proofs.shared.Owed.{each-parts}
use Rattle.direct_proof.proofs.shared.Ran.{Held, held-parts, after-ran}
use Rattle.direct_proof.proofs.shared.Sending.{sent_world, sent_shared}
use Rattle.direct_proof.proofs.shared.Keeps.{Keeps, keeps-quiet, keeps-deed, not-lost, not-gone}

get-config : asks_change (routed route.GetConfig) ≡ false
unfolding route_of
get-config = refl

get-alt : (i : ℕ) → asks_change (routed (route.GetAlt i)) ≡ false
unfolding route_of
get-alt i = elim (nat_lt i 256) as (λ b. is_route_change (cond b (route.GetAlt i) route.Bad) ≡ false) [ true ↦ refl | false ↦ refl ]

-- what isn't a change asks the device for none
pub asks-none : (l : Load) → IsLoad l → change_in l.verdict ≡ None → asks_change (normal_of l) ≡ false
asks-none l is none = go l.verdict is.verdict none
  where
    by : (pipe : Pipe) (setup : Option Setup) → FitsPipe pipe l.request.transfer setup → option_map_or (λ r. is_route_change (route_of r)) setup false ≡ false
    by Control None f = absurd f
    by Control (Some s) f = ap is_route_change f.1
    by Bulk setup f = ap (λ (o : Option Setup). option_map_or (λ r. is_route_change (route_of r)) o false) f.0
    by InterruptOut setup f = ap (λ (o : Option Setup). option_map_or (λ r. is_route_change (route_of r)) o false) f.0

    routed-none : (x : Route) (setup : Option Setup) → FitsRoute x l.request.transfer setup → change_in (Routed x) ≡ None → asks_change (normal_by l.request (Routed x)) ≡ false
    routed-none x None f h = absurd f
    routed-none (route.SetConfig c) (Some s) f h = absurd (cc)
    routed-none route.GetConfig (Some s) f h = get-config
    routed-none (route.SetAlt i a) (Some s) f h = absurd (cc)
    routed-none (route.GetAlt i) (Some s) f h = get-alt i
    routed-none route.Reset (Some s) f h = absurd (cc)
    routed-none route.Local (Some s) f h = absurd (f.3 refl)
    routed-none route.Plain (Some s) f h = absurd (f.2 refl)
    routed-none route.Bad (Some s) f h = absurd (f.4 refl)

    go : (v : Verdict) → FitsVerdict v l.request.transfer → change_in v ≡ None → asks_change (normal_by l.request v) ≡ false
    go (Wire pipe) f h = by pipe l.request.transfer.setup f
    go (Routed x) f h = routed-none x l.request.transfer.setup f h
    go _ f h = absurd f

pub no-change : (v : Verdict) → change_in v ≡ None → changes v ≡ false
no-change (Wire pipe) h = refl
no-change (Now status) h = refl
no-change (IsoOut row) h = refl
no-change (Stream row) h = refl
no-change (Routed x) h = go (is_route_change x) h
  where
    go : (b : Bool) → cond b (Some x) None ≡ None → b ≡ false
    go true z = absurd (cc)
    go false z = refl

-- nothing is performed
still-made : {S : Type 0} (w : World S) (ep : ℕ) (unplugged : Bool) → host_made as_deeds w (host_quiet w.host) (performed_item w.submits ep (told_performed_by {S = S} unplugged None)) ≡ quiet (record w { to_gate = w.to_gate ++ [] })
still-made w ep true = refl
still-made w ep false = refl

pub keep-still : {S : Type 0} (m : Meaning S) (w : World S) (j : Shared) (ep : ℕ) → Related m w j → performed m w.host ep ≡ None → Keeps m w j (move as_deeds m w (Performs ep))
keep-still {S = S} m w j ep rel none = keeps-quiet m w j j (move as_deeds m w (Performs ep)) (record w { to_gate = w.to_gate ++ [] }) (ap (performed_made w ep) none ∙ still-made w ep w.host.unplugged)
    (subst (λ (l : List (ℕ × RedirPacket)). Related m (record w { to_gate = l }) j) (sym (append-nil w.to_gate)) rel) refl

-- the first of a queue, as the host finds it
pub queue-held : {S : Type 0} (m : Meaning S) (w : World S) (j : Shared) → Related m w j → w.host.unplugged ≡ false → w.host.queue ≡ map at_queue j.held
queue-held m w j rel there = rel.line.held ∙ ap (λ (b : Bool). cond b [] (map at_queue j.held)) there

pub performed-first : {S : Type 0} (m : Meaning S) (w : World S) (ep : ℕ) (o : Option HostRequest) → w.host.unplugged ≡ false → find (is_at ep) w.host.queue ≡ o → performed m w.host ep ≡ first_performed m w.host ep o
performed-first m w ep o there found = ap (λ (b : Bool). cond b None (first_performed m w.host ep (find (is_at ep) w.host.queue))) there ∙ ap (first_performed m w.host ep) found

pub keep-plain : {S : Type 0} (m : Meaning S) → IsGadget m → (w : World S) (j : Shared) (ep : ℕ) (q : HostRequest) → Related m w j → w.host.unplugged ≡ false → find (is_at ep) w.host.queue ≡ Some q → (f : First (queue_of ep) j.held j.coming q) →
    change_in f.entry.load.verdict ≡ None → (r : Option (S × Outcome)) → m.perform w.host.gadget (normal_of f.entry.load) ≡ r → Keeps m w j (move as_deeds m w (Performs ep))
keep-plain {S = S} m laws w j ep q rel there found f plain None ready = keep-still m w j ep rel (performed-first m w ep (Some q) there found
    ∙ (λ i. with_id (f.is i) (performs_any m (record w.host { queue = without_first (is_at ep) w.host.queue }) (f.is i)))
    ∙ ap (with_id (at_queue f.entry)) (performed-as m (record w.host { queue = without_first (is_at ep) w.host.queue }) f.entry ∙ ap (does m (record w.host { queue = without_first (is_at ep) w.host.queue }) (at_queue f.entry) (change_in f.entry.load.verdict)) ready))
keep-plain {S = S} m laws w j ep q rel there found f plain (Some done) ready = keeps-deed m w j later (move as_deeds m w (Performs ep)) (Perform (queue_byte ep) (number e.load)) (record {
  deeds = ap (λ (x : Made S Deed). x.told) moved ∙ ap (λ (n : ℕ). Perform (queue_byte ep) n ∷ []) named;
  outs = ap (λ (x : Made S Deed). x.outs) moved;
  same = device-performs m w j ep q f done plain ready ∙ ap (λ (x : Made S Deed). view x.world later) (sym moved);
  allowed = perform-allowed m w j ep q f done (not-gone m w j rel (not-lost m w j rel there)) ready;
})
    (subst (λ (x : Made S Deed). Related m x.world later) (sym moved)
    (subst (λ (l : List Entry). Related m (sent_world w done.0 l w.host.running (Answered (answered m e done) ∷ [])) (sent_shared j l (Answered (answered m e done) ∷ []))) (sym f.rest-is)
    (after-ran m w j f.front e f.back done.0 (m.configuration done.0) done.1 rel there held (no-change e.load.verdict plain) facts came)))
  where
    e : Entry
    e = f.entry

    held : Held j f.front e f.back
    held = held-parts j f.front e f.back f.es-is

    later : Shared
    later = after_perform m j f.rest e done

    moved : move as_deeds m w (Performs ep) ≡ record { world = performed_world m w f.rest e done; outs = []; told = Perform (queue_byte ep) (number_in e.id w.submits) ∷ [] }
    moved = host-performs m w j.held j.coming ep q f done there (queue-held m w j rel there) found plain ready

    named : number_in e.id w.submits ≡ number e.load
    named = (each-parts (λ (x : Entry). number_in x.id w.submits ≡ number x.load) f.front e (f.back ++ j.coming) (subst (Each (λ (x : Entry). number_in x.id w.submits ≡ number x.load)) held.inside rel.ids.named)).0

    load : IsLoad e.load
    load = (each-parts (λ (x : Entry). IsLoad x.load) f.front e (f.back ++ j.coming) (subst (Each (λ (x : Entry). IsLoad x.load)) held.inside rel.line.loads)).0

    facts : SameFacts m w.host.gadget done.0
    facts = subst (λ (o : Option (S × Outcome)). IfSome o (λ x. SameFacts m w.host.gadget x.0)) ready (laws.keeps w.host.gadget (normal_of e.load) load.transfer (asks-none e.load load plain))

    came : IsComing (answered m e done)
    came = record {
      load = load;
      outcome = subst (λ (o : Option (S × Outcome)). IfSome o (λ x. IsOutcome (normal_of e.load) x.1)) ready (laws.outcomes w.host.gadget (normal_of e.load) load.transfer);
      status = subst (λ (o : Option (S × Outcome)). IfSome o (λ x. IsNamed x.1.status)) ready (laws.named w.host.gadget (normal_of e.load) load.transfer);
    }
