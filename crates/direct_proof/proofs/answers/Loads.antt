-- A submit that goes by an id is asked of the host as what it asks, and the host's answer is read as what came of it.
use Rattle.std.proofs.Common.{◌≡◌, ℕ, ◌&&◌, Bool, true, false, cond, [], ◌∷◌, length, take, Option, Some, None, refl, sym, ap, ◌∙◌, unwrap_or, slice_index}
use Rattle.usb_base.specs.declared.setup.Setup.{Setup}
use Rattle.usb_base.specs.declared.transfer.Outcome.{Outcome}
use Rattle.usb_base.specs.Status.{status_of, status_byte, is_success}
use Rattle.redir_data.specs.declared.packet.RedirPacket.{RedirPacket}
use Rattle.control_route.specs.declared.route.Route.{Route}
use Rattle.control_route.specs.declared.route.Route.TheVariants as route
use Rattle.chapter9.specs.Standard.{ended}
use Rattle.model_device.specs.Meaning.{Meaning}
use Rattle.model_device.specs.Submit.{byte_seen}
use Rattle.model_device.specs.Gadget.{IsNamed}
use Rattle.redir_host.specs.declared.state.host.Host.{Host}
use Rattle.redir_host.specs.write.Answers.{answer_by, alt_in}
use Rattle.redir_host.specs.device.Performing.{does, performs_any}
use Rattle.gate_history.specs.declared.request.Request.{Request}
use Rattle.gate_history.specs.write.Packets.{no_setup}
use Rattle.gate_history.specs.declared.verdict.Pipe.TheVariants.{Control, Bulk, InterruptOut}
use Rattle.gate_history.specs.declared.verdict.Verdict.{Verdict}
use Rattle.gate_history.specs.declared.verdict.Verdict.TheVariants.{Now, Wire, Routed, IsoOut, Stream}
use Rattle.gate_history.specs.host.Responses.{Response, Data, Status, response_of, told_outcome, got, outcome}
use Rattle.direct_device.specs.Direct.{normal_of, normal_by, seen_by, change_in}
use Rattle.direct_proof.specs.Requests.{Entry, at_queue, form_by, queued_transfer}
use Rattle.direct_proof.specs.Loads.{FitsRoute, FitsVerdict}

-- ---- the host performs what was asked

abbrev entry : ℕ → Request → Verdict → Bool → Entry
entry id r v asked = record { id = id; load = record { request = r; verdict = v }; asked = asked }

performed-route : {S : Type 0} (m : Meaning S) (h : Host S) (id : ℕ) (r : Request) (x : Route) (asked : Bool) →
    performs_any m h (at_queue (entry id r (Routed x) asked)) ≡ does m h (at_queue (entry id r (Routed x) asked)) (change_in (Routed x)) (m.perform h.gadget (normal_by r (Routed x)))
performed-route m h id r (route.SetConfig configuration) asked = refl
performed-route m h id r _ asked = refl

pub performed-as : {S : Type 0} (m : Meaning S) (h : Host S) (e : Entry) → performs_any m h (at_queue e) ≡ does m h (at_queue e) (change_in e.load.verdict) (m.perform h.gadget (normal_of e.load))
performed-as m h e = go e.load.verdict
  where
    go : (v : Verdict) → performs_any m h (at_queue (entry e.id e.load.request v e.asked)) ≡ does m h (at_queue (entry e.id e.load.request v e.asked)) (change_in v) (m.perform h.gadget (normal_by e.load.request v))
    go (Now status) = refl
    go (Wire Control) = refl
    go (Wire Bulk) = refl
    go (Wire InterruptOut) = refl
    go (Routed x) = performed-route m h e.id e.load.request x e.asked
    go (IsoOut row) = refl
    go (Stream row) = refl

-- ---- the gateway sees what came of it

-- an answer that is read, and what is seen of it
pub record IsSeen (r : Request) (v : Verdict) (configuration : ℕ) (o : Outcome) (p : RedirPacket) : Type 0 where
  pub response : Response
  pub response-is : response_of p ≡ Some response
  pub seen-is : told_outcome r v response ≡ seen_by r v configuration o

pub read-as : (o : Outcome) → IsNamed o.status → outcome (status_byte o.status) o.done o.body ≡ o
read-as o h = λ i. record { status = h i; done = o.done; body = o.body }

pub answer-seen : (r : Request) (v : Verdict) (configuration : ℕ) (o : Outcome) → FitsVerdict v r.transfer → IsNamed o.status → IsSeen r v configuration o (answer_by configuration (form_by r v) (queued_transfer (record { request = r; verdict = v })).ep o)
answer-seen r (Now status) configuration o fits named = absurd fits
answer-seen r (IsoOut row) configuration o fits named = absurd fits
answer-seen r (Stream row) configuration o fits named = absurd fits
answer-seen r (Wire Control) configuration o fits named =
    record { response = Data r.transfer.ep 8 (outcome (status_byte o.status) o.done o.body); response-is = refl; seen-is = read-as o named }
answer-seen r (Wire Bulk) configuration o fits named =
    record { response = Data r.transfer.ep 2 (outcome (status_byte o.status) o.done o.body); response-is = refl; seen-is = read-as o named }
answer-seen r (Wire InterruptOut) configuration o fits named = record {
  response = Data r.transfer.ep 2 (outcome (status_byte o.status) o.done o.body);
  response-is = ap (λ (b : Bool). cond b None (Some (Data r.transfer.ep 2 (outcome (status_byte o.status) o.done o.body)))) fits.2;
  seen-is = read-as o named;
}
answer-seen r (Routed x) configuration o fits named = go x r.transfer.setup refl fits
  where
    alone : got (status_of (status_byte o.status)) [] ≡ ended o.status
    alone = λ i. record { status = named i; done = 0; body = [] }

    -- no byte is seen of a change
    no-byte : (value : ℕ) (b : Bool) → got (status_of (status_byte o.status)) (cond (b && false) (take r.transfer.wanted (value ∷ [])) []) ≡ ended o.status
    no-byte value true = alone
    no-byte value false = alone

    -- one is seen of a get that succeeds
    one : (n value : ℕ) (b : Bool) → got o.status (cond (b && true) (take n (cond b value 0 ∷ [])) []) ≡ cond b (record { status = o.status; done = length (take n (value ∷ [])); body = take n (value ∷ []) }) (ended o.status)
    one n value true = refl
    one n value false = refl

    same : (n value : ℕ) (b : Bool) → got o.status (cond (b && true) (take n (value ∷ [])) []) ≡ got o.status (cond (b && true) (take n (cond b value 0 ∷ [])) [])
    same n value true = refl
    same n value false = refl

    wanted : (s : Setup) → r.transfer.setup ≡ Some s → s.length ≡ r.transfer.wanted → (value : ℕ) → byte_seen r.transfer.wanted value o ≡ byte_seen (unwrap_or r.transfer.setup no_setup).length value o
    wanted s is length-is value = ap (λ (n : ℕ). byte_seen n value o) (sym length-is) ∙ ap (λ (setup : Option Setup). byte_seen (unwrap_or setup no_setup).length value o) (sym is)

    go : (y : Route) (setup : Option Setup) → r.transfer.setup ≡ setup → FitsRoute y r.transfer setup → IsSeen r (Routed y) configuration o (answer_by configuration (form_by r (Routed y)) (queued_transfer (record { request = r; verdict = Routed y })).ep o)
    go y None is fit = absurd fit
    go (route.SetConfig value) (Some s) is fit = record { response = Status (status_byte o.status) configuration; response-is = refl; seen-is = no-byte configuration (is_success (status_of (status_byte o.status))) }
    go route.Reset (Some s) is fit = record { response = Status (status_byte o.status) configuration; response-is = refl; seen-is = no-byte configuration (is_success (status_of (status_byte o.status))) }
    go (route.SetAlt interface alt) (Some s) is fit = record { response = Status (status_byte o.status) alt; response-is = refl; seen-is = no-byte alt (is_success (status_of (status_byte o.status))) }
    go route.GetConfig (Some s) is fit = record {
      response = Status (status_byte o.status) configuration;
      response-is = refl;
      seen-is = (λ i. got (named i) (cond (is_success (named i) && true) (take r.transfer.wanted (configuration ∷ [])) []))
          ∙ same r.transfer.wanted configuration (is_success o.status) ∙ one r.transfer.wanted configuration (is_success o.status) ∙ wanted s is fit.1 configuration;
    }
    go (route.GetAlt interface) (Some s) is fit = record {
      response = Status (status_byte o.status) (alt_in o);
      response-is = refl;
      seen-is = (λ i. got (named i) (cond (is_success (named i) && true) (take r.transfer.wanted (alt_in o ∷ [])) []))
          ∙ one r.transfer.wanted (slice_index o.body 0) (is_success o.status) ∙ wanted s is fit.1 (slice_index o.body 0);
    }
    go route.Local (Some s) is fit = absurd (fit.3 refl)
    go route.Plain (Some s) is fit = absurd (fit.2 refl)
    go route.Bad (Some s) is fit = absurd (fit.4 refl)
