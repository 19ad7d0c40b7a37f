-- What the host does and sends for a change, whether the device did it or refused it.
use Rattle.std.proofs.Common.{◌≡◌, ℕ, ◌&&◌, not, Bool, true, false, List, [], ◌∷◌, ◌++◌, map, filter, sym, ap, ◌∙◌, if◌then◌else◌}
use Rattle.usb_base.specs.declared.transfer.Outcome.{Outcome}
use Rattle.usb_base.specs.declared.endpoint.EpTable.{EpTable}
use Rattle.redir_data.specs.declared.packet.RedirPacket.{RedirPacket}
use Rattle.control_route.specs.declared.route.Route.{Route}
use Rattle.model_device.specs.Meaning.{Meaning}
use Rattle.redir_host.specs.declared.state.host.Host.{Host}
use Rattle.redir_host.specs.declared.state.request.Request.{Request as HostRequest}
use Rattle.redir_host.specs.declared.state.running.Running.{Running}
use Rattle.redir_host.specs.device.Changes.{is_touched, touched, stays, runs_on, changed}
use Rattle.redir_host.specs.write.Answers.{answer, cancelled as cancel_answer}
use Rattle.redir_host.specs.device.Facts.{facts_of}
use Rattle.redir_host.specs.step.Moves.{then_sends}
use Rattle.gate_history.proofs.lemmas.Lists.{filter-map, filter-same, filter-all, filter-none, every}
use Rattle.direct_run.specs.Packets.{both_caps}
use Rattle.direct_device.specs.Direct.{normal_of}
use Rattle.direct_proof.specs.Requests.{Entry, Coming, at_queue}
use Rattle.direct_proof.specs.Tagged.{Tagged, ToldTable, ToldFaces, Answered, on_wire}
use Rattle.direct_proof.proofs.shared.Ran.{coming_of}
use Rattle.direct_proof.proofs.performs.Flushes.{touched-same, flushed_tag}

-- of a change that may have succeeded
abbrev pub flushes : Bool → Route → EpTable → Entry → Bool
flushes success r table x = success && is_touched r table (normal_of x.load).ep

abbrev pub still_running : Bool → Route → EpTable → List Running → List Running
still_running success r table running = if success then filter (runs_on r table) running else running

-- what the host sends for it
abbrev pub change_news : {S : Type 0} → Meaning S → S → List Entry → Coming → List Tagged
change_news m gadget flushed c = map flushed_tag flushed ++ ToldTable (m.table gadget) ∷ ToldFaces (m.interfaces gadget) ∷ Answered c ∷ []

-- the host's move
pub host-change : {S : Type 0} (m : Meaning S) (h : Host S) (table : EpTable) (r : Route) (success : Bool) (rest : List Entry) (e : Entry) (configuration : ℕ) (o : Outcome) → h.guest.caps ≡ both_caps → h.queue ≡ map at_queue rest →
    then_sends (changed m r table success h) (answer configuration (at_queue e) o)
    ≡ record {
      host = record h { queue = map at_queue (filter (λ x. not (flushes success r table x)) rest); running = still_running success r table h.running };
      sent = map on_wire (change_news m h.gadget (filter (flushes success r table) rest) (coming_of e configuration o));
      notes = [];
    }
host-change {S = S} m h table r success rest e configuration o caps queue = go success
  where
    news : List (ℕ × RedirPacket)
    news = facts_of both_caps m h.gadget

    last : ℕ × RedirPacket
    last = answer configuration (at_queue e) o

    sent : (xs : List Entry) → (map cancel_answer (map at_queue xs) ++ facts_of h.guest.caps m h.gadget) ++ last ∷ [] ≡ map on_wire (change_news m h.gadget xs (coming_of e configuration o))
    sent [] = λ i. facts_of (caps i) m h.gadget ++ last ∷ []
    sent (x ∷ xs) = ap (λ (l : List (ℕ × RedirPacket)). cancel_answer (at_queue x) ∷ l) (sent xs)

    touched-as : (xs : List Entry) → filter (touched r table) (map at_queue xs) ≡ map at_queue (filter (flushes true r table) xs)
    touched-as xs = filter-map (touched r table) at_queue xs ∙ ap (map at_queue) (filter-same (λ x. touched r table (at_queue x)) (flushes true r table) xs (every (λ (x : Entry). touched r table (at_queue x) ≡ flushes true r table x) (λ x. touched-same r table x.load) xs))

    stays-as : (xs : List Entry) → filter (stays r table) (map at_queue xs) ≡ map at_queue (filter (λ x. not (flushes true r table x)) xs)
    stays-as xs = filter-map (stays r table) at_queue xs ∙ ap (map at_queue) (filter-same (λ x. stays r table (at_queue x)) (λ x. not (flushes true r table x)) xs (every (λ (x : Entry). stays r table (at_queue x) ≡ not (flushes true r table x)) (λ x. ap not (touched-same r table x.load)) xs))

    go : (b : Bool) → then_sends (changed m r table b h) (answer configuration (at_queue e) o)
        ≡ record {
          host = record h { queue = map at_queue (filter (λ x. not (flushes b r table x)) rest); running = still_running b r table h.running };
          sent = map on_wire (change_news m h.gadget (filter (flushes b r table) rest) (coming_of e configuration o));
          notes = [];
        }
    go true = λ i. record {
      host = record h { queue = (ap (filter (stays r table)) queue ∙ stays-as rest) i; running = filter (runs_on r table) h.running };
      sent = (ap (λ (q : List HostRequest). (map cancel_answer (filter (touched r table) q) ++ facts_of h.guest.caps m h.gadget) ++ last ∷ []) queue
          ∙ ap (λ (q : List HostRequest). (map cancel_answer q ++ facts_of h.guest.caps m h.gadget) ++ last ∷ []) (touched-as rest) ∙ sent (filter (flushes true r table) rest)) i;
      notes = [];
    }
    go false = λ i. record {
      host = record h { queue = (queue ∙ ap (map at_queue) (sym (filter-all rest))) i; running = h.running };
      sent = (sent [] ∙ ap (λ (l : List Entry). map on_wire (change_news m h.gadget l (coming_of e configuration o))) (sym (filter-none rest))) i;
      notes = [];
    }
