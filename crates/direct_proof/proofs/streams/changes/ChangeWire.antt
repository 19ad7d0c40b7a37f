-- A change that the gateway accepts: the wire to the host after it.
use Rattle.std.proofs.Common.{◌≡◌, ℕ, ◌⊎◌, inl, inr, Bool, true, false, List, [], ◌∷◌, ◌++◌, length, Some, None, is_none, is_some, sym, ap, ◌∙◌, subst, append-nil, append_assoc}
use Rattle.std.specs.Prelude.{zip, get_or}
use Rattle.std.specs.List.{AllByRecursion as Each}
use Rattle.usb_base.specs.Endpoint.{endpoint_index}
use Rattle.redir_data.specs.declared.packet.RedirPacket.{RedirPacket}
use Rattle.control_route.specs.declared.route.Route.{Route}
use Rattle.control_route.specs.Changes.{is_change}
use Rattle.redir_host.specs.guest.Line.{Waiting as InLine}
use Rattle.model_device.specs.Meaning.{Meaning}
use Rattle.gate_history.proofs.lemmas.Lists.{Each-append}
use Rattle.gate_history.specs.declared.request.Request.{Request}
use Rattle.gate_history.specs.state.Flight.{wide_ids}
use Rattle.gate_history.specs.state.Ids.{AreFresh, greatest, draws, last_of}
use Rattle.gate_history.specs.write.Packets.{stops, route_packets}
use Rattle.gate_history.specs.state.Sound.{IsSound}
use Rattle.gate_history.specs.state.State.{State, flying}
use Rattle.gate_history.specs.state.Ups.{Up, stream_of, lower, is_ended}
use Rattle.gate_history.proofs.lemmas.state.StreamIds.{AreLong, zip-append, draws-append, last-append, last-any}
use Rattle.gate_history.proofs.lemmas.state.Draws.{length-draws}
use Rattle.direct_run.specs.Moves.{World}
use Rattle.direct_proof.specs.Requests.{Entry, at_host}
use Rattle.direct_proof.specs.Shared.{Shared, lines, half_line, at_hosts}
use Rattle.direct_proof.specs.Related.{Related}
use Rattle.direct_proof.specs.Session.{Session, down_in, runs}
use Rattle.direct_proof.specs.Kinds.{StreamIsIn}
use Rattle.direct_proof.specs.Running.{stream_endpoint, started_kind, Quits, Trails}
use Rattle.direct_proof.proofs.shared.Folds.{lines-append}
use Rattle.direct_proof.proofs.shared.Streaming.{trails-append}
use Rattle.direct_proof.proofs.streams.wires.Sorts.{runs-same, is_for_endpoint}
use Rattle.direct_proof.proofs.streams.wires.Lowered.{WasUp, why-down}
use Rattle.direct_proof.proofs.streams.changes.Stops.{StopsOne, stopping, each-stops, ups-in, runs_all, runs_all-append, stops-off, stops-quit, quits-ends, trails-ends, quits-end, stops-lines, stops-in}
use Rattle.direct_proof.proofs.streams.changes.Changing.{change_ids, change_sent}
use Rattle.direct_proof.proofs.streams.changes.ChangeTail.{IsMute, IsTail, is-tail, entry_of, quits-mute, trails-mute}

-- what is true of every gateway: its laws. A stream that is up keeps no stop
pub record IsChanging (st : State) (x : Route) : Type 0 where
  pub sound : IsSound st
  pub long : AreLong st.stream_ids
  pub fresh : AreFresh (greatest (wide_ids st.sides.agreed)) (flying st) (change_ids st x)
  pub unstopped : (i : ℕ) → is_some (get_or st.streams i None) ≡ true → get_or st.stream_ids.stopped i None ≡ None

module _ {S : Type 0} (m : Meaning S) (w : World S) (j : Shared) (r : Request) (x : Route) (change : is_change x ≡ true) (rel : Related m w j) (gate : IsChanging w.gate x) where
  abbrev st : State
  st = w.gate

  abbrev test : Up → Bool
  test = is_ended (Some x)

  abbrev pub most : ℕ
  most = greatest (wide_ids w.gate.sides.agreed)

  abbrev pub ids1 : List ℕ
  ids1 = draws (greatest (wide_ids w.gate.sides.agreed)) (flying w.gate) w.gate.last (length (stops (is_ended (Some x)) w.gate.streams))

  abbrev pub ids2 : List ℕ
  ids2 = draws (greatest (wide_ids w.gate.sides.agreed)) (flying w.gate) (last_of w.gate.last (draws (greatest (wide_ids w.gate.sides.agreed)) (flying w.gate) w.gate.last (length (stops (is_ended (Some x)) w.gate.streams)))) (length (route_packets x))

  abbrev pub zs : List (ℕ × RedirPacket)
  zs = stopping (is_ended (Some x)) ids1 w.gate.streams

  abbrev pub cs : List (ℕ × RedirPacket)
  cs = zip ids2 (route_packets x)

  pub sent-is : change_sent w.gate x ≡ zs ++ cs
  sent-is = zip-append most (flying w.gate) w.gate.last (stops (is_ended (Some x)) w.gate.streams) (route_packets x)

  pub ids-are : change_ids w.gate x ≡ ids1 ++ ids2
  ids-are = draws-append most (flying w.gate) w.gate.last (stops (is_ended (Some x)) w.gate.streams) (route_packets x)

  pub tail : IsTail r x ids2 cs
  tail = is-tail r x most (flying w.gate) (last_of w.gate.last ids1) change

  pub id-is : last_of 0 ids2 ≡ last_of 0 (change_ids w.gate x)
  id-is = last-any 0 (last_of 0 ids1) ids2 tail.some ∙ sym (last-append 0 ids1 ids2) ∙ ap (last_of 0) (sym ids-are)

  each : Each (StopsOne (is_ended (Some x))) zs
  each = each-stops (is_ended (Some x)) ids1 w.gate.streams (ups-in w.gate.streams rel.ups)

  -- ---- the line

  at_hosts-more : (es : List Entry) (e : Entry) → at_hosts (es ++ e ∷ []) ≡ at_hosts es ++ at_host e
  at_hosts-more [] e = append-nil (at_host e)
  at_hosts-more (y ∷ es) e = ap (λ (l : List InLine). at_host y ++ l) (at_hosts-more es e) ∙ sym (append_assoc (at_host y) (at_hosts es) (at_host e))

  pub new-line : half_line j.half ++ lines (w.to_host ++ change_sent w.gate x) ≡ at_hosts (j.coming ++ entry_of (last_of 0 (change_ids w.gate x)) r x ∷ [])
  new-line =
      ap (λ (l : List InLine). half_line j.half ++ l) (lines-append w.to_host (change_sent w.gate x) ∙ ap (λ (l : List InLine). lines w.to_host ++ l) (ap lines sent-is ∙ lines-append zs cs ∙ (λ i. stops-lines (is_ended (Some x)) zs each i ++ tail.line i)))
      ∙ sym (append_assoc (half_line j.half) (lines w.to_host) (at_host (entry_of (last_of 0 ids2) r x)))
      ∙ (λ i. rel.line.coming i ++ at_host (entry_of (id-is i) r x))
      ∙ sym (at_hosts-more j.coming (entry_of (last_of 0 (change_ids w.gate x)) r x))

  pub new-streams-in : Each (λ (p : ℕ × RedirPacket). StreamIsIn (stream_endpoint p.1)) (w.to_host ++ change_sent w.gate x)
  new-streams-in = Each-append (λ (p : ℕ × RedirPacket). StreamIsIn (stream_endpoint p.1)) w.to_host (change_sent w.gate x) rel.line.streams_in
      (subst (Each (λ (p : ℕ × RedirPacket). StreamIsIn (stream_endpoint p.1))) (sym sent-is)
      (Each-append (λ (p : ℕ × RedirPacket). StreamIsIn (stream_endpoint p.1)) zs cs (stops-in (is_ended (Some x)) zs each) (subst (Each (λ (p : ℕ × RedirPacket). StreamIsIn (stream_endpoint p.1))) (sym tail.are) (quiet tail.first tail.mute, quiets tail.rest tail.rest_mute))))
    where
      quiet : (p : ℕ × RedirPacket) → IsMute p → StreamIsIn (stream_endpoint p.1)
      quiet p h = subst StreamIsIn (sym h.0) tt

      quiets : (ps : List (ℕ × RedirPacket)) → Each IsMute ps → Each (λ (p : ℕ × RedirPacket). StreamIsIn (stream_endpoint p.1)) ps
      quiets [] h = tt
      quiets (p ∷ ps) h = (subst StreamIsIn (sym h.0.0) tt, quiets ps h.1)

  -- ---- the wire, split at the change

  split : w.to_host ++ change_sent w.gate x ≡ ((w.to_host ++ zs) ++ tail.first ∷ []) ++ tail.rest
  split =
      ap (λ (l : List (ℕ × RedirPacket)). w.to_host ++ l) (sent-is ∙ ap (λ (l : List (ℕ × RedirPacket)). zs ++ l) tail.are)
      ∙ sym (append_assoc w.to_host zs (tail.first ∷ tail.rest))
      ∙ sym (append_assoc (w.to_host ++ zs) (tail.first ∷ []) tail.rest)

  pub new-quits : Session m w j → (e : ℕ) → down_in (lower (is_ended (Some x)) w.gate.streams) e ≡ true → Quits w.gate.fence e (runs w.host e) (w.to_host ++ change_sent w.gate x)
  new-quits s e d = subst (Quits w.gate.fence e (runs w.host e)) (sym split)
      (quits-mute w.gate.fence e (runs w.host e) ((w.to_host ++ zs) ++ tail.first ∷ []) tail.rest tail.rest_mute
      (quits-ends w.gate.fence e (runs w.host e) (w.to_host ++ zs) tail.first (tail.asks-it w.gate.fence)
      (runs_all-append e (w.to_host ++ zs) (tail.first ∷ []) (runs w.host e)
      ∙ runs-same e tail.first.1 (runs_all e (w.to_host ++ zs) (runs w.host e)) (ap (is_for_endpoint e) tail.mute.0)
      ∙ runs_all-append e w.to_host zs (runs w.host e)
      ∙ stopped (why-down (is_ended (Some x)) w.gate.streams rel.ups e d))))
    where
      stopped : (stream_of w.gate.streams e ≡ None) ⊎ WasUp (is_ended (Some x)) w.gate.streams e → runs_all e zs (runs_all e w.to_host (runs w.host e)) ≡ false
      stopped (inl down) = ap (runs_all e zs) (quits-end w.gate.fence e (runs w.host e) w.to_host (s.quits e (ap is_none down))) ∙ stops-off (is_ended (Some x)) e zs each
      stopped (inr u) =
          ap (λ (k : ℕ). runs_all k zs (runs_all e w.to_host (runs w.host e))) (sym u.same)
          ∙ stops-quit (is_ended (Some x)) u.up u.passes-it ids1 w.gate.streams (ups-in w.gate.streams rel.ups) (length-draws most (flying w.gate) w.gate.last (length (stops (is_ended (Some x)) w.gate.streams))) (endpoint_index e) u.at (runs_all e w.to_host (runs w.host e))

  pub new-trails : Trails w.gate.fence (down_in (lower (is_ended (Some x)) w.gate.streams)) (w.to_host ++ change_sent w.gate x)
  new-trails = subst (Trails w.gate.fence (down_in (lower (is_ended (Some x)) w.gate.streams))) (sym split)
      (trails-append w.gate.fence (down_in (lower (is_ended (Some x)) w.gate.streams)) ((w.to_host ++ zs) ++ tail.first ∷ []) tail.rest
      (trails-ends w.gate.fence (down_in (lower (is_ended (Some x)) w.gate.streams)) (w.to_host ++ zs) tail.first (tail.asks-it w.gate.fence))
      (trails-mute w.gate.fence (down_in (lower (is_ended (Some x)) w.gate.streams)) tail.rest tail.rest_mute))

  pub none-started : Each (λ (p : ℕ × RedirPacket). started_kind p.1 ≡ None) (change_sent w.gate x)
  none-started = subst (Each (λ (p : ℕ × RedirPacket). started_kind p.1 ≡ None)) (sym (sent-is ∙ ap (λ (l : List (ℕ × RedirPacket)). zs ++ l) tail.are))
      (Each-append (λ (p : ℕ × RedirPacket). started_kind p.1 ≡ None) zs (tail.first ∷ tail.rest) (of-stops zs each) (tail.mute.1, of-mute tail.rest tail.rest_mute))
    where
      of-stops : (ps : List (ℕ × RedirPacket)) → Each (StopsOne (is_ended (Some x))) ps → Each (λ (p : ℕ × RedirPacket). started_kind p.1 ≡ None) ps
      of-stops [] h = tt
      of-stops (p ∷ ps) h = (h.0.is.no_start, of-stops ps h.1)

      of-mute : (ps : List (ℕ × RedirPacket)) → Each IsMute ps → Each (λ (p : ℕ × RedirPacket). started_kind p.1 ≡ None) ps
      of-mute [] h = tt
      of-mute (p ∷ ps) h = (h.0.1, of-mute ps h.1)
