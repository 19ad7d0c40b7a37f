-- What a change sends, its stops ahead of it: none of the packets cancels, and the host refuses none.
use Rattle.std.proofs.Common.{◌≡◌, ℕ, Bool, true, false, cond, List, [], ◌∷◌, ◌++◌, Option, Some, None, refl}
use Rattle.std.specs.Prelude.{zip}
use Rattle.std.specs.List.{AllByRecursion as Each}
use Rattle.std.proofs.lemmas.Bool.{both_ways}
use Rattle.redir_wire.specs.declared.packet.RedirControl.TheVariants as plain
use Rattle.redir_data.specs.declared.packet.RedirPacket.{RedirPacket}
use Rattle.redir_data.specs.declared.packet.RedirPacket.TheVariants.{Plain}
use Rattle.control_route.specs.declared.route.Route.{Route}
use Rattle.control_route.specs.declared.route.Route.TheVariants as route
use Rattle.gate_history.proofs.lemmas.Lists.{Each-append}
use Rattle.gate_history.specs.write.Packets.{stops, stop_packet, route_packets}
use Rattle.gate_history.specs.state.State.{State}
use Rattle.gate_history.specs.state.Ups.{Up, is_ended}
use Rattle.usb_base.specs.Endpoint.{is_iso}
use Rattle.direct_proof.specs.Requests.{Entry}
use Rattle.direct_proof.specs.Cancels.{CancelsFit, IsAsking, begins, is_cancel, left, moved}
use Rattle.direct_proof.proofs.streams.changes.Changing.{change_ids, change_sent}

abbrev pub IsFree : RedirPacket → Type 0
IsFree p = (is_cancel p ≡ false) × IsAsking p

route-free : (x : Route) → Each IsFree (route_packets x)
route-free route.Reset = ((refl, tt), ((refl, tt), tt))
route-free route.Local = tt
route-free route.Plain = tt
route-free route.Bad = tt
route-free _ = ((refl, tt), tt)

stops-free : (test : Up → Bool) (ups : List (Option Up)) → Each IsFree (stops test ups)
stops-free test [] = tt
stops-free test (None ∷ ups) = stops-free test ups
stops-free test (Some up ∷ ups) =
    let rest = stops-free test ups in
    elim (test up) as (λ b. Each IsFree (cond b (stop_packet up ∷ []) [] ++ stops test ups)) [ true ↦ (one (is_iso up.row.kind), rest) | false ↦ rest ]
  where
    one : (b : Bool) → IsFree (Plain (cond b (plain.StopIso up.ep) (plain.StopInterrupt up.ep)))
    one true = (refl, tt)
    one false = (refl, tt)

each-zip : (P : RedirPacket → Type 0) (ids : List ℕ) (ps : List RedirPacket) → Each P ps → Each (λ (z : ℕ × RedirPacket). P z.1) (zip ids ps)
each-zip P [] ps h = tt
each-zip P (n ∷ ids) [] h = tt
each-zip P (n ∷ ids) (p ∷ ps) h = (h.0, each-zip P ids ps h.1)

pub change-free : (st : State) (x : Route) → Each (λ (z : ℕ × RedirPacket). IsFree z.1) (change_sent st x)
change-free st x = each-zip IsFree (change_ids st x) (stops (is_ended (Some x)) st.streams ++ route_packets x)
    (Each-append IsFree (stops (is_ended (Some x)) st.streams) (route_packets x) (stops-free (is_ended (Some x)) st.streams) (route-free x))

pub asks-free : (ps : List (ℕ × RedirPacket)) → Each (λ (z : ℕ × RedirPacket). IsFree z.1) ps → Each (λ (z : ℕ × RedirPacket). IsAsking z.1) ps
asks-free [] h = tt
asks-free (p ∷ ps) h = (h.0.1, asks-free ps h.1)

pub stops-asking : (test : Up → Bool) (ids : List ℕ) (ups : List (Option Up)) → Each (λ (z : ℕ × RedirPacket). IsAsking z.1) (zip ids (stops test ups))
stops-asking test ids ups = asks-free (zip ids (stops test ups)) (each-zip IsFree ids (stops test ups) (stops-free test ups))

pub uncancelled-free : (ahead : List Entry) (ps : List (ℕ × RedirPacket)) (cs : List Entry) → Each (λ (z : ℕ × RedirPacket). IsFree z.1) ps → CancelsFit ahead ps cs
uncancelled-free ahead [] cs h = tt
uncancelled-free ahead (p ∷ ps) cs h = ((λ e. absurd (both_ways (is_cancel p.1) h.0.0 e)), uncancelled-free (moved (begins p.1) ahead cs) ps (left (begins p.1) cs) h.1)
