-- The packets of a change behind the stops: the last stops all that runs, and they stand in line as the entry does.
use Rattle.std.proofs.Common.{◌≡◌, ℕ, ◌≤◌, ◌||◌, Bool, true, false, cond, List, [], ◌∷◌, ◌++◌, length, Option, None, is_some, refl, sym, ap, ◌∙◌, subst, arith, append-nil, append_assoc, true≢false}
use Rattle.std.specs.Prelude.{zip}
use Rattle.std.specs.List.{AllByRecursion as Each}
use Rattle.usb_base.specs.declared.endpoint.EpTable.{EpTable}
use Rattle.redir_data.specs.declared.packet.RedirPacket.{RedirPacket}
use Rattle.control_route.specs.declared.route.Route.{Route}
use Rattle.control_route.specs.declared.route.Route.TheVariants as route
use Rattle.control_route.specs.Changes.{is_change}
use Rattle.gate_history.specs.state.Ids.{draws, last_of}
use Rattle.gate_history.specs.write.Packets.{route_packets}
use Rattle.gate_history.specs.declared.request.Request.{Request}
use Rattle.gate_history.specs.declared.verdict.Verdict.TheVariants.{Routed}
use Rattle.direct_proof.specs.Requests.{Entry, at_host}
use Rattle.direct_proof.specs.Shared.{lines}
use Rattle.direct_proof.specs.Stale.{asks}
use Rattle.direct_proof.specs.Running.{stream_endpoint, started_kind, passes, CanStart, Quits, Trails, StartsFit}
use Rattle.direct_proof.specs.StreamIds.{stream_ids_on}
use Rattle.direct_proof.proofs.streams.wires.Sorts.{is_for_endpoint}
use Rattle.direct_proof.proofs.streams.wires.Folds.{quits-more}

-- a packet that neither starts nor stops
abbrev pub IsMute : ℕ × RedirPacket → Type 0
IsMute p = (stream_endpoint p.1 ≡ None) × (started_kind p.1 ≡ None)

abbrev pub entry_of : ℕ → Request → Route → Entry
entry_of id r x = record { id = id; load = record { request = r; verdict = Routed x }; asked = false }

pub record IsTail (r : Request) (x : Route) (ids : List ℕ) (cs : List (ℕ × RedirPacket)) : Type 0 where
  pub first : ℕ × RedirPacket
  pub rest : List (ℕ × RedirPacket)
  pub are : cs ≡ first ∷ rest
  pub asks-it : (fence : Option ℕ) → asks fence first ≡ true
  pub mute : IsMute first
  pub rest_mute : Each IsMute rest
  pub line : lines cs ≡ at_host (entry_of (last_of 0 ids) r x)
  pub some : 1 ≤ length ids

pub is-tail : (r : Request) (x : Route) (m : ℕ) (f : List ℕ) (last : ℕ) → is_change x ≡ true → IsTail r x (draws m f last (length (route_packets x))) (zip (draws m f last (length (route_packets x))) (route_packets x))
is-tail r (route.SetConfig c) m f last h = record { first = _; rest = []; are = refl; asks-it = λ n. refl; mute = (refl, refl); rest_mute = tt; line = refl; some = omega arith }
is-tail r (route.SetAlt i a) m f last h = record { first = _; rest = []; are = refl; asks-it = λ n. refl; mute = (refl, refl); rest_mute = tt; line = refl; some = omega arith }
is-tail r route.Reset m f last h = record { first = _; rest = _; are = refl; asks-it = λ n. refl; mute = (refl, refl); rest_mute = ((refl, refl), tt); line = refl; some = omega arith }
is-tail r _ m f last h = absurd (true≢false (sym h))

-- ---- mute packets

pub quits-mute : (fence : Option ℕ) (e : ℕ) (r : Bool) (ps qs : List (ℕ × RedirPacket)) → Each IsMute qs → Quits fence e r ps → Quits fence e r (ps ++ qs)
quits-mute fence e r ps [] h k = subst (Quits fence e r) (sym (append-nil ps)) k
quits-mute fence e r ps (q ∷ qs) h k =
    subst (Quits fence e r) (append_assoc ps (q ∷ []) qs) (quits-mute fence e r (ps ++ q ∷ []) qs h.1 (quits-more fence e r ps q (ap (λ (o : Option ℕ). is_for_endpoint e o) h.0.0) k))

pub trails-mute : (fence : Option ℕ) (down : ℕ → Bool) (qs : List (ℕ × RedirPacket)) → Each IsMute qs → Trails fence down qs
trails-mute fence down [] h = tt
trails-mute fence down (q ∷ qs) h = ((λ e. absurd (true≢false (sym e ∙ ap (passes down) h.0.0))), trails-mute fence down qs h.1)

pub mute-stream_ids : (qs : List (ℕ × RedirPacket)) → Each IsMute qs → stream_ids_on qs ≡ []
mute-stream_ids [] h = refl
mute-stream_ids (q ∷ qs) h = (λ i. cond (is_some (h.0.0 i)) (q.0 ∷ []) [] ++ mute-stream_ids qs h.1 i)

-- what starts nothing fits
pub starts-none : (t : EpTable) (c : Bool) (qs : List (ℕ × RedirPacket)) → Each (λ (p : ℕ × RedirPacket). started_kind p.1 ≡ None) qs → StartsFit t c qs
starts-none t c [] h = tt
starts-none t c (q ∷ qs) h = (subst (CanStart t c) (sym h.0) tt, starts-none t (c || asks None q) qs h.1)
