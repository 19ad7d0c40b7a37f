-- What the lemmas of streams take of a gateway is what its own laws say: its state is sound, two lists have 32 places,
-- and streams that are up keep no stop. An item keeps the last two.
use Rattle.std.proofs.Common.{◌≡◌, ◌≤◌, Bool, true, false, List, ◌++◌, length, filter, Some, arith}
use Rattle.std.proofs.lemmas.List.{length-map, length-append}
use Rattle.control_route.specs.declared.route.Route.{Route}
use Rattle.control_route.specs.declared.route.Route.TheVariants as route
use Rattle.gate_history.specs.state.StreamIds.{ids_of_streams, asking}
use Rattle.gate_history.specs.state.Flight.{wide_ids, ids_of}
use Rattle.gate_history.specs.state.Ids.{greatest}
use Rattle.gate_history.specs.step.Machine.{with_mark}
use Rattle.gate_history.specs.step.Marks.{Submission, Mark}
use Rattle.gate_history.specs.write.Packets.{stops, route_packets}
use Rattle.gate_history.specs.state.Sound.{IsSound}
use Rattle.gate_history.specs.state.State.{State, submits, flying}
use Rattle.gate_history.specs.client.Submits.{Pending}
use Rattle.gate_history.specs.state.Ups.{is_ended}
use Rattle.gate_history.specs.client.Verdict.{goes_by_id}
use Rattle.gate_history.proofs.lemmas.state.StreamIds.{AreLong, few-ids, long-stream_ids_after, few-stops}
use Rattle.gate_history.proofs.lemmas.state.Draws.{draws-fresh}
use Rattle.gate_history.proofs.lemmas.Lists.{length-filter}
use Rattle.direct_proof.proofs.streams.gates.Unstopped.{Unstopped}
use Rattle.direct_proof.proofs.streams.submits.Accepted.{IsGate}
use Rattle.direct_proof.proofs.streams.changes.ChangeWire.{IsChanging}

few-of : (ss : List Submission) → length (ids_of ss) ≤ length ss
few-of ss = let a = length-map (filter (λ (s : Submission). goes_by_id s.verdict) ss) (λ (s : Submission). s.id) in let b = length-filter (λ (s : Submission). goes_by_id s.verdict) ss in omega (arith, a, b)

pub few-flying : (st : State) → IsSound st → AreLong st.stream_ids → length (flying st) ≤ 8256
few-flying st sound long =
    let a = few-of (submits st) in
    let b = few-of st.abandoned in
    let c = few-ids st.stream_ids long in
    let d = length-map st.live (λ (p : Pending). p.submit) in
    let e = length-append (ids_of (submits st) ++ ids_of st.abandoned) (ids_of_streams st.stream_ids) in
    let f = length-append (ids_of (submits st)) (ids_of st.abandoned) in
    let few = sound.few in
    let left = sound.left in
    omega (arith, a, b, c, d, e, f, few, left)

pub many : (b : Bool) → 4294967295 ≤ greatest b
many true = omega arith
many false = omega arith

pub is-gate : (st : State) → IsSound st → AreLong st.stream_ids → IsGate st
is-gate st sound long = record {
  sound = sound;
  long = long;
  fresh = let a = few-flying st sound long in let b = many (wide_ids st.sides.agreed) in draws-fresh (greatest (wide_ids st.sides.agreed)) (flying st) st.last 1 (omega (arith, a, b));
}

few-route : (x : Route) → length (route_packets x) ≤ 2
few-route (route.SetConfig c) = omega arith
few-route _ = omega arith

pub is-changing : (st : State) (x : Route) → IsSound st → AreLong st.stream_ids → length st.streams ≡ 32 → Unstopped st.streams st.stream_ids → IsChanging st x
is-changing st x sound long places free = record {
  sound = sound;
  long = long;
  fresh =
      let a = few-flying st sound long in
      let b = many (wide_ids st.sides.agreed) in
      let c = few-stops (is_ended (Some x)) st.streams in
      let d = few-route x in
      let e = length-append (stops (is_ended (Some x)) st.streams) (route_packets x) in
      draws-fresh (greatest (wide_ids st.sides.agreed)) (flying st) st.last (length (stops (is_ended (Some x)) st.streams ++ route_packets x)) (omega (arith, a, b, c, d, e, places));
  unstopped = free.fresh;
}

-- an item keeps the places of ids
pub long-after : (st : State) (m : Mark) → AreLong st.stream_ids → AreLong (with_mark st m).stream_ids
long-after st m long = long-stream_ids_after (asking st.streams m) st.stream_ids long
