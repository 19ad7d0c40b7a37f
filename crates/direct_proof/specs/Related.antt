-- When a gateway and a modelled host, with what is on the wires, stand for a device attached directly.
use Rattle.std.specs.Prelude.{◌≡◌, ℕ, ◌==◌, Bool, true, false, if◌then◌else◌, List, [], ◌++◌, map, None}
use Rattle.std.specs.List.{list_any, AllByRecursion}
use Rattle.redir_data.specs.declared.packet.RedirPacket.{RedirPacket}
use Rattle.model_device.specs.Meaning.{Meaning}
use Rattle.redir_host.specs.declared.state.host.Host.{Host}
use Rattle.redir_host.specs.declared.state.running.Running.{Running}
use Rattle.gate_history.specs.state.State.{State, submits}
use Rattle.gate_history.specs.state.Ups.{no_streams, stream_of}
use Rattle.direct_run.specs.Moves.{World}
use Rattle.direct_proof.specs.StreamIds.{Controls, Fenced}
use Rattle.direct_proof.specs.Cancels.{Behind, CancelsFit, IsAsking}
use Rattle.direct_proof.specs.Ids.{Ids}
use Rattle.direct_proof.specs.Kinds.{StreamIsIn, IsIn, TaggedOfKind, UpsFit}
use Rattle.direct_proof.specs.Loads.{IsLoad}
use Rattle.direct_proof.specs.Meets.{ByeLast, Early, Meets, is_announced, is_bye}
use Rattle.direct_proof.specs.Requests.{Debt, Entry, at_queue, debts_of}
use Rattle.direct_proof.specs.Running.{stream_endpoint}
use Rattle.direct_proof.specs.Session.{Session}
use Rattle.direct_proof.specs.Shared.{Shared, at_hosts, half_line, lines}
use Rattle.direct_proof.specs.Tagged.{Tagged, on_wire, runs_in}

-- the requests that wait at the host, and those that come to it
abbrev pub Queued : {S : Type 0} → World S → Shared → Type 0
Queued w j = record {
  held : w.host.queue ≡ (if w.host.unplugged then [] else map at_queue j.held);
  half : w.host.unplugged ≡ false → w.host.resets_next ≡ j.half;
  coming : half_line j.half ++ lines w.to_host ≡ at_hosts j.coming;
  loads : AllByRecursion (λ (e : Entry). IsLoad e.load) (j.held ++ j.coming);
  -- starts and stops are of IN endpoints
  streams_in : AllByRecursion (λ (p : ℕ × RedirPacket). StreamIsIn (stream_endpoint p.1)) w.to_host;
  cancels : CancelsFit j.held w.to_host j.coming;
  behind : Behind (j.held ++ j.coming);
}

-- what the gateway knows of its two sides; `away` says that it lost the device while a client had it
abbrev pub SidesMatch : State → Bool → Type 0
SidesMatch g away = record {
  -- the host is never refused, and its wire has no end
  reads : g.sides.host_over ≡ false;
  -- a client that was refused has left
  refused : g.sides.client_over ≡ true → g.sides.imported ≡ false;
  gone : away ≡ true → g.sides.lost ≡ true;
  seen : g.sides.imported ≡ true → g.sides.lost ≡ away;
}

-- nothing runs at a host that is unplugged, and the farewell is the last that it sends
abbrev pub Farewell : {S : Type 0} → Host S → List Tagged → Type 0
Farewell h back = record {
  still : h.unplugged ≡ true → h.running ≡ [];
  bye : h.unplugged ≡ false → list_any is_bye back ≡ false;
  bye_last : ByeLast back;
}

pub record Related {S : Type 0} (m : Meaning S) (w : World S) (j : Shared) : Type 0 where
  pub line : Queued w j
  pub answers : w.to_gate ≡ map on_wire j.back
  pub tagged : AllByRecursion (TaggedOfKind w.gate.streams) j.back
  pub ids : Ids j.debts w.submits (j.held ++ j.coming) (runs_in j.back)
  -- no id that is owed is 0, which stands where there is none
  pub real : AllByRecursion (λ (d : Debt). (d.id == 0) ≡ false) j.debts
  -- the streams that run are of IN endpoints
  pub runs_at_in : AllByRecursion (λ (s : Running). IsIn s.ep) w.host.running
  pub before : w.host.guest.first ≡ true → Early w j
  -- behind the gateway's hello the host is asked nothing that it refuses
  pub asked : w.host.guest.first ≡ false → AllByRecursion (λ (p : ℕ × RedirPacket). IsAsking p.1) w.to_host
  pub meets : Meets w j
  -- what the host owes is what waits for it, until the device is lost
  pub debts : w.gate.sides.lost ≡ false → debts_of (submits w.gate) ++ debts_of w.gate.abandoned ≡ j.debts
  pub controls : w.gate.sides.lost ≡ false → Controls w.gate.stream_ids w.to_host j.back
  pub fenced : w.gate.sides.lost ≡ false → Fenced w.gate.fence j.fenced w.to_host j.back
  pub alone : w.gate.sides.imported ≡ true → (w.gate.abandoned ≡ []) × (w.gate.fence ≡ None)
  pub session : w.gate.sides.lost ≡ false → is_announced w j ≡ true → Session m w j
  pub ups : UpsFit w.gate.streams
  -- without a client no stream is up
  pub down : w.gate.sides.imported ≡ false → w.gate.streams ≡ no_streams
  -- the loss: nothing comes any more
  pub lost : w.gate.sides.lost ≡ true → (j.back ≡ []) × (w.host.unplugged ≡ true) × (w.gate.facts.connect ≡ None) × (w.gate.live ≡ []) × ((ep : ℕ) → stream_of w.gate.streams ep ≡ None)
  pub sides : SidesMatch w.gate j.gone
  pub farewell : Farewell w.host j.back
