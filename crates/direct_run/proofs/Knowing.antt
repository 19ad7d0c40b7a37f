-- What is known of a course with an event or an act more: that the pieces are bytes, and by the host, that what it sent
-- can be read.
use Rattle.std.proofs.Common.{◌≡◌, List, [], ◌∷◌, sym, subst, lit<}
use Rattle.std.specs.List.{flat_map}
use Rattle.usb_base.specs.Number.{AreBytes}
use Rattle.usb_base.proofs.Numbers.{AreBytes-right, AreBytes-append}
use Rattle.redir_wire.specs.declared.packet.Way.TheVariants.{ToGuest}
use Rattle.redir_wire.specs.declared.state.RedirState.{RedirState}
use Rattle.redir_data.specs.Sent.{CanBeRead}
use Rattle.model_device.specs.Meaning.{Meaning}
use Rattle.redir_host.specs.declared.state.host.Host.{Host}
use Rattle.redir_host.specs.step.Acts.{Act, guest_bytes}
use Rattle.redir_host.specs.step.History.{history as host_history}
use Rattle.redir_host.specs.step.Items.{Item as HostItem}
use Rattle.redir_host.specs.state.Kept.{HostKept}
use Rattle.redir_host.specs.step.Machine.{run, all_given}
use Rattle.redir_host.specs.write.Readable.{AreRead}
use Rattle.redir_host.specs.step.Stands.{HostStands}
use Rattle.gate_history.specs.step.Events.{PastEvent, ClientPiece, ClientEnd, HostPiece, HostEnd, client_bytes, host_bytes}
use Rattle.gate_history.specs.write.Readable.{piece_bytes}
use Rattle.gate_history.proofs.lemmas.Lists.{Each}
use Rattle.direct_run.specs.Known.{IsKnown}
use Rattle.direct_run.specs.Packets.{both_caps, Found, read_by_host}
use Rattle.direct_run.specs.Steps.{PastStep}
use Rattle.direct_run.specs.World.{Course, nothing_yet, happened, acted, after_step, course}
use Rattle.direct_run.proofs.Comes.{Listens}
use Rattle.direct_run.proofs.Flows.{Flows}
use Rattle.direct_run.proofs.Flown.{flows-step, flows-steps}

pub known_first : {S : Type 0} (m : Meaning S) (s : S) → IsKnown m s nothing_yet
known_first m s = record { read = tt; bytes = λ i. lit< tt; heard = λ i. lit< tt }

-- ---- an event more

piece-are : (events : List PastEvent) (e : PastEvent) → AreBytes (client_bytes (e ∷ events)) → AreBytes (host_bytes (e ∷ events)) → AreBytes (piece_bytes e)
piece-are events (ClientPiece b) h k = AreBytes-right (client_bytes events) b h
piece-are events ClientEnd h k = h
piece-are events (HostPiece b) h k = AreBytes-right (host_bytes events) b k
piece-are events HostEnd h k = λ i. lit< tt

pub knows-event : {S : Type 0} (m : Meaning S) (s : S) (c : Course) (e : PastEvent) → AreBytes (client_bytes (e ∷ c.events)) → AreBytes (host_bytes (e ∷ c.events)) → IsKnown m s c → IsKnown m s (happened c e)
knows-event m s c e from_client from_host k = record {
  read = k.read;
  bytes = AreBytes-append (piece_bytes e) (flat_map piece_bytes c.events) (piece-are c.events e from_client from_host) k.bytes;
  heard = k.heard;
}

-- ---- an act more

-- before the gateway's hello nothing was sent, and behind it the capabilities of both are agreed
read-by : {S : Type 0} (m : Meaning S) (s : S) (old : List Found) (xs : List HostItem) → Listens m s old xs → AreRead (run m s xs).guest (all_given (λ v. v.sent) m s xs) → Each (CanBeRead ToGuest both_caps) (all_given (λ v. v.sent) m s xs)
read-by m s [] xs k h = subst (Each (CanBeRead ToGuest both_caps)) (sym k.none) tt
read-by m s (o ∷ os) xs k h =
    subst (λ (g : RedirState). Each (CanBeRead ToGuest g.caps) (all_given (λ v. v.sent) m s xs)) k.hears.guest h.read

-- by a step that is this act
pub knows-act : {S : Type 0} (m : Meaning S) (s : S) (steps : List PastStep) (x : PastStep) (a : Act) (h : HostKept S) → after_step m s (course m s steps) x ≡ acted (course m s steps) a
    → HostStands m s h (a ∷ (course m s steps).acts) → IsKnown m s (course m s steps) → IsKnown m s (acted (course m s steps) a)
knows-act {S = S} m s steps x a h same stands k = record {
  read = read-by m s (read_by_host (acted (course m s steps) a)) (host_history (a ∷ (course m s steps).acts)) flown.listens
      (subst (λ (y : Host S). AreRead y.guest (all_given (λ v. v.sent) m s (host_history (a ∷ (course m s steps).acts)))) stands.host stands.told);
  bytes = k.bytes;
  heard = stands.stream.fits;
}
  where
    flown : Flows m s (acted (course m s steps) a)
    flown =
        subst (Flows m s) same
        (flows-step m s (course m s steps) x (flows-steps m s steps k) k
        (subst (λ (c : Course). AreBytes (flat_map piece_bytes c.events)) (sym same) k.bytes)
        (subst (λ (c : Course). AreBytes (guest_bytes c.acts)) (sym same) stands.stream.fits))
