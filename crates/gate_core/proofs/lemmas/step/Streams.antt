-- What a side's stream answers next is an item that the translator can take.
use Rattle.std.proofs.Common.{◌≡◌, ℕ, Bool, true, false, List, [], ◌∷◌, ◌++◌, Some, Ok, refl, sym, subst, ◌∙◌, append_assoc, arith}
use Rattle.std.proofs.Props.{props}
use Rattle.std.proofs.Math.Logic.{∥∥₁_elim}
use Rattle.usb_base.specs.Number.{AreBytes}
use Rattle.usb_base.specs.declared.reason.Reason.{Reason}
use Rattle.packet_stream.specs.Split.{Reader, Splitting, split}
use Rattle.packet_stream.specs.Streams.{StreamView, Left, FollowsBy, Nexts, capped}
use Rattle.packet_stream.proofs.Following.{follows-front}
use Rattle.redir_wire.specs.declared.packet.Caps.{Caps}
use Rattle.redir_wire.specs.declared.state.RedirState.{RedirState}
use Rattle.redir_wire.specs.declared.packet.Header.{Header}
use Rattle.redir_data.specs.declared.packet.RedirPacket.{RedirPacket}
use Rattle.redir_data.specs.Packets.{takes_memory as told_takes_memory}
use Rattle.usbip_urb.specs.ClientPackets.{takes_memory as asked_takes_memory, client_packets}
use Rattle.usbip_urb.specs.Sound.ClientPackets.{client_packets_sound}
use Rattle.gate_history.specs.declared.item.Item.TheVariants.{Asked}
use Rattle.gate_core.specs.declared.state.kept.Kept.{Kept}
use Rattle.redir_data.specs.Streams.{stream_start}
use Rattle.gate_history.specs.step.Streams.{client_reader, host_reader}
use Rattle.gate_history.specs.step.Came.{told}
use Rattle.gate_history.specs.step.Fits.{ToldFits}
use Rattle.gate_core.specs.inner.step.Steps.{told_item}
use Rattle.gate_core.proofs.lemmas.step.Halves.{Half, GoesOn, FitsNext, client_half, host_half}
use Rattle.gate_history.proofs.lemmas.step.Capabilities.{told-fits, told_fits-prop}
use Rattle.gate_core.proofs.lemmas.step.NextPacket.{IsReadable, fits-next}

-- ---- the client's

readable-prop : {S : Type 0} (kept : StreamView S) → IsProp (AreBytes kept.rest × (kept.place ≡ capped kept.place))
readable-prop kept = hlevel props

capped-again : (place at : ℕ) → place ≡ capped at → place ≡ capped place
capped-again place at e = omega (arith, e)

left-by : {S P : Type 0} (r : Reader S P Reason) (kept : StreamView S) (x : Splitting S P Reason) (given : List (ℕ × P)) (over : Bool) → over ≡ false → FollowsBy r kept x given over → Left r kept x given
left-by r kept x given false e f = f
left-by r kept x given true e f = absurd cc

readable : {S P : Type 0} (first : ℕ) (h : Half S P) (kept : StreamView S) (t : Kept) → GoesOn first h kept t → kept.over ≡ false → AreBytes kept.rest × (kept.place ≡ capped kept.place)
readable first h kept t g runs =
    let left = left-by h.stream.reader kept (split h.stream.reader h.stream.start g.bytes) (h.came g.items) kept.over runs g.follows.follows in
    (left.fits, capped-again kept.place left.at.place left.place)

pub asked-fits : FitsNext client_half client_reader asked_takes_memory Asked
asked-fits kept new t i goes changes nexts =
    let can : IsReadable kept = λ runs. ∥∥₁_elim (goes runs) (readable-prop kept) (λ w. readable w.0 (client_half w.0) kept t w.1 runs) in
    fits-next (λ s. client_packets) (λ s p. s) (λ s. client_packets_sound) asked_takes_memory kept new (Ok (Some i)) i can changes nexts refl

-- ---- the host's

told-next : (first : ℕ) (kept new : StreamView RedirState) (t : Kept) (i : ℕ × (Header × RedirPacket)) → Nexts host_reader told_takes_memory (Ok (Some i)) kept new → GoesOn first (host_half first) kept t → ToldFits t.sides.agreed i.1.0 i.1.1
told-next first kept new t i nexts g =
    let given = told g.items in
    let n = nexts stream_start g.bytes given g.follows in
    let one : List (ℕ × (Header × RedirPacket)) = (n.at, i.1) ∷ [] in
    let front = follows-front host_reader stream_start new g.bytes (given ++ one) n.follows in
    let parts : (split host_reader stream_start g.bytes).packets ≡ given ++ (n.at, i.1) ∷ front.0 = front.1 ∙ append_assoc given one front.0 in
    subst (λ (c : Caps). ToldFits c i.1.0 i.1.1) (λ i. (sym g.translates.state.sides i).agreed) (told-fits first g.items g.bytes front.0 (n.at, i.1) g.runs g.follows.fits parts)

pub told-fits-next : FitsNext host_half host_reader told_takes_memory told_item
told-fits-next kept new t i goes changes nexts = ∥∥₁_elim (goes changes.1) (told_fits-prop t.sides.agreed i.1.0 i.1.1) (λ w. told-next w.0 kept new t i nexts w.1)
