-- The items that events bring have few descriptors, and so each draws fresh ids.
use Rattle.std.proofs.Common.{ℕ, ◌≤◌, List, [], ◌∷◌, sym, subst}
use Rattle.usbip_urb.specs.declared.packet.UrbPacket.TheVariants as urb
use Rattle.usbip_urb.specs.declared.client.ClientPacket.TheVariants.{Op, Urb}
use Rattle.usb_base.specs.declared.limits.TheConstants.{MAX_PACKETS}
use Rattle.gate_history.specs.declared.item.Item.{Item}
use Rattle.gate_history.specs.declared.item.Item.TheVariants.{Asked, ClientWrong, ClientLeft, Told, HostWrong, HostLeft}
use Rattle.gate_history.specs.state.Sound.{HasFewPackets, DrawFresh}
use Rattle.gate_history.proofs.lemmas.step.Rests.{counted}
use Rattle.gate_history.proofs.lemmas.state.Flights.{item-fresh}
use Rattle.gate_history.proofs.lemmas.write.EventsRead.{heard, ComesNow, CanCome}
use Rattle.redir_wire.specs.declared.state.RedirState.{RedirState}

few : (s : RedirState) (x : Item) → ComesNow s x → HasFewPackets x
few s (Asked place (Op p)) comes = tt
few s (Asked place (Urb (urb.Submit p))) comes = subst (λ (n : ℕ). n ≤ MAX_PACKETS) (sym comes.0.descs) (counted p.packets comes.0.few_packets)
few s (Asked place (Urb (urb.Unlink p))) comes = tt
few s (Asked place (Urb (urb.RetSubmit p))) comes = tt
few s (Asked place (Urb (urb.RetUnlink p))) comes = tt
few s (ClientWrong place reason) comes = tt
few s ClientLeft comes = tt
few s (Told place header packet) comes = tt
few s (HostWrong place reason) comes = tt
few s HostLeft comes = tt

pub all-drawn : (first : ℕ) (xs : List Item) → CanCome xs → DrawFresh first xs
all-drawn first [] can = tt
all-drawn first (x ∷ xs) can = (item-fresh first xs x (few (heard xs) x can.0), all-drawn first xs can.1)
