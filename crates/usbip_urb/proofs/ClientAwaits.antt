-- What a client's packet awaits is what the one of both formats awaits.
use Rattle.std.proofs.Common.{◌≡◌, ℕ, ◌<◌, ◌≤◌, ◌==◌, Bool, true, false, List, ◌++◌, length, refl, sym, ap, ◌∙◌, arith}
use Rattle.std.proofs.lemmas.Bool.{lt-ltb}
use Rattle.usb_base.specs.declared.reason.Reason.{Reason}
use Rattle.usb_base.proofs.Numbers.{be_at-append_16}
use Rattle.packet_stream.specs.Format.{Found, Whole, Short, Wrong, reading}
use Rattle.packet_stream.specs.Awaited.{IsAwaited, StaysShort, awaited}
use Rattle.packet_stream.proofs.Joins.{found_as}
use Rattle.packet_stream.proofs.Awaiting.{short_from, awaited_least, awaited-left, awaited-right}
use Rattle.usbip_op.specs.declared.code.TheConstants.{USBIP_VERSION}
use Rattle.usbip_op.specs.Requests.{requests as op_requests}
use Rattle.usbip_op.proofs.Awaits.{requests_patient as op_patient}
use Rattle.usbip_urb.specs.declared.client.ClientPacket.TheVariants.{Op, Urb}
use Rattle.usbip_urb.specs.Requests.{requests as urb_requests}
use Rattle.usbip_urb.specs.ClientPackets.{is_op, client_packets}
use Rattle.usbip_urb.specs.Sound.ClientPackets.{op_waits, urb_waits, op_long}
use Rattle.usbip_urb.specs.Sound.Requests.{long_enough as urb_long}
use Rattle.usbip_urb.proofs.Awaits.{requests_patient as urb_patient}
use Rattle.usbip_urb.proofs.ClientPackets.{op_reading, urb_reading, two_wanted}

unfound : {P X : Type 0} (to : P → X) (found : Found P Reason) → found_as to found ≡ Short → found ≡ Short
unfound to (Whole p n) e = absurd cc
unfound to Short e = refl
unfound to (Wrong place reason) e = absurd cc

-- ---- without a version

two_by : (b : List ℕ) → length b < 2 → (op : Bool) → is_op b ≡ op → IsAwaited client_packets b 2
two_by b less true e =
    let short = short_from op_requests b (op_waits b less) (omega (arith, op_long b, less)) in
    let is : 2 ≡ awaited op_requests b = rw (lt-ltb (length b) 2 less) refl in
    awaited-left is_op op_requests urb_requests b 2 e (awaited_least op_requests op_patient b short 2 is)
two_by b less false e =
    let short = short_from urb_requests b (urb_waits b less) (omega (arith, urb_long b, less)) in
    let is : 2 ≡ awaited urb_requests b = rw (lt-ltb (length b) 2 less) refl in
    awaited-right is_op op_requests urb_requests b 2 e (awaited_least urb_requests urb_patient b short 2 is)

pub two_awaited : (b : List ℕ) → length b < 2 → IsAwaited client_packets b 2
two_awaited b less = two_by b less (is_op b) refl

pub two_quiet : (b : List ℕ) → StaysShort client_packets b 2
two_quiet b more less = two_wanted (b ++ more) less

-- ---- with one

sees : (b more : List ℕ) → 2 ≤ length b → is_op (b ++ more) ≡ is_op b
sees b more there = ap (λ (n : ℕ). n == USBIP_VERSION) (be_at-append_16 0 b more there)

pub op_short : (b : List ℕ) → is_op b ≡ true → reading client_packets b ≡ Short → reading op_requests b ≡ Short
op_short b e short = unfound Op (reading op_requests b) (sym (op_reading b e) ∙ short)

pub urb_short : (b : List ℕ) → is_op b ≡ false → reading client_packets b ≡ Short → reading urb_requests b ≡ Short
urb_short b e short = unfound Urb (reading urb_requests b) (sym (urb_reading b e) ∙ short)

pub op_awaited : (b : List ℕ) (n : ℕ) → is_op b ≡ true → IsAwaited op_requests b n → IsAwaited client_packets b n
op_awaited b n e is = awaited-left is_op op_requests urb_requests b n e is

pub urb_awaited : (b : List ℕ) (n : ℕ) → is_op b ≡ false → IsAwaited urb_requests b n → IsAwaited client_packets b n
urb_awaited b n e is = awaited-right is_op op_requests urb_requests b n e is

pub op_quiet : (b : List ℕ) (n : ℕ) → 2 ≤ length b → is_op b ≡ true → StaysShort op_requests b n → StaysShort client_packets b n
op_quiet b n there e stays more less = op_reading (b ++ more) (sees b more there ∙ e) ∙ ap (found_as Op) (stays more less)

pub urb_quiet : (b : List ℕ) (n : ℕ) → 2 ≤ length b → is_op b ≡ false → StaysShort urb_requests b n → StaysShort client_packets b n
urb_quiet b n there e stays more less = urb_reading (b ++ more) (sees b more there ∙ e) ∙ ap (found_as Urb) (stays more less)
