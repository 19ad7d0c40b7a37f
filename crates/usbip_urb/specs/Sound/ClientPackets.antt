-- All that a client sends: what is read is spelled so, and what is spelled so is read.
use Rattle.std.proofs.Common.{◌≡◌, ℕ, ◌≤◌, ◌==◌, ◌⊎◌, inl, inr, Bool, true, false, cond, List, [], ◌∷◌, ◌++◌, length, refl, ap, arith}
use Rattle.std.specs.Int.{w16}
use Rattle.std.proofs.lemmas.Bool.{eqb-true}
use Rattle.std.proofs.lemmas.List.{length-append}
use Rattle.usb_base.specs.Number.{be_at}
use Rattle.usb_base.proofs.Numbers.{be_at-append_16}
use Rattle.packet_stream.specs.Format.{Check, IsSound}
use Rattle.packet_stream.proofs.Formats.{none_first, none_from, none_before}
use Rattle.packet_stream.proofs.Joins.{named, Waits, IsJoin, AreNames, joined_sound}
use Rattle.usb_base.specs.declared.reason.Reason.{Reason}
use Rattle.usbip_op.specs.declared.code.TheConstants.{OP_REQ_DEVLIST, OP_REQ_IMPORT, USBIP_VERSION}
use Rattle.usbip_op.specs.declared.packet.OpPacket.{OpPacket}
use Rattle.usbip_op.specs.declared.packet.OpWay.TheVariants.{Request}
use Rattle.usbip_op.specs.Ranges.{IsPacket}
use Rattle.usbip_op.specs.Spelling.{spelling as op_spelling}
use Rattle.usbip_op.specs.Requests.{requests as op_requests, version_check as op_version, code_check}
use Rattle.usbip_op.proofs.Requests.{requests_sound as op_sound}
use Rattle.usbip_urb.specs.declared.packet.UrbPacket.{UrbPacket}
use Rattle.usbip_urb.specs.declared.client.ClientPacket.{ClientPacket}
use Rattle.usbip_urb.specs.declared.client.ClientPacket.TheVariants.{Op, Urb}
use Rattle.usbip_urb.specs.Ranges.{IsRequest}
use Rattle.usbip_urb.specs.Spelling.{spelling as urb_spelling}
use Rattle.usbip_urb.specs.Checks.{version_check as urb_version, request_checks as urb_checks}
use Rattle.usbip_urb.specs.Requests.{requests as urb_requests}
use Rattle.usbip_urb.specs.ClientPackets.{is_op, as_either, client_packets}
use Rattle.usbip_urb.specs.Sound.Requests.{requests_sound as urb_sound, requests_steady as urb_steady, device_on, any_command, long_enough as urb_long}

-- ---- both formats begin with the check of the version

abbrev op_code : Check Reason
op_code = code_check OP_REQ_DEVLIST OP_REQ_IMPORT

pub op_waits : Waits 2 op_requests.checks
op_waits b less = none_from op_version (op_code ∷ []) b (λ _ there. absurd (omega arith)) (none_from op_code [] b (λ _ there. absurd (omega arith)) refl)

pub urb_waits : Waits 2 urb_checks
urb_waits b less = none_before urb_checks 2 b urb_steady less

op_least : (t : Bool) → 8 ≤ cond t 8 40
op_least true = omega arith
op_least false = omega arith

pub op_long : (b : List ℕ) → 8 ≤ op_requests.size b
op_long b = op_least (be_at w16 2 b == OP_REQ_DEVLIST)

op_begins : (p : OpPacket) (more : List ℕ) → IsPacket Request p → is_op (op_spelling p ++ more) ≡ true
op_begins p more fits =
    let x = op_spelling p ++ more in
    let size = op_sound.size p more fits in
    let long : 8 ≤ op_requests.size x = op_long x in
    let there : 2 ≤ length x = omega (arith, length-append (op_spelling p) more, size, long) in
    none_first op_version (op_code ∷ []) x (op_sound.right p more fits) refl there

urb_begins : (p : UrbPacket) (more : List ℕ) → IsRequest p → is_op (urb_spelling p ++ more) ≡ false
urb_begins p more fits =
    let x = urb_spelling p ++ more in
    let size = urb_sound.size p more fits in
    let long : 48 ≤ urb_requests.size x = urb_long x in
    let there : 2 ≤ length x = omega (arith, length-append (urb_spelling p) more, size, long) in
    let zero_first = eqb-true (be_at w16 0 x) 0 (none_first urb_version (any_command ∷ device_on) x (urb_sound.right p more fits) refl there) in
    ap (λ (n : ℕ). n == USBIP_VERSION) zero_first

join : IsJoin 2 is_op op_requests urb_requests
join = record {
  sees = λ b more there. ap (λ (n : ℕ). n == USBIP_VERSION) (be_at-append_16 0 b more there);
  left_waits = op_waits;
  right_waits = urb_waits;
  left = op_begins;
  right = urb_begins;
}

names : AreNames {P = OpPacket} {Q = UrbPacket} {X = ClientPacket} Op Urb as_either
names = record { back = back; forth = forth }
  where
    back : (p : OpPacket ⊎ UrbPacket) → as_either (named Op Urb p) ≡ p
    back (inl p) = refl
    back (inr p) = refl

    forth : (p : ClientPacket) → named Op Urb (as_either p) ≡ p
    forth (Op p) = refl
    forth (Urb p) = refl

pub client_packets_sound : IsSound client_packets
client_packets_sound = joined_sound 2 is_op Op Urb as_either op_requests urb_requests names op_sound urb_sound join
