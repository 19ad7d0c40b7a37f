-- All that a client sends is read as one of two formats says.
use Rattle.std.proofs.Common.{◌≡◌, ℕ, ◌<◌, Bool, true, false, List, length, None, refl, sym, ap, ◌∙◌, arith, Result, Ok, Err, subst}
use Rattle.std.specs.Prelude.{nat_lt}
use Rattle.std.specs.Result.{IsErrAnd}
use Rattle.std.proofs.lemmas.Bool.{lt-ltb}
use Rattle.packet_stream.specs.Format.{Format, Found, Whole, Short, Wrong, wrong_at, reading, reading_by}
use Rattle.packet_stream.proofs.Joins.{found_as, reading-left, reading-right}
use Rattle.usb_base.specs.declared.reason.Reason.{Reason}
use Rattle.packet_stream.specs.declared.read.Read.{Read}
use Rattle.packet_stream.specs.declared.read.ReadError.{ReadError}
use Rattle.packet_stream.specs.declared.read.ReadError.TheVariants.{Refused, Memory}
use Rattle.packet_stream.specs.Reads.{Answers, WantsMemory}
use Rattle.usbip_op.specs.Requests.{requests as op_requests}
use Rattle.usbip_urb.specs.declared.client.ClientPacket.TheVariants.{Op, Urb}
use Rattle.usbip_urb.specs.Requests.{requests as urb_requests}
use Rattle.usbip_urb.specs.ClientPackets.{is_op, as_either, client_packets}
use Rattle.usbip_urb.specs.Sound.ClientPackets.{op_waits, urb_waits, op_long}
use Rattle.usbip_urb.specs.Sound.Requests.{long_enough as urb_long}

-- ---- reading is reading the one or the other

pub op_reading : (b : List ℕ) → is_op b ≡ true → reading client_packets b ≡ found_as Op (reading op_requests b)
op_reading b e = reading-left is_op Op Urb as_either op_requests urb_requests b e

pub urb_reading : (b : List ℕ) → is_op b ≡ false → reading client_packets b ≡ found_as Urb (reading urb_requests b)
urb_reading b e = reading-right is_op Op Urb as_either op_requests urb_requests b e

short_reading : {P : Type 0} (f : Format P Reason) (b : List ℕ) → wrong_at f.checks b ≡ None → length b < f.size b → reading f b ≡ Short
short_reading f b none less = let e : nat_lt (length b) (f.size b) ≡ true = lt-ltb (length b) (f.size b) less in ap (reading_by f b) none ∙ rw e refl

short_by : (b : List ℕ) (t : Bool) → is_op b ≡ t → length b < 2 → reading client_packets b ≡ Short
short_by b true e less =
    let long = op_long b in
    op_reading b e ∙ ap (found_as Op) (short_reading op_requests b (op_waits b less) (omega (arith, long, less)))
short_by b false e less =
    let long = urb_long b in
    urb_reading b e ∙ ap (found_as Urb) (short_reading urb_requests b (urb_waits b less) (omega (arith, long, less)))

pub two_wanted : (b : List ℕ) → length b < 2 → reading client_packets b ≡ Short
two_wanted b less = short_by b (is_op b) refl less

-- ---- an error that is handed on

wants_as : {P X : Type 0} (takes : P → Bool) (takes' : X → Bool) (to : P → X) → ((p : P) → takes' (to p) ≡ takes p) → (found : Found P Reason) → WantsMemory takes found → WantsMemory takes' (found_as to found)
wants_as takes takes' to same (Whole p n) wants = same p ∙ wants
wants_as takes takes' to same Short wants = absurd wants
wants_as takes takes' to same (Wrong place reason) wants = absurd wants

error_as : {P X : Type 0} (takes : P → Bool) (takes' : X → Bool) (to : P → X) → ((p : P) → takes' (to p) ≡ takes p) → (e : ReadError) (found : Found P Reason) →
    Answers takes (Err e) found → Answers takes' (Err e) (found_as to found)
error_as takes takes' to same (Refused place reason) found h = ap (found_as to) h
error_as takes takes' to same (Memory memory) found h = wants_as takes takes' to same found h

pub handed_on : {P X : Type 0} (takes : P → Bool) (takes' : X → Bool) (to : P → X) → ((p : P) → takes' (to p) ≡ takes p) → (e : ReadError) (r : Result (Read X) ReadError) (found : Found P Reason) →
    IsErrAnd r (λ (x : ReadError). x ≡ e) → Answers takes (Err e) found → Answers takes' r (found_as to found)
handed_on takes takes' to same e (Ok x) found is h = absurd is
handed_on takes takes' to same e (Err x) found is h = subst (λ (y : ReadError). Answers takes' (Err y) (found_as to found)) (sym is) (error_as takes takes' to same e found h)
