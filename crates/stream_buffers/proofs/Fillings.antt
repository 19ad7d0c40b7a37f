-- The packets that were seen, and the next one.
use Rattle.std.proofs.Common.{◌≡◌, ℕ, ◌+◌, ◌<◌, ◌≤◌, ◌||◌, nat_le, Bool, false, List, [], ◌∷◌, ◌++◌, length, take, drop, get_or, None, sym, ap, ◌∙◌, arith, below_more}
use Rattle.std.proofs.lemmas.List.{take_more, take-take, take-append-drop, append-nil, length-append, get_or_default}
use Rattle.std.proofs.lemmas.Bool.{lt-leb, or_parts}
use Rattle.std.proofs.lemmas.Grind.{flat_map-append}
use Rattle.usb_base.specs.declared.status.UsbStatus.TheVariants.{Success}
use Rattle.usb_base.specs.declared.transfer.StreamPacket.{StreamPacket}
use Rattle.stream_buffers.specs.declared.fill.Seen.{Seen}
use Rattle.stream_buffers.specs.Least.{least_below}
use Rattle.stream_buffers.specs.Interrupt.{ends, packet_at, bodies, bodies_to, fills}
use Rattle.stream_buffers.specs.inner.Seen.{IsSeen}
use Rattle.stream_buffers.proofs.Found.{none_below}

-- a packet that is there, whatever stands for one that is not
pub here : (packets : List StreamPacket) (k : ℕ) (p : StreamPacket) → k < length packets → p ≡ get_or packets k p → packet_at packets k ≡ p
here packets k p within is = get_or_default packets k (record { status = Success; body = [] }) p within ∙ sym is

pub bodies_more : (packets : List StreamPacket) (k : ℕ) (p : StreamPacket) → k < length packets → p ≡ get_or packets k p → bodies_to k packets ≡ bodies (take k packets) ++ p.body
bodies_more packets k p within is =
    ap bodies (take_more packets k p within)
    ∙ flat_map-append (λ (q : StreamPacket). q.body) (take k packets) (get_or packets k p ∷ [])
    ∙ ap (λ (q : StreamPacket). bodies (take k packets) ++ (q.body ++ [])) (sym is)
    ∙ ap (λ (b : List ℕ). bodies (take k packets) ++ b) (append-nil p.body)

pub bytes_more : (packets : List StreamPacket) (k bytes : ℕ) (p : StreamPacket) → k < length packets → p ≡ get_or packets k p → bytes ≡ length (bodies (take k packets)) → length (bodies_to k packets) ≡ bytes + length p.body
bytes_more packets k bytes p within is are = ap length (bodies_more packets k p within is) ∙ length-append (bodies (take k packets)) p.body ∙ ap (λ (n : ℕ). n + length p.body) (sym are)

-- whether the next one fills the request
pub fills_here : (max_packet wanted : ℕ) (packets : List StreamPacket) (k bytes : ℕ) (p : StreamPacket) → k < length packets → p ≡ get_or packets k p → bytes ≡ length (bodies (take k packets)) →
    fills max_packet wanted packets k ≡ (ends max_packet p || nat_le wanted (bytes + length p.body))
fills_here max_packet wanted packets k bytes p within is are =
    ap (λ (q : StreamPacket). ends max_packet q || nat_le wanted (length (bodies_to k packets))) (here packets k p within is)
    ∙ ap (λ (n : ℕ). ends max_packet p || nat_le wanted n) (bytes_more packets k bytes p within is are)

-- a packet that is looked at behind the first so many, and whether it fills the request
pub record Looked (max_packet wanted : ℕ) (packets : List StreamPacket) (k bytes sum : ℕ) (p : StreamPacket) (test : Bool) : Type 0 where
  pub within : k < length packets
  pub read : p ≡ get_or packets k p
  pub came : sum ≡ bytes + length p.body
  pub test_is : (ends max_packet p || nat_le wanted (bytes + length p.body)) ≡ test
  pub fills_is : fills max_packet wanted packets k ≡ test

pub looked : (max_packet wanted : ℕ) (packets : List StreamPacket) (k bytes sum : ℕ) (p : StreamPacket) (test : Bool) → k < length packets → p ≡ get_or packets k p → bytes ≡ length (bodies (take k packets)) → sum ≡ bytes + length p.body → (ends max_packet p || nat_le wanted sum) ≡ test → Looked max_packet wanted packets k bytes sum p test
looked max_packet wanted packets k bytes sum p test within read seen came tested =
    let now : (ends max_packet p || nat_le wanted (bytes + length p.body)) ≡ test = ap (λ (n : ℕ). ends max_packet p || nat_le wanted n) (sym came) ∙ tested in
    record { within = within; read = read; came = came; test_is = now; fills_is = fills_here max_packet wanted packets k bytes p within read seen ∙ now }

-- ---- whoever is looked at and doesn't fill it

pub go_on : (max_packet wanted bytes : ℕ) (p : StreamPacket) → (ends max_packet p || nat_le wanted bytes) ≡ false → ends max_packet p ≡ false
go_on max_packet wanted bytes p fails = (or_parts (ends max_packet p) (nat_le wanted bytes) fails).0

shorter : (n : ℕ) (packets : List StreamPacket) → length (bodies (take n packets)) ≤ length (bodies packets)
shorter n packets =
    let whole = ap (λ (qs : List StreamPacket). length (bodies qs)) (take-append-drop n packets) in
    let parts = ap length (flat_map-append (λ (q : StreamPacket). q.body) (take n packets) (drop n packets)) in
    let sum = length-append (bodies (take n packets)) (bodies (drop n packets)) in
    omega (arith, whole, parts, sum)

pub fewer : (m n : ℕ) (packets : List StreamPacket) → m ≤ n → length (bodies (take m packets)) ≤ length (bodies (take n packets))
fewer m n packets less =
    let same = ap (λ (qs : List StreamPacket). length (bodies qs)) (take-take m n packets less) in
    omega (arith, same, shorter m (take n packets))

pub seen_too_few : (max_packet wanted : ℕ) (packets : List StreamPacket) (seen : Seen) → IsSeen max_packet packets seen → seen.bytes < wanted → least_below (fills max_packet wanted packets) seen.count ≡ None
seen_too_few max_packet wanted packets seen is few = none_below (fills max_packet wanted packets) seen.count (λ j less.
    let short : length (bodies_to j packets) < wanted = omega (arith, is.bytes, few, fewer (j + 1) seen.count packets (omega arith)) in
    ap (λ (e : Bool). e || nat_le wanted (length (bodies_to j packets))) (is.go_on j less) ∙ lt-leb wanted (length (bodies_to j packets)) short)

pub seen_more : (max_packet : ℕ) (packets : List StreamPacket) (seen : Seen) (bytes : ℕ) (p : StreamPacket) → IsSeen max_packet packets seen → seen.count < length packets → p ≡ get_or packets seen.count p →
    bytes ≡ seen.bytes + length p.body → ends max_packet p ≡ false → IsSeen max_packet packets (record { count = seen.count + 1; bytes = bytes })
seen_more max_packet packets seen bytes p is within read sum goes_on = record {
  there = omega arith;
  bytes = sum ∙ sym (bytes_more packets seen.count seen.bytes p within read is.bytes);
  go_on = below_more _ _ (λ j less. is.go_on j (omega arith)) (ap (ends max_packet) (here packets seen.count p within read) ∙ goes_on);
}
