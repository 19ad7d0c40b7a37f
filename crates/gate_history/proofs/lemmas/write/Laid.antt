-- Isochronous packets that lie over a buffer have no more bytes together than it, and few each.
use Rattle.std.proofs.Common.{◌≡◌, ℕ, zero, suc, ◌+◌, ◌<◌, ◌≤◌, ◌&&◌, nat_le, Bool, true, false, List, [], ◌∷◌, ◌++◌, length, map, get_or, take, drop, refl, sym, ap, ◌∙◌, arith}
use Rattle.std.specs.Prelude.{pos}
use Rattle.std.proofs.lemmas.Bool.{leb-true, false≢true}
use Rattle.std.proofs.lemmas.List.{length-take, length-drop}
use Rattle.std.proofs.lemmas.List.Sums.{sum_by-cons}
use Rattle.redir_data.specs.declared.packet.RedirData.TheVariants as data_packet
use Rattle.redir_data.specs.declared.packet.RedirPacket.{RedirPacket}
use Rattle.redir_data.specs.declared.packet.RedirPacket.TheVariants.{Carrying}
use Rattle.usb_base.specs.Number.{part}
use Rattle.usbip_urb.specs.declared.packet.IsoDesc.{IsoDesc}
use Rattle.usbip_urb.specs.declared.code.TheConstants.{MAX_PACKET_LENGTH}
use Rattle.usbip_urb.specs.Buffers.{laid_from, laid, stretch, total}
use Rattle.gate_history.specs.write.Answers.{sent_whole}
use Rattle.gate_history.proofs.lemmas.Lists.{Each}

record Parts (place : ℕ) (d : IsoDesc) (ds : List IsoDesc) (n : ℕ) : Type 0 where
  few : d.length ≤ MAX_PACKET_LENGTH
  behind : place ≤ d.offset
  rest : laid_from (d.offset + d.length) ds n ≡ true

parts : (place : ℕ) (d : IsoDesc) (ds : List IsoDesc) (n : ℕ) → laid_from place (d ∷ ds) n ≡ true → Parts place d ds n
parts place d ds n h = of (nat_le d.length MAX_PACKET_LENGTH) (nat_le place d.offset) refl refl h
  where
    of : (a b : Bool) → nat_le d.length MAX_PACKET_LENGTH ≡ a → nat_le place d.offset ≡ b → (a && b && laid_from (d.offset + d.length) ds n) ≡ true → Parts place d ds n
    of true true e f h = record { few = leb-true d.length MAX_PACKET_LENGTH e; behind = leb-true place d.offset f; rest = h }
    of true false e f h = absurd (false≢true h)
    of false b e f h = absurd (false≢true h)

fits-from : (place : ℕ) (ds : List IsoDesc) (n : ℕ) → laid_from place ds n ≡ true → place + total (sent_whole ds) ≤ n
fits-from place [] n h = let k = leb-true place n h in omega arith
fits-from place (d ∷ ds) n h =
    let p = parts place d ds n h in
    let more : total (sent_whole (d ∷ ds)) ≡ d.length + total (sent_whole ds) = sum_by-cons (λ (k : ℕ). k) d.length (map (λ (x : IsoDesc). x.actual) (sent_whole ds)) in
    omega (arith, more, fits-from (d.offset + d.length) ds n p.rest, p.behind)

-- so their sum fits the buffer
pub laid-fits : (ds : List IsoDesc) (n : ℕ) → laid ds n ≡ true → total (sent_whole ds) ≤ n
laid-fits ds n h = omega (arith, fits-from 0 ds n h)

-- ---- the stretches of the buffer

pub no_desc : IsoDesc
no_desc = record { offset = 0; length = 0; actual = 0; status = pos 0 }

pub record IsWithin (d : IsoDesc) (n : ℕ) : Type 0 where
  pub few : d.length ≤ MAX_PACKET_LENGTH
  pub within : d.offset + d.length ≤ n

within-from : (place : ℕ) (ds : List IsoDesc) (n k : ℕ) → laid_from place ds n ≡ true → k < length ds → IsWithin (get_or ds k no_desc) n
within-from place [] n k h here = absurd (omega arith)
within-from place (d ∷ ds) n zero h here =
    let p = parts place d ds n h in
    record { few = p.few; within = omega (arith, fits-from (d.offset + d.length) ds n p.rest) }
within-from place (d ∷ ds) n (suc k) h here = let p = parts place d ds n h in within-from (d.offset + d.length) ds n k p.rest (omega arith)

stretch-is : (ds : List IsoDesc) (body : List ℕ) (k : ℕ) → k < length ds → stretch ds body k ≡ part (get_or ds k no_desc).offset (get_or ds k no_desc).length body
stretch-is [] body k here = absurd (omega arith)
stretch-is (d ∷ ds) body zero here = refl
stretch-is (d ∷ ds) body (suc k) here = stretch-is ds body k (omega arith)

pub all-within : (place : ℕ) (ds : List IsoDesc) (n : ℕ) → laid_from place ds n ≡ true → Each (λ d. IsWithin d n) ds
all-within place [] n h = tt
all-within place (d ∷ ds) n h =
    let p = parts place d ds n h in
    (record { few = p.few; within = omega (arith, fits-from (d.offset + d.length) ds n p.rest) }, all-within (d.offset + d.length) ds n p.rest)

length-part : (place n : ℕ) (body : List ℕ) → place + n ≤ length body → length (part place n body) ≡ n
length-part place n body h = omega (arith, length-take n (drop place body), length-drop place body)

pub length-stretch : (ds : List IsoDesc) (body : List ℕ) (k : ℕ) → laid ds (length body) ≡ true → k < length ds → length (stretch ds body k) ≡ (get_or ds k no_desc).length
length-stretch ds body k h here =
    let w = within-from 0 ds (length body) k h here in
    ap (λ (b : List ℕ). length b) (stretch-is ds body k here) ∙ length-part (get_or ds k no_desc).offset (get_or ds k no_desc).length body w.within

pub few-stretch : (ds : List IsoDesc) (body : List ℕ) (k : ℕ) → laid ds (length body) ≡ true → k < length ds → length (stretch ds body k) ≤ MAX_PACKET_LENGTH
few-stretch ds body k h here = let w = within-from 0 ds (length body) k h here in omega (arith, length-stretch ds body k h here, w.few)

-- the packet of a stretch
pub stretch-packet : (ep : ℕ) (ds : List IsoDesc) (body whole data' : List ℕ) (k : ℕ) → laid ds (length body) ≡ true → k < length ds → whole ≡ body → data' ≡ stretch ds whole k →
    ◌≡◌ {A = RedirPacket} (Carrying (data_packet.Iso ep 0 (length data') data')) (Carrying (data_packet.Iso ep 0 (get_or ds k no_desc).length (part (get_or ds k no_desc).offset (get_or ds k no_desc).length body)))
stretch-packet ep ds body whole data' k h here same is =
    let e = is ∙ ap (λ (b : List ℕ). stretch ds b k) same in
    λ i. Carrying (data_packet.Iso ep 0 ((ap (λ (b : List ℕ). length b) e ∙ length-stretch ds body k h here) i) ((e ∙ stretch-is ds body k here) i))

next : {X : Type 0} (g : IsoDesc → X) (ds : List IsoDesc) (k : ℕ) → k < length ds → take (suc k) (map g ds) ≡ take k (map g ds) ++ g (get_or ds k no_desc) ∷ []
next g [] k here = absurd (omega arith)
next g (d ∷ ds) zero here = refl
next {X = X} g (d ∷ ds) (suc k) here = ap (λ (l : List X). g d ∷ l) (next g ds k (omega arith))

pub next-iso : {X : Type 0} (g : IsoDesc → X) (ds : List IsoDesc) (k : ℕ) → k < length ds → take (k + 1) (map g ds) ≡ take k (map g ds) ++ g (get_or ds k no_desc) ∷ []
next-iso {X = X} g ds k here = let one : suc k ≡ k + 1 = omega arith in ap (λ (n : ℕ). take n (map g ds)) (sym one) ∙ next g ds k here
