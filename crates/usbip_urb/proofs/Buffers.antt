-- Descriptors that are laid over a buffer lie within it.
use Rattle.std.proofs.Common.{◌≡◌, ℕ, zero, suc, ◌+◌, ◌≤◌, ◌<◌, true, List, [], ◌∷◌, length, get_or, refl, arith}
use Rattle.std.specs.Prelude.{nat_le, ◌&&◌}
use Rattle.std.proofs.lemmas.Bool.{leb-true, and_parts}
use Rattle.usb_base.specs.Number.{part}
use Rattle.usbip_urb.specs.declared.packet.IsoDesc.{IsoDesc}
use Rattle.usbip_urb.specs.declared.code.TheConstants.{MAX_PACKET_LENGTH}
use Rattle.usbip_urb.specs.Buffers.{laid_from, stretch}

record IsLaid (place : ℕ) (d : IsoDesc) (ds : List IsoDesc) (size : ℕ) : Type 0 where
  behind : place ≤ d.offset
  later : laid_from (d.offset + d.length) ds size ≡ true

is_laid : (place : ℕ) (d : IsoDesc) (ds : List IsoDesc) (size : ℕ) → laid_from place (d ∷ ds) size ≡ true → IsLaid place d ds size
is_laid place d ds size e =
    let first = and_parts (nat_le d.length MAX_PACKET_LENGTH && nat_le place d.offset) (laid_from (d.offset + d.length) ds size) e in
    let second = and_parts (nat_le d.length MAX_PACKET_LENGTH) (nat_le place d.offset) first.0 in
    record { behind = leb-true place d.offset second.1; later = first.1 }

-- what is laid from a place on has the place within the buffer
laid_within : (place : ℕ) (ds : List IsoDesc) (size : ℕ) → laid_from place ds size ≡ true → place ≤ size
laid_within place [] size e = leb-true place size e
laid_within place (d ∷ ds) size e =
    let h = is_laid place d ds size e in
    let end = laid_within (d.offset + d.length) ds size h.later in
    omega (arith, h.behind, end)

pub stretch_within : (place : ℕ) (ds : List IsoDesc) (size k : ℕ) (none : IsoDesc) → laid_from place ds size ≡ true → k < length ds → (get_or ds k none).offset + (get_or ds k none).length ≤ size
stretch_within place [] size k none e less = absurd (omega arith)
stretch_within place (d ∷ ds) size zero none e less = laid_within (d.offset + d.length) ds size (is_laid place d ds size e).later
stretch_within place (d ∷ ds) size (suc k) none e less = stretch_within (d.offset + d.length) ds size k none (is_laid place d ds size e).later (omega arith)

pub stretch_is : (ds : List IsoDesc) (body : List ℕ) (k : ℕ) (none : IsoDesc) → k < length ds → part (get_or ds k none).offset (get_or ds k none).length body ≡ stretch ds body k
stretch_is [] body k none less = absurd (omega arith)
stretch_is (d ∷ ds) body zero none less = refl
stretch_is (d ∷ ds) body (suc k) none less = stretch_is ds body k none (omega arith)
