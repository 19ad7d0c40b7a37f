-- Isochronous packets over their transfer buffer.
use Rattle.std.specs.Prelude.{ℕ, zero, suc, ◌+◌, ◌&&◌, nat_le, Bool, List, [], ◌∷◌, map, sum}
use Rattle.usb_base.specs.Number.{part}
use Rattle.usbip_urb.specs.declared.packet.IsoDesc.{IsoDesc}
use Rattle.usbip_urb.specs.declared.code.TheConstants.{MAX_PACKET_LENGTH}

-- from a place on, each descriptor is short enough and begins at or after the end of the one before it, and the
-- last ends within the buffer
abbrev pub laid_from : ℕ → List IsoDesc → ℕ → Bool
laid_from place [] length = nat_le place length
laid_from place (d ∷ ds) length = nat_le d.length MAX_PACKET_LENGTH && nat_le place d.offset && laid_from (d.offset + d.length) ds length

abbrev pub laid : List IsoDesc → ℕ → Bool
laid ds length = laid_from 0 ds length

-- descriptor k's stretch of a body
abbrev pub stretch : List IsoDesc → List ℕ → ℕ → List ℕ
stretch [] body k = []
stretch (d ∷ ds) body zero = part d.offset d.length body
stretch (d ∷ ds) body (suc k) = stretch ds body k

-- how many bytes were moved in all
abbrev pub total : List IsoDesc → ℕ
total ds = sum (map (λ d. d.actual) ds)
