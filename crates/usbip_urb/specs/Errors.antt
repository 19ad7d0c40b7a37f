-- Which statuses tell of a failure, and how many isochronous packets have one ("usbip_protocol", status and error_count).
use Rattle.std.specs.Prelude.{ℕ, ◌==◌, not, Bool, true, List, length, filter, ℤ, pos, negsuc}
use Rattle.usbip_urb.specs.declared.packet.IsoDesc.{IsoDesc}

-- a status other than 0
abbrev pub is_failed : ℤ → Bool
is_failed (pos n) = not (n == 0)
is_failed (negsuc n) = true

-- how many descriptors have such a status
abbrev pub errors_of : List IsoDesc → ℕ
errors_of descs = length (filter (λ d. is_failed d.status) descs)
