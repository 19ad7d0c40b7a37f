-- The tone: an isochronous IN endpoint in alternate setting 1, on which each offer is a packet of one byte repeated.
use Rattle.std.specs.Prelude.{ℕ, List, [], ◌∷◌, replicate, codes}
use Rattle.model_device.specs.Device.{Device, set_of}
use Rattle.model_device.specs.InTurn.{in_turn}

-- a packet has 192 samples
unfoldable pub samples : ℕ → List ℕ
samples sample = replicate 192 sample

unfoldable pub tone : Device ℕ
tone =
    in_turn 256 samples (set_of 3 (codes "tone")
    -- interface 0 without endpoints, of the vendor's class
    (0x09 ∷ 0x04 ∷ 0x00 ∷ 0x00 ∷ 0x00 ∷ 0xFF ∷ 0x00 ∷ 0x00 ∷ 0x00 ∷
    -- its alternate setting 1 with one endpoint
    0x09 ∷ 0x04 ∷ 0x00 ∷ 0x01 ∷ 0x01 ∷ 0xFF ∷ 0x00 ∷ 0x00 ∷ 0x00 ∷
    -- IN endpoint 1: isochronous, packets of 192 bytes, every frame
    0x07 ∷ 0x05 ∷ 0x81 ∷ 0x01 ∷ 0xC0 ∷ 0x00 ∷ 0x01 ∷ []))
