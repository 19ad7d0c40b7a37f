-- The keyboard: an interrupt IN endpoint, on which each offer is a boot keyboard's report (device class definition for
-- human interface devices 1.11, appendix B.1) of one key, the keys in turn from A.
use Rattle.std.specs.Prelude.{ℕ, ◌+◌, List, [], ◌∷◌, codes}
use Rattle.model_device.specs.Device.{Device, set_of}
use Rattle.model_device.specs.InTurn.{in_turn}

-- no modifier, and the one key; 4 is A
abbrev pub report : ℕ → List ℕ
report key = 0 ∷ 0 ∷ (4 + key) ∷ 0 ∷ 0 ∷ 0 ∷ 0 ∷ 0 ∷ []

-- from A to Z
abbrev pub key_count : ℕ
key_count = 26

unfoldable pub keyboard : Device ℕ
keyboard =
    in_turn key_count report (set_of 1 (codes "keyboard")
    -- interface 0 with one endpoint, of the vendor's class
    (0x09 ∷ 0x04 ∷ 0x00 ∷ 0x00 ∷ 0x01 ∷ 0xFF ∷ 0x00 ∷ 0x00 ∷ 0x00 ∷
    -- IN endpoint 1: interrupt, packets of 8 bytes, every 10 frames
    0x07 ∷ 0x05 ∷ 0x81 ∷ 0x03 ∷ 0x08 ∷ 0x00 ∷ 0x0A ∷ []))
