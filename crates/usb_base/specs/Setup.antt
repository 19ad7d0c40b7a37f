-- The eight bytes of a setup packet (USB 2.0, 9.3): bmRequestType, bRequest, wValue, wIndex and wLength.
use Rattle.std.specs.Prelude.{◌≡◌, ℕ, ◌<◌, ◌^◌, nat_lt, not, Bool, List, [], ◌∷◌, ◌++◌, length}
use Rattle.std.specs.Int.{w16}
use Rattle.usb_base.specs.Number.{le, le_at, byte_at, AreBytes}
use Rattle.usb_base.specs.declared.setup.Setup.{Setup}

abbrev pub setup_at : List ℕ → Setup
setup_at b = record { kind = byte_at 0 b; request = byte_at 1 b; value = le_at w16 2 b; index = le_at w16 4 b; length = le_at w16 6 b }

abbrev pub setup_bytes : Setup → List ℕ
setup_bytes s = (s.kind ∷ s.request ∷ []) ++ le w16 s.value ++ le w16 s.index ++ le w16 s.length

-- bit 7 of bmRequestType says that data go from the device (table 9-2)
abbrev pub is_in_setup : Setup → Bool
is_in_setup s = not (nat_lt s.kind 128)

-- the ranges of its fields
pub record IsSetup (s : Setup) : Type 0 where
  pub kind_fits : s.kind < 256
  pub request_fits : s.request < 256
  pub value_fits : s.value < 2 ^ 16
  pub index_fits : s.index < 2 ^ 16
  pub length_fits : s.length < 2 ^ 16

-- eight bytes are spelled by what they read as
abbrev pub SpellsRead : Type 0
SpellsRead = (b : List ℕ) → AreBytes b → length b ≡ 8 → setup_bytes (setup_at b) ≡ b

-- a setup is read again from its bytes
abbrev pub ReadsSpelled : Type 0
ReadsSpelled = (s : Setup) → IsSetup s → setup_at (setup_bytes s) ≡ s
