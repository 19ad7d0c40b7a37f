-- The descriptors of a configuration (USB 2.0, 9.5 and 9.6): where each one stands, which are wrong, and what they say.
use Rattle.std.specs.Prelude.{◌≡◌, ℕ, zero, suc, ◌+◌, ◌%◌, Bool, true, if◌then◌else◌, ◌==◌, ◌&&◌, nat_le, List, [], ◌∷◌, ◌++◌, length, take, drop, map, Option, Some, None}
use Rattle.std.specs.Int.{w16}
use Rattle.usb_base.specs.Number.{byte_at, le_at}
use Rattle.usb_base.specs.Endpoint.{is_address, kind_of_byte}
use Rattle.chapter9.specs.declared.part.Part.{Part}
use Rattle.chapter9.specs.declared.part.Part.TheVariants.{Config, Interface, Endpoint, Other}

-- ---- where they stand

-- a descriptor's first byte is its length: its two first bytes are there, and all others
abbrev pub is_whole : List ℕ → Bool
is_whole bytes = nat_le 2 (byte_at 0 bytes) && nat_le (byte_at 0 bytes) (length bytes)

-- a descriptor: its place in the blob, and the blob's bytes from there on
pub record Descriptor : Type 0 where
  pub place : ℕ
  pub bytes : List ℕ

-- the descriptors from a place on: each begins where the one before ends, and after one that isn't whole none is
-- found. The first argument is how many there are at most, which is as many as there are bytes.
abbrev pub descriptors : ℕ → ℕ → List ℕ → List Descriptor
descriptors zero place bytes = []
descriptors (suc most) place [] = []
descriptors (suc most) place (b ∷ bytes) = record { place = place; bytes = b ∷ bytes } ∷ (if is_whole (b ∷ bytes) then descriptors most (place + b) (drop b (b ∷ bytes)) else [])

-- those after the configuration's own
abbrev pub later : List ℕ → List Descriptor
later blob = descriptors (length blob) (byte_at 0 blob) (drop (byte_at 0 blob) blob)

-- ---- which are wrong

-- the configuration's own (9.6.3): type 2, 9 bytes or more, and wTotalLength is the length of the blob
abbrev pub is_configuration : List ℕ → Bool
is_configuration blob = nat_le 9 (length blob) && nat_le 9 (byte_at 0 blob) && nat_le (byte_at 0 blob) (length blob) && byte_at 1 blob == 2 && le_at w16 2 blob == length blob

-- an interface (9.6.5) has 9 bytes or more, an endpoint (9.6.6) 7 or more and an address with bits 4 to 6 clear
abbrev pub is_right : List ℕ → Bool
is_right bytes =
    is_whole bytes && (if byte_at 1 bytes == 4 then nat_le 9 (byte_at 0 bytes)
    else if byte_at 1 bytes == 5 then nat_le 7 (byte_at 0 bytes) && is_address (byte_at 2 bytes)
    else true)

abbrev pub first_wrong : List Descriptor → Option ℕ
first_wrong [] = None
first_wrong (d ∷ ds) = if is_right d.bytes then first_wrong ds else Some d.place

-- the place of the first wrong descriptor
abbrev pub wrong_place : List ℕ → Option ℕ
wrong_place blob = if is_configuration blob then first_wrong (later blob) else Some 0

-- ---- what they say

abbrev pub interface_at : List ℕ → Part
interface_at bytes = Interface (byte_at 2 bytes) (byte_at 3 bytes) (byte_at 5 bytes) (byte_at 6 bytes) (byte_at 7 bytes)

-- the kind is bits 0 and 1 of bmAttributes, the largest packet bits 0 to 10 of wMaxPacketSize
abbrev pub endpoint_at : List ℕ → Part
endpoint_at bytes = Endpoint (byte_at 2 bytes) (kind_of_byte (byte_at 3 bytes % 4)) (le_at w16 4 bytes % 2048) (byte_at 6 bytes)

abbrev pub part_at : List ℕ → Part
part_at bytes = if byte_at 1 bytes == 4 then interface_at bytes else if byte_at 1 bytes == 5 then endpoint_at bytes else Other (byte_at 1 bytes)

-- the parts of a configuration without a wrong descriptor
abbrev pub parts_of : List ℕ → List Part
parts_of blob = Config (byte_at 5 blob) (byte_at 4 blob) ∷ map (λ d. part_at d.bytes) (later blob)

-- ---- that they are all there is

-- the bytes of the descriptor at the front
abbrev pub own_bytes : List ℕ → List ℕ
own_bytes bytes = take (byte_at 0 bytes) bytes

abbrev pub joined : List Descriptor → List ℕ
joined [] = []
joined (d ∷ ds) = own_bytes d.bytes ++ joined ds

-- a configuration without a wrong descriptor is its descriptors one behind another
abbrev pub AreJoined : Type 0
AreJoined = (blob : List ℕ) → wrong_place blob ≡ None → own_bytes blob ++ joined (later blob) ≡ blob
