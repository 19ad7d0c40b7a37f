-- The fields of packets that move data: spelled again where they stand, and read again where they are spelled.
use Rattle.std.proofs.Common.{◌≡◌, ℕ, ◌+◌, ◌-◌, ◌*◌, ◌/◌, ◌%◌, ◌^◌, ◌<◌, ◌≤◌, Bool, true, false, cond, List, ◌++◌, length, take, refl, ap, ◌∙◌, arith}
use Rattle.std.specs.Int.{w16, w32}
use Rattle.std.proofs.lemmas.List.{length-append}
use Rattle.std.proofs.lemmas.Nat.{from_le_bytes-to_le_bytes_2, from_le_bytes-to_le_bytes_4}
use Rattle.usb_base.specs.Number.{le, le_at, byte_at, part, AreBytes}
use Rattle.usb_base.proofs.Numbers.{part_found, join, le_spelled_16, le_spelled_32, le_at-below_16, le_at-below_32}
use Rattle.redir_wire.specs.declared.packet.Caps.{Caps}
use Rattle.redir_wire.specs.declared.kind.DataKind.{DataKind}
use Rattle.redir_wire.specs.declared.kind.DataKind.TheVariants as kinds
use Rattle.redir_wire.specs.declared.packet.TheConstants.Caps.{WIDE_BULK_LENGTH}
use Rattle.redir_wire.specs.Capability.{has}
use Rattle.redir_wire.specs.Field.{wire_bytes}
use Rattle.redir_wire.proofs.Controls.{bytes_there}
use Rattle.redir_data.specs.declared.packet.RedirData.{RedirData}
use Rattle.redir_data.specs.declared.packet.RedirData.TheVariants as moving
use Rattle.redir_data.specs.Spelling.{form_of, bulk, periodic, fixed_fields, fields, size_of}
use Rattle.redir_data.specs.Ranges.{Ranges, BulkLengthFits, LengthFits}
use Rattle.redir_data.specs.Places.{fixed, bulk_length, told_length, fields_with, fields_at}

-- ---- the length of a bulk packet

bulk_below : (wide : Bool) (b : List ℕ) → AreBytes b → (bulk_length wide b < 2 ^ 32) × BulkLengthFits wide (bulk_length wide b)
bulk_below true b are = (omega (arith, le_at-below_16 2 b are, le_at-below_16 8 b are), tt)
bulk_below false b are = (omega (arith, le_at-below_16 2 b are), le_at-below_16 2 b are)

low_is : (low high : ℕ) → low < 65536 → (low + 65536 * high) % 65536 ≡ low
low_is low high less = omega arith

high_is : (low high : ℕ) → low < 65536 → (low + 65536 * high) / 65536 ≡ high
high_is low high less = omega arith

bulk_spelled : (wide : Bool) (b : List ℕ) → AreBytes b → 8 + cond wide 2 0 ≤ length b → wire_bytes (bulk wide (byte_at 0 b) (byte_at 1 b) (bulk_length wide b) (le_at w32 4 b)) ≡ take (8 + cond wide 2 0) b
bulk_spelled true b are there =
    let low = le_at w16 2 b in
    let high = le_at w16 8 b in
    let less = le_at-below_16 2 b are in
    let lower = ap (le w16) (low_is low high less) ∙ le_spelled_16 2 b are (omega arith) in
    let upper = ap (le w16) (high_is low high less) ∙ le_spelled_16 8 b are (omega arith) in
    let stream = join 4 4 0 b _ _ (le_spelled_32 4 b are (omega arith)) refl in
    join 0 2 8 b _ _ (bytes_there 2 b (omega arith)) (join 2 2 6 b _ _ lower (join 4 4 2 b _ _ stream (join 8 2 0 b _ _ upper refl)))
bulk_spelled false b are there =
    let low = le_at w16 2 b in
    let less = le_at-below_16 2 b are in
    let lower : le w16 (low % 65536) ≡ part 2 2 b = ap (le w16) (omega arith) ∙ le_spelled_16 2 b are (omega arith) in
    let stream = join 4 4 0 b _ _ (le_spelled_32 4 b are (omega arith)) refl in
    join 0 2 6 b _ _ (bytes_there 2 b (omega arith)) (join 2 2 4 b _ _ lower (join 4 4 0 b _ _ stream refl))

periodic_spelled : (b : List ℕ) → AreBytes b → 4 ≤ length b → wire_bytes (periodic (byte_at 0 b) (byte_at 1 b) (le_at w16 2 b)) ≡ take 4 b
periodic_spelled b are there = join 0 2 2 b _ _ (bytes_there 2 b (omega arith)) (join 2 2 0 b _ _ (join 2 2 0 b _ _ (le_spelled_16 2 b are (omega arith)) refl) refl)

-- ---- what stands at its place

pub fixed_spelled : (caps : Caps) (k : DataKind) (b body : List ℕ) → AreBytes b → fixed caps k ≤ length b → fixed_fields caps (fields_with k b (told_length caps k b) body) ≡ take (fixed caps k) b
fixed_spelled caps kinds.Control b body are there =
    let last = join 8 2 0 b _ _ (le_spelled_16 8 b are (omega arith)) refl in
    let numbers = join 4 2 4 b _ _ (le_spelled_16 4 b are (omega arith)) (join 6 2 2 b _ _ (le_spelled_16 6 b are (omega arith)) last) in
    join 0 4 6 b _ _ (bytes_there 4 b (omega arith)) (join 4 6 0 b _ _ numbers refl)
fixed_spelled caps kinds.Bulk b body are there = bulk_spelled (has caps WIDE_BULK_LENGTH) b are there
fixed_spelled caps kinds.Iso b body are there = periodic_spelled b are there
fixed_spelled caps kinds.Interrupt b body are there = periodic_spelled b are there

pub ranges_there : (caps : Caps) (k : DataKind) (b body : List ℕ) → AreBytes b → Ranges (fields_with k b (told_length caps k b) body)
ranges_there caps kinds.Control b body are = ((le_at-below_16 4 b are, (le_at-below_16 6 b are, (le_at-below_16 8 b are, tt))), tt)
ranges_there caps kinds.Bulk b body are = ((le_at-below_32 4 b are, tt), ((bulk_below (has caps WIDE_BULK_LENGTH) b are).0, tt))
ranges_there caps kinds.Iso b body are = ((le_at-below_16 2 b are, tt), tt)
ranges_there caps kinds.Interrupt b body are = ((le_at-below_16 2 b are, tt), tt)

pub length_there : (caps : Caps) (k : DataKind) (b body : List ℕ) → AreBytes b → LengthFits caps (fields_with k b (told_length caps k b) body)
length_there caps kinds.Control b body are = tt
length_there caps kinds.Bulk b body are = (bulk_below (has caps WIDE_BULK_LENGTH) b are).1
length_there caps kinds.Iso b body are = tt
length_there caps kinds.Interrupt b body are = tt

-- what the fields with this length and these data are
pub record AreFields (k : DataKind) (b : List ℕ) (told : ℕ) (body : List ℕ) : Type 0 where
  pub kind : (form_of (fields_with k b told body)).kind ≡ k
  pub endpoint : (form_of (fields_with k b told body)).endpoint ≡ byte_at 0 b
  pub length_is : (form_of (fields_with k b told body)).told ≡ told
  pub body_is : (form_of (fields_with k b told body)).body ≡ body

pub are_fields : (k : DataKind) (b : List ℕ) (told : ℕ) (body : List ℕ) → AreFields k b told body
are_fields kinds.Control b told body = record { kind = refl; endpoint = refl; length_is = refl; body_is = refl }
are_fields k b told body = record { kind = refl; endpoint = refl; length_is = refl; body_is = refl }

-- ---- what is spelled is read again

length_bulk : (wide : Bool) (endpoint status told stream : ℕ) → length (wire_bytes (bulk wide endpoint status told stream)) ≡ 8 + cond wide 2 0
unfolding le
length_bulk true endpoint status told stream = refl
length_bulk false endpoint status told stream = refl

pub length_fixed : (caps : Caps) (d : RedirData) → length (fixed_fields caps d) ≡ fixed caps (form_of d).kind
unfolding le
length_fixed caps (moving.Control endpoint request kind status value index told body) = refl
length_fixed caps (moving.Bulk endpoint status told stream body) = length_bulk (has caps WIDE_BULK_LENGTH) endpoint status told stream
length_fixed caps (moving.Iso endpoint status told body) = refl
length_fixed caps (moving.Interrupt endpoint status told body) = refl

pub length_fields : (caps : Caps) (d : RedirData) → length (fields caps d) ≡ size_of caps d
length_fields caps d = omega (arith, length-append (fixed_fields caps d) (form_of d).body, length_fixed caps d)

pub endpoint_again : (caps : Caps) (d : RedirData) (more : List ℕ) → byte_at 0 (fields caps d ++ more) ≡ (form_of d).endpoint
endpoint_again caps (moving.Control endpoint request kind status value index told body) more = refl
endpoint_again caps d more = refl

bulk_again : (wide : Bool) (endpoint status told stream : ℕ) (body more : List ℕ) → told < 2 ^ 32 → BulkLengthFits wide told → bulk_length wide ((wire_bytes (bulk wide endpoint status told stream) ++ body) ++ more) ≡ told
unfolding le le_at
bulk_again true endpoint status told stream body more fits is =
    let low = from_le_bytes-to_le_bytes_2 (told % 65536) (omega arith) in
    let high = from_le_bytes-to_le_bytes_2 (told / 65536) (omega arith) in
    (λ i. low i + 65536 * high i) ∙ omega arith
bulk_again false endpoint status told stream body more fits is = from_le_bytes-to_le_bytes_2 (told % 65536) (omega arith) ∙ omega arith

stream_again : (wide : Bool) (endpoint status told stream : ℕ) (body more : List ℕ) → stream < 2 ^ 32 → le_at w32 4 ((wire_bytes (bulk wide endpoint status told stream) ++ body) ++ more) ≡ stream
unfolding le le_at
stream_again true endpoint status told stream body more fits = from_le_bytes-to_le_bytes_4 stream fits
stream_again false endpoint status told stream body more fits = from_le_bytes-to_le_bytes_4 stream fits

pub told_again : (caps : Caps) (d : RedirData) (more : List ℕ) → Ranges d → LengthFits caps d → told_length caps (form_of d).kind (fields caps d ++ more) ≡ (form_of d).told
unfolding le le_at
told_again caps (moving.Control endpoint request kind status value index told body) more r l = from_le_bytes-to_le_bytes_2 told r.0.1.1.0
told_again caps (moving.Bulk endpoint status told stream body) more r l = bulk_again (has caps WIDE_BULK_LENGTH) endpoint status told stream body more r.1.0 l
told_again caps (moving.Iso endpoint status told body) more r l = from_le_bytes-to_le_bytes_2 told r.0.0
told_again caps (moving.Interrupt endpoint status told body) more r l = from_le_bytes-to_le_bytes_2 told r.0.0

second_again : (wide : Bool) (endpoint status told stream : ℕ) (body more : List ℕ) → byte_at 1 ((wire_bytes (bulk wide endpoint status told stream) ++ body) ++ more) ≡ status
second_again wide endpoint status told stream body more = refl

with_again : (caps : Caps) (d : RedirData) (more : List ℕ) → Ranges d → fields_with (form_of d).kind (fields caps d ++ more) (form_of d).told (form_of d).body ≡ d
unfolding le le_at
with_again caps (moving.Control endpoint request kind status value index told body) more r =
    let first = from_le_bytes-to_le_bytes_2 value r.0.0 in
    let second = from_le_bytes-to_le_bytes_2 index r.0.1.0 in
    λ i. moving.Control endpoint request kind status (first i) (second i) told body
with_again caps (moving.Bulk endpoint status told stream body) more r = ap (λ (s : ℕ). moving.Bulk endpoint status told s body) (stream_again (has caps WIDE_BULK_LENGTH) endpoint status told stream body more r.0.0)
with_again caps (moving.Iso endpoint status told body) more r = refl
with_again caps (moving.Interrupt endpoint status told body) more r = refl

pub fields_again : (caps : Caps) (n : ℕ) (d : RedirData) (more : List ℕ) → Ranges d → LengthFits caps d → n ≡ length (fields caps d) → fields_at caps n (form_of d).kind (fields caps d ++ more) ≡ d
fields_again caps n d more r l e =
    let f = fixed caps (form_of d).kind in
    let told = told_again caps d more r l in
    let count : n - f ≡ length (form_of d).body = omega (arith, e, length_fields caps d) in
    let body = ap (λ (m : ℕ). part f m (fields caps d ++ more)) count ∙ part_found f (length (form_of d).body) (fixed_fields caps d) (form_of d).body more (length_fixed caps d) refl in
    (λ i. fields_with (form_of d).kind (fields caps d ++ more) (told i) (body i)) ∙ with_again caps d more r
