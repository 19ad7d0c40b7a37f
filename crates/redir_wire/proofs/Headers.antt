-- Headers: spelled again where they stand, read again where they are spelled, and the same whatever comes later.
use Rattle.std.proofs.Common.{◌≡◌, ℕ, ◌+◌, ◌^◌, ◌<◌, ◌≤◌, Bool, true, false, cond, List, ◌++◌, length, take, drop, refl, ap, arith}
use Rattle.std.specs.Prelude.{nat_lt}
use Rattle.std.specs.Int.{w32, w64, from_le_bytes}
use Rattle.std.proofs.lemmas.List.{drop_at}
use Rattle.std.proofs.lemmas.Nat.{le_bytes_8, from_le_bytes-to_le_bytes_4, from_le_bytes-to_le_bytes_8}
use Rattle.usb_base.specs.Number.{le, le_at, part, AreBytes}
use Rattle.usb_base.proofs.Numbers.{then, length-part, AreBytes-part, part-append, le_spelled_32, le_at-append_32, le_at-below_32}
use Rattle.redir_wire.specs.declared.packet.Header.{Header}
use Rattle.redir_wire.specs.Header.{head_size, head_bytes, id_width, header_at, IdFits}

-- ---- numbers of 64 bits

le_spelled_64 : (place : ℕ) (bytes : List ℕ) → AreBytes bytes → place + 8 ≤ length bytes → le w64 (le_at w64 place bytes) ≡ part place 8 bytes
unfolding le le_at
le_spelled_64 place bytes h l = le_bytes_8 (part place 8 bytes) _ (length-part place 8 bytes l) (AreBytes-part place 8 bytes h) refl

le_at-append_64 : (place : ℕ) (b more : List ℕ) → place + 8 ≤ length b → le_at w64 place (b ++ more) ≡ le_at w64 place b
unfolding le_at
le_at-append_64 place b more h = ap (from_le_bytes w64) (part-append place 8 b more h)

le_at-below_64 : (place : ℕ) (bytes : List ℕ) → AreBytes bytes → le_at w64 place bytes < 2 ^ 64
unfolding le_at
le_at-below_64 place bytes h = let f = AreBytes-part place 8 bytes h in omega (arith, f 0, f 1, f 2, f 3, f 4, f 5, f 6, f 7)

-- ---- headers

-- how many bytes the packet has whose header begins so
abbrev pub size : Bool → List ℕ → ℕ
size wide b = cond (nat_lt (length b) 8) (head_size wide) (head_size wide + le_at w32 4 b)

pub size_least : (wide : Bool) → 12 ≤ head_size wide
size_least true = omega arith
size_least false = omega arith

pub length_head : (wide : Bool) (h : Header) → length (head_bytes wide h) ≡ head_size wide
unfolding le
length_head true h = refl
length_head false h = refl

pub head_spelled : (wide : Bool) (b : List ℕ) → AreBytes b → head_size wide ≤ length b → head_bytes wide (header_at wide b) ≡ take (head_size wide) b
head_spelled true b are there = then 8 8 b _ _ (then 4 4 b _ _ (le_spelled_32 0 b are (omega arith)) (le_spelled_32 4 b are (omega arith))) (le_spelled_64 8 b are (omega arith))
head_spelled false b are there = then 8 4 b _ _ (then 4 4 b _ _ (le_spelled_32 0 b are (omega arith)) (le_spelled_32 4 b are (omega arith))) (le_spelled_32 8 b are (omega arith))

pub id_fits : (wide : Bool) (b : List ℕ) → AreBytes b → IdFits wide (le_at (id_width wide) 8 b)
id_fits true b are = le_at-below_64 8 b are
id_fits false b are = le_at-below_32 8 b are

pub kind_there : (wide : Bool) (h : Header) (more : List ℕ) → h.kind < 2 ^ 32 → le_at w32 0 (head_bytes wide h ++ more) ≡ h.kind
unfolding le le_at
kind_there true h more fits = from_le_bytes-to_le_bytes_4 h.kind fits
kind_there false h more fits = from_le_bytes-to_le_bytes_4 h.kind fits

pub length_there : (wide : Bool) (h : Header) (more : List ℕ) → h.length < 2 ^ 32 → le_at w32 4 (head_bytes wide h ++ more) ≡ h.length
unfolding le le_at
length_there true h more fits = from_le_bytes-to_le_bytes_4 h.length fits
length_there false h more fits = from_le_bytes-to_le_bytes_4 h.length fits

id_there : (wide : Bool) (h : Header) (more : List ℕ) → IdFits wide h.id → le_at (id_width wide) 8 (head_bytes wide h ++ more) ≡ h.id
unfolding le le_at
id_there true h more fits = from_le_bytes-to_le_bytes_8 h.id fits
id_there false h more fits = from_le_bytes-to_le_bytes_4 h.id fits

pub header_there : (wide : Bool) (h : Header) (more : List ℕ) → h.kind < 2 ^ 32 → h.length < 2 ^ 32 → IdFits wide h.id → header_at wide (head_bytes wide h ++ more) ≡ h
header_there wide h more kind_fits length_fits fits =
    let kind = kind_there wide h more kind_fits in
    let size = length_there wide h more length_fits in
    let id = id_there wide h more fits in
    λ i. record { kind = kind i; length = size i; id = id i }

pub behind_there : (wide : Bool) (h : Header) (more : List ℕ) → drop (head_size wide) (head_bytes wide h ++ more) ≡ more
behind_there wide h more = drop_at (head_bytes wide h) more (head_size wide) (length_head wide h)

id_more : (wide : Bool) (b more : List ℕ) → head_size wide ≤ length b → le_at (id_width wide) 8 (b ++ more) ≡ le_at (id_width wide) 8 b
id_more true b more there = le_at-append_64 8 b more there
id_more false b more there = le_at-append_32 8 b more there

pub header_more : (wide : Bool) (b more : List ℕ) → head_size wide ≤ length b → header_at wide (b ++ more) ≡ header_at wide b
header_more wide b more there =
    let least = size_least wide in
    let kind = le_at-append_32 0 b more (omega arith) in
    let size = le_at-append_32 4 b more (omega arith) in
    let id = id_more wide b more there in
    λ i. record { kind = kind i; length = size i; id = id i }
