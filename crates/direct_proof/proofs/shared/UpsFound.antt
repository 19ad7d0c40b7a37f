-- The streams of a table's places, seen by the addresses of their endpoints: how those that go up and down, and that
-- hold, are found.
use Rattle.std.proofs.Common.{◌≡◌, ◌≢◌, ℕ, ◌-◌, ◌<◌, ◌%◌, ◌==◌, nat_lt, Bool, true, false, cond, List, Option, None, refl, sym, ap, ◌∙◌, subst, arith}
use Rattle.std.proofs.Math.ListN.{get_or-map}
use Rattle.usb_base.specs.Endpoint.{endpoint_index}
use Rattle.gate_history.specs.state.Ups.{Up, stream_at, stream_of, unless, lower}
use Rattle.direct_proof.specs.Kinds.{IsIn}

pub in-place : (ep : ℕ) → IsIn ep → endpoint_index ep < 32
in-place ep h = subst (λ (b : Bool). cond b ep (ep - 112) < 32) (sym (not-low ep h)) (omega (arith, h.low, h.high))
  where
    not-low : (n : ℕ) → IsIn n → nat_lt n 128 ≡ false
    not-low n k = grind (arith, k.low)

pub index-is : (ep : ℕ) → IsIn ep → endpoint_index ep ≡ ep - 112
index-is ep h = ap (λ (b : Bool). cond b ep (ep - 112)) (not-low ep h)
  where
    not-low : (n : ℕ) → IsIn n → nat_lt n 128 ≡ false
    not-low n k = grind (arith, k.low)

-- two addresses have two places
pub places-differ : (a b : ℕ) → IsIn a → IsIn b → (a == b) ≡ false → endpoint_index a ≢ endpoint_index b
places-differ a b h k other same =
    let i = index-is a h in
    let j = index-is b k in
    let equal : a ≡ b = omega (arith, h.low, k.low, i, j, same) in
    apart (sym other ∙ ap (λ (n : ℕ). a == n) (sym equal) ∙ itself a)
  where
    apart : false ≡ true → ⊥
    apart e = cc

    itself : (n : ℕ) → (n == n) ≡ true
    itself n = grind arith

-- by its byte as by its place
pub by-address : (ups : List (Option Up)) (ep : ℕ) → IsIn ep → stream_of ups ep ≡ stream_at ups ep
by-address ups ep h = ap (λ (b : Bool). cond b (stream_at ups ep) None) (small ep h)
  where
    small : (n : ℕ) → IsIn n → nat_lt (n % 128) 16 ≡ true
    small n k = grind (arith, k.low, k.high)

-- ---- up, down, and held

pub lowered : (test : Up → Bool) (ups : List (Option Up)) (ep : ℕ) → stream_of (lower test ups) ep ≡ unless test (stream_of ups ep)
lowered test ups ep = go (nat_lt (ep % 128) 16)
  where
    go : (b : Bool) → cond b (stream_at (lower test ups) ep) None ≡ unless test (cond b (stream_at ups ep) None)
    go true = get_or-map (unless test) ups (endpoint_index ep) None
    go false = refl
