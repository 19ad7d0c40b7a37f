-- The endpoint of a submit that a client can send, and how many packets it may have.
use Rattle.std.proofs.Common.{◌≡◌, ℕ, ◌+◌, ◌%◌, ◌<◌, ◌≤◌, ◌==◌, ◌||◌, nat_le, not, Bool, true, false, cond, length, is_some, refl, sym, ap, ◌∙◌, subst, arith, ◌-◌}
use Rattle.std.proofs.lemmas.Bool.{lt-ltb, le-ltb, leb-true}
use Rattle.usb_base.specs.declared.transfer.Transfer.{Transfer}
use Rattle.usb_base.specs.Endpoint.{endpoint_index, is_control}
use Rattle.usb_base.specs.Setup.{setup_at, is_in_setup}
use Rattle.usbip_urb.specs.declared.packet.Submit.{Submit as UrbSubmit}
use Rattle.usbip_urb.specs.Ranges.{IsSubmit}
use Rattle.usbip_urb.specs.Sizes.{is_out}
use Rattle.usb_base.specs.declared.limits.TheConstants.{MAX_PACKETS}
use Rattle.gate_history.specs.client.Requests.{request_of, address, transfer_by}

pub record IsAddressed (t : Transfer) : Type 0 where
  pub low : t.ep % 128 < 16
  pub has_setup : is_some t.setup ≡ is_control t.ep
  pub index : endpoint_index t.ep < 32

zero-index : (is_in : Bool) → endpoint_index (address is_in 0) < 32
zero-index true = omega arith
zero-index false = omega arith

zero-low : (is_in : Bool) → address is_in 0 % 128 < 16
zero-low true = omega arith
zero-low false = omega arith

zero-control : (is_in : Bool) → true ≡ is_control (address is_in 0)
zero-control true = refl
zero-control false = refl

other-low : (is_in : Bool) (n : ℕ) → n ≤ 15 → address is_in n % 128 < 16
other-low true n h = omega arith
other-low false n h = omega arith

other-control : (is_in : Bool) (n : ℕ) → n ≤ 15 → (n == 0) ≡ false → false ≡ is_control (address is_in n)
other-control true n h z = let low : (n + 128) % 128 ≡ n = omega arith in sym (ap (λ (k : ℕ). k == 0) low ∙ z)
other-control false n h z = let low : n % 128 ≡ n = omega arith in sym (ap (λ (k : ℕ). k == 0) low ∙ z)

other-index : (is_in : Bool) (n : ℕ) → n ≤ 15 → endpoint_index (address is_in n) < 32
other-index true n h = subst (λ (b : Bool). cond b (n + 128) (n + 128 - 112) < 32) (sym (le-ltb (n + 128) 128 (omega arith))) (omega arith)
other-index false n h = subst (λ (b : Bool). cond b n (n - 112) < 32) (sym (lt-ltb n 128 (omega arith))) (omega arith)

pub addressed : (s : UrbSubmit) → IsSubmit s → IsAddressed (request_of s).transfer
addressed s is = go (s.head.ep == 0) refl
  where
    go : (b : Bool) → (s.head.ep == 0) ≡ b → IsAddressed (transfer_by b s)
    go true z = record { low = zero-low (is_in_setup (setup_at s.setup)); has_setup = zero-control (is_in_setup (setup_at s.setup)); index = zero-index (is_in_setup (setup_at s.setup)) }
    go false z = record { low = other-low (not (is_out s.head.direction)) s.head.ep is.head.endpoint; has_setup = other-control (not (is_out s.head.direction)) s.head.ep is.head.endpoint z; index = other-index (not (is_out s.head.direction)) s.head.ep is.head.endpoint }

pub few-descs : (s : UrbSubmit) → IsSubmit s → length s.descs ≤ MAX_PACKETS
few-descs s is = go (s.packets == 4294967295) (nat_le s.packets MAX_PACKETS) refl refl is.few_packets
  where
    go : (b c : Bool) → (s.packets == 4294967295) ≡ b → nat_le s.packets MAX_PACKETS ≡ c → (c || b) ≡ true → length s.descs ≤ MAX_PACKETS
    go true c e f h = let none : length s.descs ≡ 0 = is.descs ∙ ap (λ (x : Bool). cond x 0 s.packets) e in omega arith
    go false true e f h = let some : length s.descs ≡ s.packets = is.descs ∙ ap (λ (x : Bool). cond x 0 s.packets) e in let few = leb-true s.packets MAX_PACKETS f in omega arith
    go false false e f h = absurd (cc)
