-- The first LF that a search for a byte finds is where the first line ends.
use Rattle.std.proofs.Common.{◌≡◌, ◌==◌, ℕ, Bool, cond, List, length, Option, Some, None, sym, ap, arith}
use Rattle.std.specs.Prelude.{position}
use Rattle.std.specs.List.{position_or_len}
use Rattle.std.proofs.lemmas.Bool.{false_from_ne_true, le-ltb, lt-ltb}
use Rattle.std.proofs.lemmas.List.Sums.{position_or_len_is}
use Rattle.memchr.specs.Find.{IsFirstByte, is_byte}

pub first-lf : (bytes : List ℕ) (found : Option ℕ) → IsFirstByte (is_byte 10) bytes found → found ≡ position (λ b. b == 10) bytes
first-lf bytes None h =
    let at_end : position_or_len (λ b. b == 10) bytes ≡ length bytes = position_or_len_is (λ b. b == 10) bytes (length bytes) 0 (omega arith) (λ k lt. false_from_ne_true _ (h k (omega arith) lt)) (λ lt. absurd (omega (arith, lt))) in
    rw at_end (ap (λ (b : Bool). cond b (Some (length bytes)) None) (sym (le-ltb (length bytes) (length bytes) (omega arith))))
first-lf bytes (Some k) h =
    let here : position_or_len (λ b. b == 10) bytes ≡ k = position_or_len_is (λ b. b == 10) bytes k 0 (omega (arith, h.0.high)) (λ j lt. false_from_ne_true _ (h.0.before j (omega arith) lt)) (λ lt. h.1) in
    rw here (ap (λ (b : Bool). cond b (Some k) None) (sym (lt-ltb k (length bytes) h.0.high)))
