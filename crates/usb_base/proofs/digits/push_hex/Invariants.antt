use Rattle.std.proofs.Common.{◌≡◌, ℕ, List, ◌*◌, ◌++◌, length}
use Rattle.std.specs.Slice.Iter.{chunks_rest, chunks_size}
use Rattle.hex.specs.Hex.{encode_lower}
use Rattle.usb_base.specs.declared.digits.TheConstants.{AT_ONCE}
use Rattle.usb_base.proofs.digits.push_hex.Given as goal

abbrev pub invariant-loop-front : goal.invariant-loop-front
invariant-loop-front l =
    goal.iterator-loop-front.can_next l.front-iterator
    × goal.iterator-loop-front.is_finite l.front-iterator
    × (chunks_size l.front-iterator ≡ AT_ONCE)
    × (length l.digits ≡ 2 * AT_ONCE)
    × ((done : List ℕ) × ((l.text ≡ l.fn.text ++ encode_lower done) × (done ++ chunks_rest l.front-iterator ≡ l.fn.bytes)))
