-- Where memory may be wanting: for a whole packet that takes some.
use Rattle.std.proofs.Common.{◌≡◌, ℕ, ◌*◌, ◌/◌, ◌<◌, ◌≤◌, Bool, true, false, List, length, None, Result, Ok, Err, ap, ◌∙◌, arith}
use Rattle.std.specs.Prelude.{nat_lt, ◌||◌}
use Rattle.std.specs.Int.{w32}
use Rattle.std.specs.Result.{IsErrAnd}
use Rattle.std.proofs.lemmas.Bool.{lt-ltb, le-ltb, or_left, or_right}
use Rattle.usb_base.specs.Number.{be_at, part}
use Rattle.usb_base.proofs.Numbers.{length-part}
use Rattle.usb_base.specs.declared.memory.Memory.{Memory as NoMemory}
use Rattle.usb_base.specs.declared.reason.Reason.{Reason}
use Rattle.packet_stream.specs.declared.read.Read.{Read}
use Rattle.packet_stream.specs.declared.read.ReadError.{ReadError}
use Rattle.packet_stream.specs.declared.read.ReadError.TheVariants as error
use Rattle.packet_stream.specs.Format.{Format, reading_by}
use Rattle.packet_stream.specs.Reads.{Answers}
use Rattle.usbip_urb.specs.Sizes.{body_size, count_of, descs_place, descs_size, whole_size}
use Rattle.usbip_urb.specs.Fields.{body_at, descs_behind}
use Rattle.usbip_urb.specs.Sound.Descriptors.{descs_counted}

pub wanting : {P : Type 0} {memory : NoMemory} (takes : P → Bool) (r : Result (Read P) ReadError) (f : Format P Reason) (b : List ℕ) → IsErrAnd r (λ (e : ReadError). e ≡ error.Memory memory) → f.size b ≤ length b → takes (f.packet b) ≡ true →
    Answers takes r (reading_by f b None)
wanting takes (Ok x) f b is there some = absurd is
wanting takes (Err (error.Refused place reason)) f b is there some = absurd cc
wanting takes (Err (error.Memory memory)) f b is there some = let whole : nat_lt (length b) (f.size b) ≡ false = le-ltb (length b) (f.size b) there in rw whole some

-- where a body is told there is one
pub body_wanting : (has_body : Bool) (b : List ℕ) → whole_size has_body b ≤ length b → 48 < descs_place has_body b →
    (nat_lt 0 (length (body_at has_body b)) || nat_lt 0 (length (descs_behind has_body b))) ≡ true
body_wanting has_body b there some =
    let long = length-part 48 (body_size has_body (be_at w32 24 b)) b (omega (arith, there)) in
    or_left (nat_lt 0 (length (body_at has_body b))) (nat_lt 0 (length (descs_behind has_body b))) (lt-ltb 0 (length (body_at has_body b)) (omega (arith, long, some)))

-- where there are descriptors' bytes there are descriptors
pub descs_wanting : (has_body : Bool) (b x : List ℕ) → whole_size has_body b ≤ length b → x ≡ part (descs_place has_body b) (descs_size b) b → 0 < length x / 16 →
    (nat_lt 0 (length (body_at has_body b)) || nat_lt 0 (length (descs_behind has_body b))) ≡ true
descs_wanting has_body b x there is some =
    let count = count_of (be_at w32 32 b) in
    let long : length x ≡ count * 16 = ap length is ∙ length-part (descs_place has_body b) (descs_size b) b there in
    let counted = descs_counted count (part (descs_place has_body b) (descs_size b) b) in
    or_right (nat_lt 0 (length (body_at has_body b))) (nat_lt 0 (length (descs_behind has_body b))) (lt-ltb 0 (length (descs_behind has_body b)) (omega (arith, long, counted, some)))
