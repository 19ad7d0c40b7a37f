-- What stands behind the first 48 bytes of a submit or of its answer: a body or none, and then descriptors.
use Rattle.std.specs.Prelude.{ℕ, ◌+◌, ◌*◌, ◌==◌, Bool, if◌then◌else◌, List}
use Rattle.std.specs.Int.{w32}
use Rattle.usb_base.specs.Number.{be_at}
use Rattle.usbip_urb.specs.declared.code.TheConstants.{DESC_SIZE, HEAD_SIZE, NO_PACKETS, USBIP_DIR_OUT}

-- a request has a body where its direction is OUT
abbrev pub is_out : ℕ → Bool
is_out direction = direction == USBIP_DIR_OUT

-- where there is a body it has as many bytes as the packet tells
abbrev pub body_size : Bool → ℕ → ℕ
body_size has_body told = if has_body then told else 0

-- how many descriptors a number_of_packets means
abbrev pub count_of : ℕ → ℕ
count_of packets = if packets == NO_PACKETS then 0 else packets

-- where the descriptors begin
abbrev pub descs_place : Bool → List ℕ → ℕ
descs_place has_body b = HEAD_SIZE + body_size has_body (be_at w32 24 b)

-- how many bytes they have
abbrev pub descs_size : List ℕ → ℕ
descs_size b = count_of (be_at w32 32 b) * DESC_SIZE

-- how many bytes the whole packet has
abbrev pub whole_size : Bool → List ℕ → ℕ
whole_size has_body b = descs_place has_body b + descs_size b
