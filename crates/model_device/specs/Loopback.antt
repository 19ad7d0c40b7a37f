-- The loop: a bulk endpoint each way, which gives back what came, in order.
use Rattle.std.specs.Prelude.{ℕ, ◌+◌, ◌==◌, nat_lt, ◌&&◌, not, List, [], ◌∷◌, ◌++◌, length, take, drop, codes, Option, Some, None, if◌then◌else◌}
use Rattle.usb_base.specs.Endpoint.{is_in_endpoint}
use Rattle.usb_base.specs.declared.speed.Speed.TheVariants.{High}
use Rattle.usb_base.specs.declared.transfer.Outcome.{Outcome}
use Rattle.chapter9.specs.Standard.{stall, success, taken}
use Rattle.model_device.specs.declared.loopback.TheConstants.{MOST_HELD}
use Rattle.model_device.specs.Device.{Device, set_of}

-- more than it can ever hold is refused, and more than it has room for waits
abbrev pub taken_in : List ℕ → List ℕ → Option (List ℕ × Outcome)
taken_in held body =
    if nat_lt MOST_HELD (length body) then Some (held, stall)
    else if nat_lt MOST_HELD (length held + length body) then None
    else Some (held ++ body, taken (length body))

-- where it holds nothing, a transfer that wants some bytes waits
abbrev pub given_back : List ℕ → ℕ → Option (List ℕ × Outcome)
given_back held wanted = if length held == 0 && not (wanted == 0) then None else Some (drop wanted held, success (take wanted held))

-- what is kept are the bytes that came and weren't given back
unfoldable pub loopback : Device (List ℕ)
loopback = record {
  set =
      set_of 2 (codes "loop")
      -- interface 0 with two endpoints, of the vendor's class
      (0x09 ∷ 0x04 ∷ 0x00 ∷ 0x00 ∷ 0x02 ∷ 0xFF ∷ 0x00 ∷ 0x00 ∷ 0x00 ∷
      -- OUT endpoint 1: bulk, packets of 512 bytes
      0x07 ∷ 0x05 ∷ 0x01 ∷ 0x02 ∷ 0x00 ∷ 0x02 ∷ 0x00 ∷
      -- IN endpoint 1: bulk, packets of 512 bytes
      0x07 ∷ 0x05 ∷ 0x81 ∷ 0x02 ∷ 0x00 ∷ 0x02 ∷ 0x00 ∷ []);
  speed = High;
  first = [];
  transfer = λ held t. if is_in_endpoint t.ep then given_back held t.wanted else taken_in held t.body;
  packet = λ held ep. None;
}
