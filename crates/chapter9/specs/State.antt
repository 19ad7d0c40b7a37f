-- The state of a device, and its halts, one bit for each endpoint (USB 2.0, 9.4.5).
use Rattle.std.specs.Prelude.{ℕ, ◌^◌, ◌==◌, Bool, not, bit_and, bit_or}
use Rattle.std.specs.Int.{bit_at, bit_not, w32}
use Rattle.usb_base.specs.Endpoint.{endpoint_index}
use Rattle.chapter9.specs.declared.state.DevState.{DevState}

abbrev pub unconfigured : DevState
unconfigured = record { configuration = 0; alt = 0; halted = 0 }

abbrev pub is_configured : DevState → Bool
is_configured s = not (s.configuration == 0)

abbrev pub halted_bit : DevState → ℕ → ℕ
halted_bit s ep = bit_at s.halted (endpoint_index ep)

abbrev pub is_halted : DevState → ℕ → Bool
is_halted s ep = halted_bit s ep == 1

abbrev pub with_halt : DevState → ℕ → DevState
with_halt s ep = record s { halted = bit_or s.halted (2 ^ endpoint_index ep) }

abbrev pub cleared : DevState → ℕ → DevState
cleared s ep = record s { halted = bit_and s.halted (bit_not w32 (2 ^ endpoint_index ep)) }
