-- Interrupt requests over the packets that are held: which packets fill one, and what it gets (USB 2.0, 5.7.3: a
-- packet that is shorter than the largest ends a transfer).
use Rattle.std.specs.Prelude.{ℕ, ◌+◌, ◌==◌, ◌||◌, not, nat_le, nat_lt, Bool, if◌then◌else◌, List, [], length, take, drop, get_or, Option}
use Rattle.std.specs.Option.{option_map}
use Rattle.std.specs.List.{flat_map}
use Rattle.usb_base.specs.declared.status.UsbStatus.{UsbStatus}
use Rattle.usb_base.specs.declared.status.UsbStatus.TheVariants.{Success, Babble}
use Rattle.usb_base.specs.Status.{is_success}
use Rattle.usb_base.specs.declared.transfer.Outcome.{Outcome}
use Rattle.usb_base.specs.declared.transfer.StreamPacket.{StreamPacket}
use Rattle.stream_buffers.specs.Cuts.{Cut}
use Rattle.stream_buffers.specs.Least.{least_below}

-- ---- which packets

-- it ends the transfer, however many bytes are wanted; where the largest packet has 0 bytes, each does
abbrev pub ends : ℕ → StreamPacket → Bool
ends max_packet p = not (is_success p.status) || nat_lt (length p.body) max_packet || (max_packet == 0)

-- packet k, the first being packet 0
abbrev pub packet_at : List StreamPacket → ℕ → StreamPacket
packet_at packets k = get_or packets k (record { status = Success; body = [] })

abbrev pub bodies : List StreamPacket → List ℕ
bodies packets = flat_map (λ p. p.body) packets

-- the bodies of the packets up to packet k
abbrev pub bodies_to : ℕ → List StreamPacket → List ℕ
bodies_to k packets = bodies (take (k + 1) packets)

-- the packets up to packet k fill the request
abbrev pub fills : ℕ → ℕ → List StreamPacket → ℕ → Bool
fills max_packet wanted packets k = ends max_packet (packet_at packets k) || nat_le wanted (length (bodies_to k packets))

-- the least of them
abbrev pub last_of : ℕ → ℕ → List StreamPacket → Option ℕ
last_of max_packet wanted packets = least_below (fills max_packet wanted packets) (length packets)

-- ---- what it gets

-- of a request that so many bytes came for, the last packet with this status
abbrev pub fitting_status : (wanted came : ℕ) → UsbStatus → UsbStatus
fitting_status wanted came Success = if nat_lt wanted came then Babble else Success
fitting_status wanted came status = status

-- what fits of the packets up to packet k
abbrev pub interrupt_cut_at : ℕ → List StreamPacket → ℕ → Cut Outcome
interrupt_cut_at wanted packets k = record {
  gives = record {
    status = fitting_status wanted (length (bodies_to k packets)) (packet_at packets k).status;
    done = length (take wanted (bodies_to k packets));
    body = take wanted (bodies_to k packets);
  };
  leaves = drop (k + 1) packets;
}

abbrev pub interrupt_cut : ℕ → ℕ → List StreamPacket → Option (Cut Outcome)
interrupt_cut max_packet wanted packets = option_map (interrupt_cut_at wanted packets) (last_of max_packet wanted packets)
