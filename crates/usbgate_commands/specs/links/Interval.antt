-- How often the endpoints of a device have something to give, in microseconds (USB 2.0, table 9-13).
use Rattle.std.specs.Prelude.{◌-◌, ◌*◌, ◌^◌, ◌&&◌, nat_lt, if◌then◌else◌, ℕ, min, List, [], ◌∷◌, Option, None, Some}
use Rattle.usb_base.specs.declared.speed.Speed.{Speed}
use Rattle.usb_base.specs.declared.speed.Speed.TheVariants.{High, Super}
use Rattle.usb_base.specs.declared.endpoint.EpKind.{EpKind}
use Rattle.usb_base.specs.declared.endpoint.EpKind.TheVariants.{Iso, Interrupt}
use Rattle.usb_base.specs.Endpoint.{is_in_endpoint}
use Rattle.chapter9.specs.declared.part.Part.{Part}
use Rattle.chapter9.specs.declared.part.Part.TheVariants.{Endpoint}
use Rattle.usbgate_commands.specs.declared.links.interval.TheConstants.{FRAME, MICROFRAME}

-- a unit of time, doubled once less than the interval says, which is from 1 to 16
abbrev pub doubled : ℕ → ℕ → Option ℕ
doubled unit n = if nat_lt 0 n && nat_lt n 17 then Some (unit * 2 ^ (n - 1)) else None

-- so many frames
abbrev pub frames : ℕ → Option ℕ
frames n = if nat_lt 0 n then Some (FRAME * n) else None

-- at high speed and above intervals are powers of two in microframes
abbrev pub in_microframes : EpKind → ℕ → Option ℕ
in_microframes Interrupt n = doubled MICROFRAME n
in_microframes Iso n = doubled MICROFRAME n
in_microframes _ n = None

-- at full and low speed they are in frames, of an isochronous endpoint as a power of two
abbrev pub in_frames : EpKind → ℕ → Option ℕ
in_frames Interrupt n = frames n
in_frames Iso n = doubled FRAME n
in_frames _ n = None

abbrev pub micros : Speed → EpKind → ℕ → Option ℕ
micros High kind n = in_microframes kind n
micros Super kind n = in_microframes kind n
micros _ kind n = in_frames kind n

-- the interval of a descriptor of an IN endpoint
abbrev pub part_micros : Speed → Part → Option ℕ
part_micros speed (Endpoint ep kind max_packet interval) = if is_in_endpoint ep then micros speed kind interval else None
part_micros speed part = None

abbrev pub shorter : Option ℕ → Option ℕ → Option ℕ
shorter None b = b
shorter (Some a) None = Some a
shorter (Some a) (Some b) = Some (min a b)

-- the shortest of the intervals of a device's descriptors
abbrev pub shortest : Speed → List Part → Option ℕ
shortest speed [] = None
shortest speed (part ∷ parts) = shorter (part_micros speed part) (shortest speed parts)
