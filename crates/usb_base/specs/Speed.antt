-- Speeds in both protocols: the byte of a usbredir device_connect, and the number of a USB/IP device row.
use Rattle.std.specs.Prelude.{ℕ, ◌==◌, if◌then◌else◌}
use Rattle.usb_base.specs.declared.speed.Speed.{Speed}
use Rattle.usb_base.specs.declared.speed.Speed.TheVariants.{Unknown, Low, Full, High, Super}

abbrev pub speed_of : ℕ → Speed
speed_of byte = if byte == 0 then Low else if byte == 1 then Full else if byte == 2 then High else if byte == 3 then Super else Unknown

-- that byte, and that number
abbrev pub speed_row : Speed → ℕ × ℕ
speed_row Unknown = (255, 0)
speed_row Low = (0, 1)
speed_row Full = (1, 2)
speed_row High = (2, 3)
speed_row Super = (3, 5)

abbrev pub redir_speed : Speed → ℕ
redir_speed speed = (speed_row speed).0

abbrev pub usbip_speed : Speed → ℕ
usbip_speed speed = (speed_row speed).1
