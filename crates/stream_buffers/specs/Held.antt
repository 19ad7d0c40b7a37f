-- A stream that is up: the row that its endpoint had when it went up, and what it holds.
use Rattle.std.specs.Prelude.{ℕ, nat_le, Bool, if◌then◌else◌, List, [], ◌∷◌, ◌++◌, length}
use Rattle.stream_buffers.specs.declared.up.TheConstants.{MAX_HELD}
use Rattle.usb_base.specs.declared.endpoint.EpRow.{EpRow}
use Rattle.usb_base.specs.declared.transfer.StreamPacket.{StreamPacket}

pub record Up : Type 0 where
  pub ep : ℕ
  pub row : EpRow
  -- the packets that came and that no request took, the first that came first
  pub held : List StreamPacket

-- at most 1,024 are held
abbrev pub is_full : List StreamPacket → Bool
is_full packets = nat_le MAX_HELD (length packets)

-- a packet is put behind those that are held, and is lost where there is no room
abbrev pub receive : StreamPacket → List StreamPacket → List StreamPacket
receive p packets = if is_full packets then packets else packets ++ p ∷ []
