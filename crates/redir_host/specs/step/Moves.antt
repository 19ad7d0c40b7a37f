-- What an item makes of a host: its next state, the packets that go to the guest, each with its id, and the notes.
use Rattle.std.specs.Prelude.{ℕ, List, [], ◌∷◌, ◌++◌}
use Rattle.redir_data.specs.declared.packet.RedirPacket.{RedirPacket}
use Rattle.redir_host.specs.declared.state.host.Host.{Host}
use Rattle.redir_host.specs.declared.write.note.HostNote.{HostNote}

pub record Move (S : Type 0) : Type 0 where
  pub host : Host S
  pub sent : List (ℕ × RedirPacket)
  pub notes : List HostNote

-- nothing is sent
abbrev pub quiet : {S : Type 0} → Host S → Move S
quiet h = record { host = h; sent = []; notes = [] }

-- nothing but this packet is sent, and nothing else changes
abbrev pub replies : {S : Type 0} → Host S → ℕ × RedirPacket → Move S
replies h p = record { host = h; sent = p ∷ []; notes = [] }

-- and then this packet is sent
abbrev pub then_sends : {S : Type 0} → Move S → ℕ × RedirPacket → Move S
then_sends v p = record v { sent = v.sent ++ p ∷ [] }

-- first the one, then the other
abbrev pub behind : {S : Type 0} → Move S → Move S → Move S
behind v w = record { host = w.host; sent = v.sent ++ w.sent; notes = v.notes ++ w.notes }
