-- An item as the code has it, and what the reader of its packet has made sure of.
use Rattle.std.specs.Prelude.{◌≡◌, ◌<◌, ◌≤◌, ℕ, false, length, Option, Some, None}
use Rattle.usbip_urb.specs.ClientPackets.{IsClientPacket}
use Rattle.redir_wire.specs.declared.packet.Caps.{Caps}
use Rattle.redir_wire.specs.declared.packet.Header.{Header}
use Rattle.redir_wire.specs.declared.packet.Way.TheVariants.{ToGuest}
use Rattle.redir_wire.specs.declared.packet.RedirControl.TheVariants as plain
use Rattle.redir_wire.specs.Header.{IdFits}
use Rattle.redir_data.specs.declared.packet.RedirPacket.{RedirPacket}
use Rattle.redir_data.specs.declared.packet.RedirPacket.TheVariants.{Plain}
use Rattle.redir_wire.specs.declared.kind.TheConstants.{FIRST_DATA}
use Rattle.redir_data.specs.Spelling.{data_count}
use Rattle.gate_history.specs.declared.item.Item.{Item}
use Rattle.gate_history.specs.declared.item.Item.TheVariants.{Asked, ClientWrong, ClientLeft, Told, HostWrong, HostLeft}
use Rattle.usb_base.specs.Number.{capped}
use Rattle.gate_history.specs.state.Flight.{wide_ids}
use Rattle.gate_history.specs.host.Responses.{Response, Data, Status, response_of}

abbrev pub IsItem : Item → Item → Type 0
IsItem (Asked place packet) x = (at : ℕ) × (place ≡ capped at) × (x ≡ Asked at packet)
IsItem (ClientWrong place reason) x = (at : ℕ) × (place ≡ capped at) × (x ≡ ClientWrong at reason)
IsItem ClientLeft x = x ≡ ClientLeft
IsItem (Told place header packet) x = (at : ℕ) × (place ≡ capped at) × (x ≡ Told at header packet)
IsItem (HostWrong place reason) x = (at : ℕ) × (place ≡ capped at) × (x ≡ HostWrong at reason)
IsItem HostLeft x = x ≡ HostLeft

-- an answer's type is that of its form, and its data are there
abbrev pub ResponseFits : ℕ → Option Response → Type 0
ResponseFits kind None = Unit {0}
ResponseFits kind (Some (Status status value)) = kind < FIRST_DATA
ResponseFits kind (Some (Data endpoint length_place o)) = (FIRST_DATA ≤ kind) × (length o.body ≡ data_count ToGuest endpoint o.done)

-- ids have 32 bits before the hello
abbrev pub HelloFits : Caps → RedirPacket → Type 0
HelloFits caps (Plain (plain.Hello hello)) = wide_ids caps ≡ false
HelloFits caps _ = Unit {0}

pub record ToldFits (caps : Caps) (h : Header) (p : RedirPacket) : Type 0 where
  pub id_fits : IdFits (wide_ids caps) h.id
  pub response : ResponseFits h.kind (response_of p)
  pub hello : HelloFits caps p

-- as its reader gives it
abbrev pub ItemFits : Caps → Item → Type 0
ItemFits caps (Asked place packet) = IsClientPacket packet
ItemFits caps (Told place header packet) = ToldFits caps header packet
ItemFits caps _ = Unit {0}
