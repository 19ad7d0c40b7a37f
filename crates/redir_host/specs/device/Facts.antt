-- What a host tells of its device ("usb_redir_device_connect", "usb_redir_interface_info", "usb_redir_ep_info").
use Rattle.std.specs.Prelude.{ℕ, zero, suc, if◌then◌else◌, List, [], ◌∷◌, ◌++◌, get_or}
use Rattle.usb_base.specs.Endpoint.{byte_of_kind, no_endpoint}
use Rattle.usb_base.specs.declared.endpoint.EpRow.{EpRow}
use Rattle.usb_base.specs.declared.endpoint.EpTable.{EpTable}
use Rattle.usb_base.specs.declared.endpoint.TheConstants.{ENDPOINTS}
use Rattle.redir_wire.specs.declared.packet.Caps.{Caps}
use Rattle.redir_wire.specs.declared.packet.Connect.{Connect}
use Rattle.redir_wire.specs.declared.packet.EpInfo.{EpInfo}
use Rattle.redir_wire.specs.declared.packet.RedirControl.TheVariants as plain
use Rattle.redir_wire.specs.declared.packet.TheConstants.Caps.{CONNECT_VERSION, MAX_PACKET_SIZE}
use Rattle.redir_wire.specs.Capability.{has}
use Rattle.redir_data.specs.declared.packet.RedirPacket.{RedirPacket}
use Rattle.redir_data.specs.declared.packet.RedirPacket.TheVariants.{Plain}
use Rattle.model_device.specs.Meaning.{Meaning}

-- what each of the first n rows has
unfoldable pub column : (EpRow → ℕ) → EpTable → ℕ → List ℕ
column f t zero = []
column f t (suc n) = column f t n ++ f (get_or t.rows n no_endpoint) ∷ []

-- `usb_redir_cap_ep_info_max_packet_size`: the largest packets, 0 where they aren't sent
abbrev pub ep_info_of : Caps → EpTable → EpInfo
ep_info_of caps t = record {
  kinds = column (λ r. byte_of_kind r.kind) t ENDPOINTS;
  interval = column (λ r. r.interval) t ENDPOINTS;
  interface = column (λ r. r.interface) t ENDPOINTS;
  max_packet = column (λ r. if has caps MAX_PACKET_SIZE then r.max_packet else 0) t ENDPOINTS;
}

-- `usb_redir_cap_connect_device_version`: the device's release, 0 where it isn't sent
abbrev pub connect_of : Caps → Connect → Connect
connect_of caps c = if has caps CONNECT_VERSION then c else record c { version = 0 }

-- the endpoints and the interfaces as they are now, with id 0
abbrev pub facts_of : {S : Type 0} → Caps → Meaning S → S → List (ℕ × RedirPacket)
facts_of caps m s = (0, Plain (plain.EpInfo (ep_info_of caps (m.table s)))) ∷ (0, Plain (plain.InterfaceInfo (m.interfaces s))) ∷ []
