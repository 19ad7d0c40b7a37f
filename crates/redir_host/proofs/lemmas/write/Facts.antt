-- What a host tells of its device can be written, by whatever capabilities are agreed.
use Rattle.std.proofs.Common.{◌≡◌, ℕ, ◌≤◌, Bool, true, false, cond, length, replicate, refl, sym, ap, arith, lit<}
use Rattle.usb_base.specs.Endpoint.{is_in_endpoint}
use Rattle.usb_base.specs.declared.transfer.StreamPacket.{StreamPacket}
use Rattle.usb_base.specs.declared.endpoint.EpTable.{EpTable}
use Rattle.redir_wire.specs.declared.packet.Caps.{Caps}
use Rattle.redir_wire.specs.declared.packet.Connect.{Connect}
use Rattle.redir_wire.specs.declared.packet.InterfaceInfo.{InterfaceInfo}
use Rattle.redir_wire.specs.declared.packet.RedirControl.TheVariants as plain
use Rattle.redir_wire.specs.declared.packet.TheConstants.Caps.{CONNECT_VERSION, MAX_PACKET_SIZE, WIDE_IDS}
use Rattle.redir_wire.specs.Capability.{has}
use Rattle.redir_wire.specs.Header.{IdFits}
use Rattle.redir_wire.specs.Ranges.{IsSent}
use Rattle.redir_wire.specs.Written.{CanWrite}
use Rattle.redir_data.specs.declared.stream_kind.StreamKind.{StreamKind}
use Rattle.redir_data.specs.declared.stream_kind.StreamKind.TheVariants.{Iso, Interrupt}
use Rattle.model_device.specs.declared.gadget.TheConstants.{MAX_STREAM_PACKET}
use Rattle.redir_host.specs.device.Facts.{column, ep_info_of, connect_of}
use Rattle.redir_host.specs.device.Offering.{stream_packet}
use Rattle.redir_host.specs.state.Sound.{CanTell}

-- 0 is an id of either width
pub no_id : (wide : Bool) → IdFits wide 0
no_id true = lit< tt
no_id false = lit< tt

no_sizes : (t : EpTable) (b : Bool) → IsSent b (replicate 32 0) (column (λ r. cond b r.max_packet 0) t 32)
unfolding column
no_sizes t true = tt
no_sizes t false = refl

pub ep_info : (caps : Caps) (t : EpTable) → CanWrite 0 caps (plain.EpInfo (ep_info_of caps t))
ep_info caps t = record { agreed = refl; id_fits = no_id (has caps WIDE_IDS); writable = no_sizes t (has caps MAX_PACKET_SIZE) }

pub interface_info : (caps : Caps) (i : InterfaceInfo) → i.count ≤ 32 → CanWrite 0 caps (plain.InterfaceInfo i)
interface_info caps i few = record { agreed = refl; id_fits = no_id (has caps WIDE_IDS); writable = few }

no_version : (c : Connect) (b : Bool) → IsSent b 0 (cond b c (record c { version = 0 })).version
no_version c true = tt
no_version c false = refl

pub connect : (caps : Caps) (c : Connect) → CanWrite 0 caps (plain.Connect (connect_of caps c))
connect caps c = record { agreed = refl; id_fits = no_id (has caps WIDE_IDS); writable = no_version c (has caps CONNECT_VERSION) }

-- ---- packets of streams

pub stream_told : (caps : Caps) (k : StreamKind) (ep : ℕ) (p : StreamPacket) → is_in_endpoint ep ≡ true → length p.body ≤ MAX_STREAM_PACKET → CanTell caps 0 (stream_packet k ep p).1
stream_told caps Iso ep p way few = record { id_fits = no_id (has caps WIDE_IDS); length_fits = tt; data_there = sym (ap (λ (b : Bool). cond b (length p.body) 0) way); in_limit = omega arith }
stream_told caps Interrupt ep p way few = record { id_fits = no_id (has caps WIDE_IDS); length_fits = tt; data_there = sym (ap (λ (b : Bool). cond b (length p.body) 0) way); in_limit = omega arith }
