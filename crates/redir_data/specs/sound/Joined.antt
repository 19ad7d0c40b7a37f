-- All packets are sound.
use Rattle.std.proofs.Common.{◌≡◌, ◌⊎◌, inl, inr, refl, ap, ◌∙◌}
use Rattle.std.proofs.lemmas.Bool.{not-true}
use Rattle.usb_base.proofs.Numbers.{le_at-append_32}
use Rattle.packet_stream.specs.Format.{IsSound}
use Rattle.packet_stream.proofs.Formats.{none_before}
use Rattle.packet_stream.proofs.Joins.{named, IsJoin, AreNames, joined_sound}
use Rattle.redir_wire.specs.declared.state.RedirState.{RedirState}
use Rattle.redir_wire.specs.declared.packet.Way.{Way}
use Rattle.redir_wire.specs.declared.packet.Header.{Header}
use Rattle.redir_wire.specs.declared.packet.RedirControl.{RedirControl}
use Rattle.redir_wire.specs.Plain.{is_plain, plain, controls}
use Rattle.redir_wire.proofs.Packets.{packets_steady, number_there}
use Rattle.redir_wire.proofs.Plain.{plain_owned, plain_bodies, plain_sound}
use Rattle.redir_data.specs.declared.packet.RedirData.{RedirData}
use Rattle.redir_data.specs.declared.packet.RedirPacket.{RedirPacket}
use Rattle.redir_data.specs.declared.packet.RedirPacket.TheVariants.{Plain, Carrying}
use Rattle.redir_data.specs.Spelling.{number_of}
use Rattle.redir_data.specs.Carrying.{transfers, carrying}
use Rattle.redir_data.specs.Packets.{begins_plain, from_packet, redir_packets}
use Rattle.redir_data.specs.Streams.{stream_format}
use Rattle.redir_data.specs.sound.Carrying.{data_owned, data_bodies, carrying_sound}

joins : (s : RedirState) (way : Way) → IsJoin 4 begins_plain (plain s way) (carrying s way)
joins s way = record {
  sees = λ b more there. ap is_plain (le_at-append_32 0 b more there);
  left_waits = λ b less. none_before (plain s way).checks 4 b (packets_steady (controls s.caps) s way (plain_bodies s way).steady) less;
  right_waits = λ b less. none_before (carrying s way).checks 4 b (packets_steady (transfers s.caps way) s way (data_bodies s way).steady) less;
  left = λ p more is. ap is_plain (number_there (controls s.caps) s way p more is) ∙ plain_owned p.1;
  right = λ p more is. ap is_plain (number_there (transfers s.caps way) s way p more is) ∙ not-true (is_plain (number_of p.1)) (data_owned p.1);
}

abbrev pub as_plain : Header × RedirControl → Header × RedirPacket
as_plain p = (p.0, Plain p.1)

abbrev pub as_carrying : Header × RedirData → Header × RedirPacket
as_carrying p = (p.0, Carrying p.1)

names : AreNames as_plain as_carrying from_packet
names = record { back = back; forth = forth }
  where
    back : (p : (Header × RedirControl) ⊎ (Header × RedirData)) → from_packet (named as_plain as_carrying p) ≡ p
    back (inl p) = refl
    back (inr p) = refl

    forth : (p : Header × RedirPacket) → named as_plain as_carrying (from_packet p) ≡ p
    forth (h, Plain p) = refl
    forth (h, Carrying p) = refl

pub redir_sound : (s : RedirState) (way : Way) → IsSound (redir_packets s way)
redir_sound s way =
    joined_sound 4 begins_plain as_plain as_carrying from_packet (plain s way) (carrying s way) names (plain_sound s way) (carrying_sound s way) (joins s way)

pub stream_sound : (way : Way) (s : RedirState) → IsSound (stream_format way s)
stream_sound way s = redir_sound s way
