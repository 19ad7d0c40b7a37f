-- What is written is read again.
use Rattle.std.proofs.Common.{◌≡◌, ℕ, true, List, ◌++◌, length, refl, sym, ◌∙◌, arith}
use Rattle.std.specs.Prelude.{nat_le, not, ◌==◌}
use Rattle.std.proofs.lemmas.Bool.{le-leb}
use Rattle.packet_stream.specs.Format.{Whole, reading}
use Rattle.packet_stream.proofs.Formats.{read_again}
use Rattle.redir_wire.specs.declared.packet.Caps.{Caps}
use Rattle.redir_wire.specs.declared.packet.Way.{Way}
use Rattle.redir_wire.specs.declared.packet.RedirControl.{RedirControl}
use Rattle.redir_wire.specs.declared.kind.Kind.TheVariants.{Carrying as CarryingKind}
use Rattle.redir_wire.specs.declared.kind.DataKind.{DataKind}
use Rattle.redir_wire.specs.declared.kind.DataKind.TheVariants.{Control}
use Rattle.redir_wire.specs.Table.{plain_row, data_row, has_length, has_wanted, goes}
use Rattle.redir_wire.specs.State.{later}
use Rattle.redir_wire.specs.Bodies.{IsPacket}
use Rattle.redir_wire.specs.Spelling as wire
use Rattle.redir_wire.specs.Ranges as wire_ranges
use Rattle.redir_wire.specs.Written as wire_written
use Rattle.redir_wire.proofs.Numbers.{says, known, number_fits, agreed_by}
use Rattle.redir_wire.proofs.Says.{is_header}
use Rattle.redir_wire.proofs.Plain.{packet_written}
use Rattle.redir_data.specs.declared.packet.RedirData.{RedirData}
use Rattle.redir_data.specs.declared.packet.RedirPacket.TheVariants.{Plain, Carrying}
use Rattle.redir_data.specs.Spelling.{form_of, size_of, header_of}
use Rattle.redir_data.specs.Ranges.{Ranges}
use Rattle.redir_data.specs.Places.{fixed}
use Rattle.redir_data.specs.Carrying.{transfers}
use Rattle.redir_data.specs.Packets.{redir_packets}
use Rattle.redir_data.specs.Written.{CanWrite, packet_bytes}
use Rattle.redir_data.specs.sound.Fields.{length_fields}
use Rattle.redir_data.specs.sound.Joined.{redir_sound}

-- what the table says of each type that moves data
always_agreed : (caps : Caps) (k : DataKind) → has_wanted caps (data_row k) ≡ true
always_agreed caps Control = refl
always_agreed caps k = refl

both_ways : (way : Way) (k : DataKind) → goes way (data_row k) ≡ true
both_ways way Control = refl
both_ways way k = refl

length_says : (caps : Caps) (k : DataKind) (n : ℕ) → has_length caps (data_row k) n ≡ nat_le (fixed caps k) n
length_says caps Control n = refl
length_says caps k n = refl

not_first : (k : DataKind) → not ((data_row k).number == 0) ≡ true
not_first Control = refl
not_first k = refl

pub data_written : (way : Way) (caps : Caps) (id : ℕ) (d : RedirData) → Ranges d → CanWrite id way caps d → IsPacket (transfers caps way) (later caps) way (header_of id caps d, d)
data_written way caps id d ranges can =
    let k = (form_of d).kind in
    let kind = CarryingKind k in
    record {
      header = is_header (later caps) way (header_of id caps d) (record {
        in_turn = not_first k;
        known = known kind;
        agreed = agreed_by caps kind (has_wanted caps) (always_agreed caps k);
        on_its_way = says (goes way) kind ∙ both_ways way k;
        in_limit = le-leb (size_of caps d) 16777280 can.in_limit;
        its_length = says (λ r. has_length caps r (size_of caps d)) kind ∙ length_says caps k (size_of caps d) ∙ le-leb (fixed caps k) (size_of caps d) (omega arith);
        kind_fits = number_fits kind;
        id_fits = can.id_fits;
      });
      kind = refl;
      length_is = sym (length_fields caps d);
      fits = record { ranges = ranges; length_fits = can.length_fits; data_there = can.data_there };
    }

pub data_again : (way : Way) (caps : Caps) (id : ℕ) (d : RedirData) (more : List ℕ) → Ranges d → CanWrite id way caps d →
    reading (redir_packets (later caps) way) (packet_bytes id caps d ++ more) ≡ Whole (header_of id caps d, Carrying d) (length (packet_bytes id caps d))
data_again way caps id d more ranges can =
    read_again (redir_packets (later caps) way) (redir_sound (later caps) way) (header_of id caps d, Carrying d) more (data_written way caps id d ranges can)

pub control_again : (way : Way) (caps : Caps) (id : ℕ) (p : RedirControl) (more : List ℕ) → wire_ranges.Ranges p → wire_written.CanWrite id caps p → goes way (plain_row (wire.kind_of p)) ≡ true →
    reading (redir_packets (wire_written.state_before caps p) way) (wire_written.packet_bytes id caps p ++ more) ≡ Whole (wire.header_of id caps p, Plain p) (length (wire_written.packet_bytes id caps p))
control_again way caps id p more ranges can goes_so =
    read_again (redir_packets (wire_written.state_before caps p) way) (redir_sound (wire_written.state_before caps p) way) (wire.header_of id caps p, Plain p) more (packet_written way caps id p ranges can goes_so)
