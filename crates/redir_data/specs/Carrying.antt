-- The packets that move data.
use Rattle.std.specs.Prelude.{◌+◌, ◌==◌, not, Bool, [], ◌∷◌, length}
use Rattle.usb_base.specs.declared.reason.Reason.{Reason}
use Rattle.usb_base.specs.declared.reason.Reason.TheVariants.{DataLength}
use Rattle.usb_base.specs.Number.{byte_at}
use Rattle.packet_stream.specs.Format.{Format}
use Rattle.redir_wire.specs.declared.packet.Caps.{Caps}
use Rattle.redir_wire.specs.declared.state.RedirState.{RedirState}
use Rattle.redir_wire.specs.declared.packet.Way.{Way}
use Rattle.redir_wire.specs.declared.packet.Header.{Header}
use Rattle.redir_wire.specs.declared.kind.DataKind.{DataKind}
use Rattle.redir_wire.specs.declared.kind.DataKind.TheVariants.{Control, Bulk, Iso, Interrupt}
use Rattle.redir_wire.specs.Table.{data_row}
use Rattle.redir_wire.specs.Bodies.{BodyCheck, Bodies, packets}
use Rattle.redir_wire.specs.Plain.{is_plain}
use Rattle.redir_data.specs.declared.packet.RedirData.{RedirData}
use Rattle.redir_data.specs.Spelling.{data_count, form_of, fields, number_of}
use Rattle.redir_data.specs.Ranges.{IsData}
use Rattle.redir_data.specs.Places.{fixed, length_place, told_length, data_at}

-- the header announces the fixed fields and the data that the length tells, where data are to stand
abbrev pub data_check : Caps → Way → DataKind → BodyCheck
data_check caps way kind = record {
  place = length_place kind;
  needed = fixed caps kind;
  tried = λ number. number == (data_row kind).number;
  passes = λ h b. h.length == fixed caps kind + data_count way (byte_at 0 b) (told_length caps kind b);
  reason = DataLength;
}

abbrev pub transfers : Caps → Way → Bodies RedirData
transfers caps way = record {
  owns = λ number. not (is_plain number);
  checks = data_check caps way Iso ∷ data_check caps way Interrupt ∷ data_check caps way Bulk ∷ data_check caps way Control ∷ [];
  fields = data_at caps;
  number = number_of;
  spelling = fields caps;
  Fits = IsData caps way;
}

abbrev pub carrying : RedirState → Way → Format (Header × RedirData) Reason
carrying s way = packets (transfers s.caps way) s way

-- data take memory
abbrev pub has_data : RedirData → Bool
has_data d = not (length (form_of d).body == 0)
