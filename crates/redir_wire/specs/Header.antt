-- The header of a packet ("usb_redir_header"), and the checks that it is one.
use Rattle.std.specs.Prelude.{◌≡◌, ℕ, ◌<◌, ◌^◌, Bool, true, false, ◌==◌, ◌&&◌, ◌||◌, not, if◌then◌else◌, nat_le, List, [], ◌∷◌, ◌++◌, length, is_some, None}
use Rattle.std.specs.Int.{Width, w32, w64}
use Rattle.std.specs.Option.{option_map_or}
use Rattle.usb_base.specs.declared.reason.Reason.{Reason}
use Rattle.usb_base.specs.declared.reason.Reason.TheVariants.{HelloFirst, UnknownType, NotAgreed, WrongWay, BadLength, TooLong26}
use Rattle.usb_base.specs.Number.{le, le_at}
use Rattle.packet_stream.specs.Format.{Check, check, wrong_at, Format}
use Rattle.redir_wire.specs.declared.packet.Caps.{Caps}
use Rattle.redir_wire.specs.declared.state.RedirState.{RedirState}
use Rattle.redir_wire.specs.declared.packet.Way.{Way}
use Rattle.redir_wire.specs.declared.packet.Header.{Header}
use Rattle.redir_wire.specs.declared.header.TheConstants.{MAX_LENGTH}
use Rattle.redir_wire.specs.declared.kind.TheConstants.{HELLO}
use Rattle.redir_wire.specs.declared.kind.TypeRow.{TypeRow}
use Rattle.redir_wire.specs.State.{is_wide}
use Rattle.redir_wire.specs.Table.{row_of, kind_numbered, is_left_out, goes, has_wanted, has_length}

-- ---- its bytes

abbrev pub head_size : Bool → ℕ
head_size wide = if wide then 16 else 12

abbrev pub id_width : Bool → Width
id_width wide = if wide then w64 else w32

abbrev pub head_bytes : Bool → Header → List ℕ
head_bytes wide h = le w32 h.kind ++ le w32 h.length ++ le (id_width wide) h.id

abbrev pub header_at : Bool → List ℕ → Header
header_at wide b = record { kind = le_at w32 0 b; length = le_at w32 4 b; id = le_at (id_width wide) 8 b }

abbrev pub IdFits : Bool → ℕ → Type 0
IdFits true id = id < 2 ^ 64
IdFits false id = id < 2 ^ 32

-- ---- its checks

-- what the row of this number says, if there is one
abbrev pub row_says : (TypeRow → Bool) → ℕ → Bool
row_says test number = option_map_or (λ k. test (row_of k)) (kind_numbered number) false

abbrev pub is_its_length : Caps → ℕ → ℕ → Bool
is_its_length caps number length = row_says (λ r. has_length caps r length) number

-- a check of the number of the packet's type
abbrev pub type_check : Reason → (ℕ → Bool) → Check Reason
type_check reason passes = check 0 4 reason (λ b. passes (le_at w32 0 b))

-- the greatest length is a transfer of 16 MiB and 64 bytes more, which is room for the fields of any data packet
abbrev pub head_checks : RedirState → Way → List (Check Reason)
head_checks s way =
    type_check HelloFirst (λ number. if s.first then number == HELLO else not (number == HELLO))
    ∷ type_check UnknownType (λ number. is_left_out number || is_some (kind_numbered number))
    ∷ type_check NotAgreed (λ number. not (is_left_out number) && row_says (has_wanted s.caps) number)
    ∷ type_check WrongWay (row_says (goes way))
    ∷ check 4 8 TooLong26 (λ b. nat_le (le_at w32 4 b) MAX_LENGTH)
    ∷ check 4 8 BadLength (λ b. is_its_length s.caps (le_at w32 0 b) (le_at w32 4 b))
    ∷ []

-- ---- what a header is

-- its bytes pass the checks, and its fields are numbers of their widths
pub record IsHeader (s : RedirState) (way : Way) (h : Header) : Type 0 where
  pub right : wrong_at (head_checks s way) (head_bytes (is_wide s) h) ≡ None
  pub kind_fits : h.kind < 2 ^ 32
  pub length_fits : h.length < 2 ^ 32
  pub id_fits : IdFits (is_wide s) h.id

-- the headers of a stream, which a packet's bytes begin with
abbrev pub headers : RedirState → Way → Format Header Reason
headers s way = record {
  checks = head_checks s way;
  size = λ b. head_size (is_wide s);
  packet = header_at (is_wide s);
  spelling = head_bytes (is_wide s);
  Fits = IsHeader s way;
}
