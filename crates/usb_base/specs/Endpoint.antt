-- Endpoints: which bytes are addresses, their places in a table, and the table (USB 2.0, 9.6.6).
use Rattle.std.specs.Prelude.{ℕ, ◌-◌, ◌%◌, ◌<◌, ◌==◌, nat_lt, not, Bool, true, false, if◌then◌else◌, List, [], ◌∷◌, replicate, get_or}
use Rattle.usb_base.specs.declared.endpoint.EpKind.{EpKind}
use Rattle.usb_base.specs.declared.endpoint.EpKind.TheVariants.{Control, Iso, Bulk, Interrupt, Invalid}
use Rattle.usb_base.specs.declared.endpoint.EpRow.{EpRow}
use Rattle.usb_base.specs.declared.endpoint.EpTable.{EpTable}
use Rattle.usb_base.specs.declared.endpoint.TheConstants.{ENDPOINTS}

-- bits 4 to 6 are all 0: the byte is n or 128 + n, with n below 16
abbrev pub IsEndpoint : ℕ → Type 0
IsEndpoint byte = byte % 128 < 16

-- the same as a test
abbrev pub is_address : ℕ → Bool
is_address byte = nat_lt (byte % 128) 16

-- endpoint 0, in either direction
abbrev pub is_control : ℕ → Bool
is_control ep = ep % 128 == 0

-- bit 7 says that data go from the device to the host
abbrev pub is_in_endpoint : ℕ → Bool
is_in_endpoint byte = not (nat_lt byte 128)

-- n for OUT endpoint n, and 16 + n for IN endpoint n, whose byte is 128 + n
abbrev pub endpoint_index : ℕ → ℕ
endpoint_index byte = if nat_lt byte 128 then byte else byte - 112

-- all endpoints in order: those to the device with endpoint 0, and those from it but for 0
abbrev pub out_endpoints : List ℕ
out_endpoints = 0 ∷ 1 ∷ 2 ∷ 3 ∷ 4 ∷ 5 ∷ 6 ∷ 7 ∷ 8 ∷ 9 ∷ 10 ∷ 11 ∷ 12 ∷ 13 ∷ 14 ∷ 15 ∷ []

abbrev pub in_endpoints : List ℕ
in_endpoints = 129 ∷ 130 ∷ 131 ∷ 132 ∷ 133 ∷ 134 ∷ 135 ∷ 136 ∷ 137 ∷ 138 ∷ 139 ∷ 140 ∷ 141 ∷ 142 ∷ 143 ∷ []

-- the kind that a byte of a usbredir ep_info tells, and the byte that tells a kind
abbrev pub kind_of_byte : ℕ → EpKind
kind_of_byte byte = if byte == 0 then Control else if byte == 1 then Iso else if byte == 2 then Bulk else if byte == 3 then Interrupt else Invalid

abbrev pub byte_of_kind : EpKind → ℕ
byte_of_kind Control = 0
byte_of_kind Iso = 1
byte_of_kind Bulk = 2
byte_of_kind Interrupt = 3
byte_of_kind Invalid = 255

abbrev pub is_iso : EpKind → Bool
is_iso Iso = true
is_iso _ = false

abbrev pub no_endpoint : EpRow
no_endpoint = record { kind = Invalid; interval = 0; interface = 0; max_packet = 0 }

abbrev pub no_endpoints : EpTable
no_endpoints = record { rows = replicate ENDPOINTS no_endpoint }

-- the row of an endpoint's address
abbrev pub row_of : EpTable → ℕ → EpRow
row_of t ep = get_or t.rows (endpoint_index ep) no_endpoint
