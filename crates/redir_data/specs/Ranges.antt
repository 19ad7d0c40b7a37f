-- Which fields a packet that moves data may have.
use Rattle.std.specs.Prelude.{◌≡◌, ◌<◌, ◌^◌, ℕ, Bool, true, false, length}
use Rattle.redir_wire.specs.declared.packet.Caps.{Caps}
use Rattle.redir_wire.specs.declared.packet.Way.{Way}
use Rattle.redir_wire.specs.declared.packet.TheConstants.Caps.{WIDE_BULK_LENGTH}
use Rattle.redir_wire.specs.Capability.{has}
use Rattle.redir_wire.specs.Field.{AreInRange}
use Rattle.redir_data.specs.declared.packet.RedirData.{RedirData}
use Rattle.redir_data.specs.declared.packet.RedirData.TheVariants as moving
use Rattle.redir_data.specs.Spelling.{form_of, data_count, fixed_of}

-- ---- what a sender keeps to, beside the ranges that the types of the code have

-- without wide bulk lengths (`usb_redir_cap_32bits_bulk_length`) that of a bulk packet has 16 bits
abbrev pub BulkLengthFits : Bool → ℕ → Type 0
BulkLengthFits true told = Unit {0}
BulkLengthFits false told = told < 2 ^ 16

abbrev pub LengthFits : Caps → RedirData → Type 0
LengthFits caps (moving.Bulk endpoint status told stream body) = BulkLengthFits (has caps WIDE_BULK_LENGTH) told
LengthFits caps _ = Unit {0}

-- data stand where their way asks for them, as many as the length tells
abbrev pub HasItsData : Way → RedirData → Type 0
HasItsData way d = length (form_of d).body ≡ data_count way (form_of d).endpoint (form_of d).told

-- ---- the ranges of the types

-- those of its fields, where all are there
abbrev pub Ranges : RedirData → Type 0
Ranges d = AreInRange (fixed_of true d)

pub record IsData (caps : Caps) (way : Way) (d : RedirData) : Type 0 where
  pub ranges : Ranges d
  pub length_fits : LengthFits caps d
  pub data_there : HasItsData way d
