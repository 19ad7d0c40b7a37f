-- How many bytes the fields have that a type always has, and the range of its length.
use Rattle.std.specs.Prelude.{ℕ, ◌+◌, ◌<◌, ◌^◌, Bool, if◌then◌else◌}
use Rattle.redir_wire.specs.declared.kind.DataKind.{DataKind}
use Rattle.redir_wire.specs.declared.kind.DataKind.TheVariants.{Control, Bulk, Iso, Interrupt}
use Rattle.redir_wire.specs.Table.{data_row}

abbrev pub least : DataKind → ℕ
least kind = (data_row kind).fixed

abbrev pub bulk_size : Bool → ℕ
bulk_size wide = 8 + (if wide then 2 else 0)

abbrev pub TellsLength : DataKind → ℕ → Type 0
TellsLength Bulk told = Unit {0}
TellsLength Control told = told < 2 ^ 16
TellsLength Iso told = told < 2 ^ 16
TellsLength Interrupt told = told < 2 ^ 16
