-- What the code needs of a row, so that what it computes of one stays in range.
use Rattle.std.specs.Prelude.{◌<◌, IfSome}
use Rattle.redir_wire.specs.declared.kind.TypeRow.{TypeRow}

-- the lengths of a row are small
pub record IsSmall (r : TypeRow) : Type 0 where
  pub more : IfSome r.more (λ m. m.bytes < 100)
  pub fixed : r.fixed < 200
