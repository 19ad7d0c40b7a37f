-- What the reader behind a header finds.
use Rattle.std.proofs.Common.{◌≡◌, ℕ, true, false, Some, None, refl, arith}
use Rattle.std.proofs.lemmas.Grind.{common_steps}
use Rattle.redir_wire.specs.declared.packet.Caps.{Caps}
use Rattle.redir_wire.specs.declared.packet.Header.{Header}
use Rattle.redir_wire.specs.declared.kind.PlainKind.{PlainKind}
use Rattle.redir_wire.specs.Table.{plain_row, plain_numbered, data_numbered, has_length}
use Rattle.redir_wire.specs.Header.{is_its_length}
use Rattle.redir_wire.specs.Plain.{is_plain}

-- ---- what the number of a header says

pub no_data : (n : ℕ) → is_plain n ≡ true → data_numbered n ≡ None
unfolding data_numbered
no_data n e = grind (arith, common_steps)

pub length_by : (caps : Caps) (h : Header) (k : PlainKind) → plain_numbered h.kind ≡ Some k → is_its_length caps h.kind h.length ≡ has_length caps (plain_row k) h.length
length_by caps h k e = rw e refl

pub is_numbered : (caps : Caps) (h : Header) → is_plain h.kind ≡ true → is_its_length caps h.kind h.length ≡ true → plain_numbered h.kind ≡ None → ⊥
is_numbered caps h plain its none = let e = no_data h.kind plain in let f : false ≡ true = rw (none, e) at its in absurd cc
