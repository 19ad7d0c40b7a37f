-- How many bytes a field has that is sent only with a capability.
use Rattle.std.specs.Prelude.{ℕ, Bool, true, false}

abbrev pub sent_bytes : Bool → ℕ → ℕ
sent_bytes true n = n
sent_bytes false n = 0
