-- A system's own struct as what it keeps.
use Rattle.std.specs.Prelude.{is_some}
use Rattle.direct_system.specs.declared.inner.Inner.{Inner}
use Rattle.direct_system.specs.Kept.{SystemKept}

-- without its allocator
abbrev pub kept_of : {S : Type 0} → Inner S → SystemKept S
kept_of k = record { gate = k.gate; host = k.host; to_host = k.to_host; to_gate = k.to_gate; trace = k.trace; submits = k.submits; failed = is_some k.want }
