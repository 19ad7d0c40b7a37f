-- A host core's own struct as what it keeps.
use Rattle.std.specs.Prelude.{is_some}
use Rattle.redir_host.specs.declared.step.inner.Inner.{Inner}
use Rattle.redir_host.specs.state.Kept.{HostKept}

-- without its allocator
abbrev pub kept_of : {S : Type 0} → Inner S → HostKept S
kept_of k = record { stream = k.stream; host = k.host; failed = is_some k.want }
