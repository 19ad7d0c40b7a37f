-- What a host core keeps, as plain data.
use Rattle.std.specs.Prelude.{Bool}
use Rattle.packet_stream.specs.Streams.{StreamView as Stream}
use Rattle.redir_host.specs.declared.state.host.Host.{Host}
use Rattle.redir_wire.specs.declared.state.RedirState.{RedirState}

pub record HostKept (S : Type 0) : Type 0 where
  -- the guest's bytes that are no whole packet yet
  pub stream : Stream RedirState
  -- the device, and what its guest has asked of it
  pub host : Host S
  -- memory ran out in an earlier call
  pub failed : Bool
