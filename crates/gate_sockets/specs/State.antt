-- What is known of a connection: itself, as far as its calls tell, and what was read ahead of the polls.
use Rattle.std.specs.Prelude.{ℕ, Bool, true, false, List, [], Option, Some, None, is_some}
use Rattle.usb_base.specs.declared.side.Side.{Side}
use Rattle.usb_base.specs.declared.side.Side.TheVariants.{Client, Host}
use Rattle.gate_outside.specs.Faults.{one_more}
use Rattle.gate_outside.specs.Link.{Link, Door}

pub record State (S : Type 0) : Type 0 where
  -- the connection, while there is one
  pub stream : Option S
  -- the bytes that were read ahead of the polls that give them
  pub ahead : List ℕ
  -- whether the link has broken, so that what is written to it is lost
  pub broken : Bool
  -- how many polls from now on may pass the link over, since a read of it had to wait or took all that was there
  pub rests : ℕ
  -- how often a call failed
  pub faults : ℕ
  -- how often there was nothing yet
  pub idle : ℕ

pub record States (S D : Type 0) : Type 0 where
  pub client : State S
  pub host : State S
  -- the clients' door, once it is made
  pub door : Option D

abbrev pub state_of : {S D : Type 0} → States S D → Side → State S
state_of states Client = states.client
state_of states Host = states.host

abbrev pub fresh : {S : Type 0} → State S
fresh = record { stream = None; ahead = []; broken = false; rests = 0; faults = 0; idle = 0 }

abbrev pub opened : {S : Type 0} → S → State S → State S
opened stream state = record state { stream = Some stream; ahead = []; broken = false; rests = 0 }

abbrev pub closed : {S : Type 0} → State S → State S
closed state = record state { stream = None; ahead = []; broken = false; rests = 0 }

abbrev pub broke : {S : Type 0} → State S → State S
broke state = record state { broken = true }

abbrev pub faulted : {S : Type 0} → State S → State S
faulted state = record state { faults = one_more state.faults }

abbrev pub idled : {S : Type 0} → State S → State S
idled state = record state { idle = one_more state.idle }

-- a connection tells neither what is to come nor what was written
abbrev pub untold : {S : Type 0} → State S → Link
untold state = record { up = is_some state.stream; turns = None; written = None; faults = state.faults; idle = state.idle }

abbrev pub link_of : {S D : Type 0} → States S D → Side → Link
link_of states side = untold (state_of states side)

abbrev pub door_of : {S D : Type 0} → States S D → Door
door_of states = record { made = is_some states.door; to_come = None }
