-- What there is once a side.
use Rattle.usb_base.specs.declared.side.Side.{Side}
use Rattle.usb_base.specs.declared.side.Side.TheVariants.{Client, Host}
use Rattle.gate_sockets.specs.declared.both.Both.{Both}

abbrev pub of_side : {T : Type 0} → Both T → Side → T
of_side both Client = both.client
of_side both Host = both.host

abbrev pub with_side : {T : Type 0} → Both T → Side → T → Both T
with_side both Client x = record both { client = x }
with_side both Host x = record both { host = x }
