-- What is known of a course of steps that were done, and no meaning says.
use Rattle.std.specs.List.{flat_map, AllByRecursion}
use Rattle.usb_base.specs.Number.{AreBytes}
use Rattle.redir_wire.specs.declared.packet.Way.TheVariants.{ToGuest}
use Rattle.redir_data.specs.Sent.{CanBeRead}
use Rattle.gate_history.specs.write.Readable.{piece_bytes}
use Rattle.model_device.specs.Meaning.{Meaning}
use Rattle.redir_host.specs.step.Acts.{guest_bytes}
use Rattle.direct_run.specs.Packets.{both_caps, sent_by_host}
use Rattle.direct_run.specs.World.{Course}

pub record IsKnown {S : Type 0} (m : Meaning S) (s : S) (c : Course) : Type 0 where
  -- the facts of the device fit the fields of their packets, as all else that its host sends does
  pub read : AllByRecursion (CanBeRead ToGuest both_caps) (sent_by_host m s c)
  -- what came to the gateway and to the host are bytes
  pub bytes : AreBytes (flat_map piece_bytes c.events)
  pub heard : AreBytes (guest_bytes c.acts)
