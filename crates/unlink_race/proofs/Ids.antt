-- A request to read a list's places with.
use Rattle.std.proofs.Common.{[], false, None}
use Rattle.unlink_race.specs.declared.live.Live.{Live}
use Rattle.usb_base.specs.declared.endpoint.EpKind.TheVariants.{Bulk}
use Rattle.unlink_race.specs.declared.live.LiveKind.TheVariants.{Wire}

abbrev pub no_live : Live
no_live = record { seqnum = 0; id = 0; kind = Wire 0 Bulk; is_in = false; wanted = 0; flags = 0; packets = 0; descs = []; unlinker = None }
