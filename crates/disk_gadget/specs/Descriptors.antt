-- What the disk tells of itself, and what it is on endpoint 0 but for the two requests of its class.
use Rattle.std.specs.Prelude.{[], ◌∷◌, Some, None, codes}
use Rattle.usb_base.specs.declared.speed.Speed.TheVariants.{High}
use Rattle.chapter9.specs.declared.standard_requests.DescriptorSet.{DescriptorSet}
use Rattle.chapter9.specs.Standard.{stall}
use Rattle.model_device.specs.Device.{Device, set_of}
use Rattle.disk_gadget.specs.declared.stage.Course.{Course}
use Rattle.disk_gadget.specs.declared.stage.Stage.TheVariants.{Waits}

abbrev pub disk_set : DescriptorSet
disk_set =
    set_of 4 (codes "disk")
    -- interface 0 with two endpoints: mass storage, SCSI's transparent command set, bulk-only (4.3 of the transport)
    (0x09 ∷ 0x04 ∷ 0x00 ∷ 0x00 ∷ 0x02 ∷ 0x08 ∷ 0x06 ∷ 0x50 ∷ 0x00 ∷
    -- OUT endpoint 1: bulk, packets of 512 bytes
    0x07 ∷ 0x05 ∷ 0x01 ∷ 0x02 ∷ 0x00 ∷ 0x02 ∷ 0x00 ∷
    -- IN endpoint 1: bulk, packets of 512 bytes
    0x07 ∷ 0x05 ∷ 0x81 ∷ 0x02 ∷ 0x00 ∷ 0x02 ∷ 0x00 ∷ [])

-- a command wrapper is due, and nothing has failed
abbrev pub fresh : Course
fresh = record { stage = Waits; sense = None }

-- what it keeps beside its blocks begins anew after each change that succeeds; what its bulk endpoints do is in Turns
unfoldable pub described : Device Course
described = record {
  set = disk_set;
  speed = High;
  first = fresh;
  transfer = λ course t. Some (course, stall);
  packet = λ course ep. None;
}
