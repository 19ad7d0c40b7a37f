-- A device that only sends: at each offer of its IN endpoint 1 the next of its packets.
use Rattle.std.specs.Prelude.{ℕ, ◌+◌, ◌%◌, ◌==◌, List, Some, None, if◌then◌else◌}
use Rattle.usb_base.specs.declared.speed.Speed.TheVariants.{Full}
use Rattle.usb_base.specs.declared.status.UsbStatus.TheVariants.{Success}
use Rattle.chapter9.specs.Standard.{stall}
use Rattle.chapter9.specs.declared.standard_requests.DescriptorSet.{DescriptorSet}
use Rattle.model_device.specs.Device.{Device}

-- what is kept is the number of packets sent since the last change that succeeded, modulo `count`
abbrev pub in_turn : ℕ → (ℕ → List ℕ) → DescriptorSet → Device ℕ
in_turn count body_of set = record {
  set = set;
  speed = Full;
  first = 0;
  transfer = λ offers t. Some (offers, stall);
  packet = λ offers ep. if ep == 0x81 then Some ((offers + 1) % count, record { status = Success; body = body_of offers }) else None;
}
