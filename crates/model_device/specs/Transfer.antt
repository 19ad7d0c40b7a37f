-- The transfers that a device is asked for, and what may come of one.
use Rattle.std.specs.Prelude.{◌≡◌, ◌≤◌, Bool, true, false, [], length, is_some, IfSome}
use Rattle.std.specs.Option.{option_map_or}
use Rattle.usb_base.specs.Endpoint.{IsEndpoint, is_control, is_in_endpoint}
use Rattle.usb_base.specs.Setup.{is_in_setup}
use Rattle.usb_base.specs.declared.transfer.Transfer.{Transfer}
use Rattle.usb_base.specs.declared.transfer.Outcome.{Outcome}
use Rattle.control_route.specs.Routes.{route_of}
use Rattle.control_route.specs.Changes.{is_change}

-- a transfer has a setup exactly on endpoint 0, and there the setup's direction; from the device it has no body, and
-- to the device it wants just its body
pub record IsTransfer (t : Transfer) : Type 0 where
  pub address : IsEndpoint t.ep
  pub has_setup : is_some t.setup ≡ is_control t.ep
  pub direction : IfSome t.setup (λ r. is_in_setup r ≡ is_in_endpoint t.ep)
  pub from_device : is_in_endpoint t.ep ≡ true → t.body ≡ []
  pub to_device : is_in_endpoint t.ep ≡ false → t.wanted ≡ length t.body

-- what comes of it is no more than it wants; from the device as many bytes as are given, and to the device no bytes
pub record IsOutcome (t : Transfer) (o : Outcome) : Type 0 where
  pub done : o.done ≤ t.wanted
  pub from_device : is_in_endpoint t.ep ≡ true → o.done ≡ length o.body
  pub to_device : is_in_endpoint t.ep ≡ false → o.body ≡ []

-- whether it asks for a change: a configuration, an alternate setting, or a reset of the port
abbrev pub asks_change : Transfer → Bool
asks_change t = option_map_or (λ r. is_change (route_of r)) t.setup false
