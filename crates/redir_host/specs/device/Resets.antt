-- What the calls owe that a device is always ready for.
use Rattle.std.specs.Prelude.{◌≡◌, List, ℕ, Option, Some, None}
use Rattle.usb_base.specs.declared.transfer.Outcome.{Outcome}
use Rattle.control_route.specs.declared.route.Route.TheVariants as route
use Rattle.model_device.specs.Meaning.{Meaning}
use Rattle.redir_host.specs.declared.state.host.Host.{Host}
use Rattle.redir_host.specs.guest.Asking.{routed}
use Rattle.redir_host.specs.step.Makes.{Tells}
use Rattle.redir_host.specs.step.Moves.{Move}

-- the device was reset
pub record ResetsTo {S : Type 0} (m : Meaning S) (old new : Host S) (o : Outcome) : Type 0 where
  pub performed : m.perform old.gadget (routed route.Reset) ≡ Some (new.gadget, o)
  pub rest : new ≡ record old { gadget = new.gadget }

abbrev pub PerformsNow : {S : Type 0} → Option (Move S) → Host S → List ℕ → List ℕ → Type 0
PerformsNow None new old_out new_out = ⊥
PerformsNow (Some v) new old_out new_out = Tells v new old_out new_out
