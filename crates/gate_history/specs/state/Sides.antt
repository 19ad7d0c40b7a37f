-- Where both sides stand: what is agreed, imported, lost, over. Only this file says which effects these are.
use Rattle.std.specs.Option.{option_map_or}
use Rattle.std.specs.Prelude.{ℕ, Bool, true, false, not, ◌||◌, if◌then◌else◌, List, Option, Some, None, unwrap_or}
use Rattle.usb_base.specs.declared.side.Side.{Side}
use Rattle.usb_base.specs.declared.side.Side.TheVariants.{Client, Host}
use Rattle.usb_base.specs.declared.reason.Reason.{Reason}
use Rattle.usb_base.specs.declared.refusal.Refusal.{Refusal}
use Rattle.redir_wire.specs.declared.packet.Caps.{Caps}
use Rattle.redir_wire.specs.Capability.{no_caps}
use Rattle.usb_base.specs.Number.{capped}
use Rattle.packet_stream.specs.Folds.{rfold}
use Rattle.gate_history.specs.declared.sides.Sides.{Sides}
use Rattle.gate_history.specs.step.Marks.{Effect, Imports, Agrees, Disconnects, Ends, Refuses, Mark}

-- ---- of one effect

abbrev pub refusal : Side → ℕ → Reason → Refusal
refusal side place reason = record { side = side; place = capped place; reason = reason; kept = None }

-- where it refuses a side
abbrev pub refused_at : Effect → Option Refusal
refused_at (Refuses r) = Some r
refused_at _ = None

abbrev pub is_client : Side → Bool
is_client Client = true
is_client Host = false

abbrev pub refuses_client : Effect → Bool
refuses_client e = option_map_or (λ r. is_client r.side) (refused_at e) false

abbrev pub ends_client : Effect → Bool
ends_client (Ends side) = is_client side
ends_client _ = false

abbrev pub imports : Effect → Bool
imports (Imports reply) = true
imports _ = false

-- the client is gone from here on
abbrev pub leaves : Effect → Bool
leaves e = ends_client e || refuses_client e

-- nothing more is read of the host
abbrev pub closes_host : Effect → Bool
closes_host (Ends side) = not (is_client side)
closes_host (Refuses r) = not (is_client r.side)
closes_host _ = false

-- the device is lost
abbrev pub is_loss : Effect → Bool
is_loss (Disconnects id) = true
is_loss e = closes_host e

abbrev pub agrees : Effect → Option Caps
agrees (Agrees caps) = Some caps
agrees _ = None

-- ---- of a past

-- of the effects that start it and those that stop it, the last that came starts it
abbrev pub turned : (Effect → Bool) → (Effect → Bool) → Effect → Bool → Bool
turned starts stops e before = if starts e then true else (if stops e then false else before)

-- nothing has come
abbrev pub no_sides : Sides
no_sides = record { agreed = no_caps; imported = false; lost = false; client_over = false; host_over = false }

-- the present client has imported the device where its import succeeded, and it isn't gone; the device is lost where no
-- import came after its loss; and a client is over from its refusal until its end, after which the next one may come
abbrev pub sides_after : Effect → Sides → Sides
sides_after e s = record {
  agreed = unwrap_or (agrees e) s.agreed;
  imported = turned imports leaves e s.imported;
  lost = turned is_loss imports e s.lost;
  client_over = turned refuses_client ends_client e s.client_over;
  host_over = turned closes_host (λ e. false) e s.host_over;
}

abbrev pub sides : List Mark → Sides
sides ms = rfold (λ s m. sides_after m.what s) no_sides ms

-- nothing more is read of the client, or of the host
abbrev pub client_over : List Mark → Bool
client_over ms = (sides ms).client_over

abbrev pub host_over : List Mark → Bool
host_over ms = (sides ms).host_over
