-- The streams that still run at the host behind a change.
use Rattle.std.proofs.Common.{◌≡◌, ℕ, ◌||◌, Bool, true, false, cond, List, [], ◌∷◌, filter, Option, refl}
use Rattle.std.specs.List.{list_any, AllByRecursion as Each}
use Rattle.std.proofs.lemmas.Bool.{both_ways, or_parts}
use Rattle.usb_base.specs.declared.endpoint.EpTable.{EpTable}
use Rattle.control_route.specs.declared.route.Route.{Route}
use Rattle.redir_host.specs.declared.state.running.Running.{Running}
use Rattle.redir_host.specs.guest.Packets.{runs_at}
use Rattle.redir_host.specs.device.Changes.{runs_on}
use Rattle.gate_history.proofs.lemmas.Lists.{Each-filter}
use Rattle.direct_proof.specs.Running.{Quits}
use Rattle.direct_proof.proofs.performs.Flushes.{quits-low}
use Rattle.direct_proof.proofs.performs.Flushing.{still_running}
use Rattle.redir_data.specs.declared.packet.RedirPacket.{RedirPacket}

fewer : (r : Route) (table : EpTable) (k : ℕ) (rs : List Running) → list_any (runs_at k) rs ≡ false → list_any (runs_at k) (filter (runs_on r table) rs) ≡ false
fewer r table k [] h = refl
fewer r table k (x ∷ rs) h = let p = or_parts (runs_at k x) (list_any (runs_at k) rs) h in on (runs_on r table x) p.0 (fewer r table k rs p.1)
  where
    on : (b : Bool) → runs_at k x ≡ false → list_any (runs_at k) (filter (runs_on r table) rs) ≡ false → list_any (runs_at k) (cond b (x ∷ filter (runs_on r table) rs) (filter (runs_on r table) rs)) ≡ false
    on true z y = λ i. z i || y i
    on false z y = y

-- a stream that quits does so earlier
pub quits-still : (success : Bool) (r : Route) (table : EpTable) (fence : Option ℕ) (k : ℕ) (rs : List Running) (wire : List (ℕ × RedirPacket)) → Quits fence k (list_any (runs_at k) rs) wire → Quits fence k (list_any (runs_at k) (still_running success r table rs)) wire
quits-still false r table fence k rs wire h = h
quits-still true r table fence k rs wire h = inner (list_any (runs_at k) (filter (runs_on r table) rs)) (list_any (runs_at k) rs) refl refl h
  where
    inner : (a b : Bool) → list_any (runs_at k) (filter (runs_on r table) rs) ≡ a → list_any (runs_at k) rs ≡ b → Quits fence k b wire → Quits fence k a wire
    inner false b z y g = quits-low fence k b wire g
    inner true true z y g = g
    inner true false z y g = absurd (both_ways (list_any (runs_at k) (filter (runs_on r table) rs)) (fewer r table k rs y) z)

pub each-still : (P : Running → Type 0) (success : Bool) (r : Route) (table : EpTable) (rs : List Running) → Each P rs → Each P (still_running success r table rs)
each-still P true r table rs h = Each-filter P (runs_on r table) rs h
each-still P false r table rs h = h
