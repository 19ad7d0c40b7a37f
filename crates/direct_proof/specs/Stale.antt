-- What on the wire to the gateway is of no use any more, and what ends it.
use Rattle.std.specs.Prelude.{◌≡◌, ℕ, ◌==◌, ◌||◌, Bool, true, false, List, [], ◌∷◌, Option, Some, None}
use Rattle.std.specs.List.{list_any}
use Rattle.redir_wire.specs.declared.packet.RedirControl.TheVariants as plain
use Rattle.redir_data.specs.declared.packet.RedirPacket.{RedirPacket}
use Rattle.redir_data.specs.declared.packet.RedirPacket.TheVariants.{Plain}
use Rattle.gate_history.specs.client.Verdict.{changes}
use Rattle.direct_proof.specs.Tagged.{Answered, Packed, Plugged, Stated, Tagged, ToldFaces, ToldTable}

abbrev pub is_fence : Option ℕ → ℕ → Bool
is_fence None id = false
is_fence (Some fence) id = fence == id

-- what a stream that quits has behind it on the wire to the host: a change, or the fence's stop
abbrev pub asks : Option ℕ → ℕ × RedirPacket → Bool
asks fence (id, Plain (plain.SetConfiguration configuration)) = true
asks fence (id, Plain (plain.SetAlt interface alt)) = true
asks fence (id, Plain plain.Reset) = true
asks fence (id, Plain (plain.StopIso ep)) = is_fence fence id
asks fence (id, Plain (plain.StopInterrupt ep)) = is_fence fence id
asks fence _ = false

-- the end of what is stale, on the wire to the gateway: a change's answer, the fence's status, or the device's coming
abbrev pub ends : Option ℕ → Tagged → Bool
ends fence (Answered c) = changes c.load.verdict
ends fence (Stated k id ep status) = is_fence fence id
ends fence (Plugged c) = true
ends fence _ = false

-- facts, and packets and statuses of a stream that is down
abbrev pub is_stale : (ℕ → Bool) → Tagged → Bool
is_stale down (ToldTable t) = true
is_stale down (ToldFaces i) = true
is_stale down (Packed k ep p) = down ep
is_stale down (Stated k id ep status) = down ep
is_stale down _ = false

-- each of these has an end behind it, on the wire or still to come, or is one
abbrev pub Clean : Option ℕ → (ℕ → Bool) → Bool → List Tagged → Type 0
Clean fence down pending [] = Unit {0}
Clean fence down pending (b ∷ bs) = (is_stale down b ≡ true → (pending || list_any (ends fence) (b ∷ bs)) ≡ true) × Clean fence down pending bs
