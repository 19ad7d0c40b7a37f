-- How far the two have met, from the hellos to the loss of the device.
use Rattle.std.specs.Prelude.{◌≡◌, ◌||◌, Bool, true, false, List, [], ◌∷◌, is_some, ◌⊎◌}
use Rattle.std.specs.List.{list_any}
use Rattle.gate_history.specs.write.Bytes.{gateway_hello}
use Rattle.direct_run.specs.Moves.{World}
use Rattle.direct_run.specs.Packets.{both_caps}
use Rattle.direct_proof.specs.Shared.{Shared}
use Rattle.direct_proof.specs.Tagged.{Bye, Greeted, Plugged, Tagged}

-- the device's end
abbrev pub is_bye : Tagged → Bool
is_bye Bye = true
is_bye _ = false

abbrev pub is_greeting : Tagged → Bool
is_greeting Greeted = true
is_greeting _ = false

abbrev pub is_plug : Tagged → Bool
is_plug (Plugged c) = true
is_plug _ = false

-- the gateway knows of the device, or its host has told of it. An unplugging before that is never told
abbrev pub is_announced : {S : Type 0} → World S → Shared → Bool
is_announced w j = is_some w.gate.facts.connect || list_any is_plug j.back

-- the end is the last of what comes
abbrev pub ByeLast : List Tagged → Type 0
ByeLast [] = Unit {0}
ByeLast (b ∷ bs) = (is_bye b ≡ true → bs ≡ []) × ByeLast bs

-- the device is told of once, behind the greeting
abbrev pub PlugOnce : List Tagged → Type 0
PlugOnce [] = Unit {0}
PlugOnce (b ∷ bs) = (is_plug b ≡ true → (list_any is_greeting bs ≡ false) × (list_any is_plug bs ≡ false)) × PlugOnce bs

-- before the gateway's hello is read nothing but the two hellos is on a wire, and the host has nothing to do
abbrev pub Early : {S : Type 0} → World S → Shared → Type 0
Early w j = record {
  back : (j.back ≡ Greeted ∷ []) ⊎ (j.back ≡ []);
  wire : w.to_host ≡ (0, gateway_hello) ∷ [];
  held : j.held ≡ [];
  half : j.half ≡ false;
  running : w.host.running ≡ [];
}

-- how far the two have met: the host has read the gateway's hello, the gateway the host's, and it was told of the
-- device
abbrev pub Meets : {S : Type 0} → World S → Shared → Type 0
Meets w j = record {
  host : w.host.guest.first ≡ false → w.host.guest.caps ≡ both_caps;
  gate : list_any is_greeting j.back ≡ false → w.gate.sides.agreed ≡ both_caps;
  -- behind the gateway's hello the host has told of the device, unless that was unplugged
  announced : w.host.guest.first ≡ false → w.host.unplugged ≡ false → is_announced w j ≡ true;
  behind : is_some w.gate.facts.connect ≡ true → (list_any is_greeting j.back ≡ false) × (list_any is_plug j.back ≡ false) × (w.host.guest.first ≡ false);
  once : PlugOnce j.back;
  plugged : list_any is_plug j.back ≡ true → w.host.guest.first ≡ false;
  no_session : w.gate.sides.imported ≡ true → w.gate.sides.lost ≡ false → is_some w.gate.facts.connect ≡ true;
}
