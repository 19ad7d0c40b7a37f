-- The simulation: what a gateway and a modelled device do between two wires of bytes is what the device attached
-- directly does.
use Rattle.std.specs.Prelude.{◌≡◌, not, Bool, true, false, if◌then◌else◌, List, [], ◌∷◌, ◌++◌, map, Some}
use Rattle.std.specs.List.{flat_map, list_any}
use Rattle.usb_base.specs.declared.refusal.Refusal.{Refusal}
use Rattle.usbip_op.specs.declared.packet.OpPacket.{OpPacket}
use Rattle.usbip_op.specs.declared.packet.OpPacket.TheVariants as op
use Rattle.usbip_urb.specs.declared.client.ClientPacket.{ClientPacket}
use Rattle.usbip_urb.specs.declared.client.ClientPacket.TheVariants.{Op, Urb}
use Rattle.usbip_urb.specs.declared.packet.UrbPacket.{UrbPacket}
use Rattle.model_device.specs.Meaning.{Meaning}
use Rattle.redir_host.specs.step.History.{history as host_history}
use Rattle.redir_host.specs.step.Machine.{all_given, is_refusal, notes_of as host_notes_of}
use Rattle.gate_history.specs.write.All.{all_of}
use Rattle.gate_history.specs.step.History.{history}
use Rattle.gate_history.specs.write.Notes.{notes_of}
use Rattle.gate_history.specs.state.Sides.{is_client}
use Rattle.direct_run.specs.declared.item.Item.{Item}
use Rattle.direct_run.specs.declared.item.Item.TheVariants as item
use Rattle.direct_run.specs.Clients.{present}
use Rattle.gate_history.specs.write.Refusals.{refusal_in}
use Rattle.direct_run.specs.Steps.{PastStep, Unplug}
use Rattle.direct_run.specs.Trace.{told_by}
use Rattle.direct_run.specs.World.{Course, course, first_id}
use Rattle.direct_device.specs.Acting.{Deed, Import, act, answers}
use Rattle.direct_device.specs.Direct.{Direct, first_direct}
use Rattle.direct_proof.specs.Steps.{AreDirectSteps}

-- ---- to the present client

-- the reply to an import that succeeded
abbrev pub is_import : OpPacket → Bool
is_import (op.RepImport status (Some device)) = true
is_import _ = false

-- the answers that the items behind the last import give; those before it gave `said`
abbrev pub since_import : {S : Type 0} → Meaning S → Direct S → List UrbPacket → List Deed → List UrbPacket
since_import m d said [] = said
since_import m d said (Import ∷ xs) = since_import m (act m d Import) [] xs
since_import m d said (x ∷ xs) = since_import m (act m d x) (said ++ answers m d x) xs

-- replies to its list and import requests, and then the answers that the items behind its import give; without an
-- import its replies alone
pub record RepliesFirst {S : Type 0} (m : Meaning S) (s : S) (deeds : List Deed) (packets : List ClientPacket) : Type 0 where
  pub replies : List OpPacket
  pub answers : List UrbPacket
  pub packets-are : packets ≡ map Op replies ++ map Urb answers
  pub answers-are : answers ≡ (if list_any is_import replies then since_import m (first_direct s) [] deeds else [])

-- ---- neither side refuses the other

abbrev pub refuses_host : Refusal → Bool
refuses_host r = not (is_client r.side)

abbrev pub GateRefusesNone : Course → Type 0
GateRefusesNone c = list_any refuses_host (flat_map refusal_in (all_of notes_of first_id (history first_id c.events))) ≡ false

abbrev pub HostRefusesNone : {S : Type 0} → Meaning S → S → Course → Type 0
HostRefusesNone m s c = list_any is_refusal (all_given host_notes_of m s (host_history c.acts)) ≡ false

-- ---- behind the unplugging

abbrev pub is_unplug : PastStep → Bool
is_unplug Unplug = true
is_unplug _ = false

-- the device has performed something, or sent it
abbrev pub is_of_device : Item → Bool
is_of_device (item.Perform ep seqnum) = true
is_of_device (item.Offer ep) = true
is_of_device _ = false

-- no step behind an unplugging tells so; lists of steps have the latest first
abbrev pub QuietBehindUnplug : {S : Type 0} → Meaning S → S → List PastStep → Type 0
QuietBehindUnplug m s [] = Unit {0}
QuietBehindUnplug m s (x ∷ steps) = (list_any is_unplug steps ≡ true → list_any is_of_device (told_by m s (course m s steps) x).items ≡ false) × QuietBehindUnplug m s steps

-- ---- all together

pub record Simulates {S : Type 0} (m : Meaning S) (s : S) (steps : List PastStep) : Type 0 where
  -- what was told is a legal trace of the device attached directly, and clients were sent its answers
  pub direct : AreDirectSteps m s steps
  -- the present client was sent its replies, and then its answers
  pub replies_first : RepliesFirst m s direct.deeds (present (course m s steps).events)
  pub host_refuses : HostRefusesNone m s (course m s steps)
  pub gate_refuses : GateRefusesNone (course m s steps)
  pub unplugged : QuietBehindUnplug m s steps
