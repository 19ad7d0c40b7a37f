-- What the events of a modelled device send that is lent to a guest, and which they refuse: the guest is the client,
-- and what is done with the device's host goes by the events.
use Rattle.std.specs.Prelude.{ℕ, not, Bool, true, false, if◌then◌else◌, List, [], ◌∷◌, ◌++◌, None}
use Rattle.std.specs.List.{flat_map, list_any}
use Rattle.usb_base.specs.declared.side.Side.TheVariants.{Client}
use Rattle.usb_base.specs.Endpoint.{in_endpoints, out_endpoints}
use Rattle.usb_base.specs.declared.refusal.Refusal.{Refusal}
use Rattle.usb_base.specs.Lists.{is_empty}
use Rattle.model_device.specs.Meaning.{Meaning}
use Rattle.redir_host.specs.declared.write.note.HostNote.{HostNote}
use Rattle.redir_host.specs.declared.write.note.HostNote.TheVariants as note
use Rattle.redir_host.specs.step.Acts.{Act, Piece, Perform, Offer}
use Rattle.redir_host.specs.write.Output.{host_out, act_notes}
use Rattle.bridge_run.specs.events.Events.{PastLinkEvent, ClientComes, ClientQuiet, SidePiece}
use Rattle.bridge_run.specs.events.Prescribed.{Prescribed}

-- ---- what is done with the device in a round

-- an act of each endpoint in turn, the latest first
abbrev pub each : (ℕ → Act) → List ℕ → List Act → List Act
each act [] acts = acts
each act (ep ∷ eps) acts = each act eps (act ep ∷ acts)

-- each endpoint's first request is performed, and then each IN endpoint may send a packet of its stream
unfoldable pub used : List Act → List Act
used acts = each Offer in_endpoints (each Perform in_endpoints (each Perform out_endpoints acts))

-- ---- what an event is to the device's host

abbrev pub refusal_in : HostNote → List Refusal
refusal_in (note.Refused place reason) = record { side = Client; place = place; reason = reason; kept = None } ∷ []
refusal_in (note.Cancelled id) = []

abbrev pub refused_by : {S : Type 0} → Meaning S → S → List Act → PastLinkEvent → List Refusal
refused_by m s acts (SidePiece Client b) = flat_map refusal_in (act_notes m s acts (Piece b))
refused_by m s acts e = []

-- the acts behind an event: where a piece of the guest's bytes is refused, nothing more is done
abbrev pub acts_behind : {S : Type 0} → Meaning S → S → List Act → PastLinkEvent → List Act
acts_behind m s acts (SidePiece Client b) = if not (is_empty (refused_by m s acts (SidePiece Client b))) then Piece b ∷ acts else used (Piece b ∷ acts)
acts_behind m s acts ClientQuiet = used acts
acts_behind m s acts e = acts

-- all acts of these events, the latest first
abbrev pub acts_of : {S : Type 0} → Meaning S → S → List PastLinkEvent → List Act
acts_of m s [] = []
acts_of m s (e ∷ events) = acts_behind m s (acts_of m s events) e

-- ---- what is sent

abbrev pub is_coming : PastLinkEvent → Bool
is_coming ClientComes = true
is_coming e = false

abbrev pub has_come : List PastLinkEvent → Bool
has_come events = list_any is_coming events

-- once the guest has come, all that the host has sent, from its hello on
abbrev pub lent_bytes : {S : Type 0} → Meaning S → S → List PastLinkEvent → List ℕ
lent_bytes m s events = if has_come events then host_out m s (acts_of m s events) else []

abbrev pub lent_refusals : {S : Type 0} → Meaning S → S → List PastLinkEvent → List Refusal
lent_refusals m s [] = []
lent_refusals m s (e ∷ events) = lent_refusals m s events ++ refused_by m s (acts_of m s events) e

abbrev pub lent_sends : {S : Type 0} → Meaning S → S → Prescribed
lent_sends m s = record {
  to_client = λ events. lent_bytes m s events;
  to_host = λ events. [];
  refusals = λ events. lent_refusals m s events;
  lets_go = λ events. false;
}
