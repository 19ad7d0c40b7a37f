-- What a gate's events send, and which sides they refuse: what its history says.
use Rattle.std.specs.Prelude.{ℕ, Bool, true, false, List, ◌∷◌, Option, Some, None}
use Rattle.std.specs.List.{filter_map, flat_map, list_any}
use Rattle.usb_base.specs.declared.side.Side.TheVariants.{Client, Host}
use Rattle.gate_history.specs.declared.note.Note.{Note}
use Rattle.gate_history.specs.declared.note.Note.TheVariants as note
use Rattle.gate_history.specs.step.Events.{PastEvent}
use Rattle.gate_history.specs.step.Events as gate
use Rattle.gate_history.specs.step.History.{history}
use Rattle.gate_history.specs.write.Notes.{notes_of}
use Rattle.gate_history.specs.write.All.{all_of}
use Rattle.gate_history.specs.write.Refusals.{refusal_in}
use Rattle.gate_history.specs.write.Bytes.{out_client, out_host}
use Rattle.bridge_run.specs.events.Events.{PastLinkEvent, SidePiece, SideEnd}
use Rattle.bridge_run.specs.events.Prescribed.{Prescribed, gained}
use Rattle.bridge_serve.specs.declared.served.after_loss.AfterLoss.{AfterLoss}
use Rattle.bridge_serve.specs.declared.served.after_loss.AfterLoss.TheVariants.{Close}

-- what an event is to a gate: that a client has come, or is quiet, is none
abbrev pub gate_event : PastLinkEvent → Option PastEvent
gate_event (SidePiece Client b) = Some (gate.ClientPiece b)
gate_event (SideEnd Client) = Some gate.ClientEnd
gate_event (SidePiece Host b) = Some (gate.HostPiece b)
gate_event (SideEnd Host) = Some gate.HostEnd
gate_event e = None

abbrev pub gate_events : List PastLinkEvent → List PastEvent
gate_events events = filter_map gate_event events

-- all notes of these events, the earliest first
abbrev pub gate_notes : ℕ → List PastLinkEvent → List Note
gate_notes first events = all_of notes_of first (history first (gate_events events))

-- the imported device is lost
abbrev pub is_loss : Note → Bool
is_loss note.DeviceGone = true
is_loss _ = false

-- behind the latest event the client is let go where that loses its device, unless such a client is kept
abbrev pub lets_go : AfterLoss → ℕ → List PastLinkEvent → Bool
lets_go Close first (e ∷ events) = list_any is_loss (gained (gate_notes first) events e)
lets_go after first events = false

-- the ids of its packets begin with the first id
abbrev pub gate_sends : AfterLoss → ℕ → Prescribed
gate_sends after first = record {
  to_client = λ events. out_client first (history first (gate_events events));
  to_host = λ events. out_host first (history first (gate_events events));
  refusals = λ events. flat_map refusal_in (gate_notes first events);
  lets_go = λ events. lets_go after first events;
}
