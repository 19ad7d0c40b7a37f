-- What notes tell: items, and the submits that were accepted.
use Rattle.std.specs.Prelude.{ℕ, ◌==◌, if◌then◌else◌, List, [], ◌∷◌, find, reverse}
use Rattle.std.specs.Option.{option_map_or}
use Rattle.gate_history.specs.declared.note.Note.{Note}
use Rattle.gate_history.specs.declared.note.Note.TheVariants as note
use Rattle.redir_host.specs.declared.write.note.HostNote.{HostNote}
use Rattle.redir_host.specs.declared.write.note.HostNote.TheVariants as host_note
use Rattle.redir_host.specs.declared.write.note.Performed.{Performed}
use Rattle.redir_host.specs.declared.write.note.Performed.TheVariants.{Done}
use Rattle.redir_host.specs.declared.write.note.Offered.{Offered}
use Rattle.redir_host.specs.declared.write.note.Offered.TheVariants as offered
use Rattle.direct_run.specs.declared.item.Item.{Item}
use Rattle.direct_run.specs.declared.item.Item.TheVariants as item
use Rattle.direct_run.specs.declared.submitted.Submitted.{Submitted}

-- ---- the gateway's notes

-- a refusal is told beside the items
abbrev pub item_of : Note → List Item
item_of note.Imported = item.Import ∷ []
item_of (note.Submitted seqnum id) = item.Submit seqnum ∷ []
item_of (note.UnlinkAsked by target) = item.Unlink by target ∷ []
item_of (note.Arrived ep) = item.Arrive ep ∷ []
item_of (note.Answered seqnum) = item.Answer seqnum ∷ []
item_of note.DeviceGone = item.Gone ∷ []
item_of note.ClientGone = item.ClientGone ∷ []
item_of (note.Refused refusal) = []

-- ---- ids and numbers

-- the submits that were accepted, with the ids of their packets
abbrev pub named : Note → List Submitted
named (note.Submitted seqnum id) = record { seqnum = seqnum; id = id } ∷ []
named _ = []

-- the number of the last of these that has this id
abbrev pub number_in : ℕ → List Submitted → ℕ
number_in id submits = option_map_or (λ x. x.seqnum) (find (λ x. x.id == id) (reverse submits)) 0

-- ---- what the host tells

abbrev pub item_of_host : List Submitted → HostNote → List Item
item_of_host submits (host_note.Cancelled id) = item.Cancel (number_in id submits) ∷ []
item_of_host submits (host_note.Refused place reason) = []

-- the address that names an endpoint's queue: endpoint 0 has one for both directions
abbrev pub queue_byte : ℕ → ℕ
queue_byte ep = if ep == 128 then 0 else ep

abbrev pub performed_item : List Submitted → ℕ → Performed → List Item
performed_item submits ep (Done id) = item.Perform (queue_byte ep) (number_in id submits) ∷ []
performed_item submits ep _ = []

abbrev pub offered_item : ℕ → Offered → List Item
offered_item ep offered.Sent = item.Offer ep ∷ []
offered_item ep _ = []
