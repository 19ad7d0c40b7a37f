-- The history of a host: the items that its acts bring, in the order in which packets become whole.
use Rattle.std.specs.Prelude.{List, [], ◌∷◌, ◌++◌}
use Rattle.packet_stream.specs.Items.{added, onto}
use Rattle.redir_host.specs.guest.Guest.{guest_items}
use Rattle.redir_host.specs.step.Acts.{Act, Piece, Perform, Offer, Unplug, guest_bytes}
use Rattle.redir_host.specs.step.Items.{Item, Asked, Wrong, Performs, Offers, Unplugs}

abbrev pub brought : List Act → Act → List Item
brought acts (Piece b) = added guest_items (guest_bytes acts) b
brought acts (Perform ep) = Performs ep ∷ []
brought acts (Offer ep) = Offers ep ∷ []
brought acts Unplug = Unplugs ∷ []

-- all that came, the latest first
abbrev pub history : List Act → List Item
history [] = []
history (a ∷ acts) = onto (brought acts a) (history acts)

-- what the guest brought, the earliest first
abbrev pub of_guest : List Item → List Item
of_guest [] = []
of_guest (Asked id packet ∷ xs) = of_guest xs ++ Asked id packet ∷ []
of_guest (Wrong place reason ∷ xs) = of_guest xs ++ Wrong place reason ∷ []
of_guest (_ ∷ xs) = of_guest xs
