-- How the moves of a gateway and a modelled host on two wires are told as deeds, which are items that carry what their
-- submits ask.
use Rattle.std.specs.Prelude.{◌&&◌, not, Bool, if◌then◌else◌, List, [], ◌∷◌, ◌++◌, map, filter}
use Rattle.std.specs.List.{flat_map}
use Rattle.gate_history.specs.step.Marks.{Arrives, Effect, Imports, Mark, Unlinks}
use Rattle.gate_history.specs.write.Notes.{is_by_answer}
use Rattle.gate_history.specs.write.Output.{present}
use Rattle.gate_history.specs.state.Sides.{is_loss, leaves}
use Rattle.gate_history.specs.state.State.{State}
use Rattle.gate_history.specs.client.Submits.{opened}
use Rattle.gate_history.specs.client.Ends.{ends}
use Rattle.direct_run.specs.declared.item.Item.{Item}
use Rattle.direct_run.specs.declared.item.Item.TheVariants as item
use Rattle.direct_run.specs.Moves.{Telling}
use Rattle.direct_device.specs.Acting.{Answer, Arrive, Cancel, ClientGone, Deed, Gone, Import, Offer, Perform, Submit, Unlink}

-- ---- the gateway

abbrev pub import_deeds : Effect → List Deed
import_deeds (Imports reply) = Import ∷ []
import_deeds _ = []

abbrev pub submit_deeds : Effect → List Deed
submit_deeds e = map (λ s. Submit s.request) (opened e)

abbrev pub unlink_deeds : Effect → List Deed
unlink_deeds (Unlinks by target) = Unlink by target ∷ []
unlink_deeds _ = []

abbrev pub arrive_deeds : Effect → List Deed
arrive_deeds (Arrives ep fill) = Arrive ep ∷ []
arrive_deeds _ = []

abbrev pub answer_deeds : State → Effect → List Deed
answer_deeds st e = map (λ p. Answer p.submit.request.seqnum) (filter (λ p. is_by_answer (ends e p.submit)) (present st e))

abbrev pub when : Bool → Deed → List Deed
when b x = if b then x ∷ [] else []

-- as its notes tell them
abbrev pub deeds_of : State → Mark → List Deed
deeds_of st m =
    import_deeds m.what ++ submit_deeds m.what ++ unlink_deeds m.what ++ arrive_deeds m.what ++ answer_deeds st m.what
    ++ when (is_loss m.what && st.sides.imported && not st.sides.lost) Gone
    ++ when (leaves m.what && not st.sides.client_over) ClientGone

-- ---- the host

abbrev pub host_deed : Item → List Deed
host_deed (item.Perform ep seqnum) = Perform ep seqnum ∷ []
host_deed (item.Cancel seqnum) = Cancel seqnum ∷ []
host_deed (item.Offer ep) = Offer ep ∷ []
host_deed _ = []

-- ---- both

abbrev pub as_deeds : Telling Deed
as_deeds = record { by_gate = deeds_of; by_host = flat_map host_deed }
