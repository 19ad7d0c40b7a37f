-- The deeds of an item are what its notes tell, and carry the requests that it accepts.
use Rattle.std.proofs.Common.{◌≡◌, ◌&&◌, not, Bool, true, false, List, [], ◌∷◌, ◌++◌, map, filter, Option, Some, None, refl, sym, ap, ◌∙◌, append-nil}
use Rattle.std.specs.List.{flat_map}
use Rattle.std.proofs.lemmas.Grind.{flat_map-append}
use Rattle.std.proofs.lemmas.List.{map-append}
use Rattle.usb_base.specs.declared.refusal.Refusal.{Refusal}
use Rattle.gate_history.specs.declared.note.Note.{Note}
use Rattle.gate_history.specs.declared.note.Note.TheVariants as note
use Rattle.gate_history.specs.step.Marks.{Effect, Imports, Mark}
use Rattle.gate_history.specs.state.Sides.{refused_at, leaves, is_loss}
use Rattle.gate_history.specs.client.Submits.{Pending}
use Rattle.gate_history.specs.client.Ends.{ends}
use Rattle.gate_history.specs.state.State.{State}
use Rattle.gate_history.specs.write.Output.{present}
use Rattle.gate_history.specs.write.Notes.{when, came_notes, submit_notes, answer_notes, refusal_notes, notes_of, is_by_answer}
use Rattle.direct_run.specs.declared.item.Item.{Item}
use Rattle.direct_run.specs.Noted.{item_of}
use Rattle.direct_device.specs.Acting.{Deed, Answer, Gone, ClientGone}
use Rattle.direct_device.specs.Legal.{item_of as deed_item}
use Rattle.direct_proof.specs.Deeds.{import_deeds, submit_deeds, unlink_deeds, arrive_deeds, answer_deeds, deeds_of, when as when_deed}

-- what one effect tells: an import, an unlink, what came, a submit
tells : (e : Effect) → map deed_item (import_deeds e ++ submit_deeds e ++ unlink_deeds e ++ arrive_deeds e) ≡ flat_map item_of (came_notes e ++ submit_notes e)
tells (Imports reply) = refl
tells _ = refl

answers-told : (st : State) (e : Effect) → map deed_item (answer_deeds st e) ≡ flat_map item_of (answer_notes st e)
answers-told st e = go (filter (λ (p : Pending). is_by_answer (ends e p.submit)) (present st e))
  where
    go : (ps : List Pending) → map deed_item (map (λ (p : Pending). Answer p.submit.request.seqnum) ps) ≡ flat_map item_of (map (λ (p : Pending). note.Answered p.submit.request.seqnum) ps)
    go [] = refl
    go (p ∷ ps) = ap (λ (l : List Item). deed_item (Answer p.submit.request.seqnum) ∷ l) (go ps)

-- a refusal is no item
none-refused : (o : Option Refusal) → flat_map item_of (refusal_notes o) ≡ []
none-refused None = refl
none-refused (Some r) = refl

gone-told : (b : Bool) → map deed_item (when_deed b Gone) ≡ flat_map item_of (when b note.DeviceGone)
gone-told true = refl
gone-told false = refl

left-told : (b : Bool) → map deed_item (when_deed b ClientGone) ≡ flat_map item_of (when b note.ClientGone)
left-told true = refl
left-told false = refl

-- side by side
beside : (xs ys : List Deed) (ns ms : List Note) → map deed_item xs ≡ flat_map item_of ns → map deed_item ys ≡ flat_map item_of ms → map deed_item (xs ++ ys) ≡ flat_map item_of (ns ++ ms)
beside xs ys ns ms h k = map-append deed_item xs ys ∙ (λ i. h i ++ k i) ∙ sym (flat_map-append item_of ns ms)

pub told-deeds : (st : State) (m : Mark) → map deed_item (deeds_of st m) ≡ flat_map item_of (notes_of st m)
told-deeds st m =
    let e = m.what in
    let lost : Bool = is_loss m.what && st.sides.imported && not st.sides.lost in
    let left : Bool = leaves m.what && not st.sides.client_over in
    let d = beside (import_deeds e ++ submit_deeds e ++ unlink_deeds e ++ arrive_deeds e) (answer_deeds st e) (came_notes e ++ submit_notes e) (answer_notes st e) (tells e) (answers-told st e) in
    let f = beside (import_deeds e ++ submit_deeds e ++ unlink_deeds e ++ arrive_deeds e ++ answer_deeds st e) (when_deed lost Gone) (came_notes e ++ submit_notes e ++ answer_notes st e) (when lost note.DeviceGone) d (gone-told lost) in
    let g = beside (import_deeds e ++ submit_deeds e ++ unlink_deeds e ++ arrive_deeds e ++ answer_deeds st e ++ when_deed lost Gone) (when_deed left ClientGone) (came_notes e ++ submit_notes e ++ answer_notes st e ++ when lost note.DeviceGone) (when left note.ClientGone) f (left-told left) in
    g
    ∙ sym (append-nil (flat_map item_of (came_notes e ++ submit_notes e ++ answer_notes st e ++ when lost note.DeviceGone ++ when left note.ClientGone)))
    ∙ ap (λ (l : List Item). flat_map item_of (came_notes e ++ submit_notes e ++ answer_notes st e ++ when lost note.DeviceGone ++ when left note.ClientGone) ++ l) (sym (none-refused (refused_at e)))
    ∙ sym (flat_map-append item_of (came_notes e ++ submit_notes e ++ answer_notes st e ++ when lost note.DeviceGone ++ when left note.ClientGone) (refusal_notes (refused_at e)))
