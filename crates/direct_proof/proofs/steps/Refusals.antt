-- A gateway that still reads its host has never refused it.
use Rattle.std.specs.Option.{option_map_or}
use Rattle.std.proofs.Common.{◌≡◌, ℕ, Bool, true, false, ◌||◌, ◌&&◌, not, cond, List, [], ◌∷◌, ◌++◌, map, filter, Option, Some, None, refl, ap, ◌∙◌}
use Rattle.std.specs.List.{flat_map, list_any}
use Rattle.std.proofs.lemmas.List.Folds.{list_any-append}
use Rattle.std.proofs.lemmas.Grind.{flat_map-append}
use Rattle.std.proofs.Math.Bool.{or-false}
use Rattle.usb_base.specs.declared.refusal.Refusal.{Refusal}
use Rattle.gate_history.specs.declared.note.Note.{Note}
use Rattle.gate_history.specs.declared.note.Note.TheVariants as note
use Rattle.gate_history.specs.step.Marks.{Effect, Imports, Ends, Refuses, Mark}
use Rattle.gate_history.specs.state.Sides.{is_client, refused_at, leaves, is_loss, closes_host, host_over}
use Rattle.gate_history.specs.client.Submits.{Pending}
use Rattle.gate_history.specs.client.Ends.{ends}
use Rattle.gate_history.specs.state.State.{State, state_of}
use Rattle.gate_history.specs.write.Output.{present}
use Rattle.gate_history.specs.write.Notes.{when, came_notes, submit_notes, answer_notes, refusal_notes, is_by_answer, notes_of}
use Rattle.gate_history.specs.write.All.{all_of}
use Rattle.gate_history.specs.write.Refusals.{refusal_in}
use Rattle.direct_proof.specs.Simulates.{refuses_host}

abbrev refuses : List Note → Bool
refuses ns = list_any refuses_host (flat_map refusal_in ns)

refuses-append : (ns ms : List Note) → refuses (ns ++ ms) ≡ (refuses ns || refuses ms)
refuses-append ns ms = ap (list_any refuses_host) (flat_map-append refusal_in ns ms) ∙ list_any-append refuses_host (flat_map refusal_in ns) (flat_map refusal_in ms)

none-of-both : (ns ms : List Note) → refuses ns ≡ false → refuses ms ≡ false → refuses (ns ++ ms) ≡ false
none-of-both ns ms h k = refuses-append ns ms ∙ (λ i. h i || k i)

first-spares : (e : Effect) → refuses (came_notes e ++ submit_notes e) ≡ false
first-spares (Imports reply) = refl
first-spares e = refl

answer-spares : (ps : List Pending) → refuses (map (λ (p : Pending). note.Answered p.submit.request.seqnum) ps) ≡ false
answer-spares [] = refl
answer-spares (p ∷ ps) = answer-spares ps

gone-spares : (b : Bool) → refuses (when b note.DeviceGone) ≡ false
gone-spares true = refl
gone-spares false = refl

left-spares : (b : Bool) → refuses (when b note.ClientGone) ≡ false
left-spares true = refl
left-spares false = refl

refused-is : (o : Option Refusal) → refuses (refusal_notes o) ≡ option_map_or (λ (r : Refusal). not (is_client r.side)) o false
refused-is None = refl
refused-is (Some r) = or-false (not (is_client r.side))

abbrev effect_refuses : Effect → Bool
effect_refuses e = option_map_or (λ (r : Refusal). not (is_client r.side)) (refused_at e) false

mark-refuses : (st : State) (m : Mark) → refuses (notes_of st m) ≡ effect_refuses m.what
mark-refuses st m =
    let e = m.what in
    let lost : Bool = is_loss e && st.sides.imported && not st.sides.lost in
    let left : Bool = leaves e && not st.sides.client_over in
    let d = none-of-both (came_notes e ++ submit_notes e) (answer_notes st e) (first-spares e) (answer-spares (filter (λ (p : Pending). is_by_answer (ends e p.submit)) (present st e))) in
    let f = none-of-both (came_notes e ++ submit_notes e ++ answer_notes st e) (when lost note.DeviceGone) d (gone-spares lost) in
    let g = none-of-both (came_notes e ++ submit_notes e ++ answer_notes st e ++ when lost note.DeviceGone) (when left note.ClientGone) f (left-spares left) in
    refuses-append (came_notes e ++ submit_notes e ++ answer_notes st e ++ when lost note.DeviceGone ++ when left note.ClientGone) (refusal_notes (refused_at e))
    ∙ (λ i. g i || refused-is (refused_at e) i)

open-before : (closes before : Bool) → cond closes true (cond false false before) ≡ false → (closes ≡ false) × (before ≡ false)
open-before true before h = absurd (let no : true ≡ false = h in cc)
open-before false before h = (refl, h)

stays-open : (e : Effect) (before : Bool) → cond (closes_host e) true (cond false false before) ≡ false → (effect_refuses e ≡ false) × (before ≡ false)
stays-open (Refuses r) before h = open-before (not (is_client r.side)) before h
stays-open (Ends side) before h = (refl, (open-before (not (is_client side)) before h).1)
stays-open e before h = (refl, h)

pub never-refused : (first : ℕ) (ms : List Mark) → host_over ms ≡ false → list_any refuses_host (flat_map refusal_in (all_of notes_of first ms)) ≡ false
never-refused first [] going = refl
never-refused first (m ∷ ms) going =
    let parts = stays-open m.what (host_over ms) going in
    none-of-both (all_of notes_of first ms) (notes_of (state_of first ms) m) (never-refused first ms parts.1) (mark-refuses (state_of first ms) m ∙ parts.0)
