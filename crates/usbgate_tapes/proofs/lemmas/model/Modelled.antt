-- What a step adds to the text of a modelled run, and to what it keeps.
use Rattle.std.proofs.Common.{◌≡◌, ℕ, Bool, ◌||◌, not, List, [], ◌∷◌, ◌++◌, take, option_map, Option, Some, None, refl, sym, ap, ◌∙◌, subst}
use Rattle.std.specs.List.{flat_map, list_any}
use Rattle.std.proofs.Math.Bool.{or-false}
use Rattle.usb_base.specs.Lists.{is_empty}
use Rattle.gate_history.specs.declared.note.Note.{Note}
use Rattle.gate_history.specs.declared.note.Note.TheVariants as note
use Rattle.gate_history.specs.step.Events.{PastEvent, ClientPiece, ClientEnd as ClientEnds, HostPiece}
use Rattle.gate_history.specs.step.History.{history}
use Rattle.gate_history.specs.step.Refusals.{is_refusal}
use Rattle.gate_history.specs.write.Notes.{notes_of}
use Rattle.gate_history.proofs.lemmas.step.Events.{event-gives}
use Rattle.model_device.specs.Meaning.{Meaning}
use Rattle.packet_show.specs.declared.tape.ModelLine.{ModelLine}
use Rattle.packet_show.specs.Tape.{model_line}
use Rattle.direct_run.specs.declared.told.Told.{Told}
use Rattle.direct_system.specs.Kept.{SystemKept}
use Rattle.gate_history.specs.write.Refusals.{refusal_in}
use Rattle.direct_system.specs.Stands.{SystemStands}
use Rattle.direct_run.specs.Steps.{PastStep, Client, ClientEnd, ToHost, ToGate, Perform, Offer, Unplug}
use Rattle.direct_run.specs.Trace.{given_of, told_by}
use Rattle.direct_run.specs.World.{Course, first_id, course, after_step, wire_to_gate}
use Rattle.usbgate_tapes.specs.declared.model.ModelRun.{ModelRun}
use Rattle.tape_run.specs.model.Model.{on_step, step_said, model}
use Rattle.tape_run.specs.Replay.{has_refusal}
use Rattle.tape_run.specs.Text.{told_text}
use Rattle.usbgate_tapes.specs.inner.model.Model.{HasDone, TakesSaid}
use Rattle.tape_run.specs.tape.Kept.{TakesLine}
use Rattle.usbgate_tapes.proofs.lemmas.replay.Events.{refused-more}

-- ---- a step tells a refusal where one came about

some-told : (notes : List Note) → not (is_empty (flat_map refusal_in notes)) ≡ list_any is_refusal notes
some-told [] = refl
some-told (note.Refused r ∷ notes) = refl
some-told (note.Imported ∷ notes) = some-told notes
some-told (note.Submitted seqnum id ∷ notes) = some-told notes
some-told (note.UnlinkAsked by target ∷ notes) = some-told notes
some-told (note.Arrived ep ∷ notes) = some-told notes
some-told (note.Answered seqnum ∷ notes) = some-told notes
some-told (note.DeviceGone ∷ notes) = some-told notes
some-told (note.ClientGone ∷ notes) = some-told notes

event-refuses : (events : List PastEvent) (e : PastEvent) → (has_refusal (history first_id events) || not (is_empty (flat_map refusal_in (given_of notes_of events e)))) ≡ has_refusal (history first_id (e ∷ events))
event-refuses events e =
    ap (λ (b : Bool). has_refusal (history first_id events) || b) (some-told (given_of notes_of events e))
    ∙ refused-more first_id (history first_id events) (history first_id (e ∷ events)) (given_of notes_of events e) (event-gives notes_of first_id events e)

step-refuses : {S : Type 0} (m : Meaning S) (s : S) (c : Course) (x : PastStep) → (has_refusal (history first_id c.events) || not (is_empty (told_by m s c x).refusals)) ≡ has_refusal (history first_id (after_step m s c x).events)
step-refuses m s c (Client b) = event-refuses c.events (ClientPiece b)
step-refuses m s c ClientEnd = event-refuses c.events ClientEnds
step-refuses m s c (ToHost n) = or-false (has_refusal (history first_id c.events))
step-refuses m s c (ToGate n) = event-refuses c.events (HostPiece (take n (wire_to_gate m s c)))
step-refuses m s c (Perform ep) = or-false (has_refusal (history first_id c.events))
step-refuses m s c (Offer ep) = or-false (has_refusal (history first_id c.events))
step-refuses m s c Unplug = or-false (has_refusal (history first_id c.events))

-- ---- a line

-- a line whose step was done puts what that adds behind the text
pub line-told : {S : Type 0} (m : Meaning S) (s : S) (old new : ModelRun S) (steps : List PastStep) (content : List ℕ) (said : ModelLine) (done : SystemKept S) (outcome : Option Told) (told : Told) (text_old text_new : List ℕ) →
    model_line content ≡ Some said → (SystemStands m s old.system steps → TakesSaid m s done steps (step_said said) outcome) → outcome ≡ Some told → new.system ≡ done → text_new ≡ text_old ++ told_text told → new.refused ≡ (old.refused || not (is_empty told.refusals)) →
    HasDone m s old steps → TakesLine (HasDone m s) ((model m s).line steps content) new text_old text_new
line-told {S = S} m s old new steps content said done outcome told text_old text_new is takes outcome-is system-is text-is refused h =
    subst (λ (x : Option ModelLine). TakesLine (HasDone m s) (option_map (λ (y : ModelLine). on_step m s steps (step_said y)) x) new text_old text_new) (sym is) (go (step_said said) taken)
  where
    taken : TakesSaid m s new.system steps (step_said said) (Some told)
    taken = subst (λ (k : SystemKept S). TakesSaid m s k steps (step_said said) (Some told)) (sym system-is)
        (subst (TakesSaid m s done steps (step_said said)) outcome-is (takes h.system))

    go : (o : Option PastStep) → TakesSaid m s new.system steps o (Some told) → TakesLine (HasDone m s) (Some (on_step m s steps o)) new text_old text_new
    go None never = absurd never
    go (Some x) t = (
      text-is ∙ ap (λ (y : Told). text_old ++ told_text y) t.told-is,
      record {
        system = t.stands;
        refused = refused ∙ (λ i. h.refused i || ap (λ (y : Told). not (is_empty y.refusals)) t.told-is i) ∙ step-refuses m s (course m s steps) x;
      },
    )
