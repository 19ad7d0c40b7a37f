-- What an event adds to a replay's text, and to what it keeps.
use Rattle.std.proofs.Common.{◌≡◌, ℕ, Bool, true, false, ◌||◌, ◌&&◌, not, List, [], ◌∷◌, ◌++◌, length, drop, map, filter, Option, Some, None, is_some, refl, sym, ap, ◌∙◌}
use Rattle.std.specs.List.{list_any}
use Rattle.std.proofs.Math.Bool.{or_comm}
use Rattle.std.proofs.lemmas.List.{drop_at}
use Rattle.std.proofs.lemmas.List.Folds.{list_any-append}
use Rattle.usb_base.specs.declared.refusal.Refusal.{Refusal}
use Rattle.gate_history.specs.declared.note.Note.{Note}
use Rattle.gate_history.specs.declared.note.Note.TheVariants as note
use Rattle.gate_history.specs.step.Events.{PastEvent}
use Rattle.gate_history.specs.step.Marks.{Effect, Imports, Mark}
use Rattle.gate_history.specs.state.Sides.{refused_at, leaves, is_loss}
use Rattle.gate_history.specs.client.Submits.{Pending}
use Rattle.gate_history.specs.client.Ends.{ends}
use Rattle.gate_history.specs.state.State.{State, state_of}
use Rattle.gate_history.specs.step.History.{history}
use Rattle.gate_history.specs.step.Refusals.{is_refusal}
use Rattle.gate_history.specs.write.Notes.{is_by_answer, when, came_notes, submit_notes, answer_notes, refusal_notes, notes_of}
use Rattle.gate_history.specs.write.All.{all_of}
use Rattle.gate_history.specs.write.Output.{present}
use Rattle.gate_history.specs.write.Bytes.{out_client, out_host}
use Rattle.gate_history.specs.Headline.{Gains}
use Rattle.gate_core.specs.step.Stands.{TakesEvent}
use Rattle.usbgate_tapes.specs.declared.replay.Replay.{Replay}
use Rattle.tape_run.specs.Text.{sent_text}
use Rattle.usb_base.specs.Lists.{gained}
use Rattle.tape_run.specs.Replay.{has_refusal}
use Rattle.usbgate_tapes.specs.inner.Replay.{HasReplayed, PutsEvent}

-- ---- a side was refused where a note tells it

-- none of these notes does
abbrev IsQuiet : List Note → Type 0
IsQuiet notes = list_any is_refusal notes ≡ false

quiet-then : (xs ys : List Note) → IsQuiet xs → list_any is_refusal (xs ++ ys) ≡ list_any is_refusal ys
quiet-then xs ys quiet = list_any-append is_refusal xs ys ∙ ap (λ (b : Bool). b || list_any is_refusal ys) quiet

quiet-three : (xs ys zs : List Note) → IsQuiet xs → IsQuiet ys → IsQuiet zs → IsQuiet (xs ++ ys ++ zs)
quiet-three xs ys zs p q r = quiet-then (xs ++ ys) zs (quiet-then xs ys p ∙ q) ∙ r

quiet-when : (b : Bool) (n : Note) → is_refusal n ≡ false → IsQuiet (when b n)
quiet-when true n quiet = ap (λ (t : Bool). t || false) quiet
quiet-when false n quiet = refl

quiet-first : (e : Effect) → IsQuiet (came_notes e ++ submit_notes e)
quiet-first (Imports reply) = refl
quiet-first e = refl

quiet-answer : (ps : List Pending) → IsQuiet (map (λ p. note.Answered p.submit.request.seqnum) ps)
quiet-answer [] = refl
quiet-answer (p ∷ ps) = quiet-answer ps

told-refusal : (r : Option Refusal) → list_any is_refusal (refusal_notes r) ≡ is_some r
told-refusal None = refl
told-refusal (Some r) = refl

told-mark : (st : State) (m : Mark) → list_any is_refusal (notes_of st m) ≡ is_some (refused_at m.what)
told-mark st m =
    let came = came_notes m.what ++ submit_notes m.what in
    let gone = when (is_loss m.what && st.sides.imported && not st.sides.lost) note.DeviceGone in
    let left = when (leaves m.what && not st.sides.client_over) note.ClientGone in
    let next_three : IsQuiet (came ++ answer_notes st m.what ++ gone) =
    quiet-three came (answer_notes st m.what) gone (quiet-first m.what) (quiet-answer (filter (λ p. is_by_answer (ends m.what p.submit)) (present st m.what))) (quiet-when (is_loss m.what && st.sides.imported && not st.sides.lost) note.DeviceGone refl) in
    let all_seven : IsQuiet (came ++ answer_notes st m.what ++ gone ++ left) =
    quiet-then (came ++ answer_notes st m.what ++ gone) left next_three ∙ quiet-when (leaves m.what && not st.sides.client_over) note.ClientGone refl in
    quiet-then (came ++ answer_notes st m.what ++ gone ++ left) (refusal_notes (refused_at m.what)) all_seven ∙ told-refusal (refused_at m.what)

told-past : (first : ℕ) (ms : List Mark) → list_any is_refusal (all_of notes_of first ms) ≡ has_refusal ms
told-past first [] = refl
told-past first (m ∷ ms) =
    list_any-append is_refusal (all_of notes_of first ms) (notes_of (state_of first ms) m) ∙ ap (λ (b : Bool). b || list_any is_refusal (notes_of (state_of first ms) m)) (told-past first ms)
    ∙ ap (λ (b : Bool). has_refusal ms || b) (told-mark (state_of first ms) m) ∙ or_comm (has_refusal ms) (is_some (refused_at m.what))

-- with the notes that an event told
pub refused-more : (first : ℕ) (before after : List Mark) (notes : List Note) → all_of notes_of first after ≡ all_of notes_of first before ++ notes → (has_refusal before || list_any is_refusal notes) ≡ has_refusal after
refused-more first before after notes told =
    ap (λ (b : Bool). b || list_any is_refusal notes) (sym (told-past first before)) ∙ sym (list_any-append is_refusal (all_of notes_of first before) notes) ∙ ap (list_any is_refusal) (sym told) ∙ told-past first after

-- ---- what is printed

-- what an empty buffer gained is what the output gained
more-is : (old new before after more : List ℕ) → old ≡ [] → new ≡ old ++ more → after ≡ before ++ more → new ≡ drop (length before) after
more-is old new before after more none new_is after_is = new_is ∙ ap (λ (l : List ℕ). l ++ more) none ∙ sym (drop_at before more (length before) refl) ∙ ap (drop (length before)) (sym after_is)

gains-is : (old new before after : List ℕ) → old ≡ [] → Gains old new before after → new ≡ drop (length before) after
gains-is old new before after none g = more-is old new before after _ none g.new-is g.after-is

pub sees : (first : ℕ) (old new : Replay) (events : List PastEvent) (e : PastEvent) (client host text_old text_new : List ℕ) (notes : List Note) → HasReplayed first old events
    → TakesEvent first new.gate events e old.to_client client old.to_host host notes → text_new ≡ text_old ++ sent_text client host notes → new.to_client ≡ [] → new.to_host ≡ []
    → new.refused ≡ (old.refused || list_any is_refusal notes) → PutsEvent first new events e text_old text_new
sees first old new events e client host text_old text_new notes h t text no_client no_host refused =
    let clients : List PastEvent → List ℕ = λ es. out_client first (history first es) in
    let hosts : List PastEvent → List ℕ = λ es. out_host first (history first es) in
    let to_client : client ≡ gained clients events e = gains-is old.to_client client _ _ h.to_client t.sends.client in
    let to_host : host ≡ gained hosts events e = gains-is old.to_host host _ _ h.to_host t.sends.host in
    let told : notes ≡ gained (λ es. all_of notes_of first (history first es)) events e =
    sym (drop_at (all_of notes_of first (history first events)) notes _ refl) ∙ ap (drop (length (all_of notes_of first (history first events)))) (sym t.sends.notes-are) in
    record {
      text = text ∙ ap (λ (l : List ℕ). text_old ++ l) (ap (λ (l : List ℕ). sent_text l host notes) to_client ∙ ap (λ (l : List ℕ). sent_text (gained clients events e) l notes) to_host
          ∙ ap (λ (l : List Note). sent_text (gained clients events e) (gained hosts events e) l) told);
      seen = record {
        gate = t.stands;
        to_client = no_client;
        to_host = no_host;
        refused = refused ∙ ap (λ (b : Bool). b || list_any is_refusal notes) h.refused ∙ refused-more first (history first events) (history first (e ∷ events)) notes t.sends.notes-are;
      };
    }
