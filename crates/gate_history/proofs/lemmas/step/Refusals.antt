-- Each refusal has its cause, and each cause its refusal.
use Rattle.std.proofs.Common.{◌≡◌, ℕ, ◌+◌, Bool, true, false, cond, not, ◌&&◌, List, [], ◌∷◌, ◌++◌, map, Option, Some, None, refl, sym, ap, ◌∙◌}
use Rattle.std.specs.Prelude.{filter}
use Rattle.std.specs.List.{find}
use Rattle.std.specs.Option.{option_and_then, option_to_list}
use Rattle.std.proofs.lemmas.List.{append-nil}
use Rattle.std.proofs.lemmas.List.Elements.{filter-append}
use Rattle.usb_base.specs.declared.side.Side.TheVariants.{Client}
use Rattle.usb_base.specs.declared.reason.Reason.TheVariants.{NotImported, AlreadyImported, DuplicateSeq}
use Rattle.usb_base.specs.declared.refusal.Refusal.{Refusal}
use Rattle.usb_base.specs.Endpoint.{is_in_endpoint}
use Rattle.usb_base.specs.Status.{status_of}
use Rattle.packet_stream.proofs.Pieces.{wrong_items}
use Rattle.usbip_op.specs.declared.packet.OpPacket.TheVariants as op
use Rattle.usbip_urb.specs.declared.packet.UrbPacket.TheVariants as urb
use Rattle.usbip_urb.specs.declared.client.ClientPacket.{ClientPacket}
use Rattle.usbip_urb.specs.declared.client.ClientPacket.TheVariants.{Op, Urb}
use Rattle.redir_wire.specs.Header.{head_size}
use Rattle.redir_wire.specs.declared.packet.Connect.{Connect}
use Rattle.redir_wire.specs.declared.packet.Header.{Header}
use Rattle.redir_wire.specs.declared.packet.RedirControl.TheVariants as plain
use Rattle.redir_data.specs.declared.packet.RedirData.TheVariants as data_packet
use Rattle.redir_data.specs.declared.packet.RedirPacket.{RedirPacket}
use Rattle.redir_data.specs.declared.packet.RedirPacket.TheVariants.{Plain, Carrying}
use Rattle.redir_data.specs.declared.stream_kind.StreamKind.{StreamKind}
use Rattle.redir_data.specs.declared.stream_kind.StreamKind.TheVariants.{Iso, Interrupt}
use Rattle.gate_history.specs.declared.note.Note.{Note}
use Rattle.gate_history.specs.declared.note.Note.TheVariants as note
use Rattle.gate_history.specs.declared.item.Item.{Item}
use Rattle.gate_history.specs.declared.item.Item.TheVariants.{Asked, Told, ClientWrong, HostWrong}
use Rattle.gate_history.specs.declared.verdict.Verdict.{Verdict}
use Rattle.gate_history.specs.declared.verdict.Verdict.TheVariants.{Now}
use Rattle.gate_history.specs.step.Marks.{Submission, Effect, Idle, Mark}
use Rattle.gate_history.specs.state.Sides.{refusal, refused_at, leaves, is_loss}
use Rattle.gate_history.specs.client.Submits.{Pending}
use Rattle.gate_history.specs.client.Ends.{has_id, ends}
use Rattle.gate_history.specs.state.Ups.{stream_of}
use Rattle.gate_history.specs.state.Flight.{wide_ids}
use Rattle.gate_history.specs.state.State.{State, state_of, submits, has_number}
use Rattle.gate_history.specs.step.Meaning.{importable, imported_as, accepted_as, answered_as, answer_to, by_response, arrives, by_arrival, meaning, mark_of}
use Rattle.gate_history.specs.host.Responses.{Response, Data, outcome, response_of, expected_of, mismatch, told_outcome}
use Rattle.gate_history.specs.step.Past.{is_left_out, past}
use Rattle.gate_history.specs.step.History.{client_split, host_split, client_items, host_items}
use Rattle.gate_history.specs.write.Output.{present}
use Rattle.gate_history.specs.write.Notes.{when, came_notes, submit_notes, answer_notes, is_by_answer, refusal_notes, notes_of}
use Rattle.gate_history.specs.write.All.{all_of}
use Rattle.gate_history.specs.step.Refusals.{refused_if, client_rule, host_rule, cause, causes, is_refusal, client_wrongs, host_wrongs}

-- ---- of an item

chosen : (b : Bool) (e f : Effect) (o p : Option Refusal) → refused_at e ≡ o → refused_at f ≡ p → refused_at (cond b e f) ≡ cond b o p
chosen true e f o p h k = h
chosen false e f o p h k = k

imports-all : (st : State) (o : Option Connect) → refused_at (imported_as st o) ≡ None
imports-all st None = refl
imports-all st (Some c) = refl

accepts-all : (st : State) (s : Submission) (v : Verdict) → refused_at (accepted_as st s v) ≡ None
accepts-all st s (Now status) = refl
accepts-all st s _ = refl

asked-so : (st : State) (place : ℕ) (p : ClientPacket) → refused_at (meaning st (Asked place p)) ≡ client_rule st place p
asked-so st place (Op (op.ReqDevlist status)) = chosen st.sides.imported _ _ (Some (refusal Client place AlreadyImported)) None refl refl
asked-so st place (Op (op.ReqImport status busid)) = chosen st.sides.imported _ _ (Some (refusal Client place AlreadyImported)) None refl (imports-all st (importable st busid))
asked-so st place (Op (op.RepDevlist status devices)) = refl
asked-so st place (Op (op.RepImport status device)) = refl
asked-so st place (Urb (urb.Submit s)) =
    chosen (not st.sides.imported) _ _ (Some (refusal Client place NotImported)) (refused_if (has_number st s.head.seqnum) (place + 4) DuplicateSeq) refl
    (chosen (has_number st s.head.seqnum) _ _ (Some (refusal Client (place + 4) DuplicateSeq)) None refl (accepts-all st _ _))
asked-so st place (Urb (urb.Unlink u)) = chosen (not st.sides.imported) _ _ (Some (refusal Client place NotImported)) None refl refl
asked-so st place (Urb (urb.RetSubmit r)) = refl
asked-so st place (Urb (urb.RetUnlink r)) = refl

answered-so : (st : State) (place : ℕ) (h : Header) (response : Response) (o : Option Submission) →
    refused_at (answer_to st place h response o) ≡ option_and_then (λ s. mismatch place (head_size (wide_ids st.sides.agreed)) (expected_of s) h.kind response) o
answered-so st place h response None = refl
answered-so st place h response (Some s) = elim (mismatch place (head_size (wide_ids st.sides.agreed)) (expected_of s) h.kind response) as (λ o. refused_at (answered_as h.id (told_outcome s.request s.verdict response) o) ≡ o) [ None ↦ refl | Some r ↦ refl ]

by-response : (st : State) (place : ℕ) (h : Header) (o : Option Response) →
    refused_at (by_response st place h o) ≡ option_and_then (λ response. option_and_then (λ s. mismatch place (head_size (wide_ids st.sides.agreed)) (expected_of s) h.kind response) (find (has_id h.id) (submits st ++ st.abandoned))) o
by-response st place h None = refl
by-response st place h (Some response) = answered-so st place h response (find (has_id h.id) (submits st ++ st.abandoned))

arrives-all : (st : State) (ep : ℕ) (kind : StreamKind) (status : ℕ) (body : List ℕ) → refused_at (by_arrival st ep kind status body) ≡ None
arrives-all st ep kind status body = elim (stream_of st.streams ep) as (λ o. refused_at (arrives st ep kind (record { status = status_of status; body = body }) o) ≡ None) [ None ↦ refl | Some up ↦ refl ]

streamed : (st : State) (place : ℕ) (h : Header) (ep status : ℕ) (body : List ℕ) (response : Response) (b : Bool) →
    refused_at (cond b (by_arrival st ep Interrupt status body) (by_response st place h (cond b None (Some response))))
    ≡ option_and_then (λ r. option_and_then (λ s. mismatch place (head_size (wide_ids st.sides.agreed)) (expected_of s) h.kind r) (find (has_id h.id) (submits st ++ st.abandoned))) (cond b None (Some response))
streamed st place h ep status body response true = arrives-all st ep Interrupt status body
streamed st place h ep status body response false = by-response st place h (Some response)

isochronous : (st : State) (ep status : ℕ) (body : List ℕ) (b : Bool) → refused_at (cond b (by_arrival st ep Iso status body) Idle) ≡ None
isochronous st ep status body true = arrives-all st ep Iso status body
isochronous st ep status body false = refl

told-so : (st : State) (place : ℕ) (h : Header) (p : RedirPacket) → refused_at (meaning st (Told place h p)) ≡ host_rule st place h p
told-so st place h (Plain (plain.Hello hello)) = refl
told-so st place h (Plain plain.Disconnect) = refl
told-so st place h (Plain (plain.IsoStatus status endpoint)) = refl
told-so st place h (Plain (plain.InterruptStatus status endpoint)) = refl
told-so st place h (Plain p) = by-response st place h (response_of (Plain p))
told-so st place h (Carrying (data_packet.Interrupt ep status len body)) = streamed st place h ep status body (Data ep 2 (outcome status len body)) (is_in_endpoint ep)
told-so st place h (Carrying (data_packet.Iso ep status len body)) = isochronous st ep status body (is_in_endpoint ep)
told-so st place h (Carrying d) = by-response st place h (response_of (Carrying d))

pub refused-so : (st : State) (x : Item) → refused_at (meaning st x) ≡ cause st x
refused-so st (Asked place p) = asked-so st place p
refused-so st (Told place h p) = told-so st place h p
refused-so st _ = refl

-- ---- among the notes

none-mapped : {X : Type 0} (f : X → Note) → ((x : X) → is_refusal (f x) ≡ false) → (xs : List X) → filter is_refusal (map f xs) ≡ []
none-mapped f h [] = refl
none-mapped f h (x ∷ xs) = ap (λ (b : Bool). cond b (f x ∷ filter is_refusal (map f xs)) (filter is_refusal (map f xs))) (h x) ∙ none-mapped f h xs

none-when : (b : Bool) (n : Note) → is_refusal n ≡ false → filter is_refusal (when b n) ≡ []
none-when true n h = ap (λ (b : Bool). cond b (n ∷ []) []) h
none-when false n h = refl

own-refusal : (o : Option Refusal) → filter is_refusal (refusal_notes o) ≡ refusal_notes o
own-refusal None = refl
own-refusal (Some r) = refl

-- notes that are told first are no refusals
told-first : (e : Effect) → filter is_refusal (came_notes e ++ submit_notes e) ≡ []
told-first Idle = refl
told-first _ = refl

joined : (xs ys : List Note) → filter is_refusal xs ≡ [] → filter is_refusal (xs ++ ys) ≡ filter is_refusal ys
joined xs ys none = filter-append is_refusal xs ys ∙ ap (λ (ns : List Note). ns ++ filter is_refusal ys) none

both : (xs ys : List Note) → filter is_refusal xs ≡ [] → filter is_refusal ys ≡ [] → filter is_refusal (xs ++ ys) ≡ []
both xs ys a b = joined xs ys a ∙ b

pub refusals-of : (st : State) (m : Mark) → filter is_refusal (notes_of st m) ≡ refusal_notes (refused_at m.what)
refusals-of st m =
    let first = came_notes m.what ++ submit_notes m.what in
    let answers = answer_notes st m.what in
    let gone = when (is_loss m.what && st.sides.imported && not st.sides.lost) note.DeviceGone in
    let left = when (leaves m.what && not st.sides.client_over) note.ClientGone in
    let none = both (first ++ answers ++ gone) left
    (both (first ++ answers) gone (both first answers (told-first m.what)
    (none-mapped (λ (p : Pending). note.Answered p.submit.request.seqnum) (λ p. refl) (filter (λ p. is_by_answer (ends m.what p.submit)) (present st m.what))))
    (none-when (is_loss m.what && st.sides.imported && not st.sides.lost) note.DeviceGone refl))
    (none-when (leaves m.what && not st.sides.client_over) note.ClientGone refl) in
    joined (first ++ answers ++ gone ++ left) (refusal_notes (refused_at m.what)) none ∙ own-refusal (refused_at m.what)

-- ---- of all items

-- of one item more
one-more : (first : ℕ) (ms : List Mark) (x : Item) (before : List Note) → filter is_refusal (all_of notes_of first ms) ≡ before → (left : Bool) →
    filter is_refusal (all_of notes_of first (cond left ms (mark_of (state_of first ms) x ∷ ms))) ≡ before ++ cond left [] (refusal_notes (cause (state_of first ms) x))
one-more first ms x before is true = is ∙ sym (append-nil before)
one-more first ms x before is false =
    let m = mark_of (state_of first ms) x in
    filter-append is_refusal (all_of notes_of first ms) (notes_of (state_of first ms) m)
    ∙ (λ i. is i ++ (refusals-of (state_of first ms) m ∙ ap refusal_notes (refused-so (state_of first ms) x)) i)

pub refusals-are : (first : ℕ) (xs : List Item) → filter is_refusal (all_of notes_of first (past first xs)) ≡ causes first xs
refusals-are first [] = refl
refusals-are first (x ∷ xs) = one-more first (past first xs) x (causes first xs) (refusals-are first xs) (is_left_out (state_of first (past first xs)) x)

-- ---- the wrong places

client-behind : (found : List (ℕ × ClientPacket)) (xs : List Item) → client_wrongs (map (λ p. Asked p.0 p.1) found ++ xs) ≡ client_wrongs xs
client-behind [] xs = refl
client-behind (p ∷ found) xs = client-behind found xs

host-behind : (found : List (ℕ × (Header × RedirPacket))) (xs : List Item) → host_wrongs (map (λ p. Told p.0 p.1.0 p.1.1) found ++ xs) ≡ host_wrongs xs
host-behind [] xs = refl
host-behind (p ∷ found) xs = host-behind found xs

pub client-wrongs : (bytes : List ℕ) → client_wrongs (client_items bytes) ≡ option_to_list (client_split bytes).wrong
client-wrongs bytes =
    client-behind (client_split bytes).packets (wrong_items ClientWrong (client_split bytes).wrong)
    ∙ elim (client_split bytes).wrong as (λ o. client_wrongs (wrong_items ClientWrong o) ≡ option_to_list o) [ None ↦ refl | Some w ↦ refl ]

pub host-wrongs : (bytes : List ℕ) → host_wrongs (host_items bytes) ≡ option_to_list (host_split bytes).wrong
host-wrongs bytes =
    host-behind (host_split bytes).packets (wrong_items HostWrong (host_split bytes).wrong)
    ∙ elim (host_split bytes).wrong as (λ o. host_wrongs (wrong_items HostWrong o) ≡ option_to_list o) [ None ↦ refl | Some w ↦ refl ]
