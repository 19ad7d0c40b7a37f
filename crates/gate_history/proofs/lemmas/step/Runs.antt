-- Of every list of items: the machine's state is what the past says, and it gives the same.
use Rattle.std.proofs.Common.{◌≡◌, ℕ, Bool, true, false, cond, not, List, [], ◌∷◌, ◌++◌, Option, Some, None, refl, sym, ap, ◌∙◌}
use Rattle.std.proofs.lemmas.List.{append-nil}
use Rattle.usb_base.specs.declared.refusal.Refusal.{Refusal}
use Rattle.usb_base.specs.declared.transfer.Outcome.{Outcome}
use Rattle.usbip_op.specs.declared.packet.OpPacket.{OpPacket}
use Rattle.usbip_op.specs.declared.packet.OpPacket.TheVariants as op
use Rattle.usbip_urb.specs.declared.packet.UrbPacket.{UrbPacket}
use Rattle.usbip_urb.specs.declared.packet.UrbPacket.TheVariants as urb
use Rattle.redir_wire.specs.declared.packet.Connect.{Connect}
use Rattle.redir_wire.specs.declared.packet.Header.{Header}
use Rattle.redir_wire.specs.declared.packet.RedirControl.TheVariants as plain
use Rattle.redir_data.specs.declared.packet.RedirPacket.{RedirPacket}
use Rattle.redir_data.specs.declared.packet.RedirData.{RedirData}
use Rattle.redir_data.specs.declared.packet.RedirData.TheVariants as data_packet
use Rattle.redir_data.specs.declared.packet.RedirPacket.TheVariants.{Plain, Carrying}
use Rattle.redir_data.specs.declared.stream_kind.StreamKind.{StreamKind}
use Rattle.redir_data.specs.declared.stream_kind.StreamKind.TheVariants.{Iso, Interrupt}
use Rattle.usb_base.specs.declared.transfer.StreamPacket.{StreamPacket}
use Rattle.usb_base.specs.Endpoint.{is_in_endpoint}
use Rattle.usbip_urb.specs.declared.client.ClientPacket.{ClientPacket}
use Rattle.usbip_urb.specs.declared.client.ClientPacket.TheVariants.{Op, Urb}
use Rattle.gate_history.specs.declared.item.Item.{Item}
use Rattle.gate_history.specs.declared.item.Item.TheVariants.{Asked, Told}
use Rattle.gate_history.specs.declared.request.Request.{Request}
use Rattle.gate_history.specs.client.Requests.{request_of}
use Rattle.gate_history.specs.declared.verdict.Verdict.{Verdict}
use Rattle.gate_history.specs.declared.verdict.Verdict.TheVariants.{Now}
use Rattle.gate_history.specs.step.Marks.{Submission, Effect, Mark}
use Rattle.gate_history.specs.state.Ups.{Up, stream_at, stream_of}
use Rattle.gate_history.specs.state.State.{State, state_of, has_number}
use Rattle.gate_history.specs.host.Responses.{Response, response_of}
use Rattle.gate_history.specs.step.Meaning.{importable, imported_as, asked_meaning, verdict_of, drawn_for, submission, by_stream, accepted_as, accepts, answered_as, answer_to, by_response, arrives, told_meaning, meaning, mark_of}
use Rattle.gate_history.specs.step.Past.{is_left_out, put, past}
use Rattle.gate_history.specs.write.All.{all_of}
use Rattle.gate_history.specs.step.Machine.{with_mark, step, run, given, all_given}
use Rattle.gate_history.proofs.lemmas.step.Steps.{IsPlaced, IsWell, state-after}

-- ---- what an item opens has its place

either : (n : ℕ) (b : Bool) (e f : Effect) → IsPlaced n e → IsPlaced n f → IsPlaced n (cond b e f)
either n true e f h k = h
either n false e f h k = k

placed-import : (n : ℕ) (st : State) (o : Option Connect) → IsPlaced n (imported_as st o)
placed-import n st None = tt
placed-import n st (Some c) = tt

placed-op : (st : State) (place : ℕ) (p : OpPacket) → IsPlaced st.items (asked_meaning st place (Op p))
placed-op st place (op.ReqDevlist status) = either st.items st.sides.imported _ _ tt tt
placed-op st place (op.ReqImport status busid) = either st.items st.sides.imported _ _ tt (placed-import st.items st (importable st busid))
placed-op st place (op.RepDevlist status devices) = tt
placed-op st place (op.RepImport status device) = tt

placed-accepted : (st : State) (s : Submission) (v : Verdict) → s.place ≡ st.items → IsPlaced st.items (accepted_as st s v)
placed-accepted st s (Now status) h = (h, tt)
placed-accepted st s _ h = (h, tt)

placed-submit : (st : State) (r : Request) (v : Verdict) → IsPlaced st.items (accepts st r v)
placed-submit st r v =
    let kept = by_stream (stream_at st.streams r.transfer.ep) v in
    placed-accepted st (submission st r kept (drawn_for st r kept)) kept refl

placed-urb : (st : State) (place : ℕ) (p : UrbPacket) → IsPlaced st.items (asked_meaning st place (Urb p))
placed-urb st place (urb.Submit s) = either st.items (not st.sides.imported) _ _ tt (either st.items (has_number st s.head.seqnum) _ _ tt (placed-submit st (request_of s) (verdict_of st (request_of s))))
placed-urb st place (urb.Unlink u) = either st.items (not st.sides.imported) _ _ tt tt
placed-urb st place (urb.RetSubmit r) = tt
placed-urb st place (urb.RetUnlink r) = tt

placed-asked : (st : State) (place : ℕ) (p : ClientPacket) → IsPlaced st.items (asked_meaning st place p)
placed-asked st place (Op p) = placed-op st place p
placed-asked st place (Urb p) = placed-urb st place p

placed-answered : (n id : ℕ) (o : Outcome) (r : Option Refusal) → IsPlaced n (answered_as id o r)
placed-answered n id o None = tt
placed-answered n id o (Some r) = tt

placed-answer : (n : ℕ) (st : State) (place : ℕ) (h : Header) (response : Response) (s : Option Submission) → IsPlaced n (answer_to st place h response s)
placed-answer n st place h response None = tt
placed-answer n st place h response (Some s) = placed-answered n h.id _ _

placed-response : (n : ℕ) (st : State) (place : ℕ) (h : Header) (response : Option Response) → IsPlaced n (by_response st place h response)
placed-response n st place h None = tt
placed-response n st place h (Some response) = placed-answer n st place h response _

placed-arrival : (n : ℕ) (st : State) (ep : ℕ) (kind : StreamKind) (packet : StreamPacket) (o : Option Up) → IsPlaced n (arrives st ep kind packet o)
placed-arrival n st ep kind packet None = tt
placed-arrival n st ep kind packet (Some up) = tt

placed-data : (st : State) (place : ℕ) (h : Header) (d : RedirData) → IsPlaced st.items (told_meaning st place h (Carrying d))
placed-data st place h (data_packet.Interrupt endpoint status length body) =
    either st.items (is_in_endpoint endpoint) _ _ (placed-arrival st.items st endpoint Interrupt _ (stream_of st.streams endpoint)) (placed-response st.items st place h _)
placed-data st place h (data_packet.Iso endpoint status length body) = either st.items (is_in_endpoint endpoint) _ _ (placed-arrival st.items st endpoint Iso _ (stream_of st.streams endpoint)) tt
placed-data st place h d = placed-response st.items st place h (response_of (Carrying d))

placed-told : (st : State) (place : ℕ) (h : Header) (p : RedirPacket) → IsPlaced st.items (told_meaning st place h p)
placed-told st place h (Plain (plain.Hello hello)) = tt
placed-told st place h (Plain plain.Disconnect) = tt
placed-told st place h (Carrying d) = placed-data st place h d
placed-told st place h p = placed-response st.items st place h (response_of p)

pub placed-meaning : (st : State) (x : Item) → IsPlaced st.items (meaning st x)
placed-meaning st (Asked place packet) = placed-asked st place packet
placed-meaning st (Told place header packet) = placed-told st place header packet
placed-meaning st _ = tt

-- ---- one item

pub well-put : (first : ℕ) (ms : List Mark) (x : Item) → IsWell ms → IsWell (put first ms x)
well-put first ms x w =
    elim (is_left_out (state_of first ms) x) as (λ b. IsWell (cond b ms (mark_of (state_of first ms) x ∷ ms)))
    [ true ↦ w | false ↦ (placed-meaning (state_of first ms) x, w) ]

state-put : (first : ℕ) (ms : List Mark) (x : Item) → IsWell ms → state_of first (put first ms x) ≡ step (state_of first ms) x
state-put first ms x w =
    elim (is_left_out (state_of first ms) x) as (λ b. state_of first (cond b ms (mark_of (state_of first ms) x ∷ ms)) ≡ cond b (state_of first ms) (with_mark (state_of first ms) (mark_of (state_of first ms) x)))
    [ true ↦ refl | false ↦ state-after first ms (mark_of (state_of first ms) x) (placed-meaning (state_of first ms) x, w) ]

all-put : {A : Type 0} (gives : State → Mark → List A) (first : ℕ) (ms : List Mark) (x : Item) → all_of gives first (put first ms x) ≡ all_of gives first ms ++ given gives (state_of first ms) x
all-put {A = A} gives first ms x =
    elim (is_left_out (state_of first ms) x) as (λ b. all_of gives first (cond b ms (mark_of (state_of first ms) x ∷ ms)) ≡ all_of gives first ms ++ cond b none (gives (state_of first ms) (mark_of (state_of first ms) x)))
    [ true ↦ sym (append-nil (all_of gives first ms)) | false ↦ refl ]
  where
    none : List A
    none = []

-- ---- all items

pub well : (first : ℕ) (xs : List Item) → IsWell (past first xs)
well first [] = tt
well first (x ∷ xs) = well-put first (past first xs) x (well first xs)

pub state-run : (first : ℕ) (xs : List Item) → state_of first (past first xs) ≡ run first xs
state-run first [] = refl
state-run first (x ∷ xs) = state-put first (past first xs) x (well first xs) ∙ ap (λ (st : State). step st x) (state-run first xs)

pub all-run : {A : Type 0} (gives : State → Mark → List A) (first : ℕ) (xs : List Item) → all_of gives first (past first xs) ≡ all_given gives first xs
all-run gives first [] = refl
all-run gives first (x ∷ xs) =
    all-put gives first (past first xs) x
    ∙ (λ i. all-run gives first xs i ++ given gives (state-run first xs i) x)
