-- What an item has the gateway say to its client: replies only before an import, and answers only behind it.
use Rattle.std.proofs.Common.{◌≡◌, ℕ, ◌||◌, not, Bool, true, false, cond, List, [], ◌∷◌, ◌++◌, map, Option, Some, None, refl, sym, ◌∙◌}
use Rattle.std.specs.Prelude.{pos}
use Rattle.std.specs.List.{list_any}
use Rattle.std.proofs.lemmas.Bool.{not-false}
use Rattle.usb_base.specs.declared.refusal.Refusal.{Refusal}
use Rattle.usb_base.specs.declared.reason.Reason.TheVariants.{AlreadyImported}
use Rattle.usb_base.specs.declared.side.Side.TheVariants.{Client}
use Rattle.usb_base.specs.declared.transfer.Outcome.{Outcome}
use Rattle.usb_base.specs.declared.transfer.StreamPacket.{StreamPacket}
use Rattle.usb_base.specs.Endpoint.{is_in_endpoint}
use Rattle.usbip_op.specs.declared.packet.OpPacket.{OpPacket}
use Rattle.usbip_op.specs.declared.packet.OpPacket.TheVariants as op
use Rattle.usbip_urb.specs.declared.client.ClientPacket.TheVariants.{Op, Urb}
use Rattle.usbip_urb.specs.declared.packet.UrbPacket.{UrbPacket}
use Rattle.usbip_urb.specs.declared.packet.UrbPacket.TheVariants as urb
use Rattle.redir_wire.specs.declared.packet.Connect.{Connect}
use Rattle.redir_wire.specs.declared.packet.Header.{Header}
use Rattle.redir_wire.specs.declared.packet.RedirControl.TheVariants as plain
use Rattle.redir_data.specs.declared.packet.RedirData.{RedirData}
use Rattle.redir_data.specs.declared.packet.RedirData.TheVariants as moving
use Rattle.redir_data.specs.declared.packet.RedirPacket.{RedirPacket}
use Rattle.redir_data.specs.declared.packet.RedirPacket.TheVariants.{Plain, Carrying}
use Rattle.redir_data.specs.declared.stream_kind.StreamKind.{StreamKind}
use Rattle.redir_data.specs.declared.stream_kind.StreamKind.TheVariants.{Iso, Interrupt}
use Rattle.gate_history.specs.write.Answers.{ret_unlink}
use Rattle.gate_history.specs.declared.item.Item.{Item}
use Rattle.gate_history.specs.declared.item.Item.TheVariants.{Asked, ClientWrong, ClientLeft, Told, HostWrong, HostLeft}
use Rattle.gate_history.specs.step.Marks.{Submission, Effect, Replies, Unlinks}
use Rattle.gate_history.specs.step.Meaning.{meaning, refused, imported_as, importable, asked_meaning, accepts, accepted_as, submission, by_stream, drawn_for, verdict_of, told_meaning, by_response, answer_to, answered_as, arrives}
use Rattle.gate_history.specs.write.Output.{replies, is_target, is_taken}
use Rattle.gate_history.specs.step.Past.{is_left_out}
use Rattle.gate_history.specs.client.Replies.{list_reply, failed_import, import_reply}
use Rattle.gate_history.specs.declared.request.Request.{Request}
use Rattle.gate_history.specs.client.Requests.{request_of}
use Rattle.gate_history.specs.host.Responses.{Response, response_of}
use Rattle.gate_history.specs.state.Sides.{ends_client, imports}
use Rattle.gate_history.specs.state.State.{State, has_number}
use Rattle.gate_history.specs.client.Submits.{Pending, opened}
use Rattle.gate_history.specs.state.Ups.{Up, stream_at, stream_of}
use Rattle.gate_history.specs.declared.verdict.Verdict.{Verdict}
use Rattle.gate_history.specs.declared.verdict.Verdict.TheVariants.{Now}
use Rattle.direct_proof.specs.Simulates.{is_import}

pub record Replying (st : State) (e : Effect) : Type 0 where
  pub ops : List OpPacket
  pub urbs : List UrbPacket
  pub said : replies st e ≡ map Op ops ++ map Urb urbs
  pub ends : ends_client e ≡ false
  pub before : st.sides.imported ≡ true → ops ≡ []
  pub on : st.sides.client_over ≡ true → ops ≡ []
  pub success : list_any is_import ops ≡ imports e
  pub behind : st.sides.imported ≡ false → (urbs ≡ []) × (opened e ≡ [])

-- it says nothing, and opens nothing
silent : (st : State) (e : Effect) → replies st e ≡ [] → ends_client e ≡ false → opened e ≡ [] → imports e ≡ false → Replying st e
silent st e says ends opens none = record { ops = []; urbs = []; said = says; ends = ends; before = λ h. refl; on = λ h. refl; success = sym none; behind = λ h. (refl, opens) }

by-test : (st : State) (b : Bool) (e f : Effect) → (b ≡ true → Replying st e) → (b ≡ false → Replying st f) → Replying st (cond b e f)
by-test st true e f h k = h refl
by-test st false e f h k = k refl

-- ---- the host's items

answered-says : (st : State) (id : ℕ) (o : Outcome) (r : Option Refusal) → Replying st (answered_as id o r)
answered-says st id o None = silent st (answered_as id o None) refl refl refl refl
answered-says st id o (Some r) = silent st (answered_as id o (Some r)) refl refl refl refl

answer-says : (st : State) (place : ℕ) (h : Header) (response : Response) (s : Option Submission) → Replying st (answer_to st place h response s)
answer-says st place h response None = silent st (answer_to st place h response None) refl refl refl refl
answer-says st place h response (Some s) = answered-says st h.id _ _

response-says : (st : State) (place : ℕ) (h : Header) (response : Option Response) → Replying st (by_response st place h response)
response-says st place h None = silent st (by_response st place h None) refl refl refl refl
response-says st place h (Some response) = answer-says st place h response _

arrival-says : (st : State) (ep : ℕ) (kind : StreamKind) (packet : StreamPacket) (o : Option Up) → Replying st (arrives st ep kind packet o)
arrival-says st ep kind packet None = silent st (arrives st ep kind packet None) refl refl refl refl
arrival-says st ep kind packet (Some up) = silent st (arrives st ep kind packet (Some up)) refl refl refl refl

data-says : (st : State) (place : ℕ) (h : Header) (d : RedirData) → Replying st (told_meaning st place h (Carrying d))
data-says st place h (moving.Interrupt endpoint status length body) =
    by-test st (is_in_endpoint endpoint) _ _ (λ k. arrival-says st endpoint Interrupt _ (stream_of st.streams endpoint)) (λ k. response-says st place h _)
data-says st place h (moving.Iso endpoint status length body) =
    by-test st (is_in_endpoint endpoint) _ _ (λ k. arrival-says st endpoint Iso _ (stream_of st.streams endpoint)) (λ k. silent st _ refl refl refl refl)
data-says st place h d = response-says st place h (response_of (Carrying d))

told-says : (st : State) (place : ℕ) (h : Header) (p : RedirPacket) → Replying st (told_meaning st place h p)
told-says st place h (Plain (plain.Hello hello)) = silent st _ refl refl refl refl
told-says st place h (Plain plain.Disconnect) = silent st _ refl refl refl refl
told-says st place h (Plain (plain.IsoStatus status endpoint)) = silent st _ refl refl refl refl
told-says st place h (Plain (plain.InterruptStatus status endpoint)) = silent st _ refl refl refl refl
told-says st place h (Carrying d) = data-says st place h d
told-says st place h p = response-says st place h (response_of p)

-- ---- the client's, while it isn't over

module _ (st : State) (there : st.sides.client_over ≡ false) where
  not-over : {A : Type 0} → st.sides.client_over ≡ true → A
  not-over h = absurd (let bad : true ≡ false = sym h ∙ there in cc)

  no-import : {A : Type 0} → st.sides.imported ≡ false → st.sides.imported ≡ true → A
  no-import out h = absurd (let bad : true ≡ false = sym h ∙ out in cc)

  import-says : st.sides.imported ≡ false → (o : Option Connect) → Replying st (imported_as st o)
  import-says out None = record { ops = failed_import ∷ []; urbs = []; said = refl; ends = refl; before = no-import out; on = not-over; success = refl; behind = λ h. (refl, refl) }
  import-says out (Some c) = record { ops = import_reply st.facts c ∷ []; urbs = []; said = refl; ends = refl; before = no-import out; on = not-over; success = refl; behind = λ h. (refl, refl) }

  op-says : (place : ℕ) (p : OpPacket) → Replying st (asked_meaning st place (Op p))
  op-says place (op.ReqDevlist status) =
      by-test st st.sides.imported (refused Client place AlreadyImported) (Replies (list_reply st.facts)) (λ h. silent st (refused Client place AlreadyImported) refl refl refl refl)
      (λ out. record { ops = list_reply st.facts ∷ []; urbs = []; said = refl; ends = refl; before = no-import out; on = not-over; success = refl; behind = λ h. (refl, refl) })
  op-says place (op.ReqImport status busid) =
      by-test st st.sides.imported (refused Client place AlreadyImported) (imported_as st (importable st busid)) (λ h. silent st (refused Client place AlreadyImported) refl refl refl refl) (λ out. import-says out (importable st busid))
  op-says place (op.RepDevlist status devices) = silent st _ refl refl refl refl
  op-says place (op.RepImport status device) = silent st _ refl refl refl refl

  -- behind an import
  accepted-says : st.sides.imported ≡ true → (s : Submission) (v : Verdict) → Replying st (accepted_as st s v)
  accepted-says inside s (Now status) = record { ops = []; urbs = []; said = refl; ends = refl; before = λ h. refl; on = λ h. refl; success = refl; behind = λ h. no-import h inside }
  accepted-says inside s _ = record { ops = []; urbs = []; said = refl; ends = refl; before = λ h. refl; on = λ h. refl; success = refl; behind = λ h. no-import h inside }

  submit-says : st.sides.imported ≡ true → (r : Request) (v : Verdict) → Replying st (accepts st r v)
  submit-says inside r v = let kept = by_stream (stream_at st.streams r.transfer.ep) v in accepted-says inside (submission st r kept (drawn_for st r kept)) kept

  unlink-says : st.sides.imported ≡ true → (by target : ℕ) → Replying st (Unlinks by target)
  unlink-says inside by target = record { ops = []; urbs = cond won [] (late ∷ []); said = spread won; ends = refl; before = λ h. refl; on = λ h. refl; success = refl; behind = λ h. no-import h inside }
    where
      won : Bool
      won = list_any (λ (p : Pending). is_target target p || is_taken target p) st.live

      late : UrbPacket
      late = ret_unlink by (pos 0)

      spread : (b : Bool) → cond b [] (Urb late ∷ []) ≡ map Urb (cond b [] (late ∷ []))
      spread true = refl
      spread false = refl

  urb-says : (place : ℕ) (p : UrbPacket) → Replying st (asked_meaning st place (Urb p))
  urb-says place (urb.Submit s) =
      by-test st (not st.sides.imported) _ _ (λ h. silent st _ refl refl refl refl) (λ h. by-test st (has_number st s.head.seqnum) _ _ (λ k. silent st _ refl refl refl refl) (λ k. submit-says (not-false st.sides.imported h) (request_of s) (verdict_of st (request_of s))))
  urb-says place (urb.Unlink u) = by-test st (not st.sides.imported) _ _ (λ h. silent st _ refl refl refl refl) (λ h. unlink-says (not-false st.sides.imported h) u.head.seqnum u.target)
  urb-says place (urb.RetSubmit r) = silent st _ refl refl refl refl
  urb-says place (urb.RetUnlink r) = silent st _ refl refl refl refl

-- ---- all but a client's end

abbrev pub IsNoEnd : Item → Type 0
IsNoEnd ClientLeft = ⊥
IsNoEnd _ = Unit {0}

pub item-says : (st : State) (x : Item) → is_left_out st x ≡ false → IsNoEnd x → Replying st (meaning st x)
item-says st (Asked place (Op p)) there k = op-says st there place p
item-says st (Asked place (Urb p)) there k = urb-says st there place p
item-says st (ClientWrong place reason) there k = silent st _ refl refl refl refl
item-says st ClientLeft there k = absurd k
item-says st (Told place header packet) there k = told-says st place header packet
item-says st (HostWrong place reason) there k = silent st _ refl refl refl refl
item-says st HostLeft there k = silent st _ refl refl refl refl
