-- What holds of each effect that neither accepts a submit nor is about a stream holds of what list and import requests
-- and the host's answers mean.
use Rattle.std.proofs.Common.{ℕ, Bool, true, false, cond, Option, Some, None}
use Rattle.usb_base.specs.declared.refusal.Refusal.{Refusal}
use Rattle.usb_base.specs.declared.transfer.Outcome.{Outcome}
use Rattle.usbip_op.specs.declared.packet.OpPacket.{OpPacket}
use Rattle.usbip_op.specs.declared.packet.OpPacket.TheVariants as op
use Rattle.redir_wire.specs.declared.packet.Connect.{Connect}
use Rattle.redir_wire.specs.declared.packet.Header.{Header}
use Rattle.usbip_urb.specs.declared.client.ClientPacket.TheVariants.{Op}
use Rattle.gate_history.specs.step.Marks.{Submission, Effect, Idle, Replies, Imports, Answers, Refuses}
use Rattle.gate_history.specs.host.Responses.{Response}
use Rattle.gate_history.specs.state.State.{State}
use Rattle.gate_history.specs.step.Meaning.{importable, imported_as, asked_meaning, answered_as, answer_to, by_response}

pub record HoldsAside (P : Effect → Type 0) : Type 0 where
  pub idle : P Idle
  pub replies : (p : OpPacket) → P (Replies p)
  pub imports : (p : OpPacket) → P (Imports p)
  pub answers : (id : ℕ) (o : Outcome) → P (Answers id o)
  pub refuses : (r : Refusal) → P (Refuses r)

pub by-test : (P : Effect → Type 0) (b : Bool) (e f : Effect) → P e → P f → P (cond b e f)
by-test P true e f h k = h
by-test P false e f h k = k

module _ (P : Effect → Type 0) (aside : HoldsAside P) where
  of-import : (st : State) (o : Option Connect) → P (imported_as st o)
  of-import st None = aside.replies _
  of-import st (Some c) = aside.imports _

  pub of-op : (st : State) (place : ℕ) (p : OpPacket) → P (asked_meaning st place (Op p))
  of-op st place (op.ReqDevlist status) = by-test P st.sides.imported _ _ (aside.refuses _) (aside.replies _)
  of-op st place (op.ReqImport status busid) = by-test P st.sides.imported _ _ (aside.refuses _) (of-import st (importable st busid))
  of-op st place (op.RepDevlist status devices) = aside.idle
  of-op st place (op.RepImport status device) = aside.idle

  of-answered : (id : ℕ) (o : Outcome) (r : Option Refusal) → P (answered_as id o r)
  of-answered id o None = aside.answers id o
  of-answered id o (Some r) = aside.refuses r

  of-answer : (st : State) (place : ℕ) (h : Header) (response : Response) (s : Option Submission) → P (answer_to st place h response s)
  of-answer st place h response None = aside.idle
  of-answer st place h response (Some s) = of-answered h.id _ _

  pub of-response : (st : State) (place : ℕ) (h : Header) (response : Option Response) → P (by_response st place h response)
  of-response st place h None = aside.idle
  of-response st place h (Some response) = of-answer st place h response _
