-- What an item gives: where a part of what it sends and tells is there, it gives some.
use Rattle.std.proofs.Common.{◌≡◌, ℕ, suc, ◌+◌, ◌<◌, ◌&&◌, Bool, true, false, cond, not, List, [], ◌∷◌, ◌++◌, length, map, Option, Some, None, refl, sym, ap, ◌∙◌, arith}
use Rattle.std.specs.Prelude.{is_none, filter, zip}
use Rattle.std.proofs.lemmas.List.{length-append, length-map}
use Rattle.usbip_op.specs.declared.packet.OpPacket.TheVariants as op
use Rattle.usbip_op.specs.declared.packet.OpWay.TheVariants as way
use Rattle.usbip_urb.specs.declared.packet.UrbPacket.TheVariants as urb
use Rattle.usbip_urb.specs.declared.client.ClientPacket.{ClientPacket}
use Rattle.usbip_urb.specs.declared.client.ClientPacket.TheVariants.{Op, Urb}
use Rattle.usbip_urb.specs.ClientPackets.{IsClientPacket}
use Rattle.redir_wire.specs.declared.packet.Connect.{Connect}
use Rattle.usb_base.specs.declared.reason.Reason.TheVariants.{AlreadyImported, NotImported, DuplicateSeq}
use Rattle.usb_base.specs.declared.refusal.Refusal.{Refusal}
use Rattle.usb_base.specs.declared.side.Side.TheVariants.{Client}
use Rattle.gate_history.specs.declared.note.Note.TheVariants as note
use Rattle.gate_history.specs.declared.verdict.Verdict.{Verdict}
use Rattle.gate_history.specs.declared.verdict.Verdict.TheVariants.{Now, Wire, Routed, IsoOut, Stream}
use Rattle.gate_history.specs.client.Verdict.{is_wire}
use Rattle.gate_history.specs.step.Marks.{Submission, Fact, Effect, Replies, Opens, Unlinks, Refuses, Mark}
use Rattle.gate_history.specs.client.Replies.{list_reply}
use Rattle.gate_history.specs.state.Sides.{refusal, refused_at, leaves, is_loss}
use Rattle.gate_history.specs.client.Submits.{Pending}
use Rattle.gate_history.specs.state.Ids.{greatest}
use Rattle.gate_history.specs.state.Flight.{wide_ids}
use Rattle.gate_history.specs.write.Packets.{asked_packets}
use Rattle.gate_history.specs.state.StreamIds.{asking}
use Rattle.gate_history.specs.state.State.{State, flying, has_number}
use Rattle.gate_history.specs.step.Meaning.{mark_as, drawn_by, refused, importable, imported_as, asked_meaning, accepted_as}
use Rattle.gate_history.specs.client.Ends.{lost_answer}
use Rattle.gate_history.specs.write.Output.{cancels, cancel, acknowledgements, to_client, to_host}
use Rattle.gate_history.specs.write.Notes.{when, came_notes, submit_notes, answer_notes, refusal_notes, notes_of}
use Rattle.gate_history.specs.step.Wants.{GivesSome}
use Rattle.gate_parts.specs.state.Rows.{row, is_cancelled_row}
use Rattle.gate_history.proofs.lemmas.state.Draws.{length-draws}
use Rattle.gate_history.proofs.lemmas.host.Losses.{all-lost}
use Rattle.gate_parts.proofs.lemmas.state.Rows.{wire-row}

-- ---- lists

length-zip : {X Y : Type 0} (xs : List X) (ys : List Y) → length xs ≡ length ys → length (zip xs ys) ≡ length ys
length-zip [] [] e = refl
length-zip [] (y ∷ ys) e = absurd (omega (arith, e))
length-zip (x ∷ xs) [] e = refl
length-zip (x ∷ xs) (y ∷ ys) e = omega (arith, length-zip xs ys (omega (arith, e)))

-- ---- the parts of what an item gives

module _ (st : State) (e : Effect) (told : Option Fact) where
  abbrev marked : Mark
  marked = mark_as st e told

  pub by-client : 0 < length (to_client st marked) → GivesSome st marked
  by-client some = omega (arith, some)

  pub by-host : 0 < length (to_host st marked) → GivesSome st marked
  by-host some = omega (arith, some)

  notes-counted : length (notes_of st marked)
      ≡ length (came_notes e) + length (submit_notes e) + length (answer_notes st e)
      + length (when (is_loss e && st.sides.imported && not st.sides.lost) note.DeviceGone) + length (when (leaves e && not st.sides.client_over) note.ClientGone) + length (refusal_notes (refused_at e))
  notes-counted =
      let a = came_notes e in
      let b = submit_notes e in
      let f = answer_notes st e in
      let g = when (is_loss e && st.sides.imported && not st.sides.lost) note.DeviceGone in
      let h = when (leaves e && not st.sides.client_over) note.ClientGone in
      let i = refusal_notes (refused_at e) in
      omega (
        arith,
        length-append a b,
        length-append (a ++ b) f,
        length-append (a ++ b ++ f) g,
        length-append (a ++ b ++ f ++ g) h,
        length-append (a ++ b ++ f ++ g ++ h) i,
      )

  pub by-coming : 0 < length (came_notes e) → GivesSome st marked
  by-coming some = omega (arith, some, notes-counted)

  pub by-submit : 0 < length (submit_notes e) → GivesSome st marked
  by-submit some = omega (arith, some, notes-counted)

  pub by-refusal : 0 < length (refusal_notes (refused_at e)) → GivesSome st marked
  by-refusal some = omega (arith, some, notes-counted)

  pub by-answer : 0 < length (answer_notes st e) → GivesSome st marked
  by-answer some = omega (arith, some, notes-counted)

  -- the device is gone
  pub by-loss : is_loss e ≡ true → (st.sides.imported && not st.sides.lost) ≡ true → GivesSome st marked
  by-loss loss gone =
      let one : length (when (is_loss e && st.sides.imported && not st.sides.lost) note.DeviceGone) ≡ 1 =
      (λ i. length (when ((loss i && st.sides.imported) && not st.sides.lost) note.DeviceGone)) ∙ ap (λ (b : Bool). length (when b note.DeviceGone)) gone in
      omega (arith, one, notes-counted)

  -- the client is
  pub by-leaving : leaves e ≡ true → not st.sides.client_over ≡ true → GivesSome st marked
  by-leaving left there =
      let one : length (when (leaves e && not st.sides.client_over) note.ClientGone) ≡ 1 =
      (λ i. length (when (left i && not st.sides.client_over) note.ClientGone)) ∙ ap (λ (b : Bool). length (when b note.ClientGone)) there in
      omega (arith, one, notes-counted)

  -- each request whose device is lost is answered
  pub by-lives : is_loss e ≡ true → 0 < length st.live → GivesSome st marked
  by-lives loss some = by-client (omega (arith, some, ap length (all-lost st marked loss), length-map st.live (λ (p : Pending). Urb (lost_answer p.submit.request p.unlinker))))

  host-counted : length (to_host st marked) ≡ length (map cancel (filter (cancels e) st.live)) + length (asking st.streams marked) + length (acknowledgements st.sides.agreed e)
  host-counted =
      let a = map cancel (filter (cancels e) st.live) in
      let b = asking st.streams marked in
      omega (arith, length-append a b, length-append (a ++ b) (acknowledgements st.sides.agreed e))

  pub by-word : 0 < length (acknowledgements st.sides.agreed e) → GivesSome st marked
  by-word some = by-host (omega (arith, some, host-counted))

  pub by-cancels : 0 < length (filter (cancels e) st.live) → GivesSome st marked
  by-cancels some = by-host (omega (arith, some, host-counted, length-map (filter (cancels e) st.live) cancel))

  -- a packet that asks the host for something has its id
  pub by-asked : 0 < length (asked_packets st.streams e) → GivesSome st marked
  by-asked some =
      let asked = asked_packets st.streams e in
      let ids : length (drawn_by st e) ≡ length asked = length-draws (greatest (wide_ids st.sides.agreed)) (flying st) st.last (length asked) in
      let zipped : length (asking st.streams marked) ≡ length asked = length-zip (drawn_by st e) asked ids in
      by-host (omega (arith, some, host-counted, zipped))

-- the cancels, by the rows
pub cancelled-some : (test : Pending → Bool) → ((p : Pending) → test p ≡ (is_wire p.submit.verdict && is_none p.unlinker)) → (ps : List Pending) → length (filter is_cancelled_row (map row ps)) ≡ length (filter test ps)
cancelled-some test h [] = refl
cancelled-some test h (p ∷ ps) =
    ap (λ (b : Bool). length (cond (b && is_none p.unlinker) (row p ∷ filter is_cancelled_row (map row ps)) (filter is_cancelled_row (map row ps)))) (wire-row p.submit.verdict p.submit.request.transfer.ep)
    ∙ ap (λ (b : Bool). length (cond b (row p ∷ filter is_cancelled_row (map row ps)) (filter is_cancelled_row (map row ps)))) (sym (h p))
    ∙ elim (test p) as (λ b. length (cond b (row p ∷ filter is_cancelled_row (map row ps)) (filter is_cancelled_row (map row ps))) ≡ length (cond b (p ∷ filter test ps) (filter test ps))) [
      | true ↦ ap suc (cancelled-some test h ps)
      | false ↦ cancelled-some test h ps
    ]

-- ---- a refusal is told

pub refusal-gives : (st : State) (r : Refusal) (told : Option Fact) → GivesSome st (mark_as st (Refuses r) told)
refusal-gives st r told = by-refusal st (Refuses r) told (omega arith)

-- ---- whatever a client asks is answered or told

opens-gives : (st : State) (s : Submission) (v : Verdict) → GivesSome st (mark_as st (accepted_as st s v) None)
opens-gives st s (Now status) = by-submit st (Opens s) None (omega arith)
opens-gives st s (Wire pipe) = by-submit st (Opens s) None (omega arith)
opens-gives st s (Routed r) = by-submit st (Opens s) None (omega arith)
opens-gives st s (IsoOut up) = by-submit st (Opens s) None (omega arith)
opens-gives st s (Stream up) = by-submit st (accepted_as st s (Stream up)) None (omega arith)

imports-gives : (st : State) (o : Option Connect) → GivesSome st (mark_as st (imported_as st o) None)
imports-gives st None = by-client st (imported_as st None) None (omega arith)
imports-gives st (Some c) = by-coming st (imported_as st (Some c)) None (omega arith)

chosen : (st : State) (b : Bool) (e f : Effect) → GivesSome st (mark_as st e None) → GivesSome st (mark_as st f None) → GivesSome st (mark_as st (cond b e f) None)
chosen st true e f h k = h
chosen st false e f h k = k

pub asked-gives : (st : State) (at : ℕ) (p : ClientPacket) → IsClientPacket p → GivesSome st (mark_as st (asked_meaning st at p) None)
asked-gives st at (Op (op.ReqDevlist status)) fits =
    chosen st st.sides.imported (refused Client at AlreadyImported) (Replies (list_reply st.facts)) (refusal-gives st (refusal Client at AlreadyImported) None) (by-client st (Replies (list_reply st.facts)) None (omega arith))
asked-gives st at (Op (op.ReqImport status busid)) fits =
    chosen st st.sides.imported _ _ (refusal-gives st (refusal Client at AlreadyImported) None) (imports-gives st (importable st busid))
asked-gives st at (Op (op.RepDevlist status devices)) fits = let e : way.Reply ≡ way.Request = fits.0 in absurd cc
asked-gives st at (Op (op.RepImport status device)) fits = let e : way.Reply ≡ way.Request = fits.0 in absurd cc
asked-gives st at (Urb (urb.Submit s)) fits =
    chosen st (not st.sides.imported) _ _ (refusal-gives st (refusal Client at NotImported) None)
    (chosen st (has_number st s.head.seqnum) _ _ (refusal-gives st (refusal Client (at + 4) DuplicateSeq) None) (opens-gives st _ _))
asked-gives st at (Urb (urb.Unlink u)) fits =
    chosen st (not st.sides.imported) (refused Client at NotImported) (Unlinks u.head.seqnum u.target) (refusal-gives st (refusal Client at NotImported) None) (by-coming st (Unlinks u.head.seqnum u.target) None (omega arith))
asked-gives st at (Urb (urb.RetSubmit r)) fits = absurd fits
asked-gives st at (Urb (urb.RetUnlink r)) fits = absurd fits
