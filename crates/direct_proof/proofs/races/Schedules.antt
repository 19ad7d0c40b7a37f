-- Each move of a run with races keeps what is shared.
use Rattle.std.proofs.Common.{◌≡◌, ℕ, ◌≤◌, Bool, true, false, List, [], ◌∷◌, map, refl, sym, ap, ◌∙◌, subst, arith, cond, not}
use Rattle.std.specs.List.{AllByRecursion as Each}
use Rattle.usb_base.specs.Endpoint.{is_in_endpoint}
use Rattle.usb_base.specs.declared.side.Side.TheVariants.{Client}
use Rattle.usb_base.specs.declared.reason.Reason.TheVariants.{NotImported, AlreadyImported}
use Rattle.usbip_op.specs.declared.packet.OpPacket.TheVariants as op
use Rattle.usbip_urb.specs.declared.packet.Unlink.{Unlink as UrbUnlink}
use Rattle.usbip_urb.specs.declared.packet.UrbPacket.TheVariants as urb
use Rattle.usbip_urb.specs.declared.client.ClientPacket.TheVariants.{Op, Urb}
use Rattle.redir_data.specs.declared.packet.RedirPacket.{RedirPacket}
use Rattle.redir_data.specs.declared.stream_kind.StreamKind.TheVariants.{Iso, Interrupt}
use Rattle.model_device.specs.Meaning.{Meaning}
use Rattle.model_device.specs.Gadget.{IsGadget}
use Rattle.gate_history.specs.declared.item.Item.TheVariants.{Asked, ClientWrong, ClientLeft, Told, HostWrong, HostLeft}
use Rattle.gate_history.specs.state.Sound.{IsSound}
use Rattle.gate_history.specs.step.Meaning.{refused, imported_as, importable}
use Rattle.gate_history.specs.step.Marks.{Unlinks, Replies}
use Rattle.gate_history.specs.client.Replies.{list_reply}
use Rattle.direct_run.specs.Moves.{World, Move, ByClient, HostReads, GateReads, Performs, Offers, Unplugs, move, gate_reads}
use Rattle.direct_proof.specs.Runs.{IsRun}
use Rattle.direct_proof.specs.Shared.{Shared}
use Rattle.direct_proof.specs.Deeds.{as_deeds}
use Rattle.direct_proof.specs.Tagged.{Tagged, Greeted, Plugged, ToldTable, ToldFaces, Answered, Packed, Stated, Bye, on_wire}
use Rattle.direct_proof.specs.Related.{Related}
use Rattle.direct_proof.specs.Cancels.{IsAsking}
use Rattle.direct_proof.proofs.meeting.Importing.{keep-import, keep-list}
use Rattle.direct_proof.proofs.races.Kinds.{IsRaceMove, HearsNoSwitch, ReadsReply, IsReply}
use Rattle.direct_proof.proofs.answers.Answered.{with_back}
use Rattle.direct_proof.proofs.meeting.Unplugging.{keep-unplug}
use Rattle.direct_proof.proofs.meeting.Losing.{keep-bye}
use Rattle.direct_proof.proofs.races.Gates.{run-sound}
use Rattle.direct_proof.proofs.unlinks.Unlinking.{keep-unlink}
use Rattle.direct_proof.proofs.heard.Hosts.{keep-reads-asked}
use Rattle.direct_proof.proofs.answers.Replying.{keep-answer}
use Rattle.direct_proof.proofs.meeting.Facts.{keep-table, keep-faces, keep-plugged, keep-greeted}
use Rattle.direct_proof.proofs.meeting.Meeting.{keep-hello}
use Rattle.direct_proof.proofs.performs.Performed.{keep-performs}
use Rattle.direct_proof.proofs.shared.Keeps.{Keeps, keeps-quiet}
use Rattle.direct_proof.proofs.races.Submits.{keep-submit}
use Rattle.direct_proof.proofs.clients.Parting.{keep-end, keep-wrong, keep-refused}

-- ---- the moves

keep-reads : {S : Type 0} (m : Meaning S) (w : World S) (j : Shared) (place : ℕ) → Related m w j → IsSound w.gate → ReadsReply w.to_gate → Keeps m w j (move as_deeds m w (GateReads place))
keep-reads {S = S} m w j place rel sound reply = go j.back refl
  where
    low : (ep : ℕ) → 128 ≤ ep → is_in_endpoint ep ≡ false → ⊥
    low ep h k = grind (arith, h, k)

    by : (b : Tagged) (bs : List Tagged) → Related m w (with_back j (b ∷ bs)) → IsReply (on_wire b).1 → Keeps m w (with_back j (b ∷ bs)) (move as_deeds m w (GateReads place))
    by (Answered c) bs r k = keep-answer m w j place c bs r sound
    by (ToldTable t) bs r k = keep-table m w j place t bs r
    by (ToldFaces t) bs r k = keep-faces m w j place t bs r
    by Greeted bs r k = keep-greeted m w j place bs r
    by (Plugged c) bs r k = keep-plugged m w j place c bs r
    by (Packed Iso ep p) bs r k = absurd k
    by (Packed Interrupt ep p) bs r k = absurd (low ep r.tagged.0.0 k)
    by (Stated Iso id ep status) bs r k = absurd k
    by (Stated Interrupt id ep status) bs r k = absurd k
    by Bye bs r k = subst (λ (l : List Tagged). Keeps m w (with_back j (Bye ∷ l)) (move as_deeds m w (GateReads place))) (sym (r.farewell.bye_last.0 refl)) (keep-bye m w j place (subst (λ (l : List Tagged). Related m w (with_back j (Bye ∷ l))) (r.farewell.bye_last.0 refl) r) sound)

    go : (bs : List Tagged) → j.back ≡ bs → Keeps m w j (move as_deeds m w (GateReads place))
    go [] e = keeps-quiet m w j j (move as_deeds m w (GateReads place)) w (ap (gate_reads as_deeds w place) (rel.answers ∙ ap (map on_wire) e)) rel refl
    go (b ∷ bs) e = subst (λ (x : Shared). Keeps m w x (move as_deeds m w (GateReads place))) (λ i. record j { back = sym e i })
        (by b bs (subst (Related m w) (λ i. record j { back = e i }) rel) (subst ReadsReply (rel.answers ∙ ap (map on_wire) e) reply))

-- ---- a client's requests, where they may be made and where not

keep-asked-back : {S : Type 0} (m : Meaning S) (w : World S) (j : Shared) (place : ℕ) (u : UrbUnlink) → Related m w j → IsRun w.gate → Keeps m w j (move as_deeds m w (ByClient (Asked place (Urb (urb.Unlink u)))))
keep-asked-back {S = S} m w j place u rel run = go w.gate.sides.imported refl
  where
    go : (b : Bool) → w.gate.sides.imported ≡ b → Keeps m w j (move as_deeds m w (ByClient (Asked place (Urb (urb.Unlink u)))))
    go true h = keep-unlink m w j place u rel (run-sound w.gate run) h
    go false h = keep-refused m w j rel run place place (Urb (urb.Unlink u)) NotImported (ap (λ (b : Bool). cond (not b) (refused Client place NotImported) (Unlinks u.head.seqnum u.target)) h)

keep-imports : {S : Type 0} (m : Meaning S) (w : World S) (j : Shared) (place status : ℕ) (busid : List ℕ) → Related m w j → IsRun w.gate → Keeps m w j (move as_deeds m w (ByClient (Asked place (Op (op.ReqImport status busid)))))
keep-imports {S = S} m w j place status busid rel run = go w.gate.sides.imported refl
  where
    go : (b : Bool) → w.gate.sides.imported ≡ b → Keeps m w j (move as_deeds m w (ByClient (Asked place (Op (op.ReqImport status busid)))))
    go true h = keep-refused m w j rel run place place (Op (op.ReqImport status busid)) AlreadyImported (ap (λ (b : Bool). cond b (refused Client place AlreadyImported) (imported_as w.gate (importable w.gate busid))) h)
    go false h = keep-import m w j place status busid rel (run-sound w.gate run) h

keep-lists : {S : Type 0} (m : Meaning S) (w : World S) (j : Shared) (place status : ℕ) → Related m w j → IsRun w.gate → Keeps m w j (move as_deeds m w (ByClient (Asked place (Op (op.ReqDevlist status)))))
keep-lists {S = S} m w j place status rel run = go w.gate.sides.imported refl
  where
    go : (b : Bool) → w.gate.sides.imported ≡ b → Keeps m w j (move as_deeds m w (ByClient (Asked place (Op (op.ReqDevlist status)))))
    go true h = keep-refused m w j rel run place place (Op (op.ReqDevlist status)) AlreadyImported (ap (λ (b : Bool). cond b (refused Client place AlreadyImported) (Replies (list_reply w.gate.facts))) h)
    go false h = keep-list m w j place status rel (run-sound w.gate run) h

-- ---- any move

pub keep-race : {S : Type 0} (m : Meaning S) → IsGadget m → (w : World S) (j : Shared) (x : Move) → IsRaceMove w x → IsRun w.gate → Related m w j → Keeps m w j (move as_deeds m w x)
keep-race m laws w j (ByClient (Asked place (Urb (urb.Submit s)))) is run rel = keep-submit m laws w j place s rel run is
keep-race m laws w j (ByClient (Asked place (Urb (urb.Unlink u)))) is run rel = keep-asked-back m w j place u rel run
keep-race {S = S} m laws w j HostReads is run rel = go w.host.guest.first refl
  where
    go : (b : Bool) → w.host.guest.first ≡ b → Keeps m w j (move as_deeds m w HostReads)
    go true fresh = keep-hello m w j rel fresh
    go false met = keep-reads-asked m w j w.to_host rel refl (λ p rest e. ((subst (Each (λ (q : ℕ × RedirPacket). IsAsking q.1)) e (rel.asked met)).0, subst HearsNoSwitch e is))
keep-race m laws w j (GateReads place) is run rel = keep-reads m w j place rel (run-sound w.gate run) is
keep-race m laws w j (Performs ep) is run rel = keep-performs m laws w j ep rel
keep-race m laws w j (ByClient (Asked place (Urb (urb.RetSubmit u)))) is run rel = absurd is
keep-race m laws w j (ByClient (Asked place (Urb (urb.RetUnlink u)))) is run rel = absurd is
keep-race m laws w j (ByClient (Asked place (Op (op.ReqImport status busid)))) is run rel = keep-imports m w j place status busid rel run
keep-race m laws w j (ByClient (Asked place (Op (op.ReqDevlist status)))) is run rel = keep-lists m w j place status rel run
keep-race m laws w j (ByClient (Asked place (Op (op.RepDevlist status devices)))) is run rel = absurd is
keep-race m laws w j (ByClient (Asked place (Op (op.RepImport status device)))) is run rel = absurd is
keep-race m laws w j (ByClient (ClientWrong place reason)) is run rel = keep-wrong m w j rel run place reason
keep-race m laws w j (ByClient ClientLeft) is run rel = keep-end m w j rel run
keep-race m laws w j (ByClient (Told place header packet)) is run rel = absurd is
keep-race m laws w j (ByClient (HostWrong place reason)) is run rel = absurd is
keep-race m laws w j (ByClient HostLeft) is run rel = absurd is
keep-race m laws w j (Offers ep) is run rel = absurd is
keep-race m laws w j Unplugs is run rel = keep-unplug m w j rel
