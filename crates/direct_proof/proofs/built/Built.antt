-- Each move that bytes can make keeps what is shared, and does as the device attached directly does.
use Rattle.std.proofs.Common.{◌≡◌, ℕ, ◌≤◌, Bool, true, false, List, [], ◌∷◌, map, Option, Some, None, is_some, refl, sym, ap, ◌∙◌, subst, arith, true≢false}
use Rattle.std.specs.List.{AllByRecursion as Each}
use Rattle.std.proofs.lemmas.Bool.{both_ways}
use Rattle.usb_base.specs.Endpoint.{is_in_endpoint}
use Rattle.usbip_op.specs.declared.packet.OpPacket.TheVariants as op
use Rattle.usbip_op.specs.declared.packet.OpWay.TheVariants.{Reply, Request}
use Rattle.usbip_urb.specs.ClientPackets.{IsClientPacket}
use Rattle.usbip_urb.specs.declared.client.ClientPacket.TheVariants.{Op, Urb}
use Rattle.usbip_urb.specs.declared.packet.Submit.{Submit as UrbSubmit}
use Rattle.usbip_urb.specs.declared.packet.UrbPacket.TheVariants as urb
use Rattle.redir_data.specs.declared.packet.RedirPacket.{RedirPacket}
use Rattle.redir_data.specs.declared.stream_kind.StreamKind.TheVariants.{Iso, Interrupt}
use Rattle.control_route.specs.Changes.{is_change, touches}
use Rattle.control_route.specs.declared.route.Route.{Route}
use Rattle.control_route.specs.declared.route.Route.TheVariants as route
use Rattle.model_device.specs.Gadget.{IsGadget}
use Rattle.model_device.specs.Meaning.{Meaning}
use Rattle.gate_history.specs.declared.item.Item.TheVariants.{Asked, ClientWrong, ClientLeft, Told, HostWrong, HostLeft}
use Rattle.gate_history.specs.step.Meaning.{verdict_of}
use Rattle.gate_history.specs.client.Requests.{request_of}
use Rattle.gate_history.specs.state.State.{State, has_number}
use Rattle.gate_history.specs.client.Submits.{Pending}
use Rattle.gate_history.specs.client.Ends.{is_touched}
use Rattle.gate_history.specs.state.Ups.{Up}
use Rattle.gate_history.specs.declared.verdict.Verdict.{Verdict}
use Rattle.gate_history.specs.declared.verdict.Verdict.TheVariants.{Routed, Stream}
use Rattle.direct_run.specs.Clients.{IsMove}
use Rattle.direct_run.specs.Moves.{World, Move, ByClient, HostReads, GateReads, Performs, Offers, Unplugs, move}
use Rattle.direct_proof.specs.Kinds.{TaggedOfKind}
use Rattle.direct_proof.specs.Deeds.{as_deeds}
use Rattle.direct_proof.proofs.races.Kinds.{EndsNone, HearsNoSwitch, IsRaceVerdict, ReadsReply, Stays}
use Rattle.direct_proof.specs.Related.{Related}
use Rattle.direct_proof.specs.Running.{stream_endpoint}
use Rattle.direct_proof.specs.Runs.{IsRun}
use Rattle.direct_proof.specs.Shared.{Shared}
use Rattle.direct_proof.proofs.streams.Kinds.{HearsSwitch, MovesStreams, ReadsStream}
use Rattle.direct_proof.specs.Tagged.{Tagged, Greeted, Plugged, ToldTable, ToldFaces, Answered, Packed, Stated, Bye, on_wire}
use Rattle.direct_proof.proofs.shared.Keeps.{Keeps}
use Rattle.direct_proof.proofs.races.Schedules.{keep-race}
use Rattle.direct_proof.proofs.streams.StreamMoves.{keep-stream}
use Rattle.direct_proof.proofs.streams.Told.{is-reply}

no-reply : Reply ≡ Request → ⊥
no-reply h = cc

-- ---- a route that is no change ends no stream

untouched : (x : Route) → is_change x ≡ false → (i : ℕ) → touches x i ≡ false
untouched (route.SetConfig c) h i = absurd (true≢false h)
untouched (route.SetAlt n a) h i = absurd (true≢false h)
untouched route.Reset h i = absurd (true≢false h)
untouched _ h i = refl

ends-none : (st : State) (x : Route) → is_change x ≡ false → EndsNone st x
ends-none st x h = record { ups = ups st.streams; waiting = waiting st.live }
  where
    stay : (o : Option Up) → Stays x o
    stay None = tt
    stay (Some up) = untouched x h up.row.interface

    ups : (os : List (Option Up)) → Each (Stays x) os
    ups [] = tt
    ups (o ∷ os) = (stay o, ups os)

    spared : (v : Verdict) → is_touched (Routed x) v ≡ false
    spared (Stream row) = untouched x h row.interface
    spared _ = refl

    waiting : (ps : List Pending) → Each (λ (p : Pending). is_touched (Routed x) p.submit.verdict ≡ false) ps
    waiting [] = tt
    waiting (p ∷ ps) = (spared p.submit.verdict, waiting ps)

module _ {S : Type 0} (m : Meaning S) (laws : IsGadget m) (w : World S) (j : Shared) (run : IsRun w.gate) (rel : Related m w j) where
  -- ---- a submit

  module _ (place : ℕ) (s : UrbSubmit) (read : IsClientPacket (Urb (urb.Submit s))) where
    race : IsRaceVerdict w.gate (verdict_of w.gate (request_of s)) → Keeps m w j (move as_deeds m w (ByClient (Asked place (Urb (urb.Submit s)))))
    race v = keep-race m laws w j (ByClient (Asked place (Urb (urb.Submit s)))) (record { read = read; new = λ a b. v }) run rel

    -- one that may be refused
    streams : (v : Verdict) → verdict_of w.gate (request_of s) ≡ v → MovesStreams v → Keeps m w j (move as_deeds m w (ByClient (Asked place (Urb (urb.Submit s)))))
    streams v e moves = go w.gate.sides.imported refl (has_number w.gate s.head.seqnum) refl
      where
        go : (a : Bool) → w.gate.sides.imported ≡ a → (b : Bool) → has_number w.gate s.head.seqnum ≡ b → Keeps m w j (move as_deeds m w (ByClient (Asked place (Urb (urb.Submit s)))))
        go true inside false new = keep-stream m laws w j (ByClient (Asked place (Urb (urb.Submit s)))) (inside, record { read = read; new = new; verdict = v; verdict-is = e; moves = moves }) run rel
        go true inside true taken = keep-race m laws w j (ByClient (Asked place (Urb (urb.Submit s)))) (record { read = read; new = λ a b. absurd (both_ways (has_number w.gate s.head.seqnum) b taken) }) run rel
        go false out b n = keep-race m laws w j (ByClient (Asked place (Urb (urb.Submit s)))) (record { read = read; new = λ a b. absurd (both_ways w.gate.sides.imported out a) }) run rel

    keep-any-submit : Keeps m w j (move as_deeds m w (ByClient (Asked place (Urb (urb.Submit s)))))
    keep-any-submit = go (verdict_of w.gate (request_of s)) refl
      where
        routed : (x : Route) → verdict_of w.gate (request_of s) ≡ Routed x → (b : Bool) → is_change x ≡ b → Keeps m w j (move as_deeds m w (ByClient (Asked place (Urb (urb.Submit s)))))
        routed x e true c = streams (Routed x) e c
        routed x e false c = race (subst (IsRaceVerdict w.gate) (sym e) (ends-none w.gate x c))

        go : (v : Verdict) → verdict_of w.gate (request_of s) ≡ v → Keeps m w j (move as_deeds m w (ByClient (Asked place (Urb (urb.Submit s)))))
        go (Routed x) e = routed x e (is_change x) refl
        go (Stream row) e = streams (Stream row) e tt
        go _ e = race (subst (IsRaceVerdict w.gate) (sym e) tt)

  -- ---- what is read

  keep-hears-any : Keeps m w j (move as_deeds m w HostReads)
  keep-hears-any = go w.to_host refl
    where
      by : (p : ℕ × RedirPacket) (ps : List (ℕ × RedirPacket)) → w.to_host ≡ p ∷ ps → (b : Bool) → is_some (stream_endpoint p.1) ≡ b → Keeps m w j (move as_deeds m w HostReads)
      by p ps e true c = keep-stream m laws w j HostReads (subst HearsSwitch (sym e) c) run rel
      by p ps e false c = keep-race m laws w j HostReads (subst HearsNoSwitch (sym e) c) run rel

      go : (ps : List (ℕ × RedirPacket)) → w.to_host ≡ ps → Keeps m w j (move as_deeds m w HostReads)
      go [] e = keep-stream m laws w j HostReads (subst HearsSwitch (sym e) tt) run rel
      go (p ∷ ps) e = by p ps e (is_some (stream_endpoint p.1)) refl

  keep-reads-any : (place : ℕ) → Keeps m w j (move as_deeds m w (GateReads place))
  keep-reads-any place = go j.back refl
    where
      is_in : (ep : ℕ) → 128 ≤ ep → is_in_endpoint ep ≡ true
      is_in ep h = grind (arith, h)

      stream : (b : Tagged) (bs : List Tagged) → j.back ≡ b ∷ bs → ReadsStream (map on_wire (b ∷ bs)) → Keeps m w j (move as_deeds m w (GateReads place))
      stream b bs e is = keep-stream m laws w j (GateReads place) (subst ReadsStream (sym (rel.answers ∙ ap (map on_wire) e)) is) run rel

      reply : (b : Tagged) (bs : List Tagged) → j.back ≡ b ∷ bs → ReadsReply (map on_wire (b ∷ bs)) → Keeps m w j (move as_deeds m w (GateReads place))
      reply b bs e is = keep-race m laws w j (GateReads place) (subst ReadsReply (sym (rel.answers ∙ ap (map on_wire) e)) is) run rel

      by : (b : Tagged) (bs : List Tagged) → j.back ≡ b ∷ bs → TaggedOfKind w.gate.streams b → Keeps m w j (move as_deeds m w (GateReads place))
      by (Packed Iso ep p) bs e is = stream (Packed Iso ep p) bs e tt
      by (Packed Interrupt ep p) bs e is = stream (Packed Interrupt ep p) bs e (is_in ep is.0)
      by (Stated Iso id ep status) bs e is = stream (Stated Iso id ep status) bs e tt
      by (Stated Interrupt id ep status) bs e is = stream (Stated Interrupt id ep status) bs e tt
      by (Answered c) bs e is = reply (Answered c) bs e (is-reply c is)
      by (ToldTable t) bs e is = reply (ToldTable t) bs e tt
      by (ToldFaces t) bs e is = reply (ToldFaces t) bs e tt
      by Greeted bs e is = reply Greeted bs e tt
      by (Plugged c) bs e is = reply (Plugged c) bs e tt
      by Bye bs e is = reply Bye bs e tt

      go : (bs : List Tagged) → j.back ≡ bs → Keeps m w j (move as_deeds m w (GateReads place))
      go [] e = keep-race m laws w j (GateReads place) (subst ReadsReply (sym (rel.answers ∙ ap (map on_wire) e)) tt) run rel
      go (b ∷ bs) e = by b bs e (subst (Each (TaggedOfKind w.gate.streams)) e rel.tagged).0

  -- ---- any move

  pub keep-any : (x : Move) → IsMove x → Keeps m w j (move as_deeds m w x)
  keep-any (ByClient (Asked place (Urb (urb.Submit s)))) is = keep-any-submit place s is
  keep-any (ByClient (Asked place (Urb (urb.Unlink u)))) is = keep-race m laws w j (ByClient (Asked place (Urb (urb.Unlink u)))) tt run rel
  keep-any (ByClient (Asked place (Op (op.ReqImport status busid)))) is = keep-race m laws w j (ByClient (Asked place (Op (op.ReqImport status busid)))) tt run rel
  keep-any (ByClient (Asked place (Op (op.ReqDevlist status)))) is = keep-race m laws w j (ByClient (Asked place (Op (op.ReqDevlist status)))) tt run rel
  keep-any (ByClient (Asked place (Urb (urb.RetSubmit u)))) is = absurd is
  keep-any (ByClient (Asked place (Urb (urb.RetUnlink u)))) is = absurd is
  keep-any (ByClient (Asked place (Op (op.RepDevlist status devices)))) is = absurd (no-reply is.0)
  keep-any (ByClient (Asked place (Op (op.RepImport status device)))) is = absurd (no-reply is.0)
  keep-any (ByClient (ClientWrong place reason)) is = keep-race m laws w j (ByClient (ClientWrong place reason)) tt run rel
  keep-any (ByClient ClientLeft) is = keep-race m laws w j (ByClient ClientLeft) tt run rel
  keep-any (ByClient (Told place header packet)) is = absurd is
  keep-any (ByClient (HostWrong place reason)) is = absurd is
  keep-any (ByClient HostLeft) is = absurd is
  keep-any HostReads is = keep-hears-any
  keep-any (GateReads place) is = keep-reads-any place
  keep-any (Performs ep) is = keep-race m laws w j (Performs ep) tt run rel
  keep-any (Offers ep) is = keep-stream m laws w j (Offers ep) tt run rel
  keep-any Unplugs is = keep-race m laws w j Unplugs tt run rel
