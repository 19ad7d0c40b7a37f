-- All moves of streams in one: each keeps what is shared, and does as the device attached directly does.
use Rattle.std.proofs.Common.{◌≡◌, ℕ, Bool, true, false, cond, List, [], ◌∷◌, map, Option, Some, None, is_some, refl, sym, ap, ◌∙◌, subst}
use Rattle.usbip_urb.specs.declared.client.ClientPacket.TheVariants.{Op, Urb}
use Rattle.usbip_urb.specs.declared.packet.Submit.{Submit as UrbSubmit}
use Rattle.usbip_urb.specs.declared.packet.UrbPacket.TheVariants as urb
use Rattle.redir_data.specs.declared.packet.RedirPacket.{RedirPacket}
use Rattle.model_device.specs.Meaning.{Meaning}
use Rattle.model_device.specs.Gadget.{IsGadget}
use Rattle.gate_history.specs.declared.item.Item.TheVariants.{Asked, ClientWrong, ClientLeft, Told, HostWrong, HostLeft}
use Rattle.gate_history.specs.step.Meaning.{mark_of, verdict_of}
use Rattle.gate_history.specs.client.Requests.{request_of}
use Rattle.gate_history.specs.declared.verdict.Verdict.{Verdict}
use Rattle.gate_history.specs.declared.verdict.Verdict.TheVariants.{Routed, Stream}
use Rattle.direct_run.specs.Moves.{World, Move, ByClient, HostReads, GateReads, Performs, Offers, Unplugs, move, quiet, gate_made, gate_reads, host_reads}
use Rattle.direct_proof.specs.Deeds.{as_deeds}
use Rattle.direct_proof.specs.Related.{Related}
use Rattle.direct_proof.specs.Running.{stream_endpoint}
use Rattle.direct_proof.specs.Runs.{IsRun}
use Rattle.direct_proof.specs.Shared.{Shared}
use Rattle.direct_proof.proofs.streams.Kinds.{MovesStreams, IsStreamSubmit, HearsSwitch, IsStreamPacket, ReadsStream, IsStreamMove}
use Rattle.direct_proof.specs.Tagged.{Tagged, Answered, Packed, Stated, on_wire}
use Rattle.direct_proof.proofs.shared.Keeps.{Keeps, keeps-quiet}
use Rattle.direct_proof.proofs.races.Gates.{run-sound}
use Rattle.direct_proof.proofs.submits.Ranged.{submit-load}
use Rattle.direct_proof.proofs.streams.hears.Offering.{keep-offers}
use Rattle.direct_proof.proofs.streams.hears.Switched.{keep-switches}
use Rattle.direct_proof.proofs.streams.reads.Stating.{keep-stated}
use Rattle.direct_proof.proofs.streams.reads.Arrived.{keep-packed}
use Rattle.direct_proof.proofs.streams.submits.StreamIn.{keep-stream-submit}
use Rattle.direct_proof.proofs.streams.changes.ChangeKept.{keep-change}
use Rattle.direct_proof.proofs.streams.gates.GateRuns.{run-gate, run-changing}
use Rattle.direct_proof.proofs.streams.Told.{is-reply, never-both}

-- a client that is over brings nothing
keep-submit : {S : Type 0} (m : Meaning S) (w : World S) (j : Shared) (place : ℕ) (s : UrbSubmit) → w.gate.sides.imported ≡ true → IsStreamSubmit w.gate s → IsRun w.gate → Related m w j → Keeps m w j (move as_deeds m w (ByClient (Asked place (Urb (urb.Submit s)))))
keep-submit {S = S} m w j place s imported is run rel = by w.gate.sides.client_over refl
  where
    go : w.gate.sides.client_over ≡ false → (v : Verdict) → verdict_of w.gate (request_of s) ≡ v → MovesStreams v → Keeps m w j (move as_deeds m w (ByClient (Asked place (Urb (urb.Submit s)))))
    go present (Stream row) e k = keep-stream-submit m w j place s row rel (run-gate w.gate run) imported present is.new e
    go present (Routed x) e k = keep-change m w j place s x k rel (run-changing w.gate x run rel.ups.count_is) imported present is.new e (submit-load w.gate s (Routed x) is.read e refl)
    go present _ e k = absurd k

    by : (b : Bool) → w.gate.sides.client_over ≡ b → Keeps m w j (move as_deeds m w (ByClient (Asked place (Urb (urb.Submit s)))))
    by true over = keeps-quiet m w j j (move as_deeds m w (ByClient (Asked place (Urb (urb.Submit s))))) w (λ i. cond (over i) (quiet w) (gate_made as_deeds w (mark_of w.gate (Asked place (Urb (urb.Submit s)))))) rel refl
    by false present = go present is.verdict is.verdict-is is.moves

pub keep-hears : {S : Type 0} (m : Meaning S) (w : World S) (j : Shared) → Related m w j → HearsSwitch w.to_host → Keeps m w j (move as_deeds m w HostReads)
keep-hears {S = S} m w j rel hears = go w.to_host refl
  where
    by : (q : ℕ × RedirPacket) (ps : List (ℕ × RedirPacket)) → w.to_host ≡ q ∷ ps → (o : Option ℕ) → stream_endpoint q.1 ≡ o → is_some o ≡ true → Keeps m w j (move as_deeds m w HostReads)
    by q ps e None c h = absurd (none h)
      where
        none : false ≡ true → ⊥
        none z = cc
    by q ps e (Some ep) c h = keep-switches m w j rel q ps e ep c

    go : (ps : List (ℕ × RedirPacket)) → w.to_host ≡ ps → Keeps m w j (move as_deeds m w HostReads)
    go [] e = keeps-quiet m w j j (move as_deeds m w HostReads) w (ap (host_reads as_deeds m w) e) rel refl
    go (q ∷ ps) e = by q ps e (stream_endpoint q.1) refl (subst HearsSwitch e hears)

abbrev pub with_back : Shared → List Tagged → Shared
with_back j bs = record j { back = bs }

pub keep-reads-stream : {S : Type 0} (m : Meaning S) (w : World S) (j : Shared) (place : ℕ) → Related m w j → IsRun w.gate → ReadsStream w.to_gate → Keeps m w j (move as_deeds m w (GateReads place))
keep-reads-stream {S = S} m w j place rel run reads = go j.back refl
  where
    by : (b : Tagged) (bs : List Tagged) → Related m w (with_back j (b ∷ bs)) → IsStreamPacket (on_wire b).1 → Keeps m w (with_back j (b ∷ bs)) (move as_deeds m w (GateReads place))
    by (Packed k ep p) bs r is = keep-packed m w j place k ep p bs (run-sound w.gate run) r
    by (Stated k id ep status) bs r is = keep-stated m w j place k id ep status bs r
    by (Answered c) bs r is = absurd (never-both (on_wire (Answered c)).1 (is-reply c r.tagged.0) is)
    by _ bs r is = absurd is

    go : (bs : List Tagged) → j.back ≡ bs → Keeps m w j (move as_deeds m w (GateReads place))
    go [] e = keeps-quiet m w j j (move as_deeds m w (GateReads place)) w (ap (gate_reads as_deeds w place) (rel.answers ∙ ap (map on_wire) e)) rel refl
    go (b ∷ bs) e = subst (λ (x : Shared). Keeps m w x (move as_deeds m w (GateReads place))) (λ i. with_back j (sym e i))
        (by b bs (subst (Related m w) (λ i. with_back j (e i)) rel) (subst ReadsStream (rel.answers ∙ ap (map on_wire) e) reads))

pub keep-stream : {S : Type 0} (m : Meaning S) → IsGadget m → (w : World S) (j : Shared) (x : Move) → IsStreamMove w x → IsRun w.gate → Related m w j → Keeps m w j (move as_deeds m w x)
keep-stream m laws w j (ByClient (Asked place (Urb (urb.Submit s)))) is run rel = keep-submit m w j place s is.0 is.1 run rel
keep-stream m laws w j HostReads is run rel = keep-hears m w j rel is
keep-stream m laws w j (GateReads place) is run rel = keep-reads-stream m w j place rel run is
keep-stream m laws w j (Offers ep) is run rel = keep-offers m laws w j ep rel
keep-stream m laws w j (Performs ep) is run rel = absurd is
keep-stream m laws w j Unplugs is run rel = absurd is
keep-stream m laws w j (ByClient (Asked place (Urb (urb.Unlink u)))) is run rel = absurd is
keep-stream m laws w j (ByClient (Asked place (Urb (urb.RetSubmit u)))) is run rel = absurd is
keep-stream m laws w j (ByClient (Asked place (Urb (urb.RetUnlink u)))) is run rel = absurd is
keep-stream m laws w j (ByClient (Asked place (Op p))) is run rel = absurd is
keep-stream m laws w j (ByClient (ClientWrong place reason)) is run rel = absurd is
keep-stream m laws w j (ByClient ClientLeft) is run rel = absurd is
keep-stream m laws w j (ByClient (Told place header packet)) is run rel = absurd is
keep-stream m laws w j (ByClient (HostWrong place reason)) is run rel = absurd is
keep-stream m laws w j (ByClient HostLeft) is run rel = absurd is
