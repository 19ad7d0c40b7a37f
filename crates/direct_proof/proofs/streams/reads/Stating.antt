-- The gateway reads that a stream started or stopped as it was asked to.
use Rattle.std.proofs.Common.{◌≡◌, ℕ, suc, ◌+◌, ◌≤◌, ◌==◌, Bool, true, false, cond, List, [], ◌∷◌, map, Option, Some, None, refl, sym, ap, ◌∙◌, subst, arith}
use Rattle.std.specs.List.{AllByRecursion as Each}
use Rattle.usb_base.specs.declared.status.UsbStatus.TheVariants.{Success}
use Rattle.redir_data.specs.declared.packet.RedirPacket.{RedirPacket}
use Rattle.model_device.specs.Meaning.{Meaning}
use Rattle.gate_history.specs.state.Ids.{times}
use Rattle.gate_history.specs.declared.item.Item.TheVariants.{Told}
use Rattle.gate_history.specs.step.Marks.{StreamTold}
use Rattle.gate_history.specs.state.StreamIds.{lifted}
use Rattle.gate_history.specs.state.State.{State}
use Rattle.gate_history.specs.step.Meaning.{meaning, mark_as, fact_of}
use Rattle.gate_history.specs.state.Ups.{Up, stream_of}
use Rattle.direct_run.specs.Moves.{World, GateReads, move, quiet, gate_reads, gate_made}
use Rattle.direct_proof.specs.Deeds.{as_deeds}
use Rattle.redir_data.specs.Sent.{sent_header}
use Rattle.redir_data.specs.declared.stream_kind.StreamKind.{StreamKind}
use Rattle.redir_data.specs.declared.stream_kind.StreamKind.TheVariants.{Iso, Interrupt}
use Rattle.direct_proof.specs.Tagged.{Tagged, Stated, on_wire}
use Rattle.direct_proof.specs.Shared.{Shared, way_of, view}
use Rattle.direct_proof.specs.Related.{Related}
use Rattle.direct_proof.specs.StreamIds.{Fenced, statuses_on, stream_ids_on}
use Rattle.direct_proof.specs.Stale.{asks, ends}
use Rattle.direct_proof.proofs.shared.Keeps.{Keeps, keeps-quiet}
use Rattle.direct_proof.proofs.streams.fills.FillLists.{weight}
use Rattle.direct_proof.proofs.streams.wires.SortsMore.{all-asks-over, all-ends-over}
use Rattle.direct_proof.proofs.streams.wires.UpRows.{rows-refl}
use Rattle.direct_proof.proofs.streams.reads.Reading.{read_world, read-here, read-related, status-of}
use Rattle.direct_proof.proofs.streams.reads.Quiet.{stated-made}

stated-means : (st : State) (place : ℕ) (k : StreamKind) (id ep : ℕ) →
    mark_as st (meaning st (Told place (sent_header st.sides.agreed (on_wire (Stated k id ep 0))) (on_wire (Stated k id ep 0)).1)) (fact_of (on_wire (Stated k id ep 0)).1) ≡ mark_as st (StreamTold id ep Success) None
stated-means st place Iso id ep = refl
stated-means st place Interrupt id ep = refl

way-past : (up : Option Up) (e : ℕ) (k : StreamKind) (id ep status : ℕ) (bs : List Tagged) → way_of up e (Stated k id ep status ∷ bs) ≡ way_of up e bs
way-past None e k id ep status bs = refl
way-past (Some up) e k id ep status bs = refl

-- ---- the fence

pub each-refl : {X : Type 0} (f : X → Bool) (xs : List X) → Each (λ x. f x ≡ f x) xs
each-refl f [] = tt
each-refl f (x ∷ xs) = (refl, each-refl f xs)

-- how the fence may be after the status is read
record Lifts (id : ℕ) (fence : Option ℕ) (fenced : Bool) (ps : List (ℕ × RedirPacket)) (bs : List Tagged) : Type 0 where
  fenced-is : Fenced (lifted id fence) fenced ps bs
  asks_same : Each (λ p. asks fence p ≡ asks (lifted id fence) p) ps
  ends_same : Each (λ c. ends fence c ≡ ends (lifted id fence) c) bs

lifts : (id : ℕ) (fence : Option ℕ) (fenced : Bool) (ps : List (ℕ × RedirPacket)) (bs : List Tagged) → ((n : ℕ) → times n (stream_ids_on ps) + times n (id ∷ statuses_on bs) ≤ 1) → (b : Tagged) → statuses_on (b ∷ bs) ≡ id ∷ statuses_on bs → Fenced fence fenced ps (b ∷ bs) → Lifts id fence fenced ps bs
lifts id None fenced ps bs once b is h = record { fenced-is = h; asks_same = each-refl (asks None) ps; ends_same = each-refl (ends None) bs }
lifts id (Some f) fenced ps bs once b is h = by (f == id) refl
  where
    by : (x : Bool) → (f == id) ≡ x → Lifts id (Some f) fenced ps bs
    by true e =
        let o = once f in
        let z : weight (f == id) ≡ weight true = ap weight e in
        let stream_ids : times f (stream_ids_on ps) ≡ 0 = omega (arith, o, z) in
        let statuses : times f (statuses_on bs) ≡ 0 = omega (arith, o, z) in
        let over : lifted id (Some f) ≡ None = ap (λ (y : Bool). cond y None (Some f)) e in record {
          fenced-is = subst (λ (g : Option ℕ). Fenced g fenced ps bs) (sym over) (low fenced refl);
          asks_same = subst (λ (g : Option ℕ). Each (λ p. asks (Some f) p ≡ asks g p) ps) (sym over) (all-asks-over f ps stream_ids);
          ends_same = subst (λ (g : Option ℕ). Each (λ c. ends (Some f) c ≡ ends g c) bs) (sym over) (all-ends-over f bs statuses);
        }
      where
        low : (y : Bool) → fenced ≡ y → y ≡ false
        low false k = refl
        low true k = let z : weight (f == id) ≡ weight true = ap weight e in let n : times f (id ∷ statuses_on bs) ≡ 0 = ap (times f) (sym is) ∙ h.1 k in absurd (omega (arith, z, n))
    by false e =
        let same : lifted id (Some f) ≡ Some f = ap (λ (y : Bool). cond y None (Some f)) e in record {
          fenced-is = subst (λ (g : Option ℕ). Fenced g fenced ps bs) (sym same) (h.0, λ k. let n : times f (id ∷ statuses_on bs) ≡ 0 = ap (times f) (sym is) ∙ h.1 k in omega (arith, n));
          asks_same = subst (λ (g : Option ℕ). Each (λ p. asks (Some f) p ≡ asks g p) ps) (sym same) (each-refl (asks (Some f)) ps);
          ends_same = subst (λ (g : Option ℕ). Each (λ c. ends (Some f) c ≡ ends g c) bs) (sym same) (each-refl (ends (Some f)) bs);
        }

-- ---- what is kept

pub keep-stated : {S : Type 0} (m : Meaning S) (w : World S) (j : Shared) (place : ℕ) (k : StreamKind) (id ep status : ℕ) (bs : List Tagged) → Related m w (record j { back = Stated k id ep status ∷ bs }) →
    Keeps m w (record j { back = Stated k id ep status ∷ bs }) (move as_deeds m w (GateReads place))
keep-stated {S = S} m w j place k id ep status bs rel0 =
    subst (λ (n : ℕ). Related m w (record j { back = Stated k id ep n ∷ bs }) → Keeps m w (record j { back = Stated k id ep n ∷ bs }) (move as_deeds m w (GateReads place))) (sym rel0.tagged.0.2) zero-status rel0
  where
    zero-status : Related m w (record j { back = Stated k id ep 0 ∷ bs }) → Keeps m w (record j { back = Stated k id ep 0 ∷ bs }) (move as_deeds m w (GateReads place))
    zero-status rel = keeps-quiet m w (record j { back = Stated k id ep 0 ∷ bs }) (record j { back = bs }) (move as_deeds m w (GateReads place)) (read_world w bs (suc w.gate.items) w.gate.live w.gate.streams (lifted id w.gate.fence))
        (ap (gate_reads as_deeds w place) rel.answers
        ∙ (λ i. cond (rel.sides.reads i) (quiet (record w { to_gate = map on_wire bs })) (gate_made as_deeds (record w { to_gate = map on_wire bs }) (stated-means w.gate place k id ep i)))
        ∙ stated-made (record w { to_gate = map on_wire bs }) id ep)
        (read-related m w j (Stated k id ep 0) bs rel (suc w.gate.items) w.gate.live w.gate.streams (lifted id w.gate.fence) (record {
          packet = status-of k id ep 0;
          rows = rows-refl w.gate.streams;
          fits = rel.ups;
          down = rel.down;
          owes = refl;
          no_fence = λ h. ap (lifted id) h;
          fenced-is = l.fenced-is;
          asks_same = l.asks_same;
          ends_same = l.ends_same;
        }))
        (λ i. record (view w (record j { back = bs })) { way = λ e. way-past (stream_of w.gate.streams e) e k id ep 0 bs i })
      where
        here : w.gate.sides.lost ≡ false
        here = read-here m w j (Stated k id ep 0) bs rel

        l : Lifts id w.gate.fence j.fenced w.to_host bs
        l = lifts id w.gate.fence j.fenced w.to_host bs (rel.controls here).once (Stated k id ep 0) refl (rel.fenced here)
