-- Effects of the gateway with which no submit ends and nothing is sent.
use Rattle.std.proofs.Common.{◌≡◌, ℕ, suc, ◌&&◌, Bool, true, false, cond, List, [], ◌∷◌, ◌++◌, map, filter, Option, Some, None, is_none, refl, ap, ◌∙◌, append-nil}
use Rattle.std.specs.List.{flat_map}
use Rattle.usb_base.specs.declared.status.UsbStatus.TheVariants.{Success}
use Rattle.usb_base.specs.Status.{errno_of}
use Rattle.usbip_urb.specs.declared.client.ClientPacket.TheVariants.{Urb}
use Rattle.redir_data.specs.declared.packet.RedirPacket.{RedirPacket}
use Rattle.gate_history.specs.step.Marks.{Submission, Effect, Idle, StreamTold}
use Rattle.gate_history.specs.client.Submits.{Pending}
use Rattle.gate_history.specs.client.Ends.{ByStatus, ends, waits_at, answers_at}
use Rattle.gate_history.specs.step.Meaning.{mark_as}
use Rattle.gate_history.specs.step.Machine.{live_after}
use Rattle.gate_history.specs.state.StreamIds.{lifted}
use Rattle.gate_history.specs.write.Notes.{is_by_answer}
use Rattle.gate_history.specs.declared.note.Note.TheVariants as note
use Rattle.gate_history.proofs.lemmas.Lists.{filter-all}
use Rattle.gate_history.proofs.lemmas.step.NoCancel.{asks-none, none-cancelled, stays-uncancelled}
use Rattle.direct_run.specs.Noted.{named}
use Rattle.direct_device.specs.Acting.{Answer}
use Rattle.direct_run.specs.Moves.{World, gate_made, quiet}
use Rattle.direct_proof.specs.Deeds.{as_deeds}

-- where none of these ends
module _ (e : Effect) (none : (s : Submission) → ends e s ≡ None) where
  pub all-live : (ps : List Pending) → filter (λ p. is_none (ends e p.submit)) ps ≡ ps
  all-live [] = refl
  all-live (p ∷ ps) = λ i. cond (is_none (none p.submit i)) (p ∷ all-live ps i) (all-live ps i)

  pub none-told : (ps : List Pending) → filter (λ p. is_by_answer (ends e p.submit)) ps ≡ []
  none-told [] = refl
  none-told (p ∷ ps) = λ i. cond (is_by_answer (none p.submit i)) (p ∷ none-told ps i) (none-told ps i)

  pub none-given : (ps : List Pending) → flat_map (λ (p : Pending). answers_at p.submit p.unlinker (ends e p.submit)) ps ≡ []
  none-given [] = refl
  none-given (p ∷ ps) = λ i. answers_at p.submit p.unlinker (none p.submit i) ++ none-given ps i

abbrev pub idle_world : {S : Type 0} → World S → Option ℕ → World S
idle_world w fence = record w { gate = record w.gate { items = suc w.gate.items; fence = fence } }

pub idle-made : {S : Type 0} (w : World S) → gate_made as_deeds w (mark_as w.gate Idle None) ≡ quiet (idle_world w w.gate.fence)
idle-made w = λ i. record {
  world = record w {
    gate = record w.gate { items = suc w.gate.items; live = lives i; abandoned = filter-all w.gate.abandoned i };
    to_host = (ap (λ (l : List (ℕ × RedirPacket)). w.to_host ++ ((l ++ []) ++ [])) (none-cancelled Idle stays-uncancelled w.gate.live) ∙ append-nil w.to_host) i;
    submits = (ap (λ (ps : List Pending). w.submits ++ flat_map named ((((map (λ (p : Pending). note.Answered p.submit.request.seqnum) ps ++ []) ++ []) ++ []))) (none-told Idle (λ s. refl) (w.gate.live ++ [])) ∙ append-nil w.submits) i;
  };
  outs = ap (map Urb) (none-given Idle (λ s. refl) (w.gate.live ++ [])) i;
  told = ap (λ (ps : List Pending). (map (λ (p : Pending). Answer p.submit.request.seqnum) ps ++ []) ++ []) (none-told Idle (λ s. refl) (w.gate.live ++ [])) i;
}
  where
    lives : live_after w.gate Idle ≡ w.gate.live
    lives = asks-none Idle (λ s. refl) (filter (λ p. is_none (ends Idle p.submit)) (w.gate.live ++ [])) ∙ all-live Idle (λ s. refl) (w.gate.live ++ []) ∙ append-nil w.gate.live

-- a stream starts or stops as it was asked to
pub stated-made : {S : Type 0} (w : World S) (id ep : ℕ) → gate_made as_deeds w (mark_as w.gate (StreamTold id ep Success) None) ≡ quiet (idle_world w (lifted id w.gate.fence))
stated-made w id ep = λ i. record {
  world = record w {
    gate = record w.gate { items = suc w.gate.items; live = lives i; abandoned = filter-all w.gate.abandoned i; fence = lifted id w.gate.fence };
    to_host = (ap (λ (l : List (ℕ × RedirPacket)). w.to_host ++ ((l ++ []) ++ [])) (none-cancelled (StreamTold id ep Success) stays-uncancelled w.gate.live) ∙ append-nil w.to_host) i;
    submits = (ap (λ (ps : List Pending). w.submits ++ flat_map named ((((map (λ (p : Pending). note.Answered p.submit.request.seqnum) ps ++ []) ++ []) ++ []))) (none-told (StreamTold id ep Success) none (w.gate.live ++ [])) ∙ append-nil w.submits) i;
  };
  outs = ap (map Urb) (none-given (StreamTold id ep Success) none (w.gate.live ++ [])) i;
  told = ap (λ (ps : List Pending). (map (λ (p : Pending). Answer p.submit.request.seqnum) ps ++ []) ++ []) (none-told (StreamTold id ep Success) none (w.gate.live ++ [])) i;
}
  where
    none : (s : Submission) → ends (StreamTold id ep Success) s ≡ None
    none s = go (waits_at ep s)
      where
        go : (b : Bool) → cond (b && false) (Some (ByStatus (errno_of Success))) None ≡ None
        go true = refl
        go false = refl

    lives : live_after w.gate (StreamTold id ep Success) ≡ w.gate.live
    lives = asks-none (StreamTold id ep Success) (λ s. refl) (filter (λ p. is_none (ends (StreamTold id ep Success) p.submit)) (w.gate.live ++ [])) ∙ all-live (StreamTold id ep Success) none (w.gate.live ++ []) ∙ append-nil w.gate.live
