-- What an item makes of the gateway that means nothing but a fact, or what the two agree on.
use Rattle.std.proofs.Common.{◌≡◌, ℕ, suc, List, [], ◌++◌, map, filter, Option, is_none, refl, ap, ◌∙◌, append-nil}
use Rattle.std.specs.List.{flat_map}
use Rattle.usbip_urb.specs.declared.client.ClientPacket.TheVariants.{Urb}
use Rattle.redir_wire.specs.declared.packet.Caps.{Caps}
use Rattle.redir_data.specs.declared.packet.RedirPacket.{RedirPacket}
use Rattle.gate_history.specs.step.Marks.{Fact, Idle, Agrees}
use Rattle.gate_history.specs.client.Submits.{Pending}
use Rattle.gate_history.specs.client.Ends.{ends}
use Rattle.gate_history.specs.write.Output.{present}
use Rattle.gate_history.specs.state.State.{State}
use Rattle.gate_history.specs.step.Machine.{live_after}
use Rattle.gate_history.specs.step.Meaning.{mark_as}
use Rattle.gate_history.specs.state.Facts.{tell}
use Rattle.gate_history.specs.declared.note.Note.TheVariants as note
use Rattle.gate_history.proofs.lemmas.Lists.{filter-all, filter-none, flat_map-none}
use Rattle.gate_history.proofs.lemmas.step.NoCancel.{asks-none, none-cancelled, stays-uncancelled}
use Rattle.direct_run.specs.Noted.{named}
use Rattle.direct_run.specs.Moves.{World, quiet, gate_made}
use Rattle.direct_device.specs.Acting.{Answer}
use Rattle.direct_proof.specs.Deeds.{as_deeds}

abbrev pub told_world : {S : Type 0} → World S → Caps → Option Fact → World S
told_world w caps fact = record w { gate = record w.gate { items = suc w.gate.items; facts = tell w.gate.facts fact; sides = record w.gate.sides { agreed = caps } } }

pub idle-made : {S : Type 0} (w : World S) (fact : Option Fact) → gate_made as_deeds w (mark_as w.gate Idle fact) ≡ quiet (told_world w w.gate.sides.agreed fact)
idle-made {S = S} w fact = λ i. record {
  world = record w {
    gate = record st { items = suc st.items; facts = tell st.facts fact; live = live i; abandoned = filter-all st.abandoned i };
    to_host = (ap (λ (l : List (ℕ × RedirPacket)). w.to_host ++ ((l ++ []) ++ [])) (none-cancelled Idle stays-uncancelled st.live) ∙ append-nil w.to_host) i;
    submits = (ap (λ (ps : List Pending). w.submits ++ flat_map named (((map (λ (p : Pending). note.Answered p.submit.request.seqnum) ps ++ []) ++ []) ++ [])) (filter-none (present st Idle)) ∙ append-nil w.submits) i;
  };
  outs = map Urb (flat_map-none (present st Idle) i);
  told = (ap (λ (ps : List Pending). (map (λ (p : Pending). Answer p.submit.request.seqnum) ps ++ []) ++ []) (filter-none (present st Idle))) i;
}
  where
    st : State
    st = w.gate

    live : live_after st Idle ≡ st.live
    live = asks-none Idle (λ s. refl) (filter (λ p. is_none (ends Idle p.submit)) (present st Idle)) ∙ filter-all (present st Idle) ∙ append-nil st.live

pub agrees-made : {S : Type 0} (w : World S) (caps : Caps) (fact : Option Fact) → gate_made as_deeds w (mark_as w.gate (Agrees caps) fact) ≡ quiet (told_world w caps fact)
agrees-made {S = S} w caps fact = λ i. record {
  world = record w {
    gate = record st { items = suc st.items; facts = tell st.facts fact; sides = record st.sides { agreed = caps }; live = live i; abandoned = filter-all st.abandoned i };
    to_host = (ap (λ (l : List (ℕ × RedirPacket)). w.to_host ++ ((l ++ []) ++ [])) (none-cancelled (Agrees caps) stays-uncancelled st.live) ∙ append-nil w.to_host) i;
    submits = (ap (λ (ps : List Pending). w.submits ++ flat_map named (((map (λ (p : Pending). note.Answered p.submit.request.seqnum) ps ++ []) ++ []) ++ [])) (filter-none (present st (Agrees caps))) ∙ append-nil w.submits) i;
  };
  outs = map Urb (flat_map-none (present st (Agrees caps)) i);
  told = (ap (λ (ps : List Pending). (map (λ (p : Pending). Answer p.submit.request.seqnum) ps ++ []) ++ []) (filter-none (present st (Agrees caps)))) i;
}
  where
    st : State
    st = w.gate

    live : live_after st (Agrees caps) ≡ st.live
    live = asks-none (Agrees caps) (λ s. refl) (filter (λ p. is_none (ends (Agrees caps) p.submit)) (present st (Agrees caps))) ∙ filter-all (present st (Agrees caps)) ∙ append-nil st.live
