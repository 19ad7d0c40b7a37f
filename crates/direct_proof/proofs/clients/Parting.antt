-- What a client's end, its wrong place and its refusals keep.
use Rattle.std.proofs.Common.{◌≡◌, ℕ, not, Bool, true, false, cond, List, [], ◌++◌, length, map, filter, zip, Option, None, refl, sym, ap, ◌∙◌, subst, append-nil}
use Rattle.usb_base.specs.declared.reason.Reason.{Reason}
use Rattle.usb_base.specs.declared.side.Side.TheVariants.{Client}
use Rattle.usbip_urb.specs.declared.client.ClientPacket.{ClientPacket}
use Rattle.model_device.specs.Meaning.{Meaning}
use Rattle.gate_history.specs.declared.item.Item.TheVariants.{Asked, ClientWrong, ClientLeft}
use Rattle.gate_history.specs.step.Marks.{Effect, Ends}
use Rattle.gate_history.specs.step.Meaning.{mark_as, mark_of, meaning, refused}
use Rattle.gate_history.specs.write.Output.{cancels, cancel}
use Rattle.gate_history.specs.state.Sound.{IsSound}
use Rattle.gate_history.specs.state.State.{State, next_ids}
use Rattle.gate_history.specs.client.Submits.{Pending}
use Rattle.gate_history.specs.state.Ups.{Up, is_ended, no_streams}
use Rattle.std.specs.List.{last_or}
use Rattle.std.proofs.lemmas.Bool.{both_ways}
use Rattle.gate_history.specs.state.StreamIds.{stream_ids_after}
use Rattle.gate_history.specs.state.Ids.{last_of}
use Rattle.gate_history.specs.write.Packets.{stops}
use Rattle.gate_history.specs.state.Sides.{ends_client, refuses_client, turned}
use Rattle.gate_history.specs.client.Verdict.{goes_by_id}
use Rattle.direct_run.specs.Moves.{World, ByClient, Made, gate_made, move, quiet}
use Rattle.direct_device.specs.Acting.{Deed, ClientGone}
use Rattle.direct_device.specs.Direct.{Waiting, no_way}
use Rattle.direct_proof.specs.Deeds.{as_deeds, when}
use Rattle.direct_proof.specs.Related.{Related}
use Rattle.direct_proof.specs.Shared.{Shared, view}
use Rattle.direct_proof.specs.Runs.{IsRun}
use Rattle.direct_proof.proofs.clients.Leaves.{ClientGoes, end-leaves, refusal-leaves}
use Rattle.direct_proof.proofs.leaving.Left.{leaving-made, left_world}
use Rattle.direct_proof.proofs.leaving.Leaving.{keep-gone}
use Rattle.direct_proof.proofs.races.Gates.{run-sound}
use Rattle.direct_proof.proofs.shared.Counted.{counted_world, counted-related}
use Rattle.direct_proof.proofs.shared.Keeps.{Keeps, keeps-deed, keeps-quiet}

module _ {S : Type 0} (m : Meaning S) (w : World S) (j : Shared) (rel : Related m w j) (run : IsRun w.gate) where
  abbrev st : State
  st = w.gate

  sound : IsSound w.gate
  sound = run-sound w.gate run

  -- one that hasn't imported leaves nothing
  keep-outside : (e : Effect) → ClientGoes st e → st.sides.imported ≡ false → Keeps m w j (gate_made as_deeds w (mark_as st e None))
  keep-outside e l out = go st.sides.client_over refl
    where
      downs : st.streams ≡ no_streams
      downs = rel.down out

      over : Bool
      over = turned refuses_client ends_client e st.sides.client_over

      new : World S
      new = counted_world w w.submits over

      stopped : List (Option Up) → List ℕ
      stopped ups = next_ids st (length (stops (is_ended None) ups))

      same : left_world w (cancels e) over ≡ new
      same = λ i. record w {
        gate = record new.gate {
          sides = record new.gate.sides { imported = sym out i };
          live = sym (sound.gone out) i;
          abandoned = (ap (λ (ps : List Pending). st.abandoned ++ filter (λ s. goes_by_id s.verdict) (map (λ (p : Pending). p.submit) ps)) (sound.gone out) ∙ append-nil st.abandoned) i;
          streams = sym downs i;
          stream_ids = stream_ids_after (zip (stopped (downs i)) (stops (is_ended None) (downs i))) st.stream_ids;
          fence = last_or st.fence (stopped (downs i));
          last = last_of st.last (stopped (downs i));
        };
        to_host = ((λ k. w.to_host ++ (map cancel (filter (cancels e) (sound.gone out k)) ++ zip (stopped (downs k)) (stops (is_ended None) (downs k)))) ∙ append-nil w.to_host) i;
      }

      made : gate_made as_deeds w (mark_as st e None) ≡ record { world = new; outs = []; told = when (not st.sides.client_over) ClientGone }
      made = leaving-made w e l ∙ (λ i. record { world = same i; outs = []; told = when (not st.sides.client_over) ClientGone })

      related : Related m new j
      related = counted-related m w j w.submits over rel rel.ids (λ h. out)

      go : (b : Bool) → st.sides.client_over ≡ b → Keeps m w j (gate_made as_deeds w (mark_as st e None))
      go true over = keeps-quiet m w j j (gate_made as_deeds w (mark_as st e None)) new (made ∙ (λ i. record { world = new; outs = []; told = when (not (over i)) ClientGone })) related refl
      go false on = keeps-deed m w j j (gate_made as_deeds w (mark_as st e None)) ClientGone (record {
        deeds = ap (λ (x : Made S Deed). x.told) made ∙ ap (λ (b : Bool). when (not b) ClientGone) on;
        outs = ap (λ (x : Made S Deed). x.outs) made;
        same = ap (λ (b : Bool). cond b (record (view w j) { live = []; queue = map (λ (q : Waiting). record q { asked = true }) (view w j).queue; ran = []; streams = no_streams; way = no_way; imported = false }) (view w j)) out ∙ ap (λ (x : Made S Deed). view x.world j) (sym made);
        allowed = tt;
      })
          (subst (λ (x : Made S Deed). Related m x.world j) (sym made) related)

  -- one that was refused has left
  still-on : st.sides.imported ≡ true → st.sides.client_over ≡ false
  still-on inside = go st.sides.client_over refl
    where
      go : (b : Bool) → st.sides.client_over ≡ b → b ≡ false
      go true h = absurd (both_ways st.sides.imported (rel.sides.refused h) inside)
      go false h = refl

  keep-parting : (e : Effect) → ClientGoes st e → Keeps m w j (gate_made as_deeds w (mark_as st e None))
  keep-parting e l = go st.sides.imported refl
    where
      go : (b : Bool) → st.sides.imported ≡ b → Keeps m w j (gate_made as_deeds w (mark_as st e None))
      go true inside = keep-gone m w j rel run e l inside (still-on inside)
      go false out = keep-outside e l out

  pub keep-end : Keeps m w j (move as_deeds m w (ByClient ClientLeft))
  keep-end = keep-parting (Ends Client) (end-leaves st)

  pub keep-wrong : (place : ℕ) (why : Reason) → Keeps m w j (move as_deeds m w (ByClient (ClientWrong place why)))
  keep-wrong place why = go st.sides.client_over refl
    where
      go : (b : Bool) → st.sides.client_over ≡ b → Keeps m w j (move as_deeds m w (ByClient (ClientWrong place why)))
      go true over = keeps-quiet m w j j (move as_deeds m w (ByClient (ClientWrong place why))) w (ap (λ (b : Bool). cond b (quiet w) (gate_made as_deeds w (mark_of st (ClientWrong place why)))) over) rel refl
      go false on = subst (Keeps m w j) (sym (ap (λ (b : Bool). cond b (quiet w) (gate_made as_deeds w (mark_of st (ClientWrong place why)))) on)) (keep-parting (refused Client place why) (refusal-leaves st place why))

  -- a request that may not be made
  pub keep-refused : (place at : ℕ) (packet : ClientPacket) (why : Reason) → meaning st (Asked place packet) ≡ refused Client at why → Keeps m w j (move as_deeds m w (ByClient (Asked place packet)))
  keep-refused place at packet why means = go st.sides.client_over refl
    where
      go : (b : Bool) → st.sides.client_over ≡ b → Keeps m w j (move as_deeds m w (ByClient (Asked place packet)))
      go true over = keeps-quiet m w j j (move as_deeds m w (ByClient (Asked place packet))) w (ap (λ (b : Bool). cond b (quiet w) (gate_made as_deeds w (mark_of st (Asked place packet)))) over) rel refl
      go false on = subst (Keeps m w j) (sym (λ i. cond (on i) (quiet w) (gate_made as_deeds w (mark_as st (means i) None)))) (keep-parting (refused Client at why) (refusal-leaves st at why))
