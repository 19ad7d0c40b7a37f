-- A move keeps what the two machines share with the device attached directly.
use Rattle.std.proofs.Common.{◌≡◌, Bool, true, false, List, [], ◌∷◌, ◌++◌, map, refl, sym, ap, ◌∙◌, subst, append-nil}
use Rattle.std.specs.List.{flat_map}
use Rattle.std.proofs.lemmas.Bool.{both_ways}
use Rattle.usbip_op.specs.declared.packet.OpPacket.{OpPacket}
use Rattle.usbip_urb.specs.declared.packet.UrbPacket.{UrbPacket}
use Rattle.usbip_urb.specs.declared.client.ClientPacket.{ClientPacket}
use Rattle.usbip_urb.specs.declared.client.ClientPacket.TheVariants.{Op, Urb}
use Rattle.model_device.specs.Meaning.{Meaning}
use Rattle.direct_run.specs.Moves.{World, Made, quiet, then_made}
use Rattle.direct_device.specs.Direct.{Direct}
use Rattle.direct_device.specs.Acting.{Deed, answers}
use Rattle.direct_device.specs.Legal.{acts, AreAllowed, all_answers}
use Rattle.direct_proof.specs.Shared.{Shared, view}
use Rattle.direct_proof.specs.Related.{Related}
use Rattle.direct_proof.specs.Runs.{urb_in}
use Rattle.direct_proof.proofs.answers.Answered.{IsDeed}
use Rattle.direct_proof.proofs.shared.Traces.{acts-append, allowed-append, answers-append}
use Rattle.direct_proof.proofs.shared.Folds.{gathers-append}

-- what a move did is what the device attached directly does
pub record Keeps {S : Type 0} (m : Meaning S) (w : World S) (j : Shared) (made : Made S Deed) : Type 0 where
  pub later : Shared
  pub related : Related m made.world later
  pub same : acts m (view w j) made.told ≡ view made.world later
  pub legal : AreAllowed m (view w j) made.told
  pub outs : flat_map urb_in made.outs ≡ all_answers m (view w j) made.told

urbs-append : (xs ys : List ClientPacket) → flat_map urb_in (xs ++ ys) ≡ flat_map urb_in xs ++ flat_map urb_in ys
urbs-append = gathers-append urb_in (flat_map urb_in) refl (λ x xs. refl)

pub urbs-mapped : (xs : List UrbPacket) → flat_map urb_in (map Urb xs) ≡ xs
urbs-mapped [] = refl
urbs-mapped (x ∷ xs) = ap (λ (l : List UrbPacket). x ∷ l) (urbs-mapped xs)

pub keeps-then : {S : Type 0} (m : Meaning S) (w : World S) (j : Shared) (x y : Made S Deed) → (k : Keeps m w j x) → Keeps m x.world k.later y → Keeps m w j (then_made x y)
keeps-then {S = S} m w j x y k n = record {
  later = n.later;
  related = n.related;
  same = acts-append m x.told y.told (view w j) ∙ ap (λ (d : Direct S). acts m d y.told) k.same ∙ n.same;
  legal = allowed-append m x.told y.told (view w j) k.legal (subst (λ (d : Direct S). AreAllowed m d y.told) (sym k.same) n.legal);
  outs = urbs-append x.outs y.outs ∙ (λ i. k.outs i ++ (n.outs ∙ ap (λ (d : Direct S). all_answers m d y.told) (sym k.same)) i) ∙ sym (answers-append m x.told y.told (view w j));
}

-- a move that only moves things
pub keeps-quiet : {S : Type 0} (m : Meaning S) (w : World S) (j later : Shared) (made : Made S Deed) (w' : World S) → made ≡ quiet w' → Related m w' later → view w j ≡ view w' later → Keeps m w j made
keeps-quiet {S = S} m w j later made w' is rel same = subst (Keeps m w j) (sym is) (record { later = later; related = rel; same = same; legal = tt; outs = refl })

-- a move that is one deed
pub keeps-deed : {S : Type 0} (m : Meaning S) (w : World S) (j later : Shared) (made : Made S Deed) (x : Deed) → IsDeed m w j made later x → Related m made.world later → Keeps m w j made
keeps-deed {S = S} m w j later made x is rel = record {
  later = later;
  related = rel;
  same = ap (acts m (view w j)) is.deeds ∙ is.same;
  legal = subst (AreAllowed m (view w j)) (sym is.deeds) (is.allowed, tt);
  outs = ap (flat_map urb_in) is.outs ∙ urbs-mapped (answers m (view w j) x) ∙ sym (append-nil (answers m (view w j) x)) ∙ ap (λ (l : List Deed). all_answers m (view w j) l) (sym is.deeds);
}

-- a move that answers only list and import requests, and is no deed
pub keeps-replied : {S : Type 0} (m : Meaning S) (w : World S) (j later : Shared) (made : Made S Deed) (w' : World S) (reply : OpPacket) → made ≡ record { world = w'; outs = Op reply ∷ []; told = [] } → Related m w' later → view w j ≡ view w' later → Keeps m w j made
keeps-replied {S = S} m w j later made w' reply is rel same = subst (Keeps m w j) (sym is) (record { later = later; related = rel; same = same; legal = tt; outs = refl })

-- while the host is there, the device isn't lost
pub not-lost : {S : Type 0} (m : Meaning S) (w : World S) (j : Shared) → Related m w j → w.host.unplugged ≡ false → w.gate.sides.lost ≡ false
not-lost m w j rel there = go w.gate.sides.lost refl
  where
    go : (b : Bool) → w.gate.sides.lost ≡ b → b ≡ false
    go true h = absurd (both_ways w.host.unplugged there (rel.lost h).1)
    go false h = refl

pub not-gone : {S : Type 0} (m : Meaning S) (w : World S) (j : Shared) → Related m w j → w.gate.sides.lost ≡ false → j.gone ≡ false
not-gone m w j rel there = go j.gone refl
  where
    go : (b : Bool) → j.gone ≡ b → b ≡ false
    go true h = absurd (both_ways w.gate.sides.lost there (rel.sides.gone h))
    go false h = refl
