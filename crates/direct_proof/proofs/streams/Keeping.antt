-- What the deeds of a move make of the device attached directly, whether it allows them, and what it answers to them.
use Rattle.std.proofs.Common.{◌≡◌, List, [], ◌++◌, map, refl, sym, ap, ◌∙◌, subst}
use Rattle.std.specs.List.{flat_map}
use Rattle.std.proofs.lemmas.List.{map-append}
use Rattle.usbip_urb.specs.declared.client.ClientPacket.{ClientPacket}
use Rattle.usbip_urb.specs.declared.client.ClientPacket.TheVariants.{Urb}
use Rattle.model_device.specs.Meaning.{Meaning}
use Rattle.direct_run.specs.Moves.{World, Made}
use Rattle.direct_device.specs.Direct.{Direct}
use Rattle.direct_device.specs.Acting.{Deed}
use Rattle.direct_device.specs.Legal.{acts, AreAllowed, all_answers}
use Rattle.direct_proof.specs.Shared.{Shared, view}
use Rattle.direct_proof.specs.Related.{Related}
use Rattle.direct_proof.specs.Runs.{urb_in}
use Rattle.direct_proof.proofs.shared.Traces.{acts-append, allowed-append, answers-append}
use Rattle.direct_proof.proofs.shared.Keeps.{Keeps, urbs-mapped}

pub record Does {S : Type 0} (m : Meaning S) (d : Direct S) (deeds : List Deed) (new : Direct S) (outs : List ClientPacket) : Type 0 where
  pub same : acts m d deeds ≡ new
  pub legal : AreAllowed m d deeds
  pub outs-are : outs ≡ map Urb (all_answers m d deeds)

pub does-then : {S : Type 0} (m : Meaning S) (d e f : Direct S) (xs ys : List Deed) (outs more : List ClientPacket) → Does m d xs e outs → Does m e ys f more → Does m d (xs ++ ys) f (outs ++ more)
does-then {S = S} m d e f xs ys outs more x y = record {
  same = acts-append m xs ys d ∙ ap (λ (z : Direct S). acts m z ys) x.same ∙ y.same;
  legal = allowed-append m xs ys d x.legal (subst (λ (z : Direct S). AreAllowed m z ys) (sym x.same) y.legal);
  outs-are = (λ i. x.outs-are i ++ (y.outs-are ∙ ap (λ (z : Direct S). map Urb (all_answers m z ys)) (sym x.same)) i)
      ∙ sym (map-append Urb (all_answers m d xs) (all_answers m (acts m d xs) ys))
      ∙ ap (map Urb) (sym (answers-append m xs ys d));
}

pub does-nothing : {S : Type 0} (m : Meaning S) (d new : Direct S) → d ≡ new → Does m d [] new []
does-nothing m d new same = record { same = same; legal = tt; outs-are = refl }

-- a move by what it makes
pub keeps-made : {S : Type 0} (m : Meaning S) (w : World S) (j later : Shared) (made : Made S Deed) (w' : World S) (outs : List ClientPacket) (deeds : List Deed) → made ≡ record { world = w'; outs = outs; told = deeds } → Related m w' later → Does m (view w j) deeds (view w' later) outs → Keeps m w j made
keeps-made m w j later made w' outs deeds is related does = subst (Keeps m w j) (sym is) (record {
  later = later;
  related = related;
  same = does.same;
  legal = does.legal;
  outs = ap (flat_map urb_in) does.outs-are ∙ urbs-mapped (all_answers m (view w j) deeds);
})
