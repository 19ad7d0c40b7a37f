-- What a loss of the device leaves.
use Rattle.std.specs.Prelude.{◌≡◌, ℕ, ◌≤◌, true, false, List, [], ◌∷◌, ◌++◌, length, map}
use Rattle.std.specs.List.{AllByRecursion}
use Rattle.usbip_urb.specs.declared.client.ClientPacket.TheVariants.{Urb}
use Rattle.gate_history.specs.declared.item.Item.{Item}
use Rattle.gate_history.specs.state.Sides.{is_loss}
use Rattle.gate_history.specs.client.Submits.{live}
use Rattle.gate_history.specs.state.State.{State, state_of}
use Rattle.gate_history.specs.step.Meaning.{meaning, mark_of}
use Rattle.gate_history.specs.step.Past.{is_left_out, past}
use Rattle.gate_history.specs.client.Ends.{lost_answer}
use Rattle.gate_history.specs.write.Output.{to_client}

-- the item comes, and the device is lost with it
pub record Loses (st : State) (x : Item) : Type 0 where
  pub comes : is_left_out st x ≡ false
  pub loses : is_loss (meaning st x) ≡ true

-- nothing is live after it, each that was live gets one answer with it, and none that was accepted before is live later
pub record EndsAll (first : ℕ) (items : List Item) (x : Item) : Type 0 where
  pub none : live (past first (x ∷ items)) ≡ []
  pub answers : to_client (state_of first (past first items)) (mark_of (state_of first (past first items)) x) ≡ map (λ p. Urb (lost_answer p.submit.request p.unlinker)) (state_of first (past first items)).live
  pub later : (more : List Item) → AllByRecursion (λ s. length (past first (x ∷ items)) ≤ s.place) (live (past first (more ++ x ∷ items)))
