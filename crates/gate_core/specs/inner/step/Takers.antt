-- What the taker of either side's packets makes of the translator and the outputs that it borrows.
use Rattle.std.specs.Prelude.{◌≡◌, ℕ, false, Result, Ok, Err}
use Rattle.usb_base.specs.declared.memory.Memory.{Memory}
use Rattle.usb_base.specs.declared.reason.Reason.{Reason}
use Rattle.gate_history.specs.declared.item.Item.{Item}
use Rattle.gate_history.specs.state.State.{State}
use Rattle.gate_history.specs.state.Sound.{IsSound}
use Rattle.gate_history.specs.step.Fits.{IsItem}
use Rattle.gate_history.specs.step.Meaning.{mark_of}
use Rattle.gate_history.specs.step.Past.{is_left_out}
use Rattle.gate_history.specs.step.Wants.{GivesSome}
use Rattle.gate_parts.specs.declared.write.outputs.Outputs.{Outputs}
use Rattle.gate_core.specs.declared.state.kept.Kept.{Kept}
use Rattle.gate_core.specs.declared.step.taker.ItemTaker.{ItemTaker}
use Rattle.gate_core.specs.inner.state.Holds.{Holds, Does, DoesNothing}

-- the item that a packet is, or a wrong place
abbrev pub item_of : {P : Type 0} → (ℕ → P → Item) → (ℕ → Reason → Item) → ℕ → Result P Reason → Item
item_of packet wrong place (Ok p) = packet place p
item_of packet wrong place (Err reason) = wrong place reason

-- an item was taken
abbrev pub TakesItem : Kept → Kept → Item → Outputs → Outputs → Type 0
TakesItem old new item out_old out_new =
    (st : State) (x : Item) → IsItem item x → Holds old st → IsSound st → is_left_out st x ≡ false → Does st (mark_of st x) old new out_old out_new

-- memory was wanted for it, and nothing was done
abbrev pub LacksItem : Kept → Kept → Item → Outputs → Outputs → Type 0
LacksItem old new item out_old out_new =
    DoesNothing old new out_old out_new × ((st : State) (x : Item) → IsItem item x → Holds old st → IsSound st → GivesSome st (mark_of st x))

abbrev pub TakesBy : Result (Unit {0}) Memory → Kept → Kept → Item → Outputs → Outputs → Type 0
TakesBy (Ok v) old new item out_old out_new = TakesItem old new item out_old out_new
TakesBy (Err memory) old new item out_old out_new = LacksItem old new item out_old out_new

-- it borrows the same
pub record Borrows (old new : ItemTaker) : Type 0 where
  pub translator : new.translator.ghost_name ≡ old.translator.ghost_name
  pub out : new.out.ghost_name ≡ old.out.ghost_name

abbrev pub TakerTakes : {P : Type 0} → (ℕ → P → Item) → (ℕ → Reason → Item) → ℕ → Result P Reason → Result (Unit {0}) Memory → ItemTaker → ItemTaker → Type 0
TakerTakes packet wrong place found result old new = Borrows old new × TakesBy result old.translator.now new.translator.now (item_of packet wrong place found) old.out.now new.out.now
