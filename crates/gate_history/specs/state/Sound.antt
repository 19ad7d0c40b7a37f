-- What is true of the state after every past.
use Rattle.std.specs.Prelude.{◌≡◌, ℕ, ◌≤◌, ◌<◌, true, false, List, [], ◌∷◌, ◌++◌, length, filter, None}
use Rattle.std.specs.List.{AllByRecursion}
use Rattle.usbip_urb.specs.declared.packet.UrbPacket.TheVariants as urb
use Rattle.usbip_urb.specs.declared.client.ClientPacket.TheVariants.{Urb}
use Rattle.usb_base.specs.declared.limits.TheConstants.{MAX_PACKETS}
use Rattle.usbip_urb.specs.declared.code.TheConstants.{MAX_LIVE}
use Rattle.gate_history.specs.declared.item.Item.{Item}
use Rattle.gate_history.specs.declared.item.Item.TheVariants.{Asked}
use Rattle.gate_history.specs.client.Ends.{has_id, at_once}
use Rattle.gate_history.specs.state.Ids.{AreFresh, greatest}
use Rattle.gate_history.specs.state.Flight.{wide_ids, in_flight}
use Rattle.gate_history.specs.state.State.{State, state_of, submits, is_number}
use Rattle.gate_history.specs.step.Meaning.{mark_of}
use Rattle.gate_history.specs.step.Past.{past}

pub record IsSound (st : State) : Type 0 where
  pub few : length st.live ≤ MAX_LIVE
  pub left : length st.abandoned ≤ MAX_LIVE
  -- a client imports once nothing is left of the former, and only one that has imported has submits
  pub apart : st.sides.imported ≡ true → st.abandoned ≡ []
  pub gone : st.sides.imported ≡ false → st.live ≡ []
  -- each submit stands before the next item
  pub places : AllByRecursion (λ s. s.place < st.items) (submits st)
  -- none has been answered where it was accepted
  pub going : AllByRecursion (λ s. at_once s.verdict ≡ None) (submits st)
  -- an id is that of one request at most, and so is a number
  pub ids : (id : ℕ) → length (filter (has_id id) (submits st ++ st.abandoned)) ≤ 1
  pub numbers : (number : ℕ) → length (filter (is_number number) (submits st)) ≤ 1

-- a submit has at most 1,024 descriptors, as each that is read
abbrev pub HasFewPackets : Item → Type 0
HasFewPackets (Asked place (Urb (urb.Submit s))) = length s.descs ≤ MAX_PACKETS
HasFewPackets _ = Unit {0}

-- of these items each draws ids that are in range and in flight nowhere, no two of them one
abbrev pub DrawFresh : ℕ → List Item → Type 0
DrawFresh first [] = Unit {0}
DrawFresh first (x ∷ xs) =
    AreFresh (greatest (wide_ids (state_of first (past first xs)).sides.agreed)) (in_flight (past first xs)) (mark_of (state_of first (past first xs)) x).drawn
    × DrawFresh first xs
