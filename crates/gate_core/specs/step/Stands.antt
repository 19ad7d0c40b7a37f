-- When the gate stands for items and for events, and what one event more makes of it.
use Rattle.std.specs.Prelude.{◌≡◌, ◌⊎◌, ◌++◌, ◌∷◌, [], ℕ, Bool, true, false, List, length, map, filter}
use Rattle.usb_base.specs.Number.{AreBytes, capped}
use Rattle.usb_base.specs.declared.reason.Reason.{Reason}
use Rattle.usb_base.specs.declared.side.Side.{Side}
use Rattle.usb_base.specs.declared.side.Side.TheVariants.{Client, Host}
use Rattle.packet_stream.specs.Split.{Reader, Position, Splitting, split}
use Rattle.packet_stream.specs.Streams.{StreamView, Drained, Closed, Holds as IsLeft}
use Rattle.packet_stream.specs.Items.{onto}
use Rattle.gate_history.specs.declared.note.Note.{Note}
use Rattle.gate_history.specs.step.Events.{PastEvent, ClientPiece, HostPiece, client_bytes, host_bytes}
use Rattle.redir_data.specs.Streams.{stream_start}
use Rattle.gate_history.specs.step.Streams.{client_reader, client_start, host_reader}
use Rattle.gate_history.specs.declared.item.Item.{Item}
use Rattle.gate_history.specs.state.Sides.{client_over, host_over}
use Rattle.gate_history.specs.state.State.{State, state_of}
use Rattle.gate_history.specs.step.Past.{past}
use Rattle.gate_history.specs.step.History.{brought, arrivals, history}
use Rattle.gate_history.specs.write.Output.{to_client}
use Rattle.gate_history.specs.write.Notes.{dropped}
use Rattle.gate_history.specs.write.All.{all_of, is_ret_submit, is_won_unlink}
use Rattle.gate_history.specs.write.Bytes.{out_client, out_host}
use Rattle.gate_core.specs.declared.state.kept.Kept.{Kept}
use Rattle.gate_core.specs.state.Kept.{GateKept}
use Rattle.gate_parts.specs.state.Rows.{row, left_row, unmarked}
use Rattle.gate_history.specs.step.Wants.{IsHeld, FirstWants}
use Rattle.gate_history.specs.step.Came.{asked, told}
use Rattle.gate_history.specs.Headline.{Gains, EventSends}

-- it met want of memory: from then on it does nothing
abbrev pub GateHasFailed : GateKept → Type 0
GateHasFailed g = g.failed ≡ true

-- ---- items

-- what is kept is that of this state
pub record Holds (t : Kept) (st : State) : Type 0 where
  pub facts : t.facts ≡ st.facts
  pub sides : t.sides ≡ st.sides
  pub streams : t.streams ≡ st.streams
  pub stream_ids : t.stream_ids ≡ st.stream_ids
  pub fence : t.fence ≡ st.fence
  pub last : t.last ≡ st.last
  pub live : t.lives.live ≡ map row st.live
  pub abandoned : map unmarked t.lives.abandoned ≡ map left_row st.abandoned

-- it is that of the past of these items, and what they gave is counted
pub record Translates (first : ℕ) (t : Kept) (xs : List Item) : Type 0 where
  pub state : Holds t (state_of first (past first xs))
  pub answered : t.answered ≡ capped (length (filter is_ret_submit (all_of to_client first (past first xs))))
  pub unlinked : t.unlinked ≡ capped (length (filter is_won_unlink (all_of to_client first (past first xs))))
  pub dropped : t.dropped ≡ capped (length (all_of dropped first (past first xs)))

-- what these packets leave of the splitting is held; nothing is where the stream has met its wrong place, and memory
-- ran out for that
abbrev pub IsLeftBy : {S P : Type 0} → Reader S P Reason → StreamView S → Splitting S P Reason → List (ℕ × P) → Bool → Type 0
IsLeftBy r kept x given false = IsLeft r kept x given
IsLeftBy r kept x given true = Closed x given

-- a side's stream stands for these packets of its bytes; of a side that is over nothing is held
pub record StreamStands {S P : Type 0} (r : Reader S P Reason) (start : Position S) (kept : StreamView S) (bytes : List ℕ) (given : List (ℕ × P)) (over : Bool) : Type 0 where
  pub going : over ≡ false → IsLeftBy r kept (split r start bytes) given kept.over
  pub ended : over ≡ true → kept.over ≡ true
  pub none : kept.over ≡ true → kept.held ≡ []

-- the gate stands for these items of what has come with these events
pub record StandsFor (first : ℕ) (g : GateKept) (events : List PastEvent) (xs : List Item) : Type 0 where
  pub translates : Translates first g.items xs
  pub client : StreamStands client_reader client_start g.client (client_bytes events) (asked xs) (client_over (past first xs))
  pub host : StreamStands host_reader stream_start g.host (host_bytes events) (told xs) (host_over (past first xs))

-- ---- events

-- of a side that isn't over every packet was taken, and the rest is held
pub record HasAll {S P : Type 0} (r : Reader S P Reason) (start : Position S) (kept : StreamView S) (bytes : List ℕ) (given : List (ℕ × P)) (over : Bool) : Type 0 where
  pub over_is : kept.over ≡ over
  pub none : over ≡ true → kept.held ≡ []
  pub empty : over ≡ true → kept.rest ≡ []
  pub drained : over ≡ false → Drained kept (split r start bytes) given
  pub whole : over ≡ false → kept.held ≡ kept.rest
  pub place : over ≡ false → kept.at ≡ kept.place
  pub fits : AreBytes bytes

-- the gate works, and stands for all items of these events
pub record GateStands (first : ℕ) (g : GateKept) (events : List PastEvent) : Type 0 where
  pub works : g.failed ≡ false
  pub translates : Translates first g.items (arrivals events)
  pub client : HasAll client_reader client_start g.client (client_bytes events) (asked (arrivals events)) (client_over (history first events))
  pub host : HasAll host_reader stream_start g.host (host_bytes events) (told (arrivals events)) (host_over (history first events))

-- it stands for some events
abbrev pub HasPast : GateKept → Type 0
HasPast g = ∥ ((first : ℕ) × ((events : List PastEvent) × GateStands first g events)) ∥₁

abbrev pub IsReady : GateKept → Type 0
IsReady g = g.failed ≡ false → HasPast g

-- ---- one event more

pub record TakesEvent (first : ℕ) (new : GateKept) (events : List PastEvent) (e : PastEvent) (client_old client_new host_old host_new : List ℕ) (notes : List Note) : Type 0 where
  pub stands : GateStands first new (e ∷ events)
  pub sends : EventSends first events e client_old client_new host_old host_new notes

-- a piece of a side's stream
abbrev pub piece_of : Side → List ℕ → PastEvent
piece_of Client piece = ClientPiece piece
piece_of Host piece = HostPiece piece

-- memory ran out within an event: the first of its items were taken, what they send was sent, and the gate stands for
-- them; or not even its bytes have come
pub record StopsInEvent (first : ℕ) (new : GateKept) (events : List PastEvent) (e : PastEvent) (client_old client_new host_old host_new : List ℕ) : Type 0 where
  pub taken : List Item
  pub later : List Item
  pub parts : brought events e ≡ taken ++ later
  pub seen : List PastEvent
  pub seen-is : (seen ≡ e ∷ events) ⊎ ((seen ≡ events) × (taken ≡ []))
  -- to hold the bytes, or for the first of the items that are left
  pub wanted : ((seen ≡ events) × IsHeld first events e) ⊎ FirstWants first (onto taken (arrivals events)) later
  pub stands : StandsFor first new seen (onto taken (arrivals events))
  pub client : Gains client_old client_new (out_client first (history first events)) (out_client first (past first (onto taken (arrivals events))))
  pub host : Gains host_old host_new (out_host first (history first events)) (out_host first (past first (onto taken (arrivals events))))
