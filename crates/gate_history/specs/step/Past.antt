-- The past of a list of items, the latest first: each item with what it means after those before it. What comes of a
-- side that is over is left out, but for a client's end.
use Rattle.std.specs.Prelude.{ℕ, Bool, false, if◌then◌else◌, List, [], ◌∷◌}
use Rattle.packet_stream.specs.Folds.{rfold}
use Rattle.gate_history.specs.declared.item.Item.{Item}
use Rattle.gate_history.specs.declared.item.Item.TheVariants.{Asked, ClientWrong, ClientLeft}
use Rattle.gate_history.specs.step.Marks.{Mark}
use Rattle.gate_history.specs.state.State.{State, state_of}
use Rattle.gate_history.specs.step.Meaning.{mark_of}

abbrev pub is_left_out : State → Item → Bool
is_left_out st (Asked place packet) = st.sides.client_over
is_left_out st (ClientWrong place reason) = st.sides.client_over
is_left_out st ClientLeft = false
is_left_out st _ = st.sides.host_over

abbrev pub put : ℕ → List Mark → Item → List Mark
put first ms x = if is_left_out (state_of first ms) x then ms else mark_of (state_of first ms) x ∷ ms

abbrev pub past : ℕ → List Item → List Mark
past first items = rfold (put first) [] items
