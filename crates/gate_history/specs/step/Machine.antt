-- The same as a machine: a state that steps with each item, and keeps no past. First what the item means, by the whole
-- state; then each part steps by itself.
use Rattle.std.specs.Option.{option_or}
use Rattle.std.specs.Prelude.{◌≡◌, ℕ, suc, false, if◌then◌else◌, List, [], ◌∷◌, ◌++◌, map, filter, fold, is_none, unwrap_or}
use Rattle.packet_stream.specs.Folds.{rfold}
use Rattle.packet_stream.specs.Outputs.{past_outputs, outputs}
use Rattle.gate_history.specs.declared.note.Counts.{Counts}
use Rattle.gate_history.specs.step.Events.{PastEvent}
use Rattle.gate_history.specs.declared.item.Item.{Item}
use Rattle.gate_history.specs.step.Marks.{Effect, Mark}
use Rattle.gate_history.specs.state.Sides.{sides_after}
use Rattle.gate_history.specs.state.Facts.{facts_after}
use Rattle.gate_history.specs.client.Submits.{Pending, asks, abandoned_after}
use Rattle.gate_history.specs.client.Ends.{ends}
use Rattle.gate_history.specs.state.Ids.{last_of}
use Rattle.gate_history.specs.state.Ups.{streams_after}
use Rattle.gate_history.specs.state.StreamIds.{stream_ids_after, asking, fence_after}
use Rattle.gate_history.specs.state.State.{State, state_of, submits}
use Rattle.gate_history.specs.step.Meaning.{mark_of}
use Rattle.gate_history.specs.step.Past.{is_left_out, past}
use Rattle.gate_history.specs.step.History.{brought, history}
use Rattle.gate_history.specs.write.Output.{present, to_client}
use Rattle.gate_history.specs.write.Notes.{dropped}
use Rattle.gate_history.specs.write.All.{all_of, counted}

-- nothing came yet
abbrev pub start : ℕ → State
start first = state_of first []

abbrev pub ask : Effect → Pending → Pending
ask e p = record p { unlinker = option_or p.unlinker (asks e p.submit) }

-- those that it ends go, and those that it asks back are marked
abbrev pub live_after : State → Effect → List Pending
live_after st e = map (ask e) (filter (λ p. is_none (ends e p.submit)) (present st e))

abbrev pub with_mark : State → Mark → State
with_mark st m = record {
  items = suc st.items;
  facts = facts_after m.what m.told st.facts;
  sides = sides_after m.what st.sides;
  live = live_after st m.what;
  abandoned = abandoned_after m.what (submits st) st.abandoned;
  streams = streams_after m.what st.streams;
  stream_ids = stream_ids_after (asking st.streams m) st.stream_ids;
  fence = fence_after m.what m.drawn st.fence;
  last = last_of st.last m.drawn;
}

abbrev pub step : State → Item → State
step st x = if is_left_out st x then st else with_mark st (mark_of st x)

-- lists of items have the latest first
abbrev pub run : ℕ → List Item → State
run first = rfold step (start first)

-- ---- what it gives

-- of an item, in the state before it
abbrev pub given : {A : Type 0} → (State → Mark → List A) → State → Item → List A
given gives st x = if is_left_out st x then [] else gives st (mark_of st x)

abbrev pub all_given : {A : Type 0} → (State → Mark → List A) → ℕ → List Item → List A
all_given gives first = past_outputs (λ past. given gives (run first past))

abbrev pub run_counts : ℕ → List Item → Counts
run_counts first xs = counted (all_given to_client first xs) (run first xs).live (all_given dropped first xs)

-- ---- several items, the first that came first

abbrev pub steps : State → List Item → State
steps = fold step

abbrev pub given_by : {A : Type 0} → (State → Mark → List A) → State → List Item → List A
given_by gives = outputs step (given gives)

-- ---- what is to be shown of it

-- it gives what the past gave
abbrev pub GivesPast : {A : Type 0} → (State → Mark → List A) → Type 0
GivesPast gives = (first : ℕ) (items : List Item) → all_of gives first (past first items) ≡ all_given gives first items

-- one event more gives what its items give, one after another
abbrev pub AddsItems : {A : Type 0} → (State → Mark → List A) → Type 0
AddsItems gives =
    (first : ℕ) (events : List PastEvent) (e : PastEvent) →
    all_of gives first (history first (e ∷ events)) ≡ all_of gives first (history first events) ++ given_by gives (state_of first (history first events)) (brought events e)
