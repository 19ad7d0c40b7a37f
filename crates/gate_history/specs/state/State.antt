-- What a past says, as one value: the results of all searches. What an item means depends on nothing else.
use Rattle.std.specs.Prelude.{ℕ, ◌==◌, Bool, List, ◌++◌, length, map, Option}
use Rattle.std.specs.List.{list_any}
use Rattle.gate_history.specs.declared.facts.Facts.{Facts}
use Rattle.gate_history.specs.declared.sides.Sides.{Sides}
use Rattle.gate_history.specs.state.Ids.{draws, greatest}
use Rattle.gate_history.specs.client.Verdict.{changes}
use Rattle.gate_history.specs.step.Marks.{Submission, Mark}
use Rattle.gate_history.specs.state.Sides.{sides}
use Rattle.gate_history.specs.state.Facts.{facts}
use Rattle.gate_history.specs.client.Submits.{Pending, abandoned, pending, live}
use Rattle.gate_history.specs.state.Ups.{Up, streams}
use Rattle.gate_history.specs.state.StreamIds.{StreamIds, stream_ids, ids_of_streams, fence}
use Rattle.gate_history.specs.state.Flight.{wide_ids, ids_of, last_drawn}

pub record State : Type 0 where
  -- how many items came, which is the place of the next
  pub items : ℕ
  pub facts : Facts
  pub sides : Sides
  -- the live submits in order, and those that a client left at the host
  pub live : List Pending
  pub abandoned : List Submission
  -- the streams that are up, the ids of what started and stopped them, and the one that no import passes
  pub streams : List (Option Up)
  pub stream_ids : StreamIds
  pub fence : Option ℕ
  -- the id that was drawn last
  pub last : ℕ

abbrev pub state_of : ℕ → List Mark → State
state_of first ms = record {
  items = length ms;
  facts = facts ms;
  sides = sides ms;
  live = map (pending ms) (live ms);
  abandoned = abandoned ms;
  streams = streams ms;
  stream_ids = stream_ids ms;
  fence = fence ms;
  last = last_drawn first ms;
}

-- ---- what is read of it

abbrev pub submits : State → List Submission
submits st = map (λ p. p.submit) st.live

abbrev pub flying : State → List ℕ
flying st = ids_of (submits st) ++ ids_of st.abandoned ++ ids_of_streams st.stream_ids

-- the ids of an item's first n packets
abbrev pub next_ids : State → ℕ → List ℕ
next_ids st n = draws (greatest (wide_ids st.sides.agreed)) (flying st) st.last n

abbrev pub is_number : ℕ → Submission → Bool
is_number number s = s.request.seqnum == number

abbrev pub has_number : State → ℕ → Bool
has_number st number = list_any (is_number number) (submits st)

abbrev pub change_waits : State → Bool
change_waits st = list_any (λ s. changes s.verdict) (submits st)
