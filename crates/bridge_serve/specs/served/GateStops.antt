-- Where memory ran out as a gate took an event, and what of that had been sent by then.
use Rattle.std.specs.Prelude.{◌≡◌, ◌⊎◌, ℕ, List, [], ◌++◌, IsSomeAnd}
use Rattle.packet_stream.specs.Items.{onto}
use Rattle.gate_history.specs.step.Events.{PastEvent}
use Rattle.gate_history.specs.declared.item.Item.{Item}
use Rattle.gate_history.specs.step.Past.{past}
use Rattle.gate_history.specs.step.History.{brought, arrivals, history}
use Rattle.gate_history.specs.step.Wants.{IsHeld, FirstWants}
use Rattle.gate_history.specs.write.Bytes.{out_client, out_host}
use Rattle.bridge_run.specs.events.Events.{PastLinkEvent}
use Rattle.bridge_serve.specs.served.Gate.{gate_event, gate_events}

-- the first of its items were taken, and what they send, and no more, was sent. Memory was wanted to hold the piece, or
-- for the first of the items that are left
pub record GateStops (first : ℕ) (events : List PastEvent) (e : PastEvent) (client host : List ℕ) : Type 0 where
  pub taken : List Item
  pub later : List Item
  pub parts : brought events e ≡ taken ++ later
  pub wanted : ((taken ≡ []) × IsHeld first events e) ⊎ FirstWants first (onto taken (arrivals events)) later
  pub client-is : out_client first (past first (onto taken (arrivals events))) ≡ out_client first (history first events) ++ client
  pub host-is : out_host first (past first (onto taken (arrivals events))) ≡ out_host first (history first events) ++ host

-- an event that is none to a gate takes no memory
abbrev pub gate_runs_out : ℕ → List PastLinkEvent → PastLinkEvent → List ℕ → List ℕ → Type 0
gate_runs_out first events e client host = IsSomeAnd (gate_event e) (λ it. GateStops first (gate_events events) it client host)
