-- That a list of moves on packets follows a course of bytes.
use Rattle.std.specs.Prelude.{◌≡◌, false, List, ◌∷◌, ◌++◌}
use Rattle.std.specs.List.{list_any, AllByRecursion}
use Rattle.gate_history.specs.write.All.{all_of}
use Rattle.gate_history.specs.write.Bytes.{gateway_hello}
use Rattle.gate_history.specs.step.History.{history}
use Rattle.gate_history.specs.step.Marks.{Submission}
use Rattle.gate_history.specs.write.Output.{to_client}
use Rattle.gate_history.specs.state.State.{state_of}
use Rattle.gate_history.specs.client.Submits.{accepted}
use Rattle.model_device.specs.Meaning.{Meaning}
use Rattle.redir_host.specs.step.History.{history as host_history}
use Rattle.redir_host.specs.step.Machine.{all_given, is_refusal, notes_of as host_notes_of}
use Rattle.redir_host.specs.write.Output.{first_packet, host_of}
use Rattle.direct_run.specs.declared.item.Item.{Item}
use Rattle.direct_run.specs.Clients.{IsMove, present, present_outs}
use Rattle.direct_run.specs.Moves.{Made, Move, as_items, as_submits, run}
use Rattle.direct_run.specs.Packets.{sent_by_gate, sent_by_host, read_by_host, read_by_gate, bares}
use Rattle.direct_run.specs.Trace.{submits_of}
use Rattle.direct_run.specs.World.{Course, first_id}

-- both sides are the same, the packets on the wires are those that were sent and haven't been read, and the same was
-- sent to clients, told and accepted
pub record FollowsCourse {S : Type 0} (m : Meaning S) (s : S) (c : Course) (items : List Item) (r : Made S Item) (submitted : List Submission) : Type 0 where
  pub gate : r.world.gate ≡ state_of first_id (history first_id c.events)
  pub host : r.world.host ≡ host_of m s c.acts
  pub submits : r.world.submits ≡ submits_of c.events
  pub to_host : (0, gateway_hello) ∷ sent_by_gate c ≡ bares (read_by_host c) ++ r.world.to_host
  pub to_gate : first_packet ∷ sent_by_host m s c ≡ bares (read_by_gate c) ++ r.world.to_gate
  -- to all clients
  pub outs : r.outs ≡ all_of to_client first_id (history first_id c.events)
  pub items-are : r.told ≡ items
  pub accepted-are : submitted ≡ accepted (history first_id c.events)

-- there are moves that follow the course and tell these items
pub record AreMoves {S : Type 0} (m : Meaning S) (s : S) (c : Course) (items : List Item) : Type 0 where
  pub moves : List Move
  -- each is one that bytes can make
  pub legal : AllByRecursion IsMove moves
  pub follows : FollowsCourse m s c items (run as_items m s moves) (run as_submits m s moves).told
  -- and the present client is sent the same
  pub present-is : present c.events ≡ present_outs m s moves
  -- the host has refused nothing of what came
  pub unrefused : list_any is_refusal (all_given host_notes_of m s (host_history c.acts)) ≡ false
