use Rattle.std.proofs.Common.{ℕ, List, sym, subst}
use Rattle.redir_data.specs.declared.packet.RedirPacket.{RedirPacket}
use Rattle.gate_history.specs.step.History.{arrivals, history}
use Rattle.gate_history.specs.step.Machine.{all_given}
use Rattle.gate_history.specs.write.Output.{to_host}
use Rattle.gate_history.specs.state.State.{State, state_of}
use Rattle.gate_history.proofs.lemmas.step.Comings.{comes}
use Rattle.gate_history.proofs.lemmas.Lists.{Each}
use Rattle.gate_history.proofs.lemmas.step.Runs.{state-run, all-run}
use Rattle.gate_history.proofs.lemmas.write.ItemsRead.{Reads}
use Rattle.gate_history.proofs.lemmas.write.EventsRead.{goes}
use Rattle.gate_history.proofs.laws.sent_can_be_read.Goals as goal

pub returns : goal.returns
returns c = λ first events are.
    let xs = arrivals events in
    subst (λ (ps : List (ℕ × RedirPacket)). Each (Reads (state_of first (history first events)).sides.agreed) ps) (sym (all-run to_host first xs))
    (subst (λ (st : State). Each (Reads st.sides.agreed) (all_given to_host first xs)) (sym (state-run first xs)) (goes first xs (comes events are).0).read)
