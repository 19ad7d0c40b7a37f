use Rattle.std.proofs.Common.{subst, sym}
use Rattle.gate_history.specs.state.Ids.{draw, IsNext}
use Rattle.gate_history.proofs.lemmas.state.Search.{draw-next, next-one}
use Rattle.gate_history.specs.step.History.{arrivals}
use Rattle.gate_history.proofs.lemmas.step.Comings.{comes}
use Rattle.gate_history.proofs.lemmas.state.EventDraws.{all-drawn}
use Rattle.gate_history.proofs.lemmas.state.Flights.{flights-once, item-fresh}
use Rattle.gate_history.proofs.laws.ids_fly_once.Goals as goal

pub returns-clause-once : goal.returns-clause-once
returns-clause-once c = flights-once

pub returns-clause-fresh : goal.returns-clause-fresh
returns-clause-fresh c = item-fresh

pub returns-clause-next : goal.returns-clause-next
returns-clause-next c = λ m flying last id room. (
  λ e. subst (IsNext m flying last) (sym e) (draw-next m flying last room),
  λ n. next-one m flying last id (draw m flying last) n (draw-next m flying last room),
)

pub returns-clause-drawn : goal.returns-clause-drawn
returns-clause-drawn c = λ first events are. all-drawn first (arrivals events) (comes events are).0
