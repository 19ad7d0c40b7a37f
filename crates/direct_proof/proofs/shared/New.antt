-- Ids that are new: those that the gateway draws are none that is owed, and none is 0.
use Rattle.std.proofs.Common.{◌≡◌, ℕ, ◌≤◌, ◌==◌, false, List, arith}
use Rattle.std.specs.List.{AllByRecursion as Each}
use Rattle.gate_history.specs.state.Flight.{wide_ids}
use Rattle.gate_history.specs.state.Ids.{draw, greatest, holds}
use Rattle.gate_history.specs.state.State.{State, flying}
use Rattle.direct_proof.specs.Requests.{Debt}

abbrev pub next_id : State → ℕ
next_id st = draw (greatest (wide_ids st.sides.agreed)) (flying st) st.last

-- no debt has this id
abbrev pub IsNew : ℕ → List Debt → Type 0
IsNew id ds = Each (λ (d : Debt). (d.id == id) ≡ false) ds

-- it may be drawn: it is a packet's, and in flight nowhere
abbrev pub IsDrawn : State → ℕ → Type 0
IsDrawn st id = ((id == 0) ≡ false) × (holds (flying st) id ≡ false)

pub not-zero : (id : ℕ) → 1 ≤ id → (id == 0) ≡ false
not-zero id h = grind (arith, h)
