-- Rising ranks, as one comes behind them and as one goes.
use Rattle.std.proofs.Common.{◌≡◌, ℕ, zero, suc, ◌+◌, ◌<◌, ◌≤◌, List, [], ◌∷◌, ◌++◌, length, get_or, arith}
use Rattle.std.specs.List.{remove}
use Rattle.unlink_race.specs.Inner.Sound.{Rises}

pub from_lower : (low low' : ℕ) (ns : List ℕ) (high : ℕ) → low' ≤ low → Rises low ns high → Rises low' ns high
from_lower low low' [] high below rises = omega (arith, below, rises)
from_lower low low' (n ∷ ns) high below rises = (let first = rises.0 in omega (arith, below, first), rises.1)

pub rises_pushed : (low : ℕ) (ns : List ℕ) (high : ℕ) → Rises low ns high → Rises low (ns ++ high ∷ []) (high + 1)
rises_pushed low [] high rises = (rises, omega arith)
rises_pushed low (n ∷ ns) high rises = (rises.0, rises_pushed (n + 1) ns high rises.1)

pub rises_removed : (low : ℕ) (ns : List ℕ) (i high : ℕ) → Rises low ns high → Rises low (remove ns i) high
rises_removed low [] zero high rises = rises
rises_removed low [] (suc i) high rises = rises
rises_removed low (n ∷ ns) zero high rises = from_lower (n + 1) low ns high (let first = rises.0 in omega (arith, first)) rises.1
rises_removed low (n ∷ ns) (suc i) high rises = (rises.0, rises_removed (n + 1) ns i high rises.1)

-- each is its place
pub rises_dealt : (low : ℕ) (ns : List ℕ) (high : ℕ) → high ≡ low + length ns → ((j : ℕ) → j < length ns → get_or ns j 0 ≡ low + j) → Rises low ns high
rises_dealt low [] high is dealt = omega (arith, is)
rises_dealt low (n ∷ ns) high is dealt =
    let first : n ≡ low + 0 = dealt 0 (omega arith) in (
      omega (arith, first),
      rises_dealt (n + 1) ns high (omega (arith, is, first)) (λ j within. let at : get_or ns j 0 ≡ low + suc j = dealt (suc j) (omega (arith, within)) in omega (arith, at, first)),
    )
