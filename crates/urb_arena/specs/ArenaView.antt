-- What a contract sees of an `Arena`.
use Rattle.std.specs.Prelude.{ℕ, List, refl}
use Rattle.std.specs.Coded.{Coded, code_by, coded×, coded_list, coded_ℕ}

-- per lane its keys and values, from the front on, and how many values there may be
pub record ArenaView (X : Type 0) : Type 0 where
  pub lanes : List (List (ℕ × X))
  pub capacity : ℕ

module _ {X : Type 0} where
  abbrev pub arena_view : List (List (ℕ × X)) → ℕ → ArenaView X
  arena_view pss n = record { lanes = pss; capacity = n }

  abbrev pub arena_view_code : Coded X → Coded (ArenaView X)
  arena_view_code c = code_by (List (List (ℕ × X)) × ℕ) (coded× (coded_list (coded_list (coded× coded_ℕ c))) coded_ℕ) (λ s. (s.lanes, s.capacity)) (λ p. arena_view p.0 p.1) (λ _. refl)
