-- What is owed: the requests and answers under way, by their ids and numbers.
use Rattle.std.specs.Prelude.{◌≡◌, ℕ, ◌+◌, ◌≤◌, ◌==◌, Bool, true, List}
use Rattle.std.specs.List.{AllByRecursion, count_by}
use Rattle.direct_run.specs.Noted.{number_in}
use Rattle.direct_run.specs.declared.submitted.Submitted.{Submitted}
use Rattle.direct_device.specs.Direct.{Load, number}
use Rattle.direct_proof.specs.Requests.{Coming, Debt, Entry}

-- they are the same submit where they have the same id
abbrev pub Agrees : Debt → ℕ → Load → Type 0
Agrees d id l = (d.id == id) ≡ true → d.load ≡ l

-- the requests and answers under way are those that are owed, in another order; no id and no number is there twice
pub record Ids (debts : List Debt) (names : List Submitted) (entries : List Entry) (ran : List Coming) : Type 0 where
  pub balance : (test : ℕ → ℕ → Bool) → count_by (λ (e : Entry). test e.id (number e.load)) entries + count_by (λ (c : Coming). test c.id (number c.load)) ran ≡ count_by (λ (d : Debt). test d.id (number d.load)) debts
  pub one_id : (id : ℕ) → count_by (λ (d : Debt). d.id == id) debts ≤ 1
  pub one_number : (n : ℕ) → count_by (λ (d : Debt). number d.load == n) debts ≤ 1
  pub named : AllByRecursion (λ (e : Entry). number_in e.id names ≡ number e.load) entries
  pub entries_agree : AllByRecursion (λ (e : Entry). AllByRecursion (λ (d : Debt). Agrees d e.id e.load) debts) entries
  pub ran_agrees : AllByRecursion (λ (c : Coming). AllByRecursion (λ (d : Debt). Agrees d c.id c.load) debts) ran
