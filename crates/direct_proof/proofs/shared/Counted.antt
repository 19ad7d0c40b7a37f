-- An item that changes nothing of what is shared is only counted.
use Rattle.std.proofs.Common.{◌≡◌, ℕ, suc, ◌==◌, Bool, true, false, cond, List, [], ◌∷◌, ◌++◌, ap, ◌∙◌}
use Rattle.std.specs.List.{AllByRecursion as Each}
use Rattle.model_device.specs.Meaning.{Meaning}
use Rattle.direct_run.specs.declared.submitted.Submitted.{Submitted}
use Rattle.direct_run.specs.Moves.{World}
use Rattle.direct_run.specs.Noted.{number_in}
use Rattle.direct_device.specs.Direct.{number}
use Rattle.direct_proof.specs.Ids.{Ids}
use Rattle.direct_proof.specs.Related.{Related}
use Rattle.direct_proof.specs.Requests.{Entry, Coming, Debt}
use Rattle.direct_proof.specs.Shared.{Shared}
use Rattle.direct_proof.specs.Tagged.{runs_in}
use Rattle.direct_proof.proofs.shared.Owed.{entries-old, number-last}

abbrev pub replied_world : {S : Type 0} → World S → World S
replied_world w = record w { gate = record w.gate { items = suc w.gate.items } }

-- the accepted submits are those, and the client is over or not
abbrev pub counted_world : {S : Type 0} → World S → List Submitted → Bool → World S
counted_world w names over = record w { gate = record w.gate { items = suc w.gate.items; sides = record w.gate.sides { client_over = over } }; submits = names }

pub counted-related : {S : Type 0} (m : Meaning S) (w : World S) (j : Shared) (names : List Submitted) (over : Bool) → Related m w j → Ids j.debts names (j.held ++ j.coming) (runs_in j.back) → (over ≡ true → w.gate.sides.imported ≡ false) → Related m (counted_world w names over) j
counted-related m w j names over rel ids refused = record {
  line = rel.line;
  answers = rel.answers;
  tagged = rel.tagged;
  ids = ids;
  real = rel.real;
  runs_at_in = rel.runs_at_in;
  before = rel.before;
  asked = rel.asked;
  meets = rel.meets;
  debts = rel.debts;
  controls = rel.controls;
  fenced = rel.fenced;
  alone = rel.alone;
  session = rel.session;
  ups = rel.ups;
  down = rel.down;
  lost = rel.lost;
  sides = record {
    reads = rel.sides.reads;
    refused = refused;
    gone = rel.sides.gone;
    seen = rel.sides.seen;
  };
  farewell = rel.farewell;
}

pub replied-related : {S : Type 0} (m : Meaning S) (w : World S) (j : Shared) → Related m w j → Related m (replied_world w) j
replied-related m w j rel = counted-related m w j w.submits w.gate.sides.client_over rel rel.ids rel.sides.refused

-- one that goes by no id has a number, and no entry
pub ids-named : (ds : List Debt) (names : List Submitted) (es : List Entry) (ran : List Coming) (n : ℕ) → Each (λ (d : Debt). (d.id == 0) ≡ false) ds → Ids ds names es ran → Ids ds (names ++ record { seqnum = n; id = 0 } ∷ []) es ran
ids-named ds names es ran n real ids = record {
  balance = ids.balance;
  one_id = ids.one_id;
  one_number = ids.one_number;
  named = olds es ids.named (entries-old ds names es ran ids 0 real);
  entries_agree = ids.entries_agree;
  ran_agrees = ids.ran_agrees;
}
  where
    olds : (xs : List Entry) → Each (λ (x : Entry). number_in x.id names ≡ number x.load) xs → Each (λ (x : Entry). (0 == x.id) ≡ false) xs → Each (λ (x : Entry). number_in x.id (names ++ record { seqnum = n; id = 0 } ∷ []) ≡ number x.load) xs
    olds [] h k = tt
    olds (x ∷ xs) h k = (number-last x.id names _ ∙ ap (λ (b : Bool). cond b n (number_in x.id names)) k.0 ∙ h.0, olds xs h.1 k.1)
