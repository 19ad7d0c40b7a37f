-- Of an effect that cancels nothing, and asks for nothing back.
use Rattle.std.specs.Option.{option_or}
use Rattle.std.proofs.Common.{◌≡◌, ◌&&◌, Bool, true, false, refl, ℕ, List, [], ◌∷◌, map, Option, Some, None, ap, ◌∙◌}
use Rattle.std.specs.Prelude.{is_none, filter}
use Rattle.gate_history.specs.step.Marks.{Submission, Effect}
use Rattle.gate_history.specs.client.Submits.{Pending, asks}
use Rattle.gate_history.specs.client.Verdict.{is_wire}
use Rattle.gate_history.specs.write.Output.{cancels, cancel}
use Rattle.gate_history.specs.step.Machine.{ask}
use Rattle.gate_history.proofs.lemmas.Lists.{every, filter-same, filter-none}

pub and-false : (b : Bool) → (b && false) ≡ false
and-false true = refl
and-false false = refl

pub or_else-none : (by : Option ℕ) → option_or by None ≡ by
or_else-none None = refl
or_else-none (Some n) = refl

pub asks-none : (e : Effect) → ((s : Submission) → asks e s ≡ None) → (ps : List Pending) → map (ask e) ps ≡ ps
asks-none e h [] = refl
asks-none e h (p ∷ ps) = λ i. record { submit = p.submit; unlinker = (ap (option_or p.unlinker) (h p.submit) ∙ or_else-none p.unlinker) i } ∷ asks-none e h ps i

-- nobody is cancelled where the client stays
pub none-cancelled : (e : Effect) → ((p : Pending) → cancels e p ≡ false) → (ps : List Pending) → map cancel (filter (cancels e) ps) ≡ []
none-cancelled e h ps = ap (map cancel) (filter-same (cancels e) (λ p. false) ps (every (λ p. cancels e p ≡ false) h ps) ∙ filter-none ps)

pub stays-uncancelled : (p : Pending) → ((is_wire p.submit.verdict && is_none p.unlinker) && false) ≡ false
stays-uncancelled p = and-false (is_wire p.submit.verdict && is_none p.unlinker)
