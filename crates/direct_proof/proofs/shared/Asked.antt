-- Requests that are asked back: what an unlink marks, and the cancels that it sends.
use Rattle.std.proofs.Common.{◌≡◌, ℕ, ◌+◌, ◌||◌, Bool, true, false, cond, List, [], ◌∷◌, ◌++◌, map, filter, refl, sym, ap, ◌∙◌, subst, arith, true≢false}
use Rattle.std.specs.List.{count_by, AllByRecursion as Each}
use Rattle.usb_base.specs.Endpoint.{is_control}
use Rattle.redir_data.specs.declared.packet.RedirPacket.{RedirPacket}
use Rattle.redir_host.proofs.lemmas.state.Each.{each_front}
use Rattle.gate_history.proofs.lemmas.Lists.{Each-weaker}
use Rattle.gate_history.specs.client.Verdict.{goes_by_id}
use Rattle.gate_history.specs.step.Marks.{Submission}
use Rattle.gate_history.specs.client.Submits.{Pending}
use Rattle.gate_history.specs.write.Output.{cancel}
use Rattle.direct_run.specs.declared.submitted.Submitted.{Submitted}
use Rattle.direct_run.specs.Noted.{number_in}
use Rattle.direct_device.specs.Direct.{number, is_number, normal_of}
use Rattle.direct_proof.specs.Requests.{Entry, Coming, Debt, at_host, debts_of, load_of}
use Rattle.direct_proof.specs.Shared.{lines, at_hosts}
use Rattle.direct_proof.specs.Ids.{Ids, Agrees}
use Rattle.direct_proof.specs.Cancels.{IsAsked, IsAsking, Behind, is_change, any_change, CancelsFit}
use Rattle.direct_proof.proofs.lists.Counts.{count-map, Each-map, Each-swap}
use Rattle.direct_proof.proofs.shared.Streaming.{IsQuiet}

abbrev pub ask_entry : ℕ → Entry → Entry
ask_entry target e = record e { asked = is_number target e.load || e.asked }

module _ (f : Entry → Entry) (same_id : (e : Entry) → (f e).id ≡ e.id) (same_load : (e : Entry) → (f e).load ≡ e.load) where
  pub ids-ask : (debts : List Debt) (names : List Submitted) (es : List Entry) (ran : List Coming) → Ids debts names es ran → Ids debts names (map f es) ran
  ids-ask debts names es ran ids = record {
    balance = λ test. (let a = count-map (λ (x : Entry). test x.id (number x.load)) f es in let b = counted test es in omega (arith, ids.balance test, a, b));
    one_id = ids.one_id;
    one_number = ids.one_number;
    named = Each-map (λ (x : Entry). number_in x.id names ≡ number x.load) f es (Each-weaker (λ (x : Entry). number_in x.id names ≡ number x.load) (λ (x : Entry). number_in (f x).id names ≡ number (f x).load)
        (λ x h. ap (λ (i : ℕ). number_in i names) (same_id x) ∙ h ∙ ap number (sym (same_load x))) es ids.named);
    entries_agree = Each-map (λ (x : Entry). Each (λ (d : Debt). Agrees d x.id x.load) debts) f es (Each-weaker (λ (x : Entry). Each (λ (d : Debt). Agrees d x.id x.load) debts) (λ (x : Entry). Each (λ (d : Debt). Agrees d (f x).id (f x).load) debts)
        (λ x h. subst (λ i. Each (λ (d : Debt). Agrees d i (f x).load) debts) (sym (same_id x)) (subst (λ l. Each (λ (d : Debt). Agrees d x.id l) debts) (sym (same_load x)) h)) es ids.entries_agree);
    ran_agrees = ids.ran_agrees;
  }
    where
      counted : (test : ℕ → ℕ → Bool) (xs : List Entry) → count_by (λ (x : Entry). test (f x).id (number (f x).load)) xs ≡ count_by (λ (x : Entry). test x.id (number x.load)) xs
      counted test xs = λ i. count_by (λ (x : Entry). test (same_id x i) (number (same_load x i))) xs

  pub changes-ask : (es : List Entry) → any_change (map f es) ≡ any_change es
  changes-ask [] = refl
  changes-ask (e ∷ es) = λ i. is_change (record { id = e.id; load = same_load e i; asked = e.asked }) || changes-ask es i

  pub behind-ask : (es : List Entry) → Behind es → Behind (map f es)
  behind-ask [] h = tt
  behind-ask (e ∷ es) h = ((λ c. zero es (h.0 (ap (λ l. is_change (record { id = e.id; load = l; asked = e.asked })) (sym (same_load e)) ∙ c))), behind-ask es h.1)
    where
      zero : (xs : List Entry) → Each (λ (y : Entry). is_control (normal_of y.load).ep ≡ true) xs → Each (λ (y : Entry). is_control (normal_of y.load).ep ≡ true) (map f xs)
      zero [] k = tt
      zero (x ∷ xs) k = (ap (λ l. is_control (normal_of l).ep) (same_load x) ∙ k.0, zero xs k.1)

  pub line-ask : (es : List Entry) → at_hosts (map f es) ≡ at_hosts es
  line-ask [] = refl
  line-ask (e ∷ es) = λ i. at_host (record { id = same_id e i; load = same_load e i; asked = e.asked }) ++ line-ask es i

-- ---- cancels

pub cancels-line : (ps : List Pending) → lines (map cancel ps) ≡ []
cancels-line [] = refl
cancels-line (p ∷ ps) = cancels-line ps

pub cancels-quiet : (ps : List Pending) → Each IsQuiet (map cancel ps)
cancels-quiet [] = tt
cancels-quiet (p ∷ ps) = ((refl, refl, λ ep b. refl), cancels-quiet ps)

pub cancels-asking : (ps : List Pending) → Each (λ (p : ℕ × RedirPacket). IsAsking p.1) (map cancel ps)
cancels-asking [] = tt
cancels-asking (p ∷ ps) = (tt, cancels-asking ps)

pub cancels-fit : (ahead : List Entry) (ps : List Pending) → Each (λ (p : Pending). Each (IsAsked p.submit.id) ahead) ps → CancelsFit ahead (map cancel ps) []
cancels-fit ahead [] h = tt
cancels-fit ahead (p ∷ ps) h = ((λ z. h.0), cancels-fit ahead ps h.1)

-- ---- the debts of live submits

abbrev pub debt_from : Submission → Debt
debt_from s = record { id = s.id; load = load_of s }

pub debts-each : (P : Debt → Type 0) (ss : List Submission) → Each P (debts_of ss) → Each (λ (s : Submission). goes_by_id s.verdict ≡ true → P (debt_from s)) ss
debts-each P [] h = tt
debts-each P (s ∷ ss) h = go (goes_by_id s.verdict) refl h (debts-each P ss)
  where
    go : (b : Bool) → goes_by_id s.verdict ≡ b → Each P (map debt_from (cond b (s ∷ filter (λ (x : Submission). goes_by_id x.verdict) ss) (filter (λ (x : Submission). goes_by_id x.verdict) ss))) → (Each P (debts_of ss) → Each (λ (x : Submission). goes_by_id x.verdict ≡ true → P (debt_from x)) ss) →
        (goes_by_id s.verdict ≡ true → P (debt_from s)) × Each (λ (x : Submission). goes_by_id x.verdict ≡ true → P (debt_from x)) ss
    go true e k rest = ((λ z. k.0), rest k.1)
    go false e k rest = ((λ z. absurd (true≢false (sym z ∙ e))), rest k)

-- an entry that has the id of a live submit is that submit's
pub entries-of : (debts : List Debt) (names : List Submitted) (es : List Entry) (ran : List Coming) (ss left : List Submission) → Ids debts names es ran → debts_of ss ++ debts_of left ≡ debts →
    Each (λ (s : Submission). goes_by_id s.verdict ≡ true → Each (λ (e : Entry). Agrees (debt_from s) e.id e.load) es) ss
entries-of debts names es ran ss left ids same =
    debts-each (λ (d : Debt). Each (λ (e : Entry). Agrees d e.id e.load) es) ss
    (each_front (λ (d : Debt). Each (λ (e : Entry). Agrees d e.id e.load) es) (debts_of ss) (debts_of left)
    (subst (Each (λ (d : Debt). Each (λ (e : Entry). Agrees d e.id e.load) es)) (sym same) (Each-swap (λ (d : Debt) (e : Entry). Agrees d e.id e.load) debts es ids.entries_agree)))
