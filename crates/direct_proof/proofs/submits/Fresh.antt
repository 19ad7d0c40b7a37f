-- What is known of a submit that goes to the host and ends no stream: its id and its number are new, and it may stand
-- behind a change.
use Rattle.std.proofs.Common.{◌≡◌, ℕ, ◌<◌, ◌==◌, ◌||◌, Bool, true, false, List, [], ◌∷◌, ◌++◌, map, filter, sym, ◌∙◌, subst, arith, ◌⊎◌}
use Rattle.std.specs.List.{list_any, AllByRecursion as Each}
use Rattle.std.proofs.lemmas.Bool.{both_ways, or_parts}
use Rattle.std.proofs.lemmas.List.Folds.{list_any-append}
use Rattle.usb_base.specs.Endpoint.{endpoint_index, is_control}
use Rattle.usbip_urb.specs.declared.packet.Submit.{Submit as UrbSubmit}
use Rattle.gate_history.proofs.lemmas.Lists.{Each-append}
use Rattle.gate_history.specs.client.Requests.{request_of}
use Rattle.gate_history.specs.declared.verdict.Verdict.{Verdict}
use Rattle.gate_history.specs.client.Verdict.{goes_by_id}
use Rattle.gate_history.specs.step.Marks.{Submission}
use Rattle.gate_history.specs.state.Ids.{holds}
use Rattle.gate_history.specs.state.Flight.{ids_of}
use Rattle.gate_history.specs.state.StreamIds.{ids_of_streams}
use Rattle.gate_history.specs.state.State.{State, submits, flying, has_number, change_waits}
use Rattle.gate_history.specs.step.Meaning.{verdict_of}
use Rattle.direct_device.specs.Direct.{normal_of}
use Rattle.direct_proof.specs.Requests.{Entry, Debt, debts_of}
use Rattle.direct_proof.specs.Loads.{IsLoad}
use Rattle.direct_proof.specs.Cancels.{Behind, is_change}
use Rattle.direct_proof.proofs.shared.New.{IsNew, IsDrawn}
use Rattle.direct_proof.proofs.shared.Asked.{debt_from}
use Rattle.direct_proof.proofs.submits.Simple.{IsSimple}

-- ---- ids and numbers are new

-- an id that isn't in flight is no debt's
pub is-new : (st : State) (id : ℕ) (ds : List Debt) → holds (flying st) id ≡ false → debts_of (submits st) ++ debts_of st.abandoned ≡ ds → IsNew id ds
is-new st id ds free same = subst (IsNew id) same (Each-append (λ (d : Debt). (d.id == id) ≡ false) (debts_of (submits st)) (debts_of st.abandoned) (go (filter by (submits st)) parts.0) (go (filter by st.abandoned) parts.1))
  where
    by : Submission → Bool
    by s = goes_by_id s.verdict

    test : ℕ → Bool
    test x = id == x

    whole : (list_any test (ids_of (submits st) ++ ids_of st.abandoned) || list_any test (ids_of_streams st.stream_ids)) ≡ false
    whole = sym (list_any-append test (ids_of (submits st) ++ ids_of st.abandoned) (ids_of_streams st.stream_ids)) ∙ free

    parts : (list_any test (ids_of (submits st)) ≡ false) × (list_any test (ids_of st.abandoned) ≡ false)
    parts = or_parts (list_any test (ids_of (submits st))) (list_any test (ids_of st.abandoned)) (sym (list_any-append test (ids_of (submits st)) (ids_of st.abandoned)) ∙ (or_parts (list_any test (ids_of (submits st) ++ ids_of st.abandoned)) (list_any test (ids_of_streams st.stream_ids)) whole).0)

    turned : (a b : ℕ) → (a == b) ≡ false → (b == a) ≡ false
    turned a b h = grind (arith, h)

    go : (ss : List Submission) → list_any test (map (λ (s : Submission). s.id) ss) ≡ false → Each (λ (d : Debt). (d.id == id) ≡ false) (map debt_from ss)
    go [] h = tt
    go (s ∷ ss) h = let r = or_parts (id == s.id) (list_any test (map (λ (x : Submission). x.id) ss)) h in (turned id s.id r.0, go ss r.1)

-- ---- the move

-- what is known of it: its number is free, its verdict is this, its id is in flight nowhere
pub record IsSimpleSubmit (st : State) (s : UrbSubmit) (v : Verdict) : Type 0 where
  pub new : has_number st s.head.seqnum ≡ false
  pub verdict-is : verdict_of st (request_of s) ≡ v
  pub simple : IsSimple st (request_of s) v
  pub load : IsLoad (record { request = request_of s; verdict = v })
  pub address : endpoint_index (request_of s).transfer.ep < 32
  pub behind : (change_waits st ≡ false) ⊎ (is_control (normal_of (record { request = request_of s; verdict = v })).ep ≡ true)
  pub fresh : IsDrawn st simple.id

pub behind-none : (es : List Entry) (e : Entry) → Behind es → Each (λ (x : Entry). is_change x ≡ false) es → Behind (es ++ e ∷ [])
behind-none [] e h k = ((λ c. tt), tt)
behind-none (x ∷ es) e h k = ((λ c. absurd (both_ways (is_change x) k.0 c)), behind-none es e h.1 k.1)

pub behind-zero : (es : List Entry) (e : Entry) → Behind es → is_control (normal_of e.load).ep ≡ true → Behind (es ++ e ∷ [])
behind-zero [] e h k = ((λ c. tt), tt)
behind-zero (x ∷ es) e h k = ((λ c. Each-append (λ (y : Entry). is_control (normal_of y.load).ep ≡ true) es (e ∷ []) (h.0 c) (k, tt)), behind-zero es e h.1 k)
