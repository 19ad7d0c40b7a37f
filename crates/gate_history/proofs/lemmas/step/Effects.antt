-- What an effect does to the live requests, apart from how the code keeps them: who is left, what is sent to the
-- client, who is noted, and who is dropped.
use Rattle.std.proofs.Common.{◌≡◌, ℕ, Bool, true, false, cond, not, List, [], ◌∷◌, ◌++◌, map, Option, Some, None, refl, sym, ap, ◌∙◌}
use Rattle.std.specs.Prelude.{is_none, filter}
use Rattle.std.specs.List.{flat_map}
use Rattle.std.proofs.lemmas.List.{append-nil}
use Rattle.std.proofs.lemmas.List.Elements.{filter-append}
use Rattle.std.proofs.lemmas.Grind.{flat_map-append}
use Rattle.usb_base.specs.declared.transfer.Outcome.{Outcome}
use Rattle.usbip_urb.specs.declared.client.ClientPacket.TheVariants.{Urb}
use Rattle.usbip_urb.specs.declared.packet.UrbPacket.{UrbPacket}
use Rattle.gate_history.specs.declared.note.Note.TheVariants as note
use Rattle.gate_history.specs.client.Ends.{answers_at, answers_by, End, at_once, ByAnswer, ByClient, ByLoss, ends, has_id, own_end, packets_end}
use Rattle.gate_history.specs.host.Fillings.{Filling}
use Rattle.gate_history.specs.step.Machine.{ask, live_after}
use Rattle.gate_history.specs.step.Marks.{Submission, Effect, Answers, Opens}
use Rattle.gate_history.specs.step.Meaning.{mark_as}
use Rattle.gate_history.specs.write.Notes.{answer_notes, is_by_answer, is_by_client, dropped}
use Rattle.gate_history.specs.write.Output.{fresh, present, answered, to_client}
use Rattle.gate_history.specs.state.Sides.{leaves, is_loss}
use Rattle.gate_history.specs.state.State.{State}
use Rattle.gate_history.specs.client.Submits.{Pending, asks, opened}
use Rattle.gate_history.proofs.lemmas.Lists.{Each, Each-weaker, every, filter-all, filter-same, filter-none, flat_map-same, flat_map-filter, flat_map-none}
use Rattle.gate_history.proofs.lemmas.step.NoCancel.{asks-none}

-- ---- one that opens no request

module _ (st : State) (e : Effect) (opens : opened e ≡ []) where
  here : present st e ≡ st.live
  here = ap (λ (ss : List Submission). st.live ++ map fresh ss) opens ∙ append-nil st.live

  -- who stays, and who is asked back
  pub live-of : live_after st e ≡ map (ask e) (filter (λ p. is_none (ends e p.submit)) st.live)
  live-of = ap (λ (ps : List Pending). map (ask e) (filter (λ p. is_none (ends e p.submit)) ps)) here

  pub answered-of : answered st e ≡ map Urb (flat_map (λ p. answers_at p.submit p.unlinker (ends e p.submit)) st.live)
  answered-of = ap (λ (ps : List Pending). map Urb (flat_map (λ p. answers_at p.submit p.unlinker (ends e p.submit)) ps)) here

  -- it asks none back, and ends those that pass a test
  pub live-left : (gone : Pending → Bool) → ((s : Submission) → asks e s ≡ None) → ((p : Pending) → is_none (ends e p.submit) ≡ not (gone p)) → live_after st e ≡ filter (λ p. not (gone p)) st.live
  live-left gone none stays =
      live-of
      ∙ asks-none e none (filter (λ p. is_none (ends e p.submit)) st.live)
      ∙ filter-same (λ p. is_none (ends e p.submit)) (λ p. not (gone p)) st.live (every (λ p. is_none (ends e p.submit) ≡ not (gone p)) stays st.live)

  -- each that passes is answered so
  pub answered-for : (gone : Pending → Bool) (says : Pending → List UrbPacket) → ((p : Pending) → answers_at p.submit p.unlinker (ends e p.submit) ≡ cond (gone p) (says p) []) → answered st e ≡ map Urb (flat_map says (filter gone st.live))
  answered-for gone says one =
      answered-of
      ∙ ap (map Urb)
      (flat_map-same (λ p. answers_at p.submit p.unlinker (ends e p.submit)) (λ p. cond (gone p) (says p) []) st.live (every (λ p. answers_at p.submit p.unlinker (ends e p.submit) ≡ cond (gone p) (says p) []) one st.live)
      ∙ sym (flat_map-filter says gone st.live))

  -- and noted
  pub noted-for : (gone : Pending → Bool) → ((p : Pending) → is_by_answer (ends e p.submit) ≡ gone p) → answer_notes st e ≡ map (λ p. note.Answered p.submit.request.seqnum) (filter gone st.live)
  noted-for gone one =
      ap (λ (ps : List Pending). map (λ (p : Pending). note.Answered p.submit.request.seqnum) (filter (λ p. is_by_answer (ends e p.submit)) ps)) here
      ∙ ap (map (λ (p : Pending). note.Answered p.submit.request.seqnum)) (filter-same (λ p. is_by_answer (ends e p.submit)) gone st.live (every (λ p. is_by_answer (ends e p.submit) ≡ gone p) one st.live))

-- it drops none where it ends none by its client
pub none-dropped : (st : State) (e : Effect) → ((p : Pending) → is_by_client (ends e p.submit) ≡ false) → dropped st (mark_as st e None) ≡ []
none-dropped st e none =
    ap (map (λ (p : Pending). p.submit))
    (filter-same (λ p. is_by_client (ends e p.submit)) (λ p. false) (present st e) (every (λ p. is_by_client (ends e p.submit) ≡ false) none (present st e))
    ∙ filter-none (present st e))

-- ---- the host answers the request that has an id

module _ (st : State) (id : ℕ) (o : Outcome) where
  abbrev has : Pending → Bool
  has p = has_id id p.submit

  pub answer-left : live_after st (Answers id o) ≡ filter (λ p. not (has_id id p.submit)) st.live
  answer-left = live-left st (Answers id o) refl has (λ s. refl) (λ p. elim (has p) as (λ b. is_none (cond b (Some (ByAnswer o)) None) ≡ not b) [ true ↦ refl | false ↦ refl ])

  pub answer-sent : to_client st (mark_as st (Answers id o) None) ≡ map Urb (flat_map (λ p. answers_by p.submit o p.unlinker) (filter (λ p. has_id id p.submit) st.live))
  answer-sent =
      answered-for st (Answers id o) refl has (λ p. answers_by p.submit o p.unlinker)
      (λ p. elim (has p) as (λ b. answers_at p.submit p.unlinker (cond b (Some (ByAnswer o)) None) ≡ cond b (answers_by p.submit o p.unlinker) []) [ true ↦ refl | false ↦ refl ])

  pub answer-noted : answer_notes st (Answers id o) ≡ map (λ p. note.Answered p.submit.request.seqnum) (filter (λ p. has_id id p.submit) st.live)
  answer-noted = noted-for st (Answers id o) refl has (λ p. elim (has p) as (λ b. is_by_answer (cond b (Some (ByAnswer o)) None) ≡ b) [ true ↦ refl | false ↦ refl ])

  pub answer-dropped : dropped st (mark_as st (Answers id o) None) ≡ []
  answer-dropped = none-dropped st (Answers id o) (λ p. elim (has p) as (λ b. is_by_client (cond b (Some (ByAnswer o)) None) ≡ false) [ true ↦ refl | false ↦ refl ])

-- ---- packets of a stream fill requests that wait: it ends those that they fill, and none but them

module _ (st : State) (e : Effect) (ep : ℕ) (fs : List Filling) (fills : (s : Submission) → ends e s ≡ packets_end ep fs s) where
  pub filled-left : ((s : Submission) → asks e s ≡ None) → live_after st e ≡ filter (λ p. is_none (packets_end ep fs p.submit)) (present st e)
  filled-left none =
      asks-none e none (filter (λ p. is_none (ends e p.submit)) (present st e))
      ∙ filter-same (λ p. is_none (ends e p.submit)) (λ p. is_none (packets_end ep fs p.submit)) (present st e)
      (every (λ p. is_none (ends e p.submit) ≡ is_none (packets_end ep fs p.submit)) (λ p. ap is_none (fills p.submit)) (present st e))

  pub filled-answered : answered st e ≡ map Urb (flat_map (λ p. answers_at p.submit p.unlinker (packets_end ep fs p.submit)) (present st e))
  filled-answered =
      ap (map Urb)
      (flat_map-same (λ p. answers_at p.submit p.unlinker (ends e p.submit)) (λ p. answers_at p.submit p.unlinker (packets_end ep fs p.submit)) (present st e)
      (every (λ p. answers_at p.submit p.unlinker (ends e p.submit) ≡ answers_at p.submit p.unlinker (packets_end ep fs p.submit)) (λ p. ap (answers_at p.submit p.unlinker) (fills p.submit)) (present st e)))

  by-packets : (test : Option End → Bool) → filter (λ p. test (ends e p.submit)) (present st e) ≡ filter (λ p. test (packets_end ep fs p.submit)) (present st e)
  by-packets test =
      filter-same (λ p. test (ends e p.submit)) (λ p. test (packets_end ep fs p.submit)) (present st e)
      (every (λ p. test (ends e p.submit) ≡ test (packets_end ep fs p.submit)) (λ p. ap test (fills p.submit)) (present st e))

  pub filled-noted : answer_notes st e ≡ map (λ p. note.Answered p.submit.request.seqnum) (filter (λ p. is_by_answer (packets_end ep fs p.submit)) (present st e))
  filled-noted = ap (map (λ (p : Pending). note.Answered p.submit.request.seqnum)) (by-packets is_by_answer)

  pub filled-dropped : dropped st (mark_as st e None) ≡ map (λ p. p.submit) (filter (λ p. is_by_client (packets_end ep fs p.submit)) (present st e))
  filled-dropped = ap (map (λ (p : Pending). p.submit)) (by-packets is_by_client)

-- ---- a submit is accepted that ends none of the others

module _ (st : State) (s : Submission) (others : Each (λ p. ends (Opens s) p.submit ≡ None) st.live) (own : ends (Opens s) s ≡ at_once s.verdict) where
  by-test : (test : Option End → Bool) (answer : Bool) → test None ≡ answer → filter (λ p. test (ends (Opens s) p.submit)) st.live ≡ filter (λ p. answer) st.live
  by-test test answer h =
      filter-same (λ p. test (ends (Opens s) p.submit)) (λ p. answer) st.live
      (Each-weaker (λ p. ends (Opens s) p.submit ≡ None) (λ p. test (ends (Opens s) p.submit) ≡ answer) (λ p e. ap test e ∙ h) st.live others)

  none-so : (test : Option End → Bool) → test None ≡ false → test (at_once s.verdict) ≡ false → filter (λ p. test (ends (Opens s) p.submit)) (present st (Opens s)) ≡ []
  none-so test h k =
      filter-append (λ p. test (ends (Opens s) p.submit)) st.live (fresh s ∷ [])
      ∙ (λ i. (by-test test false h ∙ filter-none st.live) i ++ cond ((ap test own ∙ k) i) (fresh s ∷ []) [])

  -- it is the last of them, unless it ends where it is accepted
  pub opening-left : live_after st (Opens s) ≡ st.live ++ cond (is_none (at_once s.verdict)) (fresh s ∷ []) []
  opening-left =
      asks-none (Opens s) (λ t. refl) (filter (λ p. is_none (ends (Opens s) p.submit)) (present st (Opens s)))
      ∙ filter-append (λ p. is_none (ends (Opens s) p.submit)) st.live (fresh s ∷ [])
      ∙ (λ i. (by-test is_none true refl ∙ filter-all st.live) i ++ cond (is_none (own i)) (fresh s ∷ []) [])

  pub opening-answered : answered st (Opens s) ≡ map Urb (answers_at s None (at_once s.verdict))
  opening-answered =
      ap (map Urb)
      (flat_map-append (λ p. answers_at p.submit p.unlinker (ends (Opens s) p.submit)) st.live (fresh s ∷ [])
      ∙ (λ i. (flat_map-same (λ p. answers_at p.submit p.unlinker (ends (Opens s) p.submit)) (λ p. []) st.live
      (Each-weaker (λ p. ends (Opens s) p.submit ≡ None) (λ p. answers_at p.submit p.unlinker (ends (Opens s) p.submit) ≡ []) (λ p e. ap (answers_at p.submit p.unlinker) e) st.live others)
      ∙ flat_map-none st.live) i ++ (answers_at s None (own i) ++ []))
      ∙ append-nil (answers_at s None (at_once s.verdict)))

  pub opening-noted : is_by_answer (at_once s.verdict) ≡ false → answer_notes st (Opens s) ≡ []
  opening-noted by_answer = ap (map (λ (p : Pending). note.Answered p.submit.request.seqnum)) (none-so is_by_answer refl by_answer)

  pub opening-dropped : is_by_client (at_once s.verdict) ≡ false → dropped st (mark_as st (Opens s) None) ≡ []
  opening-dropped by_client = ap (map (λ (p : Pending). p.submit)) (none-so is_by_client refl by_client)

-- ---- a submit is accepted that ends others, so: a change ends those that wait for streams which it touches

module _ (st : State) (s : Submission) (gone : Pending → Bool) (x : End) (others : Each (λ p. ends (Opens s) p.submit ≡ cond (gone p) (Some x) None) st.live) (own : ends (Opens s) s ≡ None) where
  ended-by : (test : Option End → Bool) (so : Bool → Bool) → test (Some x) ≡ so true → test None ≡ so false → filter (λ p. test (ends (Opens s) p.submit)) st.live ≡ filter (λ p. so (gone p)) st.live
  ended-by test so ended stays =
      filter-same (λ p. test (ends (Opens s) p.submit)) (λ p. so (gone p)) st.live
      (Each-weaker (λ p. ends (Opens s) p.submit ≡ cond (gone p) (Some x) None) (λ p. test (ends (Opens s) p.submit) ≡ so (gone p))
      (λ p e. ap test e ∙ elim (gone p) as (λ b. test (cond b (Some x) None) ≡ so b) [ true ↦ ended | false ↦ stays ]) st.live others)

  none-ended : (test : Option End → Bool) → test (Some x) ≡ false → test None ≡ false → filter (λ p. test (ends (Opens s) p.submit)) (present st (Opens s)) ≡ []
  none-ended test ended stays =
      filter-append (λ p. test (ends (Opens s) p.submit)) st.live (fresh s ∷ [])
      ∙ (λ i. (ended-by test (λ b. false) ended stays ∙ filter-none st.live) i ++ cond ((ap test own ∙ stays) i) (fresh s ∷ []) [])

  pub change-left : live_after st (Opens s) ≡ filter (λ p. not (gone p)) st.live ++ fresh s ∷ []
  change-left =
      asks-none (Opens s) (λ t. refl) (filter (λ p. is_none (ends (Opens s) p.submit)) (present st (Opens s)))
      ∙ filter-append (λ p. is_none (ends (Opens s) p.submit)) st.live (fresh s ∷ [])
      ∙ (λ i. ended-by is_none not refl refl i ++ cond (is_none (own i)) (fresh s ∷ []) [])

  pub change-noted : is_by_answer (Some x) ≡ false → answer_notes st (Opens s) ≡ []
  change-noted by_answer = ap (map (λ (p : Pending). note.Answered p.submit.request.seqnum)) (none-ended is_by_answer by_answer refl)

  pub change-dropped : is_by_client (Some x) ≡ false → dropped st (mark_as st (Opens s) None) ≡ []
  change-dropped by_client = ap (map (λ (p : Pending). p.submit)) (none-ended is_by_client by_client refl)

-- ---- the client leaves: nobody is left

no-pass : (test : Pending → Bool) → ((p : Pending) → test p ≡ false) → (ps : List Pending) → filter test ps ≡ []
no-pass test none ps = filter-same test (λ p. false) ps (every (λ p. test p ≡ false) none ps) ∙ filter-none ps

module _ (st : State) (e : Effect) (gone : leaves e ≡ true) where
  by-client : (p : Pending) → ends e p.submit ≡ Some ByClient
  by-client p = ap (λ (b : Bool). cond b (Some ByClient) (cond (is_loss e) (Some ByLoss) (own_end e p.submit))) gone

  pub leaving-left : live_after st e ≡ []
  leaving-left = ap (map (ask e)) (no-pass (λ p. is_none (ends e p.submit)) (λ p. ap is_none (by-client p)) (present st e))

  pub leaving-answered : answered st e ≡ []
  leaving-answered =
      ap (map Urb)
      (flat_map-same (λ p. answers_at p.submit p.unlinker (ends e p.submit)) (λ p. []) (present st e)
      (every (λ p. answers_at p.submit p.unlinker (ends e p.submit) ≡ []) (λ p. ap (answers_at p.submit p.unlinker) (by-client p)) (present st e))
      ∙ flat_map-none (present st e))

  pub leaving-noted : answer_notes st e ≡ []
  leaving-noted = ap (map (λ (p : Pending). note.Answered p.submit.request.seqnum)) (no-pass (λ p. is_by_answer (ends e p.submit)) (λ p. ap is_by_answer (by-client p)) (present st e))

  pub leaving-dropped : dropped st (mark_as st e None) ≡ map (λ p. p.submit) (present st e)
  leaving-dropped =
      ap (map (λ (p : Pending). p.submit))
      (filter-same (λ p. is_by_client (ends e p.submit)) (λ p. true) (present st e) (every (λ p. is_by_client (ends e p.submit) ≡ true) (λ p. ap is_by_client (by-client p)) (present st e))
      ∙ filter-all (present st e))
