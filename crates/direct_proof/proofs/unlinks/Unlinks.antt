-- An unlink, as the gateway takes it.
use Rattle.std.proofs.Common.{◌≡◌, ℕ, ◌≤◌, ◌==◌, ◌||◌, ◌&&◌, not, Bool, true, false, cond, List, [], ◌∷◌, ◌++◌, map, filter, length, Some, None, is_none, refl, sym, ap, ◌∙◌, arith, append-nil, true≢false}
use Rattle.std.specs.Prelude.{pos}
use Rattle.std.specs.List.{list_any, flat_map, AllByRecursion as Each}
use Rattle.std.proofs.lemmas.Bool.{or_left, or_right}
use Rattle.std.proofs.Math.Bool.{or-false}
use Rattle.usbip_urb.specs.declared.client.ClientPacket.{ClientPacket}
use Rattle.usbip_urb.specs.declared.client.ClientPacket.TheVariants.{Urb}
use Rattle.gate_history.specs.declared.verdict.Verdict.{Verdict}
use Rattle.gate_history.specs.declared.verdict.Verdict.TheVariants.{Wire, Routed}
use Rattle.gate_history.specs.client.Verdict.{goes_by_id}
use Rattle.gate_history.specs.step.Marks.{Submission, Effect, Unlinks}
use Rattle.gate_history.specs.client.Submits.{Pending}
use Rattle.gate_history.specs.client.Ends.{is_waiting, ends, ByUnlink, answers_at}
use Rattle.gate_history.specs.write.Answers.{ret_unlink}
use Rattle.usb_base.specs.declared.errno.TheConstants.{ECONNRESET}
use Rattle.gate_history.specs.write.Output.{is_target as gate_target, is_taken as gate_taken, cancels, cancel, to_host, to_client, present}
use Rattle.gate_history.specs.write.Notes.{is_by_answer, notes_of}
use Rattle.gate_history.specs.state.State.{State, submits}
use Rattle.gate_history.specs.step.Machine.{ask, live_after}
use Rattle.gate_history.specs.step.Meaning.{mark_as}
use Rattle.gate_history.proofs.lemmas.Lists.{every, filter-same, filter-none, filter-map, flat_map-same, flat_map-filter, list_any-map, map-map}
use Rattle.gate_history.specs.declared.note.Note.TheVariants as note
use Rattle.direct_run.specs.Noted.{named}
use Rattle.direct_device.specs.Direct.{Live, Direct}
use Rattle.direct_device.specs.Acting.{Unlink, Answer, is_taken, is_target, asked_back, unlink_answers}
use Rattle.direct_proof.specs.Deeds.{deeds_of}
use Rattle.direct_proof.specs.Requests.{Debt, debts_of, live_of}
use Rattle.direct_proof.proofs.lists.Counts.{any-none}
use Rattle.direct_proof.proofs.shared.Asked.{debt_from}

module _ (st : State) (by target : ℕ) where
  abbrev pub what : Effect
  what = Unlinks by target

  stays-as : (p : Pending) → is_none (ends what p.submit) ≡ not (gate_taken target p)
  stays-as p = elim (gate_taken target p) as (λ b. is_none (cond b (Some (ByUnlink by)) None) ≡ not b) [ true ↦ refl | false ↦ refl ]

  -- who stays, and is marked
  pub live-unlinked : live_after st what ≡ map (ask what) (filter (λ p. not (gate_taken target p)) st.live)
  live-unlinked = ap (λ (l : List Pending). map (ask what) (filter (λ p. is_none (ends what p.submit)) l)) (append-nil st.live)
      ∙ ap (map (ask what)) (filter-same (λ p. is_none (ends what p.submit)) (λ p. not (gate_taken target p)) st.live (every (λ p. is_none (ends what p.submit) ≡ not (gate_taken target p)) stays-as st.live))

  -- as the device has them
  pub live-same : map live_of (live_after st what) ≡ map (asked_back by target) (filter (λ l. not (is_taken target l)) (map live_of st.live))
  live-same = ap (map live_of) live-unlinked
      ∙ map-map live_of (ask what) (filter (λ p. not (gate_taken target p)) st.live)
      ∙ sym (map-map (asked_back by target) live_of (filter (λ p. not (gate_taken target p)) st.live))
      ∙ ap (map (asked_back by target)) (sym (filter-map (λ (l : Live). not (is_taken target l)) live_of st.live))

  -- what is owed stays so
  pub debts-unlinked : debts_of (map (λ (p : Pending). p.submit) (live_after st what)) ≡ debts_of (submits st)
  debts-unlinked = ap (λ (l : List Pending). debts_of (map (λ (p : Pending). p.submit) l)) live-unlinked ∙ go st.live
    where
      waits : (v : Verdict) (b : Bool) → (is_waiting v && b) ≡ true → goes_by_id v ≡ false
      waits (Wire pipe) b h = absurd (true≢false (sym h))
      waits (Routed r) b h = absurd (true≢false (sym h))
      waits _ b h = refl

      go : (ps : List Pending) → debts_of (map (λ (p : Pending). p.submit) (map (ask what) (filter (λ p. not (gate_taken target p)) ps))) ≡ debts_of (map (λ (p : Pending). p.submit) ps)
      go [] = refl
      go (p ∷ ps) = on (gate_taken target p) refl (go ps)
        where
          rest : List Pending
          rest = filter (λ x. not (gate_taken target x)) ps

          two : (a : Bool) (xs ys : List Submission) → debts_of xs ≡ debts_of ys → map debt_from (cond a (p.submit ∷ filter (λ (x : Submission). goes_by_id x.verdict) xs) (filter (λ (x : Submission). goes_by_id x.verdict) xs)) ≡ map debt_from (cond a (p.submit ∷ filter (λ (x : Submission). goes_by_id x.verdict) ys) (filter (λ (x : Submission). goes_by_id x.verdict) ys))
          two true xs ys e = ap (λ (l : List Debt). debt_from p.submit ∷ l) e
          two false xs ys e = e

          on : (b : Bool) → gate_taken target p ≡ b → debts_of (map (λ (x : Pending). x.submit) (map (ask what) rest)) ≡ debts_of (map (λ (x : Pending). x.submit) ps) →
              debts_of (map (λ (x : Pending). x.submit) (map (ask what) (cond (not b) (p ∷ rest) rest))) ≡ debts_of (p.submit ∷ map (λ (x : Pending). x.submit) ps)
          on true e k = k ∙ ap (λ (a : Bool). map debt_from (cond a (p.submit ∷ filter (λ (x : Submission). goes_by_id x.verdict) (map (λ (x : Pending). x.submit) ps)) (filter (λ (x : Submission). goes_by_id x.verdict) (map (λ (x : Pending). x.submit) ps)))) (sym (waits p.submit.verdict (p.submit.request.seqnum == target) e))
          on false e k = two (goes_by_id p.submit.verdict) (map (λ (x : Pending). x.submit) (map (ask what) rest)) (map (λ (x : Pending). x.submit) ps) k

  none-by-answer : filter (λ p. is_by_answer (ends what p.submit)) (present st what) ≡ []
  none-by-answer = filter-same (λ p. is_by_answer (ends what p.submit)) (λ p. false) (present st what)
      (every (λ p. is_by_answer (ends what p.submit) ≡ false) (λ p. elim (gate_taken target p) as (λ b. is_by_answer (cond b (Some (ByUnlink by)) None) ≡ false) [ true ↦ refl | false ↦ refl ]) (present st what))
      ∙ filter-none (present st what)

  pub unlink-done : deeds_of st (mark_as st what None) ≡ Unlink by target ∷ []
  unlink-done = ap (λ (ps : List Pending). ((Unlink by target ∷ []) ++ map (λ (p : Pending). Answer p.submit.request.seqnum) ps) ++ [] ++ []) none-by-answer

  pub unlink-named : flat_map named (notes_of st (mark_as st what None)) ≡ []
  unlink-named = ap (λ (ps : List Pending). flat_map named (((note.UnlinkAsked by target ∷ []) ++ map (λ (p : Pending). note.Answered p.submit.request.seqnum) ps) ++ [] ++ [] ++ [])) none-by-answer

  -- its cancel
  pub unlink-sent : to_host st (mark_as st what None) ≡ map cancel (filter (cancels what) st.live)
  unlink-sent = append-nil (map cancel (filter (cancels what) st.live) ++ []) ∙ append-nil (map cancel (filter (cancels what) st.live))

  -- what it answers, where no number is taken twice
  pub unlink-answers : length (filter (gate_taken target) st.live) ≤ 1 → {S : Type 0} → (d : Direct S) → d.live ≡ map live_of st.live → to_client st (mark_as st what None) ≡ map Urb (unlink_answers d by target)
  unlink-answers few d live = (λ i. replies ++ map Urb (told i)) ∙ go (list_any (gate_taken target) st.live) refl (filter (gate_taken target) st.live) refl few ∙ ap (map Urb) (sym said)
    where
      replies : List ClientPacket
      replies = cond (list_any (λ p. gate_target target p || gate_taken target p) st.live) [] (Urb (ret_unlink by (pos 0)) ∷ [])

      told : flat_map (λ p. answers_at p.submit p.unlinker (ends what p.submit)) (present st what) ≡ flat_map (λ p. ret_unlink by ECONNRESET ∷ []) (filter (gate_taken target) st.live)
      told = ap (flat_map (λ p. answers_at p.submit p.unlinker (ends what p.submit))) (append-nil st.live)
          ∙ flat_map-same (λ p. answers_at p.submit p.unlinker (ends what p.submit)) (λ p. cond (gate_taken target p) (ret_unlink by ECONNRESET ∷ []) []) st.live
          (every (λ p. answers_at p.submit p.unlinker (ends what p.submit) ≡ cond (gate_taken target p) (ret_unlink by ECONNRESET ∷ []) [])
          (λ p. elim (gate_taken target p) as (λ b. answers_at p.submit p.unlinker (cond b (Some (ByUnlink by)) None) ≡ cond b (ret_unlink by ECONNRESET ∷ []) []) [ true ↦ refl | false ↦ refl ]) st.live)
          ∙ sym (flat_map-filter (λ p. ret_unlink by ECONNRESET ∷ []) (gate_taken target) st.live)

      said : unlink_answers d by target ≡ cond (list_any (gate_taken target) st.live) (ret_unlink by ECONNRESET ∷ []) (cond (list_any (gate_target target) st.live) [] (ret_unlink by (pos 0) ∷ []))
      said = (λ i. cond (list_any (is_taken target) (live i)) (ret_unlink by ECONNRESET ∷ []) (cond (list_any (is_target target) (live i)) [] (ret_unlink by (pos 0) ∷ [])))
          ∙ (λ i. cond (list_any-map (is_taken target) live_of st.live i) (ret_unlink by ECONNRESET ∷ []) (cond (list_any-map (is_target target) live_of st.live i) [] (ret_unlink by (pos 0) ∷ [])))

      either : (ps : List Pending) → list_any (gate_taken target) ps ≡ true → list_any (λ p. gate_target target p || gate_taken target p) ps ≡ true
      either [] h = absurd (true≢false (sym h))
      either (p ∷ ps) h = on (gate_taken target p) refl h (either ps)
        where
          on : (b : Bool) → gate_taken target p ≡ b → (b || list_any (gate_taken target) ps) ≡ true → (list_any (gate_taken target) ps ≡ true → list_any (λ x. gate_target target x || gate_taken target x) ps ≡ true) → ((gate_target target p || gate_taken target p) || list_any (λ x. gate_target target x || gate_taken target x) ps) ≡ true
          on true e k rest = or_left (gate_target target p || gate_taken target p) (list_any (λ x. gate_target target x || gate_taken target x) ps) (or_right (gate_target target p) (gate_taken target p) e)
          on false e k rest = or_right (gate_target target p || gate_taken target p) (list_any (λ x. gate_target target x || gate_taken target x) ps) (rest k)

      none : (ps : List Pending) → Each (λ (p : Pending). gate_taken target p ≡ false) ps → list_any (λ p. gate_target target p || gate_taken target p) ps ≡ list_any (gate_target target) ps
      none [] h = refl
      none (p ∷ ps) h = λ i. (ap (λ (b : Bool). gate_target target p || b) h.0 ∙ or-false (gate_target target p)) i || none ps h.1 i

      passes : (ps : List Pending) → list_any (gate_taken target) ps ≡ true → filter (gate_taken target) ps ≡ [] → ⊥
      passes [] h e = true≢false (sym h)
      passes (p ∷ ps) h e = on (gate_taken target p) h e (passes ps)
        where
          on : (b : Bool) → (b || list_any (gate_taken target) ps) ≡ true → cond b (p ∷ filter (gate_taken target) ps) (filter (gate_taken target) ps) ≡ [] → (list_any (gate_taken target) ps ≡ true → filter (gate_taken target) ps ≡ [] → ⊥) → ⊥
          on true k z rest = cc
          on false k z rest = rest k z

      fails : (ps : List Pending) → Each (λ (p : Pending). gate_taken target p ≡ false) ps → filter (gate_taken target) ps ≡ []
      fails ps h = filter-same (gate_taken target) (λ p. false) ps h ∙ filter-none ps

      go : (b : Bool) → list_any (gate_taken target) st.live ≡ b → (ts : List Pending) → filter (gate_taken target) st.live ≡ ts → length (filter (gate_taken target) st.live) ≤ 1 →
          replies ++ map Urb (flat_map (λ p. ret_unlink by ECONNRESET ∷ []) (filter (gate_taken target) st.live)) ≡ map Urb (cond (list_any (gate_taken target) st.live) (ret_unlink by ECONNRESET ∷ []) (cond (list_any (gate_target target) st.live) [] (ret_unlink by (pos 0) ∷ [])))
      go true some [] is one = absurd (passes st.live some is)
      go true some (t ∷ []) is one = (λ i. cond (either st.live some i) [] (Urb (ret_unlink by (pos 0)) ∷ []) ++ map Urb (flat_map (λ p. ret_unlink by ECONNRESET ∷ []) (is i)))
          ∙ ap (λ (b : Bool). map Urb (cond b (ret_unlink by ECONNRESET ∷ []) (cond (list_any (gate_target target) st.live) [] (ret_unlink by (pos 0) ∷ [])))) (sym some)
      go true some (t ∷ u ∷ ts) is one = absurd (let many = ap length is in omega (arith, one, many))
      go false some ts is one =
          (λ i. cond (none st.live each i) [] (Urb (ret_unlink by (pos 0)) ∷ []) ++ map Urb (flat_map (λ p. ret_unlink by ECONNRESET ∷ []) (fails st.live each i)))
          ∙ append-nil (cond (list_any (gate_target target) st.live) [] (Urb (ret_unlink by (pos 0)) ∷ []))
          ∙ spread (list_any (gate_target target) st.live)
          ∙ ap (λ (b : Bool). map Urb (cond b (ret_unlink by ECONNRESET ∷ []) (cond (list_any (gate_target target) st.live) [] (ret_unlink by (pos 0) ∷ [])))) (sym some)
        where
          each : Each (λ (p : Pending). gate_taken target p ≡ false) st.live
          each = any-none (gate_taken target) st.live some

          spread : (b : Bool) → cond b [] (Urb (ret_unlink by (pos 0)) ∷ []) ≡ map Urb (cond b [] (ret_unlink by (pos 0) ∷ []))
          spread true = refl
          spread false = refl
