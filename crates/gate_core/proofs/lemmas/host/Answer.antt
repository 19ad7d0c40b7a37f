-- What an answer of the host makes of what is kept, and what it sends and tells.
use Rattle.std.proofs.Common.{◌≡◌, ℕ, ◌+◌, ◌^◌, ◌-◌, ◌≤◌, ◌&&◌, Bool, true, false, cond, not, eqb, List, [], ◌∷◌, ◌++◌, length, map, Option, Some, None, refl, sym, ap, subst, ◌∙◌, arith, suc}
use Rattle.std.specs.Prelude.{is_none, unwrap_or, filter, option_map, slice_get, IfSome}
use Rattle.std.specs.List.{find, position, flat_map}
use Rattle.std.specs.Option.{option_and_then, option_or, option_to_list}
use Rattle.std.proofs.lemmas.Bool.{false≢true}
use Rattle.std.proofs.lemmas.List.{append-nil, length-append, length-map}
use Rattle.std.proofs.lemmas.List.Elements.{filter-append}
use Rattle.std.proofs.lemmas.List.Folds.{find-append}
use Rattle.usb_base.specs.declared.refusal.Refusal.{Refusal}
use Rattle.usb_base.specs.declared.transfer.Outcome.{Outcome}
use Rattle.usbip_urb.specs.declared.client.ClientPacket.{ClientPacket}
use Rattle.usbip_urb.specs.declared.client.ClientPacket.TheVariants.{Urb}
use Rattle.usbip_urb.specs.ClientPackets.{client_spelling}
use Rattle.usbip_urb.specs.Spelling.{spelling}
use Rattle.redir_wire.specs.declared.packet.Caps.{Caps}
use Rattle.redir_wire.specs.declared.packet.Header.{Header}
use Rattle.redir_wire.specs.declared.packet.Hello.{Hello}
use Rattle.redir_wire.specs.declared.packet.RedirControl.{RedirControl}
use Rattle.redir_wire.specs.declared.packet.RedirControl.TheVariants as plain
use Rattle.redir_wire.specs.Header.{head_size}
use Rattle.redir_data.specs.declared.packet.RedirPacket.{RedirPacket}
use Rattle.redir_data.specs.declared.packet.RedirPacket.TheVariants.{Plain}
use Rattle.unlink_race.specs.declared.ending.Ending.{Ending}
use Rattle.unlink_race.specs.declared.ending.Ending.TheVariants.{Completed, Unlinked, CompletedThenLate}
use Rattle.unlink_race.specs.declared.live.Live.{Live}
use Rattle.unlink_race.specs.Searches.{has_id as has_row_id}
use Rattle.unlink_race.specs.Firsts.{without_first}
use Rattle.unlink_race.specs.Requests.{Requests, in_flight}
use Rattle.unlink_race.proofs.Firsts.{took_none}
use Rattle.gate_history.specs.declared.note.Note.{Note}
use Rattle.gate_history.specs.declared.note.Note.TheVariants as note
use Rattle.gate_parts.specs.declared.write.outputs.Outputs.{Outputs}
use Rattle.gate_core.specs.declared.state.kept.Kept.{Kept}
use Rattle.usb_base.specs.Number.{capped}
use Rattle.gate_history.specs.declared.facts.Facts.{Facts}
use Rattle.gate_history.specs.step.Marks.{Submission, Fact, Effect, Idle, Agrees, Answers, Refuses}
use Rattle.gate_history.specs.state.Facts.{no_facts, tell}
use Rattle.gate_history.specs.state.Sides.{is_loss, closes_host, turned, is_client}
use Rattle.gate_history.specs.state.Flight.{wide_ids}
use Rattle.gate_history.specs.client.Submits.{Pending}
use Rattle.gate_history.specs.client.Ends.{has_id, answers_by}
use Rattle.gate_history.specs.state.State.{State, submits}
use Rattle.gate_history.specs.host.Responses.{Response, response_of, expected_of, mismatch, told_outcome}
use Rattle.gate_history.specs.step.Meaning.{mark_as, answered_as, answer_to, by_response, told_meaning}
use Rattle.gate_history.specs.state.Sound.{IsSound}
use Rattle.gate_history.specs.write.Output.{cancels, cancel, to_client}
use Rattle.gate_history.specs.write.Notes.{answer_notes}
use Rattle.gate_history.specs.write.All.{is_ret_submit, is_won_unlink}
use Rattle.redir_data.specs.Sent.{sent_packet_bytes}
use Rattle.gate_parts.specs.state.Rows.{row_of, row, unmarked, left_row}
use Rattle.gate_parts.specs.host.Responses.{expected_by, completes, IsAnswer, has_won, IsCounted}
use Rattle.gate_parts.specs.write.Outputs.{with_answers}
use Rattle.gate_parts.proofs.lemmas.write.Outputs.{with-none}
use Rattle.gate_core.specs.inner.host.Counted.{counted}
use Rattle.gate_core.specs.inner.state.Holds.{IsRow, Holds, Does}
use Rattle.gate_history.specs.step.Fits.{ResponseFits}
use Rattle.gate_history.proofs.lemmas.Lists.{Each, every, filter-same, filter-map, flat_map-map}
use Rattle.gate_history.proofs.lemmas.step.Effects.{answer-left, answer-sent, answer-noted, answer-dropped}
use Rattle.gate_core.proofs.lemmas.host.Firsts.{without-first, find-first}
use Rattle.gate_core.proofs.lemmas.state.Held.{is-there, there-too, each-at}
use Rattle.gate_core.proofs.lemmas.step.Quiet.{capped-same, does-quiet, silent-is}
use Rattle.gate_parts.proofs.lemmas.state.Rows.{by_id-row}
use Rattle.gate_history.specs.step.Wants.{GivesSome}
use Rattle.gate_core.proofs.lemmas.write.Gives.{by-answer}
use Rattle.gate_core.proofs.lemmas.step.Steady.{host-same, rows-same, does-idle, does-steady}
use Rattle.gate_history.proofs.lemmas.step.NoCancel.{stays-uncancelled}
use Rattle.gate_parts.proofs.lemmas.host.Responses.{row-mismatch, mismatch-capped, is-answer}

-- ---- what is found by a map

pub find-map : {X Y : Type 0} (p : Y → Bool) (f : X → Y) (xs : List X) → find p (map f xs) ≡ option_map f (find (λ x. p (f x)) xs)
find-map p f [] = refl
find-map {X = X} p f (x ∷ xs) =
    let rest = find-map p f xs in
    elim (p (f x)) as (λ b. cond b (Some (f x)) (find p (map f xs)) ≡ option_map f (cond b (Some x) (find (λ y. p (f y)) xs))) [ true ↦ refl | false ↦ rest ]

find-same : {X : Type 0} (p q : X → Bool) → ((x : X) → p x ≡ q x) → (xs : List X) → find p xs ≡ find q xs
find-same p q h [] = refl
find-same {X = X} p q h (x ∷ xs) = λ i. cond (h x i) (Some x) (find-same p q h xs i)

without-none : {X : Type 0} (p : X → Bool) (xs : List X) → find p xs ≡ None → without_first p xs ≡ xs
without-none p [] e = refl
without-none {X = X} p (x ∷ xs) e = of (without-none p xs) (p x) e
  where
    of : (find p xs ≡ None → without_first p xs ≡ xs) → (b : Bool) → cond b (Some x) (find p xs) ≡ None → cond b xs (x ∷ without_first p xs) ≡ x ∷ xs
    of rest true e = absurd (false≢true (ap is_none e))
    of rest false e = ap (λ (l : List X). x ∷ l) (rest e)

pub Each-without : {X : Type 0} (P : X → Type 0) (p : X → Bool) (xs : List X) → Each P xs → Each P (without_first p xs)
Each-without P p [] h = tt
Each-without P p (x ∷ xs) h =
    let rest = Each-without P p xs h.1 in
    elim (p x) as (λ b. Each P (cond b xs (x ∷ without_first p xs))) [ true ↦ h.1 | false ↦ (h.0, rest) ]

pub length-without : {X : Type 0} (p : X → Bool) (xs : List X) → length (without_first p xs) ≤ length xs
length-without p [] = omega arith
length-without p (x ∷ xs) = let h = length-without p xs in elim (p x) as (λ b. length (cond b xs (x ∷ without_first p xs)) ≤ suc (length xs)) [ true ↦ omega arith | false ↦ omega (arith, h) ]

map-none : {X Y : Type 0} (f : X → Y) (o : Option X) → option_map f o ≡ None → o ≡ None
map-none f None e = refl
map-none f (Some x) e = absurd (false≢true (ap is_none e))

record IsOf {X Y : Type 0} (f : X → Y) (o : Option X) (y : Y) : Type 0 where
  from : X
  found : o ≡ Some from
  is : f from ≡ y

map-some : {X Y : Type 0} (f : X → Y) (o : Option X) (y : Y) → option_map f o ≡ Some y → IsOf f o y
map-some f None y e = absurd (false≢true (sym (ap is_none e)))
map-some {Y = Y} f (Some x) y e = record { from = x; found = refl; is = ap (λ (o : Option Y). unwrap_or o (f x)) e }

-- ---- rows by their ids

abbrev pub pending_has_id : ℕ → Pending → Bool
pending_has_id id p = has_id id p.submit

pub row-id : (id : ℕ) (p : Pending) → has_row_id id (row p) ≡ pending_has_id id p
row-id id p = ap (λ (b : Bool). b && eqb p.submit.id id) (by_id-row p.submit p.unlinker)

left-id : (id : ℕ) (s : Submission) → has_row_id id (left_row s) ≡ has_id id s
left-id id s = ap (λ (b : Bool). b && eqb s.id id) (by_id-row s None)

pub find-rows : (id : ℕ) (ps : List Pending) → find (has_row_id id) (map row ps) ≡ option_map row (find (pending_has_id id) ps)
find-rows id ps = find-map (has_row_id id) row ps ∙ ap (option_map row) (find-same (λ p. has_row_id id (row p)) (pending_has_id id) (row-id id) ps)

find-left : (id : ℕ) (ss : List Submission) → find (has_row_id id) (map left_row ss) ≡ option_map left_row (find (has_id id) ss)
find-left id ss = find-map (has_row_id id) left_row ss ∙ ap (option_map left_row) (find-same (λ s. has_row_id id (left_row s)) (has_id id) (left-id id) ss)

find-unmarked : (id : ℕ) (ls : List Live) → option_map unmarked (find (has_row_id id) ls) ≡ find (has_row_id id) (map unmarked ls)
find-unmarked id ls = sym (find-map (has_row_id id) unmarked ls)

without-unmarked : (id : ℕ) (ls : List Live) → map unmarked (without_first (has_row_id id) ls) ≡ without_first (has_row_id id) (map unmarked ls)
without-unmarked id [] = refl
without-unmarked id (l ∷ ls) =
    let rest = without-unmarked id ls in
    elim (has_row_id id l) as (λ b. map unmarked (cond b ls (l ∷ without_first (has_row_id id) ls)) ≡ cond b (map unmarked ls) (unmarked l ∷ without_first (has_row_id id) (map unmarked ls)))
    [ true ↦ refl | false ↦ ap (λ (rs : List Live). unmarked l ∷ rs) rest ]

-- ---- the request that waits

module _ (st : State) (id : ℕ) (sound : IsSound st) where
  total : length (filter (has_id id) (submits st)) + length (filter (has_id id) st.abandoned) ≤ 1
  total =
      let parts = ap length (filter-append (has_id id) (submits st) st.abandoned) ∙ length-append (filter (has_id id) (submits st)) (filter (has_id id) st.abandoned) in
      omega (arith, parts, sound.ids id)

  of-live : length (filter (has_id id) (submits st)) ≡ length (filter (pending_has_id id) st.live)
  of-live = ap length (filter-map (has_id id) (λ (p : Pending). p.submit) st.live) ∙ length-map (filter (pending_has_id id) st.live) (λ (p : Pending). p.submit)

  few-live : length (filter (pending_has_id id) st.live) ≤ 1
  few-live = omega (arith, total, of-live)

  few-left : length (filter (has_id id) st.abandoned) ≤ 1
  few-left = omega (arith, total)

  few-rows : length (filter (has_row_id id) (map row st.live)) ≤ 1
  few-rows =
      let same = ap length (filter-map (has_row_id id) row st.live) ∙ length-map (filter (λ p. has_row_id id (row p)) st.live) row
      ∙ ap length (filter-same (λ p. has_row_id id (row p)) (pending_has_id id) st.live (every (λ p. has_row_id id (row p) ≡ pending_has_id id p) (row-id id) st.live)) in
      omega (arith, same, few-live)

  few-left-rows : length (filter (has_row_id id) (map left_row st.abandoned)) ≤ 1
  few-left-rows =
      let same = ap length (filter-map (has_row_id id) left_row st.abandoned) ∙ length-map (filter (λ s. has_row_id id (left_row s)) st.abandoned) left_row
      ∙ ap length (filter-same (λ s. has_row_id id (left_row s)) (has_id id) st.abandoned (every (λ s. has_row_id id (left_row s) ≡ has_id id s) (left-id id) st.abandoned)) in
      omega (arith, same, few-left)

  pub live-without : without_first (has_row_id id) (map row st.live) ≡ map row (filter (λ p. not (pending_has_id id p)) st.live)
  live-without =
      without-first (has_row_id id) (map row st.live) few-rows
      ∙ filter-map (λ l. not (has_row_id id l)) row st.live
      ∙ ap (map row) (filter-same (λ p. not (has_row_id id (row p))) (λ p. not (pending_has_id id p)) st.live (every (λ p. not (has_row_id id (row p)) ≡ not (pending_has_id id p)) (λ p. ap not (row-id id p)) st.live))

  left-without : without_first (has_row_id id) (map left_row st.abandoned) ≡ map left_row (filter (λ s. not (has_id id s)) st.abandoned)
  left-without =
      without-first (has_row_id id) (map left_row st.abandoned) few-left-rows
      ∙ filter-map (λ l. not (has_row_id id l)) left_row st.abandoned
      ∙ ap (map left_row) (filter-same (λ s. not (has_row_id id (left_row s))) (λ s. not (has_id id s)) st.abandoned (every (λ s. not (has_row_id id (left_row s)) ≡ not (has_id id s)) (λ s. ap not (left-id id s)) st.abandoned))

  pub abandoned-without : (rows : List Live) → map unmarked rows ≡ map left_row st.abandoned → map unmarked (without_first (has_row_id id) rows) ≡ map left_row (filter (λ s. not (has_id id s)) st.abandoned)
  abandoned-without rows h = without-unmarked id rows ∙ ap (without_first (has_row_id id)) h ∙ left-without

  pub found-alone : filter (pending_has_id id) st.live ≡ option_to_list (find (pending_has_id id) st.live)
  found-alone = find-first (pending_has_id id) st.live few-live

  -- where one is live nothing is abandoned
  pub left-alone : (p : Pending) → find (pending_has_id id) st.live ≡ Some p → st.abandoned ≡ []
  left-alone p e = of st.sides.imported refl
    where
      of : (b : Bool) → st.sides.imported ≡ b → st.abandoned ≡ []
      of true h = sound.apart h
      of false h = absurd (false≢true (ap is_none (sym e ∙ ap (find (pending_has_id id)) (sound.gone h))))

-- ---- the effect

module _ (st : State) (id : ℕ) (o : Outcome) where
  -- the answers of the one that has the id
  abbrev pub sent : List Pending → List ClientPacket
  sent ps = map Urb (flat_map (λ p. answers_by p.submit o p.unlinker) ps)

  abbrev pub told_of : List Pending → List Note
  told_of ps = map (λ p. note.Answered p.submit.request.seqnum) ps

  pub does-answer : (old new : Kept) (rows left : List Live) (found : List Pending) (out out_new : Outputs) → Holds old st → old.dropped ≤ 2 ^ 64 - 1 →
      filter (pending_has_id id) st.live ≡ found →
      rows ≡ map row (filter (λ p. not (pending_has_id id p)) st.live) →
      map unmarked left ≡ map left_row (filter (λ s. not (has_id id s)) st.abandoned) →
      new ≡ record old {
        lives = record { live = rows; abandoned = left };
        answered = capped (old.answered + length (filter is_ret_submit (sent found)));
        unlinked = capped (old.unlinked + length (filter is_won_unlink (sent found)));
      } →
      out_new ≡ with_answers out (flat_map client_spelling (sent found)) (told_of found) →
      Does st (mark_as st (Answers id o) None) old new out out_new
  does-answer old new rows left found out out_new h few one live_is left_is is gives =
      let sends : sent found ≡ to_client st (mark_as st (Answers id o) None) = sym (answer-sent st id o ∙ ap sent one) in
      let tells : told_of found ≡ answer_notes st (Answers id o) = sym (answer-noted st id o ∙ ap told_of one) in
      does-quiet st (Answers id o) refl old new rows left (length (filter is_ret_submit (sent found))) (length (filter is_won_unlink (sent found))) out out_new h few is
      (live_is ∙ ap (map row) (sym (answer-left st id o))) left_is
      (ap (λ (ps : List ClientPacket). length (filter is_ret_submit ps)) sends) (ap (λ (ps : List ClientPacket). length (filter is_won_unlink ps)) sends) (answer-dropped st id o)
      (ap (λ (x : Outputs). x.to_client) gives ∙ ap (λ (ps : List ClientPacket). out.to_client ++ flat_map client_spelling ps) sends)
      (ap (λ (x : Outputs). x.to_host) gives ∙ host-same st.sides.agreed (Answers id o) out.to_host st.live stays-uncancelled
      ∙ ap (λ (ps : List (ℕ × RedirPacket)). out.to_host ++ flat_map (sent_packet_bytes st.sides.agreed) ps) (sym (append-nil (map cancel (filter (cancels (Answers id o)) st.live)))))
      (ap (λ (x : Outputs). x.notes) gives ∙ ap (λ (ns : List Note). out.notes ++ ns) tells)

-- ---- the answer of the one that waits

-- nothing is added to a count
none-more : (n more : ℕ) → n ≤ 2 ^ 64 - 1 → more ≡ 0 → n ≡ capped (n + more)
none-more n more fits none = capped-same n fits ∙ ap (λ (k : ℕ). capped (n + k)) (sym none)

-- by its ending one is added to one of the counts
counted-is : (ending : Ending) (t : Kept) (answered unlinked : ℕ) → t.answered ≤ 2 ^ 64 - 1 → t.unlinked ≤ 2 ^ 64 - 1 → answered ≡ cond (has_won ending) 0 1 → unlinked ≡ cond (has_won ending) 1 0 →
    counted ending t ≡ record t { answered = capped (t.answered + answered); unlinked = capped (t.unlinked + unlinked) }
counted-is Completed t answered unlinked answered_fits unlinked_fits one none = λ i. record t { answered = capped (t.answered + sym one i); unlinked = none-more t.unlinked unlinked unlinked_fits none i }
counted-is (Unlinked by) t answered unlinked answered_fits unlinked_fits none one = λ i. record t { answered = none-more t.answered answered answered_fits none i; unlinked = capped (t.unlinked + sym one i) }
counted-is (CompletedThenLate by) t answered unlinked answered_fits unlinked_fits one none = λ i. record t { answered = capped (t.answered + sym one i); unlinked = none-more t.unlinked unlinked unlinked_fits none i }

module _ (st : State) (id : ℕ) (response : Response) (sound : IsSound st) where
  waits : find (has_id id) (submits st ++ st.abandoned) ≡ option_or (option_map (λ (p : Pending). p.submit) (find (pending_has_id id) st.live)) (find (has_id id) st.abandoned)
  waits = find-append (has_id id) (submits st) st.abandoned ∙ ap (λ (o : Option Submission). option_or o (find (has_id id) st.abandoned)) (find-map (has_id id) (λ (p : Pending). p.submit) st.live)

  -- of a live one, by its row
  pub does-live : (old : Kept) (lives : Requests) (l : Live) (ending : Ending) (out out_new : Outputs) → Holds old st → old.answered ≤ 2 ^ 64 - 1 → old.unlinked ≤ 2 ^ 64 - 1 → old.dropped ≤ 2 ^ 64 - 1 →
      find (has_row_id id) old.lives.live ≡ Some l →
      lives ≡ record old.lives { live = without_first (has_row_id id) old.lives.live } →
      ((s : Submission) → row_of s l.unlinker ≡ l → out_new ≡ with_answers out (flat_map spelling (answers_by s (told_outcome s.request s.verdict response) l.unlinker)) (note.Answered l.seqnum ∷ [])) →
      ((s : Submission) → row_of s l.unlinker ≡ l → IsCounted (map Urb (answers_by s (told_outcome s.request s.verdict response) l.unlinker)) ending) →
      Does st (mark_as st (completes id response (find (has_id id) (submits st ++ st.abandoned))) None) old (counted ending (record old { lives = lives })) out out_new
  does-live old lives l ending out out_new h answered_fits unlinked_fits few found rest gives counts =
      let p = map-some row (find (pending_has_id id) st.live) l (sym (find-rows id st.live) ∙ ap (find (has_row_id id)) (sym h.live) ∙ found) in
      let s = p.from.submit in
      let by : l.unlinker ≡ p.from.unlinker = ap (λ (k : Live). k.unlinker) (sym p.is) in
      let its : row_of s l.unlinker ≡ l = ap (row_of s) by ∙ p.is in
      let o = told_outcome s.request s.verdict response in
      let one : sent st id o (p.from ∷ []) ≡ map Urb (answers_by s o l.unlinker) = ap (map Urb) (append-nil (answers_by s o p.from.unlinker)) ∙ ap (λ (u : Option ℕ). map Urb (answers_by s o u)) (sym by) in
      let count = counts s its in
      let effect : Answers id o ≡ completes id response (find (has_id id) (submits st ++ st.abandoned)) =
      sym (ap (completes id response) (waits ∙ ap (λ (q : Option Pending). option_or (option_map (λ (r : Pending). r.submit) q) (find (has_id id) st.abandoned)) p.found)) in
      subst (λ (e : Effect). Does st (mark_as st e None) old (counted ending (record old { lives = lives })) out out_new) effect
      (does-answer st id o old (counted ending (record old { lives = lives })) lives.live lives.abandoned (p.from ∷ []) out out_new h few
      (found-alone st id sound ∙ ap option_to_list p.found)
      (ap (λ (r : Requests). r.live) rest ∙ ap (without_first (has_row_id id)) h.live ∙ live-without st id sound)
      (ap (λ (r : Requests). map unmarked r.abandoned) rest ∙ h.abandoned
      ∙ (let none = left-alone st id sound p.from p.found in ap (map left_row) (none ∙ sym (ap (filter (λ s. not (has_id id s))) none))))
      (counted-is ending (record old { lives = lives }) (length (filter is_ret_submit (sent st id o (p.from ∷ [])))) (length (filter is_won_unlink (sent st id o (p.from ∷ [])))) answered_fits unlinked_fits
      (ap (λ (ps : List ClientPacket). length (filter is_ret_submit ps)) one ∙ count.answered)
      (ap (λ (ps : List ClientPacket). length (filter is_won_unlink ps)) one ∙ count.unlinked))
      (gives s its ∙ (λ i. with_answers out ((sym (flat_map-map client_spelling Urb (answers_by s o l.unlinker)) ∙ sym (ap (flat_map client_spelling) one)) i) (note.Answered (sym p.is i).seqnum ∷ []))))

  -- which is told
  pub live-gives : (old : Kept) (l : Live) → Holds old st → find (has_row_id id) old.lives.live ≡ Some l →
      GivesSome st (mark_as st (completes id response (find (has_id id) (submits st ++ st.abandoned))) None)
  live-gives old l h found =
      let p = map-some row (find (pending_has_id id) st.live) l (sym (find-rows id st.live) ∙ ap (find (has_row_id id)) (sym h.live) ∙ found) in
      let o = told_outcome p.from.submit.request p.from.submit.verdict response in
      let effect : Answers id o ≡ completes id response (find (has_id id) (submits st ++ st.abandoned)) =
      sym (ap (completes id response) (waits ∙ ap (λ (q : Option Pending). option_or (option_map (λ (r : Pending). r.submit) q) (find (has_id id) st.abandoned)) p.found)) in
      let one : length (answer_notes st (Answers id o)) ≡ 1 = ap length (answer-noted st id o ∙ ap (told_of st id o) (found-alone st id sound ∙ ap option_to_list p.found)) in
      subst (λ (e : Effect). GivesSome st (mark_as st e None)) effect (by-answer st (Answers id o) None (omega (arith, one)))

  -- of one whose client is gone, or of none
  pub does-late : (old : Kept) (lives : Requests) (out : Outputs) → Holds old st → old.answered ≤ 2 ^ 64 - 1 → old.unlinked ≤ 2 ^ 64 - 1 → old.dropped ≤ 2 ^ 64 - 1 →
      find (has_row_id id) old.lives.live ≡ None →
      lives ≡ record old.lives { abandoned = without_first (has_row_id id) old.lives.abandoned } →
      Does st (mark_as st (completes id response (find (has_id id) (submits st ++ st.abandoned))) None) old (record old { lives = lives }) out out
  does-late old lives out h answered_fits unlinked_fits dropped_fits missing rest =
      subst (λ (o : Option Submission). Does st (mark_as st (completes id response o) None) old (record old { lives = lives }) out out)
      (sym (waits ∙ ap (λ (q : Option Pending). option_or (option_map (λ (r : Pending). r.submit) q) (find (has_id id) st.abandoned)) none))
      (of (find (has_id id) st.abandoned) refl)
    where
      none : find (pending_has_id id) st.live ≡ None
      none = map-none row (find (pending_has_id id) st.live) (sym (find-rows id st.live) ∙ ap (find (has_row_id id)) (sym h.live) ∙ missing)

      rows : lives.live ≡ map row (filter (λ p. not (pending_has_id id p)) st.live)
      rows = ap (λ (r : Requests). r.live) rest ∙ sym (without-none (has_row_id id) old.lives.live missing) ∙ ap (without_first (has_row_id id)) h.live ∙ live-without st id sound

      of : (o : Option Submission) → find (has_id id) st.abandoned ≡ o → Does st (mark_as st (completes id response o) None) old (record old { lives = lives }) out out
      of (Some s) e =
          does-answer st id (told_outcome s.request s.verdict response) old (record old { lives = lives }) lives.live lives.abandoned [] out out h dropped_fits
          (found-alone st id sound ∙ ap option_to_list none) rows
          (ap (λ (r : Requests). map unmarked r.abandoned) rest ∙ abandoned-without st id sound old.lives.abandoned h.abandoned)
          (λ i. record old { lives = lives; answered = capped-same old.answered answered_fits i; unlinked = capped-same old.unlinked unlinked_fits i })
          (sym (with-none out))
      of None e =
          let nobody = map-none unmarked (find (has_row_id id) old.lives.abandoned) (find-unmarked id old.lives.abandoned ∙ ap (find (has_row_id id)) h.abandoned ∙ find-left id st.abandoned ∙ ap (option_map left_row) e) in
          let same : lives ≡ old.lives = rest ∙ ap (λ (ls : List Live). record old.lives { abandoned = ls }) (without-none (has_row_id id) old.lives.abandoned nobody) in
          subst (λ (r : Requests). Does st (mark_as st Idle None) old (record old { lives = r }) out out) (sym same)
          (does-idle st old out h answered_fits unlinked_fits dropped_fits)

-- ---- what is wrong of an answer

abbrev wrong_of : State → ℕ → Header → Response → Submission → Option Refusal
wrong_of st at h response s = mismatch at (head_size (wide_ids st.sides.agreed)) (expected_of s) h.kind response

-- by the row of the request that waits for it, and by its submit
found-wrong : (old : Kept) (st : State) (at place : ℕ) (h : Header) (response : Response) → Holds old st → place ≡ capped at → ResponseFits h.kind (Some response) →
    option_and_then (λ l. mismatch place (head_size (wide_ids old.sides.agreed)) (expected_by l) h.kind response) (option_or (find (has_row_id h.id) old.lives.live) (find (has_row_id h.id) old.lives.abandoned))
    ≡ option_and_then (wrong_of st at h response) (find (has_id h.id) (submits st ++ st.abandoned))
found-wrong old st at place h response holds is fits =
    (λ i. option_and_then (λ l. mismatch (is i) (head_size (wide_ids (holds.sides i).agreed)) (expected_by l) h.kind response) (option_or ((ap (find (has_row_id h.id)) holds.live ∙ find-rows h.id st.live) i) (find (has_row_id h.id) old.lives.abandoned)))
    ∙ of (find (pending_has_id h.id) st.live) (find (has_row_id h.id) old.lives.abandoned) (find (has_id h.id) st.abandoned)
    (find-unmarked h.id old.lives.abandoned ∙ ap (find (has_row_id h.id)) holds.abandoned ∙ find-left h.id st.abandoned)
    ∙ ap (option_and_then (wrong_of st at h response)) (ap (λ (o : Option Submission). option_or o (find (has_id h.id) st.abandoned)) (sym (find-map (has_id h.id) (λ (p : Pending). p.submit) st.live)) ∙ sym (find-append (has_id h.id) (submits st) st.abandoned))
  where
    one : (s : Submission) (by : Option ℕ) → mismatch (capped at) (head_size (wide_ids st.sides.agreed)) (expected_by (row_of s by)) h.kind response ≡ wrong_of st at h response s
    one s by = row-mismatch (capped at) (head_size (wide_ids st.sides.agreed)) s by h.kind response fits ∙ mismatch-capped at (head_size (wide_ids st.sides.agreed)) s h.kind response

    -- of abandoned ones, whose unlinkers don't matter
    left : (r : Option Live) (a : Option Submission) → option_map unmarked r ≡ option_map left_row a →
        option_and_then (λ l. mismatch (capped at) (head_size (wide_ids st.sides.agreed)) (expected_by l) h.kind response) r ≡ option_and_then (wrong_of st at h response) a
    left None None e = refl
    left (Some l) (Some s) e = ap (λ (o : Option Live). option_and_then (λ l. mismatch (capped at) (head_size (wide_ids st.sides.agreed)) (expected_by l) h.kind response) o) e ∙ one s None
    left None (Some s) e = absurd (false≢true (sym (ap is_none e)))
    left (Some l) None e = absurd (false≢true (ap is_none e))

    of : (p : Option Pending) (r : Option Live) (a : Option Submission) → option_map unmarked r ≡ option_map left_row a →
        option_and_then (λ l. mismatch (capped at) (head_size (wide_ids st.sides.agreed)) (expected_by l) h.kind response) (option_or (option_map row p) r)
        ≡ option_and_then (wrong_of st at h response) (option_or (option_map (λ (q : Pending). q.submit) p) a)
    of (Some p) r a e = one p.submit p.unlinker
    of None r a e = left r a e

is-refused : (st : State) (at : ℕ) (h : Header) (response : Response) (o : Option Submission) (r : Refusal) → option_and_then (wrong_of st at h response) o ≡ Some r → answer_to st at h response o ≡ Refuses r
is-refused st at h response None r e = absurd (false≢true (sym (ap is_none e)))
is-refused st at h response (Some s) r e = ap (answered_as h.id (told_outcome s.request s.verdict response)) e

is-completed : (st : State) (at : ℕ) (h : Header) (response : Response) (o : Option Submission) → option_and_then (wrong_of st at h response) o ≡ None → answer_to st at h response o ≡ completes h.id response o
is-completed st at h response None e = refl
is-completed st at h response (Some s) e = ap (answered_as h.id (told_outcome s.request s.verdict response)) e

-- by the row that is found
wrong-at : (old : Kept) (st : State) (at place : ℕ) (h : Header) (response : Response) (l : Live) → Holds old st → place ≡ capped at → ResponseFits h.kind (Some response) →
    find (has_row_id h.id) (in_flight old.lives) ≡ Some l →
    mismatch place (head_size (wide_ids old.sides.agreed)) (expected_by l) h.kind response ≡ option_and_then (wrong_of st at h response) (find (has_id h.id) (submits st ++ st.abandoned))
wrong-at old st at place h response l holds is fits found =
    ap (option_and_then (λ k. mismatch place (head_size (wide_ids old.sides.agreed)) (expected_by k) h.kind response)) (sym found ∙ find-append (has_row_id h.id) old.lives.live old.lives.abandoned)
    ∙ found-wrong old st at place h response holds is fits

-- by the place of the request in flight, of which this is found to be wrong
module _ (old : Kept) (st : State) (at place i : ℕ) (h : Header) (response : Response) (found : Option Refusal) (holds : Holds old st) (is : place ≡ capped at) (fits : ResponseFits h.kind (Some response))
    (there : position (has_row_id h.id) (in_flight old.lives) ≡ Some i)
    (value : (l : Live) → slice_get (in_flight old.lives) i ≡ Some l → found ≡ mismatch place (head_size (wide_ids old.sides.agreed)) (expected_by l) h.kind response) where
  judged : option_and_then (wrong_of st at h response) (find (has_id h.id) (submits st ++ st.abandoned)) ≡ found
  judged = let one = is-there (has_row_id h.id) old.lives i there in sym (wrong-at old st at place h response one.live holds is fits one.found) ∙ sym (value one.live one.at)

  pub means-refusal : (r : Refusal) → found ≡ Some r → Refuses r ≡ answer_to st at h response (find (has_id h.id) (submits st ++ st.abandoned))
  means-refusal r e = sym (is-refused st at h response (find (has_id h.id) (submits st ++ st.abandoned)) r (judged ∙ e))

  pub means-end : found ≡ None → completes h.id response (find (has_id h.id) (submits st ++ st.abandoned)) ≡ answer_to st at h response (find (has_id h.id) (submits st ++ st.abandoned))
  means-end e = sym (is-completed st at h response (find (has_id h.id) (submits st ++ st.abandoned)) (judged ∙ e))

-- an answer of which nothing is wrong is that of the live request that waits for it
pub found-answer : (caps : Caps) (place head kind i : ℕ) (response : Response) (rows left : List Live) (l : Live) → Each (IsRow caps) rows → ResponseFits kind (Some response) →
    slice_get (rows ++ left) i ≡ Some l → mismatch place head (expected_by l) kind response ≡ None → IfSome (slice_get rows i) (λ k. IsAnswer k response)
found-answer caps place head kind i response rows left l sound fits at right = of (slice_get rows i) refl
  where
    of : (o : Option Live) → slice_get rows i ≡ o → IfSome o (λ k. IsAnswer k response)
    of None is = tt
    of (Some k) is =
        let e : Some k ≡ Some l = sym (there-too rows left i k is) ∙ at in
        let same : k ≡ l = cc in
        is-answer caps place head k kind response (each-at (IsRow caps) rows i k sound is).fine fits (ap (λ (x : Live). mismatch place head (expected_by x) kind response) same ∙ right)

-- where no row has its id nobody waits for it
pub nobody : (old : Kept) (st : State) (id : ℕ) → Holds old st → position (has_row_id id) (in_flight old.lives) ≡ None → find (has_id id) (submits st ++ st.abandoned) ≡ None
nobody old st id h is =
    let none = none-of (find (has_row_id id) old.lives.live) (find (has_row_id id) old.lives.abandoned)
    (sym (find-append (has_row_id id) old.lives.live old.lives.abandoned) ∙ sym (took_none (has_row_id id) (in_flight old.lives) is).0) in
    let live = map-none row (find (pending_has_id id) st.live) (sym (find-rows id st.live) ∙ ap (find (has_row_id id)) (sym h.live) ∙ none.0) in
    let left = map-none left_row (find (has_id id) st.abandoned)
    (sym (find-left id st.abandoned) ∙ ap (find (has_row_id id)) (sym h.abandoned) ∙ sym (find-unmarked id old.lives.abandoned) ∙ ap (option_map unmarked) none.1) in
    find-append (has_id id) (submits st) st.abandoned
    ∙ (λ i. option_or ((find-map (has_id id) (λ (p : Pending). p.submit) st.live ∙ ap (option_map (λ (p : Pending). p.submit)) live) i) (left i))
  where
    none-of : (a b : Option Live) → option_or a b ≡ None → (a ≡ None) × (b ≡ None)
    none-of None b e = (refl, e)
    none-of (Some l) b e = let k : Some l ≡ None = e in absurd (cc)

-- ---- a fact that is told with it

-- a host that is refused for its answer has lost its device
closing : (r : Refusal) → cond (not (is_client r.side)) true false ≡ not (is_client r.side)
closing r = elim (not (is_client r.side)) as (λ b. cond b true false ≡ b) [ true ↦ refl | false ↦ refl ]

answer-closes : (st : State) (at : ℕ) (h : Header) (response : Response) (o : Option Submission) → turned closes_host (λ e. false) (answer_to st at h response o) false ≡ is_loss (answer_to st at h response o)
answer-closes st at h response None = refl
answer-closes st at h response (Some s) = of (mismatch at (head_size (wide_ids st.sides.agreed)) (expected_of s) h.kind response)
  where
    of : (r : Option Refusal) → turned closes_host (λ e. false) (answered_as h.id (told_outcome s.request s.verdict response) r) false ≡ is_loss (answered_as h.id (told_outcome s.request s.verdict response) r)
    of None = refl
    of (Some r) = closing r

response-closes : (st : State) (at : ℕ) (h : Header) (response : Option Response) → turned closes_host (λ e. false) (by_response st at h response) false ≡ is_loss (by_response st at h response)
response-closes st at h None = refl
response-closes st at h (Some response) = answer-closes st at h response (find (has_id h.id) (submits st ++ st.abandoned))

pub does-tell : (st : State) (at : ℕ) (header : Header) (response : Option Response) (fact : Option Fact) (old mid : Kept) (out_old out_new : Outputs) → st.sides.host_over ≡ false →
    Does st (mark_as st (by_response st at header response) None) old mid out_old out_new →
    Does st (mark_as st (by_response st at header response) fact) old (record mid { facts = cond mid.sides.host_over mid.facts (tell mid.facts fact) }) out_old out_new
does-tell st at header response fact old mid out_old out_new going d =
    record {
      holds = record {
        facts = ap (λ (b : Bool). cond b mid.facts (tell mid.facts fact)) over ∙ of (is_loss (by_response st at header response)) mid.facts d.holds.facts;
        sides = d.holds.sides;
        streams = d.holds.streams;
        stream_ids = d.holds.stream_ids;
        fence = d.holds.fence;
        last = d.holds.last;
        live = d.holds.live;
        abandoned = d.holds.abandoned;
      };
      client = d.client;
      host = d.host;
      notes = d.notes;
      answered = d.answered;
      unlinked = d.unlinked;
      dropped = d.dropped;
    }
  where
    over : mid.sides.host_over ≡ is_loss (by_response st at header response)
    over = (λ j. (d.holds.sides j).host_over) ∙ ap (turned closes_host (λ e. false) (by_response st at header response)) going ∙ response-closes st at header response

    of : (b : Bool) (f : Facts) → f ≡ cond b no_facts st.facts → cond b f (tell f fact) ≡ cond b no_facts (tell st.facts fact)
    of true f h = h
    of false f h = ap (λ (g : Facts). tell g fact) h

-- ---- a hello, and all else but a disconnect

pub does-agree : (st : State) (old : Kept) (caps : Caps) (out : Outputs) → Holds old st → old.answered ≤ 2 ^ 64 - 1 → old.unlinked ≤ 2 ^ 64 - 1 → old.dropped ≤ 2 ^ 64 - 1 →
    Does st (mark_as st (Agrees caps) None) old (record old { sides = record old.sides { agreed = caps } }) out out
does-agree st old caps out h answered_fits unlinked_fits dropped_fits =
    does-steady st (Agrees caps) refl (silent-is st (Agrees caps) refl) (λ s. refl) old (record old { sides = record old.sides { agreed = caps } }) old.lives.live out out h answered_fits unlinked_fits dropped_fits
    (rows-same (Agrees caps) old.lives.live st.live (λ s. refl) h.live) refl (sym (append-nil out.to_client)) (host-same st.sides.agreed (Agrees caps) out.to_host st.live stays-uncancelled) (sym (append-nil out.notes))

pub told-other : (st : State) (at : ℕ) (h : Header) (p : RedirControl) → ((hello : Hello) → p ≡ plain.Hello hello → ⊥) → (p ≡ plain.Disconnect → ⊥) →
    ((status endpoint : ℕ) → p ≡ plain.IsoStatus status endpoint → ⊥) → ((status endpoint : ℕ) → p ≡ plain.InterruptStatus status endpoint → ⊥) →
    told_meaning st at h (Plain p) ≡ by_response st at h (response_of (Plain p))
told-other st at h (plain.Hello hello) no_hello no_disconnect no_iso no_interrupt = absurd (no_hello hello refl)
told-other st at h plain.Disconnect no_hello no_disconnect no_iso no_interrupt = absurd (no_disconnect refl)
told-other st at h (plain.IsoStatus status endpoint) no_hello no_disconnect no_iso no_interrupt = absurd (no_iso status endpoint refl)
told-other st at h (plain.InterruptStatus status endpoint) no_hello no_disconnect no_iso no_interrupt = absurd (no_interrupt status endpoint refl)
told-other st at h p no_hello no_disconnect no_iso no_interrupt = refl
