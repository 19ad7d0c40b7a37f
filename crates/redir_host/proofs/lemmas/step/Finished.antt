-- What performing a request makes of those that wait, and what it sends as answers.
use Rattle.std.proofs.Common.{◌≡◌, ℕ, Bool, true, false, cond, not, List, [], ◌∷◌, ◌++◌, filter, map, Some, None, refl, sym, ap, subst, ◌∙◌, append_assoc, append-nil}
use Rattle.std.specs.Prelude.{Option, option_map}
use Rattle.std.specs.List.{find, AllZip}
use Rattle.std.specs.Option.{option_to_list}
use Rattle.std.proofs.lemmas.List.{map-append}
use Rattle.std.proofs.lemmas.List.Elements.{filter-append}
use Rattle.usb_base.specs.Status.{is_success}
use Rattle.usb_base.specs.declared.endpoint.EpTable.{EpTable}
use Rattle.usb_base.specs.declared.status.UsbStatus.{UsbStatus}
use Rattle.usb_base.specs.declared.transfer.Outcome.{Outcome}
use Rattle.redir_data.specs.declared.packet.RedirPacket.{RedirPacket}
use Rattle.control_route.specs.declared.route.Route.{Route}
use Rattle.control_route.specs.declared.route.Route.TheVariants as route
use Rattle.model_device.specs.Meaning.{Meaning}
use Rattle.redir_host.specs.declared.state.host.Host.{Host}
use Rattle.redir_host.specs.declared.state.request.Form.{Form}
use Rattle.redir_host.specs.declared.state.request.Form.TheVariants as form
use Rattle.redir_host.specs.declared.state.request.Request.{Request}
use Rattle.redir_host.specs.device.Changes.{change_of, changed, touched, runs_on, stays}
use Rattle.redir_host.specs.device.Facts.{facts_of}
use Rattle.redir_host.specs.device.Performing.{done_by, does, performs, resets, performs_marked, performs_any, with_id, first_performed, perform_move_by}
use Rattle.redir_host.specs.guest.Asking.{routed}
use Rattle.redir_host.specs.guest.Line.{Placed, Waiting, waiting_in, without_performed, stays_in, flushed_in, changes_by, changes_of, request_changes, reset_changes, marked_changes, all_changes}
use Rattle.usb_base.specs.Firsts.{without_first}
use Rattle.redir_host.specs.state.Queues.{is_at}
use Rattle.redir_host.specs.step.Answered.{Answered, ByDevice, ByChange, ends, unchanged, is_in_queue_of, is_answer, answer_of, is_flushed, flushed_of, came_of, came_behind, came_marked, outcome_of, by_outcome, by_perform}
use Rattle.redir_host.specs.step.Moves.{Move, behind}
use Rattle.redir_host.specs.write.Answers.{answer, cancelled}
use Rattle.redir_host.proofs.lemmas.guest.Lines.{flush-stays, performed-leaves}
use Rattle.redir_host.proofs.lemmas.guest.Placed.{is_left, placed-left, placed-performed}
use Rattle.redir_host.proofs.lemmas.state.Each.{each_filtered}
use Rattle.redir_host.proofs.lemmas.step.Paired.{Answers, FirstOf, Gives, IsIn, IsInLine, Same, Tied, kept-first, queue-answers, same-answer, same-at, same-touched, zip-filtered, zip-first, zip-flushed, zip-without}

-- the changes flush those that they touch, and the answer is the last
record Finished {S : Type 0} (out : Bool) (l : List Waiting) (q : Request) (cs : List (Route × EpTable)) (o : ℕ × Outcome) (v : Move S) : Type 0 where
  pub tied : Tied v.host out (flushed_in cs l)
  pub sent : filter is_answer v.sent ≡ map answer_of (map (ends ByChange) (flushed_of cs l)) ++ answer o.0 q o.1 ∷ []

abbrev Finishes : {S : Type 0} → Bool → List Waiting → Request → List (Route × EpTable) → Option (ℕ × Outcome) → Option (Move S) → Type 0
Finishes out l q cs None None = Unit {0}
Finishes out l q cs None (Some v) = ⊥
Finishes out l q cs (Some o) None = ⊥
Finishes out l q cs (Some o) (Some v) = Finished out l q cs o v

record Flushes {S : Type 0} (out : Bool) (l : List Waiting) (cs : List (Route × EpTable)) (v : Move S) : Type 0 where
  pub tied : Tied v.host out (flushed_in cs l)
  pub sent : filter is_answer v.sent ≡ map answer_of (map (ends ByChange) (flushed_of cs l))

abbrev told_flushed : List Placed → List (ℕ × RedirPacket)
told_flushed ps = map answer_of (map (ends ByChange) ps)

told-append : (ps qs : List Placed) → told_flushed (ps ++ qs) ≡ told_flushed ps ++ told_flushed qs
told-append ps qs = ap (λ (xs : List Answered). map answer_of xs) (map-append (ends ByChange) ps qs) ∙ map-append answer_of (map (ends ByChange) ps) (map (ends ByChange) qs)

changed-flushes : {S : Type 0} {out : Bool} (m : Meaning S) (r : Route) (table : EpTable) (status : UsbStatus) (h : Host S) (l : List Waiting) → Tied h out l → Flushes out l (changes_by table (Some r) status) (changed m r table (is_success status) h)
changed-flushes {out = out} m r table status h l is = by (is_success status)
  where
    by : (b : Bool) → Flushes out l (cond b ((r, table) ∷ []) []) (changed m r table b h)
    by true = record {
      tied = record {
        queue = subst (λ (ps : List Placed). AllZip Same (filter (λ q. not (touched r table q)) h.queue) ps) (sym (placed-left r table l))
            (zip-filtered (λ q. not (touched r table q)) (is_left r table) (λ q p same. ap not (same-touched r table q p same)) h.queue (waiting_in l) is.queue);
        running = each_filtered IsIn (runs_on r table) h.running is.running;
        gone = is.gone;
        in_line =
            let f = flush-stays r table l false in
            record { queue = ap (λ (qs : List Request). filter (stays r table) qs) is.in_line.queue ∙ sym f.0; reset = is.in_line.reset ∙ sym f.1 };
      };
      sent = filter-append is_answer (map cancelled (filter (touched r table) h.queue)) (facts_of h.guest.caps m h.gadget)
          ∙ append-nil (filter is_answer (map cancelled (filter (touched r table) h.queue)))
          ∙ zip-flushed (filter (touched r table) h.queue) (filter (is_flushed r table) (waiting_in l)) (zip-filtered (touched r table) (is_flushed r table) (same-touched r table) h.queue (waiting_in l) is.queue)
          ∙ ap told_flushed (sym (append-nil (filter (is_flushed r table) (waiting_in l))));
    }
    by false = record { tied = is; sent = refl }

done-finishes : {S : Type 0} {out : Bool} (m : Meaning S) (table : EpTable) (h : Host S) (l : List Waiting) (q : Request) (r : Option Route) (o : Outcome) → Answers q.form q.transfer.ep → Tied h out l →
    Finished out l q (changes_by table r o.status) (m.configuration h.gadget, o) (done_by m table h q r o)
done-finishes m table h l q None o answers is = record { tied = is; sent = kept-first (answer (m.configuration h.gadget) q o) [] (answers q.id (m.configuration h.gadget) o) }
done-finishes {S = S} m table h l q (Some r) o answers is =
    let v : Move S = changed m r table (is_success o.status) h in
    let f = changed-flushes m r table o.status h l is in
    let last = answer (m.configuration h.gadget) q o in
    record {
      tied = f.tied;
      sent = filter-append is_answer v.sent (last ∷ []) ∙ (λ i. f.sent i ++ kept-first last [] (answers q.id (m.configuration h.gadget) o) i);
    }

-- what the device is doesn't matter
with-gadget : {S : Type 0} {out : Bool} (h : Host S) (l : List Waiting) (s : S) → Tied h out l → Tied (record h { gadget = s }) out l
with-gadget h l s is = record { queue = is.queue; running = is.running; gone = is.gone; in_line = record { queue = is.in_line.queue; reset = is.in_line.reset } }

does-finishes : {S : Type 0} {out : Bool} (m : Meaning S) (h : Host S) (l : List Waiting) (q : Request) (r : Option Route) (o : Option (S × Outcome)) → Answers q.form q.transfer.ep → Tied h out l →
    Finishes out l q (changes_of m h.gadget r o) (came_of m o) (does m h q r o)
does-finishes m h l q r None answers is = tt
does-finishes {S = S} m h l q r (Some done) answers is =
    let g : Host S = record h { gadget = done.0 } in
    done-finishes m (m.table h.gadget) g l q r done.1 answers (with-gadget h l done.0 is)

left-more : (cs ds : List (Route × EpTable)) (l : List Waiting) → flushed_in (cs ++ ds) l ≡ flushed_in ds (flushed_in cs l)
left-more [] ds l = refl
left-more (c ∷ cs) ds l = left-more cs ds (filter (stays_in c.0 c.1) l)

flushed-more : (cs ds : List (Route × EpTable)) (l : List Waiting) → flushed_of (cs ++ ds) l ≡ flushed_of cs l ++ flushed_of ds (flushed_in cs l)
flushed-more [] ds l = refl
flushed-more (c ∷ cs) ds l =
    let here = filter (is_flushed c.0 c.1) (waiting_in l) in
    let left = filter (stays_in c.0 c.1) l in
    ap (λ (ps : List Placed). here ++ ps) (flushed-more cs ds left) ∙ sym (append_assoc here (flushed_of cs left) (flushed_of ds (flushed_in cs left)))

follows-finishes : {S : Type 0} {out : Bool} (v : Move S) (l : List Waiting) (q : Request) (cs ds : List (Route × EpTable)) (o : Option (ℕ × Outcome)) (w : Option (Move S)) → Flushes out l cs v → Finishes out (flushed_in cs l) q ds o w →
    Finishes out l q (cs ++ ds) o (option_map (behind v) w)
follows-finishes v l q cs ds None None first then = tt
follows-finishes v l q cs ds None (Some w) first then = absurd then
follows-finishes v l q cs ds (Some o) None first then = absurd then
follows-finishes {out = out} v l q cs ds (Some o) (Some w) first then =
    let now = flushed_of cs l in
    let later = flushed_of ds (flushed_in cs l) in
    let last = answer o.0 q o.1 in
    record {
      tied = subst (λ (k : List Waiting). Tied w.host out k) (sym (left-more cs ds l)) then.tied;
      sent = filter-append is_answer v.sent w.sent
          ∙ (λ i. first.sent i ++ then.sent i)
          ∙ sym (append_assoc (told_flushed now) (told_flushed later) (last ∷ []))
          ∙ ap (λ (xs : List (ℕ × RedirPacket)). xs ++ last ∷ []) (sym (told-append now later))
          ∙ ap (λ (ps : List Placed). told_flushed ps ++ last ∷ []) (sym (flushed-more cs ds l));
    }

changed-gadget : {S : Type 0} (m : Meaning S) (r : Route) (table : EpTable) (b : Bool) (h : Host S) → (changed m r table b h).host.gadget ≡ h.gadget
changed-gadget m r table true h = refl
changed-gadget m r table false h = refl

resets-finishes : {S : Type 0} {out : Bool} (m : Meaning S) (h : Host S) (l : List Waiting) (q : Request) (o : Option (S × Outcome)) → Answers q.form q.transfer.ep → Tied h out l →
    Finishes out l q (reset_changes m h.gadget q o) (came_behind m q o) (resets m h q o)
resets-finishes m h l q None answers is = tt
resets-finishes {S = S} {out = out} m h l q (Some done) answers is =
    let g : Host S = record h { gadget = done.0 } in
    let status = done.1.status in
    let table = m.table h.gadget in
    let cs = changes_by table (Some route.Reset) status in
    let v : Move S = changed m route.Reset table (is_success status) g in
    let first = changed-flushes m route.Reset table status g l (with-gadget h l done.0 is) in
    let then : Finishes out (flushed_in cs l) q (request_changes m v.host.gadget q) (came_of m (m.perform v.host.gadget q.transfer)) (performs m v.host q) =
    does-finishes m v.host (flushed_in cs l) q (change_of q.form) (m.perform v.host.gadget q.transfer) answers first.tied in
    let same : v.host.gadget ≡ done.0 = changed-gadget m route.Reset table (is_success status) g in
    follows-finishes v l q cs (request_changes m done.0 q) (came_of m (m.perform done.0 q.transfer)) (performs m v.host q) first
    (subst (λ (s : S). Finishes out (flushed_in cs l) q (request_changes m s q) (came_of m (m.perform s q.transfer)) (performs m v.host q)) same then)

marked-finishes : {S : Type 0} {out : Bool} (m : Meaning S) (h : Host S) (l : List Waiting) (q : Request) (f : Form) → Answers q.form q.transfer.ep → Tied h out l →
    Finishes out l q (marked_changes m h.gadget q f) (came_marked m h.gadget q f) (performs_marked m h q f)
marked-finishes m h l q (form.Control setup) answers is = resets-finishes m h l q (m.perform h.gadget (routed route.Reset)) answers is
marked-finishes m h l q (form.Bulk stream) answers is = resets-finishes m h l q (m.perform h.gadget (routed route.Reset)) answers is
marked-finishes m h l q form.Interrupt answers is = resets-finishes m h l q (m.perform h.gadget (routed route.Reset)) answers is
marked-finishes m h l q (form.SetConfiguration configuration) answers is = resets-finishes m h l q (m.perform h.gadget (routed route.Reset)) answers is
marked-finishes m h l q form.GetConfiguration answers is = does-finishes m h l q (Some route.Reset) (m.perform h.gadget (routed route.Reset)) answers is
marked-finishes m h l q (form.SetAlt interface alt) answers is = resets-finishes m h l q (m.perform h.gadget (routed route.Reset)) answers is
marked-finishes m h l q (form.GetAlt interface) answers is = resets-finishes m h l q (m.perform h.gadget (routed route.Reset)) answers is

any-finishes : {S : Type 0} {out : Bool} (m : Meaning S) (h : Host S) (l : List Waiting) (q : Request) → Answers q.form q.transfer.ep → Tied h out l →
    Finishes out l q (all_changes m h.gadget q) (outcome_of m h.gadget q) (performs_any m h q)
any-finishes {out = out} m h l q answers is =
    elim q.reset as (λ (b : Bool). Finishes out l q (cond b (marked_changes m h.gadget q q.form) (request_changes m h.gadget q)) (cond b (came_marked m h.gadget q q.form) (came_of m (m.perform h.gadget q.transfer))) (cond b (performs_marked m h q q.form) (performs m h q))) [
      | true ↦ marked-finishes m h l q q.form answers is
      | false ↦ does-finishes m h l q (change_of q.form) (m.perform h.gadget q.transfer) answers is
    ]

first-finishes : {S : Type 0} {out : Bool} (h : Host S) (l : List Waiting) (ep : ℕ) (q : Request) (cs : List (Route × EpTable)) (o : Option (ℕ × Outcome)) (v : Option (Move S)) → FirstOf (Some q) (option_to_list (find (is_in_queue_of ep) (waiting_in l))) → Tied h out l →
    Finishes out (without_performed ep l) q cs o v → Gives out (perform_move_by h (with_id q v)) (by_outcome cs ep l o)
first-finishes h l ep q cs None None first is then = record { tied = is; sent = refl }
first-finishes h l ep q cs None (Some v) first is then = absurd then
first-finishes h l ep q cs (Some o) None first is then = absurd then
first-finishes h l ep q cs (Some o) (Some v) first is then =
    let flushed = flushed_of cs (without_performed ep l) in
    let by = ends (ByDevice o.0 o.1) in
    record {
      tied = then.tied;
      sent = then.sent
          ∙ ap (λ (x : ℕ × RedirPacket). told_flushed flushed ++ x ∷ []) (same-answer q first.0 first.1.1 o.0 o.1)
          ∙ ap (λ (ps : List Placed). told_flushed flushed ++ map answer_of (map by ps)) (sym first.1.0)
          ∙ sym (map-append answer_of (map (ends ByChange) flushed) (map by (option_to_list (find (is_in_queue_of ep) (waiting_in l)))));
    }

found-gives : {S : Type 0} {out : Bool} (m : Meaning S) (h : Host S) (l : List Waiting) (ep : ℕ) (o : Option Request) → find (is_at ep) h.queue ≡ o → FirstOf o (option_to_list (find (is_in_queue_of ep) (waiting_in l))) → Tied h out l → Gives out (perform_move_by h (first_performed m h ep o)) (by_perform m h.gadget ep l o)
found-gives m h l ep None none first is = record { tied = is; sent = refl }
found-gives {S = S} {out = out} m h l ep (Some q) found first is =
    let g : Host S = record h { queue = without_first (is_at ep) h.queue } in
    let left = without_performed ep l in
    let leaves = performed-leaves ep l q (ap (λ (qs : List Request). find (is_at ep) qs) (sym is.in_line.queue) ∙ found) in
    let still : IsInLine g left = record { queue = ap (λ (qs : List Request). without_first (is_at ep) qs) is.in_line.queue ∙ sym leaves.0; reset = is.in_line.reset ∙ sym leaves.1 } in
    let rest = zip-without (is_at ep) (is_in_queue_of ep) (same-at ep) h.queue (waiting_in l) is.queue in
    let tied : Tied g out left = record { queue = subst (λ (ps : List Placed). AllZip Same g.queue ps) (sym (placed-performed ep l)) rest; running = is.running; gone = is.gone; in_line = still } in
    first-finishes h l ep q (all_changes m h.gadget q) (outcome_of m h.gadget q) (performs_any m g q) first is (any-finishes m g left q (queue-answers q first.0 first.1.1) tied)

pub performed-gives : {S : Type 0} {out : Bool} (m : Meaning S) (h : Host S) (l : List Waiting) (ep : ℕ) (b : Bool) → Tied h out l →
    Gives out (perform_move_by h (cond b None (first_performed m h ep (find (is_at ep) h.queue)))) (cond b (unchanged l) (by_perform m h.gadget ep l (find (is_at ep) h.queue)))
performed-gives m h l ep true is = record { tied = is; sent = refl }
performed-gives m h l ep false is = found-gives m h l ep (find (is_at ep) h.queue) refl (zip-first (is_at ep) (is_in_queue_of ep) (same-at ep) h.queue (waiting_in l) is.queue) is
