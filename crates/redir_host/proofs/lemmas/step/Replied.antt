-- The requests that wait are those of the host's queue, and what is sent as answers is an answer for each that leaves.
use Rattle.std.proofs.Common.{◌≡◌, ℕ, ◌==◌, Bool, true, false, cond, not, ◌&&◌, ◌||◌, List, [], ◌∷◌, ◌++◌, filter, map, Some, None, refl, sym, ap, subst, ◌∙◌, append-nil}
use Rattle.std.specs.Prelude.{Option, nat_lt, nat_le}
use Rattle.std.specs.List.{find, AllZip}
use Rattle.std.specs.Option.{option_to_list}
use Rattle.std.proofs.lemmas.Bool.{eqb-true}
use Rattle.std.proofs.lemmas.List.{map-append}
use Rattle.std.proofs.lemmas.List.Elements.{filter-append}
use Rattle.usb_base.specs.Endpoint.{is_control, is_in_endpoint}
use Rattle.usb_base.specs.declared.setup.Setup.{Setup}
use Rattle.usb_base.specs.declared.status.UsbStatus.TheVariants as status
use Rattle.usb_base.specs.declared.transfer.StreamPacket.{StreamPacket}
use Rattle.usb_base.specs.declared.transfer.Transfer.{Transfer}
use Rattle.redir_wire.specs.declared.packet.RedirControl.{RedirControl}
use Rattle.redir_wire.specs.declared.packet.RedirControl.TheVariants as plain
use Rattle.redir_data.specs.declared.packet.RedirData.{RedirData}
use Rattle.redir_data.specs.declared.packet.RedirData.TheVariants as moving
use Rattle.redir_data.specs.declared.packet.RedirPacket.{RedirPacket}
use Rattle.redir_data.specs.declared.packet.RedirPacket.TheVariants.{Plain, Carrying}
use Rattle.redir_data.specs.Streams.{advanced}
use Rattle.redir_data.specs.declared.stream_kind.StreamKind.{StreamKind}
use Rattle.redir_data.specs.declared.stream_kind.StreamKind.TheVariants.{Iso, Interrupt}
use Rattle.model_device.specs.Meaning.{Meaning}
use Rattle.redir_host.specs.declared.state.host.Host.{Host}
use Rattle.redir_host.specs.declared.state.request.Asking.{Asking}
use Rattle.redir_host.specs.declared.state.request.Asking.TheVariants.{Nothing, Refuses, Asks}
use Rattle.redir_host.specs.declared.state.request.Form.{Form}
use Rattle.redir_host.specs.declared.state.request.Form.TheVariants as form
use Rattle.redir_host.specs.declared.state.request.Request.{Request}
use Rattle.redir_host.specs.declared.state.running.Running.{Running}
use Rattle.redir_host.specs.device.Offering.{offered_on, offered_by}
use Rattle.redir_host.specs.device.Performing.{first_performed, perform_move_by}
use Rattle.usb_base.specs.declared.limits.TheConstants.{MAX_TRANSFER}
use Rattle.redir_host.specs.guest.Asking.{asking, asking_of, asking_plain, asked_if, is_other}
use Rattle.redir_host.specs.guest.Line.{Placed, Waiting, Reset, Waits, placed, asked_line, waiting_in, without_cancelled}
use Rattle.redir_host.specs.guest.Packets.{can_start, cancel_move, data_move, packet_move_by, queued, runs_at, start_move, stop_move, stopped}
use Rattle.redir_host.specs.state.Queues.{after_cancel, is_at, is_cancelled_by, is_first_queue, leaves_mark}
use Rattle.redir_host.specs.step.Answered.{ByCancel, packets, request_in, ends, unchanged, lines_up, at_once, is_answer, is_cancelled, answer_of, answers_sent, by_cancel, by_plain, by_packet, by_perform, becomes, is_gone, line, waiting, answered, told_request, told_placed}
use Rattle.redir_host.specs.step.Items.{Item, Asked, Wrong, Performs, Offers, Unplugs}
use Rattle.redir_host.specs.step.Machine.{move, run, all_given}
use Rattle.redir_host.specs.step.Moves.{quiet}
use Rattle.chapter9.specs.Standard.{ended}
use Rattle.redir_host.specs.write.Answers.{answer_by, cancelled}
use Rattle.redir_host.proofs.lemmas.guest.Lines.{nothing-cancelled, queue-cancelled, queue-joined, queue-reset, reset-cancelled, reset-joined, reset-reset}
use Rattle.redir_host.proofs.lemmas.guest.Placed.{placed-append, placed-cancelled}
use Rattle.redir_host.proofs.lemmas.guest.Sound.{started-in}
use Rattle.redir_host.proofs.lemmas.state.Each.{each_appended, each_filtered, each_found}
use Rattle.redir_host.proofs.lemmas.state.Sound.{unplugged-by}
use Rattle.redir_host.proofs.lemmas.step.Paired.{Answers, FirstOf, Gives, IsIn, IsInLine, Same, Tied, kept-first, queue-answers, same-answer, same-cancelled, zip-append, zip-cancelled, zip-first, zip-told}
use Rattle.redir_host.proofs.lemmas.step.Finished.{performed-gives}

-- ---- packets

abbrev pub AsksAnswers : Asking → Type 0
AsksAnswers Nothing = Unit {0}
AsksAnswers (Refuses f ep) = Answers f ep
AsksAnswers (Asks f t) = Answers f t.ep

asked-answers : (b : Bool) (f : Form) (t : Transfer) → Answers f t.ep → AsksAnswers (asked_if b f t)
asked-answers true f t answers = answers
asked-answers false f t answers = answers

pub data-answers : (d : RedirData) → AsksAnswers (asking_of d)
data-answers (moving.Control ep request kind status value index told body) =
    let setup : Setup = record { kind = kind; request = request; value = value; index = index; length = told } in
    asked-answers (ep == (cond (nat_lt kind 128) 0 128)) (form.Control setup) (record { ep = ep; setup = Some setup; wanted = told; body = body }) (λ id c o. refl)
data-answers (moving.Bulk ep status told stream body) =
    asked-answers (is_other ep && nat_le told MAX_TRANSFER) (form.Bulk stream) (record { ep = ep; setup = None; wanted = told; body = body }) (λ id c o. refl)
data-answers (moving.Iso ep status told body) = tt
data-answers (moving.Interrupt ep status told body) = by (is_in_endpoint ep) refl
  where
    by : (b : Bool) → is_in_endpoint ep ≡ b → AsksAnswers (cond b Nothing (asked_if (is_other ep) form.Interrupt (record { ep = ep; setup = None; wanted = told; body = body })))
    by true is = tt
    by false is = asked-answers (is_other ep) form.Interrupt (record { ep = ep; setup = None; wanted = told; body = body }) (λ id c o. ap not is)

plain-answers : (p : RedirControl) → AsksAnswers (asking_plain p)
plain-answers (plain.SetConfiguration configuration) = λ id c o. refl
plain-answers plain.GetConfiguration = λ id c o. refl
plain-answers (plain.SetAlt interface alt) = λ id c o. refl
plain-answers (plain.GetAlt interface) = λ id c o. refl
plain-answers _ = tt

-- where none comes
same-line : {S : Type 0} {out : Bool} (h : Host S) (l : List Waiting) → Tied h out l → Tied h out (l ++ [])
same-line {out = out} h l is = subst (λ (k : List Waiting). Tied h out k) (sym (append-nil l)) is

joins-line : {S : Type 0} (h : Host S) (l : List Waiting) (place id : ℕ) (f : Form) (t : Transfer) → IsInLine h l → IsInLine (queued h (is_control t.ep) id f t) (l ++ Waits place id f t ∷ [])
joins-line h l place id f t is = record {
  queue = (λ k. is.queue k ++ record { id = id; form = f; transfer = t; reset = is_control t.ep && is.reset k } ∷ []) ∙ sym (queue-joined false l place id f t);
  reset = ap (λ (b : Bool). not (is_control t.ep) && b) is.reset ∙ sym (reset-joined false l place id f t);
}

asked-gives : {S : Type 0} {out : Bool} (h : Host S) (l : List Waiting) (place id : ℕ) (a : Asking) → AsksAnswers a → Tied h out l → Gives out (data_move h id a) (lines_up l (asked_line place id a) (at_once place id a))
asked-gives h l place id Nothing answers is = record { tied = same-line h l is; sent = refl }
asked-gives h l place id (Refuses f ep) answers is = record { tied = same-line h l is; sent = kept-first (id, answer_by 0 f ep (ended status.Inval)) [] (answers id 0 (ended status.Inval)) }
asked-gives h l place id (Asks f t) answers is =
    let q : Request = record { id = id; form = f; transfer = t; reset = is_first_queue (record { id = id; form = f; transfer = t; reset = false }) && h.resets_next } in
    let all = zip-append h.queue (waiting_in l) q (placed place id f t.ep) is.queue (record { id = refl; form = refl; ep = refl; answers = answers }) in
    record {
      tied = record { queue = subst (λ (ps : List Placed). AllZip Same (h.queue ++ q ∷ []) ps) (sym (placed-append l (Waits place id f t ∷ []))) all; running = is.running; gone = is.gone; in_line = joins-line h l place id f t is.in_line };
      sent = refl;
    }

cancel-line : {S : Type 0} (h : Host S) (l : List Waiting) (id : ℕ) (o : Option Request) → find (is_cancelled_by id) h.queue ≡ o → IsInLine h l → IsInLine (cancel_move h id o).host (without_cancelled id l)
cancel-line h l id None none is =
    let n = nothing-cancelled id h.queue none in
    record {
      queue = sym n.0 ∙ ap (λ (qs : List Request). after_cancel id qs) is.queue ∙ sym (queue-cancelled id false l);
      reset = sym (ap (λ (b : Bool). b || h.resets_next) n.1) ∙ (λ k. leaves_mark id (is.queue k) || is.reset k) ∙ sym (reset-cancelled id false l);
    }
cancel-line h l id (Some q) some is = record {
  queue = ap (λ (qs : List Request). after_cancel id qs) is.queue ∙ sym (queue-cancelled id false l);
  reset = (λ k. leaves_mark id (is.queue k) || is.reset k) ∙ sym (reset-cancelled id false l);
}

cancel-gives : {S : Type 0} {out : Bool} (h : Host S) (l : List Waiting) (id : ℕ) (o : Option Request) → find (is_cancelled_by id) h.queue ≡ o → FirstOf o (option_to_list (find (is_cancelled id) (waiting_in l))) → Tied h out l → Gives out (cancel_move h id o) (by_cancel id l)
cancel-gives {out = out} h l id o e first is = by o e first
  where
    left : AllZip Same (after_cancel id h.queue) (waiting_in (without_cancelled id l))
    left = subst (λ (ps : List Placed). AllZip Same (after_cancel id h.queue) ps) (sym (placed-cancelled id l)) (zip-cancelled id h.queue (waiting_in l) is.queue)

    by : (o : Option Request) → find (is_cancelled_by id) h.queue ≡ o → FirstOf o (option_to_list (find (is_cancelled id) (waiting_in l))) → Gives out (cancel_move h id o) (by_cancel id l)
    by None none first = record {
      tied = record { queue = subst (λ (qs : List Request). AllZip Same qs (waiting_in (without_cancelled id l))) (nothing-cancelled id h.queue none).0 left; running = is.running; gone = is.gone; in_line = cancel-line h l id None none is.in_line };
      sent = sym (ap (λ (ps : List Placed). map answer_of (map (ends ByCancel) ps)) first);
    }
    by (Some q) some first = record {
      tied = record { queue = left; running = is.running; gone = is.gone; in_line = cancel-line h l id (Some q) some is.in_line };
      sent = kept-first (cancelled q) [] (queue-answers q first.0 first.1.1 q.id 0 (ended status.Cancelled))
          ∙ ap (λ (x : ℕ × RedirPacket). x ∷ []) (same-answer q first.0 first.1.1 0 (ended status.Cancelled))
          ∙ sym (ap (λ (ps : List Placed). map answer_of (map (ends ByCancel) ps)) first.1.0);
    }

start-gives : {S : Type 0} {out : Bool} (h : Host S) (l : List Waiting) (id : ℕ) (k : StreamKind) (ep : ℕ) (b : Bool) → (b ≡ true → is_in_endpoint ep ≡ true) → Tied h out l → Gives out (start_move b h id k ep) (unchanged l)
start-gives h l id k ep true into is = record {
  tied = record { queue = is.queue; running = each_appended IsIn (stopped ep h.running) (record { ep = ep; kind = k }) (each_filtered IsIn (λ s. not (runs_at ep s)) h.running is.running) (into refl); gone = is.gone; in_line = record { queue = is.in_line.queue; reset = is.in_line.reset } };
  sent = elim k as (λ (k : StreamKind). filter is_answer ((start_move true h id k ep).sent) ≡ []) [ Iso ↦ refl | Interrupt ↦ refl ];
}
start-gives h l id k ep false into is = record {
  tied = is;
  sent = elim k as (λ (k : StreamKind). filter is_answer ((start_move false h id k ep).sent) ≡ []) [ Iso ↦ refl | Interrupt ↦ refl ];
}

stop-tied : {S : Type 0} {out : Bool} (h : Host S) (l : List Waiting) (id : ℕ) (k : StreamKind) (ep : ℕ) → Tied h out l → Tied (stop_move h id k ep).host out l
stop-tied h l id k ep is = record { queue = is.queue; running = each_filtered IsIn (λ s. not (runs_at ep s)) h.running is.running; gone = is.gone; in_line = record { queue = is.in_line.queue; reset = is.in_line.reset } }

plain-gives : {S : Type 0} {out : Bool} (m : Meaning S) (h : Host S) (l : List Waiting) (place id : ℕ) (p : RedirControl) → Tied h out l → Gives out (packet_move_by m h id (Plain p)) (by_plain place id p l)
plain-gives m h l place id (plain.SetConfiguration configuration) is = asked-gives h l place id (asking_plain (plain.SetConfiguration configuration)) (plain-answers (plain.SetConfiguration configuration)) is
plain-gives m h l place id plain.GetConfiguration is = asked-gives h l place id (asking_plain plain.GetConfiguration) (plain-answers plain.GetConfiguration) is
plain-gives m h l place id (plain.SetAlt interface alt) is = asked-gives h l place id (asking_plain (plain.SetAlt interface alt)) (plain-answers (plain.SetAlt interface alt)) is
plain-gives m h l place id (plain.GetAlt interface) is = asked-gives h l place id (asking_plain (plain.GetAlt interface)) (plain-answers (plain.GetAlt interface)) is
plain-gives m h l place id (plain.StartIso ep pkts_per_urb no_urbs) is = start-gives h (l ++ []) id Iso ep (can_start (m.table h.gadget) Iso ep) (started-in (m.table h.gadget) Iso ep) (same-line h l is)
plain-gives m h l place id (plain.StopIso ep) is = record { tied = stop-tied h (l ++ []) id Iso ep (same-line h l is); sent = refl }
plain-gives m h l place id (plain.StartInterrupt ep) is = start-gives h (l ++ []) id Interrupt ep (can_start (m.table h.gadget) Interrupt ep) (started-in (m.table h.gadget) Interrupt ep) (same-line h l is)
plain-gives m h l place id (plain.StopInterrupt ep) is = record { tied = stop-tied h (l ++ []) id Interrupt ep (same-line h l is); sent = refl }
plain-gives m h l place id plain.Cancel is =
    cancel-gives h l id (find (is_cancelled_by id) h.queue) refl (zip-first (is_cancelled_by id) (is_cancelled id) (same-cancelled id) h.queue (waiting_in l) is.queue) is
plain-gives m h l place id plain.Reset is = record {
  tied = record { queue = subst (λ (ps : List Placed). AllZip Same h.queue ps) (sym (placed-append l (Reset ∷ []) ∙ append-nil (waiting_in l))) is.queue; running = is.running; gone = is.gone; in_line = record { queue = is.in_line.queue ∙ sym (queue-reset false l); reset = sym (reset-reset false l) } };
  sent = refl;
}
plain-gives m h l place id _ is = record { tied = same-line h l is; sent = refl }

any-gives : {S : Type 0} {out : Bool} (m : Meaning S) (h : Host S) (l : List Waiting) (place id : ℕ) (p : RedirPacket) → Tied h out l → Gives out (packet_move_by m h id p) (by_packet place id p l)
any-gives m h l place id (Plain p) is = plain-gives m h l place id p is
any-gives m h l place id (Carrying d) is = asked-gives h l place id (asking_of d) (data-answers d) is

packet-gives : {S : Type 0} {out : Bool} (m : Meaning S) (g : Host S) (l : List Waiting) (new : List Placed) (place id : ℕ) (p : RedirPacket) (b : Bool) → Tied g out l → Gives out (cond b (quiet g) (packet_move_by m g id p)) (cond b (record { line = l; answered = []; dropped = new }) (by_packet place id p l))
packet-gives m g l new place id p true is = record { tied = is; sent = refl }
packet-gives m g l new place id p false is = any-gives m g l place id p is

-- ---- offers, and the end

given-gives : {S : Type 0} {out : Bool} (h : Host S) (l : List Waiting) (ep : ℕ) (k : StreamKind) (o : Option (S × StreamPacket)) → is_in_endpoint ep ≡ true → Tied h out l → Gives out (offered_by h ep k o) (unchanged l)
given-gives h l ep k None into is = record { tied = is; sent = refl }
given-gives h l ep Iso (Some sent) into is = record { tied = record { queue = is.queue; running = is.running; gone = is.gone; in_line = record { queue = is.in_line.queue; reset = is.in_line.reset } }; sent = refl }
given-gives h l ep Interrupt (Some sent) into is = record {
  tied = record { queue = is.queue; running = is.running; gone = is.gone; in_line = record { queue = is.in_line.queue; reset = is.in_line.reset } };
  sent = ap (λ (b : Bool). cond (not b) ((offered_by h ep Interrupt (Some sent)).sent) []) into;
}

offered-gives : {S : Type 0} {out : Bool} (m : Meaning S) (h : Host S) (l : List Waiting) (ep : ℕ) (o : Option Running) → find (runs_at ep) h.running ≡ o → Tied h out l → Gives out (offered_on m h ep o) (unchanged l)
offered-gives m h l ep None none is = record { tied = is; sent = refl }
offered-gives m h l ep (Some s) found is =
    let e = each_found IsIn (runs_at ep) h.running s is.running found in
    given-gives h l ep s.kind (m.offer h.gadget ep) (subst (λ (n : ℕ). is_in_endpoint n ≡ true) (eqb-true s.ep ep e.1) e.0) is

offer-gives : {S : Type 0} {out : Bool} (m : Meaning S) (h : Host S) (l : List Waiting) (ep : ℕ) (b : Bool) → Tied h out l → Gives out (cond b (quiet h) (offered_on m h ep (find (runs_at ep) h.running))) (unchanged l)
offer-gives m h l ep true is = record { tied = is; sent = refl }
offer-gives m h l ep false is = offered-gives m h l ep (find (runs_at ep) h.running) refl is

unplug-gives : {S : Type 0} (h : Host S) (l : List Waiting) (b : Bool) → Tied h b l → Gives true (unplugged-by h b) (cond b (unchanged l) (record { line = []; answered = []; dropped = waiting_in l }))
unplug-gives h l true is = record { tied = is; sent = refl }
unplug-gives h l false is = record {
  tied = record { queue = tt; running = tt; gone = refl; in_line = record { queue = refl; reset = refl } };
  sent = elim h.guest.first as (λ (b : Bool). filter is_answer (cond b [] ((0, Plain plain.Disconnect) ∷ [])) ≡ []) [ true ↦ refl | false ↦ refl ];
}

-- ---- whatever comes

step-gives : {S : Type 0} (m : Meaning S) (h : Host S) (l : List Waiting) (place : ℕ) (x : Item) (xs : List Item) → Tied h (is_gone xs) l → Gives (is_gone (x ∷ xs)) (move m h x) (becomes m h (is_gone xs) place x l)
step-gives {S = S} m h l place (Asked id p) xs is =
    let g : Host S = record h { guest = advanced h.guest p } in
    let out = is_gone xs in
    let new = request_in place id (asking p) in
    subst (λ (b : Bool). Gives out (cond b (quiet g) (packet_move_by m g id p)) (cond out (record { line = l; answered = []; dropped = new }) (by_packet place id p l))) (sym is.gone)
    (packet-gives m g l new place id p out (record { queue = is.queue; running = is.running; gone = is.gone; in_line = record { queue = is.in_line.queue; reset = is.in_line.reset } }))
step-gives m h l place (Wrong from reason) xs is = record { tied = is; sent = refl }
step-gives m h l place (Performs ep) xs is =
    let out = is_gone xs in
    let first = find (is_at ep) h.queue in
    subst (λ (b : Bool). Gives out (perform_move_by h (cond b None (first_performed m h ep first))) (cond out (unchanged l) (by_perform m h.gadget ep l first))) (sym is.gone) (performed-gives m h l ep out is)
step-gives m h l place (Offers ep) xs is = offer-gives m h l ep h.unplugged is
step-gives m h l place Unplugs xs is =
    let out = is_gone xs in
    subst (λ (b : Bool). Gives true (unplugged-by h b) (cond out (unchanged l) (record { line = []; answered = []; dropped = waiting_in l }))) (sym is.gone) (unplug-gives h l out is)

run-tied : {S : Type 0} (m : Meaning S) (s : S) (xs : List Item) → Tied (run m s xs) (is_gone xs) (line m s xs)
run-tied m s [] = record { queue = tt; running = tt; gone = refl; in_line = record { queue = refl; reset = refl } }
run-tied m s (x ∷ xs) = (step-gives m (run m s xs) (line m s xs) (packets xs) x xs (run-tied m s xs)).tied

pub run-queue : {S : Type 0} (m : Meaning S) (s : S) (xs : List Item) → AllZip Same (run m s xs).queue (waiting m s xs)
run-queue m s xs = (run-tied m s xs).queue

pub run-in-line : {S : Type 0} (m : Meaning S) (s : S) (xs : List Item) → IsInLine (run m s xs) (line m s xs)
run-in-line m s xs = (run-tied m s xs).in_line

pub run-gone : {S : Type 0} (m : Meaning S) (s : S) (xs : List Item) → (run m s xs).unplugged ≡ is_gone xs
run-gone m s xs = (run-tied m s xs).gone

pub all-told : {S : Type 0} (m : Meaning S) (s : S) (xs : List Item) → map told_request (run m s xs).queue ≡ map told_placed (waiting m s xs)
all-told m s xs = zip-told (run m s xs).queue (waiting m s xs) (run-tied m s xs).queue

pub all-sent : {S : Type 0} (m : Meaning S) (s : S) (xs : List Item) → answers_sent m s xs ≡ map answer_of (answered m s xs)
all-sent m s [] = refl
all-sent m s (x ∷ xs) =
    let h = run m s xs in
    let b = becomes m h (is_gone xs) (packets xs) x (line m s xs) in
    filter-append is_answer (all_given (λ v. v.sent) m s xs) (move m h x).sent
    ∙ (λ i. all-sent m s xs i ++ (step-gives m h (line m s xs) (packets xs) x xs (run-tied m s xs)).sent i)
    ∙ sym (map-append answer_of (answered m s xs) b.answered)
