-- What the packets of a stream fill, of the live submits and of their rows alike: which end, with which answers.
use Rattle.std.proofs.Common.{◌≡◌, ◌≤◌, ◌-◌, ◌^◌, ℕ, zero, suc, ◌==◌, Bool, true, false, cond, List, [], ◌∷◌, ◌++◌, length, map, Option, Some, None, refl, sym, ap, ◌∙◌, subst, arith}
use Rattle.std.specs.Prelude.{filter, is_none}
use Rattle.std.specs.List.{flat_map}
use Rattle.std.specs.Option.{option_map}
use Rattle.usb_base.specs.declared.transfer.StreamPacket.{StreamPacket}
use Rattle.usbip_urb.specs.declared.packet.UrbPacket.{UrbPacket}
use Rattle.usbip_urb.specs.declared.client.ClientPacket.TheVariants.{Urb}
use Rattle.usbip_urb.specs.ClientPackets.{client_spelling}
use Rattle.stream_buffers.specs.Cuts.{Cut}
use Rattle.unlink_race.specs.declared.live.Live.{Live}
use Rattle.unlink_race.specs.Firsts.{without_first}
use Rattle.unlink_race.specs.Searches.{waits_for}
use Rattle.gate_history.specs.declared.note.Note.{Note}
use Rattle.gate_history.specs.declared.note.Note.TheVariants as note
use Rattle.gate_history.specs.declared.request.Request.{Request}
use Rattle.gate_history.specs.host.Fillings.{Given, Transferred, Isochronous, Filling, Fill, cut_of, filled_by, fill, given_to}
use Rattle.gate_history.specs.client.Submits.{Pending}
use Rattle.gate_history.specs.client.Ends.{End, ByPackets, waits_at, packets_end, answers_at}
use Rattle.gate_history.specs.write.Answers.{with_given}
use Rattle.gate_history.specs.write.Notes.{is_by_answer, is_by_client}
use Rattle.gate_history.specs.write.All.{is_ret_submit, is_won_unlink}
use Rattle.gate_parts.specs.state.Rows.{row, row_request}
use Rattle.gate_parts.specs.host.Fill.{rows_fill, filled_bytes, filled_notes, bytes_by, waiting_rows, without_firsts}
use Rattle.gate_history.proofs.lemmas.Lists.{Each, Each-weaker, Each-filter, every, both, filter-same, filter-none, filter-twice, flat_map-same, flat_map-filter, flat_map-none}
use Rattle.unlink_race.specs.Requests.{Requests}
use Rattle.gate_core.specs.declared.state.kept.Kept.{Kept}
use Rattle.gate_core.proofs.lemmas.state.Held.{with-requests}
use Rattle.gate_core.specs.inner.state.Holds.{IsRow, IsKept}
use Rattle.gate_core.proofs.lemmas.host.Answer.{Each-without, length-without}
use Rattle.gate_core.proofs.lemmas.client.WaitRows.{IsGoing, waits-row, waits-rows}

-- ---- what is kept stays sound

each-left : (P : Live → Type 0) (test : Live → Bool) (n : ℕ) (ls : List Live) → Each P ls → Each P (without_firsts n test ls)
each-left P test zero ls h = h
each-left P test (suc n) ls h = Each-without P test (without_firsts n test ls) (each-left P test n ls h)

few-left : (test : Live → Bool) (n : ℕ) (ls : List Live) → length (without_firsts n test ls) ≤ length ls
few-left test zero ls = omega arith
few-left test (suc n) ls = let a = length-without test (without_firsts n test ls) in let b = few-left test n ls in omega (arith, a, b)

pub kept-filled : (t : Kept) (n : ℕ) (test : Live → Bool) (lives : Requests) (answered : ℕ) → IsKept t → lives ≡ record t.lives { live = without_firsts n test t.lives.live } → answered ≤ 2 ^ 64 - 1
    → IsKept (record t { lives = lives; answered = answered })
kept-filled t n test lives answered k is fits =
    subst (λ (r : Requests). IsKept (record t { lives = r; answered = answered })) (sym is)
    (with-requests t (record t.lives { live = without_firsts n test t.lives.live }) answered t.unlinked k (each-left (IsRow t.sides.agreed) test n t.lives.live k.rows) k.apart
    (let fewer = few-left test n t.lives.live in omega (arith, fewer, k.few)) k.left fits k.unlinked_fits)

-- ---- of those that wait, whose numbers differ

abbrev pub number : Pending → ℕ
number p = p.submit.request.seqnum

-- no two have the same number
abbrev pub Differ : List Pending → Type 0
Differ [] = Unit {0}
Differ (p ∷ ps) = Each (λ q. (number p == number q) ≡ false) ps × Differ ps

abbrev pub requests : List Pending → List Request
requests ps = map (λ (p : Pending). p.submit.request) ps

abbrev pub end-by : List Filling → Pending → Option End
end-by fs p = option_map ByPackets (given_to fs (number p))

abbrev pub packets-by : List Filling → Pending → List UrbPacket
packets-by fs p = answers_at p.submit p.unlinker (end-by fs p)

abbrev pub all-packets : List Filling → List Pending → List UrbPacket
all-packets fs ps = flat_map (packets-by fs) ps

own : (n : ℕ) → (n == n) ≡ true
own n = grind arith

-- with nothing left none ends
none-sent : (ps : List Pending) → all-packets [] ps ≡ []
none-sent ps = flat_map-none ps

-- another's filling is no end of these
others : (f : Filling) (fs : List Filling) (ps : List Pending) → Each (λ q. (f.seqnum == number q) ≡ false) ps → Each (λ q. end-by (f ∷ fs) q ≡ end-by fs q) ps
others f fs ps h =
    Each-weaker (λ q. (f.seqnum == number q) ≡ false) (λ q. end-by (f ∷ fs) q ≡ end-by fs q)
    (λ q e. ap (λ (b : Bool). option_map ByPackets (cond b (Some f.given) (given_to fs (number q)))) e) ps h

own-end : (p : Pending) (g : Given) (fs : List Filling) → end-by (record { seqnum = number p; given = g } ∷ fs) p ≡ Some (ByPackets g)
own-end p g fs = ap (λ (b : Bool). option_map ByPackets (cond b (Some g) (given_to fs (number p)))) (own (number p))

-- the packets that answer the first, and then the others
sent-next : (p : Pending) (ps : List Pending) (g : Given) (fs : List Filling) → Each (λ q. (number p == number q) ≡ false) ps
    → all-packets (record { seqnum = number p; given = g } ∷ fs) (p ∷ ps) ≡ with_given p.submit.request g ∷ all-packets fs ps
sent-next p ps g fs h =
    let f : Filling = record { seqnum = number p; given = g } in
    (λ i. answers_at p.submit p.unlinker (own-end p g fs i) ++ flat_map-same (packets-by (f ∷ fs)) (packets-by fs) ps
    (Each-weaker (λ q. end-by (f ∷ fs) q ≡ end-by fs q) (λ q. packets-by (f ∷ fs) q ≡ packets-by fs q) (λ q e. ap (answers_at q.submit q.unlinker) e) ps (others f fs ps h)) i)

-- the answers of all, by their requests
abbrev answers-by : Pending → Option (Cut Given) → (List StreamPacket → List UrbPacket) → List UrbPacket
answers-by p None rest = []
answers-by p (Some cut) rest = with_given p.submit.request cut.gives ∷ rest cut.leaves

abbrev answers-of : ℕ → List Pending → List StreamPacket → List UrbPacket
answers-of max_packet [] packets = []
answers-of max_packet (p ∷ ps) packets = answers-by p (cut_of max_packet p.submit.request packets) (answers-of max_packet ps)

abbrev pub fillings : ℕ → List Pending → List StreamPacket → List Filling
fillings max_packet ps packets = (fill max_packet (requests ps) packets).fillings

all-answers : (max_packet : ℕ) (ps : List Pending) (packets : List StreamPacket) → Differ ps → all-packets (fillings max_packet ps packets) ps ≡ answers-of max_packet ps packets
all-answers max_packet [] packets d = refl
all-answers max_packet (p ∷ ps) packets d = by (cut_of max_packet p.submit.request packets) (λ left. all-answers max_packet ps left d.1)
  where
    by : (cut : Option (Cut Given)) → ((left : List StreamPacket) → all-packets (fillings max_packet ps left) ps ≡ answers-of max_packet ps left) →
        all-packets (filled_by (number p) packets cut (fill max_packet (requests ps))).fillings (p ∷ ps) ≡ answers-by p cut (answers-of max_packet ps)
    by None rest = none-sent (p ∷ ps)
    by (Some cut) rest = sent-next p ps cut.gives (fillings max_packet ps cut.leaves) d.0 ∙ ap (λ (l : List UrbPacket). with_given p.submit.request cut.gives ∷ l) (rest cut.leaves)

-- ---- their bytes are those of the rows

row-given : (p : Pending) (g : Given) → with_given (row_request (row p)) g ≡ with_given p.submit.request g
row-given p (Transferred outcome) = refl
row-given p (Isochronous outcome) = refl

answer-bytes : (max_packet : ℕ) (ps : List Pending) (packets : List StreamPacket) → flat_map client_spelling (map Urb (answers-of max_packet ps packets)) ≡ filled_bytes max_packet (map row ps) packets
answer-bytes max_packet [] packets = refl
answer-bytes max_packet (p ∷ ps) packets = by (cut_of max_packet p.submit.request packets) (answer-bytes max_packet ps)
  where
    by : (cut : Option (Cut Given)) → ((left : List StreamPacket) → flat_map client_spelling (map Urb (answers-of max_packet ps left)) ≡ filled_bytes max_packet (map row ps) left) →
        flat_map client_spelling (map Urb (answers-by p cut (answers-of max_packet ps))) ≡ bytes_by (row p) cut (filled_bytes max_packet (map row ps))
    by None rest = refl
    by (Some cut) rest = λ i. client_spelling (Urb (sym (row-given p cut.gives) i)) ++ rest cut.leaves i

-- what they fill is what the rows say
rows-requests : (max_packet : ℕ) (ps : List Pending) (packets : List StreamPacket) → rows_fill max_packet (map row ps) packets ≡ fill max_packet (requests ps) packets
rows-requests max_packet [] packets = refl
rows-requests max_packet (p ∷ ps) packets = by (cut_of max_packet p.submit.request packets) (rows-requests max_packet ps)
  where
    by : (cut : Option (Cut Given)) → ((left : List StreamPacket) → rows_fill max_packet (map row ps) left ≡ fill max_packet (requests ps) left) →
        filled_by (number p) packets cut (λ left. rows_fill max_packet (map row ps) left) ≡ filled_by (number p) packets cut (fill max_packet (requests ps))
    by None rest = refl
    by (Some cut) rest = ap (λ (f : Fill). filled_by (number p) packets (Some cut) (λ left. f)) (rest cut.leaves)

-- ---- what is told and counted

first-told : (p : Pending) (ps : List Pending) (g : Given) (fs : List Filling) → Each (λ q. (number p == number q) ≡ false) ps
    → filter (λ q. is_by_answer (end-by (record { seqnum = number p; given = g } ∷ fs) q)) (p ∷ ps) ≡ p ∷ filter (λ q. is_by_answer (end-by fs q)) ps
first-told p ps g fs h =
    let f : Filling = record { seqnum = number p; given = g } in
    λ i. cond (is_by_answer (own-end p g fs i)) (p ∷ tail f i) (tail f i)
  where
    tail : (f : Filling) → filter (λ q. is_by_answer (end-by (record { seqnum = number p; given = g } ∷ fs) q)) ps ≡ filter (λ q. is_by_answer (end-by fs q)) ps
    tail f =
        filter-same (λ q. is_by_answer (end-by (record { seqnum = number p; given = g } ∷ fs) q)) (λ q. is_by_answer (end-by fs q)) ps
        (Each-weaker (λ q. end-by (record { seqnum = number p; given = g } ∷ fs) q ≡ end-by fs q) (λ q. is_by_answer (end-by (record { seqnum = number p; given = g } ∷ fs) q) ≡ is_by_answer (end-by fs q)) (λ q e. ap is_by_answer e) ps
        (others (record { seqnum = number p; given = g }) fs ps h))

abbrev notes-of : List Pending → List Note
notes-of ps = map (λ (p : Pending). note.Answered (number p)) ps

all-told : (max_packet : ℕ) (ps : List Pending) (packets : List StreamPacket) → Differ ps → notes-of (filter (λ q. is_by_answer (end-by (fillings max_packet ps packets) q)) ps) ≡ filled_notes (fill max_packet (requests ps) packets)
all-told max_packet [] packets d = refl
all-told max_packet (p ∷ ps) packets d = by (cut_of max_packet p.submit.request packets) (λ left. all-told max_packet ps left d.1)
  where
    by : (cut : Option (Cut Given)) → ((left : List StreamPacket) → notes-of (filter (λ q. is_by_answer (end-by (fillings max_packet ps left) q)) ps) ≡ filled_notes (fill max_packet (requests ps) left)) →
        notes-of (filter (λ q. is_by_answer (end-by (filled_by (number p) packets cut (fill max_packet (requests ps))).fillings q)) (p ∷ ps)) ≡ filled_notes (filled_by (number p) packets cut (fill max_packet (requests ps)))
    by None rest = ap notes-of (filter-none (p ∷ ps))
    by (Some cut) rest = ap notes-of (first-told p ps cut.gives (fillings max_packet ps cut.leaves) d.0) ∙ ap (λ (l : List Note). note.Answered (number p) ∷ l) (rest cut.leaves)

ret-given : (r : Request) (g : Given) → is_ret_submit (Urb (with_given r g)) ≡ true
ret-given r (Transferred outcome) = refl
ret-given r (Isochronous outcome) = refl

unwon-given : (r : Request) (g : Given) → is_won_unlink (Urb (with_given r g)) ≡ false
unwon-given r (Transferred outcome) = refl
unwon-given r (Isochronous outcome) = refl

all-counted : (max_packet : ℕ) (ps : List Pending) (packets : List StreamPacket) → length (filter is_ret_submit (map Urb (answers-of max_packet ps packets))) ≡ length (fillings max_packet ps packets)
all-counted max_packet [] packets = refl
all-counted max_packet (p ∷ ps) packets = by (cut_of max_packet p.submit.request packets) (all-counted max_packet ps)
  where
    by : (cut : Option (Cut Given)) → ((left : List StreamPacket) → length (filter is_ret_submit (map Urb (answers-of max_packet ps left))) ≡ length (fillings max_packet ps left)) →
        length (filter is_ret_submit (map Urb (answers-by p cut (answers-of max_packet ps)))) ≡ length (filled_by (number p) packets cut (fill max_packet (requests ps))).fillings
    by None rest = refl
    by (Some cut) rest =
        let more = filter is_ret_submit (map Urb (answers-of max_packet ps cut.leaves)) in
        ap (λ (b : Bool). length (cond b (Urb (with_given p.submit.request cut.gives) ∷ more) more)) (ret-given p.submit.request cut.gives) ∙ ap (λ (n : ℕ). suc n) (rest cut.leaves)

none-won : (max_packet : ℕ) (ps : List Pending) (packets : List StreamPacket) → filter is_won_unlink (map Urb (answers-of max_packet ps packets)) ≡ []
none-won max_packet [] packets = refl
none-won max_packet (p ∷ ps) packets = by (cut_of max_packet p.submit.request packets) (none-won max_packet ps)
  where
    by : (cut : Option (Cut Given)) → ((left : List StreamPacket) → filter is_won_unlink (map Urb (answers-of max_packet ps left)) ≡ []) → filter is_won_unlink (map Urb (answers-by p cut (answers-of max_packet ps))) ≡ []
    by None rest = refl
    by (Some cut) rest =
        let more = filter is_won_unlink (map Urb (answers-of max_packet ps cut.leaves)) in
        ap (λ (b : Bool). cond b (Urb (with_given p.submit.request cut.gives) ∷ more) more) (unwon-given p.submit.request cut.gives) ∙ rest cut.leaves

-- ---- the first so many go, and the others stay

abbrev FirstsGo : (Pending → Bool) → ℕ → List Pending → Type 0
FirstsGo stays zero ps = Each (λ p. stays p ≡ true) ps
FirstsGo stays (suc n) [] = ⊥
FirstsGo stays (suc n) (p ∷ ps) = (stays p ≡ false) × FirstsGo stays n ps

firsts-left : (stays : Pending → Bool) (ep : ℕ) (ps : List Pending) (n : ℕ) → Each IsGoing ps → FirstsGo stays n (filter (λ p. waits_at ep p.submit) ps)
    → map row (filter (λ p. cond (waits_at ep p.submit) (stays p) true) ps) ≡ without_firsts n (waits_for ep) (map row ps)
firsts-left stays ep [] n h go = sym (gone-none n)
  where
    gone-none : (m : ℕ) → without_firsts m (waits_for ep) [] ≡ []
    gone-none zero = refl
    gone-none (suc m) = ap (without_first (waits_for ep)) (gone-none m)
firsts-left stays ep (p ∷ ps) n h go = by (waits_at ep p.submit) (waits-row ep p h.0) n (λ m. firsts-left stays ep ps m h.1) go
  where
    rest : List Pending
    rest = filter (λ q. cond (waits_at ep q.submit) (stays q) true) ps

    waiting : List Pending
    waiting = filter (λ q. waits_at ep q.submit) ps

    skip : (m : ℕ) → waits_for ep (row p) ≡ false → without_firsts m (waits_for ep) (row p ∷ map row ps) ≡ row p ∷ without_firsts m (waits_for ep) (map row ps)
    skip zero e = refl
    skip (suc m) e = ap (without_first (waits_for ep)) (skip m e) ∙ ap (λ (b : Bool). cond b (without_firsts m (waits_for ep) (map row ps)) (row p ∷ without_first (waits_for ep) (without_firsts m (waits_for ep) (map row ps)))) e

    take : (m : ℕ) → waits_for ep (row p) ≡ true → without_firsts (suc m) (waits_for ep) (row p ∷ map row ps) ≡ without_firsts m (waits_for ep) (map row ps)
    take zero e = ap (λ (b : Bool). cond b (map row ps) (row p ∷ without_first (waits_for ep) (map row ps))) e
    take (suc m) e = ap (without_first (waits_for ep)) (take m e)

    by : (b : Bool) → waits_for ep (row p) ≡ b → (m : ℕ) → ((k : ℕ) → FirstsGo stays k waiting → map row rest ≡ without_firsts k (waits_for ep) (map row ps)) →
        FirstsGo stays m (cond b (p ∷ waiting) waiting) → map row (cond (cond b (stays p) true) (p ∷ rest) rest) ≡ without_firsts m (waits_for ep) (row p ∷ map row ps)
    by false e m ih g = ap (λ (l : List Live). row p ∷ l) (ih m g) ∙ sym (skip m e)
    by true e zero ih g = ap (λ (b : Bool). map row (cond b (p ∷ rest) rest)) g.0 ∙ ap (λ (l : List Live). row p ∷ l) (ih zero g.1)
    by true e (suc m) ih g = ap (λ (b : Bool). map row (cond b (p ∷ rest) rest)) g.0 ∙ ih m g.1 ∙ sym (take m e)

-- those that are filled are the first, as many as are filled
all-go : (max_packet : ℕ) (ps : List Pending) (packets : List StreamPacket) → Differ ps → FirstsGo (λ p. is_none (end-by (fillings max_packet ps packets) p)) (length (fillings max_packet ps packets)) ps
all-go max_packet [] packets d = tt
all-go max_packet (p ∷ ps) packets d = by (cut_of max_packet p.submit.request packets) (λ left. all-go max_packet ps left d.1)
  where
    same : (s t : Pending → Bool) (n : ℕ) (qs : List Pending) → Each (λ q. s q ≡ t q) qs → FirstsGo s n qs → FirstsGo t n qs
    same s t zero [] e g = tt
    same s t zero (q ∷ qs) e g = (sym e.0 ∙ g.0, same s t zero qs e.1 g.1)
    same s t (suc n) [] e g = g
    same s t (suc n) (q ∷ qs) e g = (sym e.0 ∙ g.0, same s t n qs e.1 g.1)

    by : (cut : Option (Cut Given)) → ((left : List StreamPacket) → FirstsGo (λ q. is_none (end-by (fillings max_packet ps left) q)) (length (fillings max_packet ps left)) ps) →
        FirstsGo (λ q. is_none (end-by (filled_by (number p) packets cut (fill max_packet (requests ps))).fillings q)) (length (filled_by (number p) packets cut (fill max_packet (requests ps))).fillings) (p ∷ ps)
    by None rest = every (λ q. is_none (end-by [] q) ≡ true) (λ q. refl) (p ∷ ps)
    by (Some cut) rest =
        let f : Filling = record { seqnum = number p; given = cut.gives } in
        let fs = fillings max_packet ps cut.leaves in (
          ap is_none (own-end p cut.gives fs),
          same (λ q. is_none (end-by fs q)) (λ q. is_none (end-by (f ∷ fs) q)) (length fs) ps
              (Each-weaker (λ q. end-by (f ∷ fs) q ≡ end-by fs q) (λ q. is_none (end-by fs q) ≡ is_none (end-by (f ∷ fs) q)) (λ q e. ap is_none (sym e)) ps (others f fs ps d.0)) (rest cut.leaves),
        )

-- ---- of all that are there

abbrev pub waiters : ℕ → List Pending → List Pending
waiters ep ps = filter (λ p. waits_at ep p.submit) ps

abbrev pub ends-at : ℕ → List Filling → Pending → Option End
ends-at ep fs p = packets_end ep fs p.submit

-- what packets of an endpoint's stream fill of these, by their rows
pub record FillsAll (max_packet ep : ℕ) (ps : List Pending) (packets : List StreamPacket) : Type 0 where
  pub rows : map row (filter (λ p. is_none (ends-at ep (fillings max_packet (waiters ep ps) packets) p)) ps) ≡ without_firsts (length (fillings max_packet (waiters ep ps) packets)) (waits_for ep) (map row ps)
  pub sent : flat_map client_spelling (map Urb (flat_map (λ p. answers_at p.submit p.unlinker (ends-at ep (fillings max_packet (waiters ep ps) packets) p)) ps)) ≡ filled_bytes max_packet (waiting_rows ep (map row ps)) packets
  pub told : notes-of (filter (λ p. is_by_answer (ends-at ep (fillings max_packet (waiters ep ps) packets) p)) ps) ≡ filled_notes (fill max_packet (requests (waiters ep ps)) packets)
  pub counted : length (filter is_ret_submit (map Urb (flat_map (λ p. answers_at p.submit p.unlinker (ends-at ep (fillings max_packet (waiters ep ps) packets) p)) ps))) ≡ length (fillings max_packet (waiters ep ps) packets)
  pub won : filter is_won_unlink (map Urb (flat_map (λ p. answers_at p.submit p.unlinker (ends-at ep (fillings max_packet (waiters ep ps) packets) p)) ps)) ≡ []
  pub undropped : filter (λ p. is_by_client (ends-at ep (fillings max_packet (waiters ep ps) packets) p)) ps ≡ []
  pub by_rows : rows_fill max_packet (waiting_rows ep (map row ps)) packets ≡ fill max_packet (requests (waiters ep ps)) packets

pub fills-all : (max_packet ep : ℕ) (ps : List Pending) (packets : List StreamPacket) → Each IsGoing ps → Differ ps → FillsAll max_packet ep ps packets
fills-all max_packet ep ps packets going differ =
    let ws = waiters ep ps in
    let d = differ-filter ps differ in
    let fs = fillings max_packet ws packets in
    let sends = λ (p : Pending). answers_at p.submit p.unlinker (ends-at ep fs p) in
    let here : flat_map sends ps ≡ answers-of max_packet ws packets =
    flat_map-same sends (λ p. cond (waits_at ep p.submit) (packets-by fs p) []) ps (every (λ p. sends p ≡ cond (waits_at ep p.submit) (packets-by fs p) []) (λ p. only p (waits_at ep p.submit) (end-by fs p)) ps)
    ∙ sym (flat_map-filter (packets-by fs) (λ p. waits_at ep p.submit) ps) ∙ all-answers max_packet ws packets d in
    record {
      rows =
          ap (map row) (filter-same (λ p. is_none (ends-at ep fs p)) (λ p. cond (waits_at ep p.submit) (is_none (end-by fs p)) true) ps
          (every (λ p. is_none (ends-at ep fs p) ≡ cond (waits_at ep p.submit) (is_none (end-by fs p)) true) (λ p. only-none (waits_at ep p.submit) (end-by fs p)) ps))
          ∙ firsts-left (λ p. is_none (end-by fs p)) ep ps (length fs) going (all-go max_packet ws packets d);
      sent = ap (λ (l : List UrbPacket). flat_map client_spelling (map Urb l)) here ∙ answer-bytes max_packet ws packets ∙ ap (λ (ls : List Live). filled_bytes max_packet ls packets) (sym (waits-rows ep ps going));
      told =
          ap notes-of (filter-same (λ p. is_by_answer (ends-at ep fs p)) (λ p. both (waits_at ep p.submit) (is_by_answer (end-by fs p))) ps
          (every (λ p. is_by_answer (ends-at ep fs p) ≡ both (waits_at ep p.submit) (is_by_answer (end-by fs p))) (λ p. only-answer (waits_at ep p.submit) (end-by fs p)) ps)
          ∙ sym (filter-twice (λ p. is_by_answer (end-by fs p)) (λ p. waits_at ep p.submit) ps))
          ∙ all-told max_packet ws packets d;
      counted = ap (λ (l : List UrbPacket). length (filter is_ret_submit (map Urb l))) here ∙ all-counted max_packet ws packets;
      won = ap (λ (l : List UrbPacket). filter is_won_unlink (map Urb l)) here ∙ none-won max_packet ws packets;
      undropped = filter-same (λ p. is_by_client (ends-at ep fs p)) (λ p. false) ps (every (λ p. is_by_client (ends-at ep fs p) ≡ false) (λ p. no-client (waits_at ep p.submit) (given_to fs (number p))) ps) ∙ filter-none ps;
      by_rows = ap (λ (ls : List Live). rows_fill max_packet ls packets) (waits-rows ep ps going) ∙ rows-requests max_packet ws packets;
    }
  where
    only : (p : Pending) (b : Bool) (o : Option End) → answers_at p.submit p.unlinker (cond b o None) ≡ cond b (answers_at p.submit p.unlinker o) []
    only p true o = refl
    only p false o = refl

    only-none : (b : Bool) (o : Option End) → is_none (cond b o None) ≡ cond b (is_none o) true
    only-none true o = refl
    only-none false o = refl

    only-answer : (b : Bool) (o : Option End) → is_by_answer (cond b o None) ≡ both b (is_by_answer o)
    only-answer true o = refl
    only-answer false o = refl

    no-client : (b : Bool) (g : Option Given) → is_by_client (cond b (option_map ByPackets g) None) ≡ false
    no-client false g = refl
    no-client true None = refl
    no-client true (Some g) = refl

    differ-filter : (qs : List Pending) → Differ qs → Differ (waiters ep qs)
    differ-filter [] e = tt
    differ-filter (q ∷ qs) e =
        elim (waits_at ep q.submit) as (λ b. Differ (cond b (q ∷ waiters ep qs) (waiters ep qs)))
        [ true ↦ (Each-filter (λ r. (number q == number r) ≡ false) (λ r. waits_at ep r.submit) qs e.0, differ-filter qs e.1) | false ↦ differ-filter qs e.1 ]
