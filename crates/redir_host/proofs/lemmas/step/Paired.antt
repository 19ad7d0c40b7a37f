-- A request of the queue and one that waits, and what is so of lists of them.
use Rattle.std.proofs.Common.{◌≡◌, ℕ, ◌==◌, Bool, true, false, cond, ◌&&◌, List, [], ◌∷◌, ◌++◌, filter, map, Some, None, refl, ap, subst, ◌∙◌}
use Rattle.std.specs.Prelude.{Option}
use Rattle.std.specs.List.{find, AllZip, AllByRecursion as Each}
use Rattle.std.specs.Option.{option_to_list}
use Rattle.usb_base.specs.Endpoint.{is_in_endpoint}
use Rattle.usb_base.specs.declared.endpoint.EpTable.{EpTable}
use Rattle.usb_base.specs.declared.status.UsbStatus.TheVariants as status
use Rattle.usb_base.specs.declared.transfer.Outcome.{Outcome}
use Rattle.redir_data.specs.declared.packet.RedirPacket.{RedirPacket}
use Rattle.control_route.specs.declared.route.Route.{Route}
use Rattle.redir_host.specs.declared.state.host.Host.{Host}
use Rattle.redir_host.specs.declared.state.request.Form.{Form}
use Rattle.redir_host.specs.declared.state.request.Request.{Request}
use Rattle.redir_host.specs.declared.state.running.Running.{Running}
use Rattle.redir_host.specs.device.Changes.{is_touched, touched}
use Rattle.redir_host.specs.guest.Line.{Placed, Waiting, queue_in, reset_in, waiting_in}
use Rattle.usb_base.specs.Firsts.{without_first}
use Rattle.redir_host.specs.state.Queues.{after_cancel, is_at, is_cancelled_by, is_data, is_first_queue, queue_of, with_first_marked}
use Rattle.redir_host.specs.step.Answered.{ByChange, Became, ends, is_in_queue_of, is_answer, is_cancelled, answer_of, is_flushed, told_request, told_placed}
use Rattle.redir_host.specs.step.Moves.{Move}
use Rattle.chapter9.specs.Standard.{ended}
use Rattle.redir_host.specs.write.Answers.{answer, answer_by, cancelled}

-- ---- a request of the queue and one that waits

-- its answers are told from what else is sent
abbrev pub Answers : Form → ℕ → Type 0
Answers f ep = (id configuration : ℕ) (o : Outcome) → is_answer (id, answer_by configuration f ep o) ≡ true

pub record Same (q : Request) (p : Placed) : Type 0 where
  pub id : q.id ≡ p.id
  pub form : q.form ≡ p.form
  pub ep : q.transfer.ep ≡ p.ep
  pub answers : Answers p.form p.ep

abbrev pub IsIn : Running → Type 0
IsIn s = is_in_endpoint s.ep ≡ true

-- its requests with their marks, and the mark of the next one of endpoint 0, are read off the line
pub record IsInLine {S : Type 0} (h : Host S) (l : List Waiting) : Type 0 where
  pub queue : h.queue ≡ queue_in false l
  pub reset : h.resets_next ≡ reset_in false l

pub record Tied {S : Type 0} (h : Host S) (out : Bool) (l : List Waiting) : Type 0 where
  pub queue : AllZip Same h.queue (waiting_in l)
  pub running : Each IsIn h.running
  pub gone : h.unplugged ≡ out
  pub in_line : IsInLine h l

-- the move leaves this line, and its answers are those of the requests that left
pub record Gives {S : Type 0} (out : Bool) (v : Move S) (b : Became) : Type 0 where
  pub tied : Tied v.host out b.line
  pub sent : filter is_answer v.sent ≡ map answer_of b.answered

pub same-answer : (q : Request) (p : Placed) → Same q p → (configuration : ℕ) (o : Outcome) → answer configuration q o ≡ (p.id, answer_by configuration p.form p.ep o)
same-answer q p same configuration o = λ i. (same.id i, answer_by configuration (same.form i) (same.ep i) o)

pub queue-answers : (q : Request) (p : Placed) → Same q p → Answers q.form q.transfer.ep
queue-answers q p same id configuration o = (λ i. is_answer (id, answer_by configuration (same.form i) (same.ep i) o)) ∙ same.answers id configuration o

pub kept-first : (x : ℕ × RedirPacket) (xs : List (ℕ × RedirPacket)) → is_answer x ≡ true → filter is_answer (x ∷ xs) ≡ x ∷ filter is_answer xs
kept-first x xs is = ap (λ (b : Bool). cond b (x ∷ filter is_answer xs) (filter is_answer xs)) is

-- ---- the lists

-- what is so of no requests, and with one more in front of each list, is so of lists that go together
zip-all : (P : List Request → List Placed → Type 0) → P [] [] → ((q : Request) (qs : List Request) (p : Placed) (ws : List Placed) → Same q p → AllZip Same qs ws → P qs ws → P (q ∷ qs) (p ∷ ws)) → (qs : List Request) (ws : List Placed) → AllZip Same qs ws → P qs ws
zip-all P none more [] [] zip = none
zip-all P none more [] (p ∷ ws) zip = absurd zip
zip-all P none more (q ∷ qs) [] zip = absurd zip
zip-all P none more (q ∷ qs) (p ∷ ws) zip = more q qs p ws zip.0 zip.1 (zip-all P none more qs ws zip.1)

pub zip-append : (qs : List Request) (ws : List Placed) (q : Request) (p : Placed) → AllZip Same qs ws → Same q p → AllZip Same (qs ++ q ∷ []) (ws ++ p ∷ [])
zip-append qs ws q p zip same = zip-all (λ xs ys. AllZip Same (xs ++ q ∷ []) (ys ++ p ∷ [])) (same, tt) (λ r rs w ws here zip rest. (here, rest)) qs ws zip

zip-marked : (qs : List Request) (ws : List Placed) → AllZip Same qs ws → AllZip Same (with_first_marked qs) ws
zip-marked =
    zip-all (λ qs ws. AllZip Same (with_first_marked qs) ws) tt
    (λ q qs p ws same zip rest. elim (is_first_queue q) as (λ (b : Bool). AllZip Same (cond b (record q { reset = true } ∷ qs) (q ∷ with_first_marked qs)) (p ∷ ws)) [
      | true ↦ (record { id = same.id; form = same.form; ep = same.ep; answers = same.answers }, zip)
      | false ↦ (same, rest)
    ])

zip-left : (b : Bool) (qs : List Request) (ws : List Placed) → AllZip Same qs ws → AllZip Same (cond b (with_first_marked qs) qs) ws
zip-left true qs ws zip = zip-marked qs ws zip
zip-left false qs ws zip = zip

pub same-cancelled : (id : ℕ) (q : Request) (p : Placed) → Same q p → is_cancelled_by id q ≡ is_cancelled id p
same-cancelled id q p same = λ i. is_data (same.form i) && (same.id i == id)

pub zip-cancelled : (id : ℕ) (qs : List Request) (ws : List Placed) → AllZip Same qs ws → AllZip Same (after_cancel id qs) (without_first (is_cancelled id) ws)
zip-cancelled id =
    zip-all (λ qs ws. AllZip Same (after_cancel id qs) (without_first (is_cancelled id) ws)) tt
    (λ q qs p ws same zip rest. subst (λ (c : Bool). AllZip Same (after_cancel id (q ∷ qs)) (cond c ws (p ∷ without_first (is_cancelled id) ws))) (same-cancelled id q p same)
    (elim (is_cancelled_by id q) as (λ (b : Bool). AllZip Same (cond b (cond q.reset (with_first_marked qs) qs) (q ∷ after_cancel id qs)) (cond b ws (p ∷ without_first (is_cancelled id) ws))) [
      | true ↦ zip-left q.reset qs ws zip
      | false ↦ (same, rest)
    ]))

-- tests that agree
abbrev Agree : (Request → Bool) → (Placed → Bool) → Type 0
Agree test of = (q : Request) (p : Placed) → Same q p → test q ≡ of p

abbrev pub FirstOf : Option Request → List Placed → Type 0
FirstOf None ps = ps ≡ []
FirstOf (Some q) ps = (p : Placed) × ((ps ≡ p ∷ []) × Same q p)

pub zip-first : (test : Request → Bool) (of : Placed → Bool) → Agree test of → (qs : List Request) (ws : List Placed) → AllZip Same qs ws → FirstOf (find test qs) (option_to_list (find of ws))
zip-first test of agree =
    zip-all (λ qs ws. FirstOf (find test qs) (option_to_list (find of ws))) refl
    (λ q qs p ws same zip rest. subst (λ (c : Bool). FirstOf (find test (q ∷ qs)) (option_to_list (cond c (Some p) (find of ws)))) (agree q p same)
    (elim (test q) as (λ (b : Bool). FirstOf (cond b (Some q) (find test qs)) (option_to_list (cond b (Some p) (find of ws)))) [ true ↦ (p, (refl, same)) | false ↦ rest ]))

pub zip-without : (test : Request → Bool) (of : Placed → Bool) → Agree test of → (qs : List Request) (ws : List Placed) → AllZip Same qs ws → AllZip Same (without_first test qs) (without_first of ws)
zip-without test of agree =
    zip-all (λ qs ws. AllZip Same (without_first test qs) (without_first of ws)) tt
    (λ q qs p ws same zip rest. subst (λ (c : Bool). AllZip Same (without_first test (q ∷ qs)) (cond c ws (p ∷ without_first of ws))) (agree q p same)
    (elim (test q) as (λ (b : Bool). AllZip Same (cond b qs (q ∷ without_first test qs)) (cond b ws (p ∷ without_first of ws))) [ true ↦ zip | false ↦ (same, rest) ]))

pub zip-filtered : (test : Request → Bool) (of : Placed → Bool) → Agree test of → (qs : List Request) (ws : List Placed) → AllZip Same qs ws → AllZip Same (filter test qs) (filter of ws)
zip-filtered test of agree =
    zip-all (λ qs ws. AllZip Same (filter test qs) (filter of ws)) tt
    (λ q qs p ws same zip rest. subst (λ (c : Bool). AllZip Same (filter test (q ∷ qs)) (cond c (p ∷ filter of ws) (filter of ws))) (agree q p same)
    (elim (test q) as (λ (b : Bool). AllZip Same (cond b (q ∷ filter test qs) (filter test qs)) (cond b (p ∷ filter of ws) (filter of ws))) [ true ↦ (same, rest) | false ↦ rest ]))

pub zip-flushed : (qs : List Request) (ws : List Placed) → AllZip Same qs ws → filter is_answer (map cancelled qs) ≡ map answer_of (map (ends ByChange) ws)
zip-flushed =
    zip-all (λ qs ws. filter is_answer (map cancelled qs) ≡ map answer_of (map (ends ByChange) ws)) refl
    (λ q qs p ws same zip rest. kept-first (cancelled q) (map cancelled qs) (queue-answers q p same q.id 0 (ended status.Cancelled))
    ∙ (λ i. same-answer q p same 0 (ended status.Cancelled) i ∷ rest i))

pub zip-told : (qs : List Request) (ws : List Placed) → AllZip Same qs ws → map told_request qs ≡ map told_placed ws
zip-told = zip-all (λ qs ws. map told_request qs ≡ map told_placed ws) refl (λ q qs p ws same zip rest. λ i. (same.id i, same.form i, same.ep i) ∷ rest i)

pub same-at : (ep : ℕ) → Agree (is_at ep) (is_in_queue_of ep)
same-at ep q p same = λ i. queue_of (same.ep i) == queue_of ep

pub same-touched : (r : Route) (table : EpTable) → Agree (touched r table) (is_flushed r table)
same-touched r table q p same = λ i. is_touched r table (same.ep i)
