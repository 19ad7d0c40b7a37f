-- What comes of transfers of the bulk endpoints is within what they want, and has a status that its byte names.
use Rattle.std.proofs.Common.{◌≡◌, ℕ, ◌+◌, ◌*◌, ◌≤◌, true, false, List, [], length, take, drop, min, Option, Some, None, refl, sym, ◌∙◌, arith}
use Rattle.std.specs.Prelude.{◌==◌, nat_lt, IfSome}
use Rattle.std.proofs.lemmas.Bool.{false≢true, cond_both, ltb-false}
use Rattle.std.proofs.lemmas.List.{length-take}
use Rattle.usb_base.specs.Endpoint.{is_in_endpoint}
use Rattle.usb_base.specs.Number.{le, part}
use Rattle.usb_base.specs.declared.transfer.Transfer.{Transfer}
use Rattle.chapter9.specs.Standard.{success, taken}
use Rattle.model_device.specs.Gadget.{IsNamed}
use Rattle.model_device.specs.Transfer.{IsTransfer, IsOutcome}
use Rattle.model_device.specs.inner.Lawful.{stall_outcome}
use Rattle.disk_gadget.specs.declared.report.Report.{Report}
use Rattle.disk_gadget.specs.declared.sense.Sense.{Sense}
use Rattle.disk_gadget.specs.declared.stage.Answer.{Answer}
use Rattle.disk_gadget.specs.declared.stage.Answer.TheVariants.{Text, Blocks}
use Rattle.disk_gadget.specs.declared.stage.Stage.{Stage}
use Rattle.disk_gadget.specs.declared.stage.Stage.TheVariants.{Waits, Gathers, Gives, Reports}
use Rattle.disk_gadget.specs.declared.wrapper.Wrapper.{Wrapper}
use Rattle.disk_gadget.specs.declared.medium.TheConstants.{BLOCK_SIZE}
use Rattle.disk_gadget.specs.Accesses.{count_of}
use Rattle.disk_gadget.specs.DiskStep.{DiskState, bulk_turn, on_blocks, outcome_in, turned}
use Rattle.disk_gadget.specs.Reports.{status_bytes, status_size}
use Rattle.disk_gadget.specs.Turns.{Turn, acted, answering, begun, gathered, gathering, given_by, given_of, left_of, refused, reported, taken_by}
use Rattle.disk_gadget.specs.Wrappers.{wrapper_of}

pub status_length : (r : Report) → length (status_bytes r) ≡ status_size
unfolding le
status_length r = refl

abbrev IsFine : List ℕ → Transfer → Option Turn → Type 0
IsFine blocks t o = IfSome o (λ turn. IsOutcome t (outcome_in blocks turn.reply))

taken_fine : (blocks : List ℕ) (t : Transfer) → IsTransfer t → is_in_endpoint t.ep ≡ false → IsOutcome t (taken (length t.body))
taken_fine blocks t it e = let wants = it.to_device e in record { done = omega arith; from_device = λ f. absurd (false≢true (sym e ∙ f)); to_device = λ f. refl }

begun_fine : (blocks : List ℕ) (n : ℕ) (sense : Option Sense) (t : Transfer) (w : Option Wrapper) → IsTransfer t → is_in_endpoint t.ep ≡ false → IsOutcome t (outcome_in blocks (begun n sense t.body w).reply)
begun_fine blocks n sense t None it e = stall_outcome t
begun_fine blocks n sense t (Some w) it e =
    cond_both (w.length == 0) (acted n sense w [] t.body) _ (λ turn. IsOutcome t (outcome_in blocks turn.reply)) (λ h. taken_fine blocks t it e)
    (λ h. cond_both w.is_in (answering n sense w t.body) (gathering sense w [] t.body) (λ turn. IsOutcome t (outcome_in blocks turn.reply)) (λ k. taken_fine blocks t it e) (λ k. taken_fine blocks t it e))

gathered_fine : (blocks : List ℕ) (n : ℕ) (sense : Option Sense) (t : Transfer) (w : Wrapper) (bytes : List ℕ) → IsTransfer t → is_in_endpoint t.ep ≡ false → IsOutcome t (outcome_in blocks (gathered n sense w bytes t.body).reply)
gathered_fine blocks n sense t w bytes it e =
    cond_both (nat_lt w.length (length bytes + length t.body)) (refused _) _ (λ turn. IsOutcome t (outcome_in blocks turn.reply)) (λ h. stall_outcome t)
    (λ h. cond_both (length bytes + length t.body == w.length) (acted n sense w _ t.body) (gathering sense w _ t.body) (λ turn. IsOutcome t (outcome_in blocks turn.reply)) (λ k. taken_fine blocks t it e) (λ k. taken_fine blocks t it e))

taken_by_fine : (blocks : List ℕ) (n : ℕ) (sense : Option Sense) (t : Transfer) (stage : Stage) → IsTransfer t → is_in_endpoint t.ep ≡ false → IsFine blocks t (taken_by n sense t.body stage)
taken_by_fine blocks n sense t Waits it e = begun_fine blocks n sense t (wrapper_of t.body) it e
taken_by_fine blocks n sense t (Gathers w bytes) it e = gathered_fine blocks n sense t w bytes it e
taken_by_fine blocks n sense t (Gives answer r) it e = tt
taken_by_fine blocks n sense t (Reports r) it e = tt

given_fine : (t : Transfer) (bytes : List ℕ) → is_in_endpoint t.ep ≡ true → length bytes ≤ t.wanted → IsOutcome t (success bytes)
given_fine t bytes e h = record { done = h; from_device = λ f. refl; to_device = λ f. absurd (false≢true (sym f ∙ e)) }

answer_fine : (blocks : List ℕ) (t : Transfer) (answer : Answer) (n : ℕ) → is_in_endpoint t.ep ≡ true → n ≤ t.wanted → IsOutcome t (outcome_in blocks (given_of n answer))
answer_fine blocks t (Text rest) n e h = given_fine t (take n rest) e (omega (arith, length-take n rest))
answer_fine blocks t (Blocks block given left) n e h = given_fine t (part (BLOCK_SIZE * block + given) n blocks) e (omega (arith, length-take n (drop (BLOCK_SIZE * block + given) blocks)))

reported_fine : (blocks : List ℕ) (sense : Option Sense) (t : Transfer) (r : Report) → is_in_endpoint t.ep ≡ true → IsOutcome t (outcome_in blocks (reported sense t.wanted r).reply)
reported_fine blocks sense t r e =
    cond_both (nat_lt t.wanted status_size) (refused _) _ (λ turn. IsOutcome t (outcome_in blocks turn.reply)) (λ h. stall_outcome t)
    (λ h. let room = ltb-false t.wanted status_size h in given_fine t (status_bytes r) e (omega (arith, status_length r)))

given_by_fine : (blocks : List ℕ) (sense : Option Sense) (t : Transfer) (stage : Stage) → is_in_endpoint t.ep ≡ true → IsFine blocks t (given_by sense t.wanted stage)
given_by_fine blocks sense t Waits e = tt
given_by_fine blocks sense t (Gathers w bytes) e = tt
given_by_fine blocks sense t (Gives answer r) e = answer_fine blocks t answer (min t.wanted (left_of answer)) e (omega arith)
given_by_fine blocks sense t (Reports r) e = reported_fine blocks sense t r e

fine_turned : (d : DiskState) (t : Transfer) (o : Option Turn) → IsFine d.blocks t o → IfSome (on_blocks d.blocks (turned d.state.device o)) (λ done. IsOutcome t done.1)
fine_turned d t None h = tt
fine_turned d t (Some turn) h = h

pub turn_is_outcome : (d : DiskState) (t : Transfer) → IsTransfer t → IfSome (on_blocks d.blocks (turned d.state.device (bulk_turn (count_of d.blocks) d.state.kept t))) (λ done. IsOutcome t done.1)
turn_is_outcome d t it =
    fine_turned d t (bulk_turn (count_of d.blocks) d.state.kept t)
    (cond_both (is_in_endpoint t.ep) (given_by d.state.kept.sense t.wanted d.state.kept.stage) (taken_by (count_of d.blocks) d.state.kept.sense t.body d.state.kept.stage) (IsFine d.blocks t)
    (λ e. given_by_fine d.blocks d.state.kept.sense t d.state.kept.stage e) (λ e. taken_by_fine d.blocks (count_of d.blocks) d.state.kept.sense t d.state.kept.stage it e))

-- ---- statuses: each of them succeeds or stalls

abbrev IsTold : List ℕ → Option Turn → Type 0
IsTold blocks o = IfSome o (λ turn. IsNamed (outcome_in blocks turn.reply).status)

begun_told : (blocks : List ℕ) (n : ℕ) (sense : Option Sense) (body : List ℕ) (w : Option Wrapper) → IsNamed (outcome_in blocks (begun n sense body w).reply).status
begun_told blocks n sense body None = refl
begun_told blocks n sense body (Some w) =
    cond_both (w.length == 0) (acted n sense w [] body) _ (λ turn. IsNamed (outcome_in blocks turn.reply).status) (λ h. refl)
    (λ h. cond_both w.is_in (answering n sense w body) (gathering sense w [] body) (λ turn. IsNamed (outcome_in blocks turn.reply).status) (λ k. refl) (λ k. refl))

gathered_told : (blocks : List ℕ) (n : ℕ) (sense : Option Sense) (body : List ℕ) (w : Wrapper) (bytes : List ℕ) → IsNamed (outcome_in blocks (gathered n sense w bytes body).reply).status
gathered_told blocks n sense body w bytes =
    cond_both (nat_lt w.length (length bytes + length body)) (refused _) _ (λ turn. IsNamed (outcome_in blocks turn.reply).status) (λ h. refl)
    (λ h. cond_both (length bytes + length body == w.length) (acted n sense w _ body) (gathering sense w _ body) (λ turn. IsNamed (outcome_in blocks turn.reply).status) (λ k. refl) (λ k. refl))

taken_by_told : (blocks : List ℕ) (n : ℕ) (sense : Option Sense) (body : List ℕ) (stage : Stage) → IsTold blocks (taken_by n sense body stage)
taken_by_told blocks n sense body Waits = begun_told blocks n sense body (wrapper_of body)
taken_by_told blocks n sense body (Gathers w bytes) = gathered_told blocks n sense body w bytes
taken_by_told blocks n sense body (Gives answer r) = tt
taken_by_told blocks n sense body (Reports r) = tt

answer_told : (blocks : List ℕ) (answer : Answer) (n : ℕ) → IsNamed (outcome_in blocks (given_of n answer)).status
answer_told blocks (Text rest) n = refl
answer_told blocks (Blocks block given left) n = refl

reported_told : (blocks : List ℕ) (sense : Option Sense) (wanted : ℕ) (r : Report) → IsNamed (outcome_in blocks (reported sense wanted r).reply).status
reported_told blocks sense wanted r = cond_both (nat_lt wanted status_size) (refused _) _ (λ turn. IsNamed (outcome_in blocks turn.reply).status) (λ h. refl) (λ h. refl)

given_by_told : (blocks : List ℕ) (sense : Option Sense) (wanted : ℕ) (stage : Stage) → IsTold blocks (given_by sense wanted stage)
given_by_told blocks sense wanted Waits = tt
given_by_told blocks sense wanted (Gathers w bytes) = tt
given_by_told blocks sense wanted (Gives answer r) = answer_told blocks answer (min wanted (left_of answer))
given_by_told blocks sense wanted (Reports r) = reported_told blocks sense wanted r

told_turned : (d : DiskState) (o : Option Turn) → IsTold d.blocks o → IfSome (on_blocks d.blocks (turned d.state.device o)) (λ done. IsNamed done.1.status)
told_turned d None h = tt
told_turned d (Some turn) h = h

pub turn_is_named : (d : DiskState) (t : Transfer) → IfSome (on_blocks d.blocks (turned d.state.device (bulk_turn (count_of d.blocks) d.state.kept t))) (λ done. IsNamed done.1.status)
turn_is_named d t =
    told_turned d (bulk_turn (count_of d.blocks) d.state.kept t)
    (cond_both (is_in_endpoint t.ep) (given_by d.state.kept.sense t.wanted d.state.kept.stage) (taken_by (count_of d.blocks) d.state.kept.sense t.body d.state.kept.stage) (IsTold d.blocks)
    (λ e. given_by_told d.blocks d.state.kept.sense t.wanted d.state.kept.stage) (λ e. taken_by_told d.blocks (count_of d.blocks) d.state.kept.sense t.body d.state.kept.stage))
