use Rattle.std.proofs.Common.{◌≡◌, ℕ, Bool, true, false, List, Some, Result, sym, subst, ◌∙◌, ap, None}
use Rattle.std.specs.Prelude.{if◌then◌else◌, Option, IsSomeAnd, IfOk}
use Rattle.std.specs.List.{find}
use Rattle.usb_base.specs.declared.memory.Memory.{Memory}
use Rattle.usb_base.specs.Firsts.{without_first}
use Rattle.model_device.specs.Meaning.{Meaning, given_in, state_in}
use Rattle.redir_host.specs.declared.state.host.Host.{Host}
use Rattle.redir_host.specs.declared.write.note.Performed.{Performed}
use Rattle.redir_host.specs.device.Performing.{performs, performs_marked, perform_move, told_performed, with_id, done_by}
use Rattle.redir_host.specs.step.Makes.{TellsPerformed, Tells}
use Rattle.std.proofs.lemmas.Result.{IfOk-weaker}
use Rattle.redir_host.specs.declared.state.request.Request.{Request}
use Rattle.redir_host.specs.state.Queues.{is_at}
use Rattle.redir_host.proofs.lemmas.state.Sound.{sound-first, sound-without}
use Rattle.redir_host.proofs.lemmas.step.Makes.{first_done, first_none, on_ok_from, not_ready, outcome_is, performed_is, performs_done, performs_none, some_same}
use Rattle.redir_host.proofs.lemmas.step.Wanted.{marked-some, on_err_from}
use Rattle.usb_base.specs.declared.endpoint.EpTable.{EpTable}
use Rattle.usb_base.specs.declared.transfer.Outcome.{Outcome}
use Rattle.control_route.specs.declared.route.Route.{Route}
use Rattle.redir_host.specs.declared.write.note.Performed.TheVariants.{Done, NotReady}
use Rattle.redir_host.specs.device.Changes.{change_of}
use Rattle.redir_host.proofs.state.host.Host.perform.Goals as goal

pub perform_marked-requires-clause-marked : goal.perform_marked-requires-clause-marked
perform_marked-requires-clause-marked g c = subst (λ (o : Option Request). IsSomeAnd o (λ q. q.reset ≡ true)) c.in-Some.ensures c.if-request.true

-- what is told and made of an endpoint's first request, by whether a reset is due before it
performed-first : {S : Type 0} (m : Meaning S) (h new : Host S) (ep : ℕ) (q : Request) (reset : Bool) (result : Result Performed Memory) (o0 o1 : List ℕ) → h.unplugged ≡ false → Some q ≡ find (is_at ep) h.queue → q.reset ≡ reset
    → IfOk result (λ told. (x : Request) → find (is_at ep) h.queue ≡ Some x → let rest : Host S = record h { queue = without_first (is_at ep) h.queue } in TellsPerformed (with_id x (if reset then performs_marked m rest x x.form else performs m rest x)) h new told o0 o1)
    → IfOk result (λ told. (told ≡ told_performed m h ep) × Tells (perform_move m h ep) new o0 o1)
performed-first m h new ep q reset result o0 o1 plugged found is performs =
    IfOk-weaker result _ _ (λ told says. first_done m h new ep q reset told o0 o1 plugged (sym found) is (says q (sym found))) performs

pub returns-then-request-clause-told : goal.returns-then-request-clause-told
returns-then-request-clause-told g c = IfOk-weaker c.perform_marked.result _ _ (λ _ done. done.0) (performed-first g.G.Gadget.meaning c.args.self.now c.perform_marked.new.self c.args.ep c.in-Some.request.now true c.perform_marked.result c.args.out.now c.perform_marked.new.out c.if-self.false c.in-Some.ensures c.if-request.true c.perform_marked.ensures.ok)

pub returns-then-request-clause-makes : goal.returns-then-request-clause-makes
returns-then-request-clause-makes g c = on_ok_from c.perform_marked.result _ (IfOk-weaker c.perform_marked.result _ _ (λ _ done. done.1) (performed-first g.G.Gadget.meaning c.args.self.now c.perform_marked.new.self c.args.ep c.in-Some.request.now true c.perform_marked.result c.args.out.now c.perform_marked.new.out c.if-self.false c.in-Some.ensures c.if-request.true c.perform_marked.ensures.ok))

pub returns-in_default-clause-told : goal.returns-in_default-clause-told
returns-in_default-clause-told g c = (first_none g.G.Gadget.meaning c.args.self.now c.args.ep c.args.out.now c.if-self.false (sym c.in_default.ensures)).0

pub returns-in_default-clause-makes : goal.returns-in_default-clause-makes
returns-in_default-clause-makes g c = (first_none g.G.Gadget.meaning c.args.self.now c.args.ep c.args.out.now c.if-self.false (sym c.in_default.ensures)).1

pub returns-then-request-clause-wants : goal.returns-then-request-clause-wants
returns-then-request-clause-wants g c =
    let h = c.args.self.now in
    let here = sym c.in-Some.ensures in
    let is = sound-first h c.args.ep c.in-Some.request.now c.requires here in
    on_err_from c.perform_marked.result _ (marked-some g.G.Gadget.meaning g.met.G.Gadget.lawful h c.args.ep c.in-Some.request.now c.if-self.false here c.if-request.true is)

-- ---- without a reset

pub perform-requires : goal.perform-requires
perform-requires g c = (sound-first c.args.self.now c.args.ep c.in-Some.request.now c.requires (sym c.in-Some.ensures)).transfer

pub finish-requires-clause-sound : goal.finish-requires-clause-sound
finish-requires-clause-sound g c = sound-without c.args.self.now c.args.ep _ _ c.requires c.remove_first-request.ensures.rest

pub finish-requires-clause-request : goal.finish-requires-clause-request
finish-requires-clause-request g c = sound-first c.args.self.now c.args.ep c.remove_first-request.result c.requires c.remove_first-request.ensures.request

pub finish-requires-clause-outcome : goal.finish-requires-clause-outcome
finish-requires-clause-outcome g c =
    let h = c.args.self.now in
    let q = c.remove_first-request.result in
    let m = g.G.Gadget.meaning in
    let read = some_same (find (is_at c.args.ep) h.queue) c.in-Some.request.now q (sym c.in-Some.ensures) c.remove_first-request.ensures.request in
    let is = sound-first h c.args.ep q c.requires c.remove_first-request.ensures.request in
    outcome_is m g.met.G.Gadget.lawful h.gadget q.transfer c.in-Some-2.outcome is.transfer
    (sym c.in-Some-2.is ∙ c.in_ok-outcome.ensures.outcome ∙ ap (λ (r : Request). given_in (m.perform h.gadget r.transfer)) read)

-- the one that was lent is the one that is taken out, behind what came of it
performed-own : {S : Type 0} (m : Meaning S) (h new : Host S) (ep : ℕ) (q own : Request) (t : EpTable) (r : Option Route) (s : S) (answer : Option Outcome) (o : Outcome) (left : List Request) (o0 o1 : List ℕ) → h.unplugged ≡ false
    → find (is_at ep) h.queue ≡ Some q → q.reset ≡ false → find (is_at ep) h.queue ≡ Some own → left ≡ without_first (is_at ep) h.queue
    → answer ≡ given_in (m.perform h.gadget q.transfer) → answer ≡ Some o → s ≡ state_in h.gadget (m.perform h.gadget q.transfer) → t ≡ m.table h.gadget → r ≡ change_of own.form
    → Tells (done_by m t (record h { gadget = s; queue = left }) own r o) new o0 o1 → (Done own.id ≡ told_performed m h ep) × Tells (perform_move m h ep) new o0 o1
performed-own {S = S} m h new ep q own t r s answer o left o0 o1 plugged lent mark found rest came some after table change made =
    let read = some_same (find (is_at ep) h.queue) q own lent found in
    let done = performed_is h.gadget s (m.perform h.gadget own.transfer) o
    (sym some ∙ came ∙ ap (λ (x : Request). given_in (m.perform h.gadget x.transfer)) read)
    (after ∙ ap (λ (x : Request). state_in h.gadget (m.perform h.gadget x.transfer)) read) in
    first_done m h new ep own false (Done own.id) o0 o1 plugged found (sym (ap (λ (x : Request). x.reset) read) ∙ mark)
    (performs_done m h new own (without_first (is_at ep) h.queue) t r s o o0 o1 done table change
    (subst (λ (ys : List Request). Tells (done_by m t (record h { gadget = s; queue = ys }) own r o) new o0 o1) rest made))

-- the device isn't ready for it
not-performed : {S : Type 0} (m : Meaning S) (h : Host S) (ep : ℕ) (q : Request) (s : S) (answer : Option Outcome) (o0 : List ℕ) → h.unplugged ≡ false → find (is_at ep) h.queue ≡ Some q → q.reset ≡ false
    → answer ≡ given_in (m.perform h.gadget q.transfer) → answer ≡ None → s ≡ state_in h.gadget (m.perform h.gadget q.transfer)
    → (NotReady ≡ told_performed m h ep) × Tells (perform_move m h ep) (record h { gadget = s }) o0 o0
not-performed {S = S} m h ep q s answer o0 plugged found mark came nothing after =
    let none = not_ready h.gadget s (m.perform h.gadget q.transfer) (sym nothing ∙ came) after in
    let left : Host S = record h { gadget = s } in
    first_done m h left ep q false NotReady o0 o0 plugged found mark (performs_none m h left q (without_first (is_at ep) h.queue) o0 none.0 (λ i. record h { gadget = none.1 i }))

pub returns-in-None-clause-told : goal.returns-in-None-clause-told
returns-in-None-clause-told g c = (not-performed g.G.Gadget.meaning c.args.self.now c.args.ep c.in-Some.request.now c.perform.new.self c.in_ok-outcome.field-0 c.args.out.now c.if-self.false (sym c.in-Some.ensures) c.if-request.false c.in_ok-outcome.ensures.outcome c.in-None.is c.in_ok-outcome.ensures.state).0

pub returns-in-None-clause-makes : goal.returns-in-None-clause-makes
returns-in-None-clause-makes g c = (not-performed g.G.Gadget.meaning c.args.self.now c.args.ep c.in-Some.request.now c.perform.new.self c.in_ok-outcome.field-0 c.args.out.now c.if-self.false (sym c.in-Some.ensures) c.if-request.false c.in_ok-outcome.ensures.outcome c.in-None.is c.in_ok-outcome.ensures.state).1

pub returns-in_ok-finish-in-Some-2-clause-told : goal.returns-in_ok-finish-in-Some-2-clause-told
returns-in_ok-finish-in-Some-2-clause-told g c =
    let own = c.remove_first-request in
    (performed-own g.G.Gadget.meaning c.args.self.now c.finish.new.self c.args.ep c.in-Some.request.now own.result c.table-table.result c.change_of-change.result c.perform.new.self c.in_ok-outcome.field-0 c.in-Some-2.outcome own.new.self c.args.out.now c.finish.new.out c.if-self.false
    (sym c.in-Some.ensures) c.if-request.false own.ensures.request own.ensures.rest c.in_ok-outcome.ensures.outcome c.in-Some-2.is c.in_ok-outcome.ensures.state c.table-table.ensures c.change_of-change.ensures c.in_ok-finish-in-Some-2.ensures.ok).0

pub returns-in_ok-finish-in-Some-2-clause-makes : goal.returns-in_ok-finish-in-Some-2-clause-makes
returns-in_ok-finish-in-Some-2-clause-makes g c =
    let own = c.remove_first-request in
    (performed-own g.G.Gadget.meaning c.args.self.now c.finish.new.self c.args.ep c.in-Some.request.now own.result c.table-table.result c.change_of-change.result c.perform.new.self c.in_ok-outcome.field-0 c.in-Some-2.outcome own.new.self c.args.out.now c.finish.new.out c.if-self.false
    (sym c.in-Some.ensures) c.if-request.false own.ensures.request own.ensures.rest c.in_ok-outcome.ensures.outcome c.in-Some-2.is c.in_ok-outcome.ensures.state c.table-table.ensures c.change_of-change.ensures c.in_ok-finish-in-Some-2.ensures.ok).1
