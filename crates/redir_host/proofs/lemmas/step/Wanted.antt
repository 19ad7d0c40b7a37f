-- Where a request is performed something is sent; so an act that ends for want of memory had something to send.
use Rattle.std.proofs.Common.{◌≡◌, ℕ, ◌<◌, Bool, true, false, cond, List, [], ◌∷◌, ◌++◌, Some, None, length, if◌then◌else◌, refl, sym, ap, subst, ◌∙◌, arith, inr, length-append, append-nil}
use Rattle.std.specs.Prelude.{Option, option_map, Result, Ok, Err, OnOk, OnErr, IsSome, IfSome}
use Rattle.std.specs.List.{find}
use Rattle.std.proofs.lemmas.Result.{on_err_weaker}
use Rattle.usb_base.specs.Endpoint.{is_control}
use Rattle.usb_base.specs.Status.{is_success}
use Rattle.usb_base.specs.declared.endpoint.EpTable.{EpTable}
use Rattle.usb_base.specs.declared.transfer.Outcome.{Outcome}
use Rattle.control_route.specs.declared.route.Route.{Route}
use Rattle.control_route.specs.declared.route.Route.TheVariants as route
use Rattle.model_device.specs.Gadget.{IsGadget}
use Rattle.model_device.specs.Meaning.{Meaning}
use Rattle.redir_host.specs.declared.state.host.Host.{Host}
use Rattle.redir_host.specs.declared.state.request.Form.{Form}
use Rattle.redir_host.specs.declared.state.request.Form.TheVariants as form
use Rattle.redir_host.specs.declared.state.request.Request.{Request}
use Rattle.redir_host.specs.device.Changes.{change_of, changed}
use Rattle.redir_host.specs.device.Performing.{does, done_by, first_performed, perform_move, perform_move_by, performed, performs, performs_any, performs_marked, resets, with_id}
use Rattle.redir_host.specs.guest.Asking.{routed}
use Rattle.usb_base.specs.Firsts.{without_first}
use Rattle.redir_host.specs.state.Queues.{is_at}
use Rattle.redir_host.specs.state.Sound.{IsGuestRequest}
use Rattle.redir_host.specs.step.Acts.{Act}
use Rattle.redir_host.specs.step.History.{brought}
use Rattle.redir_host.specs.step.Items.{Item}
use Rattle.redir_host.specs.step.Machine.{move}
use Rattle.redir_host.specs.step.Moves.{Move, behind}
use Rattle.redir_host.specs.step.Stands.{StopsInAct}
use Rattle.redir_host.specs.step.Wants.{GivesSome}
use Rattle.redir_host.specs.write.Answers.{answer}
use Rattle.redir_host.specs.write.Output.{host_of}
use Rattle.redir_host.proofs.lemmas.step.Makes.{reset_transfer}
use Rattle.redir_wire.specs.declared.state.RedirState.{RedirState}

-- ---- what is performed is answered

abbrev Sends : {S : Type 0} → Option (Move S) → Type 0
Sends o = IfSome o (λ v. 0 < length v.sent)

behind-some : {A : Type 0} (xs ys : List A) → 0 < length ys → 0 < length (xs ++ ys)
behind-some xs ys some = omega (arith, some, length-append xs ys)

done-sends : {S : Type 0} (m : Meaning S) (table : EpTable) (h : Host S) (q : Request) (r : Option Route) (o : Outcome) → 0 < length (done_by m table h q r o).sent
done-sends m table h q None o = omega arith
done-sends m table h q (Some r) o = behind-some (changed m r table (is_success o.status) h).sent (answer (m.configuration h.gadget) q o ∷ []) (omega arith)

does-sends : {S : Type 0} (m : Meaning S) (h : Host S) (q : Request) (r : Option Route) (o : Option (S × Outcome)) → Sends (does m h q r o)
does-sends m h q r None = tt
does-sends {S = S} m h q r (Some done) = let after : Host S = record h { gadget = done.0 } in done-sends m (m.table h.gadget) after q r done.1

performs-sends : {S : Type 0} (m : Meaning S) (h : Host S) (q : Request) → Sends (performs m h q)
performs-sends m h q = does-sends m h q (change_of q.form) (m.perform h.gadget q.transfer)

follows-sends : {S : Type 0} (v : Move S) (o : Option (Move S)) → Sends o → Sends (option_map (behind v) o)
follows-sends v None sends = tt
follows-sends v (Some w) sends = behind-some v.sent w.sent sends

-- the device is reset and changed
abbrev reset_move : {S : Type 0} → Meaning S → Host S → S × Outcome → Move S
reset_move m h done = changed m route.Reset (m.table h.gadget) (is_success done.1.status) (record h { gadget = done.0 })

resets-sends : {S : Type 0} (m : Meaning S) (h : Host S) (q : Request) (o : Option (S × Outcome)) → Sends (resets m h q o)
resets-sends m h q None = tt
resets-sends m h q (Some done) = follows-sends (reset_move m h done) (performs m (reset_move m h done).host q) (performs-sends m (reset_move m h done).host q)

marked-sends : {S : Type 0} (m : Meaning S) (h : Host S) (q : Request) (f : Form) → Sends (performs_marked m h q f)
marked-sends m h q form.GetConfiguration = does-sends m h q (Some route.Reset) (m.perform h.gadget (routed route.Reset))
marked-sends m h q (form.Control setup) = resets-sends m h q (m.perform h.gadget (routed route.Reset))
marked-sends m h q (form.Bulk stream) = resets-sends m h q (m.perform h.gadget (routed route.Reset))
marked-sends m h q form.Interrupt = resets-sends m h q (m.perform h.gadget (routed route.Reset))
marked-sends m h q (form.SetConfiguration configuration) = resets-sends m h q (m.perform h.gadget (routed route.Reset))
marked-sends m h q (form.SetAlt interface alt) = resets-sends m h q (m.perform h.gadget (routed route.Reset))
marked-sends m h q (form.GetAlt interface) = resets-sends m h q (m.perform h.gadget (routed route.Reset))

any-sends : {S : Type 0} (m : Meaning S) (h : Host S) (q : Request) (b : Bool) → Sends (cond b (performs_marked m h q q.form) (performs m h q))
any-sends m h q true = marked-sends m h q q.form
any-sends m h q false = performs-sends m h q

abbrev Answers : {S : Type 0} → Option (ℕ × Move S) → Type 0
Answers o = IfSome o (λ r. 0 < length r.1.sent)

named-answers : {S : Type 0} (q : Request) (o : Option (Move S)) → Sends o → Answers (with_id q o)
named-answers q None sends = tt
named-answers q (Some v) sends = sends

first-answers : {S : Type 0} (m : Meaning S) (h : Host S) (ep : ℕ) (o : Option Request) → Answers (first_performed m h ep o)
first-answers m h ep None = tt
first-answers {S = S} m h ep (Some q) = let rest : Host S = record h { queue = without_first (is_at ep) h.queue } in named-answers q (performs_any m rest q) (any-sends m rest q q.reset)

performed-answers : {S : Type 0} (m : Meaning S) (h : Host S) (ep : ℕ) (b : Bool) → Answers (cond b None (first_performed m h ep (find (is_at ep) h.queue)))
performed-answers m h ep true = tt
performed-answers m h ep false = first-answers m h ep (find (is_at ep) h.queue)

answers-give : {S : Type 0} (h : Host S) (o : Option (ℕ × Move S)) → Answers o → IsSome o → GivesSome h (perform_move_by h o)
answers-give h None answers some = absurd cc
answers-give h (Some r) answers some = omega (arith, answers)

pub performed-gives : {S : Type 0} (m : Meaning S) (h : Host S) (ep : ℕ) → IsSome (performed m h ep) → GivesSome h (perform_move m h ep)
performed-gives m h ep some = answers-give h (performed m h ep) (performed-answers m h ep h.unplugged) some

-- ---- what is ready is performed

some-does : {S : Type 0} (m : Meaning S) (h : Host S) (q : Request) (r : Option Route) (o : Option (S × Outcome)) → IsSome o → IsSome (does m h q r o)
some-does m h q r None some = absurd cc
some-does m h q r (Some done) some = refl

some-behind : {S : Type 0} (v : Move S) (o : Option (Move S)) → IsSome o → IsSome (option_map (behind v) o)
some-behind v None some = absurd cc
some-behind v (Some w) some = refl

some-named : {S : Type 0} (q : Request) (o : Option (Move S)) → IsSome o → IsSome (with_id q o)
some-named q None some = absurd cc
some-named q (Some v) some = refl

some-performs : {S : Type 0} (m : Meaning S) (h : Host S) (q : Request) → IsSome (m.perform h.gadget q.transfer) → IsSome (performs m h q)
some-performs m h q some = some-does m h q (change_of q.form) (m.perform h.gadget q.transfer) some

-- a marked request is one of endpoint 0, for which the device is always ready
some-resets : {S : Type 0} (m : Meaning S) → IsGadget m → (h : Host S) (q : Request) (guest : RedirState) → IsGuestRequest guest q → is_control q.transfer.ep ≡ true → (o : Option (S × Outcome)) → IsSome o → IsSome (resets m h q o)
some-resets m lawful h q guest is control None some = absurd cc
some-resets m lawful h q guest is control (Some done) some =
    let after = (reset_move m h done).host in
    some-behind (reset_move m h done) (performs m after q) (some-performs m after q (lawful.ready after.gadget q.transfer is.transfer control))

some-marked : {S : Type 0} (m : Meaning S) → IsGadget m → (h : Host S) (q : Request) (guest : RedirState) → IsGuestRequest guest q → is_control q.transfer.ep ≡ true → (f : Form) → IsSome (performs_marked m h q f)
some-marked {S = S} m lawful h q guest is control f = by f
  where
    reset : IsSome (m.perform h.gadget (routed route.Reset))
    reset = lawful.ready h.gadget (routed route.Reset) reset_transfer refl

    all : IsSome (resets m h q (m.perform h.gadget (routed route.Reset)))
    all = some-resets m lawful h q guest is control (m.perform h.gadget (routed route.Reset)) reset

    by : (f : Form) → IsSome (performs_marked m h q f)
    by form.GetConfiguration = some-does m h q (Some route.Reset) (m.perform h.gadget (routed route.Reset)) reset
    by (form.Control setup) = all
    by (form.Bulk stream) = all
    by form.Interrupt = all
    by (form.SetConfiguration configuration) = all
    by (form.SetAlt interface alt) = all
    by (form.GetAlt interface) = all

-- the first of an endpoint's queue
found-is : {S : Type 0} (m : Meaning S) (h : Host S) (ep : ℕ) (q : Request) → h.unplugged ≡ false → find (is_at ep) h.queue ≡ Some q
    → with_id q (performs_any m (record h { queue = without_first (is_at ep) h.queue }) q) ≡ performed m h ep
found-is m h ep q plugged found =
    ap (first_performed m h ep) (sym found)
    ∙ ap (λ (b : Bool). if b then None else first_performed m h ep (find (is_at ep) h.queue)) (sym plugged)

found-some : {S : Type 0} (m : Meaning S) (h : Host S) (ep : ℕ) (q : Request) (b : Bool) → h.unplugged ≡ false → find (is_at ep) h.queue ≡ Some q → q.reset ≡ b
    → IsSome (cond b (performs_marked m (record h { queue = without_first (is_at ep) h.queue }) q q.form) (performs m (record h { queue = without_first (is_at ep) h.queue }) q)) → IsSome (performed m h ep)
found-some {S = S} m h ep q b plugged found mark some =
    let rest : Host S = record h { queue = without_first (is_at ep) h.queue } in
    let Says : Option (ℕ × Move S) → Type 0 = λ o. IsSome o in
    subst Says (found-is m h ep q plugged found)
    (some-named q (performs_any m rest q) (subst (λ (x : Bool). IsSome (cond x (performs_marked m rest q q.form) (performs m rest q))) (sym mark) some))

pub marked-some : {S : Type 0} (m : Meaning S) → IsGadget m → (h : Host S) (ep : ℕ) (q : Request) → h.unplugged ≡ false → find (is_at ep) h.queue ≡ Some q → q.reset ≡ true → IsGuestRequest h.guest q → IsSome (performed m h ep)
marked-some {S = S} m lawful h ep q plugged found mark is =
    let rest : Host S = record h { queue = without_first (is_at ep) h.queue } in
    found-some m h ep q true plugged found mark (some-marked m lawful rest q h.guest is (is.marked mark) q.form)

-- ---- an act of one item

pub on_err_from : {T E : Type 0} (r : Result T E) (P : Type 0) → P → OnErr r P
on_err_from (Ok v) P h = tt
on_err_from (Err e) P h = h

pub on_err_both : {T E P Q R : Type 0} (r : Result T E) → (P → Q → R) → OnErr r P → OnErr r Q → OnErr r R
on_err_both (Ok v) f p q = tt
on_err_both (Err e) f p q = f p q

-- of a result that is handed on
pub on_err_given : {T E P Q : Type 0} (r given : Result T E) → r ≡ given → (P → Q) → OnErr given P → OnErr r Q
on_err_given {T = T} {E = E} {Q = Q} r given same f p = subst (λ (x : Result T E). OnErr x Q) (sym same) (on_err_weaker given f p)

pub on_ok_given : {T E P Q R : Type 0} (r given : Result T E) → r ≡ given → (P → Q → R) → OnOk given P → OnOk given Q → OnOk r R
on_ok_given {T = T} {E = E} {P = P} {Q = Q} {R = R} r given same f p q = subst (λ (x : Result T E). OnOk x R) (sym same) (by given p q)
  where
    by : (x : Result T E) → OnOk x P → OnOk x Q → OnOk x R
    by (Ok v) p q = f p q
    by (Err e) p q = tt

pub stops-one : {S : Type 0} (m : Meaning S) (s : S) (acts : List Act) (a : Act) (x : Item) (h : Host S) (old_out new_out : List ℕ) → brought acts a ≡ x ∷ [] → h ≡ host_of m s acts → GivesSome h (move m h x) → new_out ≡ old_out
    → StopsInAct m s acts a old_out new_out
stops-one {S = S} m s acts a x h old_out new_out is host gives same =
    let Says : Host S → Type 0 = λ g. GivesSome g (move m g x) in
    record {
      taken = [];
      later = x ∷ [];
      parts = is;
      sent = same ∙ sym (append-nil old_out);
      wanted = inr (inr (subst Says host gives));
    }
