-- What a line of requests and resets gives, as the line changes.
use Rattle.std.proofs.Common.{◌≡◌, ℕ, Bool, true, false, cond, not, ◌&&◌, ◌||◌, ◌==◌, List, [], ◌∷◌, ◌++◌, filter, Some, None, refl, sym, ap, ◌∙◌}
use Rattle.std.specs.List.{find, list_any}
use Rattle.std.proofs.lemmas.Bool.{eqb-true, true≢false}
use Rattle.usb_base.specs.declared.endpoint.EpTable.{EpTable}
use Rattle.usb_base.specs.declared.transfer.Transfer.{Transfer}
use Rattle.control_route.specs.Changes.{touches}
use Rattle.control_route.specs.declared.route.Route.{Route}
use Rattle.usb_base.specs.Endpoint.{is_control, row_of}
use Rattle.redir_host.specs.declared.state.request.Form.{Form}
use Rattle.redir_host.specs.declared.state.request.Request.{Request}
use Rattle.redir_host.specs.device.Changes.{is_touched, stays}
use Rattle.redir_host.specs.guest.Line.{Waiting, Reset, Waits, queue_in, reset_in, without_cancelled, without_performed, stays_in}
use Rattle.redir_host.specs.guest.Packets.{request}
use Rattle.usb_base.specs.Firsts.{without_first}
use Rattle.redir_host.specs.state.Queues.{is_at, is_data, is_first_queue, is_cancelled_by, queue_of, with_first_marked, after_cancel, leaves_mark}

-- ---- one more at the end

pub queue-reset : (w : Bool) (l : List Waiting) → queue_in w (l ++ Reset ∷ []) ≡ queue_in w l
queue-reset w [] = refl
queue-reset w (Reset ∷ l) = queue-reset true l
queue-reset w (Waits p id f t ∷ l) = ap (λ qs. request (is_control t.ep && w) id f t ∷ qs) (queue-reset (not (is_control t.ep) && w) l)

pub reset-reset : (w : Bool) (l : List Waiting) → reset_in w (l ++ Reset ∷ []) ≡ true
reset-reset w [] = refl
reset-reset w (Reset ∷ l) = reset-reset true l
reset-reset w (Waits p id f t ∷ l) = reset-reset (not (is_control t.ep) && w) l

pub queue-joined : (w : Bool) (l : List Waiting) (place id : ℕ) (f : Form) (t : Transfer) → queue_in w (l ++ Waits place id f t ∷ []) ≡ queue_in w l ++ request (is_control t.ep && reset_in w l) id f t ∷ []
queue-joined w [] place id f t = refl
queue-joined w (Reset ∷ l) place id f t = queue-joined true l place id f t
queue-joined w (Waits p i g u ∷ l) place id f t = ap (λ qs. request (is_control u.ep && w) i g u ∷ qs) (queue-joined (not (is_control u.ep) && w) l place id f t)

pub reset-joined : (w : Bool) (l : List Waiting) (place id : ℕ) (f : Form) (t : Transfer) → reset_in w (l ++ Waits place id f t ∷ []) ≡ (not (is_control t.ep) && reset_in w l)
reset-joined w [] place id f t = refl
reset-joined w (Reset ∷ l) place id f t = reset-joined true l place id f t
reset-joined w (Waits p i g u ∷ l) place id f t = reset-joined (not (is_control u.ep) && w) l place id f t

-- ---- one that is cancelled

-- by whether it is of endpoint 0, and whether a reset stands before it
marked-first : (w : Bool) (l : List Waiting) → with_first_marked (queue_in w l) ≡ queue_in true l
marked-first w [] = refl
marked-first w (Reset ∷ l) = marked-first true l
marked-first w (Waits p id f t ∷ l) =
    elim (is_control t.ep) as (λ (c : Bool). cond c (request true id f t ∷ queue_in (not c && w) l) (request (c && w) id f t ∷ with_first_marked (queue_in (not c && w) l)) ≡ request (c && true) id f t ∷ queue_in (not c && true) l) [
      | true ↦ refl
      | false ↦ ap (λ qs. request false id f t ∷ qs) (marked-first w l)
    ]

reset-first : (w : Bool) (l : List Waiting) → reset_in true l ≡ (not (list_any is_first_queue (queue_in w l)) || reset_in w l)
reset-first w [] = refl
reset-first w (Reset ∷ l) = reset-first true l
reset-first w (Waits p id f t ∷ l) =
    elim (is_control t.ep) as (λ (c : Bool). reset_in (not c && true) l ≡ (not (c || list_any is_first_queue (queue_in (not c && w) l)) || reset_in (not c && w) l)) [
      | true ↦ refl
      | false ↦ reset-first w l
    ]

cancelled-front : (c w : Bool) (l : List Waiting) → queue_in w l ≡ cond (c && w) (with_first_marked (queue_in (not c && w) l)) (queue_in (not c && w) l)
cancelled-front true true l = sym (marked-first false l)
cancelled-front true false l = refl
cancelled-front false w l = refl

cancelled-mark : (c w : Bool) (l : List Waiting) → reset_in w l ≡ (((c && w) && not (list_any is_first_queue (queue_in (not c && w) l))) || reset_in (not c && w) l)
cancelled-mark true true l = reset-first false l
cancelled-mark true false l = refl
cancelled-mark false w l = refl

pub queue-cancelled : (id : ℕ) (w : Bool) (l : List Waiting) → queue_in w (without_cancelled id l) ≡ after_cancel id (queue_in w l)
queue-cancelled id w [] = refl
queue-cancelled id w (Reset ∷ l) = queue-cancelled id true l
queue-cancelled id w (Waits p i f t ∷ l) =
    let c = is_control t.ep in
    elim (is_data f && (i == id)) as (λ (b : Bool). queue_in w (cond b l (Waits p i f t ∷ without_cancelled id l)) ≡ cond b (cond (c && w) (with_first_marked (queue_in (not c && w) l)) (queue_in (not c && w) l)) (request (c && w) i f t ∷ after_cancel id (queue_in (not c && w) l))) [
      | true ↦ cancelled-front c w l
      | false ↦ ap (λ qs. request (c && w) i f t ∷ qs) (queue-cancelled id (not c && w) l)
    ]

pub reset-cancelled : (id : ℕ) (w : Bool) (l : List Waiting) → reset_in w (without_cancelled id l) ≡ (leaves_mark id (queue_in w l) || reset_in w l)
reset-cancelled id w [] = refl
reset-cancelled id w (Reset ∷ l) = reset-cancelled id true l
reset-cancelled id w (Waits p i f t ∷ l) =
    let c = is_control t.ep in
    elim (is_data f && (i == id)) as (λ (b : Bool). reset_in w (cond b l (Waits p i f t ∷ without_cancelled id l)) ≡ (cond b ((c && w) && not (list_any is_first_queue (queue_in (not c && w) l))) (leaves_mark id (queue_in (not c && w) l)) || reset_in (not c && w) l)) [
      | true ↦ cancelled-mark c w l
      | false ↦ reset-cancelled id (not c && w) l
    ]

-- none is cancelled
pub nothing-cancelled : (id : ℕ) (qs : List Request) → find (is_cancelled_by id) qs ≡ None → (after_cancel id qs ≡ qs) × (leaves_mark id qs ≡ false)
nothing-cancelled id [] none = (refl, refl)
nothing-cancelled id (q ∷ qs) none = by (is_cancelled_by id q) none (nothing-cancelled id qs)
  where
    by : (b : Bool) → cond b (Some q) (find (is_cancelled_by id) qs) ≡ None → (find (is_cancelled_by id) qs ≡ None → (after_cancel id qs ≡ qs) × (leaves_mark id qs ≡ false)) →
        (cond b (cond q.reset (with_first_marked qs) qs) (q ∷ after_cancel id qs) ≡ q ∷ qs) × (cond b (q.reset && not (list_any is_first_queue qs)) (leaves_mark id qs) ≡ false)
    by true e rest = absurd cc
    by false e rest = let r = rest e in (ap (λ xs. q ∷ xs) r.0, r.1)

-- ---- one that is performed

not-zero : (e : ℕ) (b : Bool) → (e == 0) ≡ b → is_control e ≡ false → b ≡ false
not-zero e true zero is = absurd (true≢false (sym (ap is_control (eqb-true e 0 zero)) ∙ is))
not-zero e false zero is = refl

-- the queue of endpoint 0 is that of both its addresses, and of no other
at-control : (e ep : ℕ) → is_control ep ≡ true → (queue_of e == queue_of ep) ≡ is_control e
at-control e ep control =
    ap (λ (b : Bool). queue_of e == cond b 0 ep) control ∙ by (is_control e) refl
  where
    by : (b : Bool) → is_control e ≡ b → (cond b 0 e == 0) ≡ b
    by true is = refl
    by false is = not-zero e (e == 0) refl is

at-other : (e ep : ℕ) → is_control ep ≡ false → (queue_of e == queue_of ep) ≡ true → is_control e ≡ false
at-other e ep other at = by (is_control e) refl
  where
    by : (b : Bool) → is_control e ≡ b → b ≡ false
    by true is =
        let zero : (0 == ep) ≡ true = sym (λ i. cond (is i) 0 e == cond (other i) 0 ep) ∙ at in
        absurd (true≢false (ap is_control (eqb-true 0 ep zero) ∙ other))
    by false is = refl

-- what leaves the line leaves the queue, and the mark of the next reset stays
abbrev Leaves : Bool → Bool → ℕ → List Waiting → Type 0
Leaves v w ep l = (queue_in v (without_performed ep l) ≡ without_first (is_at ep) (queue_in w l)) × (reset_in v (without_performed ep l) ≡ reset_in w l)

control-one : (ep : ℕ) (w : Bool) (p i : ℕ) (f : Form) (t : Transfer) (l : List Waiting) (q : Request) (b : Bool) → is_control t.ep ≡ b → (queue_of t.ep == queue_of ep) ≡ b → find (is_at ep) (queue_in w (Waits p i f t ∷ l)) ≡ Some q →
    (find (is_at ep) (queue_in w l) ≡ Some q → Leaves false w ep l) → Leaves false w ep (Waits p i f t ∷ l)
control-one ep w p i f t l q true e at found rest =
    let c = is_control t.ep in
    let here = Waits p i f t ∷ without_performed ep l in
    let qs = queue_in (not c && w) l in
    let others = request (c && w) i f t ∷ without_first (is_at ep) qs in (
      ap (λ (d : Bool). queue_in false (cond d l here)) at ∙ sym (ap (λ (d : Bool). queue_in (not d && w) l) e) ∙ sym (ap (λ (d : Bool). cond d qs others) at),
      ap (λ (d : Bool). reset_in false (cond d l here)) at ∙ sym (ap (λ (d : Bool). reset_in (not d && w) l) e),
    )
control-one ep w p i f t l q false e at found rest =
    let c = is_control t.ep in
    let wp = without_performed ep l in
    let here = Waits p i f t ∷ wp in
    let qs = queue_in (not c && w) l in
    let others = request (c && w) i f t ∷ without_first (is_at ep) qs in
    let r = rest (sym (λ k. cond (at k) (Some (request (c && w) i f t)) (find (is_at ep) (queue_in (not (e k) && w) l))) ∙ found) in (
      ap (λ (d : Bool). queue_in false (cond d l here)) at
          ∙ (λ k. request (e k && false) i f t ∷ queue_in (not (e k) && false) wp)
          ∙ ap (λ xs. request false i f t ∷ xs) r.0
          ∙ sym (λ k. request (e k && w) i f t ∷ without_first (is_at ep) (queue_in (not (e k) && w) l))
          ∙ sym (ap (λ (d : Bool). cond d qs others) at),
      ap (λ (d : Bool). reset_in false (cond d l here)) at
          ∙ (λ k. reset_in (not (e k) && false) wp)
          ∙ r.1
          ∙ sym (λ k. reset_in (not (e k) && w) l),
    )

control-leaves : (ep : ℕ) (w : Bool) (l : List Waiting) (q : Request) → is_control ep ≡ true → find (is_at ep) (queue_in w l) ≡ Some q → Leaves false w ep l
control-leaves ep w [] q control found = absurd cc
control-leaves ep w (Reset ∷ l) q control found =
    let r = control-leaves ep true l q control found in
    let same : without_performed ep (Reset ∷ l) ≡ without_performed ep l = ap (λ (b : Bool). cond b (without_performed ep l) (Reset ∷ without_performed ep l)) control in
    (ap (queue_in false) same ∙ r.0, ap (reset_in false) same ∙ r.1)
control-leaves ep w (Waits p i f t ∷ l) q control found =
    control-one ep w p i f t l q (is_control t.ep) refl (at-control t.ep ep control) found (λ here. control-leaves ep w l q control here)

other-one : (ep : ℕ) (w : Bool) (p i : ℕ) (f : Form) (t : Transfer) (l : List Waiting) (b : Bool) → (queue_of t.ep == queue_of ep) ≡ b → (b ≡ true → is_control t.ep ≡ false) → ((v : Bool) → Leaves v v ep l) → Leaves w w ep (Waits p i f t ∷ l)
other-one ep w p i f t l true at other rest =
    let c = is_control t.ep in
    let here = Waits p i f t ∷ without_performed ep l in
    let qs = queue_in (not c && w) l in
    let others = request (c && w) i f t ∷ without_first (is_at ep) qs in
    let e = other refl in (
      ap (λ (d : Bool). queue_in w (cond d l here)) at ∙ sym (ap (λ (d : Bool). queue_in (not d && w) l) e) ∙ sym (ap (λ (d : Bool). cond d qs others) at),
      ap (λ (d : Bool). reset_in w (cond d l here)) at ∙ sym (ap (λ (d : Bool). reset_in (not d && w) l) e),
    )
other-one ep w p i f t l false at other rest =
    let c = is_control t.ep in
    let here = Waits p i f t ∷ without_performed ep l in
    let qs = queue_in (not c && w) l in
    let others = request (c && w) i f t ∷ without_first (is_at ep) qs in
    let r = rest (not c && w) in (
      ap (λ (d : Bool). queue_in w (cond d l here)) at ∙ ap (λ xs. request (c && w) i f t ∷ xs) r.0 ∙ sym (ap (λ (d : Bool). cond d qs others) at),
      ap (λ (d : Bool). reset_in w (cond d l here)) at ∙ r.1,
    )

other-leaves : (ep : ℕ) (l : List Waiting) → is_control ep ≡ false → (w : Bool) → Leaves w w ep l
other-leaves ep [] other w = (refl, refl)
other-leaves ep (Reset ∷ l) other w =
    let r = other-leaves ep l other true in
    let same : without_performed ep (Reset ∷ l) ≡ Reset ∷ without_performed ep l = ap (λ (b : Bool). cond b (without_performed ep l) (Reset ∷ without_performed ep l)) other in
    (ap (queue_in w) same ∙ r.0, ap (reset_in w) same ∙ r.1)
other-leaves ep (Waits p i f t ∷ l) other w =
    other-one ep w p i f t l (queue_of t.ep == queue_of ep) refl (at-other t.ep ep other) (other-leaves ep l other)

-- the first of its queue leaves, and all others stand as they are
pub performed-leaves : (ep : ℕ) (l : List Waiting) (q : Request) → find (is_at ep) (queue_in false l) ≡ Some q → Leaves false false ep l
performed-leaves ep l q found = by (is_control ep) refl
  where
    by : (b : Bool) → is_control ep ≡ b → Leaves false false ep l
    by true control = control-leaves ep false l q control found
    by false other = other-leaves ep l other false

-- ---- those that a change flushes

not-touched : (r : Route) (table : EpTable) (ep : ℕ) → not (is_touched r table ep) ≡ false → is_control ep ≡ false
not-touched r table ep is = by (is_control ep) is
  where
    by : (b : Bool) → not (not b && touches r (row_of table ep).interface) ≡ false → b ≡ false
    by true e = absurd cc
    by false e = refl

flush-one : (r : Route) (table : EpTable) (w : Bool) (p i : ℕ) (f : Form) (t : Transfer) (l : List Waiting) (b : Bool) → not (is_touched r table t.ep) ≡ b →
    ((v : Bool) → (queue_in v (filter (stays_in r table) l) ≡ filter (stays r table) (queue_in v l)) × (reset_in v (filter (stays_in r table) l) ≡ reset_in v l)) →
    (queue_in w (filter (stays_in r table) (Waits p i f t ∷ l)) ≡ filter (stays r table) (queue_in w (Waits p i f t ∷ l))) × (reset_in w (filter (stays_in r table) (Waits p i f t ∷ l)) ≡ reset_in w (Waits p i f t ∷ l))
flush-one r table w p i f t l true at rest =
    let c = is_control t.ep in
    let left = filter (stays_in r table) l in
    let qs = filter (stays r table) (queue_in (not c && w) l) in
    let k = rest (not c && w) in (
      ap (λ (d : Bool). queue_in w (cond d (Waits p i f t ∷ left) left)) at ∙ ap (λ xs. request (c && w) i f t ∷ xs) k.0 ∙ sym (ap (λ (d : Bool). cond d (request (c && w) i f t ∷ qs) qs) at),
      ap (λ (d : Bool). reset_in w (cond d (Waits p i f t ∷ left) left)) at ∙ k.1,
    )
flush-one r table w p i f t l false at rest =
    let c = is_control t.ep in
    let left = filter (stays_in r table) l in
    let qs = filter (stays r table) (queue_in (not c && w) l) in
    let e = not-touched r table t.ep at in
    let k = rest w in (
      ap (λ (d : Bool). queue_in w (cond d (Waits p i f t ∷ left) left)) at ∙ k.0 ∙ sym (ap (λ (d : Bool). filter (stays r table) (queue_in (not d && w) l)) e) ∙ sym (ap (λ (d : Bool). cond d (request (c && w) i f t ∷ qs) qs) at),
      ap (λ (d : Bool). reset_in w (cond d (Waits p i f t ∷ left) left)) at ∙ k.1 ∙ sym (ap (λ (d : Bool). reset_in (not d && w) l) e),
    )

pub flush-stays : (r : Route) (table : EpTable) (l : List Waiting) (w : Bool) → (queue_in w (filter (stays_in r table) l) ≡ filter (stays r table) (queue_in w l)) × (reset_in w (filter (stays_in r table) l) ≡ reset_in w l)
flush-stays r table [] w = (refl, refl)
flush-stays r table (Reset ∷ l) w = flush-stays r table l true
flush-stays r table (Waits p i f t ∷ l) w = flush-one r table w p i f t l (not (is_touched r table t.ep)) refl (flush-stays r table l)
