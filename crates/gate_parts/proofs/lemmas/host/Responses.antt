-- What a row says of an answer is what its submit says of it.
use Rattle.std.proofs.Common.{◌≡◌, ℕ, zero, suc, ◌+◌, ◌<◌, ◌≤◌, ◌&&◌, ◌⊎◌, inl, inr, Bool, true, false, cond, not, eqb, ltb, List, [], ◌∷◌, length, map, take, Option, Some, None, refl, sym, ap, subst, ◌∙◌, arith}
use Rattle.std.specs.Prelude.{is_none, pos}
use Rattle.std.proofs.lemmas.Bool.{eqb-true, ne_eqb, ltb-false, false≢true}
use Rattle.usb_base.specs.declared.side.Side.TheVariants.{Host}
use Rattle.usb_base.specs.declared.reason.Reason.TheVariants.{Mismatch}
use Rattle.usb_base.specs.declared.refusal.Refusal.{Refusal}
use Rattle.usb_base.specs.declared.transfer.Outcome.{Outcome}
use Rattle.usb_base.specs.Status.{status_of, is_success}
use Rattle.usb_base.specs.Endpoint.{is_in_endpoint}
use Rattle.usbip_urb.specs.declared.packet.UrbPacket.{UrbPacket}
use Rattle.usbip_urb.specs.declared.client.ClientPacket.TheVariants.{Urb}
use Rattle.usbip_urb.specs.Sizes.{body_size}
use Rattle.redir_wire.specs.declared.packet.Caps.{Caps}
use Rattle.redir_wire.specs.declared.packet.Way.TheVariants.{ToGuest}
use Rattle.redir_wire.specs.Table.{plain_row}
use Rattle.redir_wire.specs.declared.kind.TheConstants.{FIRST_DATA}
use Rattle.redir_data.specs.Spelling.{data_count}
use Rattle.control_route.specs.declared.route.Route.{Route}
use Rattle.control_route.specs.declared.route.Route.TheVariants as route
use Rattle.unlink_race.specs.declared.live.Live.{Live}
use Rattle.unlink_race.specs.declared.live.LiveKind.{LiveKind}
use Rattle.unlink_race.specs.declared.live.LiveKind.TheVariants as live_kind
use Rattle.unlink_race.specs.declared.ending.Ending.{Ending}
use Rattle.unlink_race.specs.declared.ending.Ending.TheVariants.{Completed, Unlinked, CompletedThenLate}
use Rattle.unlink_race.specs.Endings.{ending_of}
use Rattle.usb_base.specs.Number.{capped}
use Rattle.gate_history.specs.declared.request.Request.{Request}
use Rattle.gate_history.specs.declared.verdict.Pipe.TheVariants.{Control, Bulk, InterruptOut}
use Rattle.gate_history.specs.declared.verdict.Verdict.{Verdict}
use Rattle.gate_history.specs.declared.verdict.Verdict.TheVariants.{Now, Wire, Routed, IsoOut, Stream}
use Rattle.gate_history.specs.step.Marks.{Submission}
use Rattle.gate_history.specs.host.Responses.{Response, Data, Status, route_answer, answer_kind, mismatched, expected_of, mismatch, gets, got, told_outcome}
use Rattle.gate_history.specs.write.Answers.{with_outcome}
use Rattle.gate_history.specs.client.Ends.{answers_by}
use Rattle.gate_history.specs.write.Asked.{IsMoved}
use Rattle.gate_parts.specs.state.Rows.{IsRowOf, kind_of, row_of, row_request, IsRead, IsFine}
use Rattle.gate_parts.specs.host.Responses.{row_answer, row_ep, row_gets, expected_by, IsAnswer, IsCounted}
use Rattle.gate_history.specs.step.Fits.{ResponseFits}
use Rattle.gate_parts.proofs.lemmas.write.Answers.{by_ending, row-answers}
use Rattle.gate_parts.proofs.lemmas.state.Rows.{by-verdict, wire-row}

-- ---- rows

pub row-is : (s : Submission) (by : Option ℕ) (l : Live) → row_of s by ≡ l → IsRowOf s l
row-is s by l e =
    subst (IsRowOf s) e (record { seqnum = refl; is_in = refl; flags = refl; packets = refl; descs = refl; wanted = refl; wire = wire-row s.verdict s.request.transfer.ep })

row-answer : (v : Verdict) (ep : ℕ) → row_answer (kind_of v ep) ≡ answer_kind v
row-answer (Now status) ep = refl
row-answer (Wire Control) ep = refl
row-answer (Wire Bulk) ep = refl
row-answer (Wire InterruptOut) ep = refl
row-answer (Routed r) ep = refl
row-answer (IsoOut r) ep = refl
row-answer (Stream row) ep = refl

pub row-gets : (v : Verdict) (ep : ℕ) → row_gets (kind_of v ep) ≡ gets v
row-gets v ep = by-verdict (λ w. row_gets (kind_of w ep) ≡ gets w) (λ s. refl) (λ p. refl) (λ r. refl) (λ r. refl) (λ r. refl) v

-- ---- what is wrong

route-small : (r : Route) → (plain_row (route_answer r)).number < FIRST_DATA
route-small route.Local = omega arith
route-small (route.SetConfig configuration) = omega arith
route-small route.GetConfig = omega arith
route-small (route.SetAlt interface alt) = omega arith
route-small (route.GetAlt interface) = omega arith
route-small route.Reset = omega arith
route-small route.Plain = omega arith
route-small route.Bad = omega arith

no-route : (kind : ℕ) (r : Route) → FIRST_DATA ≤ kind → eqb kind (plain_row (route_answer r)).number ≡ false
no-route kind r h = let few = route-small r in ne_eqb kind (plain_row (route_answer r)).number (λ e. absurd (omega (arith, few, h, e)))

pub row-mismatch : (place head : ℕ) (s : Submission) (by : Option ℕ) (kind : ℕ) (r : Response) → ResponseFits kind (Some r) → mismatch place head (expected_by (row_of s by)) kind r ≡ mismatch place head (expected_of s) kind r
row-mismatch place head s by kind (Status status value) h =
    ap (λ (n : ℕ). cond (eqb kind n) None (Some (mismatched place n kind))) (row-answer s.verdict s.request.transfer.ep)
row-mismatch place head s by kind (Data endpoint length_place o) h = of s.verdict
  where
    of : (v : Verdict) → mismatch place head (expected_by (row_of (record s { verdict = v }) by)) kind (Data endpoint length_place o) ≡ mismatch place head (expected_of (record s { verdict = v })) kind (Data endpoint length_place o)
    of (Now status) = refl
    of (Wire Control) = refl
    of (Wire Bulk) = refl
    of (Wire InterruptOut) = refl
    of (Routed r) =
        ap (λ (b : Bool). cond (not b) (Some (mismatched place (plain_row (route_answer r)).number kind))
        (cond (not (eqb endpoint 0)) (Some (mismatched (place + head) 0 endpoint))
        (cond (ltb s.request.transfer.wanted o.done) (Some (mismatched (place + head + length_place) s.request.transfer.wanted o.done)) None))) (no-route kind r h.0)
        ∙ sym (ap (λ (b : Bool). cond (not b) (Some (mismatched place (plain_row (route_answer r)).number kind))
        (cond (not (eqb endpoint s.request.transfer.ep)) (Some (mismatched (place + head) s.request.transfer.ep endpoint))
        (cond (ltb s.request.transfer.wanted o.done) (Some (mismatched (place + head + length_place) s.request.transfer.wanted o.done)) None))) (no-route kind r h.0))
    of (IsoOut r) = refl
    of (Stream row) = refl

-- a place past the greatest number is that number
capped-more : (at more : ℕ) → capped (capped at + more) ≡ capped (at + more)
capped-more at more = omega arith

pub mismatch-capped : (at head : ℕ) (s : Submission) (kind : ℕ) (r : Response) → mismatch (capped at) head (expected_of s) kind r ≡ mismatch at head (expected_of s) kind r
mismatch-capped at head s kind (Status status value) =
    ap (λ (p : ℕ). cond (eqb kind (answer_kind s.verdict)) None (Some (record { side = Host; place = p; reason = Mismatch; kept = Some (answer_kind s.verdict, kind) }))) (let e : capped (capped at) ≡ capped at = omega arith in e)
mismatch-capped at head s kind (Data endpoint length_place o) =
    let e : capped (capped at) ≡ capped at = omega arith in
    let f = capped-more at head in
    let g : capped (capped at + head + length_place) ≡ capped (at + head + length_place) = omega arith in
    λ i. cond (not (eqb kind (answer_kind s.verdict))) (Some (record { side = Host; place = e i; reason = Mismatch; kept = Some (answer_kind s.verdict, kind) }))
    (cond (not (eqb endpoint s.request.transfer.ep)) (Some (record { side = Host; place = f i; reason = Mismatch; kept = Some (s.request.transfer.ep, endpoint) }))
    (cond (ltb s.request.transfer.wanted o.done) (Some (record { side = Host; place = g i; reason = Mismatch; kept = Some (s.request.transfer.wanted, o.done) })) None))

-- ---- an answer of which nothing is wrong

record ArePassed (a b c : Bool) : Type 0 where
  kind : a ≡ true
  endpoint : b ≡ true
  length_is : c ≡ false

passed : (a b c : Bool) (x y z : Refusal) → cond (not a) (Some x) (cond (not b) (Some y) (cond c (Some z) None)) ≡ None → ArePassed a b c
passed true true false x y z e = record { kind = refl; endpoint = refl; length_is = refl }
passed true true true x y z e = absurd (false≢true (ap is_none e))
passed true false c x y z e = absurd (false≢true (ap is_none e))
passed false b c x y z e = absurd (false≢true (ap is_none e))

-- no data are moved, or those from the device as the submit says
moved : (is_in : Bool) (endpoint wanted done count : ℕ) → done ≤ wanted → count ≡ data_count ToGuest endpoint done → (wanted ≡ 0) ⊎ (is_in_endpoint endpoint ≡ is_in) → count ≡ body_size is_in done
moved is_in endpoint wanted done count few e (inr h) = e ∙ ap (λ (b : Bool). cond b done 0) h
moved is_in endpoint wanted done count few e (inl h) =
    let none : done ≡ 0 = omega (arith, few, h) in
    e ∙ ap (λ (n : ℕ). cond (is_in_endpoint endpoint) n 0) none ∙ neither (is_in_endpoint endpoint) is_in ∙ sym (ap (λ (n : ℕ). cond is_in n 0) none)
  where
    neither : (a b : Bool) → ◌≡◌ {A = ℕ} (cond a 0 0) (cond b 0 0)
    neither true true = refl
    neither true false = refl
    neither false true = refl
    neither false false = refl

pub is-answer : (caps : Caps) (place head : ℕ) (l : Live) (kind : ℕ) (r : Response) → IsFine caps l → ResponseFits kind (Some r) → mismatch place head (expected_by l) kind r ≡ None → IsAnswer l r
is-answer caps place head l kind (Status status value) f h e = tt
is-answer caps place head l kind (Data endpoint length_place o) f h e = of l.kind (eqb-true kind (row_answer l.kind) ok.kind) (eqb-true endpoint (row_ep l.kind) ok.endpoint) f.read
  where
    ok : ArePassed (eqb kind (row_answer l.kind)) (eqb endpoint (row_ep l.kind)) (ltb l.wanted o.done)
    ok = passed _ _ _ _ _ _ e

    few : o.done ≤ l.wanted
    few = ltb-false l.wanted o.done ok.length_is

    of : (k : LiveKind) → kind ≡ row_answer k → endpoint ≡ row_ep k → (l.wanted ≡ 0) ⊎ IsRead l.is_in k → IsMoved l.is_in o
    of (live_kind.Wire ep k) is at read = record {
      few_bytes = omega (arith, few, f.few_bytes);
      body = moved l.is_in endpoint l.wanted o.done (length o.body) few h.1 (subst (λ (n : ℕ). (l.wanted ≡ 0) ⊎ (is_in_endpoint n ≡ l.is_in)) (sym at) read);
    }
    of (live_kind.Routed r) is at read = let small = route-small r in absurd (omega (arith, small, is, h.0))
    of (live_kind.Stream ep interface) is at read = absurd (omega (arith, is, h.0))

-- ---- what came of the transfer

-- a verdict that asks for a value, and one that doesn't
abbrev pub getting : Bool → Verdict
getting true = Routed route.GetConfig
getting false = Now (pos 0)

pub getting-is : (b : Bool) → gets (getting b) ≡ b
getting-is true = refl
getting-is false = refl

none-moved : (is_in : Bool) (status : ℕ) → IsMoved is_in (got (status_of status) [])
none-moved true status = record { few_bytes = omega arith; body = refl }
none-moved false status = record { few_bytes = omega arith; body = refl }

take-none : (n : ℕ) → take {A = ℕ} n [] ≡ []
take-none zero = refl
take-none (suc n) = refl

one-moved : (status value wanted : ℕ) → IsMoved true (got (status_of status) (take wanted (value ∷ [])))
one-moved status value zero = record { few_bytes = omega arith; body = refl }
one-moved status value (suc n) = subst (λ (rest : List ℕ). IsMoved true (got (status_of status) (value ∷ rest))) (sym (take-none n)) (record { few_bytes = omega arith; body = refl })

-- a value is told only where the client reads
value-moved : (is_in : Bool) (k : LiveKind) (status value wanted : ℕ) → row_gets k ≡ true → (wanted ≡ 0) ⊎ IsRead is_in k → IsMoved is_in (got (status_of status) (take wanted (value ∷ [])))
value-moved is_in k status value wanted e (inl h) = subst (λ (n : ℕ). IsMoved is_in (got (status_of status) (take n (value ∷ [])))) (sym h) (none-moved is_in status)
value-moved is_in (live_kind.Wire ep k) status value wanted e (inr h) = absurd (false≢true e)
value-moved is_in (live_kind.Routed r) status value wanted e (inr h) = subst (λ (b : Bool). IsMoved b (got (status_of status) (take wanted (value ∷ [])))) (sym (h e)) (one-moved status value wanted)
value-moved is_in (live_kind.Stream ep interface) status value wanted e (inr h) = absurd (false≢true e)

both-right : (a b : Bool) → (a && b) ≡ true → b ≡ true
both-right true b e = e
both-right false b e = absurd (false≢true e)

pub seen-moved : (l : Live) (v : Verdict) (r : Response) → gets v ≡ row_gets l.kind → (l.wanted ≡ 0) ⊎ IsRead l.is_in l.kind → IsAnswer l r → IsMoved l.is_in (told_outcome (row_request l) v r)
seen-moved l v (Data endpoint length_place o) e read answer = answer
seen-moved l v (Status status value) e read answer = of (is_success (status_of status) && gets v) refl
  where
    of : (b : Bool) → (is_success (status_of status) && gets v) ≡ b → IsMoved l.is_in (got (status_of status) (cond b (take l.wanted (value ∷ [])) []))
    of true is = value-moved l.is_in l.kind status value l.wanted (sym e ∙ both-right (is_success (status_of status)) (gets v) is) read
    of false is = none-moved l.is_in status

-- ---- what is counted

ending-counted : (r : Request) (o : Outcome) (e : Ending) → IsCounted (map Urb (by_ending (with_outcome r o) e)) e
ending-counted r o Completed = record { answered = refl; unlinked = refl }
ending-counted r o (Unlinked by) = record { answered = refl; unlinked = refl }
ending-counted r o (CompletedThenLate by) = record { answered = refl; unlinked = refl }

pub answers-counted : (s : Submission) (l : Live) (o : Outcome) → IsRowOf s l → IsCounted (map Urb (answers_by s o l.unlinker)) (ending_of l.unlinker l.kind o.status)
answers-counted s l o row =
    subst (λ (ps : List UrbPacket). IsCounted (map Urb ps) (ending_of l.unlinker l.kind o.status)) (row-answers s l o (ending_of l.unlinker l.kind o.status) row refl)
    (ending-counted (row_request l) o (ending_of l.unlinker l.kind o.status))
