-- Both machines say the same of a submit: with no change live the gateway knows the device's endpoints, and with one it
-- needn't.
use Rattle.std.proofs.Common.{◌≡◌, ℕ, ◌≤◌, ◌<◌, ◌==◌, ◌||◌, nat_le, Bool, true, false, cond, List, [], ◌∷◌, ◌++◌, map, filter, length, Option, Some, None, is_some, refl, sym, ap, ◌∙◌, subst, arith, append-nil, true≢false}
use Rattle.std.specs.List.{list_any, count_by, AllByRecursion as Each}
use Rattle.std.proofs.lemmas.List.{length-map}
use Rattle.std.proofs.lemmas.Bool.{or_left}
use Rattle.usbip_urb.specs.declared.code.TheConstants.{MAX_LIVE}
use Rattle.usb_base.specs.declared.setup.Setup.{Setup}
use Rattle.usb_base.specs.declared.endpoint.EpTable.{EpTable}
use Rattle.usb_base.specs.Endpoint.{row_of, endpoint_index}
use Rattle.redir_wire.specs.EpTable.{table_of}
use Rattle.redir_data.specs.declared.stream_kind.StreamKind.TheVariants.{Iso, Interrupt}
use Rattle.model_device.specs.Meaning.{Meaning}
use Rattle.redir_host.specs.device.Facts.{ep_info_of}
use Rattle.usb_base.specs.declared.endpoint.EpRow.{EpRow}
use Rattle.gate_history.specs.declared.verdict.Situation.{Situation}
use Rattle.gate_history.specs.declared.request.Request.{Request}
use Rattle.gate_history.specs.declared.verdict.Verdict.{Verdict}
use Rattle.gate_history.specs.declared.verdict.Verdict.TheVariants.{Now}
use Rattle.gate_history.specs.client.Verdict.{verdict, by_transfer, by_endpoint, changes, goes_by_id}
use Rattle.usb_base.specs.declared.errno.TheConstants.{EBUSY, ESHUTDOWN, ENOENT}
use Rattle.gate_history.specs.step.Marks.{Submission}
use Rattle.gate_history.specs.client.Submits.{Pending}
use Rattle.gate_history.specs.state.Ups.{stream_at}
use Rattle.gate_history.specs.state.Flight.{wide_bulk}
use Rattle.gate_history.specs.state.State.{submits, change_waits}
use Rattle.gate_history.specs.step.Meaning.{verdict_of, by_stream, fact_of, situation}
use Rattle.gate_history.proofs.lemmas.Lists.{both, list_any-map, Each-filter}
use Rattle.gate_history.specs.declared.facts.Facts.{Facts}
use Rattle.gate_history.specs.state.Facts.{tell}
use Rattle.direct_run.specs.declared.submitted.Submitted.{Submitted}
use Rattle.direct_run.specs.Moves.{World}
use Rattle.direct_run.specs.Packets.{both_caps}
use Rattle.direct_device.specs.Direct.{Load, Live, number}
use Rattle.direct_device.specs.Acting.{made_of}
use Rattle.direct_proof.proofs.shared.Sending.{answer-tells}
use Rattle.direct_proof.specs.Requests.{Entry, Coming, Debt, debts_of, live_of}
use Rattle.direct_proof.specs.Shared.{Shared, view}
use Rattle.direct_proof.specs.Tagged.{Tagged, Greeted, Plugged, ToldTable, ToldFaces, Answered, Packed, Stated, Bye, on_wire, told, runs_in}
use Rattle.direct_proof.specs.Related.{Related}
use Rattle.direct_proof.specs.Ids.{Ids, Agrees}
use Rattle.direct_proof.specs.Cancels.{any_change, is_change}
use Rattle.direct_proof.specs.Stale.{Clean, ends, is_stale}
use Rattle.direct_proof.specs.Session.{down_in}
use Rattle.direct_proof.specs.Meets.{is_plug, is_announced}
use Rattle.direct_proof.specs.StreamIds.{Fenced}
use Rattle.direct_proof.proofs.lists.Counts.{single, any-none, Each-found, itself}
use Rattle.direct_proof.proofs.shared.Backs.{silent}
use Rattle.direct_proof.proofs.submits.Tables.{row-told}

abbrev pair : ℕ → ℕ → ℕ → ℕ → Bool
pair id n i k = both (i == id) (k == n)

pair-itself : (id n : ℕ) → pair id n id n ≡ true
pair-itself id n = ap (λ (b : Bool). both b (n == n)) (itself id) ∙ itself n

-- ---- what holds of each debt holds of what is under way

of-debt : (P : Load → Type 0) (ds : List Debt) (id : ℕ) (l : Load) → count_by (λ (d : Debt). d.id == id) ds ≤ 1 → 1 ≤ count_by (λ (d : Debt). pair id (number l) d.id (number d.load)) ds → Each (λ (d : Debt). Agrees d id l) ds → Each (λ (d : Debt). P d.load) ds → P l
of-debt P ds id l one some agree holds =
    let s = single (λ (d : Debt). d.id == id) (λ (d : Debt). number d.load == number l) ds one some in
    let only : Each (λ (d : Debt). Agrees d id l) (s.0 ∷ []) = subst (Each (λ (d : Debt). Agrees d id l)) s.1 (Each-filter (λ (d : Debt). Agrees d id l) (λ (d : Debt). d.id == id) ds agree) in
    let has : Each (λ (d : Debt). P d.load) (s.0 ∷ []) = subst (Each (λ (d : Debt). P d.load)) s.1 (Each-filter (λ (d : Debt). P d.load) (λ (d : Debt). d.id == id) ds holds) in
    subst P (only.0 s.2) has.0

owed-each : {X : Type 0} (id_of : X → ℕ) (load_of : X → Load) (P : Load → Type 0) (ds : List Debt) (xs : List X) → ((i : ℕ) → count_by (λ (d : Debt). d.id == i) ds ≤ 1) → ((i n : ℕ) → count_by (λ (x : X). pair i n (id_of x) (number (load_of x))) xs ≤ count_by (λ (d : Debt). pair i n d.id (number d.load)) ds) →
    Each (λ (x : X). Each (λ (d : Debt). Agrees d (id_of x) (load_of x)) ds) xs → Each (λ (d : Debt). P d.load) ds → Each (λ (x : X). P (load_of x)) xs
owed-each {X = X} id_of load_of P ds xs one owed agree holds = go xs agree (Each-found (λ (x y : X). pair (id_of x) (number (load_of x)) (id_of y) (number (load_of y))) (λ x. pair-itself (id_of x) (number (load_of x))) xs)
  where
    go : (ys : List X) → Each (λ (x : X). Each (λ (d : Debt). Agrees d (id_of x) (load_of x)) ds) ys → Each (λ (x : X). 1 ≤ count_by (λ (y : X). pair (id_of x) (number (load_of x)) (id_of y) (number (load_of y))) xs) ys → Each (λ (x : X). P (load_of x)) ys
    go [] a c = tt
    go (x ∷ ys) a c = (of-debt P ds (id_of x) (load_of x) (one (id_of x)) (let b = owed (id_of x) (number (load_of x)) in let z = c.0 in omega (arith, b, z)) a.0 holds, go ys a.1 c.1)

pub owed-entries : (P : Load → Type 0) (ds : List Debt) (names : List Submitted) (es : List Entry) (ran : List Coming) → Ids ds names es ran → Each (λ (d : Debt). P d.load) ds → Each (λ (e : Entry). P e.load) es
owed-entries P ds names es ran ids = owed-each (λ (e : Entry). e.id) (λ (e : Entry). e.load) P ds es ids.one_id (λ i n. omega (arith, ids.balance (pair i n))) ids.entries_agree

pub owed-ran : (P : Load → Type 0) (ds : List Debt) (names : List Submitted) (es : List Entry) (ran : List Coming) → Ids ds names es ran → Each (λ (d : Debt). P d.load) ds → Each (λ (c : Coming). P c.load) ran
owed-ran P ds names es ran ids = owed-each (λ (c : Coming). c.id) (λ (c : Coming). c.load) P ds ran ids.one_id (λ i n. omega (arith, ids.balance (pair i n))) ids.ran_agrees

-- ---- no change is live

-- that of the present client's submits, where none is left of a former
abbrev pub IsPlain : Load → Type 0
IsPlain l = changes l.verdict ≡ false

pub plain-debts : (ss : List Submission) → list_any (λ (s : Submission). changes s.verdict) ss ≡ false → Each (λ (d : Debt). IsPlain d.load) (debts_of ss)
plain-debts ss h = mapped (filter (λ (s : Submission). goes_by_id s.verdict) ss) (Each-filter (λ (s : Submission). changes s.verdict ≡ false) (λ (s : Submission). goes_by_id s.verdict) ss (any-none (λ (s : Submission). changes s.verdict) ss h))
  where
    mapped : (xs : List Submission) → Each (λ (s : Submission). changes s.verdict ≡ false) xs → Each (λ (d : Debt). IsPlain d.load) (map (λ (s : Submission). record { id = s.id; load = record { request = s.request; verdict = s.verdict } }) xs)
    mapped [] k = tt
    mapped (x ∷ xs) k = (k.0, mapped xs k.1)

module _ {S : Type 0} (m : Meaning S) (w : World S) (j : Shared) (rel : Related m w j) (inside : w.gate.sides.imported ≡ true) (there : w.gate.sides.lost ≡ false) where
  pub live-debts : debts_of (submits w.gate) ≡ j.debts
  live-debts = sym (append-nil (debts_of (submits w.gate))) ∙ ap (λ (l : List Submission). debts_of (submits w.gate) ++ debts_of l) (sym (rel.alone inside).0) ∙ rel.debts there

  pub calm-debts : change_waits w.gate ≡ false → Each (λ (d : Debt). IsPlain d.load) j.debts
  calm-debts h = subst (Each (λ (d : Debt). IsPlain d.load)) live-debts (plain-debts (submits w.gate) h)

  pub calm-entries : change_waits w.gate ≡ false → Each (λ (e : Entry). is_change e ≡ false) (j.held ++ j.coming)
  calm-entries h = owed-entries IsPlain j.debts w.submits (j.held ++ j.coming) (runs_in j.back) rel.ids (calm-debts h)

  none-changes : (es : List Entry) → Each (λ (e : Entry). is_change e ≡ false) es → any_change es ≡ false
  none-changes [] h = refl
  none-changes (e ∷ es) h = λ i. h.0 i || none-changes es h.1 i

  connected : is_some w.gate.facts.connect ≡ true
  connected = rel.meets.no_session inside there

  pub announced : is_announced w j ≡ true
  announced = or_left (is_some w.gate.facts.connect) (list_any is_plug j.back) connected

  none-ends : (bs : List Tagged) → Each (λ (c : Coming). IsPlain c.load) (runs_in bs) → list_any is_plug bs ≡ false → list_any (ends None) bs ≡ false
  none-ends [] h k = refl
  none-ends (Answered c ∷ bs) h k = λ i. h.0 i || none-ends bs h.1 k i
  none-ends (Greeted ∷ bs) h k = none-ends bs h k
  none-ends (Plugged c ∷ bs) h k = absurd (true≢false k)
  none-ends (ToldTable t ∷ bs) h k = none-ends bs h k
  none-ends (ToldFaces f ∷ bs) h k = none-ends bs h k
  none-ends (Packed kind ep p ∷ bs) h k = none-ends bs h k
  none-ends (Stated kind id ep status ∷ bs) h k = none-ends bs h k
  none-ends (Bye ∷ bs) h k = none-ends bs h k

  -- nothing that is stale is under way
  pub nothing-stale : change_waits w.gate ≡ false → Each (λ (b : Tagged). is_stale (down_in w.gate.streams) b ≡ false) j.back
  nothing-stale h = silent None (down_in w.gate.streams) j.back
      (subst (λ (o : Option ℕ). Clean o (down_in w.gate.streams) false j.back) (rel.alone inside).1 (subst (λ (b : Bool). Clean w.gate.fence (down_in w.gate.streams) b j.back) pending (rel.session there announced).clean))
      (none-ends j.back (owed-ran IsPlain j.debts w.submits (j.held ++ j.coming) (runs_in j.back) rel.ids (calm-debts h)) (rel.meets.behind connected).1)
    where
      unfenced : (o : Option ℕ) → o ≡ None → Fenced o j.fenced w.to_host j.back → j.fenced ≡ false
      unfenced None e f = f
      unfenced (Some x) e f = absurd (cc)

      pending : (any_change (j.held ++ j.coming) || j.fenced) ≡ false
      pending = λ i. none-changes (j.held ++ j.coming) (calm-entries h) i || unfenced w.gate.fence (rel.alone inside).1 (rel.fenced there) i

  told-none : (f : Facts) (bs : List Tagged) → Each (λ (b : Tagged). is_stale (down_in w.gate.streams) b ≡ false) bs → (told f bs).table ≡ f.table
  told-none f [] h = refl
  told-none f (Answered c ∷ bs) h = told-none (tell f (fact_of (on_wire (Answered c)).1)) bs h.1 ∙ (answer-tells f c).table
  told-none f (Greeted ∷ bs) h = told-none f bs h.1
  told-none f (Plugged c ∷ bs) h = told-none (tell f (fact_of (on_wire (Plugged c)).1)) bs h.1
  told-none f (ToldTable t ∷ bs) h = absurd (true≢false h.0)
  told-none f (ToldFaces i ∷ bs) h = absurd (true≢false h.0)
  told-none f (Packed Iso ep p ∷ bs) h = told-none f bs h.1
  told-none f (Packed Interrupt ep p ∷ bs) h = told-none f bs h.1
  told-none f (Stated Iso id ep status ∷ bs) h = told-none f bs h.1
  told-none f (Stated Interrupt id ep status ∷ bs) h = told-none f bs h.1
  told-none f (Bye ∷ bs) h = told-none f bs h.1

  pub table-known : change_waits w.gate ≡ false → w.gate.facts.table ≡ table_of (ep_info_of both_caps (m.table w.host.gadget))
  table-known h = sym (told-none w.gate.facts j.back (nothing-stale h)) ∙ (rel.session there announced).table

  pub wide : wide_bulk w.gate.sides.agreed ≡ true
  wide = ap wide_bulk (rel.meets.gate (rel.meets.behind connected).0)

  -- ---- the verdict

  pub same-verdict : (r : Request) → endpoint_index r.transfer.ep < 32 → made_of m (view w j) r ≡ by_stream (stream_at w.gate.streams r.transfer.ep) (verdict_of w.gate r)
  same-verdict r address = ap (by_stream (stream_at w.gate.streams r.transfer.ep))
      ((λ i. verdict (record {
        lost = sym (rel.sides.seen inside) i;
        live = length-map w.gate.live live_of i;
        changing = changing i;
        row = row_of (m.table w.host.gadget) r.transfer.ep;
        wide = sym wide i;
      }) r) ∙ by_row)
    where
      changing : list_any (λ (l : Live). changes l.load.verdict) (map live_of w.gate.live) ≡ change_waits w.gate
      changing = list_any-map (λ (l : Live). changes l.load.verdict) live_of w.gate.live ∙ sym (list_any-map (λ (x : Submission). changes x.verdict) (λ (p : Pending). p.submit) w.gate.live)

      by_transfers : (here : Situation) (row : EpRow) (setup : Option Setup) → (here.changing ≡ false → row ≡ here.row) → by_transfer (record here { row = row }) r setup ≡ by_transfer here r setup
      by_transfers here row (Some s) h = refl
      by_transfers here row None h = go here.changing h
        where
          go : (c : Bool) → (c ≡ false → row ≡ here.row) → cond c (Now ENOENT) (by_endpoint (record here { row = row }) r) ≡ cond c (Now ENOENT) (by_endpoint here r)
          go true h = refl
          go false h = λ i. by_endpoint (record here { row = h refl i }) r

      rows : change_waits w.gate ≡ false → row_of (m.table w.host.gadget) r.transfer.ep ≡ row_of w.gate.facts.table r.transfer.ep
      rows h = sym (row-told (m.table w.host.gadget) r.transfer.ep address) ∙ ap (λ (t : EpTable). row_of t r.transfer.ep) (sym (table-known h))

      by_row : verdict (record (situation w.gate r) { row = row_of (m.table w.host.gadget) r.transfer.ep }) r ≡ verdict_of w.gate r
      by_row = ap (λ (v : Verdict). cond w.gate.sides.lost (Now ESHUTDOWN) (cond (nat_le MAX_LIVE (length w.gate.live)) (Now EBUSY) v)) (by_transfers (situation w.gate r) (row_of (m.table w.host.gadget) r.transfer.ep) r.transfer.setup rows)
