-- The loop that answers the requests which a stream's packets fill: what is so far, and one row more.
use Rattle.std.proofs.Common.{◌≡◌, ◌≤◌, ◌+◌, ℕ, suc, Bool, true, cond, List, [], ◌∷◌, ◌++◌, length, map, drop, Option, Some, None, refl, sym, ap, ◌∙◌, subst, arith, inl, inr}
use Rattle.std.specs.Prelude.{◌<◌, IsSome, IsTrue}
use Rattle.std.specs.Option.{option_map}
use Rattle.std.proofs.lemmas.List.{drop-drop, length-drop}
use Rattle.std.proofs.lemmas.Option.{none-some, same_Some}
use Rattle.usb_base.specs.declared.limits.TheConstants.{MAX_TRANSFER}
use Rattle.usb_base.specs.declared.transfer.StreamPacket.{StreamPacket}
use Rattle.usbip_urb.specs.Buffers.{laid}
use Rattle.usbip_urb.specs.Spelling.{spelling}
use Rattle.usbip_urb.specs.declared.packet.IsoDesc.{IsoDesc}
use Rattle.stream_buffers.specs.Cuts.{Cut}
use Rattle.stream_buffers.specs.Interrupt.{interrupt_cut}
use Rattle.stream_buffers.specs.Iso.{iso_outcome, iso_cut}
use Rattle.std.proofs.lemmas.Bool.{lt-ltb, cases_Bool, false≢true}
use Rattle.std.specs.List.{AllByRecursion}
use Rattle.std.proofs.Math.Seq.{drop-length}
use Rattle.usb_base.specs.Lists.{is_empty}
use Rattle.unlink_race.specs.declared.live.Live.{Live}
use Rattle.unlink_race.specs.declared.live.LiveKind.{LiveKind}
use Rattle.unlink_race.specs.declared.live.LiveKind.TheVariants as live_kind
use Rattle.unlink_race.specs.Searches.{waits_for, waits_at, is_stream}
use Rattle.gate_history.specs.declared.note.Note.TheVariants as note
use Rattle.gate_parts.specs.declared.host.fill.Filled.{Filled}
use Rattle.redir_wire.specs.declared.packet.Caps.{Caps}
use Rattle.gate_history.specs.write.Answers.{with_given}
use Rattle.gate_history.specs.write.Asked.{HasItsPackets}
use Rattle.gate_history.specs.declared.request.Request.{Request}
use Rattle.gate_history.specs.host.Fillings.{Given, Transferred, Isochronous, Fill, cut_as, cut_of, none_filled, filled_by, fill}
use Rattle.gate_parts.specs.state.Rows.{row_request, IsFine}
use Rattle.gate_parts.specs.host.Fill.{row_cut, cut_bytes, HasTaken, rows_fill, bytes_by, filled_bytes, filled_notes, waiting_rows}
use Rattle.gate_parts.specs.declared.write.outputs.Outputs.{Outputs}
use Rattle.gate_parts.specs.write.Outputs.{with_answers}
use Rattle.gate_parts.proofs.lemmas.write.Outputs.{with-none, with-both}

-- ---- the rows that wait

-- what packets of a stream may fill
pub record CanFill (l : Live) : Type 0 where
  pub packets : HasItsPackets l.packets l.descs
  pub few_bytes : l.wanted ≤ MAX_TRANSFER
  pub lies : IsTrue (laid l.descs l.wanted)

-- a row that waits is one of a stream's
waits-stream : (ep : ℕ) (kind : LiveKind) → waits_at ep kind ≡ true → is_stream kind ≡ true
waits-stream ep (live_kind.Wire at kind) h = absurd (false≢true h)
waits-stream ep (live_kind.Routed route) h = absurd (false≢true h)
waits-stream ep (live_kind.Stream at interface) h = refl

pub all-waiting : (caps : Caps) (ep : ℕ) (ls : List Live) → AllByRecursion (IsFine caps) ls → AllByRecursion CanFill (waiting_rows ep ls)
all-waiting caps ep [] h = tt
all-waiting caps ep (l ∷ ls) h =
    elim (cases_Bool (waits_for ep l)) [
      | inl waits ↦ rw waits (record { packets = h.0.packets; few_bytes = h.0.few_bytes; lies = h.0.lies (waits-stream ep l.kind waits) }, all-waiting caps ep ls h.1)
      | inr other ↦ rw other (all-waiting caps ep ls h.1)
    ]

-- ---- what is so far

-- so many requests were filled with so many packets, which was sent and told; the packets that are left fill of these
-- rows what is missing of it all
pub record SoFar (max_packet : ℕ) (held : List StreamPacket) (all : Fill) (out_all : Outputs) (rows : List Live) (f : Filled) (out : Outputs) : Type 0 where
  pub few : f.packets ≤ length held
  pub requests : f.requests + length (rows_fill max_packet rows (drop f.packets held)).fillings ≡ length all.fillings
  pub left : (rows_fill max_packet rows (drop f.packets held)).left ≡ all.left
  pub gives : with_answers out (filled_bytes max_packet rows (drop f.packets held)) (filled_notes (rows_fill max_packet rows (drop f.packets held))) ≡ out_all

-- before the first row
pub at-first : {max_packet : ℕ} {held : List StreamPacket} {out : Outputs} (all rows : List Live) → rows ≡ all →
    SoFar max_packet held (rows_fill max_packet all held) (with_answers out (filled_bytes max_packet all held) (filled_notes (rows_fill max_packet all held))) rows (record { requests = 0; packets = 0 }) out
at-first {max_packet = max_packet} {held = held} {out = out} all rows is =
    subst (λ (ls : List Live). SoFar max_packet held (rows_fill max_packet all held) (with_answers out (filled_bytes max_packet all held) (filled_notes (rows_fill max_packet all held))) ls (record { requests = 0; packets = 0 }) out) (sym is)
    (record { few = omega arith; requests = omega arith; left = refl; gives = refl })

-- all was filled
pub record AllFilled (held : List StreamPacket) (all : Fill) (out_all : Outputs) (f : Filled) (out : Outputs) : Type 0 where
  pub few : f.packets ≤ length held
  pub requests : f.requests ≡ length all.fillings
  pub left : drop f.packets held ≡ all.left
  pub gives : out ≡ out_all

-- the packets that are left fill nothing more
all-filled : {max_packet : ℕ} {held : List StreamPacket} {all : Fill} {out_all : Outputs} {rows : List Live} {f : Filled} {out : Outputs} → SoFar max_packet held all out_all rows f out →
    rows_fill max_packet rows (drop f.packets held) ≡ none_filled (drop f.packets held) → filled_bytes max_packet rows (drop f.packets held) ≡ [] → AllFilled held all out_all f out
all-filled {f = f} {out = out} s fill-is bytes-is = record {
  few = s.few;
  requests = sym (plus-zero f.requests) ∙ ap (λ (x : Fill). f.requests + length x.fillings) (sym fill-is) ∙ s.requests;
  left = ap (λ (x : Fill). x.left) (sym fill-is) ∙ s.left;
  gives = sym (with-none out) ∙ (λ i. with_answers out (sym bytes-is i) (filled_notes (sym fill-is i))) ∙ s.gives;
}
  where
    plus-zero : (n : ℕ) → n + 0 ≡ n
    plus-zero n = omega arith

-- no row is left
pub none-left : {max_packet : ℕ} {held : List StreamPacket} {all : Fill} {out_all : Outputs} {rows : List Live} {f : Filled} {out : Outputs} → SoFar max_packet held all out_all rows f out →
    rows ≡ [] → AllFilled held all out_all f out
none-left {max_packet = max_packet} {held = held} {f = f} s e =
    all-filled s (ap (λ (ls : List Live). rows_fill max_packet ls (drop f.packets held)) e) (ap (λ (ls : List Live). filled_bytes max_packet ls (drop f.packets held)) e)

-- no packet is left
pub nothing-cut : (max_packet : ℕ) (r : Request) → cut_of max_packet r [] ≡ None
nothing-cut max_packet r = by-descs r.descs
  where
    by-descs : (descs : List IsoDesc) → cond (is_empty descs) (option_map (cut_as Transferred) (interrupt_cut max_packet r.transfer.wanted [])) (option_map (cut_as Isochronous) (iso_cut descs [])) ≡ None
    by-descs [] = refl
    by-descs (d ∷ ds) =
        ap (λ (b : Bool). option_map (cut_as Isochronous) (cond b None (Some (record { gives = iso_outcome (d ∷ ds) []; leaves = drop (length (d ∷ ds)) [] })))) (lt-ltb 0 (suc (length ds)) (omega arith))

nothing-filled : (max_packet : ℕ) (rows : List Live) → rows_fill max_packet rows [] ≡ none_filled []
nothing-filled max_packet [] = refl
nothing-filled max_packet (l ∷ ls) = ap (λ cut. filled_by l.seqnum [] cut (fill max_packet (map row_request ls))) (nothing-cut max_packet (row_request l))

pub nothing-sent : (max_packet : ℕ) (rows : List Live) → filled_bytes max_packet rows [] ≡ []
nothing-sent max_packet [] = refl
nothing-sent max_packet (l ∷ ls) = ap (λ cut. bytes_by l cut (filled_bytes max_packet ls)) (nothing-cut max_packet (row_request l))

pub none-held : {max_packet : ℕ} {held : List StreamPacket} {all : Fill} {out_all : Outputs} {rows : List Live} {f : Filled} {out : Outputs} → SoFar max_packet held all out_all rows f out →
    f.packets ≡ length held → AllFilled held all out_all f out
none-held {max_packet = max_packet} {held = held} {rows = rows} {f = f} s e =
    let gone : drop f.packets held ≡ [] = ap (λ (n : ℕ). drop n held) e ∙ drop-length held in
    all-filled s (ap (rows_fill max_packet rows) gone ∙ nothing-filled max_packet rows ∙ ap (λ (ps : List StreamPacket). none_filled ps) (sym gone)) (ap (filled_bytes max_packet rows) gone ∙ nothing-sent max_packet rows)

-- ---- the next row

-- what a row gets, by its cut
abbrev by-cut : (max_packet : ℕ) (l : Live) (rows : List Live) (packets : List StreamPacket) (cut : Option (Cut Given)) → Fill
by-cut max_packet l rows packets cut = filled_by l.seqnum packets cut (fill max_packet (map row_request rows))

-- it isn't filled, and so none behind it
pub stopped : {max_packet : ℕ} {held : List StreamPacket} {all : Fill} {out_all : Outputs} {rows rest : List Live} {f : Filled} {out : Outputs} → SoFar max_packet held all out_all rows f out →
    (l : Live) → rows ≡ l ∷ rest → row_cut max_packet l (drop f.packets held) ≡ None → AllFilled held all out_all f out
stopped {max_packet = max_packet} {held = held} {rest = rest} {f = f} s l e cut =
    let packets = drop f.packets held in
    all-filled s (ap (λ (ls : List Live). rows_fill max_packet ls packets) e ∙ ap (by-cut max_packet l rest packets) cut)
    (ap (λ (ls : List Live). filled_bytes max_packet ls packets) e ∙ ap (λ c. bytes_by l c (filled_bytes max_packet rest)) cut)

-- it is filled, and so one is
some-by : (max_packet : ℕ) (l : Live) (rest : List Live) (packets : List StreamPacket) (cut : Option (Cut Given)) → IsSome cut → 0 < length (by-cut max_packet l rest packets cut).fillings
some-by max_packet l rest packets None is = absurd (false≢true is)
some-by max_packet l rest packets (Some cut) is = omega arith

pub some-filled : {max_packet : ℕ} {held : List StreamPacket} {all : Fill} {out_all : Outputs} {rows rest : List Live} {f : Filled} {out : Outputs} → SoFar max_packet held all out_all rows f out →
    (l : Live) → rows ≡ l ∷ rest → IsSome (row_cut max_packet l (drop f.packets held)) → 0 < length all.fillings
some-filled {max_packet = max_packet} {held = held} {rest = rest} {f = f} s l e is =
    let packets = drop f.packets held in
    let some = some-by max_packet l rest packets (row_cut max_packet l packets) is in
    let same = ap (λ (ls : List Live). length (rows_fill max_packet ls packets).fillings) e in
    omega (arith, some, same, s.requests)

pub cut-some : (count : ℕ) (packets : List StreamPacket) (cut : Option (Cut Given)) → HasTaken (Some count) packets cut → IsSome cut
cut-some count packets None h = absurd (none-some _ h.1)
cut-some count packets (Some cut) h = refl

-- it is filled with so many packets
taken-as : (max_packet : ℕ) (held : List StreamPacket) (all : Fill) (out_all : Outputs) (l : Live) (rest : List Live) (f : Filled) (count : ℕ) (out : Outputs) (cut : Option (Cut Given)) →
    option_map (λ (c : Cut Given). c.leaves) cut ≡ Some (drop count (drop f.packets held)) →
    f.requests + length (by-cut max_packet l rest (drop f.packets held) cut).fillings ≡ length all.fillings →
    (by-cut max_packet l rest (drop f.packets held) cut).left ≡ all.left →
    with_answers out (bytes_by l cut (filled_bytes max_packet rest)) (filled_notes (by-cut max_packet l rest (drop f.packets held) cut)) ≡ out_all →
    f.packets + count ≤ length held →
    SoFar max_packet held all out_all rest (record { requests = f.requests + 1; packets = f.packets + count }) (with_answers out (cut_bytes l cut) (note.Answered l.seqnum ∷ []))
taken-as max_packet held all out_all l rest f count out None h r lf gv few = absurd (none-some _ h)
taken-as max_packet held all out_all l rest f count out (Some c) h r lf gv few =
    let at = same_Some c.leaves _ h ∙ drop-drop count f.packets held in
    let many = ap (λ (ps : List StreamPacket). length (rows_fill max_packet rest ps).fillings) at in
    record {
      few = few;
      requests = omega (arith, r, many);
      left = ap (λ (ps : List StreamPacket). (rows_fill max_packet rest ps).left) (sym at) ∙ lf;
      gives = with-both out (spelling (with_given (row_request l) c.gives)) _ (note.Answered l.seqnum ∷ []) _
          ∙ ap (λ (ps : List StreamPacket). with_answers out (spelling (with_given (row_request l) c.gives) ++ filled_bytes max_packet rest ps) (note.Answered l.seqnum ∷ filled_notes (rows_fill max_packet rest ps))) (sym at) ∙ gv;
    }

pub taken : {max_packet : ℕ} {held : List StreamPacket} {all : Fill} {out_all : Outputs} {rows rest : List Live} {f : Filled} {out : Outputs} → SoFar max_packet held all out_all rows f out →
    (l : Live) → rows ≡ l ∷ rest → (count : ℕ) → HasTaken (Some count) (drop f.packets held) (row_cut max_packet l (drop f.packets held)) →
    SoFar max_packet held all out_all rest (record { requests = f.requests + 1; packets = f.packets + count }) (with_answers out (cut_bytes l (row_cut max_packet l (drop f.packets held))) (note.Answered l.seqnum ∷ []))
taken {max_packet = max_packet} {held = held} {all = all} {out_all = out_all} {rest = rest} {f = f} {out = out} s l e count h =
    let packets = drop f.packets held in
    let long = length-drop f.packets held in
    taken-as max_packet held all out_all l rest f count out (row_cut max_packet l packets) h.1
    (ap (λ (ls : List Live). f.requests + length (rows_fill max_packet ls packets).fillings) (sym e) ∙ s.requests)
    (ap (λ (ls : List Live). (rows_fill max_packet ls packets).left) (sym e) ∙ s.left)
    (ap (λ (ls : List Live). with_answers out (filled_bytes max_packet ls packets) (filled_notes (rows_fill max_packet ls packets))) (sym e) ∙ s.gives)
    (omega (arith, h.0, long, s.few))

pub moved : {max_packet : ℕ} {held : List StreamPacket} {all : Fill} {out_all : Outputs} {rows : List Live} {f f_new : Filled} {out out_new : Outputs} → SoFar max_packet held all out_all rows f out →
    f_new ≡ f → out_new ≡ out → SoFar max_packet held all out_all rows f_new out_new
moved {max_packet = max_packet} {held = held} {all = all} {out_all = out_all} {rows = rows} {f_new = f_new} {out = out} s f o =
    subst (SoFar max_packet held all out_all rows f_new) (sym o) (subst (λ (x : Filled). SoFar max_packet held all out_all rows x out) (sym f) s)
