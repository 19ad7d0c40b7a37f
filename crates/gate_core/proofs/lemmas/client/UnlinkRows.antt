-- What an unlink makes of the rows, where a number is that of one at most.
use Rattle.std.specs.Option.{option_or, option_map}
use Rattle.std.proofs.Common.{◌≡◌, ℕ, zero, suc, ◌≤◌, ◌==◌, ◌&&◌, ◌||◌, Bool, true, false, cond, not, List, [], ◌∷◌, ◌++◌, length, map, set, slice_get, Option, Some, None, refl, sym, ap, subst, ◌∙◌, inl, inr, arith}
use Rattle.std.specs.Prelude.{filter, is_none}
use Rattle.std.specs.List.{find, position, list_any, flat_map}
use Rattle.std.proofs.lemmas.Bool.{cases_Bool, false≢true}
use Rattle.std.proofs.lemmas.List.{append-nil}
use Rattle.redir_wire.specs.declared.packet.Caps.{Caps}
use Rattle.redir_wire.specs.declared.packet.RedirControl.TheVariants as plain
use Rattle.redir_data.specs.declared.packet.RedirPacket.TheVariants.{Plain}
use Rattle.unlink_race.specs.declared.live.Live.{Live}
use Rattle.unlink_race.specs.declared.live.LiveKind.{LiveKind}
use Rattle.unlink_race.specs.declared.live.LiveKind.TheVariants as live_kind
use Rattle.unlink_race.specs.Searches.{is_stream, goes_by_id, has_number}
use Rattle.unlink_race.specs.Firsts.{without_first, change_first}
use Rattle.unlink_race.specs.Unlinking.{asked_as, asked_back, unlinked_by}
use Rattle.unlink_race.specs.declared.unlink.AskedBack.{AskedBack}
use Rattle.unlink_race.specs.declared.unlink.AskedBack.TheVariants.{Already, Cancel, Waits, Taken}
use Rattle.unlink_race.proofs.Firsts.{took_first, took_none}
use Rattle.redir_data.specs.Sent.{sent_packet_bytes}
use Rattle.gate_parts.specs.state.Rows.{is_wire_row}
use Rattle.gate_history.proofs.lemmas.Lists.{Each}
use Rattle.gate_history.proofs.lemmas.step.NoCancel.{or_else-none}
use Rattle.usbip_urb.specs.Spelling.{spelling}
use Rattle.usb_base.specs.declared.errno.TheConstants.{ECONNRESET}
use Rattle.gate_history.specs.write.Answers.{ret_unlink}
use Rattle.gate_core.specs.inner.state.Holds.{IsRow}
use Rattle.gate_core.proofs.lemmas.client.AskedRows.{asked_row, is_target_row, is_taken_row, cancel_row, asked_rows, left_as, is_late, taken_count, taken_bytes, asked_bytes}

module _ (caps : Caps) (target by : ℕ) where
  -- it is marked, or taken out
  abbrev pub is_found_row : Live → Bool
  is_found_row l = is_target_row target l || is_taken_row target l

  abbrev pub taken_row_bytes : Live → List ℕ
  taken_row_bytes l = cond (is_taken_row target l) (spelling (ret_unlink by ECONNRESET)) []

  pub record Told (ls : List Live) (told : Option AskedBack) : Type 0 where
    pub rows : left_as target by told ls ≡ asked_rows target by ls
    pub late : list_any is_found_row ls ≡ not (is_late told)
    pub count : taken_count told ≡ length (filter (is_taken_row target) ls)
    pub back : taken_bytes by told ≡ flat_map taken_row_bytes ls
    pub bytes : asked_bytes caps told ≡ flat_map (cancel_row caps target) ls

  -- a row with another number
  record Other (l : Live) : Type 0 where
    same : asked_row target by l ≡ l
    no_target : is_target_row target l ≡ false
    not_taken : is_taken_row target l ≡ false
    silent : cancel_row caps target l ≡ []

  and-false : (b : Bool) → (b && false) ≡ false
  and-false true = refl
  and-false false = refl

  other : (l : Live) → (l.seqnum == target) ≡ false → Other l
  other l e =
      let no : (goes_by_id l && (l.seqnum == target)) ≡ false = ap (λ (b : Bool). goes_by_id l && b) e ∙ and-false (goes_by_id l) in
      let none : is_target_row target l ≡ false = ap (λ (b : Bool). b && is_none l.unlinker) no in
      record {
        same = λ i. record l { unlinker = (ap (λ (b : Bool). option_or l.unlinker (cond b (Some by) None)) no ∙ or_else-none l.unlinker) i };
        no_target = none;
        not_taken = ap (λ (b : Bool). is_stream l.kind && b) e ∙ and-false (is_stream l.kind);
        silent = ap (λ (b : Bool). cond b (sent_packet_bytes caps (l.id, Plain plain.Cancel)) []) (ap (λ (b : Bool). is_wire_row l.kind && b) none ∙ and-false (is_wire_row l.kind));
      }

  -- ahead of the others
  ahead : (l : Live) (ls : List Live) (told : Option AskedBack) → (l.seqnum == target) ≡ false → Told ls told → Told (l ∷ ls) told
  ahead l ls told e rest =
      let o = other l e in
      record {
        rows = row told rest.rows ∙ ap (λ (b : Bool). map (asked_row target by) (cond (not b) (l ∷ filter (λ x. not (is_taken_row target x)) ls) (filter (λ x. not (is_taken_row target x)) ls))) (sym o.not_taken);
        late = (λ i. (o.no_target i || o.not_taken i) || rest.late i);
        count = rest.count ∙ ap (λ (b : Bool). length (cond b (l ∷ filter (is_taken_row target) ls) (filter (is_taken_row target) ls))) (sym o.not_taken);
        back = rest.back ∙ ap (λ (b : Bool). cond b (spelling (ret_unlink by ECONNRESET)) [] ++ flat_map taken_row_bytes ls) (sym o.not_taken);
        bytes = rest.bytes ∙ (λ i. sym o.silent i ++ flat_map (cancel_row caps target) ls);
      }
    where
      row : (t : Option AskedBack) → left_as target by t ls ≡ asked_rows target by ls → left_as target by t (l ∷ ls) ≡ asked_row target by l ∷ asked_rows target by ls
      row None h = λ i. sym (other l e).same i ∷ h i
      row (Some (Already one)) h = λ i. sym (other l e).same i ∷ h i
      row (Some (Cancel id)) h = ap (λ (b : Bool). cond b (unlinked_by by l ∷ ls) (l ∷ change_first (has_number target) (unlinked_by by) ls)) e ∙ (λ i. sym (other l e).same i ∷ h i)
      row (Some Waits) h = ap (λ (b : Bool). cond b (unlinked_by by l ∷ ls) (l ∷ change_first (has_number target) (unlinked_by by) ls)) e ∙ (λ i. sym (other l e).same i ∷ h i)
      row (Some Taken) h = ap (λ (b : Bool). cond b ls (l ∷ without_first (has_number target) ls)) e ∙ (λ i. sym (other l e).same i ∷ h i)

  none-told : (ls : List Live) → length (filter (has_number target) ls) ≤ 0 → Told ls None
  none-told [] h = record { rows = refl; late = refl; count = refl; back = refl; bytes = refl }
  none-told (l ∷ ls) h =
      elim (cases_Bool (l.seqnum == target)) [
        | inl e ↦ let k : length (l ∷ filter (has_number target) ls) ≤ 0 = rw e at h in absurd (omega arith)
        | inr e ↦ ahead l ls None e (none-told ls (rw e at h))
      ]

  -- the row that has it, and none behind it
  first : (l : Live) (ls : List Live) → (l.seqnum == target) ≡ true → (is_stream l.kind ≡ true → l.unlinker ≡ None) → Told ls None → Told (l ∷ ls) (Some (asked_back l))
  first l ls e unasked rest = of l.unlinker l.kind unasked
    where
      of : (by' : Option ℕ) (k : LiveKind) → (is_stream k ≡ true → by' ≡ None) → Told (record l { unlinker = by'; kind = k } ∷ ls) (Some (asked_as by' k l.id))
      of (Some other) (live_kind.Wire ep kind) h = record {
        rows = λ i. record l { unlinker = Some other; kind = live_kind.Wire ep kind } ∷ rest.rows i;
        late = λ i. (and-false (l.seqnum == target) i || false) || rest.late i;
        count = rest.count;
        back = rest.back;
        bytes = λ i. cond (sym (and-false (l.seqnum == target)) i) (sent_packet_bytes caps (l.id, Plain plain.Cancel)) [] ++ rest.bytes i;
      }
      of (Some other) (live_kind.Routed route) h = record {
        rows = λ i. record l { unlinker = Some other; kind = live_kind.Routed route } ∷ rest.rows i;
        late = λ i. (and-false (l.seqnum == target) i || false) || rest.late i;
        count = rest.count;
        back = rest.back;
        bytes = rest.bytes;
      }
      of None (live_kind.Wire ep kind) h = record {
        rows = ap (λ (b : Bool). cond b (unlinked_by by (record l { unlinker = None; kind = live_kind.Wire ep kind }) ∷ ls) (record l { unlinker = None; kind = live_kind.Wire ep kind } ∷ change_first (has_number target) (unlinked_by by) ls)) e
            ∙ (λ i. record l { unlinker = cond (sym e i) (Some by) None; kind = live_kind.Wire ep kind } ∷ rest.rows i);
        late = ap (λ (b : Bool). ((b && true) || false) || list_any is_found_row ls) e;
        count = rest.count;
        back = rest.back;
        bytes = sym (append-nil (sent_packet_bytes caps (l.id, Plain plain.Cancel))) ∙ (λ i. cond (sym e i && true) (sent_packet_bytes caps (l.id, Plain plain.Cancel)) [] ++ rest.bytes i);
      }
      of None (live_kind.Routed route) h = record {
        rows = ap (λ (b : Bool). cond b (unlinked_by by (record l { unlinker = None; kind = live_kind.Routed route }) ∷ ls) (record l { unlinker = None; kind = live_kind.Routed route } ∷ change_first (has_number target) (unlinked_by by) ls)) e
            ∙ (λ i. record l { unlinker = cond (sym e i) (Some by) None; kind = live_kind.Routed route } ∷ rest.rows i);
        late = ap (λ (b : Bool). ((b && true) || false) || list_any is_found_row ls) e;
        count = rest.count;
        back = rest.back;
        bytes = rest.bytes;
      }
      of (Some other) (live_kind.Stream ep interface) h = let never : Some other ≡ None = h refl in absurd (cc)
      of None (live_kind.Stream ep interface) h =
          let x : Live = record l { unlinker = None; kind = live_kind.Stream ep interface } in
          record {
            rows = ap (λ (b : Bool). cond b ls (x ∷ without_first (has_number target) ls)) e ∙ rest.rows
                ∙ ap (λ (b : Bool). map (asked_row target by) (cond (not b) (x ∷ filter (λ y. not (is_taken_row target y)) ls) (filter (λ y. not (is_taken_row target y)) ls))) (sym e);
            late = ap (λ (b : Bool). b || list_any is_found_row ls) e;
            count = ap (λ (n : ℕ). suc n) rest.count ∙ ap (λ (b : Bool). length (cond b (x ∷ filter (is_taken_row target) ls) (filter (is_taken_row target) ls))) (sym e);
            back = sym (append-nil (spelling (ret_unlink by ECONNRESET))) ∙ (λ i. cond (sym e i) (spelling (ret_unlink by ECONNRESET)) [] ++ rest.back i);
            bytes = rest.bytes;
          }

  pub rows-told : (ls : List Live) → length (filter (has_number target) ls) ≤ 1 → Each (IsRow caps) ls → Told ls (option_map asked_back (find (has_number target) ls))
  rows-told [] h rows = record { rows = refl; late = refl; count = refl; back = refl; bytes = refl }
  rows-told (l ∷ ls) h rows =
      elim (cases_Bool (l.seqnum == target)) [
        | inl e ↦
            let k : length (l ∷ filter (has_number target) ls) ≤ 1 = rw e at h in
            subst (λ (b : Bool). Told (l ∷ ls) (option_map asked_back (cond b (Some l) (find (has_number target) ls)))) (sym e) (first l ls e rows.0.unasked (none-told ls (omega arith)))
        | inr e ↦ subst (λ (b : Bool). Told (l ∷ ls) (option_map asked_back (cond b (Some l) (find (has_number target) ls)))) (sym e) (ahead l ls _ e (rows-told ls (rw e at h) rows.1))
      ]

  -- where none has the number
  pub told-nowhere : (ls : List Live) → length (filter (has_number target) ls) ≤ 1 → Each (IsRow caps) ls → position (has_number target) ls ≡ None → Told ls None
  told-nowhere ls few rows is = subst (λ (o : Option Live). Told ls (option_map asked_back o)) (sym (took_none (has_number target) ls is).0) (rows-told ls few rows)

  -- where the one that has it stands at a place
  pub told-there : (ls : List Live) (i : ℕ) (l : Live) (told : AskedBack) → length (filter (has_number target) ls) ≤ 1 → Each (IsRow caps) ls →
      position (has_number target) ls ≡ Some i → slice_get ls i ≡ Some l → asked_back l ≡ told → Told ls (Some told)
  told-there ls i l told few rows is there so =
      subst (λ (o : Option AskedBack). Told ls o) (ap (option_map asked_back) (sym (took_first (has_number target) ls i is).0 ∙ there) ∙ ap (λ (a : AskedBack). Some a) so) (rows-told ls few rows)

-- ---- what becomes of one says of it

-- the id that is cancelled is its own
pub cancelled-id : (u : Option ℕ) (k : LiveKind) (n id : ℕ) → asked_as u k n ≡ Cancel id → n ≡ id
cancelled-id (Some by) k n id is = let never : Already by ≡ Cancel id = is in absurd (cc)
cancelled-id None (live_kind.Wire ep kind) n id is = let same : Cancel n ≡ Cancel id = is in cc
cancelled-id None (live_kind.Routed route) n id is = let never : Waits ≡ Cancel id = is in absurd (cc)
cancelled-id None (live_kind.Stream ep interface) n id is = let never : Taken ≡ Cancel id = is in absurd (cc)

abbrev pub is_marking : AskedBack → Bool
is_marking (Cancel id) = true
is_marking Waits = true
is_marking _ = false

-- what is marked goes by its id
pub marked-by_id : (u : Option ℕ) (k : LiveKind) (n : ℕ) → is_marking (asked_as u k n) ≡ true → not (is_stream k) ≡ true
marked-by_id (Some by) k n h = absurd (false≢true h)
marked-by_id None (live_kind.Wire ep kind) n h = refl
marked-by_id None (live_kind.Routed route) n h = refl
marked-by_id None (live_kind.Stream ep interface) n h = absurd (false≢true h)

-- and is as sound as it was
pub row-marked : (caps : Caps) (by : ℕ) (l : Live) → goes_by_id l ≡ true → IsRow caps l → IsRow caps (unlinked_by by l)
row-marked caps by l by_id r = record {
  fine = record { packets = r.fine.packets; few_bytes = r.fine.few_bytes; read = r.fine.read; id_fits = r.fine.id_fits; lies = r.fine.lies };
  unasked = λ stream. absurd (false≢true (sym (ap not stream) ∙ by_id));
}

-- ---- lists

pub each-set : {X : Type 0} (P : X → Type 0) (xs : List X) (i : ℕ) (x : X) → Each P xs → P x → Each P (set xs i x)
each-set P [] zero x h p = tt
each-set P [] (suc i) x h p = tt
each-set P (y ∷ ys) zero x h p = (p, h.1)
each-set P (y ∷ ys) (suc i) x h p = (h.0, each-set P ys i x h.1 p)
