-- No endpoint to the device is isochronous in a table of parts of which none is one.
use Rattle.std.proofs.Common.{◌≡◌, ◌≢◌, ℕ, ◌-◌, ◌%◌, ◌<◌, ◌≤◌, Bool, true, false, cond, List, [], ◌∷◌, ◌++◌, length, get_or, set, Option, Some, None, refl, sym, ap, ◌∙◌, subst, arith, inl, inr, get_or-set_same, get_or-set_other}
use Rattle.std.specs.Prelude.{◌==◌, ◌||◌, nat_lt, not}
use Rattle.std.specs.List.{list_all}
use Rattle.std.proofs.lemmas.Bool.{and_parts, and_from, ltb-false, false≢true, cases_eq, cases_lt, cases_Bool, cond_both}
use Rattle.std.proofs.lemmas.List.{get_or-replicate, set_past}
use Rattle.usb_base.specs.Endpoint.{endpoint_index, is_in_endpoint, no_endpoint, no_endpoints, is_iso}
use Rattle.usb_base.specs.declared.endpoint.TheConstants.{ENDPOINTS}
use Rattle.usb_base.specs.declared.endpoint.EpRow.{EpRow}
use Rattle.usb_base.specs.declared.endpoint.EpKind.{EpKind}
use Rattle.usb_base.specs.declared.endpoint.EpKind.TheVariants.{Iso, Invalid}
use Rattle.chapter9.specs.declared.part.Part.{Part}
use Rattle.chapter9.specs.declared.part.Part.TheVariants.{Config, Interface, Endpoint, Other}
use Rattle.chapter9.specs.declared.state.DevState.{DevState}
use Rattle.chapter9.specs.State.{is_configured}
use Rattle.chapter9.specs.Table.{EndpointRow, control_row, control_rows, endpoints_after, interface_after, endpoint_rows, table_of, with_row, with_rows}
use Rattle.model_device.specs.Function.{is_fine, is_fine_part, no_iso_out}

-- rows of which none below 16 is isochronous
abbrev Fine : List EpRow → Type 0
Fine rows = (i : ℕ) → i < 16 → (get_or rows i no_endpoint).kind ≢ Iso

not_iso : (kind : EpKind) → not (is_iso kind) ≡ true → kind ≢ Iso
not_iso kind h e = false≢true (ap (λ k. not (is_iso k)) (sym e) ∙ h)

or_false : (x y : Bool) → x ≡ false → (x || y) ≡ true → y ≡ true
or_false true y e h = absurd (false≢true (sym e))
or_false false y e h = h

-- an index below 16 is that of an endpoint to the device
to_device : (ep : ℕ) → endpoint_index ep < 16 → is_in_endpoint ep ≡ false
to_device ep h =
    elim (cases_Bool (nat_lt ep 128)) [
      | inl e ↦ ap not e
      | inr e ↦ let far : 128 ≤ ep = ltb-false ep 128 e in
          let at : ep - 112 < 16 = subst (λ b. cond b ep (ep - 112) < 16) e h in
          absurd (omega arith)
    ]

set_fine : (rows : List EpRow) (k : ℕ) (row : EpRow) → (k < 16 → row.kind ≢ Iso) → Fine rows → Fine (set rows k row)
set_fine rows k row f h i lt =
    elim (cases_eq i k) [
      | inl e ↦ elim (cases_lt k (length rows)) [
        | inl within ↦ subst (λ j. (get_or (set rows k row) j no_endpoint).kind ≢ Iso) (sym e) (rw (get_or-set_same rows k row no_endpoint within) (f (omega arith)))
        | inr past ↦ rw (set_past rows k row past) (h i lt)
      ]
      | inr ne ↦ let other : i ≢ k = ne in rw (get_or-set_other rows k i row no_endpoint other) (h i lt)
    ]

with_row_fine : (ep : ℕ) (row : EpRow) (rows : List EpRow) → is_fine ep row.kind ≡ true → Fine rows → Fine (with_row ep row rows)
with_row_fine ep row rows f h =
    cond_both (endpoint_index ep % 16 == 0) rows (set rows (endpoint_index ep) row) Fine (λ e. h)
    (λ e. set_fine rows (endpoint_index ep) row (λ lt. not_iso row.kind (or_false (is_in_endpoint ep) (not (is_iso row.kind)) (to_device ep lt) f)) h)

abbrev is_fine_endpoint : EndpointRow → Bool
is_fine_endpoint p = is_fine p.ep p.row.kind

with_rows_fine : (rows : List EpRow) (ps : List EndpointRow) → list_all is_fine_endpoint ps ≡ true → Fine rows → Fine (with_rows rows ps)
with_rows_fine rows [] f h = h
with_rows_fine rows (p ∷ ps) f h =
    let both = and_parts (is_fine_endpoint p) (list_all is_fine_endpoint ps) f in
    with_rows_fine (with_row p.ep p.row rows) ps both.1 (with_row_fine p.ep p.row rows both.0 h)

endpoint_rows_fine : (before : Option ℕ) (part : Part) (rest : List EndpointRow) → is_fine_part part ≡ true → list_all is_fine_endpoint rest ≡ true → list_all is_fine_endpoint (endpoint_rows part before ++ rest) ≡ true
endpoint_rows_fine before (Config value interfaces) rest f h = h
endpoint_rows_fine before (Interface number alt class subclass protocol) rest f h = h
endpoint_rows_fine (Some number) (Endpoint ep kind max_packet interval) rest f h = and_from (is_fine ep kind) (list_all is_fine_endpoint rest) f h
endpoint_rows_fine None (Endpoint ep kind max_packet interval) rest f h = h
endpoint_rows_fine before (Other kind) rest f h = h

endpoints_fine : (alt : ℕ) (before : Option ℕ) (parts : List Part) → no_iso_out parts ≡ true → list_all is_fine_endpoint (endpoints_after alt before parts) ≡ true
endpoints_fine alt before [] f = refl
endpoints_fine alt before (part ∷ parts) f =
    let both = and_parts (is_fine_part part) (no_iso_out parts) f in
    endpoint_rows_fine before part (endpoints_after alt (interface_after alt before part) parts) both.0 (endpoints_fine alt (interface_after alt before part) parts both.1)

none_fine : Fine no_endpoints.rows
none_fine i lt e = not_iso Invalid refl (sym (ap (λ (r : EpRow). r.kind) (get_or-replicate ENDPOINTS i no_endpoint no_endpoint (omega arith))) ∙ e)

control_fine : Fine control_rows
control_fine = set_fine (set no_endpoints.rows (endpoint_index 0) control_row) (endpoint_index 128) control_row (λ lt e. cc) (set_fine no_endpoints.rows (endpoint_index 0) control_row (λ lt e. cc) none_fine)

pub table_fine : (parts : List Part) (s : DevState) → no_iso_out parts ≡ true → (i : ℕ) → i < 16 → (get_or (table_of parts s).rows i no_endpoint).kind ≢ Iso
table_fine parts s f =
    cond_both (is_configured s) (with_rows control_rows (endpoints_after s.alt None parts)) control_rows Fine (λ e. with_rows_fine control_rows (endpoints_after s.alt None parts) (endpoints_fine s.alt None parts f) control_fine) (λ e. control_fine)
