-- The table of endpoints that is told is the device's, row for row.
use Rattle.std.proofs.Common.{◌≡◌, ℕ, zero, suc, ◌<◌, List, [], ◌∷◌, ◌++◌, length, get_or, refl, sym, ap, ◌∙◌, arith, length-append, inl, inr, if◌then◌else◌}
use Rattle.std.proofs.lemmas.Bool.{cases_lt}
use Rattle.usb_base.specs.declared.endpoint.EpTable.{EpTable}
use Rattle.usb_base.specs.declared.endpoint.EpRow.{EpRow}
use Rattle.usb_base.specs.declared.endpoint.EpKind.{EpKind}
use Rattle.usb_base.specs.declared.endpoint.EpKind.TheVariants as kind
use Rattle.usb_base.specs.Endpoint.{row_of, no_endpoint, kind_of_byte, byte_of_kind, endpoint_index}
use Rattle.redir_wire.specs.declared.packet.EpInfo.{EpInfo}
use Rattle.redir_wire.specs.EpTable.{ep_row, ep_rows, table_of}
use Rattle.redir_wire.specs.declared.packet.TheConstants.Caps.{MAX_PACKET_SIZE}
use Rattle.redir_wire.specs.Capability.{has}
use Rattle.redir_host.specs.device.Facts.{column, ep_info_of}
use Rattle.direct_run.specs.Packets.{both_caps}

get-last : {X : Type 0} (xs : List X) (y : X) (d : X) → get_or (xs ++ y ∷ []) (length xs) d ≡ y
get-last [] y d = refl
get-last (x ∷ xs) y d = get-last xs y d

get-front : {X : Type 0} (xs ys : List X) (k : ℕ) (d : X) → k < length xs → get_or (xs ++ ys) k d ≡ get_or xs k d
get-front [] ys k d h = absurd (omega (arith, h))
get-front (x ∷ xs) ys zero d h = refl
get-front (x ∷ xs) ys (suc k) d h = get-front xs ys k d (omega (arith, h))

-- a list that grows at its end
get-next : {X : Type 0} (xs : List X) (y : X) (n k : ℕ) (d : X) (g : ℕ → X) → length xs ≡ n → y ≡ g n → k < suc n → (k < n → get_or xs k d ≡ g k) → get_or (xs ++ y ∷ []) k d ≡ g k
get-next {X = X} xs y n k d g long is h rest = elim (cases_lt k n) [
  | inl less ↦ get-front xs (y ∷ []) k d (omega (arith, less, long)) ∙ rest less
  | inr more ↦ (let same : k ≡ n = omega (arith, h, more) in ap (λ (i : ℕ). get_or (xs ++ y ∷ []) i d) (same ∙ sym long) ∙ get-last xs y d ∙ is ∙ ap g (sym same))
]

column-long : (f : EpRow → ℕ) (t : EpTable) (n : ℕ) → length (column f t n) ≡ n
unfolding column
column-long f t zero = refl
column-long f t (suc n) = let r = column-long f t n in length-append (column f t n) (f (get_or t.rows n no_endpoint) ∷ []) ∙ omega (arith, r)

column-cell : (f : EpRow → ℕ) (t : EpTable) (n k d : ℕ) → k < n → get_or (column f t n) k d ≡ f (get_or t.rows k no_endpoint)
unfolding column
column-cell f t zero k d h = absurd (omega (arith, h))
column-cell f t (suc n) k d h = get-next (column f t n) (f (get_or t.rows n no_endpoint)) n k d (λ i. f (get_or t.rows i no_endpoint)) (column-long f t n) refl h (column-cell f t n k d)

pub rows-long : (e : EpInfo) (n : ℕ) → length (ep_rows e n) ≡ n
unfolding ep_rows
rows-long e zero = refl
rows-long e (suc n) = let r = rows-long e n in length-append (ep_rows e n) (ep_row e n ∷ []) ∙ omega (arith, r)

rows-cell : (e : EpInfo) (n k : ℕ) (d : EpRow) → k < n → get_or (ep_rows e n) k d ≡ ep_row e k
unfolding ep_rows
rows-cell e zero k d h = absurd (omega (arith, h))
rows-cell e (suc n) k d h = get-next (ep_rows e n) (ep_row e n) n k d (ep_row e) (rows-long e n) refl h (rows-cell e n k d)

same-kind : (k : EpKind) → kind_of_byte (byte_of_kind k) ≡ k
same-kind kind.Control = refl
same-kind _ = refl

pub row-told : (t : EpTable) (ep : ℕ) → endpoint_index ep < 32 → row_of (table_of (ep_info_of both_caps t)) ep ≡ row_of t ep
row-told t ep h =
    rows-cell (ep_info_of both_caps t) 32 k no_endpoint h
    ∙ (λ i. record {
      kind = (ap kind_of_byte (column-cell (λ r. byte_of_kind r.kind) t 32 k 0 h) ∙ same-kind (row_of t ep).kind) i;
      interval = column-cell (λ r. r.interval) t 32 k 0 h i;
      interface = column-cell (λ r. r.interface) t 32 k 0 h i;
      max_packet = column-cell (λ r. if has both_caps MAX_PACKET_SIZE then r.max_packet else 0) t 32 k 0 h i;
    })
  where
    k : ℕ
    k = endpoint_index ep
