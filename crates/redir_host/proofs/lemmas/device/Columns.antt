-- A column of a table of endpoints, cell by cell.
use Rattle.std.proofs.Common.{◌≡◌, ℕ, Bool, true, false, if◌then◌else◌, zero, suc, ◌<◌, ◌≤◌, ◌^◌, List, [], ◌∷◌, ◌++◌, length, take, get_or, refl, sym, ap, ◌∙◌, arith, add-one}
use Rattle.std.proofs.lemmas.List.{take_all, take_more}
use Rattle.usb_base.specs.Endpoint.{no_endpoint}
use Rattle.usb_base.specs.declared.endpoint.EpRow.{EpRow}
use Rattle.usb_base.specs.declared.endpoint.EpTable.{EpTable}
use Rattle.std.specs.Int.{w16}
use Rattle.redir_wire.specs.Words.{AreNumbers}
use Rattle.redir_host.specs.device.Facts.{column}

-- its first n cells
front_column : (f : EpRow → ℕ) (t : EpTable) (cells : List ℕ) (n : ℕ) → ((i : ℕ) → i < n → get_or cells i 0 ≡ f (get_or t.rows i no_endpoint)) → n ≤ length cells → take n cells ≡ column f t n
unfolding column
front_column f t cells zero each within = refl
front_column f t cells (suc n) each within =
    ap (λ k. take k cells) (sym (add-one n))
    ∙ take_more cells n 0 (omega (arith, within))
    ∙ (λ i. front_column f t cells n (λ k less. each k (omega (arith, less))) (omega (arith, within)) i ++ each n (omega arith) i ∷ [])

pub column_of : (f : EpRow → ℕ) (t : EpTable) (cells : List ℕ) → length cells ≡ 32 → ((i : ℕ) → i < 32 → get_or cells i 0 ≡ f (get_or t.rows i no_endpoint)) → cells ≡ column f t 32
column_of f t cells long each = sym (take_all 32 cells (omega (arith, long))) ∙ front_column f t cells 32 each (omega (arith, long))

-- a cell that is told only where a capability is there
pub told : (there : Bool) (n : ℕ) → there ≡ true → n ≡ (if there then n else 0)
told there n is = ap (λ (b : Bool). if b then n else 0) (sym is)

pub untold : (there : Bool) (n : ℕ) → there ≡ false → 0 ≡ (if there then n else 0)
untold there n is = ap (λ (b : Bool). if b then n else 0) (sym is)

-- ---- numbers of 16 bits

pub halves_of : (cells : List ℕ) → ((i : ℕ) → i < length cells → get_or cells i 0 < 2 ^ 16) → AreNumbers w16 cells
halves_of [] each = tt
halves_of (x ∷ xs) each = (each 0 (omega arith), halves_of xs (λ i less. each (suc i) (omega (arith, less))))
