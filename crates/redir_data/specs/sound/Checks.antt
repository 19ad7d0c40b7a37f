-- Of the checks behind a header only that of its own type matters.
use Rattle.std.proofs.Common.{◌≡◌, ℕ, ◌+◌, ◌<◌, ◌≤◌, Bool, true, false, cond, List, [], ◌∷◌, length, Option, Some, None, refl, sym, ap, ◌∙◌, arith}
use Rattle.std.specs.Prelude.{nat_le, not, ◌&&◌, ◌==◌}
use Rattle.std.proofs.lemmas.Bool.{eqb-true, leb-true, le-leb, lt-ltb, le-ltb}
use Rattle.std.proofs.lemmas.Grind.{common_steps}
use Rattle.usb_base.specs.Number.{byte_at}
use Rattle.usb_base.specs.declared.reason.Reason.{Reason}
use Rattle.usb_base.specs.declared.reason.Reason.TheVariants.{DataLength}
use Rattle.packet_stream.specs.Format.{Check, fails, wrong_at, reading, reading_by, Whole, Short, Wrong}
use Rattle.packet_stream.proofs.Formats.{Passes, none_first, none_from}
use Rattle.redir_wire.specs.declared.packet.Caps.{Caps}
use Rattle.redir_wire.specs.declared.packet.Way.{Way}
use Rattle.redir_wire.specs.declared.packet.Header.{Header}
use Rattle.redir_wire.specs.declared.kind.PlainKind.{PlainKind}
use Rattle.redir_wire.specs.declared.kind.PlainKind.TheVariants as plain
use Rattle.redir_wire.specs.declared.kind.DataKind.{DataKind}
use Rattle.redir_wire.specs.declared.kind.DataKind.TheVariants.{Control, Bulk, Iso, Interrupt}
use Rattle.redir_wire.specs.declared.kind.Kind.TheVariants.{Carrying}
use Rattle.redir_wire.specs.Table.{plain_row, data_row, plain_numbered, data_numbered, has_length}
use Rattle.redir_wire.specs.Header.{is_its_length}
use Rattle.redir_wire.specs.Bodies.{check_behind, with_header, behind}
use Rattle.redir_wire.specs.Plain.{is_plain}
use Rattle.redir_wire.proofs.Checks.{skip}
use Rattle.redir_wire.proofs.Numbers.{plain_number, data_number, says}
use Rattle.redir_data.specs.Spelling.{data_count}
use Rattle.redir_data.specs.Places.{fixed, length_place, told_length, fields_at}
use Rattle.redir_data.specs.Carrying.{data_check, transfers}

-- ---- the type of a header

plain_below : (k : PlainKind) → is_plain (plain_row k).number ≡ true
plain_below plain.Hello = refl
plain_below k = refl

no_plain_by : (n : ℕ) → is_plain n ≡ false → (o : Option PlainKind) → plain_numbered n ≡ o → plain_numbered n ≡ None
no_plain_by n none None e = e
no_plain_by n none (Some k) e = let below : is_plain n ≡ true = ap is_plain (plain_number n k e) ∙ plain_below k in absurd cc

no_plain : (n : ℕ) → is_plain n ≡ false → plain_numbered n ≡ None
no_plain n none = no_plain_by n none (plain_numbered n) refl

pub is_numbered : (caps : Caps) (h : Header) → is_plain h.kind ≡ false → is_its_length caps h.kind h.length ≡ true → data_numbered h.kind ≡ None → ⊥
is_numbered caps h above its none = let e = no_plain h.kind above in let f : false ≡ true = rw (e, none) at its in absurd cc

length_says : (caps : Caps) (k : DataKind) (n : ℕ) → has_length caps (data_row k) n ≡ nat_le (fixed caps k) n
length_says caps Control n = refl
length_says caps k n = refl

-- the fixed fields are announced
pub least_length : (caps : Caps) (h : Header) (k : DataKind) → data_numbered h.kind ≡ Some k → is_its_length caps h.kind h.length ≡ true → fixed caps k ≤ h.length
least_length caps h k e its =
    let same : is_its_length caps h.kind h.length ≡ nat_le (fixed caps k) h.length =
    ap (λ (n : ℕ). is_its_length caps n h.length) (data_number h.kind k e) ∙ says (λ r. has_length caps r h.length) (Carrying k) ∙ length_says caps k h.length in
    leb-true (fixed caps k) h.length (sym same ∙ its)

-- ---- its check

abbrev pub its_check : Caps → Way → Header → DataKind → Check Reason
its_check caps way h k = check_behind h (data_check caps way k)

-- how many bytes a packet with these fields has behind its header
abbrev pub announced : Caps → Way → DataKind → List ℕ → ℕ
announced caps way k b = fixed caps k + data_count way (byte_at 0 b) (told_length caps k b)

eq_same : (n : ℕ) → (n == n) ≡ true
eq_same n = grind (arith, common_steps)

eq_apart : (m n : ℕ) → (m ≡ n → ⊥) → (m == n) ≡ false
eq_apart m n apart = grind (arith, common_steps)

is_tried : (h : Header) (k : DataKind) → h.kind ≡ (data_row k).number → (h.kind == (data_row k).number) ≡ true
is_tried h k kind = ap (λ (n : ℕ). n == (data_row k).number) kind ∙ eq_same (data_row k).number

-- that of another type isn't tried
other : (caps : Caps) (way : Way) (h : Header) (k j : DataKind) (b : List ℕ) → h.kind ≡ (data_row k).number → ((data_row k).number == (data_row j).number) ≡ false → Passes (its_check caps way h j) b
other caps way h k j b kind apart tried there = let no = sym tried ∙ (ap (λ (n : ℕ). n == (data_row j).number) kind ∙ apart) in absurd cc

then_none : (c : Check Reason) (cs : List (Check Reason)) (b : List ℕ) → wrong_at cs b ≡ None → wrong_at (c ∷ cs) b ≡ wrong_at (c ∷ []) b
then_none c cs b e = ap (λ (o : Option (ℕ × Reason)). cond (fails c b) (Some (c.place, c.reason)) o) e

pub only : (caps : Caps) (way : Way) (h : Header) (k : DataKind) (b : List ℕ) → h.kind ≡ (data_row k).number →
    wrong_at (with_header h (transfers caps way).checks) b ≡ wrong_at (its_check caps way h k ∷ []) b
only caps way h Iso b kind =
    let at = its_check caps way h in
    let pass : (j : DataKind) → ((data_row Iso).number == (data_row j).number) ≡ false → Passes (at j) b = λ j apart. other caps way h Iso j b kind apart in
    then_none (at Iso) (at Interrupt ∷ at Bulk ∷ at Control ∷ []) b (skip (at Interrupt ∷ at Bulk ∷ at Control ∷ []) [] b (pass Interrupt refl, (pass Bulk refl, (pass Control refl, tt))))
only caps way h Interrupt b kind =
    let at = its_check caps way h in
    let pass : (j : DataKind) → ((data_row Interrupt).number == (data_row j).number) ≡ false → Passes (at j) b = λ j apart. other caps way h Interrupt j b kind apart in
    skip (at Iso ∷ []) (at Interrupt ∷ at Bulk ∷ at Control ∷ []) b (pass Iso refl, tt)
    ∙ then_none (at Interrupt) (at Bulk ∷ at Control ∷ []) b (skip (at Bulk ∷ at Control ∷ []) [] b (pass Bulk refl, (pass Control refl, tt)))
only caps way h Bulk b kind =
    let at = its_check caps way h in
    let pass : (j : DataKind) → ((data_row Bulk).number == (data_row j).number) ≡ false → Passes (at j) b = λ j apart. other caps way h Bulk j b kind apart in
    skip (at Iso ∷ at Interrupt ∷ []) (at Bulk ∷ at Control ∷ []) b (pass Iso refl, (pass Interrupt refl, tt))
    ∙ then_none (at Bulk) (at Control ∷ []) b (skip (at Control ∷ []) [] b (pass Control refl, tt))
only caps way h Control b kind =
    let at = its_check caps way h in
    let pass : (j : DataKind) → ((data_row Control).number == (data_row j).number) ≡ false → Passes (at j) b = λ j apart. other caps way h Control j b kind apart in
    skip (at Iso ∷ at Interrupt ∷ at Bulk ∷ []) (at Control ∷ []) b (pass Iso refl, (pass Interrupt refl, (pass Bulk refl, tt)))

-- ---- what its check finds

all_true : (u t p : Bool) (x : ℕ × Reason) → u ≡ true → t ≡ true → p ≡ false → cond (u && (t && not p)) (Some x) None ≡ Some x
all_true u t p x tried there wrong = rw (tried, there, wrong) refl

pub none_of : (caps : Caps) (way : Way) (h : Header) (k : DataKind) (b : List ℕ) → h.kind ≡ (data_row k).number → (fixed caps k ≤ length b → h.length ≡ announced caps way k b) →
    wrong_at (with_header h (transfers caps way).checks) b ≡ None
none_of caps way h k b kind agrees =
    only caps way h k b kind ∙ none_from (its_check caps way h k) [] b (λ _ there. ap (λ (n : ℕ). n == announced caps way k b) (agrees there) ∙ eq_same (announced caps way k b)) refl

pub wrong_of : (caps : Caps) (way : Way) (h : Header) (k : DataKind) (b : List ℕ) → h.kind ≡ (data_row k).number → fixed caps k ≤ length b → (h.length ≡ announced caps way k b → ⊥) →
    wrong_at (with_header h (transfers caps way).checks) b ≡ Some (length_place k, DataLength)
wrong_of caps way h k b kind there apart =
    only caps way h k b kind
    ∙ all_true (h.kind == (data_row k).number) (nat_le (fixed caps k) (length b)) (h.length == announced caps way k b) (length_place k, DataLength) (is_tried h k kind) (le-leb (fixed caps k) (length b) there)
    (eq_apart h.length (announced caps way k b) apart)

pub agrees_by : (caps : Caps) (way : Way) (h : Header) (k : DataKind) (b : List ℕ) → h.kind ≡ (data_row k).number → wrong_at (with_header h (transfers caps way).checks) b ≡ None → fixed caps k ≤ length b →
    h.length ≡ announced caps way k b
agrees_by caps way h k b kind none there =
    eqb-true h.length (announced caps way k b) (none_first (its_check caps way h k) [] b (sym (only caps way h k b kind) ∙ none) (is_tried h k kind) there)

-- ---- what reading finds behind a header of this type

pub read_wrong : (caps : Caps) (way : Way) (h : Header) (k : DataKind) (b : List ℕ) → data_numbered h.kind ≡ Some k → fixed caps k ≤ length b → (h.length ≡ announced caps way k b → ⊥) →
    reading (behind (transfers caps way) h) b ≡ Wrong (length_place k) DataLength
read_wrong caps way h k b e there apart = ap (reading_by (behind (transfers caps way) h) b) (wrong_of caps way h k b (data_number h.kind k e) there apart)

pub read_short : (caps : Caps) (way : Way) (h : Header) (k : DataKind) (b : List ℕ) → data_numbered h.kind ≡ Some k → (fixed caps k ≤ length b → h.length ≡ announced caps way k b) → length b < h.length →
    reading (behind (transfers caps way) h) b ≡ Short
read_short caps way h k b e agrees less = ap (reading_by (behind (transfers caps way) h) b) (none_of caps way h k b (data_number h.kind k e) agrees) ∙ rw (lt-ltb (length b) h.length less) refl

pub read_whole : (caps : Caps) (way : Way) (h : Header) (k : DataKind) (b : List ℕ) → data_numbered h.kind ≡ Some k → h.length ≡ announced caps way k b → h.length ≤ length b →
    reading (behind (transfers caps way) h) b ≡ Whole (fields_at caps h.length k b) h.length
read_whole caps way h k b e agrees there =
    ap (reading_by (behind (transfers caps way) h) b) (none_of caps way h k b (data_number h.kind k e) (λ _. agrees)) ∙ rw (le-ltb (length b) h.length there, e) refl

-- the sum that the reader makes
pub sum_is : (caps : Caps) (way : Way) (k : DataKind) (b : List ℕ) (f told count : ℕ) → f ≡ fixed caps k → told ≡ told_length caps k b → count ≡ data_count way (byte_at 0 b) told →
    f + count ≡ announced caps way k b
sum_is caps way k b f told count is tells counts = (λ i. is i + counts i) ∙ ap (λ (n : ℕ). fixed caps k + data_count way (byte_at 0 b) n) tells
