-- Reading a packet is reading its header, and then what is behind it.
use Rattle.std.proofs.Common.{◌≡◌, ℕ, ◌+◌, ◌-◌, ◌<◌, ◌≤◌, Bool, true, false, cond, List, [], ◌∷◌, ◌++◌, length, drop, Option, Some, None, refl, sym, ap, subst, ◌∙◌, arith, length-drop}
use Rattle.std.specs.Prelude.{nat_lt}
use Rattle.std.specs.Option.{option_map}
use Rattle.std.specs.Int.{w32}
use Rattle.std.proofs.lemmas.Bool.{le-ltb, lt-ltb}
use Rattle.std.proofs.lemmas.Grind.{common_steps}
use Rattle.std.proofs.lemmas.List.{length-append, append-nil}
use Rattle.usb_base.specs.Number.{le_at}
use Rattle.usb_base.specs.declared.reason.Reason.{Reason}
use Rattle.usb_base.specs.declared.reason.Reason.TheVariants.{UnknownType}
use Rattle.packet_stream.specs.Format.{Check, wrong_at, Found, Whole, Short, Wrong, reading_by, reading}
use Rattle.packet_stream.proofs.Awaiting.{short_parts}
use Rattle.packet_stream.proofs.Formats.{none_before, wrong_parts, wrong_reading}
use Rattle.redir_wire.specs.declared.state.RedirState.{RedirState}
use Rattle.redir_wire.specs.declared.packet.Way.{Way}
use Rattle.redir_wire.specs.declared.packet.Header.{Header}
use Rattle.redir_wire.specs.State.{is_wide}
use Rattle.redir_wire.specs.Header.{head_size, head_bytes, header_at, type_check, head_checks, IsHeader, headers}
use Rattle.redir_wire.specs.Bodies.{Bodies, with_header, behind, behind_head, packets}
use Rattle.redir_wire.specs.Past.{found_past}
use Rattle.redir_wire.proofs.Checks.{passed, skip, wrong_front}
use Rattle.redir_wire.proofs.Says.{passes, header_says}
use Rattle.redir_wire.proofs.Headers.{size, size_least, length_head, kind_there, header_there, behind_there}
use Rattle.redir_wire.proofs.Packets.{AreSteadyBehind, headed, past_head, wrong_behind, behind_steady}

-- ---- behind a whole header

past_length : {P : Type 0} (wide : Bool) (h : Header) (p : P) (n : ℕ) (t : Bool) →
    ◌≡◌ {A = Found (Header × P) Reason} (cond t Short (Whole (h, p) (head_size wide + n))) (found_past wide h (cond t Short (Whole p n)))
past_length wide h p n true = refl
past_length wide h p n false = refl

less_past : (k n m : ℕ) → k ≤ m → nat_lt m (k + n) ≡ nat_lt (m - k) n
less_past k n m le = grind (arith, common_steps)

past_by : {P : Type 0} (f : Bodies P) (s : RedirState) (way : Way) (b : List ℕ) → 8 ≤ length b → head_size (is_wide s) ≤ length b → (o : Option (ℕ × Reason)) →
    reading_by (packets f s way) b (option_map (past_head (is_wide s)) o)
    ≡ found_past (is_wide s) (header_at (is_wide s) b) (reading_by (behind f (header_at (is_wide s) b)) (drop (head_size (is_wide s)) b) o)
past_by {P = P} f s way b long there None =
    let wide = is_wide s in
    let k = head_size wide in
    let n = le_at w32 4 b in
    let h = header_at wide b in
    let p = f.fields h (drop k b) in
    let size_is : size wide b ≡ k + n = rw (le-ltb (length b) 8 long) refl in
    let same : nat_lt (length b) (k + n) ≡ nat_lt (length (drop k b)) n = less_past k n (length b) there ∙ ap (λ (m : ℕ). nat_lt m n) (sym (length-drop k b)) in
    (λ i. cond {A = Found (Header × P) Reason} (nat_lt (length b) (size_is i)) Short (Whole (h, p) (size_is i)))
    ∙ ap (λ (t : Bool). cond {A = Found (Header × P) Reason} t Short (Whole (h, p) (k + n))) same
    ∙ past_length wide h p n (nat_lt (length (drop k b)) n)
past_by f s way b long there (Some w) = refl

pub read_past : {P : Type 0} (f : Bodies P) (s : RedirState) (way : Way) (b : List ℕ) → head_size (is_wide s) ≤ length b → f.owns (le_at w32 0 b) ≡ true →
    IsHeader s way (header_at (is_wide s) b) →
    reading (packets f s way) b ≡ found_past (is_wide s) (header_at (is_wide s) b) (reading (behind f (header_at (is_wide s) b)) (drop (head_size (is_wide s)) b))
read_past f s way b there own header =
    let wide = is_wide s in
    let least = size_least wide in
    let w = wrong_at (with_header (header_at wide b) f.checks) (drop (head_size wide) b) in
    ap (reading_by (packets f s way) b) (skip (headed f s way) (behind_head wide f.checks) b (λ _ _. own, passes s way (header_at wide b) b (header_says header) refl refl) ∙ wrong_behind wide f.checks b there)
    ∙ past_by f s way b (omega arith) there w

-- ---- without a whole header

own_passes : {P : Type 0} (f : Bodies P) (b : List ℕ) (cs : List (Check Reason)) → (4 ≤ length b → f.owns (le_at w32 0 b) ≡ true) → wrong_at (type_check UnknownType f.owns ∷ cs) b ≡ wrong_at cs b
own_passes f b cs own = skip (type_check UnknownType f.owns ∷ []) cs b (λ _. own, tt)

pub read_wrong : {P : Type 0} (f : Bodies P) (s : RedirState) (way : Way) (b : List ℕ) (place : ℕ) (reason : Reason) → (4 ≤ length b → f.owns (le_at w32 0 b) ≡ true) →
    reading (headers s way) b ≡ Wrong place reason → reading (packets f s way) b ≡ Wrong place reason
read_wrong f s way b place reason own e =
    let rest = behind_head (is_wide s) f.checks in
    let wrong = wrong_front (head_checks s way) rest b (place, reason) (wrong_parts (headers s way) b place reason e) in
    wrong_reading (packets f s way) b (place, reason) (own_passes f b (head_checks s way ++ rest) own ∙ wrong)

short_size : (wide : Bool) (b : List ℕ) → length b < head_size wide → length b < size wide b
short_size wide b less = grind (arith, common_steps)

pub read_short : {P : Type 0} (f : Bodies P) (s : RedirState) (way : Way) (b : List ℕ) → AreSteadyBehind 0 f.checks → (4 ≤ length b → f.owns (le_at w32 0 b) ≡ true) →
    reading (headers s way) b ≡ Short → reading (packets f s way) b ≡ Short
read_short f s way b steady own e =
    let wide = is_wide s in
    let rest = behind_head wide f.checks in
    let parts = short_parts (headers s way) b e in
    let heads = passed (head_checks s way) [] b (ap (λ (cs : List (Check Reason)). wrong_at cs b) (append-nil (head_checks s way)) ∙ parts.0) in
    let behind_none : wrong_at rest b ≡ None = none_before rest (head_size wide) b (behind_steady wide f.checks 0 (head_size wide) steady (omega arith)) parts.1 in
    let none = own_passes f b (head_checks s way ++ rest) own ∙ skip (head_checks s way) rest b heads.0 ∙ behind_none in
    ap (reading_by (packets f s way) b) none ∙ rw (lt-ltb (length b) (size wide b) (short_size wide b parts.1)) refl

-- ---- a header, and what is behind it

pub read_behind : {P : Type 0} (f : Bodies P) (s : RedirState) (way : Way) (h : Header) (b : List ℕ) → IsHeader s way h → f.owns h.kind ≡ true →
    reading (packets f s way) (head_bytes (is_wide s) h ++ b) ≡ found_past (is_wide s) h (reading (behind f h) b)
read_behind f s way h b is own =
    let wide = is_wide s in
    let all = head_bytes wide h ++ b in
    let same = header_there wide h b is.kind_fits is.length_fits is.id_fits in
    let there : head_size wide ≤ length all = omega (arith, length-append (head_bytes wide h) b, length_head wide h) in
    read_past f s way all there (ap f.owns (kind_there wide h b is.kind_fits) ∙ own) (subst (IsHeader s way) (sym same) is)
    ∙ (λ i. found_past wide (same i) (reading (behind f (same i)) (behind_there wide h b i)))
