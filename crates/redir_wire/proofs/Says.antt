-- What the checks of a header say of its fields.
use Rattle.std.proofs.Common.{◌≡◌, ℕ, ◌^◌, ◌<◌, ◌≤◌, Bool, true, List, [], length, None, refl, sym, ap, ◌∙◌, arith, cond}
use Rattle.std.specs.Prelude.{nat_le, not, ◌&&◌, ◌||◌, ◌==◌, is_some}
use Rattle.std.specs.Int.{w32}
use Rattle.std.proofs.lemmas.Bool.{leb-true}
use Rattle.std.proofs.lemmas.List.{append-nil}
use Rattle.usb_base.specs.Number.{le_at}
use Rattle.usb_base.specs.declared.reason.Reason.{Reason}
use Rattle.packet_stream.specs.Format.{Check, wrong_at}
use Rattle.redir_wire.specs.declared.packet.Caps.{Caps}
use Rattle.redir_wire.specs.declared.state.RedirState.{RedirState}
use Rattle.redir_wire.specs.declared.packet.Way.{Way}
use Rattle.redir_wire.specs.declared.packet.Header.{Header}
use Rattle.redir_wire.specs.Table.{kind_numbered, is_left_out, goes, has_wanted}
use Rattle.redir_wire.specs.State.{is_wide}
use Rattle.redir_wire.specs.Header.{head_bytes, head_checks, row_says, is_its_length, IdFits, IsHeader}
use Rattle.redir_wire.proofs.Checks.{Passed, passed, none_passed}
use Rattle.redir_wire.proofs.Headers.{size_least, length_head, kind_there, length_there}

abbrev pub is_in_turn : Bool → ℕ → Bool
is_in_turn first number = cond first (number == 0) (not (number == 0))

abbrev pub is_known : ℕ → Bool
is_known number = is_left_out number || is_some (kind_numbered number)

abbrev pub is_agreed : Caps → ℕ → Bool
is_agreed caps number = not (is_left_out number) && row_says (has_wanted caps) number

abbrev pub is_in_limit : ℕ → Bool
is_in_limit length = nat_le length 16777280

pub record HeaderSays (s : RedirState) (way : Way) (h : Header) : Type 0 where
  pub in_turn : is_in_turn s.first h.kind ≡ true
  pub known : is_known h.kind ≡ true
  pub agreed : is_agreed s.caps h.kind ≡ true
  pub on_its_way : row_says (goes way) h.kind ≡ true
  pub in_limit : is_in_limit h.length ≡ true
  pub its_length : is_its_length s.caps h.kind h.length ≡ true
  pub kind_fits : h.kind < 2 ^ 32
  pub id_fits : IdFits (is_wide s) h.id

pub limit_below : (n : ℕ) → is_in_limit n ≡ true → n < 2 ^ 32
limit_below n e = let h = leb-true n 16777280 e in omega arith

pub alone : (cs : List (Check Reason)) (b : List ℕ) → wrong_at cs b ≡ None → Passed cs b
alone cs b e = (passed cs [] b (ap (λ (ds : List (Check Reason)). wrong_at ds b) (append-nil cs) ∙ e)).0

pub none_alone : (cs : List (Check Reason)) (b : List ℕ) → Passed cs b → wrong_at cs b ≡ None
none_alone cs b p = ap (λ (ds : List (Check Reason)). wrong_at ds b) (sym (append-nil cs)) ∙ none_passed cs [] b p refl

-- of bytes that begin so
pub passes : (s : RedirState) (way : Way) (h : Header) (b : List ℕ) → HeaderSays s way h → le_at w32 0 b ≡ h.kind → le_at w32 4 b ≡ h.length → Passed (head_checks s way) b
passes s way h b is kind size = (
  λ _ _. ap (is_in_turn s.first) kind ∙ is.in_turn,
  (
    λ _ _. ap is_known kind ∙ is.known,
    (
      λ _ _. ap (is_agreed s.caps) kind ∙ is.agreed,
      (λ _ _. ap (row_says (goes way)) kind ∙ is.on_its_way, (λ _ _. ap is_in_limit size ∙ is.in_limit, (λ _ _. (λ i. is_its_length s.caps (kind i) (size i)) ∙ is.its_length, tt))),
    ),
  ),
)

there_in : (wide : Bool) (h : Header) → 8 ≤ length (head_bytes wide h)
there_in wide h = let least = size_least wide in omega (arith, length_head wide h)

kind_in : (wide : Bool) (h : Header) → h.kind < 2 ^ 32 → le_at w32 0 (head_bytes wide h) ≡ h.kind
kind_in wide h fits = ap (le_at w32 0) (sym (append-nil (head_bytes wide h))) ∙ kind_there wide h [] fits

length_in : (wide : Bool) (h : Header) → h.length < 2 ^ 32 → le_at w32 4 (head_bytes wide h) ≡ h.length
length_in wide h fits = ap (le_at w32 4) (sym (append-nil (head_bytes wide h))) ∙ length_there wide h [] fits

pub header_says : {s : RedirState} {way : Way} {h : Header} → IsHeader s way h → HeaderSays s way h
header_says {s = s} {way = way} {h = h} is =
    let wide = is_wide s in
    let there = there_in wide h in
    let kind = sym (kind_in wide h is.kind_fits) in
    let size = sym (length_in wide h is.length_fits) in
    let p = alone (head_checks s way) (head_bytes wide h) is.right in
    record {
      in_turn = ap (is_in_turn s.first) kind ∙ p.0 refl (omega arith);
      known = ap is_known kind ∙ p.1.0 refl (omega arith);
      agreed = ap (is_agreed s.caps) kind ∙ p.1.1.0 refl (omega arith);
      on_its_way = ap (row_says (goes way)) kind ∙ p.1.1.1.0 refl (omega arith);
      in_limit = ap is_in_limit size ∙ p.1.1.1.1.0 refl there;
      its_length = (λ i. is_its_length s.caps (kind i) (size i)) ∙ p.1.1.1.1.1.0 refl there;
      kind_fits = is.kind_fits;
      id_fits = is.id_fits;
    }

pub is_header : (s : RedirState) (way : Way) (h : Header) → HeaderSays s way h → IsHeader s way h
is_header s way h is =
    let wide = is_wide s in
    let length_fits = limit_below h.length is.in_limit in
    record {
      right = none_alone (head_checks s way) (head_bytes wide h) (passes s way h (head_bytes wide h) is (kind_in wide h is.kind_fits) (length_in wide h length_fits));
      kind_fits = is.kind_fits;
      length_fits = length_fits;
      id_fits = is.id_fits;
    }
