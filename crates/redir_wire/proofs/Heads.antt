-- The checks of a header, and that headers are sound.
use Rattle.std.proofs.Common.{◌≡◌, ℕ, ◌≤◌, List, [], ◌++◌, length, take, None, refl, sym, ap, arith}
use Rattle.std.specs.Int.{w32}
use Rattle.usb_base.specs.Number.{le_at, AreBytes}
use Rattle.usb_base.specs.declared.reason.Reason.{Reason}
use Rattle.usb_base.proofs.Numbers.{le_at-append_32, le_at-below_32}
use Rattle.packet_stream.specs.Format.{Check, wrong_at, IsSound}
use Rattle.packet_stream.proofs.Formats.{AreSteady, stays_wrong}
use Rattle.redir_wire.specs.declared.state.RedirState.{RedirState}
use Rattle.redir_wire.specs.declared.packet.Way.{Way}
use Rattle.redir_wire.specs.declared.packet.Header.{Header}
use Rattle.redir_wire.specs.Table.{goes}
use Rattle.redir_wire.specs.State.{is_wide}
use Rattle.redir_wire.specs.Header.{head_size, head_bytes, header_at, head_checks, IsHeader, headers, row_says, is_its_length}
use Rattle.redir_wire.proofs.Checks.{Passed}
use Rattle.redir_wire.proofs.Headers.{size_least, length_head, head_spelled, id_fits, kind_there, length_there, header_there}
use Rattle.redir_wire.proofs.Says.{is_in_turn, is_known, is_agreed, is_in_limit, alone, none_alone, passes, header_says, is_header}

-- the checks of a whole header say that it is one
pub header_passed : (s : RedirState) (way : Way) (b : List ℕ) → AreBytes b → 8 ≤ length b → Passed (head_checks s way) b → IsHeader s way (header_at (is_wide s) b)
header_passed s way b are there p = is_header s way (header_at (is_wide s) b) (record {
  in_turn = p.0 refl (omega arith);
  known = p.1.0 refl (omega arith);
  agreed = p.1.1.0 refl (omega arith);
  on_its_way = p.1.1.1.0 refl (omega arith);
  in_limit = p.1.1.1.1.0 refl (omega arith);
  its_length = p.1.1.1.1.1.0 refl (omega arith);
  kind_fits = le_at-below_32 0 b are;
  id_fits = id_fits (is_wide s) b are;
})

-- a header passes its checks wherever its numbers stand
kind_more : (b more : List ℕ) → 4 ≤ length b → le_at w32 0 (b ++ more) ≡ le_at w32 0 b
kind_more b more there = le_at-append_32 0 b more there

-- before others that need more bytes, they see only their own
pub heads_steady : (s : RedirState) (way : Way) (ds : List (Check Reason)) (n : ℕ) → n ≤ 4 → AreSteady 8 ds → AreSteady n (head_checks s way ++ ds)
heads_steady s way ds n le steady = (
  omega arith,
  λ b more there. (refl, ap (is_in_turn s.first) (kind_more b more there)),
  (
    omega arith,
    λ b more there. (refl, ap is_known (kind_more b more there)),
    (
      omega arith,
      λ b more there. (refl, ap (is_agreed s.caps) (kind_more b more there)),
      (
        omega arith,
        λ b more there. (refl, ap (row_says (goes way)) (kind_more b more there)),
        (
          omega arith,
          λ b more there. (refl, ap is_in_limit (le_at-append_32 4 b more there)),
          (omega arith, λ b more there. (refl, (λ i. is_its_length s.caps (kind_more b more (omega arith) i) (le_at-append_32 4 b more there i))), steady),
        ),
      ),
    ),
  ),
)

-- ---- headers are sound

found : (s : RedirState) (way : Way) (b : List ℕ) → AreBytes b → wrong_at (head_checks s way) b ≡ None → head_size (is_wide s) ≤ length b →
    (head_bytes (is_wide s) (header_at (is_wide s) b) ≡ take (head_size (is_wide s)) b) × IsHeader s way (header_at (is_wide s) b)
found s way b are none there =
    let least = size_least (is_wide s) in
    (head_spelled (is_wide s) b are there, header_passed s way b are (omega arith) (alone (head_checks s way) b none))

right : (s : RedirState) (way : Way) (h : Header) (more : List ℕ) → IsHeader s way h → wrong_at (head_checks s way) (head_bytes (is_wide s) h ++ more) ≡ None
right s way h more is =
    let wide = is_wide s in
    let b = head_bytes wide h ++ more in
    none_alone (head_checks s way) b (passes s way h b (header_says is) (kind_there wide h more is.kind_fits) (length_there wide h more is.length_fits))

pub headers_sound : (s : RedirState) (way : Way) → IsSound (headers s way)
headers_sound s way = record {
  found = found s way;
  right = right s way;
  size = λ h more is. sym (length_head (is_wide s) h);
  packet = λ h more is. header_there (is_wide s) h more is.kind_fits is.length_fits is.id_fits;
  some = λ b. let least = size_least (is_wide s) in omega arith;
  steady = stays_wrong (head_checks s way) 0 (heads_steady s way [] 0 (omega arith) tt);
}
