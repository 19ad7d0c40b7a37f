-- Packets that are a header and then what it announces: how both are read together.
use Rattle.std.specs.Prelude.{◌≡◌, ℕ, ◌+◌, Bool, nat_lt, if◌then◌else◌, List, [], ◌∷◌, ◌++◌, length, drop}
use Rattle.std.specs.Int.{w32}
use Rattle.usb_base.specs.declared.reason.Reason.{Reason}
use Rattle.usb_base.specs.declared.reason.Reason.TheVariants.{UnknownType}
use Rattle.usb_base.specs.Number.{le_at}
use Rattle.packet_stream.specs.Format.{Check, check, Format}
use Rattle.redir_wire.specs.declared.state.RedirState.{RedirState}
use Rattle.redir_wire.specs.declared.packet.Way.{Way}
use Rattle.redir_wire.specs.declared.packet.Header.{Header}
use Rattle.redir_wire.specs.State.{is_wide}
use Rattle.redir_wire.specs.Header.{head_size, head_bytes, header_at, type_check, head_checks, IsHeader}

-- a check of the bytes behind a header; its place counts from the first of them
pub record BodyCheck : Type 0 where
  pub place : ℕ
  pub needed : ℕ
  -- the numbers of the types in which it is tried
  pub tried : ℕ → Bool
  pub passes : Header → List ℕ → Bool
  pub reason : Reason

-- what stands behind headers of some types
pub record Bodies (P : Type 0) : Type 1 where
  -- the numbers of these types
  pub owns : ℕ → Bool
  pub checks : List BodyCheck
  -- the fields that stand at their places behind this header
  pub fields : Header → List ℕ → P
  pub number : P → ℕ
  pub spelling : P → List ℕ
  pub Fits : P → Type 0

-- ---- behind a header that was read

-- a check of theirs behind this header
abbrev pub check_behind : Header → BodyCheck → Check Reason
check_behind h c = record { place = c.place; needed = c.needed; tried = λ b. c.tried h.kind; passes = c.passes h; reason = c.reason }

abbrev pub with_header : Header → List BodyCheck → List (Check Reason)
with_header h [] = []
with_header h (c ∷ cs) = check_behind h c ∷ with_header h cs

-- the packet is whole once all that the header announces is there
abbrev pub behind : {P : Type 0} → Bodies P → Header → Format P Reason
behind f h = record { checks = with_header h f.checks; size = λ b. h.length; packet = f.fields h; spelling = f.spelling; Fits = f.Fits }

-- ---- header and body

abbrev pub behind_head : Bool → List BodyCheck → List (Check Reason)
behind_head wide [] = []
behind_head wide (c ∷ cs) =
    record (check (head_size wide + c.place) (head_size wide + c.needed) c.reason (λ b. c.passes (header_at wide b) (drop (head_size wide) b))) { tried = λ b. c.tried (le_at w32 0 b) }
    ∷ behind_head wide cs

-- the header is the packet's own
pub record IsPacket {P : Type 0} (f : Bodies P) (s : RedirState) (way : Way) (p : Header × P) : Type 0 where
  pub header : IsHeader s way p.0
  pub kind : p.0.kind ≡ f.number p.1
  pub length_is : p.0.length ≡ length (f.spelling p.1)
  pub fits : f.Fits p.1

-- a packet of another type is none of these
abbrev pub packets : {P : Type 0} → Bodies P → RedirState → Way → Format (Header × P) Reason
packets f s way = record {
  checks = type_check UnknownType f.owns ∷ head_checks s way ++ behind_head (is_wide s) f.checks;
  size = λ b. if nat_lt (length b) 8 then head_size (is_wide s) else head_size (is_wide s) + le_at w32 4 b;
  packet = λ b. (header_at (is_wide s) b, f.fields (header_at (is_wide s) b) (drop (head_size (is_wide s)) b));
  spelling = λ p. head_bytes (is_wide s) p.0 ++ f.spelling p.1;
  Fits = IsPacket f s way;
}
