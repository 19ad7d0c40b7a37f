-- Packets of a header and a body are sound, where the bodies are.
use Rattle.std.proofs.Common.{◌≡◌, ℕ, ◌+◌, ◌-◌, ◌<◌, ◌≤◌, Bool, true, false, cond, List, [], ◌∷◌, ◌++◌, length, take, drop, Option, Some, None, refl, sym, ap, ◌∙◌, append_assoc, arith, length-drop}
use Rattle.std.specs.Prelude.{nat_le, not, ◌&&◌}
use Rattle.std.specs.Option.{option_map}
use Rattle.std.specs.Int.{w32}
use Rattle.std.proofs.lemmas.Bool.{le-ltb}
use Rattle.std.proofs.lemmas.Grind.{common_steps}
use Rattle.std.proofs.lemmas.List.{length-append, length-take, drop-append-le}
use Rattle.usb_base.specs.Number.{le_at, AreBytes}
use Rattle.usb_base.specs.declared.reason.Reason.{Reason}
use Rattle.usb_base.specs.declared.reason.Reason.TheVariants.{UnknownType}
use Rattle.usb_base.proofs.Numbers.{AreBytes-drop, then, le_at-append_32}
use Rattle.packet_stream.specs.Format.{Check, wrong_at, IsSound}
use Rattle.packet_stream.proofs.Formats.{AreSteady, stays_wrong}
use Rattle.redir_wire.specs.declared.state.RedirState.{RedirState}
use Rattle.redir_wire.specs.declared.packet.Way.{Way}
use Rattle.redir_wire.specs.declared.packet.Header.{Header}
use Rattle.redir_wire.specs.State.{is_wide}
use Rattle.redir_wire.specs.Header.{head_size, head_bytes, header_at, type_check, head_checks, IsHeader}
use Rattle.redir_wire.specs.Bodies.{BodyCheck, Bodies, with_header, behind_head, IsPacket, packets}
use Rattle.redir_wire.proofs.Checks.{passed, none_passed}
use Rattle.redir_wire.proofs.Heads.{header_passed, heads_steady}
use Rattle.redir_wire.proofs.Says.{is_in_limit, passes, header_says}
use Rattle.redir_wire.proofs.Headers.{size, size_least, length_head, head_spelled, kind_there, length_there, header_there, behind_there, header_more}

-- ---- what bodies owe

-- each check sees only the bytes that it needs, and needs as many as those before it
abbrev pub AreSteadyBehind : ℕ → List BodyCheck → Type 0
AreSteadyBehind n [] = Unit {0}
AreSteadyBehind n (c ∷ cs) = (n ≤ c.needed) × ((h : Header) (b more : List ℕ) → c.needed ≤ length b → c.passes h (b ++ more) ≡ c.passes h b) × AreSteadyBehind c.needed cs

-- a packet that was found behind this header
pub record IsFound {P : Type 0} (f : Bodies P) (h : Header) (b : List ℕ) : Type 0 where
  pub spelled : f.spelling (f.fields h b) ≡ take h.length b
  pub kind : h.kind ≡ f.number (f.fields h b)
  pub fits : f.Fits (f.fields h b)

pub record AreBodies {P : Type 0} (f : Bodies P) (s : RedirState) (way : Way) : Type 0 where
  pub steady : AreSteadyBehind 0 f.checks
  pub found : (h : Header) (b : List ℕ) → AreBytes b → IsHeader s way h → f.owns h.kind ≡ true → wrong_at (with_header h f.checks) b ≡ None → h.length ≤ length b → IsFound f h b
  pub right : (p : Header × P) (more : List ℕ) → IsPacket f s way p → wrong_at (with_header p.0 f.checks) (f.spelling p.1 ++ more) ≡ None
  pub fields : (p : Header × P) (more : List ℕ) → IsPacket f s way p → f.fields p.0 (f.spelling p.1 ++ more) ≡ p.1
  pub owned : (p : P) → f.owns (f.number p) ≡ true

-- ---- checks behind a header

-- places behind the header, counted from the packet's start
abbrev pub past_head : Bool → ℕ × Reason → ℕ × Reason
past_head wide w = (head_size wide + w.0, w.1)

le_past : (k n m : ℕ) → k ≤ m → nat_le (k + n) m ≡ nat_le n (m - k)
le_past k n m le = grind (arith, common_steps)

step : {W X : Type 0} (f : W → X) (t : Bool) (w : W) (now : Option W) (then : Option X) → then ≡ option_map f now → cond t (Some (f w)) then ≡ option_map f (cond t (Some w) now)
step f true w now then e = refl
step f false w now then e = e

pub wrong_behind : (wide : Bool) (cs : List BodyCheck) (b : List ℕ) → head_size wide ≤ length b →
    wrong_at (behind_head wide cs) b ≡ option_map (past_head wide) (wrong_at (with_header (header_at wide b) cs) (drop (head_size wide) b))
wrong_behind wide [] b there = refl
wrong_behind wide (c ∷ cs) b there =
    let k = head_size wide in
    let same : nat_le (k + c.needed) (length b) ≡ nat_le c.needed (length (drop k b)) = le_past k c.needed (length b) there ∙ ap (nat_le c.needed) (sym (length-drop k b)) in
    let test : Bool → Bool = λ t. c.tried (le_at w32 0 b) && (t && not (c.passes (header_at wide b) (drop k b))) in
    ap (λ (t : Bool). cond (test t) (Some (k + c.place, c.reason)) (wrong_at (behind_head wide cs) b)) same
    ∙ step (past_head wide) (test (nat_le c.needed (length (drop k b)))) (c.place, c.reason) (wrong_at (with_header (header_at wide b) cs) (drop k b)) (wrong_at (behind_head wide cs) b) (wrong_behind wide cs b there)

none_of : {W X : Type 0} (f : W → X) (o : Option W) → option_map f o ≡ None → o ≡ None
none_of f None e = refl
none_of f (Some w) e = absurd cc

-- ---- what is found

abbrev pub headed : {P : Type 0} → Bodies P → RedirState → Way → List (Check Reason)
headed f s way = type_check UnknownType f.owns ∷ head_checks s way

-- a length that was checked
pub limit_there : {P : Type 0} (f : Bodies P) (s : RedirState) (way : Way) (b : List ℕ) → wrong_at (packets f s way).checks b ≡ None → 8 ≤ length b → is_in_limit (le_at w32 4 b) ≡ true
limit_there f s way b right there = (passed (headed f s way) (behind_head (is_wide s) f.checks) b right).0.1.1.1.1.1.0 refl there

size_long : (wide : Bool) (b : List ℕ) → size wide b ≤ length b → (head_size wide + le_at w32 4 b ≤ length b) × (size wide b ≡ head_size wide + le_at w32 4 b)
size_long wide b there = let least = size_least wide in (grind (arith, common_steps), grind (arith, common_steps))

found_there : {P : Type 0} (f : Bodies P) (s : RedirState) (way : Way) → AreBodies f s way → (b : List ℕ) → AreBytes b → wrong_at (packets f s way).checks b ≡ None →
    head_size (is_wide s) + le_at w32 4 b ≤ length b →
    (head_bytes (is_wide s) (header_at (is_wide s) b) ++ f.spelling (f.fields (header_at (is_wide s) b) (drop (head_size (is_wide s)) b)) ≡ take (head_size (is_wide s) + le_at w32 4 b) b)
    × IsPacket f s way (header_at (is_wide s) b, f.fields (header_at (is_wide s) b) (drop (head_size (is_wide s)) b))
found_there f s way bodies b are right there =
    let wide = is_wide s in
    let k = head_size wide in
    let least = size_least wide in
    let checks = passed (headed f s way) (behind_head wide f.checks) b right in
    let own = checks.0.0 refl (omega arith) in
    let header = header_passed s way b are (omega arith) checks.0.1 in
    let h = header_at wide b in
    let rest = drop k b in
    let none = none_of (past_head wide) (wrong_at (with_header h f.checks) rest) (sym (wrong_behind wide f.checks b (omega arith)) ∙ checks.1) in
    let left : h.length ≤ length rest = omega (arith, length-drop k b) in
    let body = bodies.found h rest (AreBytes-drop k b are) header own none left in
    let enough : length (f.spelling (f.fields h rest)) ≡ h.length = ap length body.spelled ∙ omega (arith, length-take h.length rest) in (
      then k h.length b _ _ (head_spelled wide b are (omega arith)) body.spelled,
      record { header = header; kind = body.kind; length_is = sym enough; fits = body.fits },
    )

found : {P : Type 0} (f : Bodies P) (s : RedirState) (way : Way) → AreBodies f s way → (b : List ℕ) → AreBytes b → wrong_at (packets f s way).checks b ≡ None →
    (packets f s way).size b ≤ length b →
    ((packets f s way).spelling ((packets f s way).packet b) ≡ take ((packets f s way).size b) b) × (packets f s way).Fits ((packets f s way).packet b)
found f s way bodies b are right there =
    let long = size_long (is_wide s) b there in
    let h = found_there f s way bodies b are right long.0 in
    (h.0 ∙ ap (λ (n : ℕ). take n b) (sym long.1), h.1)

-- ---- what is spelled

-- a packet's header and what follows it, and then more
assoc : {P : Type 0} (f : Bodies P) (wide : Bool) (p : Header × P) (more : List ℕ) → (head_bytes wide p.0 ++ f.spelling p.1) ++ more ≡ head_bytes wide p.0 ++ (f.spelling p.1 ++ more)
assoc f wide p more = append_assoc (head_bytes wide p.0) (f.spelling p.1) more

-- what stands in a packet's bytes and whatever comes after it
record Spelled {P : Type 0} (f : Bodies P) (wide : Bool) (p : Header × P) (b more : List ℕ) : Type 0 where
  kind : le_at w32 0 b ≡ p.0.kind
  size : le_at w32 4 b ≡ p.0.length
  header : header_at wide b ≡ p.0
  behind : drop (head_size wide) b ≡ f.spelling p.1 ++ more

spelled : {P : Type 0} (f : Bodies P) (s : RedirState) (way : Way) (p : Header × P) (more : List ℕ) → IsPacket f s way p →
    Spelled f (is_wide s) p ((head_bytes (is_wide s) p.0 ++ f.spelling p.1) ++ more) more
spelled f s way p more is =
    let wide = is_wide s in
    let all = assoc f wide p more in
    let rest = f.spelling p.1 ++ more in
    let kind_fits = is.header.kind_fits in
    let length_fits = is.header.length_fits in
    record {
      kind = ap (le_at w32 0) all ∙ kind_there wide p.0 rest kind_fits;
      size = ap (le_at w32 4) all ∙ length_there wide p.0 rest length_fits;
      header = ap (header_at wide) all ∙ header_there wide p.0 rest kind_fits length_fits is.header.id_fits;
      behind = ap (drop (head_size wide)) all ∙ behind_there wide p.0 rest;
    }

pub number_there : {P : Type 0} (f : Bodies P) (s : RedirState) (way : Way) (p : Header × P) (more : List ℕ) → IsPacket f s way p →
    le_at w32 0 ((packets f s way).spelling p ++ more) ≡ f.number p.1
number_there f s way p more is = (spelled f s way p more is).kind ∙ is.kind

right : {P : Type 0} (f : Bodies P) (s : RedirState) (way : Way) → AreBodies f s way → (p : Header × P) (more : List ℕ) → IsPacket f s way p →
    wrong_at (packets f s way).checks ((packets f s way).spelling p ++ more) ≡ None
right f s way bodies p more is =
    let wide = is_wide s in
    let b = (head_bytes wide p.0 ++ f.spelling p.1) ++ more in
    let there = spelled f s way p more is in
    let long : head_size wide ≤ length b = omega (arith, length-append (head_bytes wide p.0 ++ f.spelling p.1) more, length-append (head_bytes wide p.0) (f.spelling p.1), length_head wide p.0) in
    let body = bodies.right p more is in
    let none : wrong_at (behind_head wide f.checks) b ≡ None =
    wrong_behind wide f.checks b long ∙ ap (option_map (past_head wide)) ((λ i. wrong_at (with_header (there.header i) f.checks) (there.behind i)) ∙ body) in
    none_passed (headed f s way) (behind_head wide f.checks) b (λ _ _. ap f.owns (there.kind ∙ is.kind) ∙ bodies.owned p.1, passes s way p.0 b (header_says is.header) there.kind there.size) none

size_by : (wide : Bool) (n m : ℕ) (b : List ℕ) → 8 ≤ length b → le_at w32 4 b ≡ n → head_size wide + n ≡ m → size wide b ≡ m
size_by wide n m b long e f = rw (le-ltb (length b) 8 long, e) f

size_there : {P : Type 0} (f : Bodies P) (s : RedirState) (way : Way) (p : Header × P) (more : List ℕ) → IsPacket f s way p →
    (packets f s way).size ((packets f s way).spelling p ++ more) ≡ length ((packets f s way).spelling p)
size_there f s way p more is =
    let wide = is_wide s in
    let least = size_least wide in
    let whole : length (head_bytes wide p.0 ++ f.spelling p.1) ≡ head_size wide + length (f.spelling p.1) = omega (arith, length-append (head_bytes wide p.0) (f.spelling p.1), length_head wide p.0) in
    let long : 8 ≤ length ((head_bytes wide p.0 ++ f.spelling p.1) ++ more) = omega (arith, length-append (head_bytes wide p.0 ++ f.spelling p.1) more, whole) in
    let there = spelled f s way p more is in
    size_by wide p.0.length _ ((head_bytes wide p.0 ++ f.spelling p.1) ++ more) long there.size (ap (λ (n : ℕ). head_size wide + n) is.length_is ∙ sym whole)

packet_there : {P : Type 0} (f : Bodies P) (s : RedirState) (way : Way) → AreBodies f s way → (p : Header × P) (more : List ℕ) → IsPacket f s way p →
    (packets f s way).packet ((packets f s way).spelling p ++ more) ≡ p
packet_there f s way bodies p more is =
    let there = spelled f s way p more is in
    let body : f.fields (header_at (is_wide s) ((head_bytes (is_wide s) p.0 ++ f.spelling p.1) ++ more)) (drop (head_size (is_wide s)) ((head_bytes (is_wide s) p.0 ++ f.spelling p.1) ++ more)) ≡ p.1 =
    (λ i. f.fields (there.header i) (there.behind i)) ∙ bodies.fields p more is in
    λ i. (there.header i, body i)

-- ---- what stays as it is

pub behind_steady : (wide : Bool) (cs : List BodyCheck) (n m : ℕ) → AreSteadyBehind n cs → m ≤ head_size wide + n → AreSteady m (behind_head wide cs)
behind_steady wide [] n m steady le = tt
behind_steady wide (c ∷ cs) n m steady le =
    let k = head_size wide in
    let same : (b more : List ℕ) → k + c.needed ≤ length b →
    (c.tried (le_at w32 0 (b ++ more)) ≡ c.tried (le_at w32 0 b)) × (c.passes (header_at wide (b ++ more)) (drop k (b ++ more)) ≡ c.passes (header_at wide b) (drop k b)) =
    λ b more there.
    let header = header_more wide b more (omega arith) in (
      ap (λ (h : Header). c.tried h.kind) header,
      (λ i. c.passes (header i) (drop-append-le k b more (omega arith) i)) ∙ steady.1 (header_at wide b) (drop k b) more (omega (arith, length-drop k b)),
    ) in
    (omega (arith, steady.0), same, behind_steady wide cs c.needed (k + c.needed) steady.2 (omega arith))

size_some : (wide : Bool) (b : List ℕ) → 0 < size wide b
size_some wide b = let least = size_least wide in grind (arith, common_steps)

pub packets_steady : {P : Type 0} (f : Bodies P) (s : RedirState) (way : Way) → AreSteadyBehind 0 f.checks → AreSteady 4 (packets f s way).checks
packets_steady f s way bodies =
    let wide = is_wide s in
    let least = size_least wide in (
      omega arith,
      λ b more there. (refl, ap f.owns (le_at-append_32 0 b more there)),
      heads_steady s way (behind_head wide f.checks) 4 (omega arith) (behind_steady wide f.checks 0 8 bodies (omega arith)),
    )

pub packets_sound : {P : Type 0} (f : Bodies P) (s : RedirState) (way : Way) → AreBodies f s way → IsSound (packets f s way)
packets_sound f s way bodies = record {
  found = λ b are none there. found f s way bodies b are none there;
  right = λ p more fits. right f s way bodies p more fits;
  size = λ p more fits. size_there f s way p more fits;
  packet = λ p more fits. packet_there f s way bodies p more fits;
  some = λ b. size_some (is_wide s) b;
  steady = stays_wrong (packets f s way).checks 4 (packets_steady f s way bodies.steady);
}
