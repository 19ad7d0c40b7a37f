-- What lets a reader wait for bytes: no later byte makes a packet shorter, and what is awaited of the type settles
-- which checks are tried.
use Rattle.std.proofs.Common.{◌≡◌, ℕ, ◌+◌, ◌<◌, ◌≤◌, ◌==◌, inl, inr, Bool, true, false, cond, List, [], ◌∷◌, ◌++◌, length, None, refl, sym, ap, ◌∙◌, arith}
use Rattle.std.specs.Prelude.{nat_lt}
use Rattle.std.specs.Int.{w32}
use Rattle.std.proofs.lemmas.Bool.{cases_lt, le-ltb, eqb-true}
use Rattle.std.proofs.lemmas.List.{length-append}
use Rattle.usb_base.specs.Number.{le_at}
use Rattle.usb_base.proofs.Numbers.{le_at-append_32}
use Rattle.packet_stream.specs.Format.{wrong_at}
use Rattle.packet_stream.specs.Awaited.{awaited}
use Rattle.packet_stream.proofs.Awaiting.{IsPatient, AreSettled, AreAtMost, first_soon, first_most}
use Rattle.redir_wire.specs.declared.packet.Caps.{Caps}
use Rattle.redir_wire.specs.declared.state.RedirState.{RedirState}
use Rattle.redir_wire.specs.declared.packet.Way.{Way}
use Rattle.redir_wire.specs.State.{is_wide}
use Rattle.redir_wire.specs.Header.{head_size, is_its_length}
use Rattle.redir_wire.specs.Bodies.{BodyCheck, Bodies, behind_head, packets}
use Rattle.redir_wire.specs.Plain.{controls, plain}
use Rattle.redir_wire.specs.Table.{has_length}
use Rattle.redir_wire.specs.declared.kind.Kind.TheVariants.{Plain}
use Rattle.redir_wire.specs.declared.kind.PlainKind.TheVariants as plain_kinds
use Rattle.redir_wire.proofs.Checks.{passed}
use Rattle.redir_wire.proofs.Headers.{size, size_least}
use Rattle.redir_wire.proofs.Numbers.{says}
use Rattle.redir_wire.proofs.Plain.{plain_bodies}
use Rattle.redir_wire.proofs.Packets.{AreSteadyBehind, headed, packets_steady}

-- ---- what bodies owe

-- each check needs no more than a header announces where it is tried
abbrev pub AreOwn : Caps → List BodyCheck → Type 0
AreOwn caps [] = Unit {0}
AreOwn caps (c ∷ cs) = ((kind length : ℕ) → c.tried kind ≡ true → is_its_length caps kind length ≡ true → c.needed ≤ length) × AreOwn caps cs

-- ---- how many bytes are awaited

-- without a whole type it is the first thing that is awaited, and then the length
no_type : {P : Type 0} (f : Bodies P) (s : RedirState) (way : Way) (b : List ℕ) → AreSteadyBehind 0 f.checks → length b < 4 → awaited (packets f s way) b ≤ 4
no_type f s way b steady less =
    first_soon (packets f s way).checks 4 b (size (is_wide s) b) 4 (packets_steady f s way steady) less (inl (refl, refl))

no_length : {P : Type 0} (f : Bodies P) (s : RedirState) (way : Way) (b : List ℕ) → AreSteadyBehind 0 f.checks → length b < 8 → awaited (packets f s way) b ≤ 8
no_length f s way b steady less =
    first_soon (packets f s way).checks 4 b (size (is_wide s) b) 8 (packets_steady f s way steady) less (inr (inr (inr (inr (inr (inl (refl, refl)))))))

-- ---- sizes

size_by : (t : Bool) (k n : ℕ) → k ≤ cond t k (k + n)
size_by true k n = omega arith
size_by false k n = omega arith

pub size_long : (wide : Bool) (b : List ℕ) → 12 ≤ size wide b
size_long wide b = let least = size_least wide in let long = size_by (nat_lt (length b) 8) (head_size wide) (le_at w32 4 b) in omega (arith, least, long)

size_told : (wide : Bool) (b : List ℕ) → 8 ≤ length b → size wide b ≡ head_size wide + le_at w32 4 b
size_told wide b there = rw (le-ltb (length b) 8 there) refl

same_size : (wide : Bool) (b more : List ℕ) → 8 ≤ length b → size wide (b ++ more) ≡ size wide b
same_size wide b more there =
    size_told wide (b ++ more) (omega (arith, there, length-append b more))
    ∙ ap (λ (n : ℕ). head_size wide + n) (le_at-append_32 4 b more there)
    ∙ sym (size_told wide b there)

at_most_behind : (wide : Bool) (caps : Caps) (cs : List BodyCheck) (b : List ℕ) (n : ℕ) → AreOwn caps cs → is_its_length caps (le_at w32 0 b) (le_at w32 4 b) ≡ true → head_size wide + le_at w32 4 b ≤ n → AreAtMost n (behind_head wide cs) b
at_most_behind wide caps [] b n own its le = tt
at_most_behind wide caps (c ∷ cs) b n own its le =
    (λ tried less. let most = own.0 (le_at w32 0 b) (le_at w32 4 b) tried its in omega (arith, most, le), at_most_behind wide caps cs b n own.1 its le)

most_told : {P : Type 0} (f : Bodies P) (s : RedirState) (way : Way) (b : List ℕ) → AreOwn s.caps f.checks → 8 ≤ length b → wrong_at (packets f s way).checks b ≡ None →
    awaited (packets f s way) b ≤ size (is_wide s) b
most_told f s way b own there none =
    let wide = is_wide s in
    let checks = passed (headed f s way) (behind_head wide f.checks) b none in
    let its = checks.0.1.1.1.1.1.1.0 refl there in
    let told = size_told wide b there in
    let long = size_long wide b in
    let late : (n : ℕ) → n ≤ 8 → n ≤ size wide b = λ n le. omega (arith, le, long) in
    first_most (packets f s way).checks (size wide b) b (size wide b) (
      λ _ _. late 4 (omega arith),
      (
        λ _ _. late 4 (omega arith),
        (
          λ _ _. late 4 (omega arith),
          (
            λ _ _. late 4 (omega arith),
            (λ _ _. late 4 (omega arith), (λ _ _. late 8 (omega arith), (λ _ _. late 8 (omega arith), at_most_behind wide s.caps f.checks b (size wide b) own its (omega (arith, told))))),
          ),
        ),
      ),
    )
    (omega arith)

most : {P : Type 0} (f : Bodies P) (s : RedirState) (way : Way) (b : List ℕ) → AreSteadyBehind 0 f.checks → AreOwn s.caps f.checks → wrong_at (packets f s way).checks b ≡ None →
    awaited (packets f s way) b ≤ size (is_wide s) b
most f s way b steady own none = elim (cases_lt (length b) 8) [
  | inl short ↦ omega (arith, no_length f s way b steady short, size_long (is_wide s) b)
  | inr there ↦ most_told f s way b own there none
]

longer : {P : Type 0} (f : Bodies P) (s : RedirState) (way : Way) (b more : List ℕ) → AreSteadyBehind 0 f.checks → AreOwn s.caps f.checks → wrong_at (packets f s way).checks b ≡ None →
    length (b ++ more) < awaited (packets f s way) b → length (b ++ more) < size (is_wide s) (b ++ more)
longer f s way b more steady own none less = elim (cases_lt (length b) 8) [
  | inl short ↦ omega (arith, less, no_length f s way b steady short, size_long (is_wide s) (b ++ more))
  | inr there ↦ omega (arith, less, most f s way b steady own none, same_size (is_wide s) b more there)
]

-- ---- which checks are tried

settled_behind : (wide : Bool) (cs : List BodyCheck) (b x : List ℕ) → (8 ≤ length x → le_at w32 0 x ≡ le_at w32 0 b) → AreSettled (behind_head wide cs) b x
settled_behind wide [] b x same = tt
settled_behind wide (c ∷ cs) b x same = (λ there. let least = size_least wide in ap c.tried (same (omega (arith, least, there))), settled_behind wide cs b x same)

same_type : {P : Type 0} (f : Bodies P) (s : RedirState) (way : Way) (b more : List ℕ) → AreSteadyBehind 0 f.checks → length (b ++ more) < awaited (packets f s way) b → 8 ≤ length (b ++ more) →
    le_at w32 0 (b ++ more) ≡ le_at w32 0 b
same_type f s way b more steady less there = elim (cases_lt (length b) 4) [
  | inl short ↦ absurd (omega (arith, less, no_type f s way b steady short, there))
  | inr enough ↦ le_at-append_32 0 b more enough
]

settled : {P : Type 0} (f : Bodies P) (s : RedirState) (way : Way) (b more : List ℕ) → AreSteadyBehind 0 f.checks → length (b ++ more) < awaited (packets f s way) b →
    AreSettled (packets f s way).checks b (b ++ more)
settled f s way b more steady less =
    let behind = settled_behind (is_wide s) f.checks b (b ++ more) (same_type f s way b more steady less) in
    (λ there. refl, (λ there. refl, (λ there. refl, (λ there. refl, (λ there. refl, (λ there. refl, (λ there. refl, behind)))))))

-- ---- the law

pub packets_patient : {P : Type 0} (f : Bodies P) (s : RedirState) (way : Way) → AreSteadyBehind 0 f.checks → AreOwn s.caps f.checks → IsPatient (packets f s way)
packets_patient f s way steady own = record {
  first = 4;
  steady = packets_steady f s way steady;
  settled = λ b more less. settled f s way b more steady less;
  longer = λ b more none less. longer f s way b more steady own none less;
  most = λ b none. most f s way b steady own none;
}

-- ---- the packets that move no data

count_there : (caps : Caps) (kind length : ℕ) → (kind == 4) ≡ true → is_its_length caps kind length ≡ true → 4 ≤ length
count_there caps kind length is its =
    let same : is_its_length caps 4 length ≡ true = sym (ap (λ (n : ℕ). is_its_length caps n length) (eqb-true kind 4 is)) ∙ its in
    let told : (length == 132) ≡ true = sym (says (λ r. has_length caps r length) (Plain plain_kinds.InterfaceInfo)) ∙ same in
    omega (arith, eqb-true length 132 told)

pub controls_own : (caps : Caps) → AreOwn caps (controls caps).checks
controls_own caps = (count_there caps, tt)

pub plain_patient : (s : RedirState) (way : Way) → IsPatient (plain s way)
plain_patient s way = packets_patient (controls s.caps) s way (plain_bodies s way).steady (controls_own s.caps)
