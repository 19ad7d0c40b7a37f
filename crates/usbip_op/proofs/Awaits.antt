-- What lets a reader wait for bytes: no later byte makes a packet shorter, and what is awaited of the head settles
-- whether the count is tried.
use Rattle.std.proofs.Common.{◌≡◌, ℕ, zero, suc, ◌+◌, ◌*◌, ◌<◌, ◌≤◌, ◌==◌, inl, inr, Bool, true, false, cond, List, [], ◌∷◌, ◌++◌, length, drop, refl, sym, ap, subst, ◌∙◌, arith}
use Rattle.std.specs.Prelude.{nat_le, nat_lt, not, ◌&&◌}
use Rattle.std.specs.Int.{w16, w32}
use Rattle.std.proofs.lemmas.Bool.{and_parts, cases_lt, le-ltb, lt-ltb, leb-true}
use Rattle.std.proofs.lemmas.Grind.{common_steps}
use Rattle.std.proofs.lemmas.List.{length-append, drop_all, drop-append-le, get_or_past, get_or_append_left}
use Rattle.usb_base.specs.Number.{be_at, byte_at}
use Rattle.usb_base.proofs.Numbers.{be_at-append_16, be_at-append_32}
use Rattle.packet_stream.specs.Awaited.{awaited}
use Rattle.packet_stream.proofs.Awaiting.{IsPatient}
use Rattle.usbip_op.specs.Rows.{rows_size}
use Rattle.usbip_op.specs.Devices.{listed_form}
use Rattle.usbip_op.specs.declared.packet.OpWay.{OpWay}
use Rattle.usbip_op.specs.declared.packet.OpWay.TheVariants.{Request, Reply}
use Rattle.usbip_op.specs.Packets.{packets_of}
use Rattle.usbip_op.specs.Requests.{requests}
use Rattle.usbip_op.proofs.Requests.{request_size_by}
use Rattle.usbip_op.specs.Replies.{replies, has_count, reply_size_by, reply_size, count_check}
use Rattle.usbip_op.proofs.Heads.{heads_steady}
use Rattle.usbip_op.proofs.Replies.{counts, headed_count, size_headed, reply_long, same_count, count_steady}

-- ---- both ways: the first 4 bytes

head_by : (t u : Bool) (n m : ℕ) → n ≤ m → 4 ≤ m → cond (true && t) 2 (cond (true && u) 4 n) ≤ m
head_by true u n m most long = omega arith
head_by false true n m most long = long
head_by false false n m most long = most

at_most : (t u : Bool) (n : ℕ) → u ≡ true → cond (true && t) 2 (cond (true && u) 4 n) ≤ 4
at_most true u n e = omega arith
at_most false true n e = omega arith
at_most false false n e = absurd cc

headed : (t u : Bool) (n : ℕ) → t ≡ false → u ≡ false → cond (true && t) 2 (cond (true && u) 4 n) ≡ n
headed true u n e f = absurd cc
headed false true n e f = absurd cc
headed false false n e f = refl

-- ---- requests

request_least : (t : Bool) → 8 ≤ cond t 8 40
request_least true = omega arith
request_least false = omega arith

request_longer : (b more : List ℕ) → length (b ++ more) < awaited requests b → length (b ++ more) < requests.size (b ++ more)
request_longer b more less =
    let n = requests.size b in
    let some = request_least (be_at w16 2 (b ++ more) == 0x8005) in
    elim (cases_lt (length b) 4) [
      | inl short ↦ let most = at_most (nat_lt (length b) 2) (nat_lt (length b) 4) n (lt-ltb (length b) 4 short) in omega (arith, less, most, some)
      | inr there ↦
          let is = headed (nat_lt (length b) 2) (nat_lt (length b) 4) n (le-ltb (length b) 2 (omega arith)) (le-ltb (length b) 4 there) in
          let same : requests.size (b ++ more) ≡ n = ap request_size_by (be_at-append_16 2 b more there) in
          omega (arith, less, is, same)
    ]

pub requests_patient : IsPatient requests
requests_patient = record {
  first = 0;
  steady = heads_steady 0x8005 0x8003 [] tt;
  settled = λ b more less. (λ there. refl, (λ there. refl, tt));
  longer = λ b more none less. request_longer b more less;
  most = λ b none. let some = request_least (be_at w16 2 b == 0x8005) in head_by (nat_lt (length b) 2) (nat_lt (length b) 4) (requests.size b) (requests.size b) (omega arith) (omega (arith, some));
}

-- ---- rows

rows_none : (n : ℕ) → rows_size listed_form n [] ≡ n * 312
rows_none zero = refl
rows_none (suc n) = let later = rows_none n in omega (arith, later)

rows_least : (n : ℕ) (b : List ℕ) → n * 312 ≤ rows_size listed_form n b
rows_least zero b = omega arith
rows_least (suc n) b = let later = rows_least n (drop (312 + byte_at 311 b * 4) b) in omega (arith, later)

rows_past : (n : ℕ) (b x : List ℕ) → b ≡ [] → rows_size listed_form n b ≤ rows_size listed_form n x
rows_past n b x e = let is : rows_size listed_form n b ≡ n * 312 = ap (rows_size listed_form n) e ∙ rows_none n in let least = rows_least n x in omega (arith, is, least)

-- more bytes make rows no shorter
pub rows_longer : (n : ℕ) (b more : List ℕ) → rows_size listed_form n b ≤ rows_size listed_form n (b ++ more)
rows_longer zero b more = omega arith
rows_longer (suc n) b more =
    let s = 312 + byte_at 311 b * 4 in
    elim (cases_lt (length b) 312) [
      | inl less ↦
          let none : byte_at 311 b ≡ 0 = get_or_past b 311 0 (omega arith) in
          let size : s ≡ 312 = ap (λ (k : ℕ). 312 + k * 4) none in
          let empty : drop s b ≡ [] = drop_all s b (omega (arith, size)) in
          let later = rows_past n (drop s b) (drop (312 + byte_at 311 (b ++ more) * 4) (b ++ more)) empty in
          omega (arith, size, later)
      | inr there ↦
          let same : byte_at 311 (b ++ more) ≡ byte_at 311 b = get_or_append_left b more 0 311 (omega arith) in
          let later : rows_size listed_form n (drop s b) ≤ rows_size listed_form n (drop s (b ++ more)) =
          elim (cases_lt (length b) s) [
            | inl past ↦ rows_past n (drop s b) (drop s (b ++ more)) (drop_all s b (omega arith))
            | inr enough ↦ subst (λ (y : List ℕ). rows_size listed_form n (drop s b) ≤ rows_size listed_form n y) (sym (drop-append-le s b more enough)) (rows_longer n (drop s b) more)
          ] in
          subst (λ (k : ℕ). s + rows_size listed_form n (drop s b) ≤ (312 + k * 4) + rows_size listed_form n (drop (312 + k * 4) (b ++ more))) (sym same) (omega (arith, later))
    ]

-- ---- replies

-- what is awaited behind the head
abbrev behind_head : List ℕ → ℕ
behind_head b = cond (has_count b && nat_lt (length b) 12) 12 (reply_size b)

-- without its head
short_size : (b : List ℕ) → length b < 8 → reply_size b ≡ 8
short_size b less = rw (lt-ltb (length b) 8 less) refl

short_count : (b : List ℕ) → length b < 8 → has_count b ≡ false
short_count b less = rw (lt-leb (length b) less) refl
  where
    lt-leb : (n : ℕ) → n < 8 → nat_le 8 n ≡ false
    lt-leb n less = grind (arith, common_steps)

short_behind : (b : List ℕ) → length b < 8 → behind_head b ≡ 8
short_behind b less = rw (short_count b less) (short_size b less)

-- with it
list_least : (code status : Bool) (r : ℕ) → (code && status) ≡ true → 12 ≤ cond (not status) 8 (cond code (12 + r) 320)
list_least true true r e = omega arith
list_least true false r e = absurd cc
list_least false status r e = absurd cc

-- a list that succeeds has at least its count
list_size : (b : List ℕ) → 8 ≤ length b → counts (be_at w16 2 b) (be_at w32 4 b) ≡ true → 12 ≤ reply_size b
list_size b there e =
    let least = list_least (be_at w16 2 b == 0x0005) (be_at w32 4 b == 0) (rows_size listed_form (be_at w32 8 b) (drop 12 b)) e in
    omega (arith, least, size_headed b there)

other_by : (code status : Bool) (m n : ℕ) → (code && status) ≡ false → cond (not status) 8 (cond code m 320) ≡ cond (not status) 8 (cond code n 320)
other_by true true m n e = absurd cc
other_by true false m n e = refl
other_by false true m n e = refl
other_by false false m n e = refl

-- any other reply has the same size whatever comes later
other_size : (code status : ℕ) (b x : List ℕ) → counts code status ≡ false → reply_size_by code status b ≡ reply_size_by code status x
other_size code status b x e = other_by (code == 0x0005) (status == 0) (12 + rows_size listed_form (be_at w32 8 b) (drop 12 b)) (12 + rows_size listed_form (be_at w32 8 x) (drop 12 x)) e

size_by : (status code : Bool) (m n : ℕ) → m ≤ n → cond (not status) 8 (cond code (12 + m) 320) ≤ cond (not status) 8 (cond code (12 + n) 320)
size_by false code m n le = omega arith
size_by true true m n le = omega arith
size_by true false m n le = omega arith

rows_grow : (b more : List ℕ) → 12 ≤ length b → rows_size listed_form (be_at w32 8 b) (drop 12 b) ≤ rows_size listed_form (be_at w32 8 (b ++ more)) (drop 12 (b ++ more))
rows_grow b more there =
    let longer = rows_longer (be_at w32 8 b) (drop 12 b) more in
    let same : rows_size listed_form (be_at w32 8 (b ++ more)) (drop 12 (b ++ more)) ≡ rows_size listed_form (be_at w32 8 b) (drop 12 b ++ more) =
    (λ i. rows_size listed_form (be_at-append_32 8 b more there i) (drop-append-le 12 b more there i)) in
    omega (arith, longer, same)

-- what stands in the head, whatever comes later
record SameHead (b x : List ℕ) : Type 0 where
  code : be_at w16 2 x ≡ be_at w16 2 b
  status : be_at w32 4 x ≡ be_at w32 4 b
  size : reply_size x ≡ reply_size_by (be_at w16 2 b) (be_at w32 4 b) x

same_head : (b more : List ℕ) → 8 ≤ length b → SameHead b (b ++ more)
same_head b more there =
    let x = b ++ more in
    let code : be_at w16 2 x ≡ be_at w16 2 b = be_at-append_16 2 b more (omega arith) in
    let status : be_at w32 4 x ≡ be_at w32 4 b = be_at-append_32 4 b more there in
    record {
      code = code;
      status = status;
      size = size_headed x (omega (arith, there, length-append b more)) ∙ (λ i. reply_size_by (code i) (status i) x);
    }

reply_grows : (b more : List ℕ) → 12 ≤ length b → reply_size b ≤ reply_size (b ++ more)
reply_grows b more there =
    let grows = size_by (be_at w32 4 b == 0) (be_at w16 2 b == 0x0005) (rows_size listed_form (be_at w32 8 b) (drop 12 b)) (rows_size listed_form (be_at w32 8 (b ++ more)) (drop 12 (b ++ more))) (rows_grow b more there) in
    omega (arith, size_headed b (omega arith), (same_head b more (omega arith)).size, grows)

counted : (b more : List ℕ) → 8 ≤ length b → counts (be_at w16 2 (b ++ more)) (be_at w32 4 (b ++ more)) ≡ counts (be_at w16 2 b) (be_at w32 4 b)
counted b more there = let same = same_head b more there in (λ i. counts (same.code i) (same.status i))

-- between the head and the count
longer_by : (b more : List ℕ) (t : Bool) → 8 ≤ length b → length b < 12 → counts (be_at w16 2 b) (be_at w32 4 b) ≡ t → length (b ++ more) < cond (t && nat_lt (length b) 12) 12 (reply_size b) → length (b ++ more) < reply_size (b ++ more)
longer_by b more true there short e less =
    let least = list_size (b ++ more) (omega (arith, there, length-append b more)) (counted b more there ∙ e) in
    let below : length (b ++ more) < 12 = rw (lt-ltb (length b) 12 short) at less in
    omega (arith, least, below)
longer_by b more false there short e less =
    let same = other_size (be_at w16 2 b) (be_at w32 4 b) b (b ++ more) e in
    omega (arith, less, size_headed b there, (same_head b more there).size, same)

behind_longer : (b more : List ℕ) → length (b ++ more) < behind_head b → length (b ++ more) < reply_size (b ++ more)
behind_longer b more less =
    elim (cases_lt (length b) 8) [
      | inl short ↦ let long = reply_long (b ++ more) in omega (arith, less, short_behind b short, long)
      | inr there ↦
          elim (cases_lt (length b) 12) [
            | inl between ↦ longer_by b more (counts (be_at w16 2 b) (be_at w32 4 b)) there between refl (rw (headed_count b there) at less)
            | inr enough ↦
                let none : (has_count b && nat_lt (length b) 12) ≡ false = rw (le-ltb (length b) 12 enough) (and_no (has_count b)) in
                let below : length (b ++ more) < reply_size b = rw none at less in
                let grows = reply_grows b more enough in
                omega (arith, below, grows)
          ]
    ]
  where
    and_no : (t : Bool) → (t && false) ≡ false
    and_no true = refl
    and_no false = refl

-- ---- what is awaited of the head settles whether there is a count

count_settled : (b more : List ℕ) → length (b ++ more) < behind_head b → 12 ≤ length (b ++ more) → has_count (b ++ more) ≡ has_count b
count_settled b more less there = elim (cases_lt (length b) 8) [
  | inl short ↦ absurd (omega (arith, less, short_behind b short, there))
  | inr whole ↦ same_count b more whole
]

-- ---- the law

-- with less than the code
behind_by : (t u : Bool) (k n : ℕ) → k < cond (true && t) 2 (cond (true && u) 4 n) → 4 ≤ n → k < n
behind_by true u k n less long = omega arith
behind_by false true k n less long = omega arith
behind_by false false k n less long = less

behind_long : (t : Bool) (n : ℕ) → 8 ≤ n → 4 ≤ cond t 12 n
behind_long true n long = omega arith
behind_long false n long = omega arith

behind : (b more : List ℕ) → length (b ++ more) < awaited replies b → length (b ++ more) < behind_head b
behind b more less = behind_by (nat_lt (length b) 2) (nat_lt (length b) 4) (length (b ++ more)) (behind_head b) less (behind_long (has_count b && nat_lt (length b) 12) (reply_size b) (reply_long b))

count_most : (t u : Bool) (n : ℕ) → (t ≡ true → 12 ≤ n) → cond (t && u) 12 n ≤ n
count_most true true n most = most refl
count_most true false n most = omega arith
count_most false u n most = omega arith

behind_most : (b : List ℕ) → behind_head b ≤ reply_size b
behind_most b = count_most (has_count b) (nat_lt (length b) 12) (reply_size b) (λ e.
    let parts = and_parts (nat_le 8 (length b)) (counts (be_at w16 2 b) (be_at w32 4 b)) e in
    list_size b (leb-true 8 (length b) parts.0) parts.1)

pub replies_patient : IsPatient replies
replies_patient = record {
  first = 0;
  steady = heads_steady 0x0005 0x0003 (count_check ∷ []) (omega arith, count_steady, tt);
  settled = λ b more less. (λ there. refl, (λ there. refl, (λ there. count_settled b more (behind b more less) there, tt)));
  longer = λ b more none less. behind_longer b more (behind b more less);
  most = λ b none. head_by (nat_lt (length b) 2) (nat_lt (length b) 4) (behind_head b) (reply_size b) (behind_most b) (omega (arith, reply_long b));
}

-- ---- either way

pub patient : (way : OpWay) → IsPatient (packets_of way)
patient Request = requests_patient
patient Reply = replies_patient

-- behind the version the code is awaited
pub awaits_code : (way : OpWay) (b : List ℕ) → 2 ≤ length b → length b < 4 → awaited (packets_of way) b ≡ 4
awaits_code Request b there less = rw (le-ltb (length b) 2 there, lt-ltb (length b) 4 less) refl
awaits_code Reply b there less = rw (le-ltb (length b) 2 there, lt-ltb (length b) 4 less) refl
