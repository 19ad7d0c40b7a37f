-- What lets a reader wait for bytes: no later byte makes a request shorter, and what is awaited of the command
-- settles which checks are tried.
use Rattle.std.proofs.Common.{◌≡◌, ℕ, ◌+◌, ◌*◌, ◌<◌, ◌≤◌, ◌==◌, ◌⊎◌, inl, inr, Bool, true, false, cond, List, ◌++◌, length, refl, arith}
use Rattle.std.specs.Int.{w32}
use Rattle.std.proofs.lemmas.Bool.{cases_lt}
use Rattle.usb_base.specs.Number.{be_at}
use Rattle.usb_base.proofs.Numbers.{be_at-append_32}
use Rattle.packet_stream.specs.Awaited.{awaited}
use Rattle.packet_stream.proofs.Awaiting.{IsPatient, AreSettled, guarded-settled, first_soon, first_within}
use Rattle.usbip_urb.specs.declared.code.TheConstants.{USBIP_CMD_SUBMIT}
use Rattle.usbip_urb.specs.Sizes.{is_out, body_size, count_of, whole_size}
use Rattle.usbip_urb.specs.Checks.{has_command, size_checks, request_checks}
use Rattle.usbip_urb.specs.Requests.{requests}
use Rattle.usbip_urb.specs.Sound.Limits.{same_command, sizes_steady}
use Rattle.usbip_urb.specs.Sound.Requests.{requests_steady, long_enough}

-- ---- how many bytes are awaited

within : (b : List ℕ) → (awaited requests b ≤ 36) ⊎ (awaited requests b ≡ requests.size b)
within b = first_within request_checks 36 b (requests.size b) (omega arith, (omega arith, (omega arith, (omega arith, (omega arith, (omega arith, (omega arith, tt)))))))

-- without a whole command it is the first thing that is awaited
no_command : (b : List ℕ) → length b < 4 → awaited requests b ≤ 4
no_command b less = first_soon request_checks 2 b (requests.size b) 4 requests_steady less (inr (inl (refl, refl)))

-- a submit without a whole count of packets awaits no more than that
no_count : (b : List ℕ) → length b < 36 → has_command USBIP_CMD_SUBMIT b ≡ true → awaited requests b ≤ 36
no_count b less submit = first_soon request_checks 2 b (requests.size b) 36 requests_steady less (inr (inr (inr (inr (inr (inr (inl (rw submit refl, refl))))))))

-- ---- sizes

size_by : (submit : Bool) (n : ℕ) → submit ≡ false → cond submit n 48 ≡ 48
size_by true n e = absurd cc
size_by false n e = refl

other_size : (b : List ℕ) → has_command USBIP_CMD_SUBMIT b ≡ false → requests.size b ≡ 48
other_size b e = size_by (has_command USBIP_CMD_SUBMIT b) (whole_size (is_out (be_at w32 12 b)) b) e

same_size : (b more : List ℕ) → 36 ≤ length b → requests.size (b ++ more) ≡ requests.size b
same_size b more there =
    let command = be_at-append_32 0 b more (omega arith) in
    let direction = be_at-append_32 12 b more (omega arith) in
    let told = be_at-append_32 24 b more (omega arith) in
    let packets = be_at-append_32 32 b more there in
    λ i. cond (command i == USBIP_CMD_SUBMIT) ((48 + body_size (is_out (direction i)) (told i)) + count_of (packets i) * 16) 48

longer_by : (b more : List ℕ) → length (b ++ more) < awaited requests b → (submit : Bool) → has_command USBIP_CMD_SUBMIT b ≡ submit → length b < 36 → length (b ++ more) < requests.size (b ++ more)
longer_by b more less true e short = omega (arith, less, no_count b short e, long_enough (b ++ more))
longer_by b more less false e short = elim (within b) [
  | inl few ↦ omega (arith, less, few, long_enough (b ++ more))
  | inr all ↦ omega (arith, less, all, other_size b e, long_enough (b ++ more))
]

most : (b : List ℕ) → awaited requests b ≤ requests.size b
most b = elim (within b) [
  | inl few ↦ omega (arith, few, long_enough b)
  | inr all ↦ omega (arith, all)
]

longer : (b more : List ℕ) → length (b ++ more) < awaited requests b → length (b ++ more) < requests.size (b ++ more)
longer b more less = elim (cases_lt (length b) 36) [
  | inl short ↦ longer_by b more less (has_command USBIP_CMD_SUBMIT b) refl short
  | inr there ↦ omega (arith, less, most b, same_size b more there)
]

-- ---- what is awaited of the command settles what is tried in a submit alone

settled : (b more : List ℕ) → length (b ++ more) < awaited requests b → AreSettled request_checks b (b ++ more)
settled b more less =
    let submit : 28 ≤ length (b ++ more) → has_command USBIP_CMD_SUBMIT (b ++ more) ≡ has_command USBIP_CMD_SUBMIT b =
    λ there. elim (cases_lt (length b) 4) [
      | inl short ↦ absurd (omega (arith, less, no_command b short, there))
      | inr enough ↦ same_command USBIP_CMD_SUBMIT b more enough
    ] in
    let sizes = guarded-settled (has_command USBIP_CMD_SUBMIT) 28 size_checks b (b ++ more) submit (sizes_steady 28 (omega arith)) (λ there. refl, (λ there. refl, tt)) in
    (λ there. refl, (λ there. refl, (λ there. refl, (λ there. refl, (λ there. refl, sizes)))))

pub requests_patient : IsPatient requests
requests_patient = record { first = 2; steady = requests_steady; settled = settled; longer = λ b more none less. longer b more less; most = λ b none. most b }
