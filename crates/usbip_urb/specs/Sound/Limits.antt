-- The two checks that a submit and its answer have beyond the others.
use Rattle.std.proofs.Common.{◌≡◌, ℕ, ◌≤◌, ◌==◌, Bool, true, false, List, [], ◌∷◌, ◌++◌, length, IsTrue, None, refl, sym, ap, ◌∙◌, arith, ◌⊎◌, inl, inr}
use Rattle.std.specs.Prelude.{nat_le, ◌||◌}
use Rattle.std.specs.Int.{w32}
use Rattle.std.proofs.lemmas.Bool.{leb-true, le-leb, eqb-true, eq-eqb, or_cases}
use Rattle.std.proofs.Math.Bool.{or-true}
use Rattle.usb_base.specs.Number.{be_at}
use Rattle.usb_base.proofs.Numbers.{be_at-append_32}
use Rattle.usb_base.specs.declared.reason.Reason.{Reason}
use Rattle.usb_base.specs.declared.reason.Reason.TheVariants.{TooLong, Packets}
use Rattle.packet_stream.specs.Format.{Check, wrong_at}
use Rattle.packet_stream.specs.Joined.{guarded}
use Rattle.packet_stream.proofs.Formats.{AreSteady, none_first, none_later, none_from}
use Rattle.packet_stream.proofs.Joins.{none_guarded, all_guarded, guarded-steady}
use Rattle.usb_base.specs.declared.limits.TheConstants.{MAX_TRANSFER}
use Rattle.usbip_urb.specs.Ranges.{is_packet_count}
use Rattle.usbip_urb.specs.Checks.{number_check, has_command, size_checks}

pub record IsWithinLimits (b : List ℕ) : Type 0 where
  pub few_bytes : be_at w32 24 b ≤ MAX_TRANSFER
  pub few_packets : IsTrue (is_packet_count (be_at w32 32 b))

abbrev length_check : Check Reason
length_check = number_check 24 TooLong (λ length. nat_le length MAX_TRANSFER)

abbrev packets_check : Check Reason
packets_check = number_check 32 Packets is_packet_count

pub limits_right : (command : ℕ) (b : List ℕ) → (be_at w32 0 b ≡ command → IsWithinLimits b) → wrong_at (guarded (has_command command) size_checks) b ≡ None
limits_right command b within = go (has_command command b) refl
  where
    go : (t : Bool) → has_command command b ≡ t → wrong_at (guarded (has_command command) size_checks) b ≡ None
    go false e = none_guarded (has_command command) size_checks b e
    go true e =
        let is = within (eqb-true (be_at w32 0 b) command e) in
        all_guarded (has_command command) size_checks b e
        ∙ none_from length_check (packets_check ∷ []) b (λ _ _. le-leb (be_at w32 24 b) MAX_TRANSFER is.few_bytes)
        (none_from packets_check [] b (λ _ _. is.few_packets) refl)

pub limits_found : (command : ℕ) (b : List ℕ) → wrong_at (guarded (has_command command) size_checks) b ≡ None → 36 ≤ length b → be_at w32 0 b ≡ command → IsWithinLimits b
limits_found command b none there e =
    let all = sym (all_guarded (has_command command) size_checks b (eq-eqb (be_at w32 0 b) command e)) ∙ none in
    record {
      few_bytes = leb-true (be_at w32 24 b) MAX_TRANSFER (none_first length_check (packets_check ∷ []) b all refl (omega arith));
      few_packets = none_first packets_check [] b (none_later length_check (packets_check ∷ []) b all) refl there;
    }

pub same_command : (command : ℕ) (b more : List ℕ) → 4 ≤ length b → has_command command (b ++ more) ≡ has_command command b
same_command command b more there = ap (λ (n : ℕ). n == command) (be_at-append_32 0 b more there)

pub sizes_steady : (n : ℕ) → n ≤ 28 → AreSteady n size_checks
sizes_steady n less = (
  less,
  λ b more there. (refl, ap (λ (k : ℕ). nat_le k MAX_TRANSFER) (be_at-append_32 24 b more there)),
  (omega arith, λ b more there. (refl, ap is_packet_count (be_at-append_32 32 b more there)), tt),
)

pub limits_steady : (command n : ℕ) → 4 ≤ n → n ≤ 28 → AreSteady n (guarded (has_command command) size_checks)
limits_steady command n least less = guarded-steady (has_command command) 4 n size_checks (same_command command) least (sizes_steady n less)

-- ---- which packet it is

pub is_one_of : (a b n : ℕ) → (n ≡ a) ⊎ (n ≡ b) → ((n == a) || (n == b)) ≡ true
is_one_of a b n (inl e) = rw (eq-eqb n a e) refl
is_one_of a b n (inr e) = rw (eq-eqb n b e) (or-true (n == a))

pub one_of : (a b n : ℕ) → ((n == a) || (n == b)) ≡ true → (n ≡ a) ⊎ (n ≡ b)
one_of a b n e = elim (or_cases (n == a) (n == b) e) [
  | inl h ↦ inl (eqb-true n a h)
  | inr h ↦ inr (eqb-true n b h)
]
