-- What holds of every function holds of those of the keyboard, the loop and the tone.
use Rattle.std.proofs.Common.{◌≡◌, ℕ, ◌+◌, ◌≤◌, true, false, List, length, None, refl, sym, ◌∙◌, arith}
use Rattle.std.specs.Prelude.{◌==◌, ◌&&◌, nat_lt, not, IfSome}
use Rattle.std.proofs.lemmas.Bool.{false≢true, cond_both}
use Rattle.std.proofs.lemmas.List.{length-take, length-replicate}
use Rattle.usb_base.specs.Endpoint.{is_in_endpoint}
use Rattle.usb_base.specs.Number.{le_at}
use Rattle.usb_base.specs.declared.transfer.Transfer.{Transfer}
use Rattle.chapter9.specs.Descriptors.{parts_of, wrong_place}
use Rattle.chapter9.specs.declared.standard_requests.DescriptorSet.{DescriptorSet}
use Rattle.model_device.specs.declared.gadget.TheConstants.{MAX_STREAM_PACKET}
use Rattle.model_device.specs.Transfer.{IsTransfer, IsOutcome}
use Rattle.model_device.specs.Gadget.{IsNamed}
use Rattle.model_device.specs.Function.{IsFunction, no_iso_out}
use Rattle.model_device.specs.InTurn.{in_turn}
use Rattle.model_device.specs.Keyboard.{key_count, keyboard, report}
use Rattle.model_device.specs.declared.loopback.TheConstants.{MOST_HELD}
use Rattle.model_device.specs.Loopback.{given_back, loopback, taken_in}
use Rattle.model_device.specs.Tone.{samples, tone}
use Rattle.model_device.specs.inner.Lawful.{stall_outcome}

-- ---- what only sends, where its packets are short

in_turn_lawful : (count : ℕ) (body_of : ℕ → List ℕ) (set : DescriptorSet) → wrong_place set.config ≡ None → no_iso_out (parts_of set.config) ≡ true → ((offers : ℕ) → length (body_of offers) ≤ MAX_STREAM_PACKET) → IsFunction (in_turn count body_of set)
in_turn_lawful count body_of set walks endpoints short = record {
  configuration = walks;
  outcomes = λ offers t it e. stall_outcome t;
  packets = λ offers ep. cond_both (ep == 0x81) _ None (λ o. IfSome o (λ sent. length sent.1.body ≤ MAX_STREAM_PACKET)) (λ e. short offers) (λ e. tt);
  named = λ offers t. refl;
  packets_named = λ offers ep. cond_both (ep == 0x81) _ None (λ o. IfSome o (λ sent. IsNamed sent.1.status)) (λ e. refl) (λ e. tt);
  endpoints = endpoints;
}

-- ---- the loop's outcomes

given_back_outcome : (held : List ℕ) (t : Transfer) → is_in_endpoint t.ep ≡ true → IfSome (given_back held t.wanted) (λ done. IsOutcome t done.1)
given_back_outcome held t e =
    cond_both (length held == 0 && not (t.wanted == 0)) None _ (λ o. IfSome o (λ done. IsOutcome t done.1)) (λ w. tt)
    (λ w. record { done = omega (arith, length-take t.wanted held); from_device = λ f. refl; to_device = λ f. absurd (false≢true (sym f ∙ e)) })

taken_in_outcome : (held : List ℕ) (t : Transfer) → IsTransfer t → is_in_endpoint t.ep ≡ false → IfSome (taken_in held t.body) (λ done. IsOutcome t done.1)
taken_in_outcome held t it e =
    cond_both (nat_lt MOST_HELD (length t.body)) _ _ (λ o. IfSome o (λ done. IsOutcome t done.1)) (λ w. stall_outcome t)
    (λ w. cond_both (nat_lt MOST_HELD (length held + length t.body)) None _ (λ o. IfSome o (λ done. IsOutcome t done.1)) (λ v. tt)
    (λ v. let wants = it.to_device e in record { done = omega arith; from_device = λ f. absurd (false≢true (sym e ∙ f)); to_device = λ f. refl }))

loop_outcomes : (held : List ℕ) (t : Transfer) → IsTransfer t → IfSome (loopback.transfer held t) (λ done. IsOutcome t done.1)
unfolding loopback
loop_outcomes held t it = cond_both (is_in_endpoint t.ep) (given_back held t.wanted) (taken_in held t.body) (λ o. IfSome o (λ done. IsOutcome t done.1)) (given_back_outcome held t) (taken_in_outcome held t it)

-- ---- its statuses: each transfer succeeds or stalls

given_back_named : (held : List ℕ) (wanted : ℕ) → IfSome (given_back held wanted) (λ done. IsNamed done.1.status)
given_back_named held wanted = cond_both (length held == 0 && not (wanted == 0)) None _ (λ o. IfSome o (λ done. IsNamed done.1.status)) (λ w. tt) (λ w. refl)

taken_in_named : (held body : List ℕ) → IfSome (taken_in held body) (λ done. IsNamed done.1.status)
taken_in_named held body =
    cond_both (nat_lt MOST_HELD (length body)) _ _ (λ o. IfSome o (λ done. IsNamed done.1.status)) (λ w. refl)
    (λ w. cond_both (nat_lt MOST_HELD (length held + length body)) None _ (λ o. IfSome o (λ done. IsNamed done.1.status)) (λ v. tt) (λ v. refl))

loop_named : (held : List ℕ) (t : Transfer) → IfSome (loopback.transfer held t) (λ done. IsNamed done.1.status)
unfolding loopback
loop_named held t = cond_both (is_in_endpoint t.ep) (given_back held t.wanted) (taken_in held t.body) (λ o. IfSome o (λ done. IsNamed done.1.status)) (λ e. given_back_named held t.wanted) (λ e. taken_in_named held t.body)

-- ---- the three: of each the configuration is right, and no endpoint to it is isochronous

pub keyboard_lawful : IsFunction keyboard
unfolding keyboard le_at
keyboard_lawful = in_turn_lawful key_count report keyboard.set refl refl (λ key. omega arith)

pub loopback_lawful : IsFunction loopback
unfolding loopback le_at
loopback_lawful = record { configuration = refl; outcomes = λ held t it e. loop_outcomes held t it; packets = λ held ep. tt; named = loop_named; packets_named = λ held ep. tt; endpoints = refl }

pub tone_lawful : IsFunction tone
unfolding tone samples le_at
tone_lawful = in_turn_lawful 256 samples tone.set refl refl (λ sample. omega (arith, length-replicate 192 sample))
