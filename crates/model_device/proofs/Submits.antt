-- What a request asks is a transfer.
use Rattle.std.proofs.Common.{◌≡◌, ◌≢◌, ℕ, ◌+◌, ◌%◌, ◌<◌, Bool, true, false, cond, List, [], ◌∷◌, length, Some, None, refl, sym, ap, ◌∙◌, arith, inl, inr}
use Rattle.std.specs.Prelude.{◌==◌, not}
use Rattle.std.proofs.lemmas.Bool.{cases_eq, cond_both, ne_eqb, lt-ltb, le-ltb, eqb-true, eqb-false, false≢true}
use Rattle.usb_base.specs.declared.setup.Setup.{Setup}
use Rattle.control_route.specs.declared.route.Route.TheVariants.{Local, SetConfig, GetConfig, SetAlt, GetAlt, Reset, Plain, Bad}
use Rattle.usb_base.specs.Setup.{is_in_setup}
use Rattle.model_device.specs.Transfer.{IsTransfer}
use Rattle.model_device.specs.Submit.{AsksTransfer, IsAsked, control_transfer, data_transfer, normal_by}

-- endpoint 0 by its setup's direction
control_by : (b : Bool) (r : Setup) (wanted : ℕ) (body : List ℕ) → is_in_setup r ≡ b → (b ≡ true → body ≡ []) → (b ≡ false → wanted ≡ length body) → IsTransfer (record { ep = cond b 128 0; setup = Some r; wanted = wanted; body = body })
control_by true r wanted body e from to = record { address = omega arith; has_setup = refl; direction = e; from_device = from; to_device = λ f. cc }
control_by false r wanted body e from to = record { address = omega arith; has_setup = refl; direction = e; from_device = λ f. cc; to_device = to }

control_asked : (r : Setup) (wanted : ℕ) (body : List ℕ) → (is_in_setup r ≡ true → body ≡ []) → (is_in_setup r ≡ false → wanted ≡ length body) → IsTransfer (control_transfer r wanted body)
control_asked r wanted body from to = control_by (is_in_setup r) r wanted body refl from to

data_asked : (number : ℕ) (is_in : Bool) (wanted : ℕ) (body : List ℕ) → number < 16 → number ≢ 0 → (is_in ≡ true → body ≡ []) → (is_in ≡ false → wanted ≡ length body) → IsTransfer (data_transfer number is_in wanted body)
data_asked number true wanted body lt ne from to =
    let bits : (128 + number) % 128 ≡ number = omega arith in
    record {
      address = omega arith;
      has_setup = sym (ne_eqb ((128 + number) % 128) 0 (λ z. ne (sym bits ∙ z)));
      direction = tt;
      from_device = λ f. from refl;
      to_device = λ f. absurd (false≢true (sym f ∙ ap not (le-ltb (128 + number) 128 (omega arith))));
    }
data_asked number false wanted body lt ne from to =
    let bits : number % 128 ≡ number = omega arith in
    record {
      address = omega arith;
      has_setup = sym (ne_eqb (number % 128) 0 (λ z. ne (sym bits ∙ z)));
      direction = tt;
      from_device = λ f. absurd (false≢true (sym (ap not (lt-ltb number 128 (omega arith))) ∙ f));
      to_device = λ f. to refl;
    }

nothing_asked : (body : List ℕ) → 0 ≡ length body → body ≡ []
nothing_asked [] h = refl
nothing_asked (b ∷ body) h = absurd (omega arith)

-- with nothing asked there is no body either way
empty_body : (is_in : Bool) (body : List ℕ) → (is_in ≡ true → body ≡ []) → (is_in ≡ false → 0 ≡ length body) → body ≡ []
empty_body true body from to = from refl
empty_body false body from to = nothing_asked body (to refl)

plain_asked : (r : Setup) (number : ℕ) (is_in : Bool) (wanted : ℕ) (body : List ℕ) → IsAsked r number is_in wanted body → IsTransfer (normal_by None r number is_in wanted body)
plain_asked r number is_in wanted body a =
    cond_both (number == 0) (control_transfer r wanted body) (data_transfer number is_in wanted body) IsTransfer
    (λ e. elim (cases_eq wanted 0) [
      | inl z ↦ let none = empty_body is_in body a.from_device (λ f. sym z ∙ a.to_device f) in
          control_asked r wanted body (λ f. none) (λ f. z ∙ ap length (sym none))
      | inr some ↦ let same = a.direction (eqb-true number 0 e) some in
          control_asked r wanted body (λ f. a.from_device (sym same ∙ f)) (λ f. a.to_device (sym same ∙ f))
    ])
    (λ e. data_asked number is_in wanted body a.endpoint (eqb-false number 0 e) a.from_device a.to_device)

pub asks_transfer : AsksTransfer
asks_transfer (SetConfig configuration) r number is_in wanted body a = control_asked _ 0 [] (λ f. refl) (λ f. refl)
asks_transfer GetConfig r number is_in wanted body a = control_asked _ 1 [] (λ f. refl) (λ f. cc)
asks_transfer (SetAlt interface alt) r number is_in wanted body a = control_asked _ 0 [] (λ f. refl) (λ f. refl)
asks_transfer (GetAlt interface) r number is_in wanted body a = control_asked _ 1 [] (λ f. refl) (λ f. cc)
asks_transfer Reset r number is_in wanted body a = control_asked _ 0 [] (λ f. refl) (λ f. refl)
asks_transfer Local r number is_in wanted body a = plain_asked r number is_in wanted body a
asks_transfer Plain r number is_in wanted body a = plain_asked r number is_in wanted body a
asks_transfer Bad r number is_in wanted body a = plain_asked r number is_in wanted body a
