use Rattle.std.proofs.Common.{◌≡◌, ℕ, List, [], ◌++◌, length, take, sym, ap, ◌∙◌, Result, Ok, Err, rules, append_assoc, append-nil}
use Rattle.std.proofs.lemmas.List.{nil_from_length}
use Rattle.std.proofs.Math.Seq.{take-append_seam}
use Rattle.std.specs.Result.{OnErr}
use Rattle.std.specs.Slice.Iter.{chunks_rest}
use Rattle.hex.specs.Hex.{encode_lower, lower_digits}
use Rattle.usb_base.proofs.Cuts.{encode-append, encode-nil}
use Rattle.usb_base.proofs.digits.push_hex.Goals as goal

on-err : {T E P : Type 0} (r : Result T E) → P → OnErr r P
on-err (Ok v) p = tt
on-err (Err e) p = p

-- the digits of one front more are behind the text
longer : (text done front : List ℕ) → (text ++ encode_lower done) ++ encode_lower front ≡ text ++ encode_lower (done ++ front)
longer text done front =
    append_assoc text (encode_lower done) (encode_lower front)
    ∙ ap (λ (digits : List ℕ). text ++ digits) (sym (encode-append lower_digits done front))

pub loop-front-init : goal.loop-front-init
loop-front-init c =
    (search rules, tt, search rules, search rules, ([], (sym (ap (λ (digits : List ℕ). c.args.text.now ++ digits) (encode-nil lower_digits) ∙ append-nil c.args.text.now), search rules)))

pub loop-front-preserved : goal.loop-front-preserved
loop-front-preserved c =
    let steps = c.in-Some.ensures.steps in
    let so_far = c.loop-front.invariant in
    let done = so_far.4.0 in
    let front = c.in-Some.front.now in (
      search rules,
      tt,
      steps.0 ∙ so_far.2,
      c.push_front.ensures.room ∙ so_far.3,
      (
        done ++ front,
        (
          c.in_ok-push_front.ensures.digits
              ∙ ap (λ (text : List ℕ). text ++ encode_lower front) so_far.4.1.0
              ∙ longer c.args.text.now done front,
          append_assoc done front (chunks_rest c.next.new.self)
              ∙ ap (λ (rest : List ℕ). done ++ rest) (sym steps.1.0)
              ∙ so_far.4.1.1,
        ),
      ),
    )

pub returns-clause-ok : goal.returns-clause-ok
returns-clause-ok c =
    let so_far = c.loop-front.invariant.4 in
    let none = nil_from_length (chunks_rest c.loop-front.front-iterator) c.in-None.ensures.steps.1.0 in
    let all : so_far.0 ≡ c.args.bytes.now = sym (append-nil so_far.0) ∙ ap (λ (rest : List ℕ). so_far.0 ++ rest) (sym none) ∙ so_far.1.1 in
    so_far.1.0 ∙ ap (λ (bytes : List ℕ). c.args.text.now ++ encode_lower bytes) all

pub returns-in_err-push_front-clause-err : goal.returns-in_err-push_front-clause-err
returns-in_err-push_front-clause-err c =
    let so_far = c.loop-front.invariant.4 in
    let front : so_far.0 ≡ take (length so_far.0) c.args.bytes.now =
    sym (take-append_seam so_far.0 (chunks_rest c.loop-front.front-iterator)) ∙ ap (take (length so_far.0)) so_far.1.1
    in
    on-err c.from_residual.result (
      length so_far.0,
      c.in_err-push_front.ensures.err
          ∙ so_far.1.0
          ∙ ap (λ (bytes : List ℕ). c.args.text.now ++ encode_lower bytes) front,
    )
