-- What is read as an answer is spelled so, and what is spelled so is read.
use Rattle.std.proofs.Common.{◌≡◌, ℕ, ◌+◌, ◌*◌, ◌≤◌, ◌==◌, ◌⊎◌, inl, inr, Bool, true, false, List, [], ◌∷◌, ◌++◌, length, take, drop, refl, sym, ap, subst, ◌∙◌, append_assoc, arith, None, cond}
use Rattle.std.specs.Prelude.{◌||◌}
use Rattle.std.specs.Int.{w32, cast_signed, cast_unsigned}
use Rattle.std.proofs.lemmas.Int.{to_z-of_z}
use Rattle.std.proofs.lemmas.List.{length-append}
use Rattle.std.proofs.lemmas.List.Elements.{All-same}
use Rattle.usb_base.specs.Number.{be_at, part, AreBytes}
use Rattle.usb_base.specs.declared.reason.Reason.{Reason}
use Rattle.usb_base.proofs.Numbers.{then, length-part, be_at-append_32, be_at-below_32, part_found}
use Rattle.packet_stream.specs.Format.{Check, IsSound, wrong_at}
use Rattle.packet_stream.specs.Joined.{guarded}
use Rattle.packet_stream.proofs.Formats.{AreSteady, stays_wrong, none_first, none_later, none_from}
use Rattle.usbip_urb.specs.declared.packet.RetSubmit.{RetSubmit}
use Rattle.usbip_urb.specs.declared.packet.RetUnlink.{RetUnlink}
use Rattle.usbip_urb.specs.declared.packet.UrbPacket.{UrbPacket}
use Rattle.usbip_urb.specs.declared.packet.UrbPacket.TheVariants as urb
use Rattle.usbip_urb.specs.declared.code.TheConstants.{USBIP_RET_SUBMIT, USBIP_RET_UNLINK}
use Rattle.usbip_urb.specs.Spelling.{words, ret_submit_words, ret_unlink_words, descs_bytes, spelling}
use Rattle.usbip_urb.specs.Sizes.{body_size, count_of}
use Rattle.usbip_urb.specs.Fields.{ret_submit_at, ret_unlink_at}
use Rattle.usbip_urb.specs.Ranges.{IsWord, IsAnswer}
use Rattle.usbip_urb.specs.Checks.{command_check, size_checks, has_command, answer_checks}
use Rattle.usbip_urb.specs.Answers.{answer_size_by, answer_by, answers}
use Rattle.usbip_urb.specs.Sound.Words.{words_at, words_spelled, words_below, length-words, word_in, head_in, fields_in}
use Rattle.usbip_urb.specs.Sound.Descriptors.{signed_again, signed_fits}
use Rattle.usbip_urb.specs.Sound.Payloads.{payload_found, payload_again}
use Rattle.usbip_urb.specs.Sound.Limits.{IsWithinLimits, limits_right, limits_found, limits_steady, is_one_of, one_of}

-- ---- the checks, as what they say of the fields

record IsRight (b : List ℕ) : Type 0 where
  command : (be_at w32 0 b ≡ USBIP_RET_SUBMIT) ⊎ (be_at w32 0 b ≡ USBIP_RET_UNLINK)
  limits : be_at w32 0 b ≡ USBIP_RET_SUBMIT → IsWithinLimits b

abbrev limits_on : List (Check Reason)
limits_on = guarded (has_command USBIP_RET_SUBMIT) size_checks

abbrev any_command : Check Reason
any_command = command_check USBIP_RET_SUBMIT USBIP_RET_UNLINK

none_wrong : (b : List ℕ) → IsRight b → wrong_at answer_checks b ≡ None
none_wrong b h = none_from any_command limits_on b (λ _ _. is_one_of USBIP_RET_SUBMIT USBIP_RET_UNLINK (be_at w32 0 b) h.command) (limits_right USBIP_RET_SUBMIT b h.limits)

is_right : (b : List ℕ) → wrong_at answer_checks b ≡ None → 48 ≤ length b → IsRight b
is_right b none there = record {
  command = one_of USBIP_RET_SUBMIT USBIP_RET_UNLINK (be_at w32 0 b) (none_first any_command limits_on b none refl (omega arith));
  limits = λ e. limits_found USBIP_RET_SUBMIT b (none_later any_command limits_on b none) (omega arith) e;
}

-- each sees only the bytes that it needs
answers_steady : AreSteady 4 answer_checks
answers_steady = (
  omega arith,
  λ b more h. (refl, ap (λ (n : ℕ). (n == USBIP_RET_SUBMIT) || (n == USBIP_RET_UNLINK)) (be_at-append_32 0 b more h)),
  limits_steady USBIP_RET_SUBMIT 4 (omega arith) (omega arith),
)

-- ---- what is read is spelled so

abbrev IsFound : Bool → List ℕ → ℕ → Type 0
IsFound is_in b command = (spelling (answer_by is_in command b) ≡ take (answer_size_by is_in command b) b) × IsAnswer is_in (answer_by is_in command b)

submit_found : (is_in : Bool) (b : List ℕ) → AreBytes b → IsRight b → be_at w32 0 b ≡ USBIP_RET_SUBMIT → answer_size_by is_in USBIP_RET_SUBMIT b ≤ length b → IsFound is_in b USBIP_RET_SUBMIT
submit_found is_in b are right is there =
    let r = ret_submit_at is_in b in
    let below = be_at-below_32 20 b are in
    let front : ret_submit_words r ≡ words_at 10 0 b =
    ap (λ (n : ℕ). USBIP_RET_SUBMIT ∷ be_at w32 4 b ∷ be_at w32 8 b ∷ be_at w32 12 b ∷ be_at w32 16 b ∷ n ∷ words_at 4 24 b) (signed_again (be_at w32 20 b) below)
    ∙ ap (λ (n : ℕ). n ∷ words_at 9 4 b) (sym is) in
    let payload = payload_found is_in b (words (ret_submit_words r)) are there (ap words front ∙ words_spelled 10 0 b are (omega (arith, there))) in
    let within = right.limits is in (
      payload.spelled,
      (
        record {
          few_bytes = within.few_bytes;
          few_packets = within.few_packets;
          body = payload.body;
          descs = payload.descs;
        },
        record {
          words = All-same IsWord (ret_submit_words r) (words_at 10 0 b) front (words_below 10 0 b are);
          status = signed_fits (be_at w32 20 b) below;
          tail = payload.eight;
          descs = payload.fits;
        },
      ),
    )

unlink_found : (is_in : Bool) (b : List ℕ) → AreBytes b → be_at w32 0 b ≡ USBIP_RET_UNLINK → 48 ≤ length b → IsFound is_in b USBIP_RET_UNLINK
unlink_found is_in b are is there =
    let r = ret_unlink_at b in
    let below = be_at-below_32 20 b are in
    let front : ret_unlink_words r ≡ words_at 6 0 b =
    ap (λ (n : ℕ). USBIP_RET_UNLINK ∷ be_at w32 4 b ∷ be_at w32 8 b ∷ be_at w32 12 b ∷ be_at w32 16 b ∷ n ∷ []) (signed_again (be_at w32 20 b) below)
    ∙ ap (λ (n : ℕ). n ∷ words_at 5 4 b) (sym is) in (
      then 24 24 b _ _ (ap words front ∙ words_spelled 6 0 b are (omega arith)) refl,
      record {
        words = All-same IsWord (ret_unlink_words r) (words_at 6 0 b) front (words_below 6 0 b are);
        status = signed_fits (be_at w32 20 b) below;
        pad = length-part 24 24 b there;
      },
    )

found_by : (is_in : Bool) (b : List ℕ) (command : ℕ) → AreBytes b → IsRight b → be_at w32 0 b ≡ command → answer_size_by is_in command b ≤ length b → (command ≡ USBIP_RET_SUBMIT) ⊎ (command ≡ USBIP_RET_UNLINK) → IsFound is_in b command
found_by is_in b command are right is there (inl e) =
    subst (IsFound is_in b) (sym e) (submit_found is_in b are right (is ∙ e) (subst (λ (k : ℕ). answer_size_by is_in k b ≤ length b) e there))
found_by is_in b command are right is there (inr e) =
    subst (IsFound is_in b) (sym e) (unlink_found is_in b are (is ∙ e) (subst (λ (k : ℕ). answer_size_by is_in k b ≤ length b) e there))

least : (t : Bool) (n m : ℕ) → 48 ≤ cond t (48 + n + m) 48
least true n m = omega arith
least false n m = omega arith

long_enough : (is_in : Bool) (b : List ℕ) → 48 ≤ answer_size_by is_in (be_at w32 0 b) b
long_enough is_in b = least (be_at w32 0 b == USBIP_RET_SUBMIT) (body_size is_in (be_at w32 24 b)) (count_of (be_at w32 32 b) * 16)

found : (is_in : Bool) (b : List ℕ) → AreBytes b → wrong_at answer_checks b ≡ None → answer_size_by is_in (be_at w32 0 b) b ≤ length b → IsFound is_in b (be_at w32 0 b)
found is_in b are none there =
    let enough = long_enough is_in b in
    let right = is_right b none (omega (arith, enough, there)) in
    found_by is_in b (be_at w32 0 b) are right refl there right.command

-- ---- what is spelled so is read

record IsAgain (is_in : Bool) (p : UrbPacket) (x : List ℕ) : Type 0 where
  right : IsRight x
  size : answer_size_by is_in (be_at w32 0 x) x ≡ length (spelling p)
  packet : answer_by is_in (be_at w32 0 x) x ≡ p

submit_again : (is_in : Bool) (r : RetSubmit) (x more : List ℕ) → x ≡ spelling (urb.RetSubmit r) ++ more → IsAnswer is_in (urb.RetSubmit r) → IsAgain is_in (urb.RetSubmit r) x
submit_again is_in r x more e fits =
    let ws = ret_submit_words r in
    let last = descs_bytes r.descs in
    let rest = r.tail ++ (r.body ++ (last ++ more)) in
    let is : x ≡ words ws ++ rest = e ∙ simp append_assoc refl in
    let ok = fits.1.words in
    let head = head_in USBIP_RET_SUBMIT r.head (drop 5 ws) rest x is ok in
    let fields = fields_in USBIP_RET_SUBMIT r.head (cast_unsigned w32 r.status) r.actual r.start_frame r.packets r.errors rest x is ok in
    let status : cast_signed w32 (be_at w32 20 x) ≡ r.status = ap (cast_signed w32) fields.at_20 ∙ to_z-of_z w32 r.status fits.1.status in
    let body_long : length r.body ≡ body_size is_in (be_at w32 24 x) = rw fields.at_24 fits.0.body in
    let counted : length r.descs ≡ count_of (be_at w32 32 x) = rw fields.at_32 fits.0.descs in
    let payload = payload_again is_in x (words ws) r.tail r.body r.descs more e (length-words ws) fits.1.tail body_long counted fits.1.descs in
    let packet : ret_submit_at is_in x ≡ r = λ t. record {
      head = record { seqnum = head.seqnum t; devid = head.devid t; direction = head.direction t; ep = head.ep t };
      status = status t;
      actual = fields.at_24 t;
      start_frame = fields.at_28 t;
      packets = fields.at_32 t;
      errors = fields.at_36 t;
      tail = payload.is_eight t;
      body = payload.is_body t;
      descs = payload.is_descs t;
    } in
    record {
      right = record {
        command = inl head.command;
        limits = λ _. record { few_bytes = rw fields.at_24 fits.0.few_bytes; few_packets = rw fields.at_32 fits.0.few_packets };
      };
      size = ap (λ (n : ℕ). answer_size_by is_in n x) head.command ∙ payload.size;
      packet = ap (λ (n : ℕ). answer_by is_in n x) head.command ∙ ap urb.RetSubmit packet;
    }

unlink_again : (is_in : Bool) (r : RetUnlink) (x more : List ℕ) → x ≡ spelling (urb.RetUnlink r) ++ more → IsAnswer is_in (urb.RetUnlink r) → IsAgain is_in (urb.RetUnlink r) x
unlink_again is_in r x more e fits =
    let ws = ret_unlink_words r in
    let rest = r.pad ++ more in
    let is : x ≡ words ws ++ rest = e ∙ append_assoc (words ws) r.pad more in
    let ok = fits.words in
    let head = head_in USBIP_RET_UNLINK r.head (drop 5 ws) rest x is ok in
    let bits : be_at w32 20 x ≡ cast_unsigned w32 r.status = word_in 5 ws rest x is ok (omega arith) in
    let status : cast_signed w32 (be_at w32 20 x) ≡ r.status = ap (cast_signed w32) bits ∙ to_z-of_z w32 r.status fits.status in
    let pad : part 24 24 x ≡ r.pad = ap (part 24 24) e ∙ part_found 24 24 (words ws) r.pad more (length-words ws) fits.pad in
    let packet : ret_unlink_at x ≡ r = λ t. record {
      head = record { seqnum = head.seqnum t; devid = head.devid t; direction = head.direction t; ep = head.ep t };
      status = status t;
      pad = pad t;
    } in
    let size : 48 ≡ length (words ws ++ r.pad) = omega (arith, length-append (words ws) r.pad, length-words ws, fits.pad) in
    record {
      right = record { command = inr head.command; limits = λ h. absurd (omega (arith, head.command, h)) };
      size = ap (λ (n : ℕ). answer_size_by is_in n x) head.command ∙ size;
      packet = ap (λ (n : ℕ). answer_by is_in n x) head.command ∙ ap urb.RetUnlink packet;
    }

again : (is_in : Bool) (p : UrbPacket) (more : List ℕ) → IsAnswer is_in p → IsAgain is_in p (spelling p ++ more)
again is_in (urb.RetSubmit r) more fits = submit_again is_in r (spelling (urb.RetSubmit r) ++ more) more refl fits
again is_in (urb.RetUnlink r) more fits = unlink_again is_in r (spelling (urb.RetUnlink r) ++ more) more refl fits
again is_in (urb.Submit s) more fits = absurd fits
again is_in (urb.Unlink u) more fits = absurd fits

-- ---- the law

pub answers_sound : (is_in : Bool) → IsSound (answers is_in)
answers_sound is_in = record {
  found = found is_in;
  right = λ p more fits. none_wrong (spelling p ++ more) (again is_in p more fits).right;
  size = λ p more fits. (again is_in p more fits).size;
  packet = λ p more fits. (again is_in p more fits).packet;
  some = λ b. let h = long_enough is_in b in omega (arith, h);
  steady = stays_wrong answer_checks 4 answers_steady;
}
