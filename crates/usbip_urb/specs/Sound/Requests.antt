-- What is read as a request is spelled so, and what is spelled so is read.
use Rattle.std.proofs.Common.{◌≡◌, ℕ, ◌+◌, ◌*◌, ◌≤◌, ◌==◌, ◌⊎◌, inl, inr, Bool, true, false, List, ◌∷◌, ◌++◌, length, take, drop, refl, sym, ap, subst, ◌∙◌, append_assoc, arith, None, cond}
use Rattle.std.specs.Prelude.{nat_le, ◌||◌}
use Rattle.std.specs.Int.{w16, w32}
use Rattle.std.proofs.lemmas.Bool.{leb-true, le-leb, eqb-true, eq-eqb}
use Rattle.std.proofs.lemmas.List.{length-append}
use Rattle.std.proofs.lemmas.List.Elements.{All-same}
use Rattle.usb_base.specs.Number.{be, be_at, part, AreBytes}
use Rattle.usb_base.proofs.Numbers.{then, length-part, be_at-append_16, be_at-append_32, part_found}
use Rattle.usb_base.specs.declared.reason.Reason.{Reason}
use Rattle.usb_base.specs.declared.reason.Reason.TheVariants.{Device, Direction, Endpoint}
use Rattle.packet_stream.specs.Format.{Check, IsSound, wrong_at}
use Rattle.packet_stream.specs.Joined.{guarded}
use Rattle.packet_stream.proofs.Formats.{AreSteady, stays_wrong, none_first, none_later, none_from}
use Rattle.usbip_urb.specs.declared.packet.Submit.{Submit}
use Rattle.usbip_urb.specs.declared.packet.Unlink.{Unlink}
use Rattle.usbip_urb.specs.declared.packet.UrbPacket.{UrbPacket}
use Rattle.usbip_urb.specs.declared.packet.UrbPacket.TheVariants as urb
use Rattle.usbip_urb.specs.declared.code.TheConstants.{EXPORTED_DEVID, HEAD_SIZE, MAX_ENDPOINT, USBIP_CMD_SUBMIT, USBIP_CMD_UNLINK, USBIP_DIR_IN}
use Rattle.usbip_urb.specs.Spelling.{words, submit_words, unlink_words, descs_bytes, spelling}
use Rattle.usbip_urb.specs.Sizes.{is_out, body_size, count_of, whole_size}
use Rattle.usbip_urb.specs.Fields.{submit_at, unlink_at}
use Rattle.usbip_urb.specs.Ranges.{IsWord, IsRequest}
use Rattle.usbip_urb.specs.Checks.{number_check, version_check, command_check, size_checks, has_command, request_checks}
use Rattle.usbip_urb.specs.Requests.{requests}
use Rattle.usbip_urb.specs.Sound.Words.{words_at, words_spelled, words_below, length-words, word_in, head_in, fields_in}
use Rattle.usbip_urb.specs.Sound.Payloads.{payload_found, payload_again}
use Rattle.usbip_urb.specs.Sound.Limits.{IsWithinLimits, limits_right, limits_found, limits_steady, is_one_of, one_of}

-- ---- by its command

abbrev pub request_size_by : ℕ → List ℕ → ℕ
request_size_by command b = cond (command == USBIP_CMD_SUBMIT) (whole_size (is_out (be_at w32 12 b)) b) HEAD_SIZE

abbrev pub request_by : ℕ → List ℕ → UrbPacket
request_by command b = cond (command == USBIP_CMD_SUBMIT) (urb.Submit (submit_at b)) (urb.Unlink (unlink_at b))

-- ---- the checks, as what they say of the fields

abbrev device_check : Check Reason
device_check = number_check 8 Device (λ devid. devid == EXPORTED_DEVID)

abbrev direction_check : Check Reason
direction_check = number_check 12 Direction (λ direction. nat_le direction USBIP_DIR_IN)

abbrev endpoint_check : Check Reason
endpoint_check = number_check 16 Endpoint (λ endpoint. nat_le endpoint MAX_ENDPOINT)

record IsRight (b : List ℕ) : Type 0 where
  version : be_at w16 0 b ≡ 0
  command : (be_at w32 0 b ≡ USBIP_CMD_SUBMIT) ⊎ (be_at w32 0 b ≡ USBIP_CMD_UNLINK)
  device : be_at w32 8 b ≡ EXPORTED_DEVID
  direction : be_at w32 12 b ≤ 1
  endpoint : be_at w32 16 b ≤ MAX_ENDPOINT
  limits : be_at w32 0 b ≡ USBIP_CMD_SUBMIT → IsWithinLimits b

-- the checks from each on
abbrev pub limits_on : List (Check Reason)
limits_on = guarded (has_command USBIP_CMD_SUBMIT) size_checks

abbrev pub endpoint_on : List (Check Reason)
endpoint_on = endpoint_check ∷ limits_on

abbrev pub direction_on : List (Check Reason)
direction_on = direction_check ∷ endpoint_on

abbrev pub device_on : List (Check Reason)
device_on = device_check ∷ direction_on

abbrev pub any_command : Check Reason
any_command = command_check USBIP_CMD_SUBMIT USBIP_CMD_UNLINK

none_wrong : (b : List ℕ) → IsRight b → wrong_at request_checks b ≡ None
none_wrong b h =
    none_from version_check (any_command ∷ device_on) b (λ _ _. eq-eqb (be_at w16 0 b) 0 h.version)
    (none_from any_command device_on b (λ _ _. is_one_of USBIP_CMD_SUBMIT USBIP_CMD_UNLINK (be_at w32 0 b) h.command)
    (none_from device_check direction_on b (λ _ _. eq-eqb (be_at w32 8 b) EXPORTED_DEVID h.device)
    (none_from direction_check endpoint_on b (λ _ _. le-leb (be_at w32 12 b) 1 h.direction)
    (none_from endpoint_check limits_on b (λ _ _. le-leb (be_at w32 16 b) MAX_ENDPOINT h.endpoint)
    (limits_right USBIP_CMD_SUBMIT b h.limits)))))

-- the limits are the last of them
pub limits_there : (b : List ℕ) → wrong_at request_checks b ≡ None → wrong_at limits_on b ≡ None
limits_there b none =
    none_later endpoint_check limits_on b
    (none_later direction_check endpoint_on b (none_later device_check direction_on b (none_later any_command device_on b (none_later version_check (any_command ∷ device_on) b none))))

is_right : (b : List ℕ) → wrong_at request_checks b ≡ None → 48 ≤ length b → IsRight b
is_right b none there =
    let command = none_later version_check (any_command ∷ device_on) b none in
    let device = none_later any_command device_on b command in
    let direction = none_later device_check direction_on b device in
    let endpoint = none_later direction_check endpoint_on b direction in
    record {
      version = eqb-true (be_at w16 0 b) 0 (none_first version_check (any_command ∷ device_on) b none refl (omega arith));
      command = one_of USBIP_CMD_SUBMIT USBIP_CMD_UNLINK (be_at w32 0 b) (none_first any_command device_on b command refl (omega arith));
      device = eqb-true (be_at w32 8 b) EXPORTED_DEVID (none_first device_check direction_on b device refl (omega arith));
      direction = leb-true (be_at w32 12 b) 1 (none_first direction_check endpoint_on b direction refl (omega arith));
      endpoint = leb-true (be_at w32 16 b) MAX_ENDPOINT (none_first endpoint_check limits_on b endpoint refl (omega arith));
      limits = λ e. limits_found USBIP_CMD_SUBMIT b (limits_there b none) (omega arith) e;
    }

-- each sees only the bytes that it needs
pub requests_steady : AreSteady 2 request_checks
requests_steady = (
  omega arith,
  λ b more h. (refl, ap (λ (n : ℕ). n == 0) (be_at-append_16 0 b more h)),
  (
    omega arith,
    λ b more h. (refl, ap (λ (n : ℕ). (n == USBIP_CMD_SUBMIT) || (n == USBIP_CMD_UNLINK)) (be_at-append_32 0 b more h)),
    (
      omega arith,
      λ b more h. (refl, ap (λ (n : ℕ). n == EXPORTED_DEVID) (be_at-append_32 8 b more h)),
      (
        omega arith,
        λ b more h. (refl, ap (λ (n : ℕ). nat_le n 1) (be_at-append_32 12 b more h)),
        (
          omega arith,
          λ b more h. (refl, ap (λ (n : ℕ). nat_le n MAX_ENDPOINT) (be_at-append_32 16 b more h)),
          limits_steady USBIP_CMD_SUBMIT 20 (omega arith) (omega arith),
        ),
      ),
    ),
  ),
)

-- ---- what is read is spelled so

abbrev IsFound : List ℕ → ℕ → Type 0
IsFound b command = (spelling (request_by command b) ≡ take (request_size_by command b) b) × IsRequest (request_by command b)

submit_found : (b : List ℕ) → AreBytes b → IsRight b → be_at w32 0 b ≡ USBIP_CMD_SUBMIT → request_size_by USBIP_CMD_SUBMIT b ≤ length b → IsFound b USBIP_CMD_SUBMIT
submit_found b are right is there =
    let s = submit_at b in
    let out = is_out (be_at w32 12 b) in
    let front : submit_words s ≡ words_at 10 0 b = ap (λ (n : ℕ). n ∷ words_at 9 4 b) (sym is) in
    let payload = payload_found out b (words (submit_words s)) are there (ap words front ∙ words_spelled 10 0 b are (omega (arith, there))) in
    let within = right.limits is in (
      payload.spelled,
      (
        record {
          head = record { direction = right.direction; endpoint = right.endpoint };
          few_bytes = within.few_bytes;
          few_packets = within.few_packets;
          body = payload.body;
          descs = payload.descs;
        },
        right.device,
        record {
          words = All-same IsWord (submit_words s) (words_at 10 0 b) front (words_below 10 0 b are);
          setup = payload.eight;
          descs = payload.fits;
        },
      ),
    )

unlink_found : (b : List ℕ) → AreBytes b → IsRight b → be_at w32 0 b ≡ USBIP_CMD_UNLINK → 48 ≤ length b → IsFound b USBIP_CMD_UNLINK
unlink_found b are right is there =
    let u = unlink_at b in
    let front : unlink_words u ≡ words_at 6 0 b = ap (λ (n : ℕ). n ∷ words_at 5 4 b) (sym is) in (
      then 24 24 b _ _ (ap words front ∙ words_spelled 6 0 b are (omega arith)) refl,
      (
        record { direction = right.direction; endpoint = right.endpoint },
        right.device,
        record {
          words = All-same IsWord (unlink_words u) (words_at 6 0 b) front (words_below 6 0 b are);
          pad = length-part 24 24 b there;
        },
      ),
    )

found_by : (b : List ℕ) (command : ℕ) → AreBytes b → IsRight b → be_at w32 0 b ≡ command → request_size_by command b ≤ length b → (command ≡ USBIP_CMD_SUBMIT) ⊎ (command ≡ USBIP_CMD_UNLINK) → IsFound b command
found_by b command are right is there (inl e) =
    subst (IsFound b) (sym e) (submit_found b are right (is ∙ e) (subst (λ (k : ℕ). request_size_by k b ≤ length b) e there))
found_by b command are right is there (inr e) =
    subst (IsFound b) (sym e) (unlink_found b are right (is ∙ e) (subst (λ (k : ℕ). request_size_by k b ≤ length b) e there))

least : (t : Bool) (n m : ℕ) → 48 ≤ cond t (48 + n + m) 48
least true n m = omega arith
least false n m = omega arith

pub long_enough : (b : List ℕ) → 48 ≤ request_size_by (be_at w32 0 b) b
long_enough b = least (be_at w32 0 b == USBIP_CMD_SUBMIT) (body_size (is_out (be_at w32 12 b)) (be_at w32 24 b)) (count_of (be_at w32 32 b) * 16)

found : (b : List ℕ) → AreBytes b → wrong_at request_checks b ≡ None → request_size_by (be_at w32 0 b) b ≤ length b → IsFound b (be_at w32 0 b)
found b are none there =
    let enough = long_enough b in
    let right = is_right b none (omega (arith, enough, there)) in
    found_by b (be_at w32 0 b) are right refl there right.command

-- ---- what is spelled so is read

record IsAgain (p : UrbPacket) (x : List ℕ) : Type 0 where
  right : IsRight x
  size : request_size_by (be_at w32 0 x) x ≡ length (spelling p)
  packet : request_by (be_at w32 0 x) x ≡ p

-- a small command begins with two zeros
version_submit : (s : Submit) (more : List ℕ) → be_at w16 0 (words (submit_words s) ++ more) ≡ 0
unfolding be be_at
version_submit s more = refl

version_unlink : (u : Unlink) (more : List ℕ) → be_at w16 0 (words (unlink_words u) ++ more) ≡ 0
unfolding be be_at
version_unlink u more = refl

submit_again : (s : Submit) (x more : List ℕ) → x ≡ spelling (urb.Submit s) ++ more → IsRequest (urb.Submit s) → IsAgain (urb.Submit s) x
submit_again s x more e fits =
    let ws = submit_words s in
    let last = descs_bytes s.descs in
    let rest = s.setup ++ (s.body ++ (last ++ more)) in
    let is : x ≡ words ws ++ rest = e ∙ simp append_assoc refl in
    let ok = fits.2.words in
    let head = head_in USBIP_CMD_SUBMIT s.head (drop 5 ws) rest x is ok in
    let fields = fields_in USBIP_CMD_SUBMIT s.head s.flags s.length s.start_frame s.packets s.interval rest x is ok in
    let body_long : length s.body ≡ body_size (is_out (be_at w32 12 x)) (be_at w32 24 x) = rw (head.direction, fields.at_24) fits.0.body in
    let counted : length s.descs ≡ count_of (be_at w32 32 x) = rw fields.at_32 fits.0.descs in
    let payload = payload_again (is_out (be_at w32 12 x)) x (words ws) s.setup s.body s.descs more e (length-words ws) fits.2.setup body_long counted fits.2.descs in
    let packet : submit_at x ≡ s = λ t. record {
      head = record { seqnum = head.seqnum t; devid = head.devid t; direction = head.direction t; ep = head.ep t };
      flags = fields.at_20 t;
      length = fields.at_24 t;
      start_frame = fields.at_28 t;
      packets = fields.at_32 t;
      interval = fields.at_36 t;
      setup = payload.is_eight t;
      body = payload.is_body t;
      descs = payload.is_descs t;
    } in
    record {
      right = record {
        version = ap (be_at w16 0) is ∙ version_submit s rest;
        command = inl head.command;
        device = head.devid ∙ fits.1;
        direction = rw head.direction fits.0.head.direction;
        endpoint = rw head.ep fits.0.head.endpoint;
        limits = λ _. record { few_bytes = rw fields.at_24 fits.0.few_bytes; few_packets = rw fields.at_32 fits.0.few_packets };
      };
      size = ap (λ (n : ℕ). request_size_by n x) head.command ∙ payload.size;
      packet = ap (λ (n : ℕ). request_by n x) head.command ∙ ap urb.Submit packet;
    }

unlink_again : (u : Unlink) (x more : List ℕ) → x ≡ spelling (urb.Unlink u) ++ more → IsRequest (urb.Unlink u) → IsAgain (urb.Unlink u) x
unlink_again u x more e fits =
    let ws = unlink_words u in
    let rest = u.pad ++ more in
    let is : x ≡ words ws ++ rest = e ∙ append_assoc (words ws) u.pad more in
    let ok = fits.2.words in
    let head = head_in USBIP_CMD_UNLINK u.head (drop 5 ws) rest x is ok in
    let target : be_at w32 20 x ≡ u.target = word_in 5 ws rest x is ok (omega arith) in
    let pad : part 24 24 x ≡ u.pad = ap (part 24 24) e ∙ part_found 24 24 (words ws) u.pad more (length-words ws) fits.2.pad in
    let packet : unlink_at x ≡ u = λ t. record {
      head = record { seqnum = head.seqnum t; devid = head.devid t; direction = head.direction t; ep = head.ep t };
      target = target t;
      pad = pad t;
    } in
    let size : 48 ≡ length (words ws ++ u.pad) = omega (arith, length-append (words ws) u.pad, length-words ws, fits.2.pad) in
    record {
      right = record {
        version = ap (be_at w16 0) is ∙ version_unlink u rest;
        command = inr head.command;
        device = head.devid ∙ fits.1;
        direction = rw head.direction fits.0.direction;
        endpoint = rw head.ep fits.0.endpoint;
        limits = λ h. absurd (omega (arith, head.command, h));
      };
      size = ap (λ (n : ℕ). request_size_by n x) head.command ∙ size;
      packet = ap (λ (n : ℕ). request_by n x) head.command ∙ ap urb.Unlink packet;
    }

again : (p : UrbPacket) (more : List ℕ) → IsRequest p → IsAgain p (spelling p ++ more)
again (urb.Submit s) more fits = submit_again s (spelling (urb.Submit s) ++ more) more refl fits
again (urb.Unlink u) more fits = unlink_again u (spelling (urb.Unlink u) ++ more) more refl fits
again (urb.RetSubmit r) more fits = absurd fits
again (urb.RetUnlink r) more fits = absurd fits

-- ---- the law

pub requests_sound : IsSound requests
requests_sound = record {
  found = found;
  right = λ p more fits. none_wrong (spelling p ++ more) (again p more fits).right;
  size = λ p more fits. (again p more fits).size;
  packet = λ p more fits. (again p more fits).packet;
  some = λ b. let h = long_enough b in omega (arith, h);
  steady = stays_wrong request_checks 2 requests_steady;
}
