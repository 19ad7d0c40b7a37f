-- What is read as a request is spelled so, and what is spelled so is read.
use Rattle.std.proofs.Common.{◌≡◌, ℕ, ◌≤◌, ◌==◌, ◌||◌, ◌⊎◌, inl, inr, Bool, true, false, List, [], ◌∷◌, ◌++◌, length, take, refl, sym, ap, subst, ◌∙◌, append_assoc, arith, None, length-append, cond}
use Rattle.std.specs.Int.{w16, w32}
use Rattle.std.proofs.lemmas.List.{take_at}
use Rattle.usb_base.specs.Number.{be_at, part, AreBytes}
use Rattle.packet_stream.specs.Format.{IsSound, wrong_at}
use Rattle.usb_base.proofs.Numbers.{then, length-part, part_past, be_at-below_32}
use Rattle.packet_stream.proofs.Formats.{none_first, none_later}
use Rattle.usbip_op.specs.declared.packet.OpPacket.{OpPacket}
use Rattle.usbip_op.specs.declared.packet.OpPacket.TheVariants.{ReqDevlist, ReqImport, RepDevlist, RepImport}
use Rattle.usbip_op.specs.Spelling.{spelling, head_bytes}
use Rattle.usbip_op.proofs.Fitting.{IsRequest, request_fits, fits_request}
use Rattle.usbip_op.specs.Requests.{requests, version_check, code_check}
use Rattle.usbip_op.specs.declared.code.TheConstants.{OP_REQ_DEVLIST}
use Rattle.usbip_op.proofs.Heads.{head_spelled, length-head, version_again, code_again, status_again, head_right, head_steady, is_version, is_code}

-- ---- by its code

abbrev pub request_size_by : ℕ → ℕ
request_size_by code = cond (code == OP_REQ_DEVLIST) 8 40

abbrev pub request_by : ℕ → List ℕ → OpPacket
request_by code b = cond (code == OP_REQ_DEVLIST) (ReqDevlist (be_at w32 4 b)) (ReqImport (be_at w32 4 b) (part 8 32 b))

-- ---- what is spelled so is read

right : (p : OpPacket) (more : List ℕ) → IsRequest p → wrong_at requests.checks (spelling p ++ more) ≡ None
right (ReqDevlist status) more fits =
    let code = code_again 0x8005 status more (omega arith) in
    head_right 0x8005 0x8003 [] _ (version_again 0x8005 status more) (ap (λ (n : ℕ). (n == 0x8005) || (n == 0x8003)) code) refl
right (ReqImport status busid) more fits =
    let code = code_again 0x8003 status (busid ++ more) (omega arith) in
    rw (append_assoc (head_bytes 0x8003 status) busid more) (head_right 0x8005 0x8003 [] _ (version_again 0x8003 status (busid ++ more)) (ap (λ (n : ℕ). (n == 0x8005) || (n == 0x8003)) code) refl)
right (RepDevlist status devices) more fits = absurd fits
right (RepImport status device) more fits = absurd fits

size : (p : OpPacket) (more : List ℕ) → IsRequest p → request_size_by (be_at w16 2 (spelling p ++ more)) ≡ length (spelling p)
size (ReqDevlist status) more fits = ap request_size_by (code_again 0x8005 status more (omega arith)) ∙ sym (length-head 0x8005 status)
size (ReqImport status busid) more fits =
    let long : length (spelling (ReqImport status busid)) ≡ 40 = omega (arith, length-append (head_bytes 0x8003 status) busid, length-head 0x8003 status, fits.1) in
    ap (λ (b : List ℕ). request_size_by (be_at w16 2 b)) (append_assoc (head_bytes 0x8003 status) busid more) ∙ ap request_size_by (code_again 0x8003 status (busid ++ more) (omega arith)) ∙ sym long
size (RepDevlist status devices) more fits = absurd fits
size (RepImport status device) more fits = absurd fits

packet : (p : OpPacket) (more : List ℕ) → IsRequest p → request_by (be_at w16 2 (spelling p ++ more)) (spelling p ++ more) ≡ p
packet (ReqDevlist status) more fits =
    ap (λ (n : ℕ). request_by n (head_bytes 0x8005 status ++ more)) (code_again 0x8005 status more (omega arith)) ∙ ap ReqDevlist (status_again 0x8005 status more fits)
packet (ReqImport status busid) more fits =
    let busid_again : part 8 32 (head_bytes 0x8003 status ++ (busid ++ more)) ≡ busid = part_past 8 0 32 (head_bytes 0x8003 status) (busid ++ more) (length-head 0x8003 status) ∙ take_at busid more 32 fits.1 in
    ap (λ (b : List ℕ). request_by (be_at w16 2 b) b) (append_assoc (head_bytes 0x8003 status) busid more)
    ∙ ap (λ (n : ℕ). request_by n (head_bytes 0x8003 status ++ (busid ++ more))) (code_again 0x8003 status (busid ++ more) (omega arith))
    ∙ ap (λ (s : ℕ). ReqImport s (part 8 32 (head_bytes 0x8003 status ++ (busid ++ more)))) (status_again 0x8003 status (busid ++ more) fits.0)
    ∙ ap (ReqImport status) busid_again
packet (RepDevlist status devices) more fits = absurd fits
packet (RepImport status device) more fits = absurd fits

-- ---- what is read is spelled so

abbrev IsFound : List ℕ → ℕ → Type 0
IsFound b code = (spelling (request_by code b) ≡ take (request_size_by code) b) × IsRequest (request_by code b)

found_at : (b : List ℕ) (code : ℕ) → AreBytes b → be_at w16 0 b ≡ 0x0111 → be_at w16 2 b ≡ code → request_size_by code ≤ length b → (code ≡ 0x8005) ⊎ (code ≡ 0x8003) → IsFound b code
found_at b code are version is there (inl e) =
    let enough : 8 ≤ length b = subst (λ (k : ℕ). request_size_by k ≤ length b) e there in
    subst (IsFound b) (sym e) (head_spelled b 0x8005 are enough version (is ∙ e), be_at-below_32 4 b are)
found_at b code are version is there (inr e) =
    let enough : 40 ≤ length b = subst (λ (k : ℕ). request_size_by k ≤ length b) e there in
    subst (IsFound b) (sym e) (then 8 32 b _ _ (head_spelled b 0x8003 are (omega arith) version (is ∙ e)) refl, (be_at-below_32 4 b are, length-part 8 32 b enough))

some_by : (t : Bool) → 8 ≤ cond t 8 40
some_by true = omega arith
some_by false = omega arith

found : (b : List ℕ) → AreBytes b → wrong_at requests.checks b ≡ None → request_size_by (be_at w16 2 b) ≤ length b → IsFound b (be_at w16 2 b)
found b are none there =
    let least = some_by (be_at w16 2 b == 0x8005) in
    let version : be_at w16 0 b ≡ 0x0111 = is_version _ (none_first version_check (code_check 0x8005 0x8003 ∷ []) b none refl (omega arith)) in
    let code = is_code 0x8005 0x8003 _ (none_first (code_check 0x8005 0x8003) [] b (none_later version_check (code_check 0x8005 0x8003 ∷ []) b none) refl (omega arith)) in
    found_at b (be_at w16 2 b) are version refl there code

-- ---- the law

pub requests_sound : IsSound requests
requests_sound = record {
  found = λ b are none there. let h = found b are none there in (h.0, fits_request (request_by (be_at w16 2 b) b) h.1);
  right = λ p more fits. right p more (request_fits p fits);
  size = λ p more fits. size p more (request_fits p fits);
  packet = λ p more fits. packet p more (request_fits p fits);
  some = λ b. let h = some_by (be_at w16 2 b == 0x8005) in omega arith;
  steady = head_steady 0x8005 0x8003 [] tt;
}
